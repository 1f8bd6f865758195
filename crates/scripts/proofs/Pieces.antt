-- Looking for a piece, from the last receipt back, and pass by pass.
use Rattle.std.proofs.Common.{◌≡◌, ◌∙◌, ◌<◌, ◌+◌, ◌++◌, ℕ, suc, List, [], ◌∷◌, length, drop, get_or, inl, inr, sym, ap, subst, arith, append-nil, append_assoc}
use Rattle.std.specs.List.{Contains, flat_map}
use Rattle.std.proofs.Math.Seq.{drop-cons}
use Rattle.std.proofs.lemmas.List.Elements.{All-append, All-cons, All-nil, Contains-append_left, Contains-append_right, Contains-push}
use Rattle.journal.specs.Lines.{Line}
use Rattle.journal.specs.declared.records.Reply.TheVariants.{Piece}
use Rattle.slices.specs.Parts.{PieceValue}
use Rattle.sessions.specs.Views.{PassView}
use Rattle.scripts.specs.Answers.{IsGiven}
use Rattle.scripts.specs.Passes.{NoneGives, SomeGives}
use Rattle.scripts.specs.Serving.{GivesNone, GivesPiece}

-- entries of which some front is left
pub record IsFront (entries all : List Line) : Type 0 where
  pub rest : List Line
  pub split : all ≡ entries ++ rest

pub whole_front : (all : List Line) → IsFront all all
whole_front all = record { rest = []; split = sym (append-nil all) }

pub shorter : (all entries before : List Line) (last : Line) → entries ≡ before ++ last ∷ [] → IsFront entries all → IsFront before all
shorter all entries before last split h =
    record { rest = last ∷ h.rest; split = h.split ∙ ap (λ l. l ++ h.rest) split ∙ append_assoc before (last ∷ []) h.rest }

-- none of the entries gives the piece, if the last doesn't and none before it
pub none_of_all : (claim : ℕ) (entries before : List Line) (last : Line) → entries ≡ before ++ last ∷ [] → ¬ GivesPiece claim last → GivesNone claim before → GivesNone claim entries
none_of_all claim entries before last split this others =
    subst (GivesNone claim) (sym split)
    (All-append (λ line. ¬ GivesPiece claim line) before (last ∷ []) others (All-cons (λ line. ¬ GivesPiece claim line) last [] this (All-nil (λ line. ¬ GivesPiece claim line))))

pub none_of_none : (claim : ℕ) (entries : List Line) → length entries ≡ 0 → GivesNone claim entries
none_of_none claim entries is_empty k d less = absurd (let no : ⊥ = omega (arith, less, is_empty) in no)

pub given : (claim : ℕ) (piece : PieceValue) (all entries before : List Line) (last : Line) → entries ≡ before ++ last ∷ [] → IsFront entries all → piece.claim ≡ claim → last.reply ≡ Piece piece
    → IsGiven claim piece all
given claim piece all entries before last split h same reply =
    let here : Contains entries last = subst (λ l. Contains l last) (sym split) (Contains-push before last) in
    (same, (last, subst (λ l. Contains l last) (sym h.split) (Contains-append_left entries h.rest last here), reply))

abbrev receipts_in : List PassView → List Line
receipts_in ps = flat_map (λ p. p.receipts) ps

-- no pass gives it, so none of all receipts
pub none_in_all : (claim : ℕ) (ps : List PassView) → NoneGives claim ps → GivesNone claim (receipts_in ps)
none_in_all claim [] h = All-nil (λ line. ¬ GivesPiece claim line)
none_in_all claim (p ∷ ps) h = All-append (λ line. ¬ GivesPiece claim line) p.receipts (receipts_in ps) h.0 (none_in_all claim ps h.1)

-- a pass gives it, so one of all receipts
pub some_in_all : (claim : ℕ) (piece : PieceValue) (ps : List PassView) → SomeGives claim ps piece → IsGiven claim piece (receipts_in ps)
some_in_all claim piece [] h = absurd h
some_in_all claim piece (p ∷ ps) (inl g) = (g.0, (g.1.0, Contains-append_left p.receipts (receipts_in ps) g.1.0 g.1.1, g.1.2))
some_in_all claim piece (p ∷ ps) (inr h) =
    let g = some_in_all claim piece ps h in
    (g.0, (g.1.0, Contains-append_right p.receipts (receipts_in ps) g.1.0 g.1.1, g.1.2))

-- one pass more that doesn't give it
pub pass_on : (claim i : ℕ) (ps : List PassView) (p : PassView) → p ≡ get_or ps i p → i < length ps → GivesNone claim p.receipts
    → (NoneGives claim (drop i ps) → NoneGives claim ps) × ((piece : PieceValue) → SomeGives claim (drop i ps) piece → SomeGives claim ps piece)
    → (NoneGives claim (drop (i + 1) ps) → NoneGives claim ps) × ((piece : PieceValue) → SomeGives claim (drop (i + 1) ps) piece → SomeGives claim ps piece)
pass_on claim i ps p is lt this so_far =
    let split : drop i ps ≡ p ∷ drop (i + 1) ps =
    drop-cons ps i p lt ∙ ap (λ (n : ℕ). get_or ps i p ∷ drop n ps) (let e : suc i ≡ i + 1 = omega arith in e) ∙ ap (λ (x : PassView). x ∷ drop (i + 1) ps) (sym is)
    in (
      λ rest. so_far.0 (subst (NoneGives claim) (sym split) (this, rest)),
      λ piece some. so_far.1 piece (subst (λ l. SomeGives claim l piece) (sym split) (inr some)),
    )
