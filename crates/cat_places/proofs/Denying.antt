-- Which use of its name breaks the rule of 66.
use Rattle.std.proofs.Common.{◌≡◌, ℕ, suc, ◌+◌, ◌-◌, ◌<◌, ◌≤◌, List, [], ◌∷◌, ◌++◌, Bool, true, false, length, take, drop, map, get_or, refl, ap, sym, subst, ◌∙◌, arith, append_assoc, append-nil, inl, inr}
use Rattle.std.specs.Prelude.{Option, Some, None, All, option_map, slice_get, replicate, if◌then◌else◌}
use Rattle.std.proofs.lemmas.Bool.{cases_lt}
use Rattle.std.proofs.lemmas.List.{at_drop_all, length-append, length-take-le, length-drop, length-replicate, length-map, map-append}
use Rattle.std.proofs.lemmas.List.Elements.{All-cons, All-head, All-tail, All-nil}
use Rattle.std.proofs.lemmas.Option.{slice_get-map, slice_get-get_or, slice_get_within}
use Rattle.std.proofs.Math.Seq.{drop-cons}
use Rattle.wb_text.specs.Tokens.{IsWithin}
use Rattle.wb_text.specs.declared.token.Token.{Token}
use Rattle.cat_tree.specs.declared.tree.Binding.{Binding}
use Rattle.cat_tree.specs.declared.tree.Item.{Item}
use Rattle.cat_tree.specs.Tree.{Word, File, Clause, bound_of, clause_of}
use Rattle.cat_model.specs.Faults.{IsCause}
use Rattle.cat_model.specs.declared.fault.ModelFault.{ModelFault}
use Rattle.places.specs.Spellings.{spelling}
use Rattle.cat_places.specs.Blame.{alone, items_put, main}
use Rattle.cat_places.specs.Denied.{blanked, blanked_but, with_only, uses_of_all, IsRefused}
use Rattle.cat_places.specs.Own.{IsFileOf, is_used, behind, uses, uses_from}
use Rattle.cat_places.specs.declared.item.At.{At}
use Rattle.cat_places.specs.declared.walk.Visit.{Visit}
use Rattle.cat_places.proofs.Walking.{take_short}

-- Uses are tokens of the item.

within_if : (n : ℕ) (b : Bool) (t : Token) (ts : List Token) → IsWithin n t → All (IsWithin n) ts → All (IsWithin n) (if b then t ∷ ts else ts)
within_if n true t ts h all = All-cons (IsWithin n) t ts h all
within_if n false t ts h all = all

pub uses_within : (n : ℕ) (text : List ℕ) (x : Word) (a : At) (ts : List Token) → All (IsWithin n) ts → All (IsWithin n) (uses_from text x a ts)
uses_within n text x a [] h = All-nil (IsWithin n)
uses_within n text x a (t ∷ ts) h =
    within_if n (is_used x a (spelling text t)) t (uses_from text x (behind x a (spelling text t)) ts) (All-head (IsWithin n) t ts h) (uses_within n text x (behind x a (spelling text t)) ts (All-tail (IsWithin n) t ts h))

-- all tokens have been looked at
pub all_used : (text : List ℕ) (x : Word) (a : At) (found all ts : List Token) (i : ℕ) → length ts ≤ i → found ++ uses_from text x a (drop i ts) ≡ all → found ≡ all
all_used text x a found all ts i h e = sym (append-nil found) ∙ ap (λ l. found ++ l) (sym (at_drop_all (uses_from text x a) ts i h)) ∙ e

used_or : (b : Bool) (old rest : List Token) (t : Token) → (if b then old ++ t ∷ [] else old) ++ rest ≡ old ++ (if b then t ∷ rest else rest)
used_or true old rest t = append_assoc old (t ∷ []) rest
used_or false old rest t = refl

-- one token more, which is a use or isn't
pub used_more : (text : List ℕ) (x : Word) (a b : At) (old new whole ts us : List Token) (t : Token) → ts ≡ t ∷ us → b ≡ behind x a (spelling text t) → new ≡ (if is_used x a (spelling text t) then old ++ t ∷ [] else old) →
    old ++ uses_from text x a ts ≡ whole → new ++ uses_from text x b us ≡ whole
used_more text x a b old new whole ts us t here e n before =
    let rest : List Token = uses_from text x (behind x a (spelling text t)) us in
    ap (λ c. new ++ uses_from text x c us) e ∙ ap (λ l. l ++ rest) n ∙ used_or (is_used x a (spelling text t)) old rest t ∙ sym (ap (λ l. old ++ uses_from text x a l) here) ∙ before

-- the uses of one name more
pub group_more : (text : List ℕ) (own : List Token) (bs : List Binding) (i : ℕ) (b : Binding) (old more new whole : List Token) → i < length bs → b ≡ get_or bs i b → new ≡ old ++ more → more ≡ uses text b.name own →
    old ++ uses_of_all text own (map bound_of (drop i bs)) ≡ whole → new ++ uses_of_all text own (map bound_of (drop (i + 1) bs)) ≡ whole
group_more text own bs i b old more new whole h at n m before =
    let one : i + 1 ≡ suc i = omega arith in
    let rest : List Token = uses_of_all text own (map bound_of (drop (suc i) bs)) in
    let here : drop i bs ≡ b ∷ drop (suc i) bs = drop-cons bs i b h ∙ ap (λ v. v ∷ drop (suc i) bs) (sym at) in
    ap (λ l. new ++ uses_of_all text own (map bound_of (drop l bs))) one ∙ ap (λ l. l ++ rest) (n ∙ ap (λ l. old ++ l) m) ∙ append_assoc old (uses text b.name own) rest ∙
    sym (ap (λ l. old ++ uses_of_all text own (map bound_of l)) here) ∙ before

-- A text with `0` in the place of a token.

pub blanked_is : (text front pushed filled rest made : List ℕ) (t : Token) (n : ℕ) → IsWithin (length text) t → front ≡ take t.from text → pushed ≡ front ++ 48 ∷ [] → n ≡ t.from + 1 →
    filled ≡ take t.to pushed ++ replicate (t.to - n) 32 → rest ≡ drop t.to text → made ≡ filled ++ rest → made ≡ blanked text t
blanked_is text front pushed filled rest made t n inside f p e g r m =
    let low : length front ≡ t.from = ap length f ∙ length-take-le t.from text (omega (arith, inside.nonempty, inside.inside)) in
    let long : length pushed ≤ t.to = omega (arith, ap length p, length-append front (48 ∷ []), low, inside.nonempty) in
    let blanks : List ℕ = replicate (t.to - (t.from + 1)) 32 in
    let whole : take t.to pushed ++ replicate (t.to - n) 32 ≡ pushed ++ blanks = ap (λ l. l ++ replicate (t.to - n) 32) (take_short t.to pushed long) ∙ ap (λ (i : ℕ). pushed ++ replicate (t.to - i) 32) e in
    m ∙ ap (λ l. l ++ rest) (g ∙ whole ∙ ap (λ l. l ++ blanks) (p ∙ ap (λ l. l ++ 48 ∷ []) f)) ∙ ap (λ l. ((take t.from text ++ 48 ∷ []) ++ blanks) ++ l) r ∙
    append_assoc (take t.from text ++ 48 ∷ []) blanks (drop t.to text) ∙ append_assoc (take t.from text) (48 ∷ []) (blanks ++ drop t.to text)

pub length_blanked : (text : List ℕ) (t : Token) → IsWithin (length text) t → length (blanked text t) ≡ length text
length_blanked text t inside =
    let rest : List ℕ = replicate (t.to - (t.from + 1)) 32 ++ drop t.to text in
    let front = length-append (take t.from text) (48 ∷ rest) in
    let low = length-take-le t.from text (omega (arith, inside.nonempty, inside.inside)) in
    let inner : length (48 ∷ rest) ≡ suc (length rest) = refl in
    let behind_it = length-append (replicate (t.to - (t.from + 1)) 32) (drop t.to text) in
    omega (arith, front, low, inner, behind_it, length-replicate {A = ℕ} (t.to - (t.from + 1)) 32, length-drop t.to text, inside.nonempty, inside.inside)

-- one token more, in whose place `0` stands or not
pub only_more : (old new whole : List ℕ) (us vs : List Token) (u t : Token) → us ≡ u ∷ vs → new ≡ blanked_but t old u → with_only old us t ≡ whole → with_only new vs t ≡ whole
only_more old new whole us vs u t here n before = ap (λ l. with_only l vs t) n ∙ sym (ap (λ l. with_only old l t) here) ∙ before

-- Whether an item breaks a rule, as a text has it.

pub put_last : (old new : List Item) (i : Item) (is : List Clause) (k : Clause) → new ≡ old ++ i ∷ [] → map clause_of old ≡ is → clause_of i ≡ k → map clause_of new ≡ is ++ k ∷ []
put_last old new i is k e f g = ap (map clause_of) e ∙ map-append clause_of old (i ∷ []) ∙ ap (λ l. l ++ clause_of i ∷ []) f ∙ ap (λ c. is ++ c ∷ []) g

some_once : {A : Type 0} (x y : A) → Some x ≡ Some y → x ≡ y
some_once x y e = cc

-- nor at one place more
pub none_more : {A : Type 0} (P : A → Type 0) (xs : List A) (n : ℕ) (x : A) → slice_get xs n ≡ Some x → ¬ P x → ((j : ℕ) (y : A) → j < n → slice_get xs j ≡ Some y → ¬ P y) → (j : ℕ) (y : A) → j < n + 1 → slice_get xs j ≡ Some y → ¬ P y
none_more P xs n x at not none j y low here p = elim (cases_lt j n) [ inl h ↦ none j y h here p | inr h ↦ not (subst P (some_once y x (sym here ∙ ap (slice_get xs) (omega (arith, low, h)) ∙ at)) p) ]

pub not_refused : (fs : List File) (before : List Visit) (k : ℕ) (text : List ℕ) (o : Option File) (g : File) (items : List Item) (i : Item) → o ≡ Some g → IsFileOf text o → map clause_of items ≡ g.items →
    k < length items → i ≡ get_or items k i → ((e : ModelFault) → ¬ IsCause e (alone (items_put fs before ++ clause_of i ∷ [])) main) → ¬ IsRefused fs before k text
not_refused fs before k text o g items i e is m h at none r =
    let same : r.file ≡ g = (subst (IsFileOf text) e is).1 r.file r.reads in
    let one : slice_get (map clause_of items) k ≡ Some (clause_of i) = slice_get-map clause_of items k ∙ ap (option_map clause_of) (slice_get-get_or items k i h ∙ ap Some (sym at)) in
    let other : slice_get (map clause_of items) k ≡ Some r.item = ap (λ l. slice_get l k) (m ∙ ap (λ (f : File). f.items) (sym same)) ∙ r.at in
    let item : r.item ≡ clause_of i = some_once r.item (clause_of i) (sym other ∙ one) in
    none r.fault (subst (λ c. IsCause r.fault (alone (items_put fs before ++ c ∷ [])) main) item r.broken)

pub refused : (fs : List File) (before : List Visit) (k : ℕ) (text : List ℕ) (o : Option File) (g : File) (items : List Item) (i : Item) → o ≡ Some g → IsFileOf text o → map clause_of items ≡ g.items →
    k < length items → i ≡ get_or items k i → ((e : ModelFault) × IsCause e (alone (items_put fs before ++ clause_of i ∷ [])) main) → IsRefused fs before k text
refused fs before k text o g items i e is m h at broken = record {
  file = g;
  reads = (subst (IsFileOf text) e is).0;
  item = clause_of i;
  at = ap (λ l. slice_get l k) (sym m) ∙ slice_get-map clause_of items k ∙ ap (option_map clause_of) (slice_get-get_or items k i h ∙ ap Some (sym at));
  fault = broken.0;
  broken = broken.1;
}

pub no_item : (fs : List File) (before : List Visit) (k : ℕ) (text : List ℕ) (o : Option File) (g : File) (items : List Item) → o ≡ Some g → IsFileOf text o → map clause_of items ≡ g.items → length items ≤ k → ¬ IsRefused fs before k text
no_item fs before k text o g items e is m past r =
    let same : r.file ≡ g = (subst (IsFileOf text) e is).1 r.file r.reads in
    let within : k < length r.file.items = slice_get_within r.file.items k r.item r.at in
    omega (arith, past, within, ap (λ (f : File). length f.items) same, ap length m, length-map items clause_of)

pub no_file : (fs : List File) (before : List Visit) (k : ℕ) (text : List ℕ) (o : Option File) → o ≡ None → IsFileOf text o → ¬ IsRefused fs before k text
no_file fs before k text o e is r = subst (IsFileOf text) e is r.file r.reads
