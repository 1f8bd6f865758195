-- What results say together.
use Rattle.std.proofs.Common.{◌≡◌, ℕ, ◌+◌, ◌<◌, ◌≤◌, ◌^◌, List, [], ◌∷◌, ◌++◌, length, take, ◌-◌, not, refl, sym, ap, ◌∙◌, subst, arith}
use Rattle.std.proofs.lemmas.List.{length-append}
use Rattle.cat_tree.specs.Tree.{Clause}
use Rattle.litmus_tree.specs.Tree.{Litmus}
use Rattle.slices.specs.declared.span.Span.{Span}
use Rattle.slices.specs.Finals.{has}
use Rattle.slices.specs.Findings.{FindingValue}
use Rattle.slices.specs.Parts.{IsAdmitted, IsPart, IsRange, PieceResultValue, PieceValue, test_size}
use Rattle.slices.specs.Sums.{AddsUp}
use Rattle.slices.specs.Tallies.{IsApart, IsCover, IsTally, TallyValue, span_of}
use Rattle.slices.specs.Verdicts.{Tells, IsVerdict}
use Rattle.slices.specs.Works.{WorkValue}
use Rattle.slices.proofs.Members.{count_most}
use Rattle.slices.proofs.Merging.{law_of, merged_listing, whole_listing, few_listed, within_push}

-- nothing is told of no range
pub tally_none : (t : Litmus) (items : List Clause) (spans : List Span) (v : FindingValue) → spans ≡ [] → Tells t items [] v → IsTally t items spans v
tally_none t items spans v none told =
    let T : List Span → Type 0 = λ l. IsTally t items l v in
    subst T (sym none) (record {
      within = λ r q. absurd q;
      executions = [];
      each = record { once = tt; only = λ x q. absurd q; all = λ x q. absurd q.0.1.1 };
      told = told;
    })

few_together : (t : Litmus) (items : List Clause) (spans : List Span) (s : Span) (f v : FindingValue) → IsAdmitted t → s.to ≤ test_size t → IsApart s spans → IsTally t items spans f → IsPart t items s.from s.to v → (f.positive + v.positive < 2 ^ 64) × (f.negative + v.negative < 2 ^ 64)
few_together t items spans s f v admitted le apart h part =
    let xs = h.executions in
    let ys = part.0 in
    let together = merged_listing t items (test_size t) spans s xs ys (law_of t) le h.within apart h.each part.1 in
    let most = few_listed t items (test_size t) (spans ++ s ∷ []) (ys ++ xs) (within_push (test_size t) spans s le h.within) together in
    let all = length-append ys xs in
    let few = admitted.few in (
      omega (arith, h.told.positive, part.2.positive, count_most (has t f.places) xs, count_most (has t v.places) ys, all, most, few),
      omega (arith, h.told.negative, part.2.negative, count_most (λ x. not (has t f.places x)) xs, count_most (λ x. not (has t v.places x)) ys, all, most, few),
    )

pub tally_verdict : (t : Litmus) (items : List Clause) (spans : List Span) (v : FindingValue) → IsCover (test_size t) spans → IsTally t items spans v → IsVerdict t items v
tally_verdict t items spans v cover h = (h.executions, whole_listing t items (test_size t) spans h.executions (law_of t) h.within cover h.each, h.told)

-- what a merge knows of the result

abbrev pub at_piece : PieceValue → Span
at_piece p = record { from = p.from; to = p.to }

pub record PartOf (w : WorkValue) (spans : List Span) (s : Span) (v : FindingValue) : Type 0 where
  pub admitted : IsAdmitted w.test
  pub le : s.to ≤ test_size w.test
  pub apart : IsApart s spans
  pub part : IsPart w.test w.model.items s.from s.to v

pub part_of : (w u : WorkValue) (now : TallyValue) (spans : List Span) (s : Span) (r : PieceResultValue) (p : PieceValue) (v : FindingValue) → u ≡ w → IsAdmitted u.test → now.work ≡ w → now.spans ≡ spans → r.piece.work ≡ now.work → IsApart (span_of r) now.spans → p ≡ r.piece
    → IsRange p.work.test p.from p.to → IsPart r.piece.work.test r.piece.work.model.items r.piece.from r.piece.to r.found → v ≡ r.found → s ≡ span_of r → PartOf w spans s v
part_of w u now spans s r p v eu admitted ew es er apart ep range right ev esp =
    let A : WorkValue → Type 0 = λ z. IsAdmitted z.test in
    let rp : r.piece.work ≡ w = er ∙ ew in
    let R : PieceValue → Type 0 = λ z. IsRange z.work.test z.from z.to in
    let inside : IsRange r.piece.work.test r.piece.from r.piece.to = subst R ep range in
    let L : WorkValue → Type 0 = λ z. r.piece.to ≤ test_size z.test in
    let S : Span → Type 0 = λ z. z.to ≤ test_size w.test in
    let G : List Span → Type 0 = λ z. IsApart (span_of r) z in
    let H : Span → Type 0 = λ z. IsApart z spans in
    let Q : WorkValue → Type 0 = λ z. IsPart z.test z.model.items r.piece.from r.piece.to r.found in
    let K : FindingValue → Type 0 = λ z. IsPart w.test w.model.items r.piece.from r.piece.to z in
    let J : Span → Type 0 = λ z. IsPart w.test w.model.items z.from z.to v in
    record {
      admitted = subst A eu admitted;
      le = subst S (sym esp) (subst L rp inside.within);
      apart = subst H (sym esp) (subst G es apart);
      part = subst J (sym esp) (subst K (sym ev) (subst Q rp right));
    }

pub part_few : (w : WorkValue) (spans : List Span) (s : Span) (v f : FindingValue) → PartOf w spans s v → IsTally w.test w.model.items spans f → (f.positive + v.positive < 2 ^ 64) × (f.negative + v.negative < 2 ^ 64)
part_few w spans s v f h tally = few_together w.test w.model.items spans s f v h.admitted h.le h.apart tally h.part

pub part_merged : (w : WorkValue) (spans new : List Span) (s : Span) (v old sum : FindingValue) → PartOf w spans s v → IsTally w.test w.model.items spans old → AddsUp old v sum → new ≡ spans ++ s ∷ [] → IsTally w.test w.model.items new sum
part_merged w spans new s v old sum h tally added pushed =
    let t : Litmus = w.test in
    let items : List Clause = w.model.items in
    let T : List Span → Type 0 = λ l. IsTally t items l sum in
    subst T (sym pushed) (record {
      within = within_push (test_size t) spans s h.le tally.within;
      executions = h.part.0 ++ tally.executions;
      each = merged_listing t items (test_size t) spans s tally.executions h.part.0 (law_of t) h.le tally.within h.apart tally.each h.part.1;
      told = added t items tally.executions h.part.0 tally.told h.part.2;
    })

-- the last range is taken back

take_front : (xs : List Span) (x : Span) → take (length xs) (xs ++ x ∷ []) ≡ xs
take_front [] x = refl
take_front (y ∷ ys) x = ap (λ l. y ∷ l) (take_front ys x)

pub taken_back : (n : ℕ) (xs old new : List Span) (x : Span) → old ≡ xs ++ x ∷ [] → new ≡ take (n - 1) old → n ≡ length xs + 1 → new ≡ xs
taken_back n xs old new x pushed popped len =
    let less : n - 1 ≡ length xs = omega (arith, len) in
    popped ∙ ap (take (n - 1)) pushed ∙ ap (λ k. take k (xs ++ x ∷ [])) less ∙ take_front xs x
