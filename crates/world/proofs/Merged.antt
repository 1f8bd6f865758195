-- Results of the slices of a cut, put together.
use Rattle.std.proofs.Common.{◌≡◌, ℕ, ◌<◌, ◌≤◌, List, [], ◌∷◌, ◌++◌, length, map, true, Option, Some, None, refl, sym, ap, ◌∙◌, subst, inl, inr, arith}
use Rattle.std.specs.Prelude.{slice_get, nat_le, ◌&&◌}
use Rattle.std.proofs.lemmas.Bool.{leb-true}
use Rattle.std.proofs.lemmas.Option.{slice_get_within}
use Rattle.cat_eval.specs.Judging.{Allowed}
use Rattle.events.specs.Executions.{GraphValue}
use Rattle.listings.specs.Lists.{IsIn, NoRepeats, Lists, ForEach}
use Rattle.listings.proofs.Listings.{in_map, map_in}
use Rattle.litmus_tree.specs.Tree.{Litmus}
use Rattle.candidates.specs.Candidates.{At, IsNumberedBy}
use Rattle.candidates.proofs.Law.{numbering, sized}
use Rattle.slices.specs.Parts.{PieceResultValue, AreThose, executions_in, test_size}
use Rattle.slices.specs.Tallies.{holds, span_of, IsHeld, IsApart, IsAmong}
use Rattle.slices.specs.Tallies as tallies
use Rattle.slices.specs.Verdicts.{IsAllowed}
use Rattle.slices.specs.Works.{WorkValue}
use Rattle.slices.specs.declared.span.Span.{Span}
use Rattle.slices.proofs.Counted.{of_push}
use Rattle.slices.proofs.Merging.{held_push, push_held}
use Rattle.slices.proofs.Merging as merging
use Rattle.book.specs.Cuts.{IsCover}
use Rattle.book.specs.Step.{HasRange, has_number}
use Rattle.book.specs.declared.slice.Slice.{Slice}
use Rattle.book.proofs.Counts.{one_counted, counted_get, and_right, all_get, numbered_in, in_numbered}
use Rattle.world.specs.Merging.{AreAnswers}
use Rattle.world.proofs.Members.{joined}

-- the allowed executions that a result is about
abbrev pub IsOf : WorkValue → PieceResultValue → List GraphValue → Type 0
IsOf w r xs = AreThose (Allowed w.model.items) (executions_in w.test r.piece.from r.piece.to) xs

-- the ranges of the parts, the first one last
abbrev spans_of : List PieceResultValue → List Span
spans_of [] = []
spans_of (r ∷ rs) = spans_of rs ++ span_of r ∷ []

span_part : (parts : List PieceResultValue) (s : Span) → IsIn s (spans_of parts) → (r : PieceResultValue) × IsIn r parts × (s ≡ span_of r)
span_part [] s p = absurd p
span_part (r ∷ rs) s p = elim (of_push s (spans_of rs) (span_of r) p) [
  | inl a ↦ (let q = span_part rs s a in (q.0, inr q.1, q.2))
  | inr e ↦ (r, inl refl, e)
]

held_part : (parts : List PieceResultValue) (i : ℕ) → IsHeld (spans_of parts) i → (r : PieceResultValue) × IsIn r parts × holds (span_of r) i
held_part parts i h =
    let r = span_part parts h.0 h.1 in
    let P : Span → Type 0 = λ s. holds s i in
    (r.0, r.1, subst P r.2 h.2)

part_held : (parts : List PieceResultValue) (r : PieceResultValue) (i : ℕ) → IsIn r parts → holds (span_of r) i → IsHeld (spans_of parts) i
part_held [] r i p w = absurd p
part_held (q ∷ qs) r i (inl e) w = held_push (spans_of qs) (span_of q) i (inl (let P : PieceResultValue → Type 0 = λ s. holds (span_of s) i in subst P e w))
part_held (q ∷ qs) r i (inr p) w = held_push (spans_of qs) (span_of q) i (inr (part_held qs r i p w))

spans_within : (n : ℕ) (parts : List PieceResultValue) → ((r : PieceResultValue) → IsIn r parts → r.piece.to ≤ n) → (s : Span) → IsIn s (spans_of parts) → s.to ≤ n
spans_within n parts within s p =
    let r = span_part parts s p in
    let P : Span → Type 0 = λ q. q.to ≤ n in
    subst P (sym r.2) (within r.0 r.1)

-- each number is in one part at most

abbrev AreApart : List PieceResultValue → Type 0
AreApart [] = Unit {0}
AreApart (r ∷ rs) = IsApart (span_of r) (spans_of rs) × AreApart rs

law_of : (t : Litmus) → IsNumberedBy t (test_size t) (At t)
law_of t = numbering t (test_size t) (sized t)

parts_listed : (w : WorkValue) (parts : List PieceResultValue) (xss : List (List GraphValue)) → ((r : PieceResultValue) → IsIn r parts → r.piece.to ≤ test_size w.test) → AreApart parts → ForEach (IsOf w) parts xss → Lists (IsAmong w.test w.model.items (spans_of parts)) (joined xss)
parts_listed w [] [] within apart h = record { once = tt; only = λ x p. absurd p; all = λ x p. absurd p.0.1.1 }
parts_listed w [] (xs ∷ xss) within apart h = absurd h
parts_listed w (r ∷ rs) [] within apart h = absurd h
parts_listed w (r ∷ rs) (xs ∷ xss) within apart h =
    let inside : (q : PieceResultValue) → IsIn q rs → q.piece.to ≤ test_size w.test = λ q p. within q (inr p) in
    merging.merged_listing w.test w.model.items (test_size w.test) (spans_of rs) (span_of r) (joined xss) xs (law_of w.test) (within r (inl refl))
    (spans_within (test_size w.test) rs inside) apart.0 (parts_listed w rs xss inside apart.1 h.1) h.0

-- the slice of a range
range_of : (o : Option Slice) (from to : ℕ) → HasRange o from to → (x : Slice) × (o ≡ Some x) × (x.from ≡ from) × (x.to ≡ to)
range_of None from to h = absurd h
range_of (Some x) from to h = (x, refl, h.0, h.1)

answer_within : (w : WorkValue) (slices : List Slice) (parts : List PieceResultValue) → IsCover (test_size w.test) slices → AreAnswers w slices parts → (r : PieceResultValue) → IsIn r parts → r.piece.to ≤ test_size w.test
answer_within w slices parts cover answers r p =
    let found = range_of (slice_get slices r.piece.slice) r.piece.from r.piece.to (answers.ranges r p) in
    let fits = all_get (λ x. nat_le x.from x.to && nat_le x.to (test_size w.test)) slices r.piece.slice found.0 cover.within found.1 in
    let le = leb-true found.0.to (test_size w.test) (and_right (nat_le found.0.from found.0.to) _ fits) in
    omega (arith, le, found.3)

-- a number lies in the range of one slice
same_slice : (n : ℕ) (slices : List Slice) → IsCover n slices → (a b : ℕ) (r q : Span) (i : ℕ) → i < n → HasRange (slice_get slices a) r.from r.to → HasRange (slice_get slices b) q.from q.to → holds r i → holds q i → a ≡ b
same_slice n slices cover a b r q i l ha hb wr wq =
    let x = range_of (slice_get slices a) r.from r.to ha in
    let y = range_of (slice_get slices b) q.from q.to hb in
    let once = cover.once i l in
    one_counted (has_number i) slices a b x.0 y.0 (omega (arith, once)) x.1 y.1
    (numbered_in x.0 i (omega (arith, x.2, wr.0)) (omega (arith, x.3, wr.1)))
    (numbered_in y.0 i (omega (arith, y.2, wq.0)) (omega (arith, y.3, wq.1)))

abbrev HaveRanges : List Slice → List PieceResultValue → Type 0
HaveRanges slices parts = (r : PieceResultValue) → IsIn r parts → HasRange (slice_get slices r.piece.slice) r.piece.from r.piece.to

answers_apart : (n : ℕ) (slices : List Slice) (parts : List PieceResultValue) → IsCover n slices → NoRepeats (map (λ r. r.piece.slice) parts) → HaveRanges slices parts → ((r : PieceResultValue) → IsIn r parts → r.piece.to ≤ n) → AreApart parts
answers_apart n slices [] cover once ranges within = tt
answers_apart n slices (r ∷ rs) cover once ranges within = (
  λ i wr held. (let q = held_part rs i held in
      let le = within r (inl refl) in
      let same : r.piece.slice ≡ q.0.piece.slice = same_slice n slices cover r.piece.slice q.0.piece.slice (span_of r) (span_of q.0) i (omega (arith, le, wr.1)) (ranges r (inl refl)) (ranges q.0 (inr q.1)) wr q.2 in
      let P : ℕ → Type 0 = λ k. IsIn k (map (λ (s : PieceResultValue). s.piece.slice) rs) in
      once.0 (subst P (sym same) (map_in (λ (s : PieceResultValue). s.piece.slice) rs q.0 q.1))),
  answers_apart n slices rs cover once.1 (λ q p. ranges q (inr p)) (λ q p. within q (inr p)),
)

answers_cover : (w : WorkValue) (slices : List Slice) (parts : List PieceResultValue) → IsCover (test_size w.test) slices → AreAnswers w slices parts → tallies.IsCover (test_size w.test) (spans_of parts)
answers_cover w slices parts cover answers i l =
    let once = cover.once i l in
    let at = counted_get (has_number i) slices (omega (arith, once)) in
    let short : at.0 < length slices = slice_get_within slices at.0 at.1 at.2 in
    let r = in_map (λ (s : PieceResultValue). s.piece.slice) parts at.0 (answers.each.all at.0 short) in
    let x = range_of (slice_get slices r.0.piece.slice) r.0.piece.from r.0.piece.to (answers.ranges r.0 r.1) in
    let same : Some x.0 ≡ Some at.1 = sym x.1 ∙ ap (slice_get slices) r.2 ∙ at.2 in
    let is : x.0 ≡ at.1 = cc in
    let S : Slice → Type 0 = λ s. has_number i s ≡ true in
    let in_range = in_numbered x.0 i (subst S (sym is) at.3) in
    part_held parts r.0 i r.1 (omega (arith, x.2, in_range.0), omega (arith, x.3, in_range.1))

-- The executions of right results for all slices, one list behind the other, are those that the model allows, each once.
pub answers_listed : (w : WorkValue) (slices : List Slice) (parts : List PieceResultValue) (xss : List (List GraphValue)) → IsCover (test_size w.test) slices → AreAnswers w slices parts → ForEach (IsOf w) parts xss → Lists (IsAllowed w.test w.model.items) (joined xss)
answers_listed w slices parts xss cover answers h =
    let within = answer_within w slices parts cover answers in
    merging.whole_listing w.test w.model.items (test_size w.test) (spans_of parts) (joined xss) (law_of w.test) (spans_within (test_size w.test) parts within) (answers_cover w slices parts cover answers)
    (parts_listed w parts xss within (answers_apart (test_size w.test) slices parts cover answers.each.once answers.ranges within) h)
