-- A cut of a job's numbers covers each once.
use Rattle.std.proofs.Common.{◌≡◌, ℕ, zero, suc, ◌+◌, ◌-◌, ◌<◌, ◌≤◌, ◌&&◌, not, List, [], ◌∷◌, ◌++◌, Bool, true, false, refl, sym, ap, ◌∙◌, subst, arith, length-append, inl, inr}
use Rattle.std.specs.Prelude.{count_by, nat_le, nat_lt}
use Rattle.std.proofs.lemmas.Bool.{le-ltb, le-leb, lt-leb, cases_lt}
use Rattle.std.proofs.lemmas.List.Folds.{list_all-append}
use Rattle.slices.specs.Tallies.{cut, CutsInOrder}
use Rattle.book.specs.Cuts.{slice_of, IsBegun}
use Rattle.book.specs.Step.{IsCut, has_number}
use Rattle.book.specs.declared.slice.Slice.{Slice}
use Rattle.book.proofs.Counts.{weight, count-cons, count-append, numbered_in}

pub none_begun : (size total : ℕ) → CutsInOrder → 1 ≤ total → IsBegun size total 0 []
none_begun size total law h =
    let first = (law size total h).first in
    record {
      long = refl;
      fresh = refl;
      within = refl;
      below = λ i l. absurd (omega (arith, l, first));
      beyond = λ i l. refl;
    }

rises : (size total : ℕ) → CutsInOrder → 1 ≤ total → (m k : ℕ) → cut size total m ≤ cut size total (k + m)
rises size total law h m zero =
    let place : 0 + m ≡ m = omega arith in
    let P : ℕ → Type 0 = λ n. cut size total m ≤ cut size total n in
    subst P (sym place) (omega arith)
rises size total law h m (suc k) =
    let before = rises size total law h m k in
    let step = (law size total h).rising (k + m) in
    let place : suc k + m ≡ suc (k + m) = omega arith in
    let P : ℕ → Type 0 = λ n. cut size total m ≤ cut size total n in
    subst P (sym place) (omega (arith, before, step))

-- where a slice begins and ends
pub ends : (size total m : ℕ) → CutsInOrder → m < total → (cut size total m ≤ cut size total (suc m)) × (cut size total (suc m) ≤ size)
ends size total m law h =
    let some : 1 ≤ total = omega (arith, h) in
    let order = law size total some in
    let gap : total ≡ (total - suc m) + suc m = omega (arith, h) in
    let up : cut size total (suc m) ≤ cut size total ((total - suc m) + suc m) = rises size total law some (suc m) (total - suc m) in
    let to_end : cut size total (suc m) ≤ cut size total total = let P : ℕ → Type 0 = λ k. cut size total (suc m) ≤ cut size total k in subst P (sym gap) up in
    (order.rising m, omega (arith, to_end, order.last))

alone : (i : ℕ) (x : Slice) → count_by (has_number i) (x ∷ []) ≡ weight (has_number i x)
alone i x = let none : count_by (has_number i) [] ≡ 0 = refl in omega (arith, count-cons (has_number i) x [], none)

count_more : (i : ℕ) (xs : List Slice) (x : Slice) → count_by (has_number i) (xs ++ x ∷ []) ≡ count_by (has_number i) xs + weight (has_number i x)
count_more i xs x = count-append (has_number i) xs (x ∷ []) ∙ ap (λ n. count_by (has_number i) xs + n) (alone i x)

counts_in : (i : ℕ) (x : Slice) → x.from ≤ i → i < x.to → weight (has_number i x) ≡ 1
counts_in i x f t = ap weight (numbered_in x i f t)

and_false : (b : Bool) → (b && false) ≡ false
and_false true = refl
and_false false = refl

counts_after : (i : ℕ) (x : Slice) → x.to ≤ i → weight (has_number i x) ≡ 0
counts_after i x t = let no : has_number i x ≡ false = ap (λ b. nat_le x.from i && b) (le-ltb i x.to t) ∙ and_false (nat_le x.from i) in ap weight no

counts_before : (i : ℕ) (x : Slice) → i < x.from → weight (has_number i x) ≡ 0
counts_before i x f = let no : has_number i x ≡ false = ap (λ b. b && nat_lt i x.to) (lt-leb x.from i f) in ap weight no

pub one_more : (size total m : ℕ) (xs : List Slice) → CutsInOrder → m < total → IsBegun size total m xs → IsBegun size total (m + 1) (xs ++ slice_of size total m ∷ [])
one_more size total m xs law h begun =
    let x = slice_of size total m in
    let e = ends size total m law h in
    let next : m + 1 ≡ suc m = omega arith in
    rw next (record {
      long = length-append xs (x ∷ []) ∙ omega (arith, begun.long);
      fresh = list_all-append (λ y. not y.returned) xs (x ∷ []) ∙ ap (λ b. b && true) begun.fresh;
      within = list_all-append (λ y. nat_le y.from y.to && nat_le y.to size) xs (x ∷ []) ∙ rw (begun.within, le-leb x.from x.to e.0, le-leb x.to size e.1) refl;
      below = λ i l. elim (cases_lt i x.from) [
        | inl k ↦ count_more i xs x ∙ omega (arith, begun.below i k, counts_before i x k)
        | inr k ↦ count_more i xs x ∙ omega (arith, begun.beyond i k, counts_in i x k l)
      ];
      beyond = λ i l. count_more i xs x ∙ omega (arith, begun.beyond i (omega (arith, e.0, l)), counts_after i x l);
    })

pub whole : (size total : ℕ) (xs : List Slice) → CutsInOrder → 1 ≤ total → total ≤ 256 → IsBegun size total total xs → IsCut size xs
whole size total xs law some few begun = record {
  some = omega (arith, begun.long, some);
  few = omega (arith, begun.long, few);
  fresh = begun.fresh;
  within = begun.within;
  once = λ i h. begun.below i (omega (arith, h, (law size total some).last));
}
