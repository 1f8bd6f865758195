-- Which candidates have the runs of a thread that are passed over.
use Rattle.std.proofs.Common.{◌≡◌, ℕ, zero, suc, ◌+◌, ◌-◌, ◌<◌, ◌≤◌, List, [], ◌∷◌, ◌++◌, append-nil, map, length, take, get_or, refl, sym, ap, subst, inl, inr, arith, Bool, true, false}
use Rattle.std.proofs.lemmas.Bool.{cases_lt}
use Rattle.events.specs.Executions.{ThreadRun, empty_run}
use Rattle.listings.specs.Lists.{IsIn, sum_of}
use Rattle.candidates.specs.declared.counts.Counts.{Counts}
use Rattle.candidates.specs.Executions.{block}
use Rattle.candidates.specs.Groups.{sizes_of}
use Rattle.candidates.specs.Impossible.{IsPassed}
use Rattle.candidates.specs.Parts.{behind, IsPart}
use Rattle.candidates.proofs.Adding.{take_on}
use Rattle.candidates.proofs.Steps.{part_of_part}
use Rattle.candidates.proofs.Grouping.{tallies_of}
use Rattle.candidates.proofs.Descent.{IsDown, down_on, sizes_total, sizes_length}

-- The candidate at a number has these runs, and is one of a part.
pub record StandsIn (n : ℕ) (row part : List (List ThreadRun)) (m : ℕ) : Type 0 where
  pub runs : List ThreadRun
  pub first : ℕ
  pub member : IsIn runs part
  pub here : IsPart n row first (runs ∷ [])
  pub from : first ≤ m
  pub below : m < first + block n runs

front_part : (n : ℕ) (row : List (List ThreadRun)) (first : ℕ) (c : List ThreadRun) (part : List (List ThreadRun)) → IsPart n row first (c ∷ part) → IsPart n row first (c ∷ [])
front_part n row first c part p = record { before = p.before; after = part ++ p.after; is = p.is; begins = p.begins }

back_part : (n : ℕ) (row : List (List ThreadRun)) (first : ℕ) (c : List ThreadRun) (part : List (List ThreadRun)) → IsPart n row first (c ∷ part) → IsPart n row (first + block n c) part
back_part n row first c part p =
    let P : List (List ThreadRun) → Type 0 = λ cs. IsPart n row first (c ∷ cs) in
    let Q : ℕ → Type 0 = λ k. IsPart n row k part in
    let e : first + sum_of (block n) (c ∷ []) ≡ first + block n c = omega arith in
    subst Q e (part_of_part n row (c ∷ []) part [] first (subst P (sym (append-nil part)) p))

pub stands_in : (n : ℕ) (row : List (List ThreadRun)) (first : ℕ) (part : List (List ThreadRun)) (m : ℕ) → IsPart n row first part → first ≤ m → m < first + sum_of (block n) part → StandsIn n row part m
stands_in n row first [] m p l h = absurd (omega (arith, l, h))
stands_in n row first (c ∷ part) m p l h = elim (cases_lt m (first + block n c)) [
  | inl b ↦ record { runs = c; first = first; member = inl refl; here = front_part n row first c part p; from = l; below = b }
  | inr b ↦ (let r = stands_in n row (first + block n c) part m (back_part n row first c part p) (omega (arith, b)) (omega (arith, h)) in
      record { runs = r.runs; first = r.first; member = inr r.member; here = r.here; from = r.from; below = r.below })
]

-- The part of a sum that an offset is in.
pub record IsAt (sizes : List ℕ) (d e o : ℕ) : Type 0 where
  pub place : ℕ
  pub from : d ≤ place
  pub below : place < e
  pub left : ℕ
  pub is : o ≡ sum_of (λ k. k) (take place sizes) + left
  pub within : left < get_or sizes place 0

place_at : (sizes : List ℕ) (d e o : ℕ) → d ≤ e → e ≤ length sizes → sum_of (λ k. k) (take d sizes) ≤ o → o < sum_of (λ k. k) (take e sizes) → IsAt sizes d e o
place_at sizes d zero o h l a b = absurd (omega (arith, b))
place_at sizes d (suc e) o h l a b = elim (cases_lt o (sum_of (λ k. k) (take e sizes))) [
  | inl c ↦ elim (cases_lt e d) [
    | inl f ↦ (let same : d ≡ suc e = omega (arith, h, f) in
        let s = ap (λ k. sum_of (λ n. n) (take k sizes)) same in
        absurd (omega (arith, s, a, b)))
    | inr f ↦ (let r = place_at sizes d e o (omega (arith, f)) (omega (arith, l)) a c in
        record { place = r.place; from = r.from; below = omega (arith, r.below); left = r.left; is = r.is; within = r.within })
  ]
  | inr c ↦ elim (cases_lt e d) [
    | inl f ↦ (let same : d ≡ suc e = omega (arith, h, f) in
        let s = ap (λ k. sum_of (λ n. n) (take k sizes)) same in
        absurd (omega (arith, s, a, b)))
    | inr f ↦ (let t = take_on sizes e (omega (arith, l)) in
        let u : suc e ≡ e + 1 = omega arith in
        let s = ap (λ k. sum_of (λ n. n) (take k sizes)) u in
        record { place = e; from = omega (arith, f); below = omega arith; left = o - sum_of (λ k. k) (take e sizes); is = omega (arith, c); within = omega (arith, s, t, b, c) })
  ]
]

-- The parts before a place and at it are within the whole.
pub take_end : (sizes : List ℕ) (i : ℕ) → i < length sizes → sum_of (λ k. k) (take i sizes) + get_or sizes i 0 ≤ sum_of (λ k. k) sizes
take_end [] i l = absurd (omega (arith, l))
take_end (x ∷ xs) zero l = omega arith
take_end (x ∷ xs) (suc i) l = omega (arith, take_end xs i (omega (arith, l)))

-- The same place of the row, told by another number.
moved : (n : ℕ) (row : List (List ThreadRun)) (number rest m o : ℕ) (tally : List Counts) (chosen : List ThreadRun) (left : List (List ThreadRun)) → IsDown n row number rest tally chosen left → m ≡ (number - rest) + o → o < sum_of (block n) (behind chosen left) → IsDown n row m o tally chosen left
moved n row number rest m o tally chosen left h e l =
    let P : ℕ → Type 0 = λ k. IsPart n row k (behind chosen left) in
    let same : number - rest ≡ m - o = omega (arith, e) in
    record { tally_is = h.tally_is; room = h.room; part = subst P same h.part; below = l; order = omega (arith, e); within = h.within }

-- A choice that begins with the chosen runs and with one that is marked, at the number m.
pub record IsMarked (n : ℕ) (row : List (List ThreadRun)) (chosen runs : List ThreadRun) (more : List (List ThreadRun)) (marks : List Bool) (m : ℕ) : Type 0 where
  pub place : ℕ
  pub within : place < length runs
  pub marked : get_or marks place false ≡ true
  pub choice : StandsIn n row (behind (chosen ++ get_or runs place empty_run ∷ []) more) m

pub passed_at : (n : ℕ) (row : List (List ThreadRun)) (number rest left : ℕ) (tally : List Counts) (chosen runs : List ThreadRun) (more : List (List ThreadRun)) (sizes : List ℕ) (marks : List Bool) (d k m : ℕ) → IsDown n row number rest tally chosen (runs ∷ more) → sizes ≡ sizes_of tally (tallies_of n runs) (map (tallies_of n) more) → rest ≡ sum_of (λ k. k) (take d sizes) + left → IsPassed marks sizes d k → number ≤ m → m < number - left + k → IsMarked n row chosen runs more marks m
passed_at n row number rest left tally chosen runs more sizes marks d k m h e s p l b =
    let o : ℕ = m - (number - rest) in
    let is : m ≡ (number - rest) + o = omega (arith, l, h.order) in
    let at = place_at sizes d p.end o p.order p.within (omega (arith, s, h.order, l)) (omega (arith, s, h.order, l, b, p.sum)) in
    let total = sizes_total n row number rest tally chosen runs more sizes h e in
    let below : o < sum_of (block n) (behind chosen (runs ∷ more)) = omega (arith, total, at.is, at.within, take_end sizes at.place (omega (arith, at.below, p.within))) in
    let inside : at.place < length sizes = omega (arith, at.below, p.within) in
    let on = down_on n row m o at.left tally chosen runs more sizes at.place (moved n row number rest m o tally chosen (runs ∷ more) h is below) e inside at.within at.is in
    record {
      place = at.place;
      within = omega (arith, inside, sizes_length n tally runs (map (tallies_of n) more) sizes e);
      marked = p.marked at.place at.from at.below;
      choice = stands_in n row (m - at.left) (behind (chosen ++ get_or runs at.place empty_run ∷ []) more) m on.part (omega (arith, on.order)) (omega (arith, on.order, on.below));
    }
