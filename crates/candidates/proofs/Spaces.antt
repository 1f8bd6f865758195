-- The runs of all threads: when there are too many, and how large they are.
use Rattle.std.proofs.Common.{◌≡◌, ℕ, ◌+◌, ◌<◌, ◌≤◌, ◌^◌, List, [], ◌∷◌, ◌++◌, length, map, drop, refl, sym, ◌∙◌, ap, subst, inl, inr, arith, append_assoc, append-nil}
use Rattle.std.proofs.lemmas.Bool.{cases_lt}
use Rattle.std.proofs.lemmas.List.{drop_all}
use Rattle.events.specs.Executions.{ThreadRun}
use Rattle.listings.specs.Lists.{sum_of}
use Rattle.litmus_value.specs.Limits.{IsTest}
use Rattle.litmus_tree.specs.Tree.{Litmus}
use Rattle.c11_threads.specs.declared.fault.RunFault.{RunFault}
use Rattle.c11_threads.specs.declared.fault.RunFault.TheVariants.{TooManyRuns, NoMemory}
use Rattle.candidates.specs.declared.fault.SpaceFault.TheVariants.{TooManyCandidates}
use Rattle.candidates.specs.Executions.{initial_values, IsSize, upto, block}
use Rattle.candidates.specs.Candidates.{choices_of, choices, size_of, Choices}
use Rattle.c11_threads.specs.Unrolled.{runs_of}
use Rattle.candidates.specs.Faults.{IsSpaceFault, HaveFewRuns, space_fault_of}
use Rattle.c11_threads.specs.Faults.{IsRunFault}
use Rattle.candidates.specs.Parts.{AreAllWithin, AreShort}
use Rattle.candidates.proofs.Bounding.{within, short}
use Rattle.candidates.proofs.Caps.{drop_upto, length_tabulate}
use Rattle.candidates.proofs.Law.{sized, as_many}
use Rattle.candidates.proofs.Grouping.{tallies_of, counted, has_room}
use Rattle.candidates.proofs.Steps.{behind_all}
use Rattle.candidates.specs.declared.counts.Counts.{Counts}
use Rattle.candidates.specs.Groups.{tally_of, size_by, HasRoom}
use Rattle.c11_threads.proofs.RunLists.{lists_runs_of}

abbrev pub FewBelow : Litmus → ℕ → Type 0
FewBelow t k = (j : ℕ) → j < k → length (runs_of t j) ≤ 4096

-- The first thread with too many runs.
pub first_fault : (t : Litmus) (k : ℕ) (e : RunFault) → k < length t.threads → FewBelow t k → IsRunFault t k e → IsSpaceFault t (space_fault_of e)
first_fault t k (TooManyRuns j) l few h =
    let P : ℕ → Type 0 = λ i. IsSpaceFault t (space_fault_of (TooManyRuns i)) in
    subst P (sym h.0) (l, h.1, λ i m. (length (runs_of t i), (runs_of t i, lists_runs_of t i, refl), few i m))
first_fault t k NoMemory l few h = tt

pub few_more : (t : Litmus) (k : ℕ) (runs : List ThreadRun) → FewBelow t k → runs ≡ runs_of t k → length runs ≤ 4096 → FewBelow t (k + 1)
few_more t k runs few e l j m = elim (cases_lt j k) [
  | inl h ↦ few j h
  | inr h ↦ (let is : j ≡ k = omega (arith, m, h) in
      let P : ℕ → Type 0 = λ i. length (runs_of t i) ≤ 4096 in
      subst P (sym is) (let f = ap (λ (rs : List ThreadRun). length rs) e in omega (arith, f, l)))
]

pub all_few : (t : Litmus) (k : ℕ) → length t.threads ≤ k → FewBelow t k → HaveFewRuns t
all_few t k l few j m = (length (runs_of t j), (runs_of t j, lists_runs_of t j, refl), few j (omega (arith, l, m)))

pub next_list : (t : Litmus) (n i : ℕ) (done more : List (List ThreadRun)) (runs : List ThreadRun) (all : List (List ThreadRun)) → i < n → runs ≡ runs_of t i → more ≡ done ++ runs ∷ [] → done ++ map (runs_of t) (drop i (upto n)) ≡ all → more ++ map (runs_of t) (drop (i + 1) (upto n)) ≡ all
next_list t n i done more runs all l e f whole =
    let rest = map (runs_of t) (drop (i + 1) (upto n)) in
    ap (λ (ls : List (List ThreadRun)). ls ++ rest) f ∙ append_assoc done (runs ∷ []) rest
    ∙ ap (λ (rs : List ThreadRun). done ++ rs ∷ rest) e
    ∙ ap (λ ks. done ++ map (runs_of t) ks) (sym (drop_upto n i l)) ∙ whole

pub all_lists : (t : Litmus) (k : ℕ) (lists : List (List ThreadRun)) → length t.threads ≤ k → lists ++ map (runs_of t) (drop k (upto (length t.threads))) ≡ map (runs_of t) (upto (length t.threads)) → lists ≡ map (runs_of t) (upto (length t.threads))
all_lists t k lists l e =
    let m : length (upto (length t.threads)) ≤ k = rw (length_tabulate (length t.threads) (λ i. i)) l in
    let f : drop k (upto (length t.threads)) ≡ [] = drop_all k (upto (length t.threads)) m in
    sym (append-nil lists) ∙ ap (λ ks. lists ++ map (runs_of t) ks) (sym f) ∙ e

pub within_all : (t : Litmus) (lists : List (List ThreadRun)) → IsTest t → lists ≡ map (runs_of t) (upto (length t.threads)) → AreAllWithin (length t.locations) (choices lists)
within_all t lists p e =
    let P : List (List ThreadRun) → Type 0 = λ ls. AreAllWithin (length t.locations) (choices ls) in
    subst P (sym e) (within t p)

pub short_all : (t : Litmus) (lists : List (List ThreadRun)) → IsTest t → lists ≡ map (runs_of t) (upto (length t.threads)) → AreShort lists
short_all t lists p e = let P : List (List ThreadRun) → Type 0 = AreShort in subst P (sym e) (short t p)

-- What is counted by the tallies are all candidates.
pub counted_all : (n : ℕ) (lists : List (List ThreadRun)) (tally : List Counts) (groups : List (List (List Counts))) → AreAllWithin n (choices lists) → tally ≡ tally_of n [] → groups ≡ map (tallies_of n) lists → size_by tally groups ≡ sum_of (block n) (choices lists)
counted_all n lists tally groups w t g =
    let P : List (List ThreadRun) → Type 0 = AreAllWithin n in
    ap (λ (u : List Counts). size_by u groups) t ∙ ap (size_by (tally_of n [])) g
    ∙ counted n lists [] (subst P (sym (behind_all lists)) w) ∙ ap (sum_of (block n)) (behind_all lists)

-- The same, where there are as many locations as initial values.
pub counted_of : (t : Litmus) (init : List ℕ) (n : ℕ) (lists : List (List ThreadRun)) (tally : List Counts) (groups : List (List (List Counts))) → n ≡ length init → init ≡ initial_values t → AreAllWithin (length t.locations) (choices lists) → tally ≡ tally_of n [] → groups ≡ map (tallies_of n) lists → (n ≡ length (initial_values t)) × AreAllWithin n (choices lists) × (size_by tally groups ≡ sum_of (block n) (choices lists))
counted_of t init n lists tally groups l i within e g =
    let many : n ≡ length (initial_values t) = l ∙ ap (λ (vs : List ℕ). length vs) i in
    let W : ℕ → Type 0 = λ k. AreAllWithin k (choices lists) in
    let w = subst W (sym (many ∙ as_many t)) within in
    (many, w, counted_all n lists tally groups w e g)

pub room_all : (n : ℕ) (lists : List (List ThreadRun)) (tally : List Counts) (groups : List (List (List Counts))) → AreShort lists → tally ≡ tally_of n [] → groups ≡ map (tallies_of n) lists → HasRoom tally groups
room_all n lists tally groups s t g =
    let P : List Counts → Type 0 = λ u. HasRoom u groups in
    let Q : List (List (List Counts)) → Type 0 = λ gs. HasRoom (tally_of n []) gs in
    subst P (sym t) (subst Q (sym g) (has_room n lists s))

-- Too many choices are too many candidates.
pub too_many : (t : Litmus) → HaveFewRuns t → 2 ^ 32 < size_of (choices_of t) → HaveFewRuns t × ((n : ℕ) × IsSize t n × (2 ^ 32 < n))
too_many t few l = (few, (size_of (choices_of t), sized t, l))

pub too_many_in_all : (t : Litmus) (lists : List (List ThreadRun)) (n : ℕ) → HaveFewRuns t → lists ≡ map (runs_of t) (upto (length t.threads)) → n ≡ length (choices_of t).init → 2 ^ 32 < sum_of (block n) (choices lists) → IsSpaceFault t TooManyCandidates
too_many_in_all t lists n few e f l =
    let g : sum_of (block n) (choices lists) ≡ size_of (choices_of t) = ap (λ m. sum_of (block m) (choices lists)) f ∙ ap (λ (ls : List (List ThreadRun)). sum_of (block (length (choices_of t).init)) (choices ls)) e in
    too_many t few (omega (arith, l, g))

pub size_within : (t : Litmus) (s : Choices) (n : ℕ) → s ≡ choices_of t → n ≡ size_of s → n ≤ 2 ^ 32 → IsSize t (size_of s) × (size_of s ≤ 2 ^ 32)
size_within t s n e f l =
    let P : Choices → Type 0 = λ u. IsSize t (size_of u) in
    (subst P (sym e) (sized t), omega (arith, f, l))
