-- The runs of a test are within its limits.
use Rattle.std.proofs.Common.{◌≡◌, ℕ, zero, suc, ◌+◌, ◌<◌, ◌≤◌, List, [], ◌∷◌, length, map, drop, get_or, drop-cons, ◌∙◌, ap, subst, inl, inr, arith}
use Rattle.std.proofs.lemmas.List.Elements.{All-nil, All-cons}
use Rattle.std.proofs.lemmas.List.Sums.{sum_by-cons}
use Rattle.candidates.proofs.Grouping.{length_mapped}
use Rattle.std.specs.List.{sum_by, All}
use Rattle.events.specs.Executions.{ThreadRun}
use Rattle.listings.specs.Lists.{IsIn, ForEach, tabulate}
use Rattle.litmus_tree.specs.Tree.{Litmus}
use Rattle.litmus_value.specs.Limits.{program_events, IsTest}
use Rattle.c11_threads.specs.Runs.{thread_of, no_program, IsRun}
use Rattle.c11_threads.specs.Bounds.{IsPlaced}
use Rattle.c11_threads.proofs.Few.{bounding}
use Rattle.candidates.specs.Candidates.{choices_of, choices}
use Rattle.candidates.specs.Executions.{upto}
use Rattle.candidates.specs.Parts.{AreAllWithin, AreShort}
use Rattle.c11_threads.specs.Unrolled.{runs_of}
use Rattle.c11_threads.proofs.RunLists.{lists_runs_of}
use Rattle.candidates.proofs.Caps.{length_tabulate}
use Rattle.candidates.specs.Bounds.{event_count}
use Rattle.candidates.proofs.Law.{lists_choices}

pub member_below : {A : Type 0} (f : A → ℕ) (xs : List A) (i : ℕ) (d : A) → i < length xs → f (get_or xs i d) ≤ sum_by f xs
member_below f [] i d l = absurd (omega (arith, l))
member_below f (x ∷ xs) zero d l = omega (arith, sum_by-cons f x xs)
member_below f (x ∷ xs) (suc i) d l = omega (arith, sum_by-cons f x xs, member_below f xs i d (omega (arith, l)))

drop_thread : (t : Litmus) (j : ℕ) → j < length t.threads → drop j t.threads ≡ thread_of t j ∷ drop (suc j) t.threads
drop_thread t j l = drop-cons t.threads j no_program l

abbrev pub AreAt : ℕ → ThreadRun → Type 0
AreAt m run = All (IsPlaced m) run.events

few_runs : (t : Litmus) → IsTest t → (n j : ℕ) (g : ℕ → ℕ) (runs : List ThreadRun) → ((i : ℕ) → i < n → g i ≡ j + i) → j + n ≡ length t.threads → ForEach (IsRun t) (tabulate n g) runs → (event_count runs ≤ sum_by program_events (drop j t.threads)) × All (AreAt (length t.locations)) runs
few_runs t p zero j g [] same e h = (omega arith, All-nil (AreAt (length t.locations)))
few_runs t p zero j g (run ∷ runs) same e h = absurd h
few_runs t p (suc n) j g [] same e h = absurd h
few_runs t p (suc n) j g (run ∷ runs) same e h =
    let l : j < length t.threads = omega (arith, e) in
    let here : g 0 ≡ j = same 0 (omega arith) ∙ (let z : j + 0 ≡ j = omega arith in z) in
    let I : ℕ → Type 0 = λ k. IsRun t k run in
    let few = bounding t j run (p.names j no_program l) (subst I here h.0) in
    let rest = few_runs t p n (suc j) (λ i. g (suc i)) runs (λ i m. same (suc i) (omega (arith, m)) ∙ (let z : j + suc i ≡ suc j + i = omega arith in z)) (omega (arith, e)) h.1 in
    let d = ap (sum_by program_events) (drop_thread t j l) ∙ sum_by-cons program_events (thread_of t j) (drop (suc j) t.threads) in
    (omega (arith, sum_by-cons (λ (r : ThreadRun). length r.events) run runs, few.count, rest.0, d), All-cons (AreAt (length t.locations)) run runs few.places rest.1)

pub within : (t : Litmus) → IsTest t → AreAllWithin (length t.locations) (choices (choices_of t).threads)
within t p c h =
    let f = few_runs t p (length t.threads) 0 (λ k. k) c (λ k m. omega arith) (omega arith) ((lists_choices t).only c h) in
    record { few = omega (arith, f.0, p.events); places = f.1 }

few_events : (t : Litmus) (k : ℕ) → k < length t.threads → program_events (thread_of t k) ≤ sum_by program_events t.threads
few_events t k l = member_below program_events t.threads k no_program l

short_runs : (t : Litmus) → IsTest t → (n : ℕ) (g : ℕ → ℕ) → ((i : ℕ) → i < n → g i < length t.threads) → (runs : List ThreadRun) (run : ThreadRun) → IsIn runs (map (runs_of t) (tabulate n g)) → IsIn run runs → length run.events ≤ 64
short_runs t p zero g below runs run h m = absurd h
short_runs t p (suc n) g below runs run h m = elim h [
  | inl e ↦ (let l = below 0 (omega arith) in
      let I : List ThreadRun → Type 0 = λ rs. IsIn run rs in
      let few = bounding t (g 0) run (p.names (g 0) no_program l) ((lists_runs_of t (g 0)).only run (subst I e m)) in
      omega (arith, few.count, few_events t (g 0) l, p.events))
  | inr k ↦ short_runs t p n (λ i. g (suc i)) (λ i l. below (suc i) (omega (arith, l))) runs run k m
]

pub short : (t : Litmus) → IsTest t → AreShort (choices_of t).threads
short t p = record {
  few = omega (arith, length_mapped (runs_of t) (upto (length t.threads)), length_tabulate (length t.threads) (λ i. i), p.threads);
  short = short_runs t p (length t.threads) (λ i. i) (λ i l. l);
}
