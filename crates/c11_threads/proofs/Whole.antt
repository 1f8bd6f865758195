-- The runs of a thread, from its start through all its statements.
use Rattle.std.proofs.Common.{◌≡◌, ℕ, List, [], ◌∷◌, length, map, refl, sym, ◌∙◌, ap, subst, arith, append-nil}
use Rattle.std.proofs.lemmas.List.{length-map}
use Rattle.events.specs.Executions.{ThreadRun, no_places}
use Rattle.listings.specs.Lists.{Lists}
use Rattle.litmus_tree.specs.Tree.{Steps, Litmus}
use Rattle.c11_threads.specs.declared.fault.RunFault.{RunFault}
use Rattle.c11_threads.specs.declared.fault.RunFault.TheVariants.{TooManyRuns, NoMemory}
use Rattle.c11_threads.specs.Runs.{Progress, IsRun, thread_of, start, run_of}
use Rattle.c11_threads.specs.Unrolled.{Setting, setting_of, steps_runs, ends_of, runs_of}
use Rattle.c11_threads.specs.Ways.{Ways, led, IsFaultAt}
use Rattle.c11_threads.specs.Faults.{IsRunFault}
use Rattle.c11_threads.proofs.RunLists.{lists_runs_of}

-- ways of thread k while none waits
abbrev pub only : ℕ → List Progress → Ways
only k ends = record { ends = ends; waiting = 0; thread = k }

pub unrolled : (t : Litmus) (k : ℕ) (s : Setting) (steps : Steps) (p : Progress) (w : Ways) → s ≡ setting_of t k no_places → steps ≡ (thread_of t k).steps → p ≡ start t k → w ≡ only k (p ∷ []) → led (steps_runs steps s) w ≡ only k (ends_of t k)
unrolled t k s steps p w es ep e is =
    ap (λ (u : Setting). led (steps_runs steps u) w) es
    ∙ ap (λ (ss : Steps). led (steps_runs ss (setting_of t k no_places)) w) ep
    ∙ ap (led (steps_runs (thread_of t k).steps (setting_of t k no_places))) (is ∙ ap (λ (q : Progress). only k (q ∷ [])) e)
    ∙ ap (only k) (append-nil (ends_of t k))

pub as_runs : (t : Litmus) (k : ℕ) (runs : List ThreadRun) (ends : List Progress) → runs ≡ map run_of ends → ends ≡ ends_of t k → runs ≡ runs_of t k
as_runs t k runs ends e f = e ∙ ap (map run_of) f

pub all_listed : (t : Litmus) (k : ℕ) (runs : List ThreadRun) → runs ≡ runs_of t k → Lists (IsRun t k) runs
all_listed t k runs e = let P : List ThreadRun → Type 0 = Lists (IsRun t k) in subst P (sym e) (lists_runs_of t k)

pub run_fault : (t : Litmus) (k : ℕ) (w : Ways) (e : RunFault) → w ≡ only k (ends_of t k) → IsFaultAt w e → IsRunFault t k e
run_fault t k w e is h = let P : Ways → Type 0 = λ v. IsFaultAt v e in by e (subst P is h)
  where
    many : length (runs_of t k) ≡ length (ends_of t k)
    many = simp length-map

    by : (e : RunFault) → IsFaultAt (only k (ends_of t k)) e → IsRunFault t k e
    by (TooManyRuns j) h = (h.0, (length (runs_of t k), (runs_of t k, lists_runs_of t k, refl), omega (arith, h.1, many)))
    by NoMemory h = h
