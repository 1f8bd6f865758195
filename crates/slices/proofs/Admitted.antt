-- A test that a work has is refused no space: its runs and its candidates are few.
use Rattle.std.proofs.Common.{◌≡◌, ◌∙◌, ℕ, List, [], ◌∷◌, length, refl, sym, arith}
use Rattle.listings.specs.Lists.{sum_of}
use Rattle.listings.proofs.Sums.{same_sums}
use Rattle.litmus_tree.specs.Tree.{Litmus}
use Rattle.candidates.specs.Executions.{block}
use Rattle.candidates.specs.Faults.{IsSpaceFault}
use Rattle.candidates.specs.declared.fault.SpaceFault.TheVariants as of_space
use Rattle.slices.specs.Parts.{IsAdmitted}

as_many : {A : Type 0} (xs : List A) → sum_of (λ _. 1) xs ≡ length xs
as_many [] = refl
as_many (x ∷ xs) = let rest = as_many xs in omega (arith, rest)

pub few_runs : (t : Litmus) (k : ℕ) → IsAdmitted t → ¬ IsSpaceFault t (of_space.TooManyRuns k)
few_runs t k admitted h =
    let few = admitted.runs k h.0 in
    let many = h.1 in
    let same = sym (as_many few.1.0) ∙ same_sums (λ _. 1) few.1.0 many.1.0 few.1.1 many.1.1 ∙ as_many many.1.0 in
    let small = few.1.2 in
    let large = many.1.2 in
    let most = few.2 in
    let more = many.2 in
    omega (arith, same, small, large, most, more)

pub few_candidates : (t : Litmus) → IsAdmitted t → ¬ IsSpaceFault t of_space.TooManyCandidates
few_candidates t admitted h =
    let size = h.1.1 in
    let own = admitted.size in
    let same = same_sums (block (length t.locations)) size.0 own.0 size.1 own.1 in
    let large = size.2 in
    let small = own.2 in
    let most = admitted.few in
    let more = h.1.2 in
    omega (arith, same, small, large, most, more)
