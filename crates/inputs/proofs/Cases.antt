-- A test under each of the models of a run.
use Rattle.std.proofs.Common.{◌≡◌, ◌<◌, ◌≤◌, ◌+◌, ℕ, List, [], ◌∷◌, ◌++◌, length, take, get_or, refl, subst, arith}
use Rattle.std.proofs.lemmas.List.{length_push, take_all, take_more}
use Rattle.cat_model.specs.Models.{Assembly}
use Rattle.suite.specs.declared.case.Case.{Case}
use Rattle.inputs.specs.Loaded.{AreCases, AreLoaded, IsCase, behind, no_case, nothing, one_more}

as_many : {X : Type 0} (ms : List Assembly) (m : Assembly) (xs : List X) (x : X) → length xs ≡ length ms → length (xs ++ x ∷ []) ≡ length (ms ++ m ∷ [])
as_many ms m xs x same = let a = length_push ms m in let b = length_push xs x in omega (arith, a, b, same)

-- each model has one name, and one text of digests
pub counted : {models : List Assembly} {names digests : List (List ℕ)} → AreLoaded models names digests
    → (length names ≡ length models) × (length digests ≡ length models)
counted nothing = (refl, refl)
counted (behind model name told before loaded) =
    let h = counted before in
    (as_many _ model _ name h.0, as_many _ model _ told h.1)

-- the test under no model
pub none_yet : (path : List ℕ) (names digests : List (List ℕ)) (cases : List Case) → cases ≡ [] → AreCases path (take 0 names) (take 0 digests) cases
none_yet path names digests cases none = rw none no_case

-- and under one model more
pub case_more : (path : List ℕ) (names digests : List (List ℕ)) (cases more : List Case) (place : ℕ) (c : Case)
    → place < length names → place < length digests → AreCases path (take place names) (take place digests) cases
    → IsCase path (get_or names place []) (get_or digests place []) c → more ≡ cases ++ c ∷ []
    → AreCases path (take (place + 1) names) (take (place + 1) digests) more
case_more path names digests cases more place c in_names in_digests before own pushed =
    rw (pushed, take_more names place [] in_names, take_more digests place [] in_digests) (one_more _ _ c before own)

-- and under all
pub all_cases : (path : List ℕ) (models : List Assembly) (names digests : List (List ℕ)) (cases : List Case) (n : ℕ) → length models ≤ n
    → AreLoaded models names digests → AreCases path (take n names) (take n digests) cases → AreCases path names digests cases
all_cases path models names digests cases n all loaded upto =
    let h = counted loaded in
    let in_digests = subst (λ ds. AreCases path (take n names) ds cases) (take_all n digests (omega (arith, h.1, all))) upto in
    subst (λ ns. AreCases path ns digests cases) (take_all n names (omega (arith, h.0, all))) in_digests
