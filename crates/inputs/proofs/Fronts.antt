-- What is read of a reader up to a limit.
use Rattle.std.proofs.Common.{◌≡◌, ◌∙◌, ℕ, List, [], ◌++◌, take, Option, Some, None, IfSome, ap, subst, arith}
use Rattle.std.specs.Io.Take.{take_limit, take_inner, take_remaining}
use Rattle.std.specs.Option.{option_map}
use Rattle.std.specs.declared.io.traits.Take.{Take}
use Rattle.std.proofs.lemmas.List.{take_all, length-take}

cut_known : (o : Option (List ℕ)) (n : ℕ) (all front : List ℕ) → IfSome (option_map (take n) o) (λ xs. all ≡ xs) → front ≡ take n all → IfSome o (λ xs. front ≡ take n xs)
cut_known None n all front known same = tt
cut_known (Some xs) n all front known same = same ∙ ap (take n) known ∙ take_all n (take n xs) (omega (arith, length-take n xs))

-- what is read through a limit is the front of what there is
pub front_of : {R : Type 0} (remaining : R → Option (List ℕ)) (t : Take R) (reader : R) (n : ℕ) (start all front : List ℕ)
    → take_limit t ≡ n → take_inner t ≡ reader → start ≡ [] → IfSome (take_remaining remaining t) (λ xs. all ≡ start ++ xs) → front ≡ take n all
    → IfSome (remaining reader) (λ xs. front ≡ take n xs)
front_of remaining t reader n start all front limit inner nothing known same =
    let all_known = subst (λ s. IfSome (take_remaining remaining t) (λ xs. all ≡ s ++ xs)) nothing known in
    let through = subst (λ r. IfSome (option_map (take (take_limit t)) (remaining r)) (λ xs. all ≡ xs)) inner all_known in
    cut_known (remaining reader) n all front (subst (λ m. IfSome (option_map (take m) (remaining reader)) (λ xs. all ≡ xs)) limit through) same
