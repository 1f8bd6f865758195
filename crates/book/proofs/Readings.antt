-- What a refusal tells: nothing is read.
use Rattle.std.proofs.Common.{◌≡◌, Result, Ok, Err}
use Rattle.std.specs.Prelude.{MatchResult, IfErr}

-- where every value with P is what is given, unless the fault is n, a fault other than n says that no value has P
pub only_err : {T E : Type 0} (P : T → Type 0) (n : E) (r : Result T E) → ((t : T) → P t → MatchResult r (λ u. u ≡ t) (λ e. e ≡ n)) → IfErr r (λ e. (t : T) → P t → e ≡ n)
only_err P n (Ok u) h = tt
only_err P n (Err e) h = λ t p. h t p
