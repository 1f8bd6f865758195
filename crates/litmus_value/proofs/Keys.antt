-- A key tells its test.
use Rattle.std.proofs.Common.{◌≡◌, [], ap}
use Rattle.std.specs.Prelude.{Bool}
use Rattle.std.specs.Bool.{Decides, one_answer}
use Rattle.conditions.specs.Exact.{by_parts}
use Rattle.litmus_tree.specs.Equality.{same_litmus}
use Rattle.litmus_tree.specs.Exact.{litmus_exact}
use Rattle.litmus_tree.specs.Spellings.{spelled_litmus}
use Rattle.litmus_tree.specs.Tree.{Litmus}
use Rattle.litmus_value.specs.Tests.{key_of}

pub told_by_key : (a b : Litmus) (r : Bool) → Decides r (key_of a ≡ key_of b) → r ≡ same_litmus a b
unfolding key_of
told_by_key a b r h = one_answer r (same_litmus a b) (by_parts r h (λ e. (spelled_litmus.exact a b [] [] e).0) (λ e. ap key_of e)) (litmus_exact a b)
