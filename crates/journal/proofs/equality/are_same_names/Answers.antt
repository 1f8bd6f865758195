use Rattle.std.proofs.Common.{sym, subst}
use Rattle.std.specs.Prelude.{◌≡◌}
use Rattle.std.specs.Bool.{Decides}
use Rattle.std.specs.Cmp.Lexicographic.{pointwise_decides}
use Rattle.journal.proofs.Exact.{loaded_exact}
use Rattle.journal.proofs.equality.are_same_names.Goals as goal

pub returns : goal.returns
returns c = subst (λ r. Decides r (c.args.one.now ≡ c.args.other.now)) (sym c.eq.ensures) (pointwise_decides loaded_exact c.args.one.now c.args.other.now)
