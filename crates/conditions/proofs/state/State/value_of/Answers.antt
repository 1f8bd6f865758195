use Rattle.std.proofs.Common.{◌∙◌, sym, arith}
use Rattle.conditions.proofs.Bindings.{read_here, read_on}
use Rattle.conditions.proofs.state.State.value_of.Goals as goal

pub loop-i-preserved : goal.loop-i-preserved
loop-i-preserved c =
    sym (read_on _ _ _ _ _ (omega arith) c.self.invariant c.listed-item.is (sym c.eq.ensures ∙ c.if-eq.false)) ∙ c.loop-i.invariant

pub returns-then-eq : goal.returns-then-eq
returns-then-eq c =
    sym (read_here _ _ _ _ _ (omega arith) c.self.invariant c.listed-item.is (sym c.eq.ensures ∙ c.if-eq.true)) ∙ c.loop-i.invariant
