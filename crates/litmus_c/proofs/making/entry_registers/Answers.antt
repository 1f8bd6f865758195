use Rattle.std.proofs.Common.{◌∙◌, sym}
use Rattle.conditions.specs.declared.place.Binding.{Binding}
use Rattle.litmus_c.specs.Rules.{place_registers}
use Rattle.litmus_c.proofs.Names.{next}
use Rattle.litmus_c.proofs.making.entry_registers.Goals as goal

pub loop-entry-preserved : goal.loop-entry-preserved
loop-entry-preserved c =
    rw c.in_ok-note_register.ensures (sym (next (λ (b : Binding). place_registers c.args.number b.place) c.entry-item.result c.args.entries.now c.loop-entry.entry-index c.loop-entry.registers.keys c.loop-entry-test.true c.entry-item.is) ∙ c.loop-entry.invariant)
