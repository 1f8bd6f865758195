use Rattle.std.proofs.Common.{◌∙◌, sym, refl}
use Rattle.litmus_syntax.proofs.Levels.{entries_turn, entries_loop_takes}
use Rattle.litmus_syntax.proofs.syntax.Reader.entries.Goals as goal

pub loop-entries-smaller : goal.loop-entries-smaller
loop-entries-smaller c = entries_loop_takes c.loop-entries.self.rest.now c.entry_into.new.self.rest.now c.take.new.self.rest.now tt c.loop-entries.entries.items c.entry_into.new.entries.items c.in_ok-entry_into.ensures c.if-not-take.ensures

pub returns-then-not-take : goal.returns-then-not-take
returns-then-not-take c = sym c.loop-entries.invariant ∙ rw (c.in_ok-entry_into.ensures, entries_turn c.entry_into.new.entries.items c.entry_into.new.self.rest.now, c.if-not-take.ensures.0, c.if-not-take.ensures.1) refl

pub loop-entries-preserved : goal.loop-entries-preserved
loop-entries-preserved c = sym (rw (c.in_ok-entry_into.ensures, entries_turn c.entry_into.new.entries.items c.entry_into.new.self.rest.now, c.if-not-take.ensures) refl) ∙ c.loop-entries.invariant
