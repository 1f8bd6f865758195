use Rattle.std.proofs.Common.{ℕ, List, sym, subst, ◌∙◌}
use Rattle.events.specs.Structures.{bare}
use Rattle.events.specs.Rows.{AreFirsts}
use Rattle.events.proofs.Structures.{moved_names, moved_reads, moved_firsts, moved_few}
use Rattle.events.proofs.view.structure.EventStructure.numbered.Goals as goal

pub new-requires-clause-events : goal.new-requires-clause-events
new-requires-clause-events c =
    let g = bare (record { init = c.self.inside.init.items; runs = c.self.inside.runs.items }) in
    c.deref.ensures.value ∙ moved_names g c.args.graph.now _ (c.self.view_is ∙ c.requires) c.self.invariant.events

pub new-requires-clause-reads : goal.new-requires-clause-reads
new-requires-clause-reads c =
    let g = bare (record { init = c.self.inside.init.items; runs = c.self.inside.runs.items }) in
    c.deref-2.ensures.value ∙ moved_reads g c.args.graph.now _ (c.self.view_is ∙ c.requires) c.self.invariant.reads

pub new-requires-clause-firsts : goal.new-requires-clause-firsts
new-requires-clause-firsts c =
    let g = bare (record { init = c.self.inside.init.items; runs = c.self.inside.runs.items }) in
    let P : List ℕ → Type 0 = λ firsts. AreFirsts c.args.graph.now firsts in
    subst P (sym c.deref-3.ensures.value) (moved_firsts g c.args.graph.now _ (c.self.view_is ∙ c.requires) c.self.invariant.firsts)

pub new-requires-clause-few : goal.new-requires-clause-few
new-requires-clause-few c =
    let g = bare (record { init = c.self.inside.init.items; runs = c.self.inside.runs.items }) in
    moved_few g c.args.graph.now (c.self.view_is ∙ c.requires) c.self.invariant.few
