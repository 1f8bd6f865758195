use Rattle.std.proofs.Common.{ℕ, ◌↔◌, ◌∙◌, IsTrue, ap, sym, subst}
use Rattle.std.proofs.lemmas.Bool.{false≢true}
use Rattle.relations.specs.Events.{IsExactlySet}
use Rattle.events.specs.Executions.{GraphValue}
use Rattle.events.specs.Named.{event_count, location_of, IsMemory}
use Rattle.events.proofs.Grouping.{accesses_beside, none_beside}
use Rattle.events.proofs.view.numbered.Numbered.beside.Goals as goal

pub returns-then-not-is_memory : goal.returns-then-not-is_memory
returns-then-not-is_memory c =
    let g = c.args.self.now in
    let P : ℕ → Type 0 = λ n. IsExactlySet n (λ i. ⊥) c.empty.result in
    let Q : GraphValue → Type 0 = λ h. IsTrue c.is_memory.result ↔ IsMemory h c.event-one.result in
    none_beside (event_count g) c.args.number g c.event-one.result c.empty.result c.event-one.ensures
    (λ m. false≢true (sym c.if-not-is_memory.true ∙ (subst Q c.self.view_is c.is_memory.ensures).1 m)) (subst P c.count.ensures.is c.empty.ensures)

pub returns : goal.returns
returns c =
    let g = c.args.self.now in
    let Q : GraphValue → Type 0 = λ h. IsTrue c.is_memory.result ↔ IsMemory h c.event-one.result in
    accesses_beside (event_count g) c.args.number g c.event-one.result c.location.result c.accesses.result c.event-one.ensures
    ((subst Q c.self.view_is c.is_memory.ensures).0 c.if-not-is_memory.false) (c.location.ensures ∙ ap (λ h. location_of h c.event-one.result) c.self.view_is) c.accesses.ensures
