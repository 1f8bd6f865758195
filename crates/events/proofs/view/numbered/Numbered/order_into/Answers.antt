use Rattle.std.proofs.Common.{ℕ, subst}
use Rattle.relations.specs.Relation.{IsExactly}
use Rattle.events.specs.Named.{event_count}
use Rattle.events.proofs.Adding.{one_order}
use Rattle.events.proofs.view.numbered.Numbered.order_into.Goals as goal

pub returns : goal.returns
returns c =
    let P : ℕ → Type 0 = λ n. IsExactly n (λ i j. ⊥) c.become_empty.new.self in
    one_order (event_count c.args.self.now) c.args.self.now c.args.excerpt.now c.become_empty.new.self c.relate_order.new.rel (subst P c.count.ensures.is c.become_empty.ensures) c.relate_order.ensures
