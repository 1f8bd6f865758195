use Rattle.cat_model.proofs.Loose.{infix_step}
use Rattle.cat_model.proofs.naming.look.Goals as goal

pub returns-in_ok-push-in-Infix : goal.returns-in_ok-push-in-Infix
returns-in_ok-push-in-Infix c = λ us h.
    infix_step c.args.scope.now.names.items c.args.parameters.now c.args.waiting.now.items c.latest-right.new.waiting.items c.latest-left.new.waiting.items c.push-in-Infix.new.self.items
    c.latest-right.result c.latest-left.result c.or.result c.args.node.now c.in-Infix.field-0 us c.in-Infix.is c.latest-right.ensures.value c.latest-right.ensures.rest c.latest-left.ensures.value c.latest-left.ensures.rest
    c.or.ensures c.in_ok-push-in-Infix.ensures.items h
