use Rattle.events.proofs.Told.{apart_told, nothing_told}
use Rattle.relations.specs.Events.{Has}
use Rattle.events.proofs.view.facts.is_dependency.Goals as goal

pub returns-then-thread-same : goal.returns-then-thread-same
returns-then-thread-same c = rw (c.in-Own-Own.is-0, c.in-Own-Own.is-1) (λ h. (c.if-thread-same.true, c.contains.ensures.0 h), λ h. c.contains.ensures.1 h.1)

pub returns-else-thread-same : goal.returns-else-thread-same
returns-else-thread-same c = rw (c.in-Own-Own.is-0, c.in-Own-Own.is-1) (apart_told c.in-Own-Own.thread c.in-Own-Own.same (Has c.args.places.now c.in-Own-Own.place) c.if-thread-same.false)

pub returns-in_default : goal.returns-in_default
returns-in_default c = rw (c.in_default.is-0, c.in_default.is-1) nothing_told
