use Rattle.std.proofs.Common.{inl, inr}
use Rattle.events.specs.Named.{event_count}
use Rattle.events.specs.Rows.{AreTwoOf, AreTwoEitherWay}
use Rattle.events.proofs.Opening.{added_pairs}
use Rattle.events.proofs.view.numbered.Numbered.relate_either_way.Goals as goal

pub returns : goal.returns
returns c =
    let ws = c.args.writes.now in
    let later = c.args.later.now in
    added_pairs (event_count c.args.self.now) c.args.self.now (AreTwoOf ws later) (AreTwoOf later ws) (AreTwoEitherWay ws later) c.args.rel.now c.relate_others.new.rel c.relate_others-2.new.rel
    (λ d e y. inl y) (λ d e y. inr y) (λ d e y. y) c.relate_others.ensures c.relate_others-2.ensures
