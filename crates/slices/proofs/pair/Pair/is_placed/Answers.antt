use Rattle.std.proofs.Common.{◌∙◌, ◌∷◌, [], sym, arith}
use Rattle.std.proofs.lemmas.Bool.{ltb-true, not-true}
use Rattle.events.specs.contracts.event.EventIdPartialEq.TheImpl.{ghosts as name_equality}
use Rattle.slices.proofs.Pairing.{event_itself, known_behind, known_here, not_among}
use Rattle.slices.proofs.pair.Pair.is_placed.Goals as goal

pub returns-then-not-contains : goal.returns-then-not-contains
returns-then-not-contains c t x has =
    let un = c.args.cut.unplaced.now in
    let first = c.args.self.first in
    let second = c.args.self.second in
    known_here c.args.cut.locations un 0 c.args.self.location x.co has.0 first second has.1 (let e = c.if-cut-self.true in omega (arith, e))
    (not_among name_equality.eq event_itself un first (sym c.contains.ensures.value ∙ c.if-not-contains.true)) (not_among name_equality.eq event_itself un second (sym c.contains-then-not-contains.ensures.value ∙ not-true c.contains-then-not-contains.result t)) has.2

pub returns : goal.returns
returns c t x has =
    let l = ltb-true c.args.cut.locations c.args.self.location t in
    known_behind c.args.cut.locations c.args.cut.unplaced.now 0 c.args.self.location x.co has.0 (c.args.self.first ∷ c.args.self.second ∷ []) has.1 (omega (arith, l)) has.2
