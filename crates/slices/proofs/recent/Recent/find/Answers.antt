use Rattle.std.proofs.Common.{◌<◌, ◌∙◌, sym, length, rules}
use Rattle.listings.proofs.Listings.{in_get_or}
use Rattle.slices.proofs.recent.Recent.find.Goals as goal

pub returns-then-known-number : goal.returns-then-known-number
returns-then-known-number c v base known row long digits e =
    let l : c.loop-known.known-index < length c.args.self.now.states = Prim.search rules in
    known _ (in_get_or c.args.self.now.states c.loop-known.known-index _ l) row long digits (e ∙ sym c.if-known-number.true)
