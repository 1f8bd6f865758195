use Rattle.std.proofs.Common.{◌≡◌, ◌∙◌, true, refl, sym}
use Rattle.slices.specs.Ways.{ways_shown}
use Rattle.slices.proofs.Again.{kept_on}
use Rattle.slices.proofs.Weighed.{if_yes, ways_weighed}
use Rattle.slices.proofs.gathering.Gathering.weigh_alike.Goals as goal

pub returns-clause-kept : goal.returns-clause-kept
returns-clause-kept c = kept_on c.add_ways.new.self _ _ c.in_ok-add_ways.ensures.kept c.in_ok-raise.ensures refl refl

pub returns-clause-sum : goal.returns-clause-sum
returns-clause-sum c =
    let yes : c.args.judgement.now.allowed ≡ true = sym c.allowed.ensures ∙ c.if-not-allowed.false in
    let seen = ways_shown c.args.slots.now c.args.range c.args.graph.now in
    if_yes _ _ _ yes (ways_weighed c.args.self.now.finding c.add_ways.new.self.finding c.raise.new.self c.args.graph.now c.args.slots.now c.deref.result.now seen c.flags.result.now c.args.judgement.now.flags (c.deref.ensures.value ∙ c.in_ok-ways.ensures) c.flags.ensures c.in_ok-add_ways.ensures.sum c.in_ok-raise.ensures)
