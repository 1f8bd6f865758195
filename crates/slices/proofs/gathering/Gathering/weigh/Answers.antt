use Rattle.std.proofs.Common.{◌≡◌, ◌≤◌, ◌∙◌, ◌^◌, length, map, true, refl, sym, ap, subst, arith}
use Rattle.std.proofs.lemmas.List.{length-map}
use Rattle.slices.specs.Slots.{slot_value}
use Rattle.slices.proofs.Again.{kept_as, kept_on}
use Rattle.slices.proofs.Weighed.{if_yes, state_weighed}
use Rattle.slices.proofs.gathering.Gathering.weigh.Goals as goal

pub show-requires : goal.show-requires
show-requires c = record { room = subst (λ n. c.args.self.now.state.base ^ n ≤ 2 ^ 63) c.requires.whole c.requires.kept.room }

pub add-requires-clause-kept : goal.add-requires-clause-kept
add-requires-clause-kept c = kept_as c.args.self.now _ c.requires.kept refl refl c.show.ensures.base

pub add-requires-clause-few : goal.add-requires-clause-few
add-requires-clause-few c = omega (arith, c.requires.few)

pub add-requires-clause-whole : goal.add-requires-clause-whole
add-requires-clause-whole c = c.requires.whole ∙ sym (ap length c.in_ok-show.ensures.values ∙ length-map c.args.slots.now (slot_value c.args.graph.now))

pub returns-clause-kept : goal.returns-clause-kept
returns-clause-kept c = kept_on c.add.new.self _ _ c.in_ok-add.ensures.kept c.in_ok-raise.ensures refl refl

pub returns-clause-sum : goal.returns-clause-sum
returns-clause-sum c =
    let yes : c.args.judgement.now.allowed ≡ true = sym c.allowed.ensures ∙ c.if-not-allowed.false in
    let row = map (slot_value c.args.graph.now) c.args.slots.now in
    if_yes _ _ _ yes (state_weighed c.args.self.now.finding c.add.new.self.finding c.raise.new.self c.show.new.self.values.items row c.flags.result.now c.args.judgement.now.flags c.in_ok-show.ensures.values c.flags.ensures c.in_ok-add.ensures.sum c.in_ok-raise.ensures)
