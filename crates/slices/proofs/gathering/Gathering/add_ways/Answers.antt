use Rattle.std.proofs.Common.{◌≡◌, ◌≤◌, ◌^◌, ℕ, List, [], length, map, ◌∙◌, refl, ap, sym, subst, arith}
use Rattle.std.proofs.lemmas.List.{length-map}
use Rattle.events.specs.declared.event.EventId.{EventId}
use Rattle.listings.specs.Lists.{product_by}
use Rattle.slices.specs.Alike.{of_states, row_by, weight_at}
use Rattle.slices.specs.Findings.{FindingValue}
use Rattle.slices.specs.Slots.{slot_by}
use Rattle.slices.specs.Sums.{IsSum}
use Rattle.slices.specs.Ways.{count_of_ways}
use Rattle.slices.proofs.Adding.{chosen_none, chosen_some, states_few, states_more, states_none}
use Rattle.slices.proofs.Again.{kept_as}
use Rattle.slices.proofs.gathering.Gathering.add_ways.Goals as goal

pub choose-requires : goal.choose-requires
choose-requires c = c.requires.ways.few

pub loop-times-init : goal.loop-times-init
loop-times-init c = record {
  kept = c.requires.kept;
  added = states_none c.args.self.now.finding (weight_at c.args.ways.now) (row_by c.args.graph.now c.args.slots.now c.args.ways.now);
  within = omega arith;
}

pub show_by-requires : goal.show_by-requires
show_by-requires c =
    let at = c.loop-times in
    record { room = subst (λ n. at.self.state.base ^ n ≤ 2 ^ 63) (ap (λ (v : FindingValue). length v.places) at.invariant.added.same ∙ c.requires.whole) at.invariant.kept.room }

pub add-requires-clause-kept : goal.add-requires-clause-kept
add-requires-clause-kept c = kept_as c.loop-times.self _ c.loop-times.invariant.kept refl refl c.show_by.ensures.base

pub add-requires-clause-few : goal.add-requires-clause-few
add-requires-clause-few c =
    let at = c.loop-times in
    let ways = c.args.ways.now in
    let k = chosen_some c.in_ok-times.field-0 c.in-Some.times (product_by count_of_ways ways) at.number (weight_at ways at.number) c.in-Some.is c.in_ok-times.ensures.weight in
    states_few c.args.self.now.finding at.self.finding (row_by c.args.graph.now c.args.slots.now ways) ways at.number c.in-Some.times c.requires.ways c.requires.few at.invariant.added k.0 k.1

pub add-requires-clause-whole : goal.add-requires-clause-whole
add-requires-clause-whole c =
    ap (λ (v : FindingValue). length v.places) c.loop-times.invariant.added.same ∙ c.requires.whole ∙ sym (ap length c.in_ok-show_by.ensures.values ∙ length-map c.args.slots.now (slot_by c.args.graph.now _))

pub overflow_add-number : goal.overflow_add-number
overflow_add-number c =
    let at = c.loop-times in
    let k = chosen_some c.in_ok-times.field-0 c.in-Some.times (product_by count_of_ways c.args.ways.now) at.number (weight_at c.args.ways.now at.number) c.in-Some.is c.in_ok-times.ensures.weight in
    let below = k.0 in
    let most = c.requires.ways.most in
    let few = c.requires.ways.few in
    omega (arith, below, most, few)

pub loop-times-preserved : goal.loop-times-preserved
loop-times-preserved c =
    let g = c.args.graph.now in
    let ways = c.args.ways.now in
    let at = c.loop-times in
    let k = chosen_some c.in_ok-times.field-0 c.in-Some.times (product_by count_of_ways ways) at.number (weight_at ways at.number) c.in-Some.is c.in_ok-times.ensures.weight in
    let below = k.0 in
    let row = c.in_ok-show_by.ensures.values ∙ ap (λ (lasts : List EventId). map (slot_by g lasts) c.args.slots.now) (c.deref.ensures.value ∙ c.in_ok-times.ensures.lasts) in
    record {
      kept = c.in_ok-add.ensures.kept;
      added = states_more c.args.self.now.finding at.self.finding c.add.new.self.finding (weight_at ways) (row_by g c.args.slots.now ways) at.number c.in-Some.times c.show_by.new.self.values.items at.invariant.added c.in_ok-add.ensures.sum k.1 row;
      within = omega (arith, below);
    }

pub returns-clause-sum : goal.returns-clause-sum
returns-clause-sum c =
    let at = c.loop-times in
    let ways = c.args.ways.now in
    let n = product_by count_of_ways ways in
    let most = chosen_none c.in_ok-times.field-0 n at.number (weight_at ways at.number) c.in_default.not-Some c.in_ok-times.ensures.weight in
    let within = at.invariant.within in
    let e : at.number ≡ n = omega (arith, most, within) in
    let P : ℕ → Type 0 = λ m. IsSum c.args.self.now.finding (of_states c.args.self.now.finding (weight_at ways) (row_by c.args.graph.now c.args.slots.now ways) m []) at.self.finding in
    subst P e at.invariant.added

pub loop-times-smaller : goal.loop-times-smaller
loop-times-smaller c =
    let at = c.loop-times in
    let ways = c.args.ways.now in
    let k = chosen_some c.in_ok-times.field-0 c.in-Some.times (product_by count_of_ways ways) at.number (weight_at ways at.number) c.in-Some.is c.in_ok-times.ensures.weight in
    let below = k.0 in
    omega (arith, below)
