use Rattle.std.proofs.Common.{ℕ, suc, ◌≡◌, ◌+◌, ◌≤◌, ◌∙◌, List, length, arith, ap, refl, rules, subst, sym}
use Rattle.relations.specs.Relation.{In, Relation}
use Rattle.witness.specs.Cycles.{ArePowers, IsCycle, IsPower}
use Rattle.witness.proofs.Shortest.{cycle_some, left_first, longer, none_acyclic, power_first, power_next, powers_push, shortest_once}
use Rattle.witness.proofs.cycles.shortest_cycle.Goals as goal

pub loop-step-init : goal.loop-step-init
loop-step-init c =
    let r = c.args.relation.now in
    let P : Relation → Type 0 = λ q. IsPower r 0 q in
    let Q : List Relation → Type 0 = λ qs. ArePowers r 0 qs in
    record {
      powers = subst Q (sym c.new-powers.ensures.items) tt;
      power = subst P (sym c.copy-power.ensures) (power_first r);
      long = ap length c.new-powers.ensures.items;
      longer = cycle_some (In r);
    }

pub cycle_through-requires-clause-powers : goal.cycle_through-requires-clause-powers
cycle_through-requires-clause-powers c =
    let Q : List Relation → Type 0 = λ qs. ArePowers c.args.relation.now 0 qs in
    subst Q (sym c.deref.ensures.value) c.loop-step.invariant.powers

pub cycle_through-requires-clause-cycle : goal.cycle_through-requires-clause-cycle
cycle_through-requires-clause-cycle c =
    left_first c.args.relation.now c.loop-step.power c.loop-step._step c.in-Some.event (length c.deref.result.now) c.loop-step.invariant.power c.in-Some.ensures (ap length c.deref.ensures.value ∙ c.loop-step.invariant.long)

pub returns-in-Some : goal.returns-in-Some
returns-in-Some c =
    let long : length c.in_ok-cycle_through.field-0.items ≡ c.loop-step._step + 1 = c.in_ok-cycle_through.ensures.length ∙ ap (λ n. n + 1) (ap length c.deref.ensures.value ∙ c.loop-step.invariant.long) in
    let least : (ys : List ℕ) → IsCycle (In c.args.relation.now) ys → length c.in_ok-cycle_through.field-0.items ≤ length ys = λ ys d. (let l = c.loop-step.invariant.longer ys d in omega (arith, l, long)) in
    record {
      cycle = c.in_ok-cycle_through.ensures.cycle;
      once = shortest_once (In c.args.relation.now) c.in_ok-cycle_through.field-0.items c.in_ok-cycle_through.ensures.cycle least;
      shortest = least;
    }

pub seq-longer-requires : goal.seq-longer-requires
seq-longer-requires c = sym c.loop-step.invariant.power.count

pub loop-step-preserved : goal.loop-step-preserved
loop-step-preserved c =
    let r = c.args.relation.now in
    let inv = c.loop-step.invariant in
    let Q : List Relation → Type 0 = λ qs. ArePowers r 0 qs in
    let P : ℕ → Type 0 = λ k. IsPower r k c.loop-step.power in
    let N : ℕ → Type 0 = λ k. IsPower r k c.seq-longer.result in
    let at : c.loop-step._step ≡ 0 + length c.loop-step.powers.items = omega (arith, inv.long) in
    let next = power_next r c.loop-step.power c.seq-longer.result c.loop-step._step c.count-step-end.ensures.canonical inv.power c.seq-longer.ensures in
    record {
      powers = subst Q (sym c.in_ok-push.ensures.items) (powers_push r 0 c.loop-step.powers.items c.loop-step.power inv.powers (subst P at inv.power));
      power = subst N (let e : suc c.loop-step._step ≡ c.loop-step._step + 1 = omega arith in e) next;
      long = search rules;
      longer = longer r c.loop-step.power c.loop-step._step inv.power c.in_default.ensures inv.longer;
    }

pub returns : goal.returns
returns c =
    none_acyclic c.args.relation.now c.args.relation.now.count c.loop-step._step c.count-step-end.ensures.canonical refl (let l = c.loop-step-test.false in let e = c.count-step-end.ensures.is in omega (arith, l, e)) c.loop-step.invariant.longer
