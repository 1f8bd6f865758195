use Rattle.std.proofs.Common.{ℕ, ◌+◌, ◌-◌, List, length, rules, subst, sym}
use Rattle.relations.specs.Relation.{In}
use Rattle.witness.proofs.Shortest.{IsBegun, begun_on, ends_below, left_on, power_of, turn}
use Rattle.witness.proofs.cycles.cycle_through.Goals as goal

pub between-requires-clause-count : goal.between-requires-clause-count
between-requires-clause-count c = (power_of c.args.relation.now c.args.powers.now c.loop-step.step c.index-powers-powers.result c.requires.powers c.loop-step-test.true c.index-powers-powers.is).count

pub between-requires-clause-from : goal.between-requires-clause-from
between-requires-clause-from c = (ends_below c.args.relation.now (length c.args.powers.now - c.loop-step.step) c.loop-step.last c.args.event c.requires.canonical c.loop-step.invariant.left).0

pub between-requires-clause-to : goal.between-requires-clause-to
between-requires-clause-to c = (ends_below c.args.relation.now (length c.args.powers.now - c.loop-step.step) c.loop-step.last c.args.event c.requires.canonical c.loop-step.invariant.left).1

pub unreachable-requires : goal.unreachable-requires
unreachable-requires c =
    let q = c.index-powers-powers.result in
    let h = power_of c.args.relation.now c.args.powers.now c.loop-step.step q c.requires.powers c.loop-step-test.true c.index-powers-powers.is in
    let m = turn c.args.relation.now q (length c.args.powers.now) c.loop-step.step c.loop-step.last c.args.event c.loop-step-test.true h c.loop-step.invariant.left in
    c.in-None.ensures m.0 m.1 m.2

pub loop-step-preserved : goal.loop-step-preserved
loop-step-preserved c =
    let q = c.index-powers-powers.result in
    let h = power_of c.args.relation.now c.args.powers.now c.loop-step.step q c.requires.powers c.loop-step-test.true c.index-powers-powers.is in
    let B : List ℕ → Type 0 = λ done. IsBegun (In c.args.relation.now) done c.in-Some.next c.args.event in
    record {
      begun = subst B (sym c.in_ok-push-in-Some.ensures.items) (begun_on (In c.args.relation.now) c.loop-step.cycle.items c.loop-step.last c.in-Some.next c.args.event c.loop-step.invariant.begun c.in-Some.ensures.0);
      left = left_on c.args.relation.now q (length c.args.powers.now - (c.loop-step.step + 1)) c.in-Some.next c.args.event h c.in-Some.ensures.1;
      long = search rules;
    }
