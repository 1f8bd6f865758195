use Rattle.std.proofs.Common.{rules}
use Rattle.conditions.specs.Conditions.{formula_of}
use Rattle.litmus_syntax.specs.Reading.{conjunction_more, or_more, atomic_with, enclosed_with, propositions_below}
use Rattle.litmus_syntax.proofs.Stops.{ended}
use Rattle.litmus_syntax.proofs.Propositions.{conjunction_turn, conjunction_turn_takes, or_turn, or_turn_takes}
use Rattle.litmus_syntax.proofs.syntax.Reader.+propositions.Goals as goal

-- a turn of each loop takes a symbol, and leaves what is read

pub conjunction-loop-left-smaller : goal.conjunction-loop-left-smaller
unfolding conjunction_more
conjunction-loop-left-smaller t c =
    conjunction_turn_takes c.args.nesting c.loop-left.self.rest.now c.take.new.self.rest.now c.atomic-in-loop-left.new.self.rest.now tt (formula_of c.loop-left.left) (formula_of c.in_ok-left-2.left) c.loop-left-test.ensures
    (c.in_ok-left-2.ensures _ _ c.atomic-in-loop-left.ensures)

pub conjunction-loop-left-preserved : goal.conjunction-loop-left-preserved
unfolding conjunction_more
conjunction-loop-left-preserved t c =
    let turn = conjunction_turn c.args.nesting (formula_of c.loop-left.left) c.loop-left.self.rest.now in
    let told = c.in_ok-left-2.ensures _ _ c.atomic-in-loop-left.ensures in
    search (rules, turn, told)

pub conjunction-returns-in_err-left-2 : goal.conjunction-returns-in_err-left-2
unfolding conjunction_more
conjunction-returns-in_err-left-2 t c =
    let turn = conjunction_turn c.args.nesting (formula_of c.loop-left.left) c.loop-left.self.rest.now in
    let told = c.in_err-left-2.ensures _ _ c.atomic-in-loop-left.ensures in
    search (rules, turn, told)

pub conjunction-returns : goal.conjunction-returns
conjunction-returns t c = let turn = conjunction_turn c.args.nesting (formula_of c.loop-left.left) c.loop-left.self.rest.now in search (rules, turn)

pub disjunction-loop-left-smaller : goal.disjunction-loop-left-smaller
unfolding or_more
disjunction-loop-left-smaller t c =
    or_turn_takes c.args.nesting c.loop-left.self.rest.now c.take.new.self.rest.now c.conjunction-in-loop-left.new.self.rest.now tt (formula_of c.loop-left.left) (formula_of c.in_ok-left-2.left) c.loop-left-test.ensures
    (c.in_ok-left-2.ensures _ _ c.conjunction-in-loop-left.ensures)

pub disjunction-loop-left-preserved : goal.disjunction-loop-left-preserved
unfolding or_more
disjunction-loop-left-preserved t c =
    let turn = or_turn c.args.nesting (formula_of c.loop-left.left) c.loop-left.self.rest.now in
    let told = c.in_ok-left-2.ensures _ _ c.conjunction-in-loop-left.ensures in
    search (rules, turn, told)

pub disjunction-returns-in_err-left-2 : goal.disjunction-returns-in_err-left-2
unfolding or_more
disjunction-returns-in_err-left-2 t c =
    let turn = or_turn c.args.nesting (formula_of c.loop-left.left) c.loop-left.self.rest.now in
    let told = c.in_err-left-2.ensures _ _ c.conjunction-in-loop-left.ensures in
    search (rules, turn, told)

pub disjunction-returns : goal.disjunction-returns
disjunction-returns t c = let turn = or_turn c.args.nesting (formula_of c.loop-left.left) c.loop-left.self.rest.now in search (rules, turn)

-- what nests

pub atomic-returns : goal.atomic-returns
unfolding atomic_with enclosed_with propositions_below
atomic-returns t c = rw (c.if-take_denial.ensures.0, ← c.if-take_denial.ensures.1, c.if-not-take.ensures, c.in_ok-nesting-2.ensures.ok, c.in_ok-inner.ensures, c.and.ensures) (ended _ c.expect.result _ _ _ c.expect.ensures)

pub atomic-returns-then-not-take : goal.atomic-returns-then-not-take
unfolding atomic_with
atomic-returns-then-not-take t c = rw (c.if-take_denial.ensures.0, ← c.if-take_denial.ensures.1, c.if-not-take.ensures.0, ← c.if-not-take.ensures.1) c.plain_atomic.ensures
