use Rattle.std.proofs.Common.{◌≡◌, ◌∷◌, ◌∙◌, List, length, ap, sym, subst, arith, rules, true, false}
use Rattle.std.specs.Vec.Iter.{into_iter_items}
use Rattle.std.proofs.lemmas.Result.{err_from_is_err_and}
use Rattle.litmus_tree.specs.declared.tree.RightSide.TheVariants.{Value as Value'}
use Rattle.litmus_tree.specs.declared.tree.Statement.TheVariants.{Assign as Assign', If as If'}
use Rattle.litmus_tree.proofs.tree.Statement.TheLaws.{the_size}
use Rattle.litmus_tree.specs.Tree.{Step, step_of, steps_of, term_of}
use denote.Param.Weighed.{at_most}
use Rattle.c11_threads.specs.Runs.{Progress}
use Rattle.c11_threads.specs.declared.content.Content.{Content}
use Rattle.c11_threads.specs.Unrolled.{in_arm, under, holds, step_runs, steps_runs}
use Rattle.c11_threads.specs.Ways.{extended, Adds, Leads}
use Rattle.c11_threads.proofs.Turns.{Goes, arm_taken, arm_behind_else, arm_untaken, empty_step, declare_step, assign_step, write_step, perform_step, block_step, declare_serves, some_step, some_steps, some_wait, led_on, all_led, way_fault, apart_fault, led_fault, led_back, waits, further, turned, turn_fault, after_idle, in_value, in_block, in_declare, serves_at}
use Rattle.c11_threads.proofs.setting.Setting.+performing.Goals as goal

pub perform-returns-in-Empty : goal.perform-returns-in-Empty
perform-returns-in-Empty n c =
    let P : Step → Type 0 = λ b. Adds (step_runs b c.args.self.now c.args.from) c.args.ends.now c.add.new.self c.add.result in
    subst P (sym (empty_step c.args.statement.now c.in-Empty.is)) c.add.ensures

pub perform-returns-in-Block : goal.perform-returns-in-Block
perform-returns-in-Block n c =
    let P : Step → Type 0 = λ b. Adds (step_runs b c.args.self.now c.args.from) c.args.ends.now c.perform_onto.new.ends c.perform_onto.result in
    subst P (sym (block_step c.args.statement.now c.in-Block.statements c.in-Block.is)) (rw c.as_slice.ensures.value at c.perform_onto.ensures)

pub perform-returns-in-Declare : goal.perform-returns-in-Declare
perform-returns-in-Declare n c =
    let P : Step → Type 0 = λ b. Adds (step_runs b c.args.self.now c.args.from) c.args.ends.now c.declare_onto.new.ends c.declare_onto.result in
    subst P (sym (declare_step c.args.statement.now c.in-Declare.declarators c.in-Declare.is)) (rw c.as_slice-in-Declare.ensures.value at c.declare_onto.ensures)

pub perform-returns-in-Assign : goal.perform-returns-in-Assign
perform-returns-in-Assign n c =
    let P : Step → Type 0 = λ b. Adds (step_runs b c.args.self.now c.args.from) c.args.ends.now c.assign.new.ends c.assign.result in
    subst P (sym (assign_step c.args.statement.now c.in-Assign.register c.in-Assign.right c.in-Assign.is)) (rw c.register.ensures at c.assign.ensures)

pub perform-returns-in-Write : goal.perform-returns-in-Write
perform-returns-in-Write n c =
    let P : Step → Type 0 = λ b. Adds (step_runs b c.args.self.now c.args.from) c.args.ends.now c.happen.new.ends c.happen.result in
    subst P (sym (write_step c.args.statement.now c.in-Write.location c.in-Write.expression c.in-Write.is)) (rw (c.access-write.ensures, c.content-content.ensures) at c.happen.ensures)

pub perform-returns-in-Perform : goal.perform-returns-in-Perform
perform-returns-in-Perform n c =
    let P : Step → Type 0 = λ b. Adds (step_runs b c.args.self.now c.args.from) c.args.ends.now c.call.new.ends c.call.result in
    subst P (sym (perform_step c.args.statement.now c.in-Perform.call c.in-Perform.is)) c.call.ensures

pub perform-returns-then-test-ne0 : goal.perform-returns-then-test-ne0
perform-returns-then-test-ne0 n c =
    let s = c.args.self.now in
    let e = term_of c.in-If.expression in
    let test : holds s e c.args.from ≡ true = search rules in
    let arm : c.inside-arm.result ≡ under s e c.args.from = c.inside-arm.ensures ∙ ap (λ (w : Content). in_arm s w.reads) c.content-test.ensures in
    let P : List Progress → Type 0 = λ rs. Adds rs c.args.ends.now c.perform.new.ends c.perform.result in
    subst P (arm_taken s c.args.from c.args.statement.now c.in-If.expression c.in-If.first c.in-If.second c.in-If.is test) (rw (arm, c.deref.ensures) at c.perform.ensures)

pub perform-returns-in-Some : goal.perform-returns-in-Some
perform-returns-in-Some n c =
    let s = c.args.self.now in
    let e = term_of c.in-If.expression in
    let test : holds s e c.args.from ≡ false = search rules in
    let arm : c.inside-arm.result ≡ under s e c.args.from = c.inside-arm.ensures ∙ ap (λ (w : Content). in_arm s w.reads) c.content-test.ensures in
    let P : List Progress → Type 0 = λ rs. Adds rs c.args.ends.now c.perform-in-Some.new.ends c.perform-in-Some.result in
    subst P (arm_behind_else s c.args.from c.args.statement.now c.in-If.expression c.in-If.first c.in-Some.second (c.in-If.is ∙ ap (If' c.in-If.expression c.in-If.first) c.in-Some.is) test) (rw (arm, c.deref-in-Some.ensures) at c.perform-in-Some.ensures)

pub perform-returns-in-None : goal.perform-returns-in-None
perform-returns-in-None n c =
    let s = c.args.self.now in
    let e = term_of c.in-If.expression in
    let test : holds s e c.args.from ≡ false = search rules in
    let P : List Progress → Type 0 = λ rs. Adds rs c.args.ends.now c.add-in-None.new.self c.add-in-None.result in
    subst P (arm_untaken s c.args.from c.args.statement.now c.in-If.expression c.in-If.first (c.in-If.is ∙ ap (If' c.in-If.expression c.in-If.first) c.in-None.is) test) c.add-in-None.ensures

pub perform_all-returns-in_err-ends : goal.perform_all-returns-in_err-ends
perform_all-returns-in_err-ends n c =
    let p = err_from_is_err_and c.from_residual.result c.from_residual.ensures.1 in
    rw (p.1, p.2) (turn_fault c.args.self.now c.args.statements.now c.requires c.loop-statement.statement-index c.statement-item.result c.loop-statement.ends _ _ c.loop-statement-test.true c.statement-item.is c.loop-statement.invariant c.in_err-ends.ensures)

pub perform_all-loop-statement-preserved : goal.perform_all-loop-statement-preserved
perform_all-loop-statement-preserved n c = further c.args.self.now c.args.statements.now c.loop-statement.statement-index c.statement-item.result c.loop-statement.ends c.in_ok-ends.ends _ c.loop-statement-test.true c.statement-item.is c.in_ok-ends.ensures c.loop-statement.invariant

pub perform_all-returns : goal.perform_all-returns
perform_all-returns n c = turned c.args.self.now c.args.statements.now c.loop-statement.statement-index c.loop-statement.ends _ c.loop-statement-test.false c.loop-statement.invariant

pub perform_all-perform_each-requires : goal.perform_all-perform_each-requires
perform_all-perform_each-requires n c =
    let statements = c.args.statements.now in
    let at = c.loop-statement.statement-index in
    let item = c.statement-item.result in (
      omega (arith, c.decreases, at_most the_size statements at item c.loop-statement-test.true, ap the_size c.statement-item.is),
      serves_at c.args.self.now.values statements at item c.requires c.loop-statement-test.true c.statement-item.is,
    )

pub perform_apart-returns-in_err-perform : goal.perform_apart-returns-in_err-perform
perform_apart-returns-in_err-perform n c =
    let p = err_from_is_err_and c.from_residual-in_err-perform.result c.from_residual-in_err-perform.ensures.1 in
    rw (p.1, p.2) (way_fault (step_runs (step_of c.args.statement.now) c.args.self.now) (some_step (step_of c.args.statement.now) c.args.self.now c.requires) c.args.starts c.loop-from.ends c.take_on.new.self (into_iter_items c.loop-from.from-iterator) (into_iter_items c.next.new.self) c.in-Some.from _
    c.in-Some.ensures.steps.0 c.take_on.ensures c.loop-from.invariant.ways c.in_err-perform.ensures)

pub perform_apart-loop-from-preserved : goal.perform_apart-loop-from-preserved
perform_apart-loop-from-preserved n c =
    let steps : into_iter_items c.loop-from.from-iterator ≡ c.in-Some.from ∷ into_iter_items c.next.new.self = c.in-Some.ensures.steps.0 in
    let f = step_runs (step_of c.args.statement.now) c.args.self.now in
    record {
      ways = led_on f c.args.starts c.loop-from.ends c.perform.new.ends (into_iter_items c.loop-from.from-iterator) (into_iter_items c.next.new.self) c.in-Some.from steps
          (c.in_ok-perform.ensures ∙ ap (extended (f c.in-Some.from)) c.take_on.ensures) c.loop-from.invariant.ways;
      left = omega (arith, c.in-Some.ensures.steps.1, c.loop-from.invariant.left, ap length steps);
    }

pub perform_apart-returns : goal.perform_apart-returns
perform_apart-returns n c =
    let none : length (into_iter_items c.loop-from.from-iterator) ≡ 0 = omega (arith, c.in-None.ensures.steps.0, c.loop-from.invariant.left) in
    all_led (step_runs (step_of c.args.statement.now) c.args.self.now) c.args.starts c.loop-from.ends (into_iter_items c.loop-from.from-iterator) none c.loop-from.invariant.ways

pub perform_apart-take_on-requires : goal.perform_apart-take_on-requires
perform_apart-take_on-requires n c = some_wait (step_runs (step_of c.args.statement.now) c.args.self.now) c.args.starts c.loop-from.ends (into_iter_items c.loop-from.from-iterator) (into_iter_items c.next.new.self) c.in-Some.from c.in-Some.ensures.steps.0 c.loop-from.invariant.ways

pub perform_each-returns-then-is_idle : goal.perform_each-returns-then-is_idle
perform_each-returns-then-is_idle n c = after_idle c.args.self.now (step_of c.args.statement.now) c.args.starts (sym c.is_idle.ensures ∙ c.if-is_idle.true)

pub perform_each-returns-in-Block : goal.perform_each-returns-in-Block
perform_each-returns-in-Block n c =
    let P : Goes → Type 0 = λ f. Leads f c.args.starts c.perform_all.result in
    subst P (in_block c.args.self.now c.args.statement.now c.as_slice.result.now c.in-Block.statements c.in-Block.is c.as_slice.ensures.value) c.perform_all.ensures

pub perform_each-returns-in-Declare : goal.perform_each-returns-in-Declare
perform_each-returns-in-Declare n c =
    let P : Goes → Type 0 = λ f. Leads f c.args.starts c.declare_all.result in
    subst P (in_declare c.args.self.now c.args.statement.now c.as_slice-in-Declare.result.now c.in-Declare.declarators c.in-Declare.is c.as_slice-in-Declare.ensures.value) c.declare_all.ensures

pub perform_each-returns-in-Value : goal.perform_each-returns-in-Value
perform_each-returns-in-Value n c =
    let is : c.args.statement.now ≡ Assign' c.in-Assign.register (Value' c.in-Value.expression) = c.in-Assign.is ∙ ap (Assign' c.in-Assign.register) c.in-Value.is in
    c.giving.ensures ∙ in_value c.args.self.now c.args.statement.now c.in-Assign.register c.in-Value.expression c.register.result c.args.starts is c.register.ensures

pub perform_onto-returns-in_err-start : goal.perform_onto-returns-in_err-start
perform_onto-returns-in_err-start n c =
    let p = err_from_is_err_and c.from_residual.result c.from_residual.ensures.1 in
    rw (p.1, p.2) (apart_fault (steps_runs (steps_of c.args.statements.now) c.args.self.now) c.args.from (some_steps (steps_of c.args.statements.now) c.args.self.now c.requires c.args.from) c.args.ends.now _ c.in_err-start.ensures.fault)

pub perform_onto-returns-in_err-more : goal.perform_onto-returns-in_err-more
perform_onto-returns-in_err-more n c =
    let p = err_from_is_err_and c.from_residual-in_err-more.result c.from_residual-in_err-more.ensures.1 in
    rw (p.1, p.2) (led_fault (steps_runs (steps_of c.args.statements.now) c.args.self.now) c.args.from c.args.ends.now c.in_ok-start.start _ c.in_ok-start.ensures.one c.in_err-more.ensures)

pub perform_onto-returns : goal.perform_onto-returns
perform_onto-returns n c = led_back (steps_runs (steps_of c.args.statements.now) c.args.self.now) c.args.from c.args.ends.now c.in_ok-start.start c.in_ok-more.more c.append.new.self c.in_ok-start.ensures.one c.in_ok-more.ensures c.in_ok-append.ensures

pub perform_onto-append-requires : goal.perform_onto-append-requires
perform_onto-append-requires n c = waits (steps_runs (steps_of c.args.statements.now) c.args.self.now) c.args.from c.args.ends.now c.in_ok-start.start c.in_ok-more.more c.in_ok-start.ensures.one c.in_ok-more.ensures

pub perform-declare_onto-requires : goal.perform-declare_onto-requires
perform-declare_onto-requires n c = declare_serves c.args.self.now.values c.args.statement.now c.as_slice-in-Declare.result.now c.in-Declare.declarators c.in-Declare.is c.as_slice-in-Declare.ensures.value c.requires

pub perform_each-declare_all-requires : goal.perform_each-declare_all-requires
perform_each-declare_all-requires n c = declare_serves c.args.self.now.values c.args.statement.now c.as_slice-in-Declare.result.now c.in-Declare.declarators c.in-Declare.is c.as_slice-in-Declare.ensures.value c.requires

pub perform_each-perform_apart-requires : goal.perform_each-perform_apart-requires
perform_each-perform_apart-requires n c = (omega (arith, c.decreases), c.requires)

pub perform_each-perform_apart-requires-in_default : goal.perform_each-perform_apart-requires-in_default
perform_each-perform_apart-requires-in_default n c = (omega (arith, c.decreases), c.requires)

pub perform_apart-perform-requires : goal.perform_apart-perform-requires
perform_apart-perform-requires n c = (omega (arith, c.decreases), c.requires)

pub perform_onto-perform_all-requires : goal.perform_onto-perform_all-requires
perform_onto-perform_all-requires n c = (omega (arith, c.decreases), c.requires)
