use Rattle.std.proofs.Common.{◌≡◌, ◌∷◌, ◌∙◌, length, ap, arith}
use Rattle.std.specs.Vec.Iter.{into_iter_items}
use Rattle.std.proofs.lemmas.Result.{err_from_is_err_and}
use Rattle.litmus_tree.specs.Tree.{declared_of}
use Rattle.c11_threads.specs.Unrolled.{declare_runs}
use Rattle.c11_threads.specs.Ways.{extended}
use Rattle.c11_threads.proofs.Turns.{some_declare, some_wait, led_on, all_led, way_fault}
use Rattle.c11_threads.proofs.setting.Setting.declare_each.Goals as goal

pub returns-in_err-declare : goal.returns-in_err-declare
returns-in_err-declare c =
    let p = err_from_is_err_and c.from_residual-in_err-declare.result c.from_residual-in_err-declare.ensures.1 in
    rw (p.1, p.2) (way_fault (declare_runs c.args.self.now (declared_of c.args.declarator.now)) (some_declare c.args.self.now (declared_of c.args.declarator.now) c.requires) c.args.starts c.loop-from.ends c.take_on.new.self (into_iter_items c.loop-from.from-iterator) (into_iter_items c.next.new.self) c.in-Some.from _
    c.in-Some.ensures.steps.0 c.take_on.ensures c.loop-from.invariant.ways c.in_err-declare.ensures)

pub loop-from-preserved : goal.loop-from-preserved
loop-from-preserved c =
    let steps : into_iter_items c.loop-from.from-iterator ≡ c.in-Some.from ∷ into_iter_items c.next.new.self = c.in-Some.ensures.steps.0 in
    let f = declare_runs c.args.self.now (declared_of c.args.declarator.now) in
    record {
      ways = led_on f c.args.starts c.loop-from.ends c.declare.new.ends (into_iter_items c.loop-from.from-iterator) (into_iter_items c.next.new.self) c.in-Some.from steps
          (c.in_ok-declare.ensures ∙ ap (extended (f c.in-Some.from)) c.take_on.ensures) c.loop-from.invariant.ways;
      left = omega (arith, c.in-Some.ensures.steps.1, c.loop-from.invariant.left, ap length steps);
    }

pub returns : goal.returns
returns c =
    let none : length (into_iter_items c.loop-from.from-iterator) ≡ 0 = omega (arith, c.in-None.ensures.steps.0, c.loop-from.invariant.left) in
    all_led (declare_runs c.args.self.now (declared_of c.args.declarator.now)) c.args.starts c.loop-from.ends (into_iter_items c.loop-from.from-iterator) none c.loop-from.invariant.ways

pub take_on-requires : goal.take_on-requires
take_on-requires c = some_wait (declare_runs c.args.self.now (declared_of c.args.declarator.now)) c.args.starts c.loop-from.ends (into_iter_items c.loop-from.from-iterator) (into_iter_items c.next.new.self) c.in-Some.from c.in-Some.ensures.steps.0 c.loop-from.invariant.ways
