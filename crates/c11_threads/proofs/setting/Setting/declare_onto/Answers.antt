use Rattle.std.proofs.Common.{map}
use Rattle.std.proofs.lemmas.Result.{err_from_is_err_and}
use Rattle.litmus_tree.specs.Tree.{declared_of}
use Rattle.c11_threads.specs.Unrolled.{declares_runs}
use Rattle.c11_threads.proofs.Turns.{some_declares, apart_fault, led_fault, led_back, waits}
use Rattle.c11_threads.proofs.setting.Setting.declare_onto.Goals as goal

pub returns-in_err-start : goal.returns-in_err-start
returns-in_err-start c =
    let p = err_from_is_err_and c.from_residual.result c.from_residual.ensures.1 in
    rw (p.1, p.2) (apart_fault (declares_runs c.args.self.now (map declared_of c.args.declarators.now)) c.args.from (some_declares c.args.self.now (map declared_of c.args.declarators.now) c.requires c.args.from) c.args.ends.now _ c.in_err-start.ensures.fault)

pub returns-in_err-more : goal.returns-in_err-more
returns-in_err-more c =
    let p = err_from_is_err_and c.from_residual-in_err-more.result c.from_residual-in_err-more.ensures.1 in
    rw (p.1, p.2) (led_fault (declares_runs c.args.self.now (map declared_of c.args.declarators.now)) c.args.from c.args.ends.now c.in_ok-start.start _ c.in_ok-start.ensures.one c.in_err-more.ensures)

pub returns : goal.returns
returns c = led_back (declares_runs c.args.self.now (map declared_of c.args.declarators.now)) c.args.from c.args.ends.now c.in_ok-start.start c.in_ok-more.more c.append.new.self c.in_ok-start.ensures.one c.in_ok-more.ensures c.in_ok-append.ensures

pub append-requires : goal.append-requires
append-requires c = waits (declares_runs c.args.self.now (map declared_of c.args.declarators.now)) c.args.from c.args.ends.now c.in_ok-start.start c.in_ok-more.more c.in_ok-start.ensures.one c.in_ok-more.ensures
