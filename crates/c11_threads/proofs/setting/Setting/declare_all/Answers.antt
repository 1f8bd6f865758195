use Rattle.std.proofs.lemmas.Result.{err_from_is_err_and}
use Rattle.c11_threads.proofs.Turns.{declared_further, declares_turned, declare_fault, served_at}
use Rattle.c11_threads.proofs.setting.Setting.declare_all.Goals as goal

pub returns-in_err-ends : goal.returns-in_err-ends
returns-in_err-ends c =
    let p = err_from_is_err_and c.from_residual.result c.from_residual.ensures.1 in
    rw (p.1, p.2) (declare_fault c.args.self.now c.args.declarators.now c.requires c.loop-declarator.declarator-index c.declarator-item.result c.loop-declarator.ends _ _ c.loop-declarator-test.true c.declarator-item.is c.loop-declarator.invariant c.in_err-ends.ensures)

pub loop-declarator-preserved : goal.loop-declarator-preserved
loop-declarator-preserved c = declared_further c.args.self.now c.args.declarators.now c.loop-declarator.declarator-index c.declarator-item.result c.loop-declarator.ends c.in_ok-ends.ends _ c.loop-declarator-test.true c.declarator-item.is c.in_ok-ends.ensures c.loop-declarator.invariant

pub returns : goal.returns
returns c = declares_turned c.args.self.now c.args.declarators.now c.loop-declarator.declarator-index c.loop-declarator.ends _ c.loop-declarator-test.false c.loop-declarator.invariant

pub declare_each-requires : goal.declare_each-requires
declare_each-requires c = served_at c.args.self.now.values c.args.declarators.now c.loop-declarator.declarator-index c.declarator-item.result c.requires c.loop-declarator-test.true c.declarator-item.is
