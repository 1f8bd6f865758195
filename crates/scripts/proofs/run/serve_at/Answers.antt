use Rattle.std.proofs.Common.{◌≡◌, ◌∙◌, ◌+◌, ◌-◌, arith, sym, subst}
use Rattle.std.proofs.KnownBytes.{Keeps-refl}
use Rattle.scripts.proofs.Taken.{lost_none}
use Rattle.scripts.specs.Answers.{worker_count}
use Rattle.scripts.specs.Passes.{ending}
use Rattle.scripts.specs.Serving.{AreAnswered}
use Rattle.scripts.proofs.Served.{end_ok, from_start, left_behind, read_fault, served, too_long_from_start, unserved}
use Rattle.scripts.proofs.run.serve_at.Goals as goal

pub returns-in_err-script-clause-served : goal.returns-in_err-script-clause-served
returns-in_err-script-clause-served g c = unserved _ _ _ c.from_residual.result c.from_residual.ensures.1

pub returns-in_err-seats-clause-served : goal.returns-in_err-seats-clause-served
returns-in_err-seats-clause-served g c = unserved _ _ _ c.from_residual-in_err-seats.result c.from_residual-in_err-seats.ensures.1

pub returns-clause-served : goal.returns-clause-served
returns-clause-served g c =
    let reported = c.answer_all-outcome.ensures.reported in
    let old = c.in_ok-seats.seats.desk in
    let new = c.answer_all-outcome.new.seats.desk in
    let same : new ≡ old = c.answer_all-outcome.ensures.desk in
    let size : old ≡ 8 + worker_count c.args.options.now.workers = c.in_ok-seats.ensures.desk ∙ c.seat_count.ensures in
    let workers : new - 8 ≡ worker_count c.args.options.now.workers = omega (arith, same, size) in
    let answered : AreAnswered (new - 8) reported.0 = subst (λ d. AreAnswered (d - 8) reported.0) (sym same) reported.1 in
    let end = ending c.answer_all-outcome.result in
    served (new - 8) (worker_count c.args.options.now.workers) _ _ _ _ end c.end.result reported.0 workers answered reported.3
    (from_start (g.R.Source.left c.args.reader.now) end reported.0 c.in_ok-script.ensures.block c.in_ok-script.ensures.count reported.4) c.end.ensures.follows (c.end.ensures.reported reported.0 answered reported.2)

pub returns-clause-end : goal.returns-clause-end
returns-clause-end g c = end_ok (ending c.answer_all-outcome.result) c.end.result _ c.end.ensures.follows c.answer_all-outcome.ensures.end

pub returns-clause-read : goal.returns-clause-read
returns-clause-read g c e =
    too_long_from_start (g.R.Source.left c.args.reader.now) c.in_ok-script.ensures.block c.in_ok-script.ensures.count
    (c.answer_all-outcome.ensures.read (read_fault (ending c.answer_all-outcome.result) c.end.result c.end.ensures.follows e))

pub returns-in_err-script-clause-left : goal.returns-in_err-script-clause-left
returns-in_err-script-clause-left g c = lost_none _ _ (Keeps-refl _)

pub returns-in_err-seats-clause-left : goal.returns-in_err-seats-clause-left
returns-in_err-seats-clause-left g c = lost_none _ _ (Keeps-refl _)

pub returns-clause-left : goal.returns-clause-left
returns-clause-left g c = left_behind c.answer_all-outcome.new.script.lines.block (g.R.Source.left c.args.reader.now) (g.R.Source.left c.answer_all-outcome.new.reader) c.in_ok-script.ensures.block c.answer_all-outcome.ensures.left
