use Rattle.std.proofs.Common.{rules}
use Rattle.suite.proofs.Loaded.{first, unread_at, twice_at, files_on}
use Rattle.suite.proofs.loading.read_files.Goals as goal

pub loop-place-init : goal.loop-place-init
loop-place-init c = first _ c.in_ok-files.ensures

pub returns-in_err-file-clause-cause : goal.returns-in_err-file-clause-cause
returns-in_err-file-clause-cause c =
    unread_at c.args.texts.now c.loop-place.place c.loop-place.files c.index-texts-place.result c.from_residual-in_err-file.result c.in_err-file.field-0.0 c.from_residual-in_err-file.ensures.1
    c.loop-place.invariant c.loop-place-test.true c.index-texts-place.is c.in_err-file.ensures.cause

pub returns-then-version-gt0-clause-cause : goal.returns-then-version-gt0-clause-cause
returns-then-version-gt0-clause-cause c =
    twice_at c.args.texts.now c.loop-place.place c.loop-place.files c.index-texts-place.result c.loop-place.invariant c.loop-place-test.true c.index-texts-place.is (search rules)

pub loop-place-preserved : goal.loop-place-preserved
loop-place-preserved c =
    files_on c.args.texts.now c.loop-place.place c.loop-place.files c.put.new.files c.index-texts-place.result c.in_ok-file.file c.loop-place.invariant c.loop-place-test.true c.index-texts-place.is c.in_ok-file.ensures.file
    (search rules) (search rules)
