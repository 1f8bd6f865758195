use Rattle.std.proofs.KnownBytes.{Appends-nil}
use Rattle.report.specs.Replies.{file_text}
use Rattle.report.proofs.Written.{exit, flat_map-item, item_on, items_done}
use Rattle.report.proofs.reply.write_files.Goals as goal

pub returns-in_err-write_file : goal.returns-in_err-write_file
returns-in_err-write_file g c =
    exit _ _ _ _ c.from_residual.result _ _ _ _ c.from_residual.ensures.0 c.loop-file.invariant c.in_err-write_file.ensures
    (flat_map-item file_text c.args.files.now c.loop-file.file-index c.file-item.result c.loop-file-test.true c.file-item.is)

pub loop-file-init : goal.loop-file-init
loop-file-init g c = Appends-nil _

pub loop-file-preserved : goal.loop-file-preserved
loop-file-preserved g c = item_on file_text _ _ _ c.args.files.now c.loop-file.file-index c.file-item.result c.loop-file-test.true c.file-item.is c.loop-file.invariant c.in_ok-write_file.ensures

pub returns : goal.returns
returns g c = items_done file_text _ _ c.args.files.now c.loop-file.file-index c.loop-file-test.false c.loop-file.invariant
