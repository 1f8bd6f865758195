-- That works, pieces, results and verdicts may go to another thread, and that threads may share them. Types are taken one by one from below, since a
-- search through all of them at once meets its limit.
use denote.Param.Send.{IsSend, IsSync, sendable}
use Rattle.std.proofs.Crossing.{crosses}
use Rattle.std.proofs.MapsCrossing.{crosses as maps_cross}
use Rattle.conditions.proofs.prop.Link.TheLaws.TheKnot as Condition
use Rattle.litmus_tree.proofs.expression.Link.TheLaws.TheKnot as Expression
use Rattle.litmus_tree.proofs.tree.Statement.TheLaws.TheKnot as Statement
use Rattle.litmus_tree.specs.contracts.tree.Thread as Thread
use Rattle.litmus_value.specs.contracts.test.Test as Test
use Rattle.cat_model.specs.contracts.model.Model as Model
use Rattle.slices.specs.contracts.finding.FindingRef as FindingRef
use Rattle.slices.specs.contracts.piece.Piece as Piece
use Rattle.slices.specs.contracts.piece.PieceResult as PieceResult
use Rattle.slices.specs.contracts.tally.Tally as Tally
use Rattle.slices.specs.contracts.verdict.VerdictRef as VerdictRef
use Rattle.slices.specs.contracts.work.WorkRef as WorkRef

thread_send : IsSend Thread.the_row
thread_send = search (crosses, Statement.crosses, Expression.crosses, sendable) depth 60 fits 20000

thread_sync : IsSync Thread.the_row
thread_sync = search (crosses, Statement.crosses, Expression.crosses, sendable) depth 60 fits 20000

pub test_send : IsSend Test.the_row
test_send = search (thread_send, thread_sync, crosses, Condition.crosses, sendable) depth 60 fits 20000

test_sync : IsSync Test.the_row
test_sync = search (thread_send, thread_sync, crosses, Condition.crosses, sendable) depth 60 fits 20000

model_send : IsSend Model.the_row
model_send = search (crosses, sendable) depth 60 fits 20000

model_sync : IsSync Model.the_row
model_sync = search (crosses, sendable) depth 60 fits 20000

pub work_send : IsSend WorkRef.the_row
work_send = search (test_send, test_sync, model_send, model_sync, crosses, sendable) depth 60 fits 20000

pub work_sync : IsSync WorkRef.the_row
work_sync = search (test_send, test_sync, model_send, model_sync, crosses, sendable) depth 60 fits 20000

pub piece_send : IsSend Piece.the_row
piece_send = search (work_send, crosses, sendable) depth 60 fits 20000

pub piece_sync : IsSync Piece.the_row
piece_sync = search (work_sync, crosses, sendable) depth 60 fits 20000

finding_send : IsSend FindingRef.the_row
finding_send = search (maps_cross, work_send, work_sync, crosses, sendable) depth 60 fits 20000

finding_sync : IsSync FindingRef.the_row
finding_sync = search (maps_cross, work_send, work_sync, crosses, sendable) depth 60 fits 20000

pub result_send : IsSend PieceResult.the_row
result_send = search (piece_send, finding_send, crosses, sendable) depth 60 fits 20000

pub tally_send : IsSend Tally.the_row
tally_send = search (work_send, finding_send, crosses, sendable) depth 60 fits 20000

pub verdict_send : IsSend VerdictRef.the_row
verdict_send = search (work_send, work_sync, finding_send, finding_sync, crosses, sendable) depth 60 fits 20000

pub verdict_sync : IsSync VerdictRef.the_row
verdict_sync = search (work_send, work_sync, finding_send, finding_sync, crosses, sendable) depth 60 fits 20000
