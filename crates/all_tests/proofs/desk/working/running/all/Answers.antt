use denote.Param.Send.{IsSync, sendable}
use Rattle.std.proofs.Crossing.{crosses}
use Rattle.std.proofs.alloc.Global.TheSendSync.{the_field_sync as heap_sync}
use Rattle.sessions.proofs.Sent.{pass_send, desk_sync}
use Rattle.workers.proofs.threads.Report.TheSendSync.{the_field_send as report_send}
use Rattle.all_tests.proofs.desk.working.running.all.Goals as goal

pub join-workers-requires-send-F : goal.join-workers-requires-send-F
join-workers-requires-send-F g c κs within =
    let runtime : IsSync g.row.R = record { shared = c.type_bounds.sync-R.shared } in
    first_of (search (pass_send, desk_sync, crosses, sendable) depth 60 fits 20000, search (pass_send, desk_sync, heap_sync, crosses, sendable) depth 60 fits 20000)

pub join-workers-requires-send-A : goal.join-workers-requires-send-A
join-workers-requires-send-A g c κs within = search (report_send, pass_send, crosses, sendable) depth 60 fits 20000
