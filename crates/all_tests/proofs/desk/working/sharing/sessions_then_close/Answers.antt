use denote.Param.Send.{IsSync, sendable}
use Rattle.std.proofs.Crossing.{crosses}
use Rattle.std.proofs.alloc.Global.TheSendSync.{the_field_sync as heap_sync}
use Rattle.sessions.proofs.Sent.{pass_send, desk_sync}
use Rattle.all_tests.proofs.desk.working.sharing.sessions_then_close.Goals as goal

pub join-first-requires-send-F : goal.join-first-requires-send-F
join-first-requires-send-F g c κs within =
    let runtime : IsSync g.row.R = record { shared = c.type_bounds.sync-R.shared } in
    first_of (search (pass_send, desk_sync, crosses, sendable) depth 60 fits 20000, search (pass_send, desk_sync, heap_sync, crosses, sendable) depth 60 fits 20000)

pub join-first-requires-send-A : goal.join-first-requires-send-A
join-first-requires-send-A g c κs within = search (pass_send, crosses, sendable) depth 60 fits 20000
