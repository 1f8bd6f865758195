use denote.Param.Send.{IsSync, sendable}
use Rattle.std.proofs.Crossing.{crosses}
use Rattle.std.proofs.alloc.Global.TheSendSync.{the_field_sync as heap_sync}
use Rattle.sessions.proofs.Sent.{pass_send, desk_sync}
use Rattle.all_tests.proofs.desk.passes.threads.all.Goals as goal

pub for_each_mut-requires-send-T : goal.for_each_mut-requires-send-T
for_each_mut-requires-send-T g c κs within = search (pass_send, crosses, sendable) depth 60 fits 20000

pub for_each_mut-requires-sync-F : goal.for_each_mut-requires-sync-F
for_each_mut-requires-sync-F g c κs within =
    let runtime : IsSync g.row.R = record { shared = c.type_bounds.sync-R.shared } in
    first_of (search (desk_sync, crosses, sendable) depth 60 fits 20000, search (desk_sync, heap_sync, crosses, sendable) depth 60 fits 20000)
