use denote.Param.Send.{sendable}
use Rattle.std.proofs.Common.{arith, rules}
use Rattle.std.proofs.Crossing.{crosses}
use Rattle.std.proofs.alloc.Global.TheSendSync.{the_field_sync as heap_sync}
use Rattle.std.proofs.lemmas.Result.{IfOk-weaker}
use Rattle.slices.proofs.Sent.{work_sync, result_send}
use Rattle.suite.proofs.EachSlice.{both_ok}
use Rattle.suite.proofs.together.evaluate_round.Goals as goal

pub map_indices-requires-send-X : goal.map_indices-requires-send-X
map_indices-requires-send-X g c κs within = search (result_send, crosses, sendable) depth 60 fits 20000

pub map_indices-requires-sync-F : goal.map_indices-requires-sync-F
map_indices-requires-sync-F g c κs within = search (work_sync, heap_sync, crosses, sendable) depth 60 fits 20000

pub returns-clause-found : goal.returns-clause-found
returns-clause-found g c =
    IfOk-weaker c.map_indices.result _ _ (λ v h. λ t d l. let k = (h.1 t d (omega (arith, l, h.0))).1 in search rules)
    (both_ok c.map_indices.result _ _ c.map_indices.ensures.len c.map_indices.ensures.each)
