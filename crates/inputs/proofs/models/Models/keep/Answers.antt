use Rattle.inputs.proofs.Kept.{behind_room, one_more_loaded}
use Rattle.inputs.proofs.models.Models.keep.Goals as goal

pub invariant_of-self-2 : goal.invariant_of-self-2
invariant_of-self-2 c =
    one_more_loaded (λ n. n.items) (λ d. d.items) _ _ _ _ _ _ _ _ _ c.self.invariant c.requires
    (behind_room _ _ _ _ c.reserve.ensures.items c.put.ensures)
    (behind_room _ _ _ _ c.reserve-2.ensures.items c.put-2.ensures)
    (behind_room _ _ _ _ c.reserve-3.ensures.items c.put-3.ensures)
