use Rattle.std.proofs.Common.{◌+◌, ◌≤◌, length, take, arith, length-take}
use Rattle.std.proofs.lemmas.Grind.{common_steps}
use Rattle.wb_text.proofs.Moves.{loses_more, on_any_err}
use Rattle.wb_text.proofs.source.read_up_to.Goals as goal

pub returns-in_err-extend_from_slice-clause-lost :
    goal.returns-in_err-extend_from_slice-clause-lost
returns-in_err-extend_from_slice-clause-lost g c =
    let small : length c.loop-chunk.bytes.items + length (take c.in_ok-count.count c.take.new.into) ≤ c.args.limit = simp length-take (grind (arith, common_steps)) in
    on_any_err _ (loses_more _ _ _ _ _ c.args.limit c.loop-chunk.invariant.taken c.in_ok-count.ensures.taken small)
