use Rattle.inputs.proofs.Fronts.{front_of}
use Rattle.inputs.proofs.text.read_front.Goals as goal

pub returns-clause-front : goal.returns-clause-front
returns-clause-front g c =
    front_of g.S.Read.remaining _ _ _ _ _ _ c.take.ensures.limit c.take.ensures.inner c.new-text.ensures.items c.in_ok-read_to_end.ensures.bytes c.truncate.ensures.items
