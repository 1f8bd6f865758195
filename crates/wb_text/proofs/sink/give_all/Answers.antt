use Rattle.wb_text.proofs.Moves.{gives_range}
use Rattle.wb_text.proofs.sink.give_all.Goals as goal

pub loop-rest-preserved : goal.loop-rest-preserved
loop-rest-preserved g c = record {
  given = gives_range _ _ _ _ _ c.in_ok-count.count c.loop-rest.invariant.given c.in_ok-count.ensures.given;
  lasting = λ h. c.give.ensures.lasting (c.loop-rest.invariant.lasting h);
}
