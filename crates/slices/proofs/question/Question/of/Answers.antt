use Rattle.std.proofs.Common.{◌∙◌, ap, map}
use Rattle.slices.specs.Slots.{slot_of}
use Rattle.slices.proofs.question.Question.of.Goals as goal

pub invariant_of-result : goal.invariant_of-result
invariant_of-result c = record {
  observed = rw (c.condition.ensures, c.listed.ensures) at c.in_ok-places.ensures;
  slots = c.in_ok-slots.ensures ∙ ap (map (slot_of c.args.test.now)) c.deref.ensures.value;
}
