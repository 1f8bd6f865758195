use Rattle.std.proofs.Common.{refl, ap, ◌∙◌, ◌++◌}
use Rattle.std.specs.List.{flat_map}
use Rattle.outcome.proofs.Added.{element_on, none_left}
use Rattle.outcome.proofs.refusal.push_parts.Goals as goal

pub loop-part-preserved : goal.loop-part-preserved
loop-part-preserved c =
    element_on c.args.parts.now c.loop-part.part-index _ (flat_map (λ p. p.now)) _ c.loop-part.text.items _ _ c.loop-part-test.true refl
    (c.in_ok-extend_from_slice.ensures.items ∙ ap (λ l. c.loop-part.text.items ++ l) c.as_bytes.ensures.value) c.loop-part.invariant

pub returns : goal.returns
returns c = none_left c.args.parts.now c.loop-part.part-index (flat_map (λ p. p.now)) c.loop-part.text.items _ c.loop-part-test.false refl c.loop-part.invariant
