use Rattle.std.proofs.Common.{◌++◌, ◌∙◌, List, ap, refl}
use Rattle.std.specs.Prelude.{flat_map, option_map}
use Rattle.drawing.specs.declared.arrows.Arrow.{Arrow}
use Rattle.drawing.specs.Dots.{plain_line}
use Rattle.drawing.proofs.Adding.{added, all_added}
use Rattle.drawing.proofs.graphviz.push_relation.Goals as goal

pub loop-arrow-preserved : goal.loop-arrow-preserved
loop-arrow-preserved c =
    let F = flat_map (plain_line c.args.scene.now (option_map (λ c. c.now) c.args.chain) c.args.relation) in
    added F F c.deref-arrow-items.result.now c.loop-arrow.arrow-index _ _ c.loop-arrow.out.items c.push_plain.new.out.items _ c.loop-arrow-test.true refl c.in_ok-push_plain.ensures c.loop-arrow.invariant

pub returns : goal.returns
returns c =
    let F = flat_map (plain_line c.args.scene.now (option_map (λ c. c.now) c.args.chain) c.args.relation) in
    all_added F c.deref-arrow-items.result.now c.loop-arrow.arrow-index c.loop-arrow.out.items _ c.loop-arrow-test.false refl c.loop-arrow.invariant
    ∙ ap (λ (as' : List Arrow). c.args.out.now.items ++ F as') (c.deref-arrow-items.ensures.value ∙ c.in_ok-arrows.ensures)
