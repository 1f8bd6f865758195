use Rattle.std.specs.Prelude.{◌++◌, option_map}
use Rattle.drawing.specs.declared.arrows.Relation.TheVariants.{Po, Rf, Co, Fr, Rmw}
use Rattle.drawing.specs.Dots.{plain_lines, evidence_lines, arrows_lines}
use Rattle.drawing.proofs.Adding.{both, three}
use Rattle.drawing.proofs.graphviz.push_arrows.Goals as goal

pub returns : goal.returns
unfolding arrows_lines
returns c =
    let chain = option_map (λ c. c.now) c.args.chain in
    let of = plain_lines c.args.scene.now chain in
    let old = c.args.out.now.items in
    let rf = both old c.push_relation.new.out.items c.push_relation-2.new.out.items (of Po) (of Rf) c.in_ok-push_relation.ensures c.in_ok-push_relation-2.ensures in
    let co = both old c.push_relation-2.new.out.items c.push_relation-3.new.out.items (of Po ++ of Rf) (of Co) rf c.in_ok-push_relation-3.ensures in
    let fr = both old c.push_relation-3.new.out.items c.push_relation-4.new.out.items (of Po ++ of Rf ++ of Co) (of Fr) co c.in_ok-push_relation-4.ensures in
    three c.push_evidence.result old c.push_relation-4.new.out.items c.push_relation-5.new.out.items c.push_evidence.new.out.items
    (of Po ++ of Rf ++ of Co ++ of Fr) (of Rmw) (evidence_lines c.args.scene.now chain) fr c.in_ok-push_relation-5.ensures c.push_evidence.ensures
