use Rattle.std.proofs.Common.{◌∙◌, List, map, ap, sym}
use Rattle.litmus_tree.specs.declared.tree.Declarator.{Declarator}
use Rattle.litmus_tree.specs.Names.{with_names}
use Rattle.litmus_tree.specs.Tree.{declared_of}
use Rattle.litmus_c.proofs.Left.{drop_first}
use Rattle.litmus_c.proofs.making.note_declarators.Goals as goal

pub loop-declarator-preserved : goal.loop-declarator-preserved
loop-declarator-preserved c =
    let before = c.loop-declarator.registers.keys in
    rw c.in_ok-note_name.ensures (sym (ap (λ (ds : List Declarator). with_names before (map (λ d. d.register) (map declared_of ds))) (drop_first c.declarator-item.result c.args.declarators.now c.loop-declarator.declarator-index c.loop-declarator-test.true c.declarator-item.is)) ∙ c.loop-declarator.invariant)
