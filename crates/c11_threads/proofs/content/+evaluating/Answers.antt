use Rattle.std.proofs.Common.{◌∙◌, List, map, ap, sym}
use Rattle.litmus_tree.specs.declared.expression.Link.{Link}
use Rattle.litmus_tree.specs.Chains.{run}
use Rattle.litmus_tree.specs.Tree.{growth_of}
use Rattle.c11_threads.specs.Contents.{passed}
use Rattle.c11_threads.proofs.Turns.{drop_first}
use Rattle.c11_threads.proofs.content.+evaluating.Goals as goal

pub content_of-loop-link-preserved : goal.content_of-loop-link-preserved
content_of-loop-link-preserved t c =
    let links = c.args.expression.now.rest.items in
    let here = rw c.deref-link-items.ensures.value at c.loop-link-test.true in
    let is = rw c.deref-link-items.ensures.value at c.link-item.is in
    rw c.link_content-so_far.ensures (sym (ap (λ (ls : List Link). run (passed c.args.names.now c.args.registers.now) c.loop-link.so_far (map growth_of ls)) (drop_first c.link-item.result links c.loop-link.link-index here is)) ∙ c.loop-link.invariant)
