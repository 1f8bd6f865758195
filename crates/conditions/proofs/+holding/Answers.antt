use Rattle.std.proofs.Common.{◌∙◌, List, map, ap, sym}
use Rattle.conditions.specs.declared.prop.Link.{Link}
use Rattle.conditions.specs.Chains.{run, passed}
use Rattle.conditions.specs.Conditions.{growth_of}
use Rattle.conditions.proofs.Left.{drop_first}
use Rattle.conditions.proofs.+holding.Goals as goal

pub state::holds-loop-link-preserved : goal.state::holds-loop-link-preserved
state::holds-loop-link-preserved t c =
    let links = c.args.prop.now.rest.items in
    let at = c.loop-link.link-index in
    let here = rw c.deref-link-items.ensures.value at c.loop-link-test.true in
    let is = rw c.deref-link-items.ensures.value at c.link-item.is in
    rw c.holds-so_far-in-loop-link.ensures (sym (ap (λ (ls : List Link). run (passed c.args.state.now) c.loop-link.so_far (map growth_of ls)) (drop_first c.link-item.result links at here is)) ∙ c.loop-link.invariant)
