use Rattle.std.proofs.Common.{◌+◌, ◌∙◌, List, Bool, drop, map, ap, sym}
use Rattle.std.specs.Prelude.{◌&&◌}
use Rattle.std.specs.List.{list_all}
use Rattle.litmus_tree.specs.declared.expression.Link.{Link}
use Rattle.litmus_tree.specs.Tree.{growth_of, leaf_of}
use Rattle.litmus_c.specs.Rules.{growth_keeps}
use Rattle.litmus_c.proofs.Left.{drop_first}
use Rattle.litmus_c.proofs.Chains.{kept_behind, broken_before}
use Rattle.litmus_c.proofs.rules.Scope.+terms.Goals as goal

pub term_keeps-returns-then-leaf_keeps : goal.term_keeps-returns-then-leaf_keeps
term_keeps-returns-then-leaf_keeps t c =
    c.links_keep.ensures ∙
    kept_behind c.args.self.now.rule c.args.self.now.thread.now.parameters c.args.self.now.thread.now.registers (leaf_of c.args.expression.now.first) (map growth_of c.args.expression.now.rest.items)
    (sym c.leaf_keeps.ensures ∙ c.if-leaf_keeps.true)

pub term_keeps-returns-else-leaf_keeps : goal.term_keeps-returns-else-leaf_keeps
term_keeps-returns-else-leaf_keeps t c =
    c.if-leaf_keeps.false ∙
    broken_before c.args.self.now.rule c.args.self.now.thread.now.parameters c.args.self.now.thread.now.registers (leaf_of c.args.expression.now.first) (map growth_of c.args.expression.now.rest.items)
    (sym c.leaf_keeps.ensures ∙ c.if-leaf_keeps.false)

pub links_keep-loop-link-preserved : goal.links_keep-loop-link-preserved
links_keep-loop-link-preserved t c =
    let links = c.args.links.now.items in
    let at = c.loop-link.link-index in
    let here = rw c.deref-link-items.ensures.value at c.loop-link-test.true in
    let is = rw c.deref-link-items.ensures.value at c.link-item.is in
    let keeps = growth_keeps c.args.self.now.rule c.args.self.now.thread.now.parameters c.args.self.now.thread.now.registers in
    let rest = list_all keeps (map growth_of (drop (at + 1) links)) in
    ap (λ (b : Bool). b && rest) c.if-not-link_keeps.ensures ∙ sym (ap (λ (ls : List Link). list_all keeps (map growth_of ls)) (drop_first c.link-item.result links at here is)) ∙ c.loop-link.invariant

pub links_keep-returns-then-not-link_keeps : goal.links_keep-returns-then-not-link_keeps
links_keep-returns-then-not-link_keeps t c =
    let links = c.args.links.now.items in
    let at = c.loop-link.link-index in
    let here = rw c.deref-link-items.ensures.value at c.loop-link-test.true in
    let is = rw c.deref-link-items.ensures.value at c.link-item.is in
    let keeps = growth_keeps c.args.self.now.rule c.args.self.now.thread.now.parameters c.args.self.now.thread.now.registers in
    let rest = list_all keeps (map growth_of (drop (at + 1) links)) in
    ap (λ (b : Bool). b && rest) c.if-not-link_keeps.ensures ∙ sym (ap (λ (ls : List Link). list_all keeps (map growth_of ls)) (drop_first c.link-item.result links at here is)) ∙ c.loop-link.invariant
