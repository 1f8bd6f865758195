use Rattle.std.proofs.Common.{◌+◌, ◌∙◌, List, Bool, drop, map, ap, sym}
use Rattle.std.specs.Prelude.{◌&&◌}
use Rattle.std.specs.List.{list_all}
use Rattle.conditions.specs.declared.prop.Link.{Link}
use Rattle.conditions.specs.Conditions.{growth_of, atomic}
use Rattle.litmus_c.specs.Rules.{connected_is_fair}
use Rattle.litmus_c.proofs.Left.{drop_first}
use Rattle.litmus_c.proofs.Chains.{fair_behind, unfair_before}
use Rattle.litmus_c.proofs.rules.+formulas.Goals as goal

pub formula_is_fair-returns-then-atom_is_fair : goal.formula_is_fair-returns-then-atom_is_fair
formula_is_fair-returns-then-atom_is_fair t c =
    c.are_fair.ensures ∙
    fair_behind c.args.threads.now c.args.locations.now (atomic c.args.prop.now.first) (map growth_of c.args.prop.now.rest.items)
    (sym c.atom_is_fair.ensures ∙ c.if-atom_is_fair.true)

pub formula_is_fair-returns-else-atom_is_fair : goal.formula_is_fair-returns-else-atom_is_fair
formula_is_fair-returns-else-atom_is_fair t c =
    c.if-atom_is_fair.false ∙
    unfair_before c.args.threads.now c.args.locations.now (atomic c.args.prop.now.first) (map growth_of c.args.prop.now.rest.items)
    (sym c.atom_is_fair.ensures ∙ c.if-atom_is_fair.false)

pub are_fair-loop-link-preserved : goal.are_fair-loop-link-preserved
are_fair-loop-link-preserved t c =
    let links = c.args.links.now.items in
    let at = c.loop-link.link-index in
    let here = rw c.deref-link-items.ensures.value at c.loop-link-test.true in
    let is = rw c.deref-link-items.ensures.value at c.link-item.is in
    let keeps = connected_is_fair c.args.threads.now c.args.locations.now in
    let rest = list_all keeps (map growth_of (drop (at + 1) links)) in
    ap (λ (b : Bool). b && rest) c.if-not-is_fair.ensures ∙ sym (ap (λ (ls : List Link). list_all keeps (map growth_of ls)) (drop_first c.link-item.result links at here is)) ∙ c.loop-link.invariant

pub are_fair-returns-then-not-is_fair : goal.are_fair-returns-then-not-is_fair
are_fair-returns-then-not-is_fair t c =
    let links = c.args.links.now.items in
    let at = c.loop-link.link-index in
    let here = rw c.deref-link-items.ensures.value at c.loop-link-test.true in
    let is = rw c.deref-link-items.ensures.value at c.link-item.is in
    let keeps = connected_is_fair c.args.threads.now c.args.locations.now in
    let rest = list_all keeps (map growth_of (drop (at + 1) links)) in
    ap (λ (b : Bool). b && rest) c.if-not-is_fair.ensures ∙ sym (ap (λ (ls : List Link). list_all keeps (map growth_of ls)) (drop_first c.link-item.result links at here is)) ∙ c.loop-link.invariant
