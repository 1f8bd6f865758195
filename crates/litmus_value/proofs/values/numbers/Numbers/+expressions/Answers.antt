use Rattle.std.proofs.Common.{sym, ap, ◌∙◌, ◌+◌, drop, map}
use Rattle.std.specs.List.{flat_map}
use Rattle.std.proofs.lemmas.Result.{err_from_is_err_and}
use Rattle.litmus_tree.specs.Tree.{growth_of}
use Rattle.litmus_value.specs.Gathering.{gathered, all_noted}
use Rattle.litmus_value.specs.Values.{growth_numerals}
use Rattle.litmus_value.proofs.Noted.{next_of, full_whole}
use Rattle.litmus_value.proofs.Terms.{term_noted}
use Rattle.litmus_value.proofs.values.numbers.Numbers.+expressions.Goals as goal

pub note_links-returns-in_err-note_link-clause-fault : goal.note_links-returns-in_err-note_link-clause-fault
note_links-returns-in_err-note_link-clause-fault t c =
    let p = err_from_is_err_and c.from_residual.result c.from_residual.ensures.1 in
    let after = next_of growth_numerals growth_of c.link-item.result c.args.links.now.items c.loop-link.link-index (gathered c.loop-link.self) (rw c.deref-link-items.ensures.value at c.loop-link-test.true) (rw c.deref-link-items.ensures.value at c.link-item.is) in
    rw (p.1, p.2) (full_whole _ _ (flat_map growth_numerals (map growth_of (drop (c.loop-link.link-index + 1) c.args.links.now.items))) _ (sym after ∙ c.loop-link.invariant.rest) c.in_err-note_link.ensures.fault)

pub note_links-loop-link-preserved : goal.note_links-loop-link-preserved
note_links-loop-link-preserved t c = record {
  rest = (
      let after = next_of growth_numerals growth_of c.link-item.result c.args.links.now.items c.loop-link.link-index (gathered c.loop-link.self) (rw c.deref-link-items.ensures.value at c.loop-link-test.true) (rw c.deref-link-items.ensures.value at c.link-item.is) in
      ap (λ g. all_noted g (flat_map growth_numerals (map growth_of (drop (c.loop-link.link-index + 1) c.args.links.now.items)))) c.in_ok-note_link.ensures.done ∙ sym after ∙ c.loop-link.invariant.rest);
  within = c.in_ok-note_link.ensures.within;
}

pub note_expression-returns-in_err-note_leaf-clause-fault : goal.note_expression-returns-in_err-note_leaf-clause-fault
note_expression-returns-in_err-note_leaf-clause-fault t c =
    let p = err_from_is_err_and c.from_residual.result c.from_residual.ensures.1 in
    rw (p.1, p.2) (full_whole _ _ (flat_map growth_numerals (map growth_of c.args.expression.now.rest.items)) _ (sym (term_noted (gathered c.args.self.now) c.args.expression.now)) c.in_err-note_leaf.ensures.fault)
