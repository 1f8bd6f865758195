use Rattle.std.proofs.Common.{sym, ap, ◌∙◌, ◌+◌, drop, map}
use Rattle.std.specs.List.{flat_map}
use Rattle.std.proofs.lemmas.Result.{err_from_is_err_and}
use Rattle.litmus_tree.specs.Tree.{declared_of}
use Rattle.litmus_value.specs.Gathering.{gathered, all_noted}
use Rattle.litmus_value.specs.Values.{optional_numerals}
use Rattle.litmus_value.proofs.Noted.{next_of, full_whole}
use Rattle.litmus_value.proofs.values.numbers.Numbers.note_declarators.Goals as goal

pub returns-in_err-note_declarator-clause-fault : goal.returns-in_err-note_declarator-clause-fault
returns-in_err-note_declarator-clause-fault c =
    let p = err_from_is_err_and c.from_residual.result c.from_residual.ensures.1 in
    let after = next_of (λ d. optional_numerals d.value) declared_of c.declarator-item.result c.args.declarators.now c.loop-declarator.declarator-index (gathered c.loop-declarator.self) c.loop-declarator-test.true c.declarator-item.is in
    rw (p.1, p.2) (full_whole _ _ (flat_map (λ d. optional_numerals d.value) (map declared_of (drop (c.loop-declarator.declarator-index + 1) c.args.declarators.now))) _ (sym after ∙ c.loop-declarator.invariant.rest) c.in_err-note_declarator.ensures.fault)

pub loop-declarator-preserved : goal.loop-declarator-preserved
loop-declarator-preserved c = record {
  rest = (
      let after = next_of (λ d. optional_numerals d.value) declared_of c.declarator-item.result c.args.declarators.now c.loop-declarator.declarator-index (gathered c.loop-declarator.self) c.loop-declarator-test.true c.declarator-item.is in
      ap (λ g. all_noted g (flat_map (λ d. optional_numerals d.value) (map declared_of (drop (c.loop-declarator.declarator-index + 1) c.args.declarators.now)))) c.in_ok-note_declarator.ensures.done ∙ sym after ∙ c.loop-declarator.invariant.rest);
  within = c.in_ok-note_declarator.ensures.within;
}
