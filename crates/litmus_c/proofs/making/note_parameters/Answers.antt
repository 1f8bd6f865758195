use Rattle.std.proofs.Common.{◌∙◌, List, map, ap, sym, ◌≤◌, ◌+◌, arith, drop, length}
use Rattle.std.proofs.lemmas.List.{drop_all}
use Rattle.litmus_tree.specs.declared.tree.Parameter.{Parameter}
use Rattle.litmus_tree.specs.Names.{with_names, with_name}
use Rattle.std.proofs.lemmas.Result.{err_from_is_err_and}
use Rattle.litmus_c.proofs.Names.{at_least_with, next_with, explained}
use Rattle.litmus_c.proofs.making.note_parameters.Goals as goal

pub returns-in_err-note_location-clause-cause : goal.returns-in_err-note_location-clause-cause
returns-in_err-note_location-clause-cause c =
    let p = err_from_is_err_and c.from_residual.result c.from_residual.ensures.1 in
    let few : length (with_name c.loop-parameter.locations.items c.parameter-item.result.name) ≤ length (with_names c.args.locations.now.items (map (λ p. p.name) c.args.parameters.now)) =
    omega (arith, at_least_with (λ p. p.name) c.parameter-item.result c.args.parameters.now c.loop-parameter.parameter-index c.loop-parameter.locations.items c.loop-parameter-test.true c.parameter-item.is, ap length c.loop-parameter.invariant.rest) in
    rw (p.1, p.2) (explained (with_name c.loop-parameter.locations.items c.parameter-item.result.name) (with_names c.args.locations.now.items (map (λ p. p.name) c.args.parameters.now)) _ few c.in_err-note_location.ensures.cause)

pub loop-parameter-preserved : goal.loop-parameter-preserved
loop-parameter-preserved c =
    let i = c.loop-parameter.parameter-index in
    let ps = c.args.parameters.now in
    record {
      rest = ap (λ ns. with_names ns (map (λ p. p.name) (drop (i + 1) ps))) c.in_ok-note_location.ensures.done ∙
          sym (next_with (λ p. p.name) c.parameter-item.result ps i c.loop-parameter.locations.items c.loop-parameter-test.true c.parameter-item.is) ∙ c.loop-parameter.invariant.rest;
      few = c.in_ok-note_location.ensures.few;
    }

pub returns-clause-done : goal.returns-clause-done
returns-clause-done c =
    let all = c.loop-parameter.locations.items in
    sym (ap (λ (xs : List Parameter). with_names all (map (λ p. p.name) xs)) (drop_all c.loop-parameter.parameter-index c.args.parameters.now c.loop-parameter-test.false)) ∙ c.loop-parameter.invariant.rest
