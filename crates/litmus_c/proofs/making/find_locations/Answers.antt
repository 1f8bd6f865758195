use Rattle.std.proofs.Common.{◌∙◌, List, map, ap, sym, ◌≤◌, ◌+◌, [], arith, drop, length}
use Rattle.std.specs.List.{flat_map}
use Rattle.std.proofs.lemmas.List.{drop_all}
use Rattle.litmus_syntax.specs.declared.draft.Body.{Body}
use Rattle.litmus_syntax.specs.Drafts.{listing_of}
use Rattle.litmus_c.specs.Rules.{parameter_names, place_locations}
use Rattle.litmus_tree.specs.Names.{with_names}
use Rattle.std.proofs.lemmas.Result.{err_from_is_err_and}
use Rattle.litmus_c.proofs.Names.{at_least_of, next_of, explained, first_longer}
use Rattle.litmus_c.proofs.making.find_locations.Goals as goal

pub returns-in_err-locations-clause-cause : goal.returns-in_err-locations-clause-cause
returns-in_err-locations-clause-cause c =
    let p = err_from_is_err_and c.from_residual.result c.from_residual.ensures.1 in
    let xs = with_names [] (flat_map (λ b. place_locations b.place) c.args.entries.now) in
    let ys = flat_map parameter_names (map listing_of c.args.bodies.now) in
    rw (p.1, p.2) (explained xs (with_names xs ys) _ (first_longer xs ys) c.in_err-locations.ensures.cause)

pub returns-in_err-note_parameters-clause-cause : goal.returns-in_err-note_parameters-clause-cause
returns-in_err-note_parameters-clause-cause c =
    let p = err_from_is_err_and c.from_residual-in_err-note_parameters.result c.from_residual-in_err-note_parameters.ensures.1 in
    let xs = with_names [] (flat_map (λ b. place_locations b.place) c.args.entries.now) in
    let ys = flat_map parameter_names (map listing_of c.args.bodies.now) in
    let here = with_names c.loop-body.locations.items (parameter_names (listing_of c.body-item.result)) in
    let few : length here ≤ length (with_names xs ys) =
    omega (arith, at_least_of parameter_names listing_of c.body-item.result c.args.bodies.now c.loop-body.body-index c.loop-body.locations.items c.loop-body-test.true c.body-item.is, ap length c.loop-body.invariant.rest) in
    let cause = rw c.as_slice.ensures.value at c.in_err-note_parameters.ensures.cause in
    rw (p.1, p.2) (explained here (with_names xs ys) _ few cause)

pub loop-body-preserved : goal.loop-body-preserved
loop-body-preserved c =
    let i = c.loop-body.body-index in
    let bs = c.args.bodies.now in
    let noted = rw c.as_slice.ensures.value at c.in_ok-note_parameters.ensures.done in
    record {
      rest = ap (λ ns. with_names ns (flat_map parameter_names (map listing_of (drop (i + 1) bs)))) noted ∙
          sym (next_of parameter_names listing_of c.body-item.result bs i c.loop-body.locations.items c.loop-body-test.true c.body-item.is) ∙ c.loop-body.invariant.rest;
      few = c.in_ok-note_parameters.ensures.few;
    }

pub returns-clause-done : goal.returns-clause-done
returns-clause-done c =
    let all = c.loop-body.locations.items in
    sym (ap (λ (xs : List Body). with_names all (flat_map parameter_names (map listing_of xs))) (drop_all c.loop-body.body-index c.args.bodies.now c.loop-body-test.false)) ∙ c.loop-body.invariant.rest
