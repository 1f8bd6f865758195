use Rattle.std.proofs.Common.{◌∙◌, List, ap, sym, ◌≤◌, ◌+◌, [], arith, drop, length}
use Rattle.std.specs.List.{flat_map}
use Rattle.std.proofs.lemmas.List.{drop_all}
use Rattle.conditions.specs.declared.place.Binding.{Binding}
use Rattle.litmus_c.specs.Rules.{place_locations}
use Rattle.litmus_tree.specs.Names.{with_names}
use Rattle.std.proofs.lemmas.Result.{err_from_is_err_and}
use Rattle.litmus_c.proofs.Names.{at_least, next, explained}
use Rattle.litmus_c.proofs.making.entry_locations.Goals as goal

pub returns-in_err-note_place-clause-cause : goal.returns-in_err-note_place-clause-cause
returns-in_err-note_place-clause-cause c =
    let p = err_from_is_err_and c.from_residual.result c.from_residual.ensures.1 in
    let few : length (with_names c.loop-entry.locations.items (place_locations c.entry-item.result.place)) ≤ length (with_names [] (flat_map (λ b. place_locations b.place) c.args.entries.now)) =
    omega (arith, at_least (λ b. place_locations b.place) c.entry-item.result c.args.entries.now c.loop-entry.entry-index c.loop-entry.locations.items c.loop-entry-test.true c.entry-item.is, ap length c.loop-entry.invariant.rest) in
    rw (p.1, p.2) (explained (with_names c.loop-entry.locations.items (place_locations c.entry-item.result.place)) (with_names [] (flat_map (λ b. place_locations b.place) c.args.entries.now)) _ few c.in_err-note_place.ensures.cause)

pub loop-entry-preserved : goal.loop-entry-preserved
loop-entry-preserved c =
    let i = c.loop-entry.entry-index in
    let es = c.args.entries.now in
    record {
      rest = ap (λ ns. with_names ns (flat_map (λ b. place_locations b.place) (drop (i + 1) es))) c.in_ok-note_place.ensures.done ∙
          sym (next (λ b. place_locations b.place) c.entry-item.result es i c.loop-entry.locations.items c.loop-entry-test.true c.entry-item.is) ∙ c.loop-entry.invariant.rest;
      few = c.in_ok-note_place.ensures.few;
    }

pub returns-clause-done : goal.returns-clause-done
returns-clause-done c =
    let all = c.loop-entry.locations.items in
    sym (ap (λ (xs : List Binding). with_names all (flat_map (λ b. place_locations b.place) xs)) (drop_all c.loop-entry.entry-index c.args.entries.now c.loop-entry-test.false)) ∙ c.loop-entry.invariant.rest
