use Rattle.std.proofs.Common.{ap, ◌≡◌, ◌≤◌, ◌<◌, List, arith, length, map, rules}
use Rattle.conditions.specs.Conditions.{Condition}
use Rattle.conditions.specs.declared.place.Binding.{Binding}
use Rattle.conditions.specs.declared.place.Place.{Place}
use Rattle.litmus_syntax.specs.declared.draft.Body.{Body}
use Rattle.litmus_syntax.specs.Drafts.{Written, listing_of}
use Rattle.litmus_c.specs.Rules.{locations_of}
use Rattle.litmus_tree.specs.Tree.{Word}
use Rattle.std.proofs.lemmas.Result.{err_from_is_err_and}
use Rattle.litmus_c.proofs.Kept.{kept_rules, named_of, locations_cause, names_cause, values_cause, events_cause}
use Rattle.litmus_c.proofs.Names.{programs_len, map_len}
use Rattle.litmus_c.proofs.making.make_parts.Goals as goal

-- the draft of this name, of which the parts are made
abbrev written : Word → List Binding → List Body → List Place → Condition → Written
written n es bs qs q = record { name = n; entries = es; threads = map listing_of bs; listed = qs; condition = q }

pub returns-then-len-gt-MOST_THREADS-clause-cause : goal.returns-then-len-gt-MOST_THREADS-clause-cause
returns-then-len-gt-MOST_THREADS-clause-cause c n =
    let few : 8 < length c.args.bodies.items = search rules in
    omega (arith, programs_len 0 c.args.entries.now (map listing_of c.args.bodies.items), map_len listing_of c.args.bodies.items)

pub returns-in_err-locations-clause-cause : goal.returns-in_err-locations-clause-cause
returns-in_err-locations-clause-cause c n =
    let w = written n c.args.entries.now c.args.bodies.items c.args.listed.now c.args.condition.now in
    let small : length c.args.bodies.items ≤ 8 = search rules in
    let few : length w.threads ≤ 8 = omega (arith, small, map_len listing_of c.args.bodies.items) in
    let cause = rw c.as_slice.ensures.value at c.in_err-locations.ensures.cause in
    let p = err_from_is_err_and c.from_residual.result c.from_residual.ensures.1 in
    rw (p.1, p.2) (locations_cause w c.in_err-locations.field-0.0 few cause)

pub returns-in_err-check_names-clause-cause : goal.returns-in_err-check_names-clause-cause
returns-in_err-check_names-clause-cause c n =
    let w = written n c.args.entries.now c.args.bodies.items c.args.listed.now c.args.condition.now in
    let xs = c.in_ok-locations.locations.items in
    let locations : xs ≡ locations_of w = rw c.as_slice.ensures.value at c.in_ok-locations.ensures.done in
    let small : length c.args.bodies.items ≤ 8 = search rules in
    let few : length w.threads ≤ 8 = omega (arith, small, map_len listing_of c.args.bodies.items) in
    let cause = rw (c.as_slice-2.ensures.value, c.as_slice-3.ensures.value) at c.in_err-check_names.ensures.cause in
    let p = err_from_is_err_and c.from_residual-in_err-check_names.result c.from_residual-in_err-check_names.ensures.1 in
    rw (p.1, p.2) (names_cause w c.in_ok-threads.threads.items xs c.in_err-check_names.field-0.0 c.in_ok-threads.ensures locations few c.in_ok-locations.ensures.few cause)

pub returns-in_err-check_values-clause-cause : goal.returns-in_err-check_values-clause-cause
returns-in_err-check_values-clause-cause c n =
    let w = written n c.args.entries.now c.args.bodies.items c.args.listed.now c.args.condition.now in
    let is = c.in_ok-initial.initial.items in
    let ts = c.in_ok-threads.threads.items in
    let xs = c.in_ok-locations.locations.items in
    let locations : xs ≡ locations_of w = rw c.as_slice.ensures.value at c.in_ok-locations.ensures.done in
    let small : length c.args.bodies.items ≤ 8 = search rules in
    let few : length w.threads ≤ 8 = omega (arith, small, map_len listing_of c.args.bodies.items) in
    let names = rw (c.as_slice-2.ensures.value, c.as_slice-3.ensures.value) at c.in_ok-check_names.ensures.names in
    let plain = rw c.as_slice-2.ensures.value at c.in_ok-check_names.ensures.plain in
    let atomic = rw c.as_slice-2.ensures.value at c.in_ok-check_names.ensures.atomic in
    let named = named_of w is ts xs c.in_ok-initial.ensures c.in_ok-threads.ensures locations few c.in_ok-locations.ensures.few names plain atomic in
    let cause = rw (c.as_slice-4.ensures.value, c.as_slice-5.ensures.value) at c.in_err-check_values.ensures.cause in
    let p = err_from_is_err_and c.from_residual-in_err-check_values.result c.from_residual-in_err-check_values.ensures.1 in
    rw (p.1, p.2) (values_cause w is ts xs c.in_err-check_values.field-0.0 c.in_ok-initial.ensures c.in_ok-threads.ensures locations named cause)

pub returns-in_err-check_events-clause-cause : goal.returns-in_err-check_events-clause-cause
returns-in_err-check_events-clause-cause c n =
    let w = written n c.args.entries.now c.args.bodies.items c.args.listed.now c.args.condition.now in
    let is = c.in_ok-initial.initial.items in
    let ts = c.in_ok-threads.threads.items in
    let xs = c.in_ok-locations.locations.items in
    let locations : xs ≡ locations_of w = rw c.as_slice.ensures.value at c.in_ok-locations.ensures.done in
    let small : length c.args.bodies.items ≤ 8 = search rules in
    let few : length w.threads ≤ 8 = omega (arith, small, map_len listing_of c.args.bodies.items) in
    let names = rw (c.as_slice-2.ensures.value, c.as_slice-3.ensures.value) at c.in_ok-check_names.ensures.names in
    let plain = rw c.as_slice-2.ensures.value at c.in_ok-check_names.ensures.plain in
    let atomic = rw c.as_slice-2.ensures.value at c.in_ok-check_names.ensures.atomic in
    let named = named_of w is ts xs c.in_ok-initial.ensures c.in_ok-threads.ensures locations few c.in_ok-locations.ensures.few names plain atomic in
    let values = rw (c.as_slice-4.ensures.value, c.as_slice-5.ensures.value) at c.in_ok-check_values.ensures.few in
    let small_values = rw (c.as_slice-4.ensures.value, c.as_slice-5.ensures.value) at c.in_ok-check_values.ensures.small in
    let events = rw (c.as_slice-6.ensures.value, c.as_slice-7.ensures.value) at c.in_err-check_events.ensures.cause.1 in
    let p = err_from_is_err_and c.from_residual-in_err-check_events.result c.from_residual-in_err-check_events.ensures.1 in
    rw (p.1, p.2, c.in_err-check_events.ensures.cause.0) (events_cause w is ts xs c.in_ok-initial.ensures c.in_ok-threads.ensures locations named values small_values events)

pub returns-clause-kept : goal.returns-clause-kept
returns-clause-kept c n =
    let w = written n c.args.entries.now c.args.bodies.items c.args.listed.now c.args.condition.now in
    let is = c.in_ok-initial.initial.items in
    let ts = c.in_ok-threads.threads.items in
    let xs = c.in_ok-locations.locations.items in
    let locations : xs ≡ locations_of w = rw c.as_slice.ensures.value at c.in_ok-locations.ensures.done in
    let few : length c.args.bodies.items ≤ 8 = search rules in
    let names = rw (c.as_slice-2.ensures.value, c.as_slice-3.ensures.value) at c.in_ok-check_names.ensures.names in
    let plain = rw c.as_slice-2.ensures.value at c.in_ok-check_names.ensures.plain in
    let atomic = rw c.as_slice-2.ensures.value at c.in_ok-check_names.ensures.atomic in
    let values = rw (c.as_slice-4.ensures.value, c.as_slice-5.ensures.value) at c.in_ok-check_values.ensures.few in
    let small_values = rw (c.as_slice-4.ensures.value, c.as_slice-5.ensures.value) at c.in_ok-check_values.ensures.small in
    let events = rw (c.as_slice-6.ensures.value, c.as_slice-7.ensures.value) at c.in_ok-check_events.ensures.few in
    kept_rules w is ts xs c.in_ok-initial.ensures c.in_ok-threads.ensures locations (omega (arith, few, map_len listing_of c.args.bodies.items)) c.in_ok-locations.ensures.few names plain atomic values small_values events

pub returns-clause-threads : goal.returns-clause-threads
returns-clause-threads c = c.in_ok-threads.ensures

pub check_events-requires : goal.check_events-requires
check_events-requires c = omega (arith, ap length c.as_slice-6.ensures.value, c.in_ok-locations.ensures.few)
