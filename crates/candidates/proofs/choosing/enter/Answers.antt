use Rattle.std.proofs.Common.{◌≡◌, ◌∙◌, ◌+◌, ◌≤◌, [], ◌∷◌, List, length, get_or, drop, refl, sym, ap, subst, arith}
use Rattle.listings.specs.Lists.{IsIn}
use Rattle.candidates.specs.declared.counts.Counts.{Counts}
use Rattle.candidates.specs.declared.fault.TheConstants.{MOST_CANDIDATES}
use Rattle.candidates.specs.declared.levels.Level.{Level}
use Rattle.candidates.specs.Groups.{sum_tally, size_by, sizes_of, HasRoom, IsSmall}
use Rattle.candidates.specs.Levels.{AreLevels, places_of, tally_to}
use Rattle.candidates.proofs.Descent.{sizes_by}
use Rattle.candidates.proofs.Kept.{added_to, levels_added, some_part, to_next}
use Rattle.candidates.proofs.choosing.enter.Goals as goal

pub tally_ahead-requires-clause-small : goal.tally_ahead-requires-clause-small
tally_ahead-requires-clause-small c =
    let last : c.args.thread ≡ length c.args.levels.now.items = omega (arith, c.requires.there, c.if-thread-len.false, c.len.ensures) in
    let P : List Counts → Type 0 = λ t. IsSmall t in
    subst P (sym (to_next c.args.locations c.args.groups.now c.deref.result.now c.args.levels.now.items c.args.thread c.deref.ensures.value last)) c.requires.room.0

pub count_runs-requires-clause-room : goal.count_runs-requires-clause-room
count_runs-requires-clause-room c =
    let last : c.args.thread ≡ length c.args.levels.now.items = omega (arith, c.requires.there, c.if-thread-len.false, c.len.ensures) in
    let is = c.in_ok-tally.ensures ∙ to_next c.args.locations c.args.groups.now c.deref.result.now c.args.levels.now.items c.args.thread c.deref.ensures.value last in
    let P : List Counts → Type 0 = λ u. (t : List Counts) → IsIn t (get_or c.args.groups.now c.args.thread []) → HasRoom (sum_tally u t) (drop (c.args.thread + 1) c.args.groups.now) in
    subst P (sym is) c.requires.room.1

pub count_runs-requires-clause-most : goal.count_runs-requires-clause-most
count_runs-requires-clause-most c =
    let last : c.args.thread ≡ length c.args.levels.now.items = omega (arith, c.requires.there, c.if-thread-len.false, c.len.ensures) in
    let is = c.in_ok-tally.ensures ∙ to_next c.args.locations c.args.groups.now c.deref.result.now c.args.levels.now.items c.args.thread c.deref.ensures.value last in
    let P : List Counts → Type 0 = λ u. size_by u (get_or c.args.groups.now c.args.thread [] ∷ drop (c.args.thread + 1) c.args.groups.now) ≤ MOST_CANDIDATES in
    subst P (sym is) c.requires.most

pub returns-in_err-push-clause-levels : goal.returns-in_err-push-clause-levels
returns-in_err-push-clause-levels c =
    let P : List Level → Type 0 = λ ls. AreLevels c.args.locations c.args.groups.now ls in
    subst P (sym c.in_err-push.ensures.items) c.requires.levels

pub returns-clause-levels : goal.returns-clause-levels
returns-clause-levels c =
    let n = c.args.locations in
    let groups = c.args.groups.now in
    let levels = c.args.levels.now.items in
    let thread = c.args.thread in
    let here = get_or groups thread [] in
    let after = drop (thread + 1) groups in
    let tally = c.in_ok-tally.tally in
    let last : thread ≡ length levels = omega (arith, c.requires.there, c.if-thread-len.false, c.len.ensures) in
    let is = c.in_ok-tally.ensures ∙ to_next n groups c.deref.result.now levels thread c.deref.ensures.value last in
    let P : List Counts → Type 0 = λ u. 1 ≤ size_by u (here ∷ after) in
    let some = some_part c.in_ok-sizes.sizes.items (omega (arith, sizes_by tally here after c.in_ok-sizes.sizes.items c.in_ok-sizes.ensures, subst P (sym is) c.requires.some)) in
    let level : Level = record { tally = tally; sizes = c.in_ok-sizes.sizes; place = 0; before = 0 } in
    levels_added n groups levels c.push.new.self.items level c.requires.levels c.in_ok-push.ensures.items (record {
      tally = is ∙ ap (tally_to n groups (places_of levels)) last;
      sizes = c.in_ok-sizes.ensures ∙ ap (λ k. sizes_of tally (get_or groups k []) (drop (k + 1) groups)) last;
      stands = (some, refl);
    })

pub returns-clause-same : goal.returns-clause-same
returns-clause-same c =
    let level : Level = record { tally = c.in_ok-tally.tally; sizes = c.in_ok-sizes.sizes; place = 0; before = 0 } in
    added_to c.args.locations c.args.groups.now c.args.levels.now.items c.push.new.self.items level c.in_ok-push.ensures.items c.args.thread c.requires.there
