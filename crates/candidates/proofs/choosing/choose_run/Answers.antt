use Rattle.std.proofs.Common.{◌≡◌, ◌∙◌, ◌+◌, ◌-◌, ◌<◌, ℕ, [], List, length, drop, take, get_or, sym, subst, arith}
use Rattle.listings.specs.Lists.{sum_of}
use Rattle.candidates.specs.Impossible.{IsChosen}
use Rattle.candidates.specs.Levels.{places_of, tally_to}
use Rattle.candidates.proofs.Descent.{sizes_by}
use Rattle.candidates.proofs.Kept.{place_here, sizes_here, to_more}
use Rattle.candidates.proofs.choosing.choose_run.Goals as goal

pub part_at-part-requires-clause-stands : goal.part_at-part-requires-clause-stands
part_at-part-requires-clause-stands c = (c.enter.ensures.levels c.args.thread c.index-level.result.now c.in_ok-enter.ensures.there c.index-level.ensures).stands

pub stay-requires : goal.stay-requires
stay-requires c = record { stands = (c.enter.ensures.levels c.args.thread c.index-level.result.now c.in_ok-enter.ensures.there c.index-level.ensures).stands }

pub part_at-part-requires-clause-number : goal.part_at-part-requires-clause-number
part_at-part-requires-clause-number c =
    let tally = tally_to c.args.locations c.args.groups.now (places_of c.args.levels.now.items) c.args.thread in
    let sizes = sizes_here c.args.locations c.args.groups.now c.enter.new.levels.items c.args.thread c.index-level.result.now tally c.enter.ensures.levels c.in_ok-enter.ensures.there c.index-level.ensures c.enter.ensures.same in
    let here = get_or c.args.groups.now c.args.thread [] in
    let after = drop (c.args.thread + 1) c.args.groups.now in
    omega (arith, c.requires.number, sizes_by tally here after c.index-level.result.now.sizes.items sizes)

pub stand_at-requires-clause-place : goal.stand_at-requires-clause-place
stand_at-requires-clause-place c = λ l e.
    let tally = tally_to c.args.locations c.args.groups.now (places_of c.args.levels.now.items) c.args.thread in
    let sizes = sizes_here c.args.locations c.args.groups.now c.enter.new.levels.items c.args.thread c.index-level.result.now tally c.enter.ensures.levels c.in_ok-enter.ensures.there c.index-level.ensures c.enter.ensures.same in
    let same = sizes_here c.args.locations c.args.groups.now c.enter.new.levels.items c.args.thread l tally c.enter.ensures.levels c.in_ok-enter.ensures.there e c.enter.ensures.same in
    let r = c.part_at-part.result in
    let P : List ℕ → Type 0 = λ ss. (r.place < length ss) × (c.args.number - r.rest ≡ sum_of (λ n. n) (take r.place ss)) in
    subst P (sizes ∙ sym same) (c.part_at-part.ensures.place, omega (arith, c.part_at-part.ensures.sum))

pub returns-clause-chosen : goal.returns-clause-chosen
returns-clause-chosen c =
    let tally = tally_to c.args.locations c.args.groups.now (places_of c.args.levels.now.items) c.args.thread in
    let sizes = sizes_here c.args.locations c.args.groups.now c.enter.new.levels.items c.args.thread c.index-level.result.now tally c.enter.ensures.levels c.in_ok-enter.ensures.there c.index-level.ensures c.enter.ensures.same in
    let r = c.part_at-part in
    let P : List ℕ → Type 0 = λ ss. IsChosen ss c.args.number r.result.place r.result.rest in
    subst P sizes (record { place = r.ensures.place; within = r.ensures.rest; sum = r.ensures.sum })

pub returns-clause-next : goal.returns-clause-next
returns-clause-next c = (
  c.stand_at.ensures.place.0,
  to_more c.args.locations c.args.groups.now (places_of c.stand_at.new.levels.items) c.args.thread c.part_at-part.result.place (tally_to c.args.locations c.args.groups.now (places_of c.args.levels.now.items) c.args.thread)
      (c.stand_at.ensures.same c.args.locations ∙ c.enter.ensures.same) c.stand_at.ensures.place.1,
)

pub returns-clause-same : goal.returns-clause-same
returns-clause-same c = c.stand_at.ensures.same c.args.locations ∙ c.enter.ensures.same

pub returns-clause-levels : goal.returns-clause-levels
returns-clause-levels c = c.stand_at.ensures.levels c.args.locations c.enter.ensures.levels

pub returns-in-Some-clause-chosen : goal.returns-in-Some-clause-chosen
returns-in-Some-clause-chosen c =
    let tally = tally_to c.args.locations c.args.groups.now (places_of c.args.levels.now.items) c.args.thread in
    let sizes = sizes_here c.args.locations c.args.groups.now c.enter.new.levels.items c.args.thread c.index-level.result.now tally c.enter.ensures.levels c.in_ok-enter.ensures.there c.index-level.ensures c.enter.ensures.same in
    let r = c.in-Some.part in
    let P : List ℕ → Type 0 = λ ss. IsChosen ss c.args.number r.place r.rest in
    subst P sizes c.in-Some.ensures.1

pub returns-in-Some-clause-next : goal.returns-in-Some-clause-next
returns-in-Some-clause-next c = (
  c.in_ok-enter.ensures.there,
  to_more c.args.locations c.args.groups.now (places_of c.enter.new.levels.items) c.args.thread c.in-Some.part.place (tally_to c.args.locations c.args.groups.now (places_of c.args.levels.now.items) c.args.thread)
      c.enter.ensures.same (place_here c.enter.new.levels.items c.args.thread c.index-level.result.now c.in_ok-enter.ensures.there c.index-level.ensures ∙ sym c.in-Some.ensures.0),
)

pub returns-in-Some-clause-same : goal.returns-in-Some-clause-same
returns-in-Some-clause-same c = c.enter.ensures.same

pub returns-in-Some-clause-levels : goal.returns-in-Some-clause-levels
returns-in-Some-clause-levels c = c.enter.ensures.levels
