use Rattle.std.proofs.Common.{◌∙◌, List, length, refl, ap, sym, arith}
use Rattle.events.specs.declared.event.Event.{Event}
use Rattle.candidates.proofs.Listed.{placed}
use Rattle.candidates.proofs.Sources.{can_set, set_on, some_ways, ways_from}
use Rattle.candidates.proofs.Tails.{set_from}
use Rattle.candidates.proofs.reading.set_sources.Goals as goal

pub nonzero_rem-rest : goal.nonzero_rem-rest
nonzero_rem-rest c = omega (arith, c.requires.tail.1, some_ways c.args.page.now.runs.items c.args.page.now.reads.items c.args.tail.from)

pub loop-place-init : goal.loop-place-init
loop-place-init c =
    let page = c.args.page.now in
    let ways = page.ways in
    let all = c.requires.page.ways ∙ ap (λ (es : List Event). ways_from page.runs.items es 0) (sym c.requires.page.reads_are) in
    set_from page.runs.items page.reads.items c.args.number c.args.tail.from _ c.args.tail.ways (omega (arith, c.requires.number, all)) c.requires.tail.1 c.requires.len c.requires.before

pub choose-pick-requires-clause-page : goal.choose-pick-requires-clause-page
choose-pick-requires-clause-page c =
    let page = c.args.page.now in
    let n = length page.writes.items in (
      n,
      c.requires.page,
      placed n page.runs.items page.reads.items c.loop-place.place c.index.result.now c.requires.page.within c.requires.page.reads_are (omega (arith, c.loop-place-test.true, c.len-place-end.ensures)) c.index.ensures,
    )

pub choose-pick-requires-clause-some : goal.choose-pick-requires-clause-some
choose-pick-requires-clause-some c =
    let page = c.args.page.now in
    (can_set page.runs.items page.reads.items c.args.number c.loop-place.place c.loop-place.rf c.loop-place.rest c.loop-place.below c.index.result.now (omega (arith, c.loop-place-test.true, c.len-place-end.ensures)) c.index.ensures c.loop-place.invariant).0

pub choose-pick-requires-clause-digit : goal.choose-pick-requires-clause-digit
choose-pick-requires-clause-digit c =
    let page = c.args.page.now in
    (can_set page.runs.items page.reads.items c.args.number c.loop-place.place c.loop-place.rf c.loop-place.rest c.loop-place.below c.index.result.now (omega (arith, c.loop-place-test.true, c.len-place-end.ensures)) c.index.ensures c.loop-place.invariant).1

pub loop-place-preserved : goal.loop-place-preserved
loop-place-preserved c =
    let page = c.args.page.now in
    let at = c.loop-place in
    let got = c.choose-pick.result in
    set_on page.runs.items page.reads.items c.args.number at.place at.rf _ at.rest at.below got.rest got.below c.index.result.now got.source (omega (arith, c.loop-place-test.true, c.len-place-end.ensures)) c.index.ensures
    c.choose-pick.ensures.below c.choose-pick.ensures.rest c.choose-pick.ensures.source refl at.invariant
