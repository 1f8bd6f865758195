use Rattle.std.proofs.Common.{◌∙◌, ◌-◌, ◌≡◌, List, length, ap, sym, arith}
use Rattle.events.specs.declared.event.Event.{Event}
use Rattle.candidates.proofs.Caps.{factor_le}
use Rattle.candidates.proofs.Listed.{placed}
use Rattle.candidates.proofs.Pages.{some_orders, start_within}
use Rattle.candidates.proofs.Sources.{some_ways, ways_from}
use Rattle.candidates.proofs.Tails.{none_ahead, one_ahead, same_before}
use Rattle.candidates.proofs.reading.differing.Goals as goal

pub loop-from-init : goal.loop-from-init
loop-from-init c = (omega (arith, c.len-from.ensures), none_ahead c.args.page.now.runs.items c.args.page.now.reads.items c.len-from.result (omega (arith, c.len-from.ensures)))

pub nonzero_div-number : goal.nonzero_div-number
nonzero_div-number c = omega (arith, c.loop-from.invariant.1, some_ways c.args.page.now.runs.items c.args.page.now.reads.items c.loop-from.from)

pub nonzero_div-other : goal.nonzero_div-other
nonzero_div-other c = omega (arith, c.loop-from.invariant.1, some_ways c.args.page.now.runs.items c.args.page.now.reads.items c.loop-from.from)

pub returns-then-number-ways-clause-same : goal.returns-then-number-ways-clause-same
returns-then-number-ways-clause-same c =
    same_before c.args.page.now.runs.items c.args.page.now.reads.items c.loop-from.from c.loop-from.ways c.args.number c.args.other c.loop-from.invariant.1 c.if-number-ways.true

pub sources_of-ways-requires : goal.sources_of-ways-requires
sources_of-ways-requires c =
    let page = c.args.page.now in
    let n = length page.writes.items in (
      n,
      c.requires,
      placed n page.runs.items page.reads.items (c.loop-from.from - 1) c.index.result.now c.requires.within c.requires.reads_are (omega (arith, c.loop-from-test.true, c.loop-from.invariant.0)) c.index.ensures,
    )

pub overflow_mul-ways : goal.overflow_mul-ways
overflow_mul-ways c =
    let page = c.args.page.now in
    let n = length page.writes.items in
    let at = c.loop-from in
    let ahead = one_ahead page.runs.items page.reads.items (at.from - 1) at.from at.ways c.sources_of-ways.result c.index.result.now (omega (arith, c.loop-from-test.true)) (omega (arith, c.loop-from-test.true, at.invariant.0)) c.index.ensures at.invariant.1 c.sources_of-ways.ensures in
    let all : page.ways ≡ ways_from page.runs.items page.reads.items 0 = c.requires.ways ∙ ap (λ (es : List Event). ways_from page.runs.items es 0) (sym c.requires.reads_are) in
    let most = start_within n page page.ways c.requires (omega arith) in
    omega (arith, ahead.0, ahead.1, all, most, factor_le page.ways page.orders (omega (arith, some_orders n page c.requires)))

pub loop-from-preserved : goal.loop-from-preserved
loop-from-preserved c =
    let page = c.args.page.now in
    let at = c.loop-from in
    let ahead = one_ahead page.runs.items page.reads.items (at.from - 1) at.from at.ways c.sources_of-ways.result c.index.result.now (omega (arith, c.loop-from-test.true)) (omega (arith, c.loop-from-test.true, at.invariant.0)) c.index.ensures at.invariant.1 c.sources_of-ways.ensures in
    (omega (arith, at.invariant.0), ahead.0)
