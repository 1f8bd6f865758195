use Rattle.std.proofs.Common.{◌≡◌, ◌∙◌, ◌<◌, ◌/◌, ◌+◌, ℕ, List, nat_lt, ap, subst, arith, sym}
use Rattle.events.specs.declared.event.Event.{Event}
use Rattle.candidates.specs.Candidates.{count_sources}
use Rattle.candidates.specs.Readings.{IsWhole}
use Rattle.candidates.proofs.Fitting.{can_fit, stands_begin, stands_end, stands_first, stands_until}
use Rattle.candidates.proofs.Listed.{placed}
use Rattle.candidates.proofs.Suiting.{suitable_at}
use Rattle.candidates.proofs.Sources.{ways_from}
use Rattle.std.proofs.Math.Nat.{mul-le-mul_right}
use Rattle.candidates.proofs.reading.compare_kept.Goals as goal

pub sources_of-sources-requires : goal.sources_of-sources-requires
sources_of-sources-requires c = (
  c.requires.page.0,
  c.requires.page.1,
  placed c.requires.page.0 c.args.page.now.runs.items c.args.reads.now c.loop-place.place c.index-reads-place.result c.requires.page.1.within (c.requires.reads ∙ c.requires.page.1.reads_are) c.loop-place-test.true c.index-reads-place.is,
)

pub loop-place-init : goal.loop-place-init
loop-place-init c = λ init have.
    let runs = c.args.page.now.runs.items in
    stands_begin init runs c.args.reads.now c.args.page.now.ways (c.requires.page.1.ways ∙ ap (λ (es : List Event). ways_from runs es 0) (sym (c.requires.reads ∙ c.requires.page.1.reads_are)))

pub returns-then-suitable-sources : goal.returns-then-suitable-sources
returns-then-suitable-sources c = λ init have.
    let at = c.loop-place in
    let runs = c.args.page.now.runs.items in
    let r = c.index-reads-place.result in
    let f = c.index-suitable.result.now in
    let s = suitable_at init c.args.page.now c.args.reads.now at.place r f have c.requires.reads c.loop-place-test.true c.index-reads-place.is c.index-suitable.ensures in
    stands_until init runs c.args.reads.now 0 at.place at.start 0 at.ways at.behind f.first r c.loop-place-test.true c.index-reads-place.is
    (omega (arith, s.within, c.if-suitable-sources.true, c.sources_of-sources.ensures)) (λ d a b. s.none d (omega arith) b) (at.invariant init have)

pub other_start-behind-requires : goal.other_start-behind-requires
other_start-behind-requires c =
    let at = c.loop-place in
    let init = c.requires.fits.0 in
    let have = c.requires.fits.1 in
    let runs = c.args.page.now.runs.items in
    let r = c.index-reads-place.result in
    let h = at.invariant init have in
    let s = suitable_at init c.args.page.now c.args.reads.now at.place r c.index-suitable.result.now have c.requires.reads c.loop-place-test.true c.index-reads-place.is c.index-suitable.ensures in
    let can = can_fit init runs c.args.reads.now 0 at.place at.start 0 at.ways at.behind r c.loop-place-test.true c.index-reads-place.is h in
    let below : at.ways / c.sources_of-sources.result ≡ ways_from runs c.args.reads.now (at.place + 1) = ap (λ n. at.ways / n) c.sources_of-sources.ensures ∙ can.0 in
    let whole = can.3 in
    let ways : ways_from runs c.args.reads.now 0 ≡ c.args.page.now.ways = ap (λ (es : List Event). ways_from runs es 0) (c.requires.reads ∙ c.requires.page.1.reads_are) ∙ sym c.requires.page.1.ways in
    rw below (omega (arith, whole, mul-le-mul_right (ways_from runs c.args.reads.now (at.place + 1)) s.most, h.far, h.most, ways))

pub overflow_add-start : goal.overflow_add-start
overflow_add-start c =
    let at = c.loop-place in
    let init = c.requires.fits.0 in
    let have = c.requires.fits.1 in
    let runs = c.args.page.now.runs.items in
    let r = c.index-reads-place.result in
    let h = at.invariant init have in
    let s = suitable_at init c.args.page.now c.args.reads.now at.place r c.index-suitable.result.now have c.requires.reads c.loop-place-test.true c.index-reads-place.is c.index-suitable.ensures in
    let can = can_fit init runs c.args.reads.now 0 at.place at.start 0 at.ways at.behind r c.loop-place-test.true c.index-reads-place.is h in
    let below : at.ways / c.sources_of-sources.result ≡ ways_from runs c.args.reads.now (at.place + 1) = ap (λ n. at.ways / n) c.sources_of-sources.ensures ∙ can.0 in
    let whole = can.3 in
    let ways : ways_from runs c.args.reads.now 0 ≡ c.args.page.now.ways = ap (λ (es : List Event). ways_from runs es 0) (c.requires.reads ∙ c.requires.page.1.reads_are) ∙ sym c.requires.page.1.ways in
    rw below (omega (arith, whole, mul-le-mul_right (ways_from runs c.args.reads.now (at.place + 1)) s.within, h.far, h.most, ways))

pub loop-place-preserved : goal.loop-place-preserved
loop-place-preserved c = λ init have.
    let at = c.loop-place in
    let runs = c.args.page.now.runs.items in
    let r = c.index-reads-place.result in
    let f = c.index-suitable.result.now in
    let h = at.invariant init have in
    let s = suitable_at init c.args.page.now c.args.reads.now at.place r f have c.requires.reads c.loop-place-test.true c.index-reads-place.is c.index-suitable.ensures in
    let can = can_fit init runs c.args.reads.now 0 at.place at.start 0 at.ways at.behind r c.loop-place-test.true c.index-reads-place.is h in
    let below : at.ways / c.sources_of-sources.result ≡ ways_from runs c.args.reads.now (at.place + 1) = ap (λ n. at.ways / n) c.sources_of-sources.ensures ∙ can.0 in
    let few : f.first < count_sources runs r = omega (arith, c.if-suitable-sources.false, c.sources_of-sources.ensures) in
    rw (c.other_start-behind.ensures, ap (nat_lt f.next) c.sources_of-sources.ensures) (
    stands_first init runs c.args.reads.now 0 at.place at.start at.ways at.behind f.first f.next (at.ways / c.sources_of-sources.result) r c.loop-place-test.true c.index-reads-place.is
    below few s.none (s.found few) (s.later few) s.most s.between h
    )

pub returns : goal.returns
returns c = λ init have.
    let at = c.loop-place in
    let runs = c.args.page.now.runs.items in
    let W : ℕ → Type 0 = λ n. IsWhole init runs c.args.reads.now 0 (record { at = n; until = at.behind }) in
    subst W (let plain : at.start + 0 ≡ at.start = omega arith in plain) (
    stands_end init runs c.args.reads.now 0 at.place at.start 0 at.ways at.behind (omega (arith, c.loop-place-test.false, at.auto.place-end)) (at.invariant init have)
    )
