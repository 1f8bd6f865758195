use Rattle.std.proofs.Common.{◌≡◌, ◌∙◌, ◌<◌, ◌/◌, ◌+◌, ◌≤◌, nat_lt, length, ap, subst, arith, sym}
use Rattle.candidates.specs.Candidates.{count_sources}
use Rattle.candidates.specs.Readings.{Misses}
use Rattle.candidates.proofs.Fitting.{can_fit, stands_end, stands_on, stands_until}
use Rattle.candidates.proofs.Listed.{placed}
use Rattle.candidates.proofs.Sources.{ways_from}
use Rattle.std.proofs.Math.Nat.{mul-le-mul_right}
use Rattle.candidates.proofs.reading.compare.Goals as goal

pub sources_of-sources-requires : goal.sources_of-sources-requires
sources_of-sources-requires c = (
  length c.args.init.now,
  c.requires.page,
  placed (length c.args.init.now) c.args.page.now.runs.items c.args.reads.now c.loop-read.read-index c.read-item.result c.requires.page.within (c.requires.reads ∙ c.requires.page.reads_are) c.loop-read-test.true c.read-item.is,
)

pub fitting-fit-requires-clause-page : goal.fitting-fit-requires-clause-page
fitting-fit-requires-clause-page c = (
  length c.args.init.now,
  c.requires.page,
  placed (length c.args.init.now) c.args.page.now.runs.items c.args.reads.now c.loop-read.read-index c.read-item.result c.requires.page.within (c.requires.reads ∙ c.requires.page.reads_are) c.loop-read-test.true c.read-item.is,
)

pub fitting-next-requires-clause-page : goal.fitting-next-requires-clause-page
fitting-next-requires-clause-page c = (
  length c.args.init.now,
  c.requires.page,
  placed (length c.args.init.now) c.args.page.now.runs.items c.args.reads.now c.loop-read.read-index c.read-item.result c.requires.page.within (c.requires.reads ∙ c.requires.page.reads_are) c.loop-read-test.true c.read-item.is,
)

pub fitting-fit-requires-clause-first : goal.fitting-fit-requires-clause-first
fitting-fit-requires-clause-first c =
    let at = c.loop-read in
    let can = can_fit c.args.init.now c.args.page.now.runs.items c.args.reads.now c.args.number at.read-index at.start at.rest at.ways at.other c.read-item.result c.loop-read-test.true c.read-item.is at.invariant in
    let below : at.ways / c.sources_of-sources.result ≡ ways_from c.args.page.now.runs.items c.args.reads.now (at.read-index + 1) = ap (λ n. at.ways / n) c.sources_of-sources.ensures ∙ can.0 in
    let low = can.2 in
    rw (below, c.sources_of-sources.ensures) (omega (arith, low))

pub returns-then-fit-sources : goal.returns-then-fit-sources
returns-then-fit-sources c =
    let at = c.loop-read in
    let runs = c.args.page.now.runs.items in
    let can = can_fit c.args.init.now runs c.args.reads.now c.args.number at.read-index at.start at.rest at.ways at.other c.read-item.result c.loop-read-test.true c.read-item.is at.invariant in
    let below : at.ways / c.sources_of-sources.result ≡ ways_from runs c.args.reads.now (at.read-index + 1) = ap (λ n. at.ways / n) c.sources_of-sources.ensures ∙ can.0 in
    let misses = subst (λ p. Misses c.args.init.now runs c.read-item.result (at.rest / p) c.fitting-fit.result) below c.fitting-fit.ensures.none in
    stands_until c.args.init.now runs c.args.reads.now c.args.number at.read-index at.start at.rest at.ways at.other c.fitting-fit.result c.read-item.result c.loop-read-test.true c.read-item.is
    (omega (arith, c.fitting-fit.ensures.within, c.if-fit-sources.true, c.sources_of-sources.ensures)) misses at.invariant

pub loop-read-preserved : goal.loop-read-preserved
loop-read-preserved c =
    let at = c.loop-read in
    let runs = c.args.page.now.runs.items in
    let can = can_fit c.args.init.now runs c.args.reads.now c.args.number at.read-index at.start at.rest at.ways at.other c.read-item.result c.loop-read-test.true c.read-item.is at.invariant in
    let below : at.ways / c.sources_of-sources.result ≡ ways_from runs c.args.reads.now (at.read-index + 1) = ap (λ n. at.ways / n) c.sources_of-sources.ensures ∙ can.0 in
    let less : c.fitting-fit.result < c.sources_of-sources.result = omega (arith, c.if-fit-sources.false) in
    let few : c.fitting-fit.result < count_sources runs c.read-item.result = omega (arith, less, c.sources_of-sources.ensures) in
    let within : c.fitting-next.result ≤ count_sources runs c.read-item.result = omega (arith, c.fitting-next.ensures.within, c.sources_of-sources.ensures) in
    let up : c.fitting-fit.result < c.fitting-next.result = omega (arith, c.fitting-next.ensures.from) in
    rw (c.rest_behind-rest.ensures, c.other_start-other.ensures, ap (nat_lt c.fitting-next.result) c.sources_of-sources.ensures) (
    stands_on c.args.init.now runs c.args.reads.now c.args.number at.read-index at.start at.rest at.ways at.other c.fitting-fit.result c.fitting-next.result (at.ways / c.sources_of-sources.result) c.read-item.result c.loop-read-test.true c.read-item.is
    below few c.fitting-fit.ensures.from c.fitting-fit.ensures.none (c.fitting-fit.ensures.found less) up within c.fitting-next.ensures.none at.invariant
    )

pub returns : goal.returns
returns c =
    let at = c.loop-read in
    stands_end c.args.init.now c.args.page.now.runs.items c.args.reads.now c.args.number at.read-index at.start at.rest at.ways at.other (omega (arith, c.loop-read-test.false, at.invariant)) at.invariant

pub fitting-fit-requires-clause-sources : goal.fitting-fit-requires-clause-sources
fitting-fit-requires-clause-sources c = c.sources_of-sources.ensures

pub fitting-next-requires-clause-sources : goal.fitting-next-requires-clause-sources
fitting-next-requires-clause-sources c = c.sources_of-sources.ensures

pub fitting-next-requires-clause-first : goal.fitting-next-requires-clause-first
fitting-next-requires-clause-first c = omega (arith, c.if-fit-sources.false)

pub nonzero_div-first : goal.nonzero_div-first
nonzero_div-first c =
    let at = c.loop-read in
    let can = can_fit c.args.init.now c.args.page.now.runs.items c.args.reads.now c.args.number at.read-index at.start at.rest at.ways at.other c.read-item.result c.loop-read-test.true c.read-item.is at.invariant in
    let below : at.ways / c.sources_of-sources.result ≡ ways_from c.args.page.now.runs.items c.args.reads.now (at.read-index + 1) = ap (λ n. at.ways / n) c.sources_of-sources.ensures ∙ can.0 in
    omega (arith, below, can.1)

pub rest_behind-rest-requires : goal.rest_behind-rest-requires
rest_behind-rest-requires c =
    let at = c.loop-read in
    let can = can_fit c.args.init.now c.args.page.now.runs.items c.args.reads.now c.args.number at.read-index at.start at.rest at.ways at.other c.read-item.result c.loop-read-test.true c.read-item.is at.invariant in
    let below : at.ways / c.sources_of-sources.result ≡ ways_from c.args.page.now.runs.items c.args.reads.now (at.read-index + 1) = ap (λ n. at.ways / n) c.sources_of-sources.ensures ∙ can.0 in
    omega (arith, below, can.1)

pub overflow_mul-start : goal.overflow_mul-start
overflow_mul-start c =
    let at = c.loop-read in
    let can = can_fit c.args.init.now c.args.page.now.runs.items c.args.reads.now c.args.number at.read-index at.start at.rest at.ways at.other c.read-item.result c.loop-read-test.true c.read-item.is at.invariant in
    let below : at.ways / c.sources_of-sources.result ≡ ways_from c.args.page.now.runs.items c.args.reads.now (at.read-index + 1) = ap (λ n. at.ways / n) c.sources_of-sources.ensures ∙ can.0 in
    let q = ways_from c.args.page.now.runs.items c.args.reads.now (at.read-index + 1) in
    let whole = can.3 in
    let few : c.fitting-fit.result ≤ count_sources c.args.page.now.runs.items c.read-item.result = omega (arith, c.if-fit-sources.false, c.sources_of-sources.ensures) in
    rw below (omega (arith, whole, mul-le-mul_right q few))

pub overflow_add-start : goal.overflow_add-start
overflow_add-start c =
    let at = c.loop-read in
    let can = can_fit c.args.init.now c.args.page.now.runs.items c.args.reads.now c.args.number at.read-index at.start at.rest at.ways at.other c.read-item.result c.loop-read-test.true c.read-item.is at.invariant in
    let below : at.ways / c.sources_of-sources.result ≡ ways_from c.args.page.now.runs.items c.args.reads.now (at.read-index + 1) = ap (λ n. at.ways / n) c.sources_of-sources.ensures ∙ can.0 in
    let q = ways_from c.args.page.now.runs.items c.args.reads.now (at.read-index + 1) in
    let whole = can.3 in
    let few : c.fitting-fit.result ≤ count_sources c.args.page.now.runs.items c.read-item.result = omega (arith, c.if-fit-sources.false, c.sources_of-sources.ensures) in
    let ways : ways_from c.args.page.now.runs.items c.args.reads.now 0 ≡ c.args.page.now.ways = ap (λ es. ways_from c.args.page.now.runs.items es 0) (c.requires.reads ∙ c.requires.page.reads_are) ∙ sym c.requires.page.ways in
    rw below (omega (arith, whole, mul-le-mul_right q few, at.invariant.far, at.invariant.most, ways))

pub other_start-other-requires : goal.other_start-other-requires
other_start-other-requires c =
    let at = c.loop-read in
    let can = can_fit c.args.init.now c.args.page.now.runs.items c.args.reads.now c.args.number at.read-index at.start at.rest at.ways at.other c.read-item.result c.loop-read-test.true c.read-item.is at.invariant in
    let below : at.ways / c.sources_of-sources.result ≡ ways_from c.args.page.now.runs.items c.args.reads.now (at.read-index + 1) = ap (λ n. at.ways / n) c.sources_of-sources.ensures ∙ can.0 in
    let q = ways_from c.args.page.now.runs.items c.args.reads.now (at.read-index + 1) in
    let whole = can.3 in
    let few : c.fitting-next.result ≤ count_sources c.args.page.now.runs.items c.read-item.result = omega (arith, c.fitting-next.ensures.within, c.sources_of-sources.ensures) in
    let ways : ways_from c.args.page.now.runs.items c.args.reads.now 0 ≡ c.args.page.now.ways = ap (λ es. ways_from c.args.page.now.runs.items es 0) (c.requires.reads ∙ c.requires.page.reads_are) ∙ sym c.requires.page.ways in
    rw below (omega (arith, whole, mul-le-mul_right q few, at.invariant.far, at.invariant.most, ways))
