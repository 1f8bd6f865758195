use Rattle.std.proofs.Common.{◌≡◌, ◌+◌, ◌∙◌, List, length, nat_lt, ap, arith}
use Rattle.events.specs.declared.event.EventId.{EventId}
use Rattle.candidates.specs.declared.depths.Depth.{Depth}
use Rattle.candidates.specs.declared.depths.Known.TheVariants.{Sources}
use Rattle.candidates.specs.Candidates.{count_sources}
use Rattle.candidates.proofs.Listed.{placed, written_at}
use Rattle.candidates.proofs.Sizes.{one_known, one_depth, reading_depth}
use Rattle.candidates.proofs.Deeper.{reading_more, reading_end}
use Rattle.candidates.proofs.depths.push_reading.Goals as goal

pub writes_to-writes-requires : goal.writes_to-writes-requires
writes_to-writes-requires c =
    let runs = c.args.page.now.runs.items in
    let n = c.args.locations in
    let r = c.index-reads-place.result in
    let l = placed n runs c.args.reads.now c.loop-place.place r c.requires.page.within (c.requires.reads ∙ c.requires.page.reads_are) c.loop-place-test.true c.index-reads-place.is in
    (written_at runs n r.loc c.args.page.now.writes.items c.requires.page.writes_are l).0

pub loop-place-preserved : goal.loop-place-preserved
loop-place-preserved c =
    let runs = c.args.page.now.runs.items in
    let n = c.args.locations in
    let rs = c.args.reads.now in
    let at = c.loop-place in
    let r = c.index-reads-place.result in
    let read = c.requires.reads ∙ c.requires.page.reads_are in
    let l = placed n runs rs at.place r c.requires.page.within read c.loop-place-test.true c.index-reads-place.is in
    let w = written_at runs n r.loc c.args.page.now.writes.items c.requires.page.writes_are l in
    let many = ap (λ (ws : List EventId). length ws) (c.writes_to-writes.ensures ∙ w.1) in
    let by = length c.writes_to-writes.result.now + 1 in
    let is : by ≡ count_sources runs r = omega (arith, many) in
    let d : Depth = record { size = at.size; known = Sources at.place } in
    record {
      size = one_known n runs rs at.place at.size by r c.loop-place-test.true c.index-reads-place.is is at.invariant.size;
      depths = one_depth n runs at.depths.items c.push_read.new.depths.items d (nat_lt 0 (length c.writes_to-writes.result.now)) c.in_ok-push_read.ensures (reading_depth n runs rs at.place at.size read at.invariant.size) at.invariant.depths;
      known = reading_more runs rs at.place at.size r (length c.writes_to-writes.result.now) at.depths.items c.push_read.new.depths.items _ c.loop-place-test.true c.index-reads-place.is many c.in_ok-push_read.ensures at.invariant.known;
    }

pub returns-clause-known : goal.returns-clause-known
returns-clause-known c = reading_end c.args.page.now.runs.items c.args.reads.now c.loop-place.place c.loop-place.depths.items _ c.loop-place-test.false c.loop-place.invariant.known
