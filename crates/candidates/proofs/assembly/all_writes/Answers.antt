use Rattle.std.proofs.Common.{◌+◌, ◌∙◌, take, refl, arith}
use Rattle.candidates.specs.Executions.{later_writes}
use Rattle.candidates.proofs.Caps.{orders_below}
use Rattle.candidates.proofs.Listed.{next_of, all_of}
use Rattle.candidates.proofs.Puts.{cut_behind}
use Rattle.candidates.proofs.assembly.all_writes.Goals as goal

pub put_writes-requires-clause-most : goal.put_writes-requires-clause-most
put_writes-requires-clause-most c = omega (arith, orders_below c.args.runs.now c.args.locations c.loop-location.location c.loop-location-test.true, c.requires)

pub loop-location-preserved : goal.loop-location-preserved
loop-location-preserved c =
    let x = c.loop-location.location in
    record {
      is = next_of (later_writes c.args.runs.now) c.args.locations x (take x c.loop-location.all.items) (take (x + 1) c.put_writes.new.all.items) (later_writes c.args.runs.now x) _ c.loop-location-test.true refl c.in_ok-put_writes.ensures.0 c.loop-location.invariant.is;
      within = omega (arith, c.loop-location-test.true);
      room = omega (arith, c.in_ok-put_writes.ensures.1);
    }

pub returns : goal.returns
returns c =
    let at = c.loop-location in
    cut_behind at.all.items c.truncate.new.self.items at.location c.args.locations at.invariant.within (omega (arith, c.loop-location-test.false)) c.truncate.ensures.items
    ∙ all_of (later_writes c.args.runs.now) c.args.locations at.location (take at.location at.all.items) c.loop-location-test.false at.invariant.is
