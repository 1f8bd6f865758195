use Rattle.std.proofs.Common.{◌∙◌, ap, arith, sym}
use Rattle.std.proofs.lemmas.List.{get_or_default}
use Rattle.cat_places.specs.Blame.{stops}
use Rattle.cat_places.proofs.Blaming.{no_visit, none_stops_more}
use Rattle.cat_places.proofs.blame.first_stop.Goals as goal

pub returns-then-stops : goal.returns-then-stops
returns-then-stops c =
    let n = c.loop-number.number in
    record {
      within = c.loop-number-test.true;
      stops = λ d. ap (stops c.args.files.now c.args.fault.now n) (get_or_default c.args.visits.now n d no_visit c.loop-number-test.true) ∙ sym c.stops.ensures ∙ c.if-stops.true;
      first = c.loop-number.invariant;
    }

pub loop-number-preserved : goal.loop-number-preserved
loop-number-preserved c =
    none_stops_more c.args.files.now c.args.fault.now c.args.visits.now c.loop-number.number no_visit c.loop-number-test.true (sym c.stops.ensures ∙ c.if-stops.false) c.loop-number.invariant

pub returns : goal.returns
returns c = λ j d low. c.loop-number.invariant j d (omega (arith, low, c.loop-number-test.false))
