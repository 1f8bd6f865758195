use Rattle.std.proofs.Common.{◌∙◌, ◌-◌, ap, sym, arith}
use Rattle.std.specs.Str.{bytes_eq}
use Rattle.cat_model.proofs.Placing.{place_is, place_stays}
use Rattle.cat_model.proofs.places.place_of.Goals as goal

pub returns-then-eq : goal.returns-then-eq
returns-then-eq c =
    let t = c.loop-left-test.true in
    let w = c.loop-left.invariant.within in
    place_is (λ x. x.now) c.args.names.now (c.loop-left.left - 1) c.loop-left.left c.index-names-left.result c.args.name.now _ (omega (arith, t)) (omega (arith, t, w)) c.index-names-left.is (ap (λ r. bytes_eq r.now c.args.name.now) c.index-names-left.is ∙ sym c.eq.ensures.value ∙ c.if-eq.true) c.loop-left.invariant.same

pub loop-left-preserved : goal.loop-left-preserved
loop-left-preserved c =
    let t = c.loop-left-test.true in
    let w = c.loop-left.invariant.within in
    record {
      within = omega (arith, w);
      same = place_stays (λ x. x.now) c.args.names.now (c.loop-left.left - 1) c.loop-left.left c.index-names-left.result c.args.name.now _ (omega (arith, t)) (omega (arith, t, w)) c.index-names-left.is (ap (λ r. bytes_eq r.now c.args.name.now) c.index-names-left.is ∙ sym c.eq.ensures.value ∙ c.if-eq.false) c.loop-left.invariant.same;
    }
