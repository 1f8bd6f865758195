use Rattle.std.proofs.Common.{◌≡◌, List, [], ◌∷◌, length, get_or, Some, ap, subst, arith, ◌∙◌}
use Rattle.std.specs.List.{slice_get}
use Rattle.std.proofs.lemmas.List.{length-append}
use Rattle.std.proofs.lemmas.Option.{slice_get-get_or}
use Rattle.cat_eval.specs.declared.growth.Growth.{Growth}
use Rattle.cat_eval.specs.declared.step.Step.{Step}
use Rattle.cat_eval.specs.declared.step.Step.TheVariants.{Unknown}
use Rattle.cat_eval.specs.Growth.{GoesBy}
use Rattle.cat_eval.proofs.Grown.{going_more, longer_none, longer_more, rounds_more}
use Rattle.cat_eval.proofs.growing.grow_steps.Goals as goal

pub loop-place-init : goal.loop-place-init
loop-place-init c = record {
  long = (let l = c.len-place.ensures in omega (arith, l));
  going = c.requires.going;
  longer = longer_none c.args.growths.now.items;
  rounds = λ k l m q. absurd (omega (arith, l, m, c.len-place.ensures));
}

pub loop-place-preserved : goal.loop-place-preserved
loop-place-preserved c =
    let step : Step = get_or c.args.steps.now c.loop-place.place Unknown in
    let n = c.loop-place.invariant.long in
    let at : slice_get c.args.steps.now c.loop-place.place ≡ Some step = slice_get-get_or c.args.steps.now c.loop-place.place Unknown (let a = c.loop-place-test.true in let b = c.requires.inside in omega (arith, a, b)) in
    let P : List Growth → Type 0 = λ gs. GoesBy c.args.change gs (length gs) step c.growth_of-growth.result in
    let e = c.in_ok-push.ensures.items in
    record {
      long = (let l = ap length e in let m = length-append c.loop-place.growths.items (c.growth_of-growth.result ∷ []) in omega (arith, l, m, n));
      going = going_more c.args.change c.args.steps.now c.loop-place.growths.items c.push.new.self.items c.growth_of-growth.result step c.loop-place.invariant.going (ap (slice_get c.args.steps.now) n ∙ at)
          (subst P c.deref.ensures.value c.growth_of-growth.ensures.goes) e;
      longer = longer_more c.args.growths.now.items c.loop-place.growths.items c.push.new.self.items c.growth_of-growth.result c.loop-place.invariant.longer e;
      rounds = rounds_more c.args.steps.now c.loop-place.growths.items c.push.new.self.items c.growth_of-growth.result step (length c.args.growths.now.items) c.loop-place.place c.args.rounds c.loop-place.invariant.rounds n at
          c.growth_of-growth.ensures.rounds e;
    }
