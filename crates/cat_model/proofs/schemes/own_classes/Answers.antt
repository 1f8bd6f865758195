use Rattle.std.proofs.Common.{◌≡◌, ◌∙◌, ap, refl, length, arith, true}
use Rattle.cat_model.specs.Classing.{own_classes}
use Rattle.cat_model.specs.declared.schemes.Classes.{Classes}
use Rattle.cat_model.proofs.Joining.{own_long, own_flat, own_agree}
use Rattle.cat_model.proofs.schemes.own_classes.Goals as goal

pub returns-clause-flat : goal.returns-clause-flat
returns-clause-flat c = own_flat c.loop-place.place c.loop-place.items.items c.loop-place.invariant

pub returns-clause-long : goal.returns-clause-long
returns-clause-long c =
    let e : c.loop-place.place ≡ c.args.count = omega (arith, c.loop-place-test.false, c.loop-place.auto.place-end) in
    ap length c.loop-place.invariant ∙ own_long c.loop-place.place ∙ e

pub returns-clause-all : goal.returns-clause-all
returns-clause-all c =
    let e : c.loop-place.place ≡ c.args.count = omega (arith, c.loop-place-test.false, c.loop-place.auto.place-end) in
    let made : Classes = record { possible = true; items = c.loop-place.items } in
    own_agree c.args.count made refl (c.loop-place.invariant ∙ ap own_classes e)
