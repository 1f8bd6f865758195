use Rattle.std.proofs.Common.{◌∙◌, ap, map, sym, refl}
use Rattle.cat_model.specs.Classing.{swapped}
use Rattle.cat_model.specs.declared.schemes.Classes.{Classes}
use Rattle.cat_model.proofs.Joining.{flat_swapped, joined_left, joined_right, joined_apart, joined_known}
use Rattle.cat_model.proofs.schemes.join_own.Goals as goal

pub returns-in-Same-clause-flat : goal.returns-in-Same-clause-flat
returns-in-Same-clause-flat c = flat_swapped c.args.classes.now.items.items c.swap.new.items.items c.in-Same.place c.args.right c.requires.0 c.requires.2 c.swap.ensures

pub returns-in-Same-clause-joined : goal.returns-in-Same-clause-joined
returns-in-Same-clause-joined c =
    let new : Classes = record { possible = c.args.classes.now.possible; items = c.swap.new.items } in
    joined_left c.args.classes.now new c.args.left c.args.right c.in-Same.place c.in-Same.is refl c.swap.ensures c.requires.1

pub returns-in-Same-right-clause-flat : goal.returns-in-Same-right-clause-flat
returns-in-Same-right-clause-flat c = flat_swapped c.args.classes.now.items.items c.swap-in-Same-right.new.items.items c.in-Same-right.place c.args.left c.requires.0 c.requires.1 (c.swap-in-Same-right.ensures ∙ ap (λ b. map (swapped c.in-Same-right.place b) c.args.classes.now.items.items) (sym c.in-Known.is))

pub returns-in-Same-right-clause-joined : goal.returns-in-Same-right-clause-joined
returns-in-Same-right-clause-joined c =
    let new : Classes = record { possible = c.args.classes.now.possible; items = c.swap-in-Same-right.new.items } in
    joined_right c.args.classes.now new c.args.left c.args.right c.in-Same-right.place c.in-Same-right.is refl (c.swap-in-Same-right.ensures ∙ ap (λ b. map (swapped c.in-Same-right.place b) c.args.classes.now.items.items) (sym c.in-Known.is)) c.requires.2

pub returns-then-not-is_same-clause-joined : goal.returns-then-not-is_same-clause-joined
returns-then-not-is_same-clause-joined c =
    joined_apart c.args.classes.now c.refuse.new.classes c.args.left c.args.right c.in-Known.sort c.in-Known-right.other c.in-Known.is c.in-Known-right.is (sym c.is_same.ensures ∙ c.if-not-is_same.true) c.refuse.ensures.never

pub returns-else-not-is_same-clause-joined : goal.returns-else-not-is_same-clause-joined
returns-else-not-is_same-clause-joined c =
    joined_known c.args.classes.now c.args.left c.args.right c.in-Known.sort c.in-Known-right.other c.in-Known.is c.in-Known-right.is (sym c.is_same.ensures ∙ c.if-not-is_same.false)
