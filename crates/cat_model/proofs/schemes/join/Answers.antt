use Rattle.std.proofs.Common.{◌≡◌, ◌∙◌, List, ap, sym, subst}
use Rattle.cat_model.specs.Classing.{class_of}
use Rattle.cat_model.specs.declared.schemes.Class.{Class}
use Rattle.cat_model.proofs.Joining.{own_class, joined_by}
use Rattle.cat_model.proofs.schemes.join.Goals as goal

pub join_own-requires : goal.join_own-requires
join_own-requires c =
    let P : Class → Type 0 = λ a. class_of c.args.classes.now.items.items a ≡ a in
    let f : List Class → Class → Class = class_of in
    (c.requires, subst P (sym (c.class_of-left.ensures ∙ ap (λ l. f l c.args.left) c.deref.ensures.value)) (own_class c.args.classes.now.items.items c.args.left c.requires), subst P (sym (c.class_of-right.ensures ∙ ap (λ l. f l c.args.right) c.deref-2.ensures.value)) (own_class c.args.classes.now.items.items c.args.right c.requires))

pub returns-clause-joined : goal.returns-clause-joined
returns-clause-joined c =
    let f : List Class → Class → Class = class_of in
    joined_by c.args.classes.now c.join_own.new.classes c.args.left c.args.right c.class_of-left.result c.class_of-right.result (c.class_of-left.ensures ∙ ap (λ l. f l c.args.left) c.deref.ensures.value)
    (c.class_of-right.ensures ∙ ap (λ l. f l c.args.right) c.deref-2.ensures.value) c.join_own.ensures.joined
