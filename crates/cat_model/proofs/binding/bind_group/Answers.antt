use Rattle.std.proofs.Common.{◌≡◌, ◌+◌, ◌∷◌, ◌∙◌, [], List, map, drop, refl, sym, ap, subst}
use Rattle.std.proofs.Math.ListN.{drop_of_length-le}
use Rattle.cat_tree.specs.Tree.{Bound, bound_of}
use Rattle.cat_model.specs.Behind.{Fit, group_above}
use Rattle.cat_model.proofs.Charged.{mapped_more}
use Rattle.cat_model.proofs.Pushed.{relation_pushed}
use Rattle.cat_model.proofs.binding.bind_group.Goals as goal

pub loop-binding-init : goal.loop-binding-init
loop-binding-init c = λ W f. (W, f, refl)

pub loop-binding-preserved : goal.loop-binding-preserved
loop-binding-preserved c = λ W f.
    (let b : Bound = bound_of c.binding-item.result in
    let rest : List Bound = map bound_of (drop (c.loop-binding.binding-index + 1) c.args.bindings.now) in
    let e = mapped_more bound_of c.args.bindings.now c.loop-binding.binding-index c.binding-item.result c.loop-binding-test.true c.binding-item.is in
    let u = c.loop-binding.invariant W f in
    (group_above (b ∷ []) u.0, relation_pushed c.loop-binding.scope.names.items c.push.new.self.items _ u.0 b c.in_ok-push.ensures.items refl refl u.1, ap (λ l. group_above l u.0) (sym e) ∙ u.2))

pub returns : goal.returns
returns c = λ W f.
    (let u = c.loop-binding.invariant W f in
    let e : group_above (map bound_of (drop c.loop-binding.binding-index c.args.bindings.now)) u.0 ≡ u.0 = ap (λ l. group_above (map bound_of l) u.0) (drop_of_length-le c.args.bindings.now c.loop-binding-test.false) in
    subst (Fit c.loop-binding.scope.names.items) (sym e ∙ u.2) u.1)
