use Rattle.std.proofs.Common.{◌∙◌, ◌∷◌, [], List, ap, map, take}
use Rattle.std.proofs.lemmas.List.{map-append, take_all}
use Rattle.cat_tree.specs.Tree.{Bound, bound_of}
use Rattle.cat_tree.specs.declared.tree.Binding.{Binding}
use Rattle.cat_model.proofs.Listed.{front_more, told, told_more}
use Rattle.cat_model.proofs.denials.names_of.Goals as goal

pub loop-binding-init : goal.loop-binding-init
loop-binding-init c = ap told c.new-names.ensures.items

pub loop-binding-preserved : goal.loop-binding-preserved
loop-binding-preserved c =
    let i = c.loop-binding.binding-index in
    let b = c.binding-item.result in
    told_more c.loop-binding.names.items c.push.new.self.items _ _ _ c.in_ok-push.ensures.items
    (ap (λ (bs : List Binding). map (λ (b : Bound). b.name) (map bound_of bs)) (front_more c.args.group.now i b c.loop-binding-test.true c.binding-item.is)
    ∙ ap (map (λ (b : Bound). b.name)) (map-append bound_of (take i c.args.group.now) (b ∷ [])) ∙ map-append (λ (b : Bound). b.name) (map bound_of (take i c.args.group.now)) (bound_of b ∷ [])) c.loop-binding.invariant

pub returns : goal.returns
returns c = c.loop-binding.invariant ∙ ap (λ (bs : List Binding). map (λ (b : Bound). b.name) (map bound_of bs)) (take_all c.loop-binding.binding-index c.args.group.now c.loop-binding-test.false)
