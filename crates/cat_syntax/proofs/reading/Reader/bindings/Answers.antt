use Rattle.std.proofs.Common.{◌∙◌, [], ◌∷◌, ◌++◌, sym, refl, arith, map}
use Rattle.cat_syntax.specs.declared.symbol.Terminal.TheVariants.{And}
use Rattle.cat_tree.specs.Tree.{bound_of}
use Rattle.cat_syntax.proofs.Lists.{after_takes, binding_takes, bindings_more, bounds_push}
use Rattle.cat_syntax.proofs.reading.Reader.bindings.Goals as goal

pub loop-bindings-smaller : goal.loop-bindings-smaller
loop-bindings-smaller c = omega (
  arith,
  binding_takes (map bound_of c.loop-bindings.bindings.items) c.loop-bindings.self.rest.now c.binding.new.self.rest.now (bound_of c.in_ok-next.next) (rw c.deref.ensures.value at c.in_ok-next.ensures),
  after_takes And c.binding.new.self.rest.now c.take.new.self.rest.now tt c.if-not-take.ensures,
)

pub loop-bindings-preserved : goal.loop-bindings-preserved
loop-bindings-preserved c =
    let next = rw c.deref.ensures.value at c.in_ok-next.ensures in
    rw (c.in_ok-push.ensures.items, bounds_push c.loop-bindings.bindings.items c.in_ok-next.next) (sym (rw (next, bindings_more (map bound_of c.loop-bindings.bindings.items ++ bound_of c.in_ok-next.next ∷ []) c.binding.new.self.rest.now, c.if-not-take.ensures) refl) ∙ c.loop-bindings.invariant)

pub returns-then-not-take : goal.returns-then-not-take
returns-then-not-take c =
    let next = rw c.deref.ensures.value at c.in_ok-next.ensures in
    sym c.loop-bindings.invariant ∙ rw (next, bindings_more (map bound_of c.loop-bindings.bindings.items ++ bound_of c.in_ok-next.next ∷ []) c.binding.new.self.rest.now, c.if-not-take.ensures.0, c.in_ok-push.ensures.items, bounds_push c.loop-bindings.bindings.items c.in_ok-next.next, c.if-not-take.ensures.1) refl
