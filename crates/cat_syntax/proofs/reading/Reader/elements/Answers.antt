use Rattle.std.proofs.Common.{◌∙◌, [], ◌∷◌, ◌++◌, sym, refl, arith, map}
use Rattle.cat_syntax.specs.declared.symbol.Terminal.TheVariants.{Comma}
use Rattle.cat_tree.specs.Tree.{shown_of}
use Rattle.cat_syntax.proofs.Lists.{after_takes, element_takes, elements_more, shown_push}
use Rattle.cat_syntax.proofs.reading.Reader.elements.Goals as goal

pub loop-elements-smaller : goal.loop-elements-smaller
loop-elements-smaller c = omega (
  arith,
  element_takes c.loop-elements.self.rest.now c.element.new.self.rest.now (shown_of c.in_ok-next.next) c.in_ok-next.ensures,
  after_takes Comma c.element.new.self.rest.now c.take.new.self.rest.now tt c.if-not-take.ensures,
)

pub loop-elements-preserved : goal.loop-elements-preserved
loop-elements-preserved c =
    rw (c.in_ok-push.ensures.items, shown_push c.loop-elements.elements.items c.in_ok-next.next) (sym (rw (c.in_ok-next.ensures, elements_more (map shown_of c.loop-elements.elements.items ++ shown_of c.in_ok-next.next ∷ []) c.element.new.self.rest.now, c.if-not-take.ensures) refl) ∙ c.loop-elements.invariant)

pub returns-then-not-take : goal.returns-then-not-take
returns-then-not-take c =
    sym c.loop-elements.invariant ∙ rw (c.in_ok-next.ensures, elements_more (map shown_of c.loop-elements.elements.items ++ shown_of c.in_ok-next.next ∷ []) c.element.new.self.rest.now, c.if-not-take.ensures.0, c.in_ok-push.ensures.items, shown_push c.loop-elements.elements.items c.in_ok-next.next, c.if-not-take.ensures.1) refl
