use Rattle.std.proofs.Common.{◌∙◌, [], ◌∷◌, ◌++◌, sym, refl, arith, map}
use Rattle.cat_syntax.specs.declared.symbol.Terminal.TheVariants.{And}
use Rattle.cat_tree.specs.Tree.{defined_of}
use Rattle.cat_syntax.proofs.Lists.{after_takes, definition_takes, definitions_more, defined_push}
use Rattle.cat_syntax.proofs.reading.Reader.definitions.Goals as goal

pub loop-definitions-smaller : goal.loop-definitions-smaller
loop-definitions-smaller c = omega (
  arith,
  definition_takes (map defined_of c.loop-definitions.definitions.items) c.loop-definitions.self.rest.now c.definition.new.self.rest.now (defined_of c.in_ok-next.next) (rw c.deref.ensures.value at c.in_ok-next.ensures),
  after_takes And c.definition.new.self.rest.now c.take.new.self.rest.now tt c.if-not-take.ensures,
)

pub loop-definitions-preserved : goal.loop-definitions-preserved
loop-definitions-preserved c =
    let next = rw c.deref.ensures.value at c.in_ok-next.ensures in
    rw (c.in_ok-push.ensures.items, defined_push c.loop-definitions.definitions.items c.in_ok-next.next) (sym (rw (next, definitions_more (map defined_of c.loop-definitions.definitions.items ++ defined_of c.in_ok-next.next ∷ []) c.definition.new.self.rest.now, c.if-not-take.ensures) refl) ∙ c.loop-definitions.invariant)

pub returns-then-not-take : goal.returns-then-not-take
returns-then-not-take c =
    let next = rw c.deref.ensures.value at c.in_ok-next.ensures in
    sym c.loop-definitions.invariant ∙ rw (next, definitions_more (map defined_of c.loop-definitions.definitions.items ++ defined_of c.in_ok-next.next ∷ []) c.definition.new.self.rest.now, c.if-not-take.ensures.0, c.in_ok-push.ensures.items, defined_push c.loop-definitions.definitions.items c.in_ok-next.next, c.if-not-take.ensures.1) refl
