use Rattle.std.proofs.Common.{◌∙◌, [], ◌∷◌, ◌++◌, sym, refl, arith}
use Rattle.cat_syntax.specs.declared.symbol.Terminal.TheVariants.{Comma}
use Rattle.cat_syntax.proofs.Lists.{after_takes, name_takes, names_more}
use Rattle.cat_syntax.proofs.reading.Reader.names.Goals as goal

pub loop-names-smaller : goal.loop-names-smaller
loop-names-smaller c = omega (
  arith,
  name_takes c.loop-names.self.rest.now c.name.new.self.rest.now (c.in_ok-next.next) c.in_ok-next.ensures,
  after_takes Comma c.name.new.self.rest.now c.take.new.self.rest.now tt c.if-not-take.ensures,
)

pub loop-names-preserved : goal.loop-names-preserved
loop-names-preserved c =
    rw (c.in_ok-push.ensures.items) (sym (rw (c.in_ok-next.ensures, names_more (c.loop-names.names.items ++ c.in_ok-next.next ∷ []) c.name.new.self.rest.now, c.if-not-take.ensures) refl) ∙ c.loop-names.invariant)

pub returns-then-not-take : goal.returns-then-not-take
returns-then-not-take c =
    sym c.loop-names.invariant ∙ rw (c.in_ok-next.ensures, names_more (c.loop-names.names.items ++ c.in_ok-next.next ∷ []) c.name.new.self.rest.now, c.if-not-take.ensures.0, c.in_ok-push.ensures.items, c.if-not-take.ensures.1) refl
