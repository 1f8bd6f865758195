use Rattle.std.proofs.Common.{◌∙◌, [], ◌∷◌, ◌++◌, sym, refl, arith}
use Rattle.cat_syntax.specs.declared.symbol.Terminal.TheVariants.{Comma}
use Rattle.cat_syntax.proofs.Lists.{after_takes, new_name_takes, new_names_more}
use Rattle.cat_syntax.proofs.reading.Reader.new_names.Goals as goal

pub loop-names-smaller : goal.loop-names-smaller
loop-names-smaller c = omega (
  arith,
  new_name_takes c.loop-names.names.items c.loop-names.self.rest.now c.name_unless.new.self.rest.now (c.in_ok-next.next) (rw (c.repeats_listed-repeated.ensures, c.deref.ensures.value) at c.in_ok-next.ensures),
  after_takes Comma c.name_unless.new.self.rest.now c.take.new.self.rest.now tt c.if-not-take.ensures,
)

pub loop-names-preserved : goal.loop-names-preserved
loop-names-preserved c =
    let next = rw (c.repeats_listed-repeated.ensures, c.deref.ensures.value) at c.in_ok-next.ensures in
    rw (c.in_ok-push.ensures.items) (sym (rw (next, new_names_more (c.loop-names.names.items ++ c.in_ok-next.next ∷ []) c.name_unless.new.self.rest.now, c.if-not-take.ensures) refl) ∙ c.loop-names.invariant)

pub returns-then-not-take : goal.returns-then-not-take
returns-then-not-take c =
    let next = rw (c.repeats_listed-repeated.ensures, c.deref.ensures.value) at c.in_ok-next.ensures in
    sym c.loop-names.invariant ∙ rw (next, new_names_more (c.loop-names.names.items ++ c.in_ok-next.next ∷ []) c.name_unless.new.self.rest.now, c.if-not-take.ensures.0, c.in_ok-push.ensures.items, c.if-not-take.ensures.1) refl
