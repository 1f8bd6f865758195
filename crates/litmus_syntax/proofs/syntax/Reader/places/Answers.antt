use Rattle.std.proofs.Common.{◌∙◌, sym, refl}
use Rattle.litmus_syntax.proofs.Places.{places_turn, places_loop_takes}
use Rattle.litmus_syntax.proofs.syntax.Reader.places.Goals as goal

pub loop-places-smaller : goal.loop-places-smaller
loop-places-smaller c = places_loop_takes c.loop-places.self.rest.now c.place_into.new.self.rest.now c.take.new.self.rest.now tt c.loop-places.places.items c.place_into.new.places.items c.in_ok-place_into.ensures c.if-not-take.ensures

pub returns-then-not-take : goal.returns-then-not-take
returns-then-not-take c = sym c.loop-places.invariant ∙ rw (c.in_ok-place_into.ensures, places_turn c.place_into.new.places.items c.place_into.new.self.rest.now, c.if-not-take.ensures.0, c.if-not-take.ensures.1) refl

pub loop-places-preserved : goal.loop-places-preserved
loop-places-preserved c = sym (rw (c.in_ok-place_into.ensures, places_turn c.place_into.new.places.items c.place_into.new.self.rest.now, c.if-not-take.ensures) refl) ∙ c.loop-places.invariant
