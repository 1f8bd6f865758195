use Rattle.std.proofs.Common.{arith, ℕ, ◌<◌, List, length, subst, sym}
use Rattle.std.proofs.lemmas.Result.{IfOk-from_err}
use Rattle.candidates.specs.Executions.{block}
use Rattle.candidates.specs.Readings.{IsPage}
use Rattle.candidates.specs.Walks.{IsAhead, IsNumberOf}
use Rattle.candidates.specs.declared.page.Ahead.{Ahead}
use Rattle.candidates.proofs.Scenes.{ahead_kept, number_on, scene_kept, scene_shown}
use Rattle.candidates.proofs.walk.Walk.next.Goals as goal

pub search_near-requires-clause-scene : goal.search_near-requires-clause-scene
search_near-requires-clause-scene c = c.self.invariant.scene

pub search_near-requires-clause-to : goal.search_near-requires-clause-to
search_near-requires-clause-to c = c.self.invariant.within

pub search-requires-clause-ahead : goal.search-requires-clause-ahead
search-requires-clause-ahead c = c.self.invariant.scene.ahead

pub search-requires-clause-to : goal.search-requires-clause-to
search-requires-clause-to c = c.self.invariant.within

pub invariant_of-self-in_err-hit : goal.invariant_of-self-in_err-hit
invariant_of-self-in_err-hit c =
    let s = c.self.invariant.scene in
    record {
      order = c.self.invariant.order;
      within = c.self.invariant.within;
      scene = record { stretch = s.stretch; none = s.none; within = s.within; seen = s.seen; known = s.known; depths = s.depths; placed = s.placed; room = s.room; number = s.number; ahead = c.search.ensures.ahead };
    }

pub invariant_of-self-in-None : goal.invariant_of-self-in-None
invariant_of-self-in-None c =
    let s = c.self.invariant.scene in
    record {
      order = omega arith;
      within = c.self.invariant.within;
      scene = record { stretch = s.stretch; none = s.none; within = s.within; seen = s.seen; known = s.known; depths = s.depths; placed = s.placed; room = s.room; number = s.number; ahead = c.search.ensures.ahead };
    }

pub returns-in_err-hit-clause-found : goal.returns-in_err-hit-clause-found
returns-in_err-hit-clause-found c = IfOk-from_err c.from_residual.result _ c.from_residual.ensures.0

pub returns-in_err-show-in-Some-clause-found : goal.returns-in_err-show-in-Some-clause-found
returns-in_err-show-in-Some-clause-found c = IfOk-from_err c.from_residual-in_err-show-in-Some.result _ c.from_residual-in_err-show-in-Some.ensures.0

pub show-requires-clause-page : goal.show-requires-clause-page
show-requires-clause-page c =
    let found = rw c.in-Some.is at c.in_ok-hit.ensures.found in
    let P : List ℕ → Type 0 = λ is. IsPage (length is) c.search.new.ahead.stretch.page in
    subst P (sym c.init-in-Some.ensures) found.1.stretch.page

pub show-requires-clause-number : goal.show-requires-clause-number
show-requires-clause-number c =
    let found = rw c.in-Some.is at c.in_ok-hit.ensures.found in
    let P : List ℕ → Type 0 = λ is. c.in-Some.hit.at < block (length is) c.search.new.ahead.stretch.page.runs.items in
    subst P (sym c.init-in-Some.ensures) (omega (arith, found.1.within, found.1.stretch.size))

pub turn-requires-clause-page : goal.turn-requires-clause-page
turn-requires-clause-page c =
    let P : List ℕ → Type 0 = λ is. IsPage (length is) c.self.inside.scene.stretch.page in
    subst P (sym c.init.ensures) c.in-Found.ensures.1.stretch.page

pub turn-requires-clause-number : goal.turn-requires-clause-number
turn-requires-clause-number c =
    let P : List ℕ → Type 0 = λ is. c.in-Found.hit.at < block (length is) c.self.inside.scene.stretch.page.runs.items in
    subst P (sym c.init.ensures) (omega (arith, c.in-Found.ensures.1.within, c.in-Found.ensures.1.stretch.size))

pub invariant_of-self : goal.invariant_of-self
invariant_of-self c =
    let s = c.self.inside.space.now in
    let P : Ahead → Type 0 = λ a. IsAhead s a in
    record {
      order = omega (arith, c.in-Found.ensures.0);
      within = c.self.invariant.within;
      scene = scene_shown s c.turn.new.scene c.init.result.now c.self.inside.next c.self.inside.scene.stretch c.in-Found.hit c.init.ensures c.turn.ensures.stretch c.turn.ensures.hit c.turn.ensures.shown c.in-Found.ensures.1
          (rw (c.turn.ensures.runs, c.turn.ensures.kept.0) c.self.invariant.scene.placed) (rw (c.turn.ensures.kept.1, c.turn.ensures.kept.2) c.self.invariant.scene.room)
          (rw (c.turn.ensures.kept.1, c.turn.ensures.kept.3) c.self.invariant.scene.number)
          (subst P (sym c.turn.ensures.ahead) c.self.invariant.scene.ahead);
    }

pub invariant_of-self-in-Some : goal.invariant_of-self-in-Some
invariant_of-self-in-Some c =
    let s = c.self.inside.space.now in
    let found = rw c.in-Some.is at c.in_ok-hit.ensures.found in
    let told = c.in_ok-show-in-Some.ensures in
    record {
      order = omega (arith, found.0);
      within = c.self.invariant.within;
      scene = scene_shown s c.show.new.scene c.init-in-Some.result.now c.in-Until.from c.search.new.ahead.stretch c.in-Some.hit c.init-in-Some.ensures told.stretch told.hit told.shown found.1
          (rw (told.shown, told.places) found.1.stretch.placed) (rw (told.room.0, told.room.1) c.self.invariant.scene.placed)
          (number_on s c.self.inside.scene c.show.new.scene.room c.show.new.scene.room_number c.self.invariant.scene told.number.0 told.number.1 told.room.0 told.number.2)
          (ahead_kept s c.show.new.scene.ahead c.search.new.ahead c.self.inside.scene.stretch told.ahead told.levels c.self.invariant.scene.stretch c.in_ok-hit.ensures.ahead);
    }

pub invariant_of-self-in_err-show-in-Some : goal.invariant_of-self-in_err-show-in-Some
invariant_of-self-in_err-show-in-Some c =
    let same = c.in_err-show-in-Some.ensures.same in
    record {
      order = c.self.invariant.order;
      within = c.self.invariant.within;
      scene = scene_kept c.self.inside.space.now c.show.new.scene c.self.inside.scene c.search.new.ahead same.0 same.1 same.2 same.3 c.in_err-show-in-Some.ensures.left.0 c.in_err-show-in-Some.ensures.left.1 c.in_err-show-in-Some.ensures.left.2 c.self.invariant.scene c.in_ok-hit.ensures.ahead;
    }

pub overflow_add-self-in-Some : goal.overflow_add-self-in-Some
overflow_add-self-in-Some c =
    let found = rw c.in-Some.is at c.in_ok-hit.ensures.found in
    omega (arith, found.0)

pub overflow_add-number-in-Some : goal.overflow_add-number-in-Some
overflow_add-number-in-Some c =
    let found = rw c.in-Some.is at c.in_ok-hit.ensures.found in
    omega (arith, found.0)

pub show-requires-clause-placed : goal.show-requires-clause-placed
show-requires-clause-placed c =
    let found = rw c.in-Some.is at c.in_ok-hit.ensures.found in
    (c.self.inside.space.now.threads, c.self.invariant.scene.room, found.1.stretch.placed)

pub show-requires-clause-known : goal.show-requires-clause-known
show-requires-clause-known c =
    let P : List ℕ → Type 0 = λ is. IsNumberOf (length is) c.self.inside.scene in
    subst P (sym c.init-in-Some.ensures) c.self.invariant.scene.number
