use Rattle.std.proofs.Common.{◌≡◌, ◌<◌, ℕ, Option, List, length, subst}
use Rattle.std.specs.Prelude.{IfSome}
use Rattle.events.specs.Structures.{structure_of}
use Rattle.listings.specs.Lists.{StandsAt}
use Rattle.slices.specs.declared.lesson.Lesson.{Lesson}
use Rattle.slices.proofs.Learning.{learned_set}
use Rattle.slices.proofs.Refuting.{item_at}
use Rattle.slices.proofs.lessons.Lessons.look.Goals as goal

pub returns-in_err-place-clause-learned : goal.returns-in_err-place-clause-learned
returns-in_err-place-clause-learned c s h = (c.place_for.ensures.lessons c.args.evaluator.now.items h.0, c.place_for.ensures.alike s h.1)

pub returns-in_default-clause-learned : goal.returns-in_default-clause-learned
returns-in_default-clause-learned c s h = (c.place_for.ensures.lessons c.args.evaluator.now.items h.0, c.place_for.ensures.alike s h.1)

pub learn-requires-clause-structure : goal.learn-requires-clause-structure
learn-requires-clause-structure c =
    let ls = c.place_for.new.self.list.items in
    let P : Option ℕ → Type 0 = λ o. IfSome o (λ k. (k < length ls) × ((l : Lesson) → StandsAt ls k l → l.structure.structure ≡ structure_of c.args.graph.now)) in
    let place = subst P c.in-Some.is c.in_ok-place.ensures.place in
    place.1 c.index_mut.result.now (item_at ls c.in-Some.place c.index_mut.result.now place.0 c.index_mut.ensures.value)

pub returns-in_err-learn-clause-learned : goal.returns-in_err-learn-clause-learned
returns-in_err-learn-clause-learned c s h =
    let m = c.place_for.new.self in
    let ls = m.list.items in
    let P : Option ℕ → Type 0 = λ o. IfSome o (λ k. (k < length ls) × ((l : Lesson) → StandsAt ls k l → l.structure.structure ≡ structure_of c.args.graph.now)) in
    let place = subst P c.in-Some.is c.in_ok-place.ensures.place in
    let old = c.index_mut.result.now in
    learned_set s c.args.evaluator.now.items m c.in-Some.place old c.learn.new.self (item_at ls c.in-Some.place old place.0 c.index_mut.ensures.value) c.learn.ensures.structure c.learn.ensures.lesson
    (c.place_for.ensures.lessons c.args.evaluator.now.items h.0, c.place_for.ensures.alike s h.1)

pub returns-then-branch-clause-learned : goal.returns-then-branch-clause-learned
returns-then-branch-clause-learned c s h =
    let m = c.place_for.new.self in
    let ls = m.list.items in
    let P : Option ℕ → Type 0 = λ o. IfSome o (λ k. (k < length ls) × ((l : Lesson) → StandsAt ls k l → l.structure.structure ≡ structure_of c.args.graph.now)) in
    let place = subst P c.in-Some.is c.in_ok-place.ensures.place in
    let old = c.index_mut.result.now in
    learned_set s c.args.evaluator.now.items m c.in-Some.place old c.learn.new.self (item_at ls c.in-Some.place old place.0 c.index_mut.ensures.value) c.learn.ensures.structure c.learn.ensures.lesson
    (c.place_for.ensures.lessons c.args.evaluator.now.items h.0, c.place_for.ensures.alike s h.1)

pub returns-else-branch-clause-learned : goal.returns-else-branch-clause-learned
returns-else-branch-clause-learned c s h =
    let m = c.place_for.new.self in
    let ls = m.list.items in
    let P : Option ℕ → Type 0 = λ o. IfSome o (λ k. (k < length ls) × ((l : Lesson) → StandsAt ls k l → l.structure.structure ≡ structure_of c.args.graph.now)) in
    let place = subst P c.in-Some.is c.in_ok-place.ensures.place in
    let old = c.index_mut.result.now in
    learned_set s c.args.evaluator.now.items m c.in-Some.place old c.learn.new.self (item_at ls c.in-Some.place old place.0 c.index_mut.ensures.value) c.learn.ensures.structure c.learn.ensures.lesson
    (c.place_for.ensures.lessons c.args.evaluator.now.items h.0, c.place_for.ensures.alike s h.1)
