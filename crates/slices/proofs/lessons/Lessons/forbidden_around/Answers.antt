use Rattle.std.proofs.Common.{◌≡◌, ℕ, Option, List, ap, sym, subst}
use Rattle.std.specs.Prelude.{IfSome}
use Rattle.events.specs.Structures.{structure_of}
use Rattle.listings.specs.Lists.{StandsAt}
use Rattle.slices.specs.declared.lesson.Lesson.{Lesson}
use Rattle.slices.proofs.Refuting.{item_now}
use Rattle.slices.proofs.lessons.Lessons.forbidden_around.Goals as goal

pub forbidden_around-requires-clause-structure : goal.forbidden_around-requires-clause-structure
forbidden_around-requires-clause-structure c =
    let P : Option ℕ → Type 0 = λ o. IfSome o (λ k. (l : Lesson) → StandsAt c.find.new.self.list.items k l → l.structure.structure ≡ structure_of c.args.walk.now.shown) in
    let lesson = c.in-Some-get.lesson.now in
    subst P c.in-Some.is c.find.ensures.place lesson
    (item_now c.find.new.self.list.items c.deref.result.now c.in-Some.place lesson c.deref.ensures.value (sym c.in-Some-get.ensures.lookup.0) c.in-Some-get.ensures.lookup.1)
