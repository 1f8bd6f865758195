use Rattle.std.proofs.Common.{◌≡◌, ◌∙◌, List, ap, length, sym, subst, arith}
use Rattle.events.specs.Structures.{structure_of}
use Rattle.listings.specs.Lists.{StandsAt}
use Rattle.slices.specs.declared.lesson.Lesson.{Lesson}
use Rattle.slices.proofs.Refuting.{stands_is}
use Rattle.slices.proofs.lessons.Lessons.place_of.Goals as goal

pub returns-then-is_of : goal.returns-then-is_of
returns-then-is_of c = (
  (let l = c.loop-place-test.true in let e = ap length c.deref-lesson-items.ensures.value in omega (arith, l, e)),
  λ l s. (
      let P : Lesson → Type 0 = λ z. z.structure.structure ≡ structure_of c.args.graph.now in
      let Q : List Lesson → Type 0 = λ z. StandsAt z c.loop-place.place l in
      subst P (c.lesson-item.is ∙ stands_is _ c.loop-place.place l _ (subst Q (sym c.deref-lesson-items.ensures.value) s)) (c.is_of.ensures.0 c.if-is_of.true)),
)
