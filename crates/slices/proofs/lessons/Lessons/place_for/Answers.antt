use Rattle.std.proofs.Common.{◌≡◌, ◌∙◌, ◌++◌, ◌∷◌, [], ℕ, List, length, ap, refl, sym, subst, arith}
use Rattle.std.specs.Prelude.{IfSome}
use Rattle.std.specs.List.{All}
use Rattle.std.proofs.lemmas.List.Elements.{All-push}
use Rattle.events.specs.Structures.{structure_of}
use Rattle.listings.specs.Lists.{StandsAt}
use Rattle.slices.specs.Lessons.{IsLesson}
use Rattle.slices.specs.declared.lesson.Lesson.{Lesson}
use Rattle.slices.proofs.Refuting.{last_pushed, long_pushed}
use Rattle.slices.proofs.lessons.Lessons.place_for.Goals as goal

pub returns-in_err-push-clause-alike : goal.returns-in_err-push-clause-alike
returns-in_err-push-clause-alike c s h n x a b at =
    let P : List Lesson → Type 0 = λ ls. IfSome c.args.self.now.place (λ k. (l : Lesson) → StandsAt ls k l → l.structure.structure ≡ structure_of x) in
    subst P (sym c.in_err-push.ensures.items) (h n x a b at)

pub returns-clause-lessons : goal.returns-clause-lessons
returns-clause-lessons c items h =
    let P : List Lesson → Type 0 = All (IsLesson items) in
    subst P (sym c.in_ok-push.ensures.items) (All-push (IsLesson items) c.args.self.now.list.items _ h (c.in_ok-new.ensures.lesson items))

pub returns-clause-place : goal.returns-clause-place
returns-clause-place c =
    let old = c.args.self.now.list in
    let P : Lesson → Type 0 = λ l. l.structure.structure ≡ structure_of c.args.graph.now in
    let long : c.len-place.result ≡ length old.items = c.len-place.ensures ∙ old.ok.0 in
    let more = ap length c.in_ok-push.ensures.items in
    let one = long_pushed old.items c.in_ok-new.field-0 in (
      omega (arith, long, more, one),
      λ l s. subst P (sym (last_pushed old.items c.push.new.self.items c.in_ok-new.field-0 c.len-place.result l c.in_ok-push.ensures.items long s)) c.in_ok-new.ensures.structure,
    )
