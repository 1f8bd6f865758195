-- Lessons one of which has learned more.
use Rattle.std.proofs.Common.{◌≡◌, ◌⊎◌, ℕ, zero, suc, ◌<◌, ◌≤◌, List, [], ◌∷◌, set, Option, Some, None, refl, sym, ap, subst, inl, inr}
use Rattle.std.specs.Prelude.{IfSome}
use Rattle.std.specs.List.{All}
use Rattle.std.proofs.lemmas.List.Elements.{All-set}
use Rattle.listings.specs.Lists.{StandsAt}
use Rattle.candidates.specs.Candidates.{Choices, graph_at}
use Rattle.cat_tree.specs.Tree.{Clause}
use Rattle.events.specs.Executions.{GraphValue}
use Rattle.events.specs.Structures.{Structure, Sourced, structure_of}
use Rattle.slices.specs.Lessons.{AreLearned, IsLesson}
use Rattle.slices.specs.declared.lesson.Lesson.{Lesson}
use Rattle.slices.specs.declared.lessons.Lessons.{Lessons}
use Rattle.slices.proofs.Refuting.{all_stands}

stands_set : {X : Type 0} (xs : List X) (p : ℕ) (y : X) (k : ℕ) (x : X) → StandsAt (set xs p y) k x → ((k ≡ p) × (x ≡ y)) ⊎ StandsAt xs k x
stands_set [] zero y k x s = absurd s
stands_set [] (suc p) y k x s = absurd s
stands_set (z ∷ zs) zero y zero x s = inl (refl, s)
stands_set (z ∷ zs) zero y (suc k) x s = inr s
stands_set (z ∷ zs) (suc p) y zero x s = inr s
stands_set (z ∷ zs) (suc p) y (suc k) x s = elim (stands_set zs p y k x s) [ inl e ↦ inl (ap suc e.0, e.1) | inr t ↦ inr t ]

alike_set : (s : Structure) (ls : List Lesson) (p : ℕ) (old new : Lesson) (o : Option ℕ) → StandsAt ls p old → new.structure ≡ old.structure →
    IfSome o (λ k. (l : Lesson) → StandsAt ls k l → l.structure.structure ≡ s) → IfSome o (λ k. (l : Lesson) → StandsAt (set ls p new) k l → l.structure.structure ≡ s)
alike_set s ls p old new None at same h = tt
alike_set s ls p old new (Some k) at same h = λ l t. elim (stands_set ls p new k l t) [
  | inl e ↦ (
      let P : Sourced → Type 0 = λ z. z.structure ≡ s in
      let Q : Lesson → Type 0 = λ z. z.structure.structure ≡ s in
      let R : ℕ → Type 0 = λ i. StandsAt ls i old in
      subst Q (sym e.1) (subst P (sym same) (h old (subst R (sym e.0) at))))
  | inr u ↦ h l u
]

-- where the lesson at one place has learned more of its own structure
pub learned_set : (s : Choices) (items : List Clause) (m : Lessons) (p : ℕ) (old new : Lesson) → StandsAt m.list.items p old → new.structure ≡ old.structure → (IsLesson items old → IsLesson items new) → AreLearned s items m →
    All (IsLesson items) (set m.list.items p new)
    × ((n : ℕ) (x : GraphValue) → m.alike.from ≤ n → n < m.alike.to → graph_at s n ≡ Some x → IfSome m.place (λ k. (l : Lesson) → StandsAt (set m.list.items p new) k l → l.structure.structure ≡ structure_of x))
learned_set s items m p old new at same more h = (
  All-set (IsLesson items) m.list.items p new (more (all_stands (IsLesson items) m.list.items p old h.0 at)) h.0,
  λ n x a b c. alike_set (structure_of x) m.list.items p old new m.place at same (h.1 n x a b c),
)
