-- What stands at a place of a list.
use Rattle.std.proofs.Common.{◌≡◌, ℕ, zero, suc, ◌<◌, ◌↔◌, List, [], ◌∷◌, length, get_or, refl, sym, ◌∙◌, subst, arith, IsTrue, Bool}
use Rattle.std.proofs.lemmas.Bool.{}
use Rattle.events.specs.declared.event.EventId.{EventId}
use Rattle.events.specs.declared.named.SetName.{SetName}
use Rattle.events.specs.declared.named.RelName.{RelName}
use Rattle.events.specs.Executions.{GraphValue}
use Rattle.listings.specs.Lists.{StandsAt}
use Rattle.events.specs.Rows.{ByNumber}
use Rattle.events.specs.Named.{event_names, InSet, InRel, NamedSet, NamedRel}

pub stands : {X : Type 0} (xs : List X) (i : ℕ) (x : X) → i < length xs → x ≡ get_or xs i x → StandsAt xs i x
stands [] i x l e = absurd (omega (arith, l))
stands (y ∷ xs) zero x l e = e
stands (y ∷ xs) (suc i) x l e = stands xs i x (omega (arith, l)) e

pub stands_or : {X : Type 0} (xs : List X) (i : ℕ) (d x : X) → i < length xs → get_or xs i d ≡ x → StandsAt xs i x
stands_or [] i d x l e = absurd (omega (arith, l))
stands_or (y ∷ xs) zero d x l e = sym e
stands_or (y ∷ xs) (suc i) d x l e = stands_or xs i d x (omega (arith, l)) e

-- what is read at a place stands there
pub stands_read : {X : Type 0} (xs ys : List X) (i : ℕ) (x : X) → xs ≡ ys → i < length xs → x ≡ get_or xs i x → StandsAt ys i x
stands_read {X} xs ys i x e l h = let P : List X → Type 0 = λ zs. StandsAt zs i x in subst P e (stands xs i x l h)

-- the same of an element that is read by its index
pub stands_index : {X : Type 0} (xs ys : List X) (i : ℕ) (d : X) → xs ≡ ys → i < length xs → StandsAt ys i (get_or xs i d)
stands_index {X} xs ys i d e l = let P : List X → Type 0 = λ zs. StandsAt zs i (get_or xs i d) in subst P e (stands_or xs i d (get_or xs i d) l refl)

-- what an iterator gives at a place, as another value of the same
pub stands_item : {X : Type 0} (xs ys : List X) (i : ℕ) (x y : X) → xs ≡ ys → i < length xs → x ≡ get_or xs i x → y ≡ x → StandsAt ys i y
stands_item {X} xs ys i x y e l h f = let P : X → Type 0 = λ z. StandsAt ys i z in subst P (sym f) (stands_read xs ys i x e l h)

pub stands_get : {X : Type 0} (xs : List X) (i : ℕ) (d x : X) → StandsAt xs i x → get_or xs i d ≡ x
stands_get [] i d x s = absurd s
stands_get (y ∷ xs) zero d x s = sym s
stands_get (y ∷ xs) (suc i) d x s = stands_get xs i d x s

pub stands_below : {X : Type 0} (xs : List X) (i : ℕ) (x : X) → StandsAt xs i x → i < length xs
stands_below [] i x s = absurd s
stands_below (y ∷ xs) zero x s = omega arith
stands_below (y ∷ xs) (suc i) x s = omega (arith, stands_below xs i x s)

pub one_stands : {X : Type 0} (xs : List X) (i : ℕ) (x y : X) → StandsAt xs i x → StandsAt xs i y → x ≡ y
one_stands xs i x y s t = sym (stands_get xs i x x s) ∙ stands_get xs i x y t

-- a test of an event is one of its number
pub tested_at : (g : GraphValue) (P : EventId → Type 0) (i : ℕ) (e : EventId) (b : Bool) → StandsAt (event_names g) i e → (IsTrue b ↔ P e) → IsTrue b ↔ ByNumber g P i
tested_at g P i e b s h = (
  λ t. (e, s, h.0 t),
  λ n. h.1 (subst P (one_stands (event_names g) i n.0 e n.1 s) n.2),
)

-- the same of a named set
pub by_number : (g : GraphValue) (name : SetName) (i : ℕ) (e : EventId) (b : Bool) → StandsAt (event_names g) i e → (IsTrue b ↔ InSet g name e) → IsTrue b ↔ NamedSet g name i
unfolding NamedSet
by_number g name i e b s h = tested_at g (InSet g name) i e b s h

-- a test of a pair of events is one of their numbers
pub by_numbers : (g : GraphValue) (name : RelName) (i j : ℕ) (d e : EventId) (b : Bool) → StandsAt (event_names g) i d → StandsAt (event_names g) j e → (IsTrue b ↔ InRel g name d e) → IsTrue b ↔ NamedRel g name i j
unfolding NamedRel
by_numbers g name i j d e b s t h = (
  λ u. (d, e, s, t, h.0 u),
  λ n. (let P : EventId → Type 0 = λ x. InRel g name x n.1 in
      let Q : EventId → Type 0 = λ y. InRel g name d y in
      h.1 (subst Q (one_stands (event_names g) j n.1 e n.3 t) (subst P (one_stands (event_names g) i n.0 d n.2 s) n.4))),
)
