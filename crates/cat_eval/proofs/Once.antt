-- Lists of names without repeats.
use Rattle.std.proofs.Common.{◌≡◌, ◌⊎◌, ◌↔◌, List, [], ◌∷◌, ◌++◌, Bool, true, false, ◌||◌, refl, sym, ◌∙◌, subst, inl, inr}
use Rattle.std.specs.Str.{bytes_eq}
use Rattle.std.specs.List.{list_any}
use Rattle.std.proofs.lemmas.Bool.{or_cases, false≢true}
use Rattle.std.proofs.lemmas.Slice.Eq.{bytes_eq-Decides}
use Rattle.listings.specs.Lists.{IsIn, NoRepeats}
use Rattle.listings.proofs.Listings.{in_append, in_left, in_right, once_append}
use Rattle.cat_tree.specs.Tree.{Word}

or_right : (a b : Bool) → b ≡ true → (a || b) ≡ true
or_right true b e = refl
or_right false b e = e

or_left : (a b : Bool) → a ≡ true → (a || b) ≡ true
or_left true b e = refl
or_left false b e = absurd (false≢true e)

is_in : (xs : List Word) (x : Word) → list_any (λ y. bytes_eq y x) xs ≡ true → IsIn x xs
is_in [] x e = absurd (false≢true e)
is_in (y ∷ xs) x e = elim (or_cases (bytes_eq y x) (list_any (λ y. bytes_eq y x) xs) e) [
  | inl t ↦ inl (sym ((bytes_eq-Decides y x).0 t))
  | inr t ↦ inr (is_in xs x t)
]

has_it : (xs : List Word) (x : Word) → IsIn x xs → list_any (λ y. bytes_eq y x) xs ≡ true
has_it [] x m = absurd m
has_it (y ∷ xs) x m = elim m [
  | inl e ↦ or_left (bytes_eq y x) (list_any (λ y. bytes_eq y x) xs) ((bytes_eq-Decides y x).1 (sym e))
  | inr k ↦ or_right (bytes_eq y x) (list_any (λ y. bytes_eq y x) xs) (has_it xs x k)
]

-- A name that is in already.
pub kept : (ys xs : List Word) (f : Word) (b : Bool) → ys ≡ xs → b ≡ list_any (λ y. bytes_eq y f) ys → b ≡ true → (x : Word) → IsIn x xs ↔ (IsIn x xs ⊎ (x ≡ f))
kept ys xs f b s e t x =
    let m : IsIn f xs = (let P : List Word → Type 0 = λ zs. IsIn f zs in subst P s (is_in ys f (sym e ∙ t))) in
    (inl, λ h. elim h [ inl k ↦ k | inr k ↦ (let P : Word → Type 0 = λ y. IsIn y xs in subst P (sym k) m) ])

-- A name more.
pub more : (xs zs : List Word) (f g : Word) → zs ≡ xs ++ g ∷ [] → g ≡ f → (x : Word) → IsIn x zs ↔ (IsIn x xs ⊎ (x ≡ f))
more xs zs f g e d x =
    let P : List Word → Type 0 = λ ys. IsIn x ys ↔ (IsIn x xs ⊎ (x ≡ f)) in
    subst P (sym e) (
      λ m. elim (in_append xs (g ∷ []) x m) [ inl k ↦ inl k | inr k ↦ elim k [ inl l ↦ inr (l ∙ d) | inr l ↦ absurd l ] ],
      λ m. elim m [ inl k ↦ in_left xs (g ∷ []) x k | inr k ↦ in_right xs (g ∷ []) x (inl (k ∙ sym d)) ],
    )

pub once_more : (ys xs zs : List Word) (f g : Word) (b : Bool) → ys ≡ xs → b ≡ list_any (λ y. bytes_eq y f) ys → b ≡ false → NoRepeats xs → zs ≡ xs ++ g ∷ [] → g ≡ f → NoRepeats zs
once_more ys xs zs f g b s e t o d h =
    let P : List Word → Type 0 = λ ys. NoRepeats ys in
    let Q : List Word → Type 0 = λ zs. IsIn f zs in
    subst P (sym d) (once_append xs (g ∷ []) o ((λ k. k), tt)
    (λ x m k. elim k [
      | inl l ↦ false≢true (sym t ∙ e ∙ has_it ys f (let R : Word → Type 0 = λ y. IsIn y ys in let m2 : IsIn x ys = (let S : List Word → Type 0 = λ zs. IsIn x zs in subst S (sym s) m) in subst R (l ∙ h) m2))
      | inr l ↦ l
    ]))
