-- Rows in order, to which others are added or from which some are taken away.
use Rattle.std.proofs.Common.{◌≡◌, ◌⊎◌, ℕ, ◌+◌, ◌<◌, List, [], ◌∷◌, ◌++◌, length, take, get_or, refl, sym, ◌∙◌, ap, subst, inl, inr}
use Rattle.std.specs.BTreeSet.{insert_key}
use Rattle.std.specs.Cmp.{ranked}
use Rattle.std.specs.Ordering.{nat_cmp, match_ordering, ordering_then}
use Rattle.std.specs.declared.cmp.Ordering.{Ordering}
use Rattle.std.specs.declared.cmp.Ordering.TheVariants.{Less, Equal, Greater}
use Rattle.std.proofs.lemmas.List.{take_more}
use Rattle.listings.specs.Lists.{IsIn}
use Rattle.listings.proofs.Listings.{in_append, in_left, in_right}
use Rattle.slices.specs.Sums.{IsUnion}
use Rattle.slices.specs.Verdicts.{Precedes, AreSorted}
use Rattle.slices.proofs.Rows.{row_cmp, less_precedes, from_insert, in_insert_old, in_insert_new}
use Rattle.slices.proofs.Sorted.{below, sorted_tail}

-- a row more

by_first : (o : Ordering) (u v : ℕ) (us vs : List ℕ) → o ≡ nat_cmp u v → (row_cmp us vs ≡ Greater → Precedes vs us) → ordering_then o (row_cmp us vs) ≡ Greater → Precedes (v ∷ vs) (u ∷ us)
by_first Less u v us vs e h p = cc
by_first Equal u v us vs e h p = inr (sym (ranked u v Equal e), h p)
by_first Greater u v us vs e h p = inl (ranked u v Greater e)

greater_precedes : (u v : List ℕ) → row_cmp u v ≡ Greater → Precedes v u
greater_precedes [] [] e = cc
greater_precedes [] (v ∷ vs) e = cc
greater_precedes (u ∷ us) [] e = tt
greater_precedes (u ∷ us) (v ∷ vs) e = by_first (nat_cmp u v) u v us vs refl (greater_precedes us vs) e

joined : (x : List ℕ) (ys : List (List ℕ)) → ((y : List ℕ) → IsIn y ys → Precedes x y) → AreSorted ys → AreSorted (x ∷ ys)
joined x [] h s = tt
joined x (y ∷ ys) h s = (h y (inl refl), s)

sorted_choice : (o : Ordering) (k x : List ℕ) (xs ys : List (List ℕ)) → row_cmp k x ≡ o → AreSorted (x ∷ xs) → AreSorted ys → ((y : List ℕ) → IsIn y ys → (y ≡ k) ⊎ IsIn y xs) → AreSorted (match_ordering o (k ∷ x ∷ xs) (x ∷ xs) (x ∷ ys))
sorted_choice Less k x xs ys e s t h = (less_precedes k x e, s)
sorted_choice Equal k x xs ys e s t h = s
sorted_choice Greater k x xs ys e s t h = joined x ys (λ y p. elim (h y p) [
  | inl is ↦ (let P : List ℕ → Type 0 = λ z. Precedes x z in subst P (sym is) (greater_precedes k x e))
  | inr q ↦ below x xs s y q
]) t

sorted_insert : (k : List ℕ) (ks : List (List ℕ)) → AreSorted ks → AreSorted (insert_key row_cmp ks k)
sorted_insert k [] s = tt
sorted_insert k (x ∷ xs) s = sorted_choice (row_cmp k x) k x xs (insert_key row_cmp xs k) refl s (sorted_insert k xs (sorted_tail x xs s)) (λ y p. from_insert y k xs p)

-- unions

pub union_none : (xs : List (List ℕ)) → IsUnion xs [] xs
union_none xs = record { members = λ s. ((λ p. inl p), (λ h. elim h [ inl p ↦ p | inr q ↦ absurd q ])); sorted = λ h. h }

pub union_one : (xs zs : List (List ℕ)) (k : List ℕ) → zs ≡ insert_key row_cmp xs k → IsUnion xs (k ∷ []) zs
union_one xs zs k e =
    let U : List (List ℕ) → Type 0 = λ l. IsUnion xs (k ∷ []) l in
    subst U (sym e) (record {
      members = λ s. (
        (λ p. elim (from_insert s k xs p) [ inl is ↦ inr (inl is) | inr q ↦ inl q ]),
        (λ h. elim h [
          | inl q ↦ in_insert_old s k xs q
          | inr q ↦ elim q [ inl is ↦ (let P : List ℕ → Type 0 = λ y. IsIn y (insert_key row_cmp xs k) in subst P (sym is) (in_insert_new k xs)) | inr n ↦ absurd n ]
        ]),
      );
      sorted = sorted_insert k xs;
    })

pub union_union : {xs ys zs us vs : List (List ℕ)} → IsUnion xs ys zs → IsUnion zs us vs → IsUnion xs (ys ++ us) vs
union_union {ys = ys} {us = us} g h = record {
  members = λ s. (
    (λ p. elim ((h.members s).0 p) [
      | inl q ↦ elim ((g.members s).0 q) [ inl r ↦ inl r | inr r ↦ inr (in_left ys us s r) ]
      | inr q ↦ inr (in_right ys us s q)
    ]),
    (λ m. elim m [
      | inl r ↦ (h.members s).1 (inl ((g.members s).1 (inl r)))
      | inr r ↦ elim (in_append ys us s r) [ inl q ↦ (h.members s).1 (inl ((g.members s).1 (inr q))) | inr q ↦ (h.members s).1 (inr q) ]
    ]),
  );
  sorted = λ s. h.sorted (g.sorted s);
}

-- one of the rows after another
pub union_more : (xs ys old new : List (List ℕ)) (i : ℕ) (k : List ℕ) → i < length ys → k ≡ get_or ys i k → IsUnion xs (take i ys) old → new ≡ insert_key row_cmp old k → IsUnion xs (take (i + 1) ys) new
union_more xs ys old new i k l e h is =
    let U : List (List ℕ) → Type 0 = λ us. IsUnion xs us new in
    subst U (ap (λ x. take i ys ++ x ∷ []) e ∙ sym (take_more ys i k l)) (union_union h (union_one old new k is))
