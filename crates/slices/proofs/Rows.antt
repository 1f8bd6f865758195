-- Rows in order, each once.
use Rattle.std.proofs.Common.{◌≡◌, ℕ, List, [], ◌∷◌, ◌⊎◌, inl, inr, refl, arith}
use Rattle.std.specs.BTreeSet.{insert_key}
use Rattle.std.specs.Cmp.{ranked}
use Rattle.std.specs.Cmp.Lexicographic.{slice_cmp}
use Rattle.std.specs.List.Sorted.{IsStrictlySortedBy}
use Rattle.std.specs.Ordering.{nat_cmp, match_ordering, ordering_then}
use Rattle.std.specs.declared.cmp.Ordering.{Ordering}
use Rattle.std.specs.declared.cmp.Ordering.TheVariants.{Less, Equal, Greater}
use Rattle.std.proofs.lemmas.Map.Lookups.{exact_bytes}
use Rattle.listings.specs.Lists.{IsIn}
use Rattle.slices.specs.Verdicts.{Precedes, AreSorted}

abbrev pub row_cmp : List ℕ → List ℕ → Ordering
row_cmp = slice_cmp nat_cmp

by_first : (o : Ordering) (u v : ℕ) (us vs : List ℕ) → o ≡ nat_cmp u v → (row_cmp us vs ≡ Less → Precedes us vs) → ordering_then o (row_cmp us vs) ≡ Less → Precedes (u ∷ us) (v ∷ vs)
by_first Less u v us vs e h p = inl (ranked u v Less e)
by_first Equal u v us vs e h p = inr (ranked u v Equal e, h p)
by_first Greater u v us vs e h p = cc

pub less_precedes : (u v : List ℕ) → row_cmp u v ≡ Less → Precedes u v
less_precedes [] [] e = cc
less_precedes [] (v ∷ vs) e = tt
less_precedes (u ∷ us) [] e = cc
less_precedes (u ∷ us) (v ∷ vs) e = by_first (nat_cmp u v) u v us vs refl (less_precedes us vs) e

pub precedes-irreflexive : (u : List ℕ) → Precedes u u → ⊥
precedes-irreflexive [] p = p
precedes-irreflexive (u ∷ us) (inl p) = omega arith
precedes-irreflexive (u ∷ us) (inr p) = precedes-irreflexive us p.1

-- what an insertion leaves

from_choice : (o : Ordering) (s k x : List ℕ) (xs ys : List (List ℕ)) → (IsIn s ys → (s ≡ k) ⊎ IsIn s xs) → IsIn s (match_ordering o (k ∷ x ∷ xs) (x ∷ xs) (x ∷ ys)) → (s ≡ k) ⊎ IsIn s (x ∷ xs)
from_choice Less s k x xs ys h p = p
from_choice Equal s k x xs ys h p = inr p
from_choice Greater s k x xs ys h (inl e) = inr (inl e)
from_choice Greater s k x xs ys h (inr p) = elim (h p) [ inl e ↦ inl e | inr q ↦ inr (inr q) ]

pub from_insert : (s k : List ℕ) (ks : List (List ℕ)) → IsIn s (insert_key row_cmp ks k) → (s ≡ k) ⊎ IsIn s ks
from_insert s k [] p = p
from_insert s k (x ∷ xs) p = from_choice (row_cmp k x) s k x xs (insert_key row_cmp xs k) (from_insert s k xs) p

old_choice : (o : Ordering) (s k x : List ℕ) (xs ys : List (List ℕ)) → (IsIn s xs → IsIn s ys) → IsIn s (x ∷ xs) → IsIn s (match_ordering o (k ∷ x ∷ xs) (x ∷ xs) (x ∷ ys))
old_choice Less s k x xs ys h p = inr p
old_choice Equal s k x xs ys h p = p
old_choice Greater s k x xs ys h (inl e) = inl e
old_choice Greater s k x xs ys h (inr p) = inr (h p)

pub in_insert_old : (s k : List ℕ) (ks : List (List ℕ)) → IsIn s ks → IsIn s (insert_key row_cmp ks k)
in_insert_old s k [] p = absurd p
in_insert_old s k (x ∷ xs) p = old_choice (row_cmp k x) s k x xs (insert_key row_cmp xs k) (in_insert_old s k xs) p

new_choice : (o : Ordering) (k x : List ℕ) (xs ys : List (List ℕ)) → row_cmp k x ≡ o → IsIn k ys → IsIn k (match_ordering o (k ∷ x ∷ xs) (x ∷ xs) (x ∷ ys))
new_choice Less k x xs ys e p = inl refl
new_choice Equal k x xs ys e p = inl (exact_bytes k x e)
new_choice Greater k x xs ys e p = inr p

pub in_insert_new : (k : List ℕ) (ks : List (List ℕ)) → IsIn k (insert_key row_cmp ks k)
in_insert_new k [] = inl refl
in_insert_new k (x ∷ xs) = new_choice (row_cmp k x) k x xs (insert_key row_cmp xs k) refl (in_insert_new k xs)

-- what being in order gives

pub are_sorted : (ks : List (List ℕ)) → IsStrictlySortedBy row_cmp ks → AreSorted ks
unfolding IsStrictlySortedBy
are_sorted [] h = tt
are_sorted (s ∷ []) h = tt
are_sorted (s ∷ r ∷ rest) h = (less_precedes s r h.0.0, are_sorted (r ∷ rest) h.1)
