-- Lists and their members.
use Rattle.std.proofs.Common.{◌≡◌, suc, ◌+◌, ◌≤◌, ◌⊎◌, List, [], ◌∷◌, ◌++◌, length, Bool, true, false, cond, count_by, refl, sym, ap, ◌∙◌, subst, inl, inr, arith}
use Rattle.std.proofs.lemmas.List.Sums.{sum_by-append, sum_by-cons}
use Rattle.listings.specs.Lists.{IsIn, NoRepeats, Lists}
use Rattle.listings.proofs.Listings.{in_append, in_left, in_right, once_append}

pub lists_same : {X : Type 0} {P Q : X → Type 0} {xs : List X} → ((x : X) → P x → Q x) → ((x : X) → Q x → P x) → Lists P xs → Lists Q xs
lists_same to from l = record { once = l.once; only = λ x p. to x (l.only x p); all = λ x q. l.all x (from x q) }

pub lists_append : {X : Type 0} {P Q : X → Type 0} {xs ys : List X} → ((x : X) → P x → ¬ Q x) → Lists P xs → Lists Q ys → Lists (λ x. P x ⊎ Q x) (xs ++ ys)
lists_append {xs = xs} {ys = ys} apart l m = record {
  once = once_append xs ys l.once m.once (λ x p q. apart x (l.only x p) (m.only x q));
  only = λ x p. elim (in_append xs ys x p) [ inl a ↦ inl (l.only x a) | inr b ↦ inr (m.only x b) ];
  all = λ x h. elim h [ inl a ↦ in_left xs ys x (l.all x a) | inr b ↦ in_right xs ys x (m.all x b) ];
}

-- counts

pub count-cons : {X : Type 0} (p : X → Bool) (x : X) (xs : List X) → count_by p (x ∷ xs) ≡ cond (p x) 1 0 + count_by p xs
count-cons p x xs = sum_by-cons (λ y. cond (p y) 1 0) x xs

pub count-append : {X : Type 0} (p : X → Bool) (xs ys : List X) → count_by p (xs ++ ys) ≡ count_by p xs + count_by p ys
count-append p xs ys = sum_by-append (λ y. cond (p y) 1 0) xs ys

one_most : (b : Bool) → cond b 1 0 ≤ 1
one_most true = omega arith
one_most false = omega arith

pub count_most : {X : Type 0} (p : X → Bool) (xs : List X) → count_by p xs ≤ length xs
count_most p [] = omega arith
count_most p (x ∷ xs) = omega (arith, count-cons p x xs, one_most (p x), count_most p xs)

-- a list without repeats is no longer than one that has its members

without : {X : Type 0} (x : X) (ys : List X) → IsIn x ys → (zs : List X) × (length ys ≡ suc (length zs)) × ((y : X) → IsIn y ys → (y ≡ x) ⊎ IsIn y zs)
without x [] p = absurd p
without x (y ∷ ys) (inl e) = (ys, refl, λ z q. elim q [ inl d ↦ inl (d ∙ sym e) | inr r ↦ inr r ])
without x (y ∷ ys) (inr p) =
    let r = without x ys p in (
      y ∷ r.0,
      ap suc r.1,
      λ z q. elim q [ inl d ↦ inr (inl d) | inr m ↦ elim (r.2 z m) [ inl d ↦ inl d | inr k ↦ inr (inr k) ] ],
    )

pub no_longer : {X : Type 0} (xs ys : List X) → NoRepeats xs → ((x : X) → IsIn x xs → IsIn x ys) → length xs ≤ length ys
no_longer [] ys once within = omega arith
no_longer {X} (x ∷ xs) ys once within =
    let r = without x ys (within x (inl refl)) in
    let rest = no_longer xs r.0 once.1 (λ z p. elim (r.2 z (within z (inr p))) [
      | inl e ↦ (let P : X → Type 0 = λ w. IsIn w xs in absurd (once.0 (subst P e p)))
      | inr q ↦ q
    ]) in
    omega (arith, r.1, rest)
