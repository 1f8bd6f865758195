-- Lists and their members.
use Rattle.std.proofs.Common.{◌≡◌, ◌+◌, List, [], ◌∷◌, ◌++◌, Bool, cond, count_by, refl, sym, ap, ◌∙◌, subst, inl, inr}
use Rattle.listings.specs.Lists.{IsIn, Lists, ForEach, sum_of}
use Rattle.listings.proofs.Listings.{in_append, in_left, in_right}
use Rattle.listings.proofs.Sums.{same_sums}
use Rattle.slices.proofs.Members.{count-cons}

-- lists, one behind the other
abbrev pub joined : {X : Type 0} → List (List X) → List X
joined [] = []
joined (xs ∷ xss) = xs ++ joined xss

pub for_each_in : {A X : Type 0} (R : A → X → Type 0) (as' : List A) (xs : List X) → ForEach R as' xs → (a : A) → IsIn a as' → (x : X) × IsIn x xs × R a x
for_each_in R [] [] h a p = absurd p
for_each_in R [] (x ∷ xs) h a p = absurd p
for_each_in R (b ∷ bs) [] h a p = absurd h
for_each_in {A} R (b ∷ bs) (x ∷ xs) h a (inl e) = (x, inl refl, let P : A → Type 0 = λ c. R c x in subst P (sym e) h.0)
for_each_in R (b ∷ bs) (x ∷ xs) h a (inr p) = let r = for_each_in R bs xs h.1 a p in (r.0, inr r.1, r.2)

pub for_each_of : {A X : Type 0} (R : A → X → Type 0) (as' : List A) (xs : List X) → ForEach R as' xs → (x : X) → IsIn x xs → (a : A) × IsIn a as' × R a x
for_each_of R [] [] h x p = absurd p
for_each_of R [] (y ∷ ys) h x p = absurd h
for_each_of R (b ∷ bs) [] h x p = absurd p
for_each_of {A} {X} R (b ∷ bs) (y ∷ ys) h x (inl e) = (b, inl refl, let P : X → Type 0 = λ c. R b c in subst P (sym e) h.0)
for_each_of R (b ∷ bs) (y ∷ ys) h x (inr p) = let r = for_each_of R bs ys h.1 x p in (r.0, inr r.1, r.2)

pub in_joined : {X : Type 0} (xss : List (List X)) (x : X) → IsIn x (joined xss) → (xs : List X) × IsIn xs xss × IsIn x xs
in_joined [] x p = absurd p
in_joined (xs ∷ xss) x p = elim (in_append xs (joined xss) x p) [ inl a ↦ (xs, inl refl, a) | inr b ↦ let r = in_joined xss x b in (r.0, inr r.1, r.2) ]

pub joined_in : {X : Type 0} (xss : List (List X)) (xs : List X) (x : X) → IsIn xs xss → IsIn x xs → IsIn x (joined xss)
joined_in [] xs x p q = absurd p
joined_in {X} (ys ∷ xss) xs x (inl e) q = in_left ys (joined xss) x (let P : List X → Type 0 = λ zs. IsIn x zs in subst P e q)
joined_in (ys ∷ xss) xs x (inr p) q = in_right ys (joined xss) x (joined_in xss xs x p q)

count_sum : {X : Type 0} (p : X → Bool) (xs : List X) → count_by p xs ≡ sum_of (λ x. cond (p x) 1 0) xs
count_sum p [] = refl
count_sum p (x ∷ xs) = count-cons p x xs ∙ ap (λ n. cond (p x) 1 0 + n) (count_sum p xs)

pub same_count : {X : Type 0} {P : X → Type 0} (p : X → Bool) (xs ys : List X) → Lists P xs → Lists P ys → count_by p xs ≡ count_by p ys
same_count p xs ys l m = count_sum p xs ∙ same_sums (λ x. cond (p x) 1 0) xs ys l m ∙ sym (count_sum p ys)
