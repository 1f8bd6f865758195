-- Executions that are counted one after another.
use Rattle.std.proofs.Common.{◌≡◌, ℕ, ◌+◌, ◌-◌, ◌≤◌, ◌^◌, List, [], ◌∷◌, ◌++◌, length, Bool, true, false, cond, not, count_by, map, Option, unwrap_or, refl, sym, ap, ◌∙◌, subst, inl, inr, arith}
use Rattle.std.specs.Prelude.{slice_get, ◌⊎◌}
use Rattle.std.proofs.lemmas.List.Sums.{sum_by-append}
use Rattle.events.specs.declared.event.EventId.{EventId}
use Rattle.events.specs.Executions.{GraphValue}
use Rattle.cat_eval.specs.Judging.{Allowed}
use Rattle.cat_tree.specs.Tree.{Clause}
use Rattle.listings.specs.Lists.{IsIn, NoRepeats, Lists}
use Rattle.conditions.specs.declared.place.Place.{Place}
use Rattle.conditions.specs.declared.place.Place.TheVariants.{Reg, Loc}
use Rattle.litmus_tree.specs.Tree.{Litmus}
use Rattle.candidates.specs.Candidates.{At, Choices, choices_of, found, size_of}
use Rattle.candidates.specs.Walks.{Walking, IsMiss}
use Rattle.candidates.proofs.Walked.{found_from, found_at}
use Rattle.candidates.specs.Executions.{IsSize}
use Rattle.candidates.specs.Faults.{HaveFewRuns}
use Rattle.slices.specs.Finals.{final, obs, last_or}
use Rattle.slices.specs.Findings.{FindingValue}
use Rattle.slices.specs.Parts.{AreThose, at_end, taken, passed, IsAdmitted, IsPart, test_size}
use Rattle.slices.specs.Slots.{slot_of, slot_value}
use Rattle.slices.specs.Verdicts.{Tells}

-- the slots of the places have their final values
pub row_is : (t : Litmus) (x : GraphValue) (places : List Place) → map (slot_value x) (map (slot_of t) places) ≡ obs t places x
row_is t x [] = refl
row_is t x (Reg k r ∷ places) = ap (λ l. final t x (Reg k r) ∷ l) (row_is t x places)
row_is t x (Loc y ∷ places) = ap (λ l. final t x (Loc y) ∷ l) (row_is t x places)

-- one execution more

pub count_by-push : {X : Type 0} (p : X → Bool) (xs : List X) (x : X) → count_by p (xs ++ x ∷ []) ≡ count_by p xs + cond (p x) 1 0
count_by-push p xs x = omega (arith, sum_by-append (λ y. cond (p y) 1 0) xs (x ∷ []))

pub turned : (b : Bool) (m n : ℕ) → cond (not b) m n ≡ cond b n m
turned true m n = refl
turned false m n = refl

-- those of a list and one more

pub those-push : {X : Type 0} {P : X → Type 0} {xs ys : List X} (x : X) → P x → AreThose P xs ys → AreThose P (xs ++ x ∷ []) (ys ++ x ∷ [])
those-push x p at_end = taken p at_end
those-push x p (taken q h) = taken q (those-push x p h)
those-push x p (passed q h) = passed q (those-push x p h)

pub those-pass : {X : Type 0} {P : X → Type 0} {xs ys : List X} (x : X) → ¬ P x → AreThose P xs ys → AreThose P (xs ++ x ∷ []) ys
those-pass x p at_end = passed p at_end
those-pass x p (taken q h) = taken q (those-pass x p h)
those-pass x p (passed q h) = passed q (those-pass x p h)

pub in_front : {X : Type 0} (y : X) (xs : List X) (x : X) → IsIn y xs → IsIn y (xs ++ x ∷ [])
in_front y [] x p = absurd p
in_front y (z ∷ zs) x (inl e) = inl e
in_front y (z ∷ zs) x (inr p) = inr (in_front y zs x p)

pub at_last : {X : Type 0} (xs : List X) (x : X) → IsIn x (xs ++ x ∷ [])
at_last [] x = inl refl
at_last (z ∷ zs) x = inr (at_last zs x)

pub of_push : {X : Type 0} (y : X) (xs : List X) (x : X) → IsIn y (xs ++ x ∷ []) → IsIn y xs ⊎ (y ≡ x)
of_push y [] x (inl e) = inr e
of_push y [] x (inr p) = absurd p
of_push y (z ∷ zs) x (inl e) = inl (inl e)
of_push y (z ∷ zs) x (inr p) = elim (of_push y zs x p) [ inl q ↦ inl (inr q) | inr e ↦ inr e ]

-- the last of a list

pub last_is : (w v : EventId) (vs : List EventId) → unwrap_or (slice_get (v ∷ vs) (length vs)) w ≡ last_or w (v ∷ vs)
last_is w v [] = refl
last_is w v (u ∷ us) = last_is w u us

pub last_of : (w : EventId) (vs : List EventId) → unwrap_or (slice_get vs (length vs - 1)) w ≡ last_or w vs
last_of w [] = refl
last_of w (v ∷ vs) =
    let less : length (v ∷ vs) - 1 ≡ length vs = omega arith in
    ap (λ n. unwrap_or (slice_get (v ∷ vs) n) w) less ∙ last_is w v vs

-- a walk over the numbers of a range

-- v is right for those of the executions that a model of these items allows.
abbrev pub IsCountOf : Litmus → List Clause → List GraphValue → FindingValue → Type 0
IsCountOf t items all v = (xs : List GraphValue) × AreThose (Allowed items) all xs × Tells t items xs v

-- The walk w has begun at `from`, and what it has found is counted.
pub record IsUnderWay (t : Litmus) (items : List Clause) (from to : ℕ) (w : Walking) (v : FindingValue) : Type 0 where
  pub counted : IsCountOf t items (found_from w.space from w.next) v
  pub few : v.positive + v.negative ≤ w.next
  pub order : from ≤ w.next
  pub space : w.space ≡ choices_of t
  pub to_is : w.to ≡ to

pub walked_none : (t : Litmus) (items : List Clause) (from to : ℕ) (u w : Walking) (v : FindingValue) → IsUnderWay t items from to u v → IsMiss u w → IsPart t items from to v
walked_none t items from to u w v h miss =
    let P : Choices → Type 0 = λ s. IsCountOf t items (found_from s from to) v in
    let Q : List GraphValue → Type 0 = λ xs. IsCountOf t items xs v in
    let R : ℕ → Type 0 = λ k. IsCountOf t items (found_from u.space from k) v in
    subst P h.space (subst R h.to_is (subst Q (sym (found_at from u w h.order miss)) h.counted))

none_yet : (at : ℕ → Option GraphValue) (from : ℕ) → found at (from - from) ≡ []
none_yet at from =
    let none : from - from ≡ 0 = omega arith in
    ap (found at) none

-- a walk that has found nothing yet
pub walked_none_yet : (t : Litmus) (items : List Clause) (from to : ℕ) (w : Walking) (v : FindingValue) → w.space ≡ choices_of t → w.next ≡ from → w.to ≡ to → Tells t items [] v → IsUnderWay t items from to w v
walked_none_yet t items from to w v space next end told =
    let P : Choices → Type 0 = λ c. IsCountOf t items (found_from c from from) v in
    let Q : List GraphValue → Type 0 = λ xs. IsCountOf t items xs v in
    let R : ℕ → Type 0 = λ k. IsCountOf t items (found_from w.space from k) v in
    record {
      counted = subst R (sym next) (subst P (sym space) (subst Q (sym (none_yet (λ i. At t (from + i)) from)) ([], at_end, told)));
      few = (let p : v.positive ≡ 0 = told.positive in let n : v.negative ≡ 0 = told.negative in omega (arith, p, n));
      order = omega (arith, next);
      space = space;
      to_is = end;
    }

-- those of a list without repeats

only_those : {X : Type 0} {P : X → Type 0} {xs ys : List X} (x : X) → AreThose P xs ys → IsIn x ys → IsIn x xs × P x
only_those x at_end p = absurd p
only_those {X} {P} x (taken q h) (inl e) = (inl e, subst P (sym e) q)
only_those x (taken q h) (inr p) = let r = only_those x h p in (inr r.0, r.1)
only_those x (passed q h) p = let r = only_those x h p in (inr r.0, r.1)

all_those : {X : Type 0} {P : X → Type 0} {xs ys : List X} (x : X) → AreThose P xs ys → IsIn x xs → P x → IsIn x ys
all_those x at_end p is = absurd p
all_those x (taken q h) (inl e) is = inl e
all_those x (taken q h) (inr p) is = inr (all_those x h p is)
all_those {X} {P} x (passed q h) (inl e) is = absurd (q (subst P e is))
all_those x (passed q h) (inr p) is = all_those x h p is

once_those : {X : Type 0} {P : X → Type 0} {xs ys : List X} → AreThose P xs ys → NoRepeats xs → NoRepeats ys
once_those at_end n = tt
once_those (taken {x} q h) n = ((λ p. n.0 (only_those x h p).0), once_those h n.1)
once_those (passed q h) n = once_those h n.1

pub lists_those : {X : Type 0} {P Q : X → Type 0} {xs ys : List X} → Lists P xs → AreThose Q xs ys → Lists (λ x. P x × Q x) ys
lists_those l h = record {
  once = once_those h l.once;
  only = λ x p. let r = only_those x h p in (l.only x r.0, r.1);
  all = λ x r. all_those x h (l.all x r.0) r.1;
}

-- what a test's space says of the test
pub admitted : (t u : Litmus) (s : Choices) (n : ℕ) → u ≡ t → s ≡ choices_of u → n ≡ size_of s → IsSize u (size_of s) × (size_of s ≤ 2 ^ 32) → HaveFewRuns u → (n ≡ test_size t) × IsAdmitted t
admitted t u s n e is many size runs =
    let P : Litmus → Type 0 = λ v. (n ≡ test_size v) × IsAdmitted v in
    let S : Choices → Type 0 = λ c. IsSize u (size_of c) × (size_of c ≤ 2 ^ 32) in
    let sized = subst S is size in
    subst P e (many ∙ ap size_of is, record { runs = runs; size = sized.0; few = sized.1 })
