-- The search for a free slice.
use Rattle.std.proofs.Common.{◌≡◌, ◌≢◌, ℕ, zero, suc, ◌+◌, ◌<◌, ◌≤◌, ◌||◌, ◌&&◌, not, ◌∷◌, ◌++◌, length, get_or, Bool, true, false, List, [], Option, None, Some, cond, refl, sym, ap, ◌∙◌, subst, inl, inr, arith}
use Rattle.std.specs.Prelude.{slice_get, ◌==◌, ◌⊎◌, IfSome, nat_lt}
use Rattle.std.specs.List.{list_any}
use Rattle.std.proofs.lemmas.Bool.{eq-eqb, ne_eqb, ltb-true}
use Rattle.std.proofs.lemmas.List.Folds.{list_any-append}
use Rattle.listings.specs.Lists.{IsIn}
use Rattle.book.specs.Frees.{IsFreeAt, IsNoneBefore, IsPassed, IsFirstFree}
use Rattle.book.specs.Changes.{HoldsSlice}
use Rattle.book.specs.Held.{AreClaimedBut}
use Rattle.book.specs.Jobs as jobs
use Rattle.book.specs.Numbers.{AreRising}
use Rattle.book.specs.Step.{others, taken}
use Rattle.book.specs.Workbench.{Workbench, is_claimed, is_replaced, is_free, free_among, has_free, any_free, job_of}
use Rattle.book.specs.declared.live.Live.{Live}
use Rattle.book.specs.declared.slice.Slice.{Slice}
use Rattle.book.proofs.Claims.{free_has}
use Rattle.book.proofs.Counts.{all_get}
use Rattle.book.proofs.Numbers.{marked_at}

-- one slice

pub closed_taken : (s : Workbench) (job : jobs.Job) (i : ℕ) (x : Slice) → (not x.returned && not (is_claimed s.live job.number i)) ≡ false → is_free s job i x ≡ false
closed_taken s job i x e = ap (λ b. b && not (is_replaced s job)) e

pub open_free : (s : Workbench) (job : jobs.Job) (i : ℕ) (x : Slice) → (not x.returned && not (is_claimed s.live job.number i)) ≡ true → is_replaced s job ≡ false → is_free s job i x ≡ true
open_free s job i x e r = ap (λ b. b && not (is_replaced s job)) e ∙ ap not r

and_not : (a b : Bool) → b ≡ true → (a && not b) ≡ false
and_not true b e = ap not e
and_not false b e = refl

-- slices of a job

among_none : (s : Workbench) (job : jobs.Job) (k : ℕ) (xs : List Slice) → ((n : ℕ) (x : Slice) → slice_get xs n ≡ Some x → is_free s job (k + n) x ≡ false) → free_among s job k xs ≡ false
among_none s job k [] h = refl
among_none s job k (x ∷ xs) h =
    let place : k ≡ k + 0 = omega arith in
    let first : is_free s job k x ≡ false = ap (λ n. is_free s job n x) place ∙ h 0 x refl in
    ap (λ b. b || free_among s job (k + 1) xs) first
    ∙ among_none s job (k + 1) xs (λ n y e. let at : k + 1 + n ≡ k + suc n = omega arith in ap (λ m. is_free s job m y) at ∙ h (suc n) y e)

pub replaced_taken : (s : Workbench) (job : jobs.Job) → is_replaced s job ≡ true → has_free s job ≡ false
replaced_taken s job e = among_none s job 0 job.slices (λ n x at. and_not (not x.returned && not (is_claimed s.live job.number (0 + n))) (is_replaced s job) e)

inside : {X : Type 0} (xs : List X) (n : ℕ) (x : X) → slice_get xs n ≡ Some x → n < length xs
inside [] n x e = cc
inside (y ∷ ys) zero x e = omega arith
inside (y ∷ ys) (suc n) x e = omega (arith, inside ys n x e)

pub at_place : {X : Type 0} (xs : List X) (n : ℕ) (x : X) → n < length xs → x ≡ get_or xs n x → slice_get xs n ≡ Some x
at_place [] n x h e = absurd (omega (arith, h))
at_place (y ∷ ys) zero x h e = ap Some (sym e)
at_place (y ∷ ys) (suc n) x h e = at_place ys n x (omega (arith, h)) e

pub none_here : (s : Workbench) (job : jobs.Job) (i : ℕ) → IsNoneBefore s job i → length job.slices ≤ i → has_free s job ≡ false
none_here s job i h end =
    among_none s job 0 job.slices (λ n x e.
    let place : 0 + n ≡ n = omega arith in
    ap (λ m. is_free s job m x) place ∙ h.none n x (omega (arith, inside job.slices n x e, end)) e)

before_next : (n i : ℕ) → n < i + 1 → (n < i) ⊎ (n ≡ i)
before_next zero zero h = inr refl
before_next zero (suc i) h = inl (omega arith)
before_next (suc n) zero h = absurd (omega (arith, h))
before_next (suc n) (suc i) h = up (before_next n i (omega (arith, h)))
  where
    up : (n < i) ⊎ (n ≡ i) → (suc n < suc i) ⊎ (suc n ≡ suc i)
    up (inl lt) = inl (omega (arith, lt))
    up (inr is) = inr (ap suc is)

pub slice_passed : (s : Workbench) (job : jobs.Job) (i : ℕ) (x : Slice) → i < length job.slices → x ≡ get_or job.slices i x → IsNoneBefore s job i → is_free s job i x ≡ false → IsNoneBefore s job (i + 1)
slice_passed s job i x h e none taken = record { none = λ n y lt at. by n y at (before_next n i lt) }
  where
    by : (n : ℕ) (y : Slice) → slice_get job.slices n ≡ Some y → (n < i) ⊎ (n ≡ i) → is_free s job n y ≡ false
    by n y at (inl lt) = none.none n y lt at
    by n y at (inr is) =
        let there : slice_get job.slices i ≡ Some y = ap (slice_get job.slices) (sym is) ∙ at in
        let held : slice_get job.slices i ≡ Some x = at_place job.slices i x h e in
        let same : y ≡ x = cc in
        ap (λ m. is_free s job m y) is ∙ ap (is_free s job i) same ∙ taken

-- jobs

pub passed_start : (s : Workbench) → IsPassed s 0 0
passed_start s = record {
  jobs = λ n job lt at. absurd (omega (arith, lt));
  slices = λ job at. record { none = λ n x lt e. absurd (omega (arith, lt)) };
  current = λ job at lt. absurd (omega (arith, lt));
}

pub slices_passed : (s : Workbench) (job : jobs.Job) (k i : ℕ) → IsPassed s k i → k < length s.jobs → job ≡ get_or s.jobs k job → IsNoneBefore s job i
slices_passed s job k i h lt e = h.slices job (at_place s.jobs k job lt e)

pub current_passed : (s : Workbench) (job : jobs.Job) (k i : ℕ) → IsPassed s k i → k < length s.jobs → job ≡ get_or s.jobs k job → 0 < i → is_replaced s job ≡ false
current_passed s job k i h lt e more = h.current job (at_place s.jobs k job lt e) more

pub job_passed : (s : Workbench) (job : jobs.Job) (k i : ℕ) → IsPassed s k i → k < length s.jobs → job ≡ get_or s.jobs k job → has_free s job ≡ false → IsPassed s (k + 1) 0
job_passed s job k i h lt e none = record {
  jobs = λ n j below at. by n j at (before_next n k below);
  slices = λ j at. record { none = λ n x below here. absurd (omega (arith, below)) };
  current = λ j at below. absurd (omega (arith, below));
}
  where
    by : (n : ℕ) (j : jobs.Job) → slice_get s.jobs n ≡ Some j → (n < k) ⊎ (n ≡ k) → has_free s j ≡ false
    by n j at (inl below) = h.jobs n j below at
    by n j at (inr is) =
        let there : slice_get s.jobs k ≡ Some j = ap (slice_get s.jobs) (sym is) ∙ at in
        let held : slice_get s.jobs k ≡ Some job = at_place s.jobs k job lt e in
        let same : j ≡ job = cc in
        ap (has_free s) same ∙ none

none_of : {X : Type 0} (p : X → Bool) (xs : List X) → ((n : ℕ) (x : X) → slice_get xs n ≡ Some x → p x ≡ false) → list_any p xs ≡ false
none_of p [] h = refl
none_of p (x ∷ xs) h = ap (λ b. b || list_any p xs) (h 0 x refl) ∙ none_of p xs (λ n y e. h (suc n) y e)

pub all_passed : (s : Workbench) (k i : ℕ) → IsPassed s k i → length s.jobs ≤ k → any_free s ≡ false
all_passed s k i h end = none_of (has_free s) s.jobs (λ n job e. h.jobs n job (omega (arith, inside s.jobs n job e, end)) e)

in_list : {X : Type 0} (xs : List X) (n : ℕ) (x : X) → slice_get xs n ≡ Some x → IsIn x xs
in_list [] n x e = cc
in_list (y ∷ ys) zero x e = let same : x ≡ y = cc in inl same
in_list (y ∷ ys) (suc n) x e = inr (in_list ys n x e)

unreplaced : (a b : Bool) → (a && not b) ≡ true → b ≡ false
unreplaced true true h = cc
unreplaced true false h = refl
unreplaced false b h = cc

pub first_free : (s : Workbench) (job : jobs.Job) (k from i : ℕ) → IsPassed s k from → k < length s.jobs → job ≡ get_or s.jobs k job → IsFreeAt s job i × IsNoneBefore s job i → IsFirstFree s job k i
first_free s job k from i h lt e found =
    let held : slice_get s.jobs k ≡ Some job = at_place s.jobs k job lt e in
    record {
      free = (in_list s.jobs k job held, found.0);
      passed = record {
        jobs = h.jobs;
        slices = λ j at.
            let same : job ≡ j = cc in
            subst (λ y. IsNoneBefore s y i) same found.1;
        current = λ j at more.
            let same : job ≡ j = cc in
            subst (λ y. is_replaced s y ≡ false) same (unreplaced (not found.0.0.returned && not (is_claimed s.live job.number i)) (is_replaced s job) found.0.2);
      };
    }

-- a claim more leaves what is not free as it is

or_false : (a b : Bool) → (a || b) ≡ false → (a ≡ false) × (b ≡ false)
or_false true b h = cc
or_false false b h = (refl, h)

still_closed : (a b c d : Bool) → ((a && not b) && not c) ≡ false → ((a && not (b || d)) && not c) ≡ false
still_closed false b c d h = refl
still_closed true true c d h = refl
still_closed true false c true h = refl
still_closed true false c false h = h

module _ (s : Workbench) (number : ℕ) (claim : Live) where
  abbrev after : Workbench
  after = record s { last_claim = number; live = s.live ++ claim ∷ [] }

  still_taken : (job : jobs.Job) (i : ℕ) (x : Slice) → is_free s job i x ≡ false → is_free after job i x ≡ false
  still_taken job i x h =
      let more = list_any-append (λ (c : Live). (c.job == job.number) && (c.slice == i)) s.live (claim ∷ []) in
      ap (λ b. (not x.returned && not b) && not (is_replaced s job)) more ∙ still_closed (not x.returned) (is_claimed s.live job.number i) (is_replaced s job) (is_claimed (claim ∷ []) job.number i) h

  still_none : (job : jobs.Job) (k : ℕ) (xs : List Slice) → free_among s job k xs ≡ false → free_among after job k xs ≡ false
  still_none job k [] h = refl
  still_none job k (x ∷ xs) h =
      let parts = or_false _ _ h in
      ap (λ b. b || free_among after job (k + 1) xs) (still_taken job k x parts.0) ∙ still_none job (k + 1) xs parts.1

  pub still_passed : (k i : ℕ) → IsPassed s k i → IsPassed after k i
  still_passed k i h = record {
    jobs = λ n job lt at. still_none job 0 job.slices (h.jobs n job lt at);
    slices = λ job at. record { none = λ n x lt e. still_taken job n x ((h.slices job at).none n x lt e) };
    current = h.current;
  }

-- nor does a result that is taken

-- what stands at a place of a job with a slice returned
mark_at : (xs : List Slice) (i n : ℕ) (x : Slice) → slice_get (jobs.mark i xs) n ≡ Some x → ((n ≡ i) × (x.returned ≡ true)) ⊎ ((n ≢ i) × (slice_get xs n ≡ Some x))
mark_at [] i n x e = cc
mark_at (y ∷ ys) zero zero x e =
    let same : record y { returned = true } ≡ x = cc in
    inl (refl, ap (λ (z : Slice). z.returned) (sym same))
mark_at (y ∷ ys) zero (suc n) x e = inr ((λ q. absurd (omega (arith, q))), e)
mark_at (y ∷ ys) (suc i) zero x e = inr ((λ q. absurd (omega (arith, q))), e)
mark_at (y ∷ ys) (suc i) (suc n) x e = by (mark_at ys i n x e)
  where
    by : ((n ≡ i) × (x.returned ≡ true)) ⊎ ((n ≢ i) × (slice_get ys n ≡ Some x)) → ((suc n ≡ suc i) × (x.returned ≡ true)) ⊎ ((suc n ≢ suc i) × (slice_get ys n ≡ Some x))
    by (inl p) = inl (ap suc p.0, p.1)
    by (inr p) = inr ((λ q. p.0 (omega (arith, q))), p.1)

closed_still : (r a b p : Bool) → ((not r && not a) && not p) ≡ false → (a ≡ true → b ≡ true) → ((not r && not b) && not p) ≡ false
closed_still true a b p h more = refl
closed_still false true b p h more = ap (λ c. not c && not p) (more refl)
closed_still false false true p h more = refl
closed_still false false false p h more = h

none_before : (s : Workbench) (job : jobs.Job) (m : ℕ) → has_free s job ≡ false → IsNoneBefore s job m
none_before s job m h = record { none = λ n x lt e. by n x e (is_free s job n x) refl }
  where
    by : (n : ℕ) (x : Slice) → slice_get job.slices n ≡ Some x → (b : Bool) → is_free s job n x ≡ b → b ≡ false
    by n x e false k = refl
    by n x e true k = sym (free_has s job n (x, e, k)) ∙ h

module _ (s : Workbench) (number seat id slice : ℕ) (c : Live) (h : AreClaimedBut c s.live (others number seat s.live)) (of_job : c.job ≡ id) (of_slice : c.slice ≡ slice) where
  abbrev then : Workbench
  then = taken s number seat id slice

  claimed_still : (job : ℕ) (n : ℕ) → (job ≡ id → n ≡ slice → ⊥) → is_claimed s.live job n ≡ true → is_claimed then.live job n ≡ true
  claimed_still job n other t = elim (h job n t) [
    | inl p ↦ p
    | inr p ↦ absurd (other (sym p.0 ∙ of_job) (sym p.1 ∙ of_slice))
  ]

  none_other : (job : jobs.Job) (m : ℕ) → job.number ≢ id → IsNoneBefore s job m → IsNoneBefore then job m
  none_other job m other none = record {
    none = λ n x lt e. closed_still x.returned (is_claimed s.live job.number n) (is_claimed then.live job.number n) (is_replaced s job) (none.none n x lt e) (claimed_still job.number n (λ p q. other p));
  }

  none_marked : (job : jobs.Job) (m : ℕ) → IsNoneBefore s job m → IsNoneBefore then (jobs.marked slice job) m
  none_marked job m none = record { none = λ n x lt e. by n x lt (mark_at job.slices slice n x e) }
    where
      by : (n : ℕ) (x : Slice) → n < m → ((n ≡ slice) × (x.returned ≡ true)) ⊎ ((n ≢ slice) × (slice_get job.slices n ≡ Some x)) → is_free then (jobs.marked slice job) n x ≡ false
      by n x lt (inl p) = ap (λ b. (not b && not (is_claimed then.live job.number n)) && not (is_replaced s job)) p.1
      by n x lt (inr p) = closed_still x.returned (is_claimed s.live job.number n) (is_claimed then.live job.number n) (is_replaced s job) (none.none n x lt p.1) (claimed_still job.number n (λ q r. p.0 r))

  none_then : (job next : jobs.Job) (m : ℕ) → ((job.number ≢ id) × (next ≡ job)) ⊎ ((job.number ≡ id) × (next ≡ jobs.marked slice job)) → IsNoneBefore s job m → IsNoneBefore then next m
  none_then job next m (inl p) none = subst (λ j. IsNoneBefore then j m) (sym p.1) (none_other job m p.0 none)
  none_then job next m (inr p) none = subst (λ j. IsNoneBefore then j m) (sym p.1) (none_marked job m none)

  current_then : (job next : jobs.Job) → ((job.number ≢ id) × (next ≡ job)) ⊎ ((job.number ≡ id) × (next ≡ jobs.marked slice job)) → is_replaced s job ≡ false → is_replaced then next ≡ false
  current_then job next (inl p) h = subst (λ j. is_replaced then j ≡ false) (sym p.1) h
  current_then job next (inr p) h = subst (λ j. is_replaced then j ≡ false) (sym p.1) h

  taken_passed : (k i : ℕ) → AreRising s.jobs → IsPassed s k i → IsPassed then k i
  taken_passed k i rising passed = record {
    jobs = λ n job lt at.
        let was = marked_at s.jobs id slice n job rising at in
        let m = length job.slices in
        none_here then job m (none_then was.0 job m was.2 (none_before s was.0 m (passed.jobs n was.0 lt was.1))) (omega arith);
    slices = λ job at.
        let was = marked_at s.jobs id slice k job rising at in
        none_then was.0 job i was.2 (passed.slices was.0 was.1);
    current = λ job at more.
        let was = marked_at s.jobs id slice k job rising at in
        current_then was.0 job was.2 (passed.current was.0 was.1 more);
  }

pub result_passed : (s : Workbench) (number seat id slice k i : ℕ) (left : List Live) (o : Option Live) → HoldsSlice o id slice → IfSome o (λ c. AreClaimedBut c s.live left) → left ≡ others number seat s.live → AreRising s.jobs → IsPassed s k i → IsPassed (taken s number seat id slice) k i
result_passed s number seat id slice k i left None h stay is rising passed = absurd h
result_passed s number seat id slice k i left (Some c) h stay is rising passed =
    let P : List Live → Type 0 = λ l. AreClaimedBut c s.live l in
    taken_passed s number seat id slice c (subst P is stay) h.0 h.1 k i rising passed

-- nor does a closed book
pub closed_passed : (s : Workbench) (k i : ℕ) (closed : Bool) → IsPassed s k i → IsPassed (record s { closed = closed }) k i
closed_passed s k i closed h = record {
  jobs = h.jobs;
  slices = λ job at. record { none = (h.slices job at).none };
  current = h.current;
}

-- what the search finds may be held

unclaimed : (a b c : Bool) → ((a && not b) && not c) ≡ true → b ≡ false
unclaimed true true c h = cc
unclaimed true false c h = refl
unclaimed false b c h = cc

pub first_ready : (s : Workbench) (job : jobs.Job) (k i number : ℕ) → IsFirstFree s job k i → number ≡ s.last_claim + 1 → (s.last_claim < number) × (is_claimed s.live job.number i ≡ false) × IsPassed s k i
first_ready s job k i number h e = (omega (arith, e), unclaimed (not h.free.1.0.returned) (is_claimed s.live job.number i) (is_replaced s job) h.free.1.2, h.passed)

pub slice_inside : (s : Workbench) (job : jobs.Job) (k i : ℕ) → IsFirstFree s job k i → i < length job.slices
slice_inside s job k i h = inside job.slices i h.free.1.0 h.free.1.1

-- a job at the mark, past its first slice

job_at : (js : List jobs.Job) (k n : ℕ) (job : jobs.Job) → AreRising js → slice_get js k ≡ Some job → job.number ≡ n → job_of js n ≡ Some job
unfolding AreRising
job_at [] k n job r e is = cc
job_at (j ∷ js) zero n job r e is =
    let same : j ≡ job = cc in
    let first : (j.number == n) ≡ true = eq-eqb j.number n (ap (λ (x : jobs.Job). x.number) same ∙ is) in
    ap (λ b. cond b (Some j) (job_of js n)) first ∙ ap Some same
job_at (j ∷ js) (suc k) n job r e is =
    let more : j.number < job.number = ltb-true j.number job.number (all_get (λ (x : jobs.Job). nat_lt j.number x.number) js k job r.0 e) in
    let other : (j.number == n) ≡ false = ne_eqb j.number n (λ q. absurd (omega (arith, more, q, is))) in
    ap (λ b. cond b (Some j) (job_of js n)) other ∙ job_at js k n job r.1 e is

above_zero : (n : ℕ) → n ≢ 0 → 0 < n
above_zero zero h = absurd (h refl)
above_zero (suc n) h = omega arith

pub current_job : (s : Workbench) (job : jobs.Job) (k i n : ℕ) → IsPassed s k i → AreRising s.jobs → slice_get s.jobs k ≡ Some job → job.number ≡ n → i ≢ 0 → IfSome (job_of s.jobs n) (λ j. is_replaced s j ≡ false)
current_job s job k i n passed rising at is more =
    let P : Option jobs.Job → Type 0 = λ o. IfSome o (λ j. is_replaced s j ≡ false) in
    subst P (sym (job_at s.jobs k n job rising at is)) (passed.current job at (above_zero i more))
