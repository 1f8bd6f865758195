-- How jobs are numbered: kept by what is done with jobs.
use Rattle.std.proofs.Common.{◌≡◌, ◌≢◌, ℕ, zero, suc, ◌+◌, ◌<◌, ◌≤◌, ◌&&◌, ◌==◌, List, [], ◌∷◌, ◌++◌, filter, Bool, true, false, cond, not, Some, refl, sym, ap, ◌∙◌, inl, inr, arith}
use Rattle.std.specs.Prelude.{◌⊎◌, nat_le, nat_lt, slice_get, if◌then◌else◌}
use Rattle.std.specs.List.{list_all}
use Rattle.std.proofs.lemmas.Bool.{and_parts, leb-true, le-leb, lt-ltb, ltb-true}
use Rattle.std.proofs.lemmas.Bool.Decides.{eqb_tells}
use Rattle.std.proofs.lemmas.List.Folds.{list_all-append}
use Rattle.book.specs.Jobs.{Job, marked}
use Rattle.book.specs.Numbers.{AreRising, AreNumbered}
use Rattle.book.specs.Step.{without}
use Rattle.book.specs.Workbench.{marked_in}
use Rattle.book.proofs.Counts.{all_get}
use Rattle.book.proofs.Held.{all_kept}

abbrev above : ℕ → Job → Bool
above n j = nat_lt n j.number

abbrev upto : ℕ → Job → Bool
upto n j = nat_le j.number n

pub none_numbered : (last : ℕ) → AreNumbered [] last
unfolding AreRising
none_numbered last = record { rising = tt; upto = refl }

-- one more

rising_more : (js : List Job) (job : Job) (last : ℕ) → AreRising js → list_all (upto last) js ≡ true → last < job.number → AreRising (js ++ job ∷ [])
unfolding AreRising
rising_more [] job last r u lt = (refl, tt)
rising_more (j ∷ js) job last r u lt =
    let parts = and_parts _ _ u in
    let below : j.number ≤ last = leb-true j.number last parts.0 in
    let next : nat_lt j.number job.number ≡ true = lt-ltb j.number job.number (omega (arith, below, lt)) in (
      list_all-append (above j.number) js (job ∷ []) ∙ ap (λ b. b && (above j.number job && true)) r.0 ∙ ap (λ b. b && true) next,
      rising_more js job last r.1 parts.1 lt,
    )

upto_more : (js : List Job) (job : Job) (last : ℕ) → list_all (upto last) js ≡ true → last < job.number → list_all (upto job.number) (js ++ job ∷ []) ≡ true
upto_more [] job last u lt = ap (λ b. b && true) (le-leb job.number job.number (omega arith))
upto_more (j ∷ js) job last u lt =
    let parts = and_parts _ _ u in
    let below : j.number ≤ last = leb-true j.number last parts.0 in
    let first : nat_le j.number job.number ≡ true = le-leb j.number job.number (omega (arith, below, lt)) in
    ap (λ b. b && list_all (upto job.number) (js ++ job ∷ [])) first ∙ upto_more js job last parts.1 lt

pub numbered_more : (js : List Job) (job : Job) (last : ℕ) → AreNumbered js last → job.number ≡ last + 1 → AreNumbered (js ++ job ∷ []) job.number
numbered_more js job last h e =
    let lt : last < job.number = omega (arith, e) in
    record { rising = rising_more js job last h.rising h.upto lt; upto = upto_more js job last h.upto lt }

-- without some

rising_kept : (keep : Job → Bool) (js : List Job) → AreRising js → AreRising (filter keep js)
unfolding AreRising
rising_kept keep [] r = tt
rising_kept keep (j ∷ js) r = by (keep j) (rising_kept keep js r.1)
  where
    by : (k : Bool) → AreRising (filter keep js) → AreRising (cond k (j ∷ filter keep js) (filter keep js))
    by true rest = (all_kept (above j.number) keep js r.0, rest)
    by false rest = rest

pub numbered_without : (js : List Job) (number last : ℕ) → AreNumbered js last → AreNumbered (without number js) last
unfolding without
numbered_without js number last h =
    let keep : Job → Bool = λ j. not (j.number == number) in
    record { rising = rising_kept keep js h.rising; upto = all_kept (upto last) keep js h.upto }

-- with a slice returned

all_marked : (p : ℕ → Bool) (js : List Job) (number i : ℕ) → list_all (λ j. p j.number) (marked_in js number i) ≡ list_all (λ j. p j.number) js
all_marked p [] number i = refl
all_marked p (j ∷ js) number i = by (j.number == number) (all_marked p js number i)
  where
    by : (b : Bool) → list_all (λ (k : Job). p k.number) (marked_in js number i) ≡ list_all (λ (k : Job). p k.number) js
        → list_all (λ (k : Job). p k.number) (if b then marked i j ∷ js else j ∷ marked_in js number i) ≡ (p j.number && list_all (λ (k : Job). p k.number) js)
    by true rest = refl
    by false rest = ap (λ b. p j.number && b) rest

rising_marked : (js : List Job) (number i : ℕ) → AreRising js → AreRising (marked_in js number i)
unfolding AreRising
rising_marked [] number i r = tt
rising_marked (j ∷ js) number i r = by (j.number == number) (rising_marked js number i r.1)
  where
    by : (b : Bool) → AreRising (marked_in js number i) → AreRising (if b then marked i j ∷ js else j ∷ marked_in js number i)
    by true rest = r
    by false rest = (all_marked (nat_lt j.number) js number i ∙ r.0, rest)

pub numbered_marked : (js : List Job) (number i last : ℕ) → AreNumbered js last → AreNumbered (marked_in js number i) last
numbered_marked js number i last h = record { rising = rising_marked js number i h.rising; upto = all_marked (λ n. nat_le n last) js number i ∙ h.upto }

-- what then stands at a place: the job of that number with the slice returned, and each other as it was
pub marked_at : (js : List Job) (number i n : ℕ) (k : Job) → AreRising js → slice_get (marked_in js number i) n ≡ Some k
    → (j : Job) × (slice_get js n ≡ Some j) × (((j.number ≢ number) × (k ≡ j)) ⊎ ((j.number ≡ number) × (k ≡ marked i j)))
unfolding AreRising
marked_at [] number i n k r e = cc
marked_at (j ∷ js) number i zero k r e = by (eqb_tells j.number number)
  where
    by : (((j.number == number) ≡ true) × (j.number ≡ number)) ⊎ (((j.number == number) ≡ false) × (j.number ≢ number))
        → (x : Job) × (Some j ≡ Some x) × (((x.number ≢ number) × (k ≡ x)) ⊎ ((x.number ≡ number) × (k ≡ marked i x)))
    by (inl p) =
        let is : Some (marked i j) ≡ Some k = ap (λ b. slice_get (if b then marked i j ∷ js else j ∷ marked_in js number i) 0) (sym p.0) ∙ e in
        let same : k ≡ marked i j = cc in
        (j, refl, inr (p.1, same))
    by (inr p) =
        let is : Some j ≡ Some k = ap (λ b. slice_get (if b then marked i j ∷ js else j ∷ marked_in js number i) 0) (sym p.0) ∙ e in
        let same : k ≡ j = cc in
        (j, refl, inl (p.1, same))
marked_at (j ∷ js) number i (suc n) k r e = by (eqb_tells j.number number) (marked_at js number i n k r.1)
  where
    by : (((j.number == number) ≡ true) × (j.number ≡ number)) ⊎ (((j.number == number) ≡ false) × (j.number ≢ number))
        → (slice_get (marked_in js number i) n ≡ Some k → (x : Job) × (slice_get js n ≡ Some x) × (((x.number ≢ number) × (k ≡ x)) ⊎ ((x.number ≡ number) × (k ≡ marked i x))))
        → (x : Job) × (slice_get js n ≡ Some x) × (((x.number ≢ number) × (k ≡ x)) ⊎ ((x.number ≡ number) × (k ≡ marked i x)))
    by (inl p) next =
        let is : slice_get js n ≡ Some k = ap (λ b. slice_get (if b then marked i j ∷ js else j ∷ marked_in js number i) (suc n)) (sym p.0) ∙ e in
        let more : j.number < k.number = ltb-true j.number k.number (all_get (above j.number) js n k r.0 is) in
        (k, is, inl ((λ q. absurd (omega (arith, more, p.1, q))), refl))
    by (inr p) next = next (ap (λ b. slice_get (if b then marked i j ∷ js else j ∷ marked_in js number i) (suc n)) (sym p.0) ∙ e)
