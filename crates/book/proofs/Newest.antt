-- The live claims, of which the newest stands by itself.
use Rattle.std.proofs.Common.{◌≡◌, ℕ, ◌+◌, ◌<◌, arith, ◌||◌, ◌==◌, not, List, [], ◌∷◌, ◌++◌, filter, count_by, Bool, true, false, cond, Option, None, Some, refl, sym, ap, ◌∙◌, subst, inl, inr}
use Rattle.std.specs.Prelude.{◌⊎◌, IfSome, nat_le, if◌then◌else◌}
use Rattle.std.specs.Option.{option_or}
use Rattle.std.specs.List.{find}
use Rattle.std.proofs.lemmas.Bool.{eqb-true, and_parts}
use Rattle.std.proofs.lemmas.List.{append-nil, length-append}
use Rattle.std.proofs.lemmas.List.Elements.{filter-append}
use Rattle.std.proofs.lemmas.List.Folds.{list_any-append, find-append}
use Rattle.std.proofs.lemmas.List.Sums.{count_by-le-length, length-filter, sum_by-append, sum_by-cons}
use Rattle.book.specs.Newest.{with_newest, number_of, kept_newest, AreGiven, IsNewest}
use Rattle.book.specs.Held.{are_upto, AreClaimedBut}
use Rattle.book.specs.Step.{is_of, others, elsewhere}
use Rattle.book.specs.Workbench.{is_claimed, is_claim, claim_of}
use Rattle.book.specs.declared.live.Live.{Live}
use Rattle.book.proofs.Held.{holds_at, unused, no_claim, all_stay, any_kept, all_kept, upto_more}

-- slices that are claimed

or_turned : (a t : Bool) → (a || (t || false)) ≡ (t || a)
or_turned true true = refl
or_turned true false = refl
or_turned false true = refl
or_turned false false = refl

pub claimed_with : (live : List Live) (c : Live) (job slice : ℕ) → is_claimed (live ++ c ∷ []) job slice ≡ (holds_at c job slice || is_claimed live job slice)
claimed_with live c job slice = list_any-append (λ (d : Live). holds_at d job slice) live (c ∷ []) ∙ or_turned (is_claimed live job slice) (holds_at c job slice)

but_newest : (live : List Live) (c : Live) → AreClaimedBut c (live ++ c ∷ []) live
but_newest live c job slice t = by (holds_at c job slice) refl
  where
    by : (b : Bool) → holds_at c job slice ≡ b → (is_claimed live job slice ≡ true) ⊎ ((c.job ≡ job) × (c.slice ≡ slice))
    by true k =
        let parts = and_parts (c.job == job) (c.slice == slice) k in
        inr (eqb-true c.job job parts.0, eqb-true c.slice slice parts.1)
    by false k = inl (ap (λ b. b || is_claimed live job slice) (sym k) ∙ sym (claimed_with live c job slice) ∙ t)

but_older : (k : Live) (before after : List Live) (c : Live) → AreClaimedBut k before after → AreClaimedBut k (before ++ c ∷ []) (after ++ c ∷ [])
but_older k before after c h job slice t = by (holds_at c job slice) refl
  where
    still : holds_at c job slice ≡ false → (is_claimed after job slice ≡ true) ⊎ ((k.job ≡ job) × (k.slice ≡ slice)) → (is_claimed (after ++ c ∷ []) job slice ≡ true) ⊎ ((k.job ≡ job) × (k.slice ≡ slice))
    still e (inl p) = inl (claimed_with after c job slice ∙ ap (λ b. b || is_claimed after job slice) e ∙ p)
    still e (inr p) = inr p

    by : (b : Bool) → holds_at c job slice ≡ b → (is_claimed (after ++ c ∷ []) job slice ≡ true) ⊎ ((k.job ≡ job) × (k.slice ≡ slice))
    by true e = inl (claimed_with after c job slice ∙ ap (λ b. b || is_claimed after job slice) e)
    by false e = still e (h job slice (ap (λ b. b || is_claimed before job slice) (sym e) ∙ sym (claimed_with before c job slice) ∙ t))

-- the claim of a number

none_newer : (live : List Live) (m n s : ℕ) → are_upto m live ≡ true → m < n → claim_of live n s ≡ None
none_newer live m n s u lt = no_claim live n s (unused live m n u lt)

none_before : (live : List Live) (c : Live) (m n s : ℕ) → are_upto m live ≡ true → m < c.number → is_claim n s c ≡ true → claim_of live n s ≡ None
none_before live c m n s u lt own =
    let number : c.number ≡ n = eqb-true c.number n (and_parts (c.number == n) (c.seat == s) own).0 in
    none_newer live m n s u (omega (arith, lt, number))

or_none : (o : Option Live) → option_or o None ≡ o
or_none None = refl
or_none (Some c) = refl

pub found_newest : (live : List Live) (c : Live) (m n s : ℕ) → are_upto m live ≡ true → m < c.number → is_claim n s c ≡ true → claim_of (live ++ c ∷ []) n s ≡ Some c
found_newest live c m n s u lt own =
    find-append (is_claim n s) live (c ∷ [])
    ∙ ap (λ o. option_or o (find (is_claim n s) (c ∷ []))) (none_before live c m n s u lt own)
    ∙ ap (λ b. cond b (Some c) None) own

pub found_older : (live : List Live) (c : Live) (n s : ℕ) → is_claim n s c ≡ false → claim_of (live ++ c ∷ []) n s ≡ claim_of live n s
found_older live c n s other =
    find-append (is_claim n s) live (c ∷ []) ∙ ap (λ b. option_or (claim_of live n s) (cond b (Some c) None)) other ∙ or_none (claim_of live n s)

-- without a claim

pub others_newest : (live : List Live) (c : Live) (m n s : ℕ) → are_upto m live ≡ true → m < c.number → is_claim n s c ≡ true → live ≡ others n s (live ++ c ∷ [])
unfolding others
others_newest live c m n s u lt own =
    let keep : Live → Bool = λ d. not (is_claim n s d) in
    sym (
    filter-append keep live (c ∷ []) ∙ ap (λ b. filter keep live ++ cond (not b) (c ∷ []) []) own
    ∙ append-nil (filter keep live) ∙ all_stay live n s (none_before live c m n s u lt own)
    )

pub others_older : (live : List Live) (c : Live) (n s : ℕ) → is_claim n s c ≡ false → others n s live ++ c ∷ [] ≡ others n s (live ++ c ∷ [])
unfolding others
others_older live c n s other =
    let keep : Live → Bool = λ d. not (is_claim n s d) in
    sym (filter-append keep live (c ∷ []) ∙ ap (λ b. filter keep live ++ cond (not b) (c ∷ []) []) other)

pub stay_newest : (live : List Live) (c : Live) (m n s : ℕ) → are_upto m live ≡ true → m < c.number → is_claim n s c ≡ true
    → IfSome (claim_of (live ++ c ∷ []) n s) (λ k. AreClaimedBut k (live ++ c ∷ []) live)
stay_newest live c m n s u lt own =
    let P : Option Live → Type 0 = λ o. IfSome o (λ k. AreClaimedBut k (live ++ c ∷ []) live) in
    subst P (sym (found_newest live c m n s u lt own)) (but_newest live c)

stay_by : (before after : List Live) (c : Live) (o : Option Live) → IfSome o (λ k. AreClaimedBut k before after) → IfSome o (λ k. AreClaimedBut k (before ++ c ∷ []) (after ++ c ∷ []))
stay_by before after c None h = tt
stay_by before after c (Some k) h = but_older k before after c h

pub stay_older : (before after : List Live) (c : Live) (n s : ℕ) → is_claim n s c ≡ false → IfSome (claim_of before n s) (λ k. AreClaimedBut k before after)
    → IfSome (claim_of (before ++ c ∷ []) n s) (λ k. AreClaimedBut k (before ++ c ∷ []) (after ++ c ∷ []))
stay_older before after c n s other h =
    let P : Option Live → Type 0 = λ o. IfSome o (λ k. AreClaimedBut k (before ++ c ∷ []) (after ++ c ∷ [])) in
    subst P (sym (found_older before c n s other)) (stay_by before after c (claim_of before n s) h)

pub elsewhere_with : (live : List Live) (newest : Option Live) (job : ℕ) → with_newest (elsewhere job live) (kept_newest job newest) ≡ elsewhere job (with_newest live newest)
unfolding elsewhere
elsewhere_with live None job = refl
elsewhere_with live (Some c) job = sym (filter-append keep live (c ∷ []) ∙ by (is_of job c))
  where
    keep : Live → Bool
    keep d = not (is_of job d)

    by : (b : Bool) → filter keep live ++ cond (not b) (c ∷ []) [] ≡ with_newest (filter keep live) (if b then None else Some c)
    by true = append-nil (filter keep live)
    by false = refl

-- how many are of a job

pub count_with : (live : List Live) (c : Live) (job : ℕ) → count_by (is_of job) (live ++ c ∷ []) ≡ count_by (is_of job) live + cond (c.job == job) 1 0
count_with live c job =
    let more : count_by (is_of job) (live ++ c ∷ []) ≡ count_by (is_of job) live + count_by (is_of job) (c ∷ []) = sum_by-append (λ d. cond (is_of job d) 1 0) live (c ∷ []) in
    let one : count_by (is_of job) (c ∷ []) ≡ cond (c.job == job) 1 0 + 0 = sum_by-cons (λ d. cond (is_of job d) 1 0) c [] in
    omega (arith, more, one)

-- how the claims are kept

pub given_new : (older : List Live × ℕ) → older ≡ ([], 0) → AreGiven older None 0
given_new older e =
    let P : List Live × ℕ → Type 0 = λ o. AreGiven o None 0 in
    subst P (sym e) (record { upto = refl; few = omega arith; newest = omega arith })

pub given_more : (older after : List Live × ℕ) (newest : Option Live) (c : Live) (last : ℕ) → AreGiven older newest last → after ≡ (with_newest older.0 newest, number_of newest older.1)
    → last < c.number → is_claimed (with_newest older.0 newest) c.job c.slice ≡ false → AreGiven after (Some c) c.number
given_more older after None c last h e lt free =
    let P : List Live × ℕ → Type 0 = λ o. AreGiven o (Some c) c.number in
    subst P (sym e) (record { upto = h.upto; few = h.few; newest = (omega (arith, h.newest, lt), refl, free) })
given_more older after (Some k) c last h e lt free =
    let P : List Live × ℕ → Type 0 = λ o. AreGiven o (Some c) c.number in
    subst P (sym e) (record {
      upto = upto_more older.0 k older.1 h.upto h.newest.0;
      few = omega (arith, h.few, h.newest.0, length-append older.0 (k ∷ []));
      newest = (omega (arith, h.newest.1, lt), refl, free);
    })

pub given_without : (older : List Live × ℕ) (c : Live) (last : ℕ) → AreGiven older (Some c) last → AreGiven older None last
given_without older c last h = record { upto = h.upto; few = h.few; newest = omega (arith, h.newest.0, h.newest.1) }

newest_kept : (keep : Live → Bool) (older : List Live × ℕ) (newest : Option Live) (last : ℕ) → IsNewest older newest last → IsNewest (filter keep older.0, older.1) newest last
newest_kept keep older None last h = h
newest_kept keep older (Some c) last h = (h.0, h.1, any_kept (λ (d : Live). holds_at d c.job c.slice) keep older.0 h.2)

given_kept : (keep : Live → Bool) (older : List Live × ℕ) (newest : Option Live) (last : ℕ) → AreGiven older newest last → AreGiven (filter keep older.0, older.1) newest last
given_kept keep older newest last h = record {
  upto = all_kept (λ (d : Live). nat_le d.number older.1) keep older.0 h.upto;
  few = omega (arith, length-filter keep older.0, count_by-le-length keep older.0, h.few);
  newest = newest_kept keep older newest last h.newest;
}

pub given_others : (older after : List Live × ℕ) (newest : Option Live) (last n s : ℕ) → AreGiven older newest last → after ≡ (others n s older.0, older.1) → AreGiven after newest last
unfolding others
given_others older after newest last n s h e =
    let P : List Live × ℕ → Type 0 = λ o. AreGiven o newest last in
    subst P (sym e) (given_kept (λ d. not (is_claim n s d)) older newest last h)

given_unless : (older : List Live × ℕ) (newest : Option Live) (last job : ℕ) → AreGiven older newest last → AreGiven older (kept_newest job newest) last
given_unless older None last job h = h
given_unless older (Some c) last job h = by (is_of job c)
  where
    by : (b : Bool) → AreGiven older (if b then None else Some c) last
    by true = given_without older c last h
    by false = h

pub given_elsewhere : (older after : List Live × ℕ) (newest : Option Live) (last job : ℕ) → AreGiven older newest last → after ≡ (elsewhere job older.0, older.1) → AreGiven after (kept_newest job newest) last
unfolding elsewhere
given_elsewhere older after newest last job h e =
    let P : List Live × ℕ → Type 0 = λ o. AreGiven o (kept_newest job newest) last in
    subst P (sym e) (given_unless (filter (λ d. not (is_of job d)) older.0, older.1) newest last job (given_kept (λ d. not (is_of job d)) older newest last h))
