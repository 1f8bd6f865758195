-- Live claims as entries by number, beside the slices that they hold.
use Rattle.std.proofs.Common.{◌≡◌, ℕ, ◌+◌, ◌<◌, ◌≤◌, arith, ◌&&◌, ◌||◌, ◌==◌, not, List, [], ◌∷◌, ◌++◌, map, filter, count_by, Bool, true, false, cond, None, Some, refl, sym, ap, ◌∙◌, subst, inl, inr}
use Rattle.std.specs.Prelude.{◌⊎◌, Option, IfSome, nat_le}
use Rattle.std.specs.BTreeMap.{insert_entry, is_at}
use Rattle.std.specs.Cmp.{nat_cmp_is, ranked}
use Rattle.std.specs.List.{find, list_any, list_all}
use Rattle.std.specs.Map.{lookup, remove_entry, values_of}
use Rattle.std.specs.Ordering.{nat_cmp, is_eq, match_ordering}
use Rattle.std.specs.declared.cmp.Ordering.{Ordering}
use Rattle.std.specs.declared.cmp.Ordering.TheVariants.{Less, Equal, Greater}
use Rattle.std.proofs.lemmas.Bool.{eq-eqb, eqb-true, ne_eqb, eqb-false, and_parts, leb-true, le-leb}
use Rattle.std.proofs.lemmas.List.Folds.{list_any-append}
use Rattle.std.proofs.lemmas.List.Sums.{sum_by-cons}
use Rattle.book.specs.Held.{live_of, is_used, AreApart, are_upto, IsHeld, AreClaimedBut, same_place}
use Rattle.book.specs.Step.{is_of, others, elsewhere}
use Rattle.book.specs.Workbench.{is_claimed, is_claim, claim_of}
use Rattle.book.specs.declared.live.Held.{Held}
use Rattle.book.specs.declared.live.Live.{Live}
use Rattle.book.specs.declared.live.Place.{Place}

-- Booleans

or_false : (a b : Bool) → (a || b) ≡ false → (a ≡ false) × (b ≡ false)
or_false true b h = cc
or_false false b h = (refl, h)

false_true : {X : Type 0} (b : Bool) → b ≡ false → b ≡ true → X
false_true b f t = cc

-- the two sides of a comparison, turned
turned : (m n : ℕ) → (m == n) ≡ (n == m)
turned m n = by (m == n) (n == m) refl refl
  where
    by : (a b : Bool) → (m == n) ≡ a → (n == m) ≡ b → (m == n) ≡ (n == m)
    by true b p q = p ∙ sym (eq-eqb _ _ (sym (eqb-true _ _ p)))
    by false true p q = eq-eqb _ _ (sym (eqb-true _ _ q)) ∙ sym q
    by false false p q = p ∙ sym q

-- a claim holds this slice
abbrev pub holds_at : Live → ℕ → ℕ → Bool
holds_at c job slice = (c.job == job) && (c.slice == slice)

at_turned : (c d : Live) → holds_at c d.job d.slice ≡ holds_at d c.job c.slice
at_turned c d = ap (λ b. b && (c.slice == d.slice)) (turned c.job d.job) ∙ ap (λ b. (d.job == c.job) && b) (turned c.slice d.slice)

-- what holds where a claim is that holds the slice
at_means : (P : ℕ → ℕ → Type 0) (c : Live) (job slice : ℕ) → holds_at c job slice ≡ true → P c.job c.slice → P job slice
at_means P c job slice h p =
    let parts = and_parts (c.job == job) (c.slice == slice) h in
    let first : c.job ≡ job = eqb-true c.job job parts.0 in
    let next : c.slice ≡ slice = eqb-true c.slice slice parts.1 in
    subst (λ i. P job i) next (subst (λ j. P j c.slice) first p)

-- a number is found by comparing

at_number : (n k : ℕ) → is_at (nat_cmp n) k ≡ (k == n)
at_number n k = by (k == n) refl (nat_cmp n k) refl
  where
    by : (b : Bool) → (k == n) ≡ b → (o : Ordering) → nat_cmp n k ≡ o → is_at (nat_cmp n) k ≡ (k == n)
    by true e o c =
        let same : n ≡ k = sym (eqb-true k n e) in
        ap is_eq (sym (nat_cmp_is n k Equal same)) ∙ sym e
    by false e Less c = ap is_eq c ∙ sym e
    by false e Greater c = ap is_eq c ∙ sym e
    by false e Equal c = absurd (eqb-false k n e (sym (ranked n k Equal (sym c))))

-- lists

pub any_kept : {X : Type 0} (q keep : X → Bool) (xs : List X) → list_any q xs ≡ false → list_any q (filter keep xs) ≡ false
any_kept q keep [] h = refl
any_kept {X} q keep (x ∷ xs) h = by (keep x) (or_false _ _ h).0 (any_kept q keep xs (or_false _ _ h).1)
  where
    by : (k : Bool) → q x ≡ false → list_any q (filter keep xs) ≡ false → list_any q (cond k (x ∷ filter keep xs) (filter keep xs)) ≡ false
    by true e rest = ap (λ b. b || list_any q (filter keep xs)) e ∙ rest
    by false e rest = rest

pub all_kept : {X : Type 0} (q keep : X → Bool) (xs : List X) → list_all q xs ≡ true → list_all q (filter keep xs) ≡ true
all_kept q keep [] h = refl
all_kept {X} q keep (x ∷ xs) h = by (keep x) (and_parts _ _ h).0 (all_kept q keep xs (and_parts _ _ h).1)
  where
    by : (k : Bool) → q x ≡ true → list_all q (filter keep xs) ≡ true → list_all q (cond k (x ∷ filter keep xs) (filter keep xs)) ≡ true
    by true e rest = ap (λ b. b && list_all q (filter keep xs)) e ∙ rest
    by false e rest = rest

-- where all that pass one test pass or fail another alike
any_filtered : {X : Type 0} (q keep : X → Bool) (b : Bool) (xs : List X) → ((x : X) → q x ≡ true → keep x ≡ b) → list_any q (filter keep xs) ≡ (b && list_any q xs)
any_filtered q keep true [] h = refl
any_filtered q keep false [] h = refl
any_filtered {X} q keep b (x ∷ xs) h = by (q x) (keep x) b refl (h x) (any_filtered q keep b xs h)
  where
    by : (t k v : Bool) → q x ≡ t → (t ≡ true → k ≡ v) → list_any q (filter keep xs) ≡ (v && list_any q xs)
        → list_any q (cond k (x ∷ filter keep xs) (filter keep xs)) ≡ (v && (t || list_any q xs))
    by false true v e same rest = ap (λ b. b || list_any q (filter keep xs)) e ∙ rest
    by false false v e same rest = rest
    by true true true e same rest = ap (λ b. b || list_any q (filter keep xs)) e
    by true false false e same rest = rest
    by true true false e same rest = false_true false refl (sym (same refl))
    by true false true e same rest = false_true false refl (same refl)

filter_seen : {X Y : Type 0} (f : X → Y) (p : Y → Bool) (xs : List X) → map f (filter (λ x. p (f x)) xs) ≡ filter p (map f xs)
filter_seen f p [] = refl
filter_seen {X} {Y} f p (x ∷ xs) = by (p (f x)) (filter_seen f p xs)
  where
    by : (b : Bool) → map f (filter (λ y. p (f y)) xs) ≡ filter p (map f xs) → map f (cond b (x ∷ filter (λ y. p (f y)) xs) (filter (λ y. p (f y)) xs)) ≡ cond b (f x ∷ filter p (map f xs)) (filter p (map f xs))
    by true rest = ap (λ ys. f x ∷ ys) rest
    by false rest = rest

-- what numbers tell

pub unused : (xs : List Live) (last n : ℕ) → are_upto last xs ≡ true → last < n → is_used xs n ≡ false
unused [] last n h lt = refl
unused (x ∷ xs) last n h lt =
    let parts = and_parts _ _ h in
    let below : x.number ≤ last = leb-true x.number last parts.0 in
    let first : (x.number == n) ≡ false = ne_eqb x.number n (λ e. omega (arith, below, lt, e)) in
    ap (λ b. b || is_used xs n) first ∙ unused xs last n parts.1 lt

pub upto_more : (xs : List Live) (c : Live) (last : ℕ) → are_upto last xs ≡ true → last < c.number → are_upto c.number (xs ++ c ∷ []) ≡ true
upto_more [] c last h lt = ap (λ b. b && true) (le-leb c.number c.number (omega arith))
upto_more (x ∷ xs) c last h lt =
    let parts = and_parts _ _ h in
    let below : x.number ≤ last = leb-true x.number last parts.0 in
    let first : nat_le x.number c.number ≡ true = le-leb x.number c.number (omega (arith, below, lt)) in
    ap (λ b. b && are_upto c.number (xs ++ c ∷ [])) first ∙ upto_more xs c last parts.1 lt

inserted : (es : List (ℕ × Held)) (n : ℕ) (x : Held) (last : ℕ) → are_upto last (map live_of es) ≡ true → last < n → map live_of (insert_entry nat_cmp es n x) ≡ map live_of es ++ live_of (n, x) ∷ []
inserted [] n x last h lt = refl
inserted (e ∷ es) n x last h lt =
    let parts = and_parts _ _ h in
    let below : e.0 ≤ last = leb-true e.0 last parts.0 in
    let order : nat_cmp n e.0 ≡ Greater = sym (nat_cmp_is n e.0 Greater (omega (arith, below, lt))) in
    ap (λ o. map live_of (match_ordering o ((n, x) ∷ e ∷ es) ((e.0, x) ∷ es) (e ∷ insert_entry nat_cmp es n x))) order
    ∙ ap (λ ls. live_of e ∷ ls) (inserted es n x last parts.1 lt)

pub no_claim : (xs : List Live) (n s : ℕ) → is_used xs n ≡ false → claim_of xs n s ≡ None
no_claim [] n s h = refl
no_claim (x ∷ xs) n s h =
    let parts = or_false _ _ h in
    ap (λ b. cond (b && (x.seat == s)) (Some x) (claim_of xs n s)) parts.0 ∙ no_claim xs n s parts.1

-- claims that are apart

apart_more : (xs : List Live) (c : Live) → AreApart xs → is_used xs c.number ≡ false → is_claimed xs c.job c.slice ≡ false → AreApart (xs ++ c ∷ [])
unfolding AreApart
apart_more [] c h u t = (refl, refl, tt)
apart_more (x ∷ xs) c h u t =
    let numbers = or_false _ _ u in
    let slices = or_false _ _ t in
    let first : (c.number == x.number) ≡ false = turned c.number x.number ∙ numbers.0 in
    let next : holds_at c x.job x.slice ≡ false = at_turned c x ∙ slices.0 in (
      list_any-append (λ (d : Live). d.number == x.number) xs (c ∷ []) ∙ ap (λ b. b || ((c.number == x.number) || false)) h.0 ∙ ap (λ b. b || false) first,
      list_any-append (λ (d : Live). holds_at d x.job x.slice) xs (c ∷ []) ∙ ap (λ b. b || (holds_at c x.job x.slice || false)) h.1 ∙ ap (λ b. b || false) next,
      apart_more xs c h.2 numbers.1 slices.1,
    )

apart_kept : (keep : Live → Bool) (xs : List Live) → AreApart xs → AreApart (filter keep xs)
unfolding AreApart
apart_kept keep [] h = tt
apart_kept keep (x ∷ xs) h = by (keep x) (apart_kept keep xs h.2)
  where
    by : (k : Bool) → AreApart (filter keep xs) → AreApart (cond k (x ∷ filter keep xs) (filter keep xs))
    by true rest = (any_kept (λ (d : Live). d.number == x.number) keep xs h.0, any_kept (λ (d : Live). holds_at d x.job x.slice) keep xs h.1, rest)
    by false rest = rest

-- without one claim

pub all_stay : (xs : List Live) (n s : ℕ) → claim_of xs n s ≡ None → filter (λ c. not (is_claim n s c)) xs ≡ xs
all_stay [] n s h = refl
all_stay (x ∷ xs) n s h = by (is_claim n s x) (all_stay xs n s) h
  where
    by : (b : Bool) → (claim_of xs n s ≡ None → filter (λ c. not (is_claim n s c)) xs ≡ xs) → cond b (Some x) (claim_of xs n s) ≡ None → cond (not b) (x ∷ filter (λ c. not (is_claim n s c)) xs) (filter (λ c. not (is_claim n s c)) xs) ≡ x ∷ xs
    by true rest e = cc
    by false rest e = ap (λ ys. x ∷ ys) (rest e)

-- a claim that is found is the only one of its number
removed : (es : List (ℕ × Held)) (n s : ℕ) (c : Live) → AreApart (map live_of es) → claim_of (map live_of es) n s ≡ Some c
    → map live_of (remove_entry (is_at (nat_cmp n)) es) ≡ filter (λ d. not (is_claim n s d)) (map live_of es)
unfolding AreApart
removed [] n s c h e = cc
removed (x ∷ es) n s c h e = ap (λ a. map live_of (cond a es (x ∷ left))) (at_number n x.0) ∙ by (removed es n s c h.2) (x.0 == n) refl (x.1.seat == s) e
  where
    left : List (ℕ × Held)
    left = remove_entry (is_at (nat_cmp n)) es

    rest : List Live
    rest = filter (λ d. not (is_claim n s d)) (map live_of es)

    none : (x.0 == n) ≡ true → claim_of (map live_of es) n s ≡ None
    none k = no_claim (map live_of es) n s (subst (λ m. is_used (map live_of es) m ≡ false) (eqb-true x.0 n k) h.0)

    by : (claim_of (map live_of es) n s ≡ Some c → map live_of left ≡ rest) → (b : Bool) → (x.0 == n) ≡ b → (t : Bool)
        → cond (b && t) (Some (live_of x)) (claim_of (map live_of es) n s) ≡ Some c → map live_of (cond b es (x ∷ left)) ≡ cond (not (b && t)) (live_of x ∷ rest) rest
    by next true k true f = sym (all_stay (map live_of es) n s (none k))
    by next true k false f = let gone : None ≡ Some c = sym (none k) ∙ f in cc
    by next false k t f = ap (λ ls. live_of x ∷ ls) (next f)

found_not : {X : Type 0} (p q : X → Bool) (xs : List X) (c : X) → find p xs ≡ Some c → list_any q xs ≡ false → q c ≡ false
found_not p q [] c e h = cc
found_not {X} p q (x ∷ xs) c e h = by (found_not p q xs c) (p x) e (or_false _ _ h)
  where
    by : (find p xs ≡ Some c → list_any q xs ≡ false → q c ≡ false) → (b : Bool) → cond b (Some x) (find p xs) ≡ Some c → (q x ≡ false) × (list_any q xs ≡ false) → q c ≡ false
    by next true f k = let same : x ≡ c = cc in ap q (sym same) ∙ k.0
    by next false f k = next f k.1

-- its slice is then no longer claimed
claimed_less : (xs : List Live) (n s : ℕ) (c : Live) → AreApart xs → claim_of xs n s ≡ Some c → (job slice : ℕ)
    → is_claimed (filter (λ d. not (is_claim n s d)) xs) job slice ≡ cond (holds_at c job slice) false (is_claimed xs job slice)
unfolding AreApart
claimed_less [] n s c h e job slice = cc
claimed_less (x ∷ xs) n s c h e job slice = by (λ f. claimed_less xs n s c h.2 f job slice) (is_claim n s x) refl e
  where
    rest : List Live
    rest = filter (λ d. not (is_claim n s d)) xs

    none : is_claim n s x ≡ true → claim_of xs n s ≡ None
    none k = no_claim xs n s (subst (λ m. is_used xs m ≡ false) (eqb-true x.number n (and_parts _ _ k).0) h.0)

    first : (t : Bool) → holds_at x job slice ≡ t → is_claimed xs job slice ≡ cond t false (t || is_claimed xs job slice)
    first true k = at_means (λ j i. is_claimed xs j i ≡ false) x job slice k h.1
    first false k = refl

    later : claim_of xs n s ≡ Some c → holds_at x c.job c.slice ≡ false
    later f = at_turned x c ∙ found_not (is_claim n s) (λ d. holds_at d x.job x.slice) xs c f h.1

    next : claim_of xs n s ≡ Some c → (t : Bool) → holds_at c job slice ≡ t
        → (holds_at x job slice || cond t false (is_claimed xs job slice)) ≡ cond t false (holds_at x job slice || is_claimed xs job slice)
    next f true k = ap (λ b. b || false) (at_means (λ j i. holds_at x j i ≡ false) c job slice k (later f))
    next f false k = refl

    by : (claim_of xs n s ≡ Some c → is_claimed rest job slice ≡ cond (holds_at c job slice) false (is_claimed xs job slice))
        → (b : Bool) → is_claim n s x ≡ b → cond b (Some x) (claim_of xs n s) ≡ Some c
        → is_claimed (cond (not b) (x ∷ rest) rest) job slice ≡ cond (holds_at c job slice) false (holds_at x job slice || is_claimed xs job slice)
    by left true k f =
        let same : x ≡ c = cc in
        ap (λ ls. is_claimed ls job slice) (all_stay xs n s (none k)) ∙ first (holds_at x job slice) refl
        ∙ ap (λ d. cond (holds_at d job slice) false (holds_at x job slice || is_claimed xs job slice)) same
    by left false k f = ap (λ b. holds_at x job slice || b) (left f) ∙ next f (holds_at c job slice) refl

-- what methods rest on

pub held_new : (es : List (ℕ × Held)) (holds : ℕ → ℕ → Bool) → es ≡ [] → ((job slice : ℕ) → holds job slice ≡ false) → IsHeld (map live_of es) holds 0
unfolding AreApart
held_new es holds e h = subst (λ v. IsHeld (map live_of v) holds 0) (sym e) (record { apart = tt; upto = refl; same = h })

pub more_seen : (es after : List (ℕ × Held)) (holds : ℕ → ℕ → Bool) (last n : ℕ) (x : Held) → IsHeld (map live_of es) holds last → last < n → after ≡ insert_entry nat_cmp es n x
    → map live_of after ≡ map live_of es ++ live_of (n, x) ∷ []
more_seen es after holds last n x h lt e = ap (map live_of) e ∙ inserted es n x last h.upto lt

or_true : (a t : Bool) → (a || (t || false)) ≡ cond t true a
or_true true true = refl
or_true true false = refl
or_true false true = refl
or_true false false = refl

pub held_more : (es after : List (ℕ × Held)) (holds then : ℕ → ℕ → Bool) (last n : ℕ) (x : Held) → IsHeld (map live_of es) holds last → last < n
    → is_claimed (map live_of es) x.job x.slice ≡ false → after ≡ insert_entry nat_cmp es n x
    → ((job slice : ℕ) → then job slice ≡ cond (holds_at (live_of (n, x)) job slice) true (holds job slice)) → IsHeld (map live_of after) then n
held_more es after holds then last n x h lt free e is =
    let c = live_of (n, x) in
    subst (λ v. IsHeld v then n) (sym (more_seen es after holds last n x h lt e)) (record {
      apart = apart_more (map live_of es) c h.apart (unused (map live_of es) last n h.upto lt) free;
      upto = upto_more (map live_of es) c last h.upto lt;
      same = λ job slice.
          is job slice ∙ ap (λ b. cond (holds_at c job slice) true b) (h.same job slice)
          ∙ sym (list_any-append (λ (d : Live). holds_at d job slice) (map live_of es) (c ∷ []) ∙ or_true (is_claimed (map live_of es) job slice) (holds_at c job slice));
    })

-- a slice that was noted and then is not
pub held_undone : (es after : List (ℕ × Held)) (holds mid then : ℕ → ℕ → Bool) (last n : ℕ) (x : Held) → IsHeld (map live_of es) holds last
    → is_claimed (map live_of es) x.job x.slice ≡ false → after ≡ es
    → ((job slice : ℕ) → mid job slice ≡ cond (holds_at (live_of (n, x)) job slice) true (holds job slice))
    → ((job slice : ℕ) → then job slice ≡ cond (holds_at (live_of (n, x)) job slice) false (mid job slice)) → IsHeld (map live_of after) then last
held_undone es after holds mid then last n x h free e was is =
    subst (λ v. IsHeld (map live_of v) then last) (sym e)
    (record { apart = h.apart; upto = h.upto; same = λ job slice. is job slice ∙ by job slice (holds_at c job slice) refl (was job slice) })
  where
    c : Live
    c = live_of (n, x)

    by : (job slice : ℕ) (t : Bool) → holds_at c job slice ≡ t → mid job slice ≡ cond t true (holds job slice) → cond t false (mid job slice) ≡ is_claimed (map live_of es) job slice
    by job slice true k m = sym (at_means (λ j i. is_claimed (map live_of es) j i ≡ false) c job slice k free)
    by job slice false k m = m ∙ h.same job slice

pub less_seen : (es after : List (ℕ × Held)) (holds : ℕ → ℕ → Bool) (last n s : ℕ) (c : Live) → IsHeld (map live_of es) holds last → claim_of (map live_of es) n s ≡ Some c
    → after ≡ remove_entry (is_at (nat_cmp n)) es → map live_of after ≡ others n s (map live_of es)
unfolding others
less_seen es after holds last n s c h f e = ap (map live_of) e ∙ removed es n s c h.apart f

pub held_less : (es after : List (ℕ × Held)) (holds then : ℕ → ℕ → Bool) (last n s : ℕ) (c : Live) → IsHeld (map live_of es) holds last → claim_of (map live_of es) n s ≡ Some c
    → after ≡ remove_entry (is_at (nat_cmp n)) es
    → ((job slice : ℕ) → then job slice ≡ cond (holds_at c job slice) false (holds job slice)) → IsHeld (map live_of after) then last
unfolding others
held_less es after holds then last n s c h f e is =
    subst (λ v. IsHeld v then last) (sym (less_seen es after holds last n s c h f e)) (record {
      apart = apart_kept (λ d. not (is_claim n s d)) (map live_of es) h.apart;
      upto = all_kept (λ (d : Live). nat_le d.number last) (λ d. not (is_claim n s d)) (map live_of es) h.upto;
      same = λ job slice.
          is job slice ∙ ap (λ b. cond (holds_at c job slice) false b) (h.same job slice) ∙ sym (claimed_less (map live_of es) n s c h.apart f job slice);
    })

-- and each other is
claimed_but : (es : List (ℕ × Held)) (holds : ℕ → ℕ → Bool) (last n s : ℕ) (c : Live) → IsHeld (map live_of es) holds last → claim_of (map live_of es) n s ≡ Some c → AreClaimedBut c (map live_of es) (others n s (map live_of es))
unfolding others
claimed_but es holds last n s c h f job slice t = by (holds_at c job slice) refl
  where
    by : (b : Bool) → holds_at c job slice ≡ b → (is_claimed (filter (λ d. not (is_claim n s d)) (map live_of es)) job slice ≡ true) ⊎ ((c.job ≡ job) × (c.slice ≡ slice))
    by true k =
        let parts = and_parts (c.job == job) (c.slice == slice) k in
        inr (eqb-true c.job job parts.0, eqb-true c.slice slice parts.1)
    by false k = inl (claimed_less (map live_of es) n s c h.apart f job slice ∙ ap (λ b. cond b false (is_claimed (map live_of es) job slice)) k ∙ t)

pub stay_but : (es after : List (ℕ × Held)) (holds : ℕ → ℕ → Bool) (last n s : ℕ) (c : Live) (old : List Live) → IsHeld (map live_of es) holds last → claim_of (map live_of es) n s ≡ Some c
    → after ≡ remove_entry (is_at (nat_cmp n)) es → map live_of es ≡ old → IfSome (claim_of old n s) (λ k. AreClaimedBut k old (map live_of after))
stay_but es after holds last n s c old h f e is =
    let P : List Live → Type 0 = λ l. IfSome (claim_of l n s) (λ k. AreClaimedBut k l (map live_of after)) in
    let Q : Option Live → Type 0 = λ o. IfSome o (λ k. AreClaimedBut k (map live_of es) (map live_of after)) in
    let R : List Live → Type 0 = λ l. AreClaimedBut c (map live_of es) l in
    subst P is (subst Q (sym f) (subst R (sym (less_seen es after holds last n s c h f e)) (claimed_but es holds last n s c h f)))

pub no_less : (live : List Live) (n s : ℕ) → claim_of live n s ≡ None → live ≡ others n s live
unfolding others
no_less live n s e = sym (all_stay live n s e)

pub elsewhere_seen : (es after : List (ℕ × Held)) (n : ℕ) → after ≡ filter (λ e. not (is_of n (live_of e))) es → map live_of after ≡ elsewhere n (map live_of es)
unfolding elsewhere
elsewhere_seen es after n e = ap (map live_of) e ∙ filter_seen live_of (λ c. not (is_of n c)) es

not_of : (job slice n : ℕ) (c : Live) → holds_at c job slice ≡ true → not (is_of n c) ≡ not (job == n)
not_of job slice n c k = ap (λ j. not (j == n)) (eqb-true c.job job (and_parts _ _ k).0)

not_at : (p q : Place) (n : ℕ) → same_place p q ≡ true → not (q.job == n) ≡ not (p.job == n)
not_at p q n k = ap (λ j. not (j == n)) (sym (eqb-true p.job q.job (and_parts _ _ k).0))

pub held_elsewhere : (es after : List (ℕ × Held)) (places left : List Place) (last n : ℕ)
    → IsHeld (map live_of es) (λ job slice. list_any (same_place (record { job = job; slice = slice })) places) last
    → after ≡ filter (λ e. not (is_of n (live_of e))) es → left ≡ filter (λ p. not (p.job == n)) places
    → IsHeld (map live_of after) (λ job slice. list_any (same_place (record { job = job; slice = slice })) left) last
unfolding elsewhere
held_elsewhere es after places left last n h e l =
    subst (λ v. IsHeld v (λ job slice. list_any (same_place (record { job = job; slice = slice })) left) last) (sym (elsewhere_seen es after n e)) (record {
      apart = apart_kept (λ d. not (is_of n d)) (map live_of es) h.apart;
      upto = all_kept (λ (d : Live). nat_le d.number last) (λ d. not (is_of n d)) (map live_of es) h.upto;
      same = λ job slice.
          let q : Place = record { job = job; slice = slice } in
          ap (list_any (same_place q)) l
          ∙ any_filtered (same_place q) (λ p. not (p.job == n)) (not (job == n)) places (λ p k. not_at q p n k)
          ∙ ap (λ b. not (job == n) && b) (h.same job slice)
          ∙ sym (any_filtered (λ (d : Live). holds_at d job slice) (λ d. not (is_of n d)) (not (job == n)) (map live_of es) (λ d k. not_of job slice n d k));
    })

-- what is found by a number

pub found_own : (es : List (ℕ × Held)) (n s : ℕ) (x : Held) → lookup (is_at (nat_cmp n)) es ≡ Some x → (x.seat == s) ≡ true → claim_of (map live_of es) n s ≡ Some (live_of (n, x))
found_own [] n s x e k = cc
found_own (y ∷ es) n s x e k = by (λ f. found_own es n s x f k) (y.0 == n) refl (ap (λ a. cond a (Some y.1) (lookup (is_at (nat_cmp n)) es)) (sym (at_number n y.0)) ∙ e)
  where
    by : (lookup (is_at (nat_cmp n)) es ≡ Some x → claim_of (map live_of es) n s ≡ Some (live_of (n, x)))
        → (b : Bool) → (y.0 == n) ≡ b → cond b (Some y.1) (lookup (is_at (nat_cmp n)) es) ≡ Some x
        → cond (b && (y.1.seat == s)) (Some (live_of y)) (claim_of (map live_of es) n s) ≡ Some (live_of (n, x))
    by next true m f =
        let same : y.1 ≡ x = cc in
        let number : y.0 ≡ n = eqb-true y.0 n m in
        ap (λ b. cond b (Some (live_of y)) (claim_of (map live_of es) n s)) (ap (λ (z : Held). z.seat == s) same ∙ k)
        ∙ ap (λ z. Some (live_of (y.0, z))) same ∙ ap (λ m. Some (live_of (m, x))) number
    by next false m f = next f

pub found_none : (es : List (ℕ × Held)) (n s : ℕ) → lookup (is_at (nat_cmp n)) es ≡ None → claim_of (map live_of es) n s ≡ None
found_none [] n s e = refl
found_none (y ∷ es) n s e = by (found_none es n s) (y.0 == n) refl (ap (λ a. cond a (Some y.1) (lookup (is_at (nat_cmp n)) es)) (sym (at_number n y.0)) ∙ e)
  where
    by : (lookup (is_at (nat_cmp n)) es ≡ None → claim_of (map live_of es) n s ≡ None)
        → (b : Bool) → (y.0 == n) ≡ b → cond b (Some y.1) (lookup (is_at (nat_cmp n)) es) ≡ None → cond (b && (y.1.seat == s)) (Some (live_of y)) (claim_of (map live_of es) n s) ≡ None
    by next true m f = cc
    by next false m f = next f

pub found_other : (es : List (ℕ × Held)) (n s : ℕ) (x : Held) → AreApart (map live_of es) → lookup (is_at (nat_cmp n)) es ≡ Some x → (x.seat == s) ≡ false → claim_of (map live_of es) n s ≡ None
unfolding AreApart
found_other [] n s x h e k = refl
found_other (y ∷ es) n s x h e k = by (λ f. found_other es n s x h.2 f k) (y.0 == n) refl (ap (λ a. cond a (Some y.1) (lookup (is_at (nat_cmp n)) es)) (sym (at_number n y.0)) ∙ e)
  where
    by : (lookup (is_at (nat_cmp n)) es ≡ Some x → claim_of (map live_of es) n s ≡ None)
        → (b : Bool) → (y.0 == n) ≡ b → cond b (Some y.1) (lookup (is_at (nat_cmp n)) es) ≡ Some x → cond (b && (y.1.seat == s)) (Some (live_of y)) (claim_of (map live_of es) n s) ≡ None
    by next true m f =
        let same : y.1 ≡ x = cc in
        ap (λ b. cond b (Some (live_of y)) (claim_of (map live_of es) n s)) (ap (λ (z : Held). z.seat == s) same ∙ k)
        ∙ no_claim (map live_of es) n s (subst (λ m. is_used (map live_of es) m ≡ false) (eqb-true y.0 n m) h.0)
    by next false m f = next f

-- how many are of a job

pub count_seen : (es : List (ℕ × Held)) (n : ℕ) → count_by (λ (x : Held). x.job == n) (values_of es) ≡ count_by (is_of n) (map live_of es)
count_seen [] n = refl
count_seen (e ∷ es) n =
    sum_by-cons (λ (x : Held). cond (x.job == n) 1 0) e.1 (values_of es) ∙ ap (λ k. cond (e.1.job == n) 1 0 + k) (count_seen es n)
    ∙ sym (sum_by-cons (λ c. cond (is_of n c) 1 0) (live_of e) (map live_of es))
