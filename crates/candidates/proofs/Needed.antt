-- Words of numbers: what events read and write.
use Rattle.std.proofs.Common.{◌≡◌, ℕ, zero, suc, ◌+◌, ◌*◌, ◌/◌, ◌%◌, ◌^◌, ◌<◌, ◌≤◌, ◌⊎◌, List, [], ◌∷◌, ◌++◌, length, take, get_or, refl, sym, ◌∙◌, ap, subst, inl, inr, arith, true, false, bit_and, bit_or, bit_xor}
use Rattle.std.specs.Int.{bit_at}
use Rattle.std.proofs.lemmas.Bool.{cases_eq, cases_lt, false≢true}
use Rattle.std.proofs.lemmas.Grind.{take_at_read}
use Rattle.std.proofs.lemmas.List.{get_or_append_left, take_all}
use Rattle.std.proofs.lemmas.Nat.{one_shl}
use Rattle.std.proofs.lemmas.Nat.Bits.{bit_at_and, bit_at_or, bit_at_xor, bit_at_lowest, bit_at-lt, bit_at-pow_other, bit_at-pow_same, bit_at-suc, bit_at-zero}
use Rattle.std.proofs.Math.Seq.{get_or-append_seam}
use Rattle.events.specs.declared.event.Event.{Event}
use Rattle.events.specs.Executions.{ThreadRun, is_write}
use Rattle.listings.specs.Lists.{ForEach, IsIn}
use Rattle.listings.proofs.Listings.{in_append, in_left, in_right}
use Rattle.candidates.specs.declared.impossible.Needs.{Needs}
use Rattle.candidates.specs.declared.impossible.Store.{Store}
use Rattle.candidates.specs.Impossible.{is_wanting, number_of, AreGiven, AreGivenBy, AreNeeds, AreWanted}

two : (x : ℕ) → x < 2 → (x ≡ 0) ⊎ (x ≡ 1)
two zero h = inl refl
two (suc zero) h = inr refl
two (suc (suc x)) h = absurd (omega (arith, h))

pub either_bit : (a b j : ℕ) → bit_at (bit_or a b) j ≡ 1 → (bit_at a j ≡ 1) ⊎ (bit_at b j ≡ 1)
either_bit a b j h = elim (two (bit_at a j) (bit_at-lt a j)) [
  | inl z ↦ inr (omega (arith, z, bit_at_or a b j, h))
  | inr o ↦ inl o
]

pub left_bit : (a b j : ℕ) → bit_at a j ≡ 1 → bit_at (bit_or a b) j ≡ 1
left_bit a b j h = omega (arith, bit_at_or a b j, h, bit_at-lt b j)

pub right_bit : (a b j : ℕ) → bit_at b j ≡ 1 → bit_at (bit_or a b) j ≡ 1
right_bit a b j h = omega (arith, bit_at_or a b j, h, bit_at-lt a j)

one_bit : (n : ℕ) → n < 64 → bit_at (1 * 2 ^ n % 2 ^ 64) n ≡ 1
one_bit n l = ap (λ w. bit_at w n) (one_shl n 64 l) ∙ bit_at-pow_same n

of_one_bit : (n j : ℕ) → n < 64 → bit_at (1 * 2 ^ n % 2 ^ 64) j ≡ 1 → n ≡ j
of_one_bit n j l h = elim (cases_eq j n) [
  | inl e ↦ sym e
  | inr d ↦ absurd (omega (arith, ap (λ w. bit_at w j) (one_shl n 64 l) ∙ bit_at-pow_other n j d, h))
]

halved : (most w : ℕ) → w ≤ suc most → w % 2 ≡ 0 → 0 < w → (w / 2 ≤ most) × (0 < w / 2)
halved most w l e p = (omega (arith, l, e, p), omega (arith, l, e, p))

-- A word that isn't zero has a bit.
some_bit : (most w : ℕ) → w ≤ most → 0 < w → (j : ℕ) × (bit_at w j ≡ 1)
some_bit zero w l p = absurd (omega (arith, l, p))
some_bit (suc most) w l p = elim (two (bit_at w 0) (bit_at-lt w 0)) [
  | inr o ↦ (0, o)
  | inl z ↦ (let h = halved most w l (sym (bit_at_lowest w) ∙ z) p in
      let r = some_bit most (w / 2) h.0 h.1 in
      (suc r.0, bit_at-suc w r.0 ∙ r.1))
]

-- A bit of the one word that isn't one of the other.
pub lacking : (a b : ℕ) → 0 < bit_and a (bit_xor a b) → (j : ℕ) × (bit_at a j ≡ 1) × (bit_at b j ≡ 0)
lacking a b p =
    let w = bit_and a (bit_xor a b) in
    let r = some_bit w w (omega arith) p in
    let j = r.0 in
    let one : bit_at a j ≡ 1 = omega (arith, r.1, bit_at_and a (bit_xor a b) j, bit_at-lt a j) in
    let odd : (bit_at a j + bit_at b j) % 2 ≡ 1 = omega (arith, r.1, bit_at_and a (bit_xor a b) j, bit_at_xor a b j, bit_at-lt (bit_xor a b) j) in
    (j, one, omega (arith, one, odd, bit_at-lt b j))

-- ---- one more
pub taken : {A : Type 0} (xs : List A) (i : ℕ) (x : A) → i < length xs → x ≡ get_or xs i x → take (i + 1) xs ≡ take i xs ++ x ∷ []
taken {A = A} xs i x l is = (take_at_read xs i x l).1 ∙ ap (λ (y : A). take i xs ++ y ∷ []) (sym is)

-- One more of a row.
all_next : {A : Type 0} (P Q : A → Type 0) (xs : List A) (i : ℕ) (x : A) → i < length xs → x ≡ get_or xs i x → ((a : A) → P a → Q a) → Q x → ((a : A) → IsIn a (take i xs) → P a) → (a : A) → IsIn a (take (i + 1) xs) → Q a
all_next {A = A} P Q xs i x l e more q h a m =
    let R : List A → Type 0 = λ ys. IsIn a ys in
    elim (in_append (take i xs) (x ∷ []) a (subst R (taken xs i x l e) m)) [
      | inl k ↦ more a (h a k)
      | inr k ↦ elim k [ inl f ↦ subst Q (sym f) q | inr n ↦ absurd n ]
    ]

pub all_taken : {A : Type 0} (P : A → Type 0) (xs : List A) (i : ℕ) → length xs ≤ i → ((a : A) → IsIn a (take i xs) → P a) → (a : A) → IsIn a xs → P a
all_taken {A = A} P xs i l h a m =
    let R : List A → Type 0 = λ ys. IsIn a ys in
    h a (subst R (sym (take_all i xs l)) m)

pub no_wants : (init : List ℕ) (stores : List Store) (events : List Event) → AreWanted init stores events 0
no_wants init stores events = λ j b. absurd (omega (arith, b, bit_at-zero j))

pub one_want : (init : List ℕ) (stores : List Store) (e : Event) (n : ℕ) → is_wanting init e ≡ true → n ≡ number_of stores e.loc e.value → n < 64 → AreWanted init stores (e ∷ []) (1 * 2 ^ n % 2 ^ 64)
one_want init stores e n t number few = λ j b. (e, inl refl, t, sym number ∙ of_one_bit n j few b)

pub no_gift : (stores : List Store) (e : Event) → is_write e.access ≡ false → AreGiven stores (e ∷ []) 0
no_gift stores e none = λ f m k. elim m [
  | inl is ↦ absurd (false≢true (sym none ∙ sym (ap (λ (g : Event). is_write g.access) is) ∙ k))
  | inr n ↦ absurd n
]

pub one_gift : (stores : List Store) (e : Event) (n : ℕ) → n ≡ number_of stores e.loc e.value → n < 64 → AreGiven stores (e ∷ []) (1 * 2 ^ n % 2 ^ 64)
one_gift stores e n number few = λ f m k. elim m [
  | inl is ↦ (let B : ℕ → Type 0 = λ i. bit_at (1 * 2 ^ n % 2 ^ 64) i ≡ 1 in
      subst B (number ∙ sym (ap (λ (g : Event). number_of stores g.loc g.value) is)) (one_bit n few))
  | inr none ↦ absurd none
]

-- What is given stays so with more bits.
grown : (stores : List Store) (events : List Event) (a b : ℕ) → AreGiven stores events a → AreGiven stores events (bit_or a b)
grown stores events a b h e m k = left_bit a b (number_of stores e.loc e.value) (h e m k)

joined : (stores : List Store) (events : List Event) (a b : ℕ) → AreGiven stores events b → AreGiven stores events (bit_or a b)
joined stores events a b h e m k = right_bit a b (number_of stores e.loc e.value) (h e m k)

pub given_next : (stores : List Store) (events : List Event) (i : ℕ) (e : Event) (a b : ℕ) → i < length events → e ≡ get_or events i e → AreGiven stores (e ∷ []) b → AreGiven stores (take i events) a → AreGiven stores (take (i + 1) events) (bit_or a b)
given_next stores events i e a b l is here h =
    let P : Event → Type 0 = λ f. is_write f.access ≡ true → bit_at a (number_of stores f.loc f.value) ≡ 1 in
    let Q : Event → Type 0 = λ f. is_write f.access ≡ true → bit_at (bit_or a b) (number_of stores f.loc f.value) ≡ 1 in
    all_next P Q events i e l is (λ f p k. left_bit a b (number_of stores f.loc f.value) (p k)) (λ k. right_bit a b (number_of stores e.loc e.value) (here e (inl refl) k)) h

pub runs_next : (stores : List Store) (runs : List ThreadRun) (i : ℕ) (run : ThreadRun) (a b : ℕ) → i < length runs → run ≡ get_or runs i run → AreGiven stores run.events b → ((r : ThreadRun) → IsIn r (take i runs) → AreGiven stores r.events a) → (r : ThreadRun) → IsIn r (take (i + 1) runs) → AreGiven stores r.events (bit_or a b)
runs_next stores runs i run a b l is here h =
    let P : ThreadRun → Type 0 = λ r. AreGiven stores r.events a in
    let Q : ThreadRun → Type 0 = λ r. AreGiven stores r.events (bit_or a b) in
    all_next P Q runs i run l is (λ r p. grown stores r.events a b p) (joined stores run.events a b here) h

pub threads_next : (stores : List Store) (threads : List (List ThreadRun)) (i : ℕ) (runs : List ThreadRun) (a b : ℕ) → i < length threads → runs ≡ get_or threads i runs → ((r : ThreadRun) → IsIn r runs → AreGiven stores r.events b) → AreGivenBy stores (take i threads) a → AreGivenBy stores (take (i + 1) threads) (bit_or a b)
threads_next stores threads i runs a b l is here h = λ rs r m n.
    let P : List ThreadRun → Type 0 = λ us. (u : ThreadRun) → IsIn u us → AreGiven stores u.events a in
    let Q : List ThreadRun → Type 0 = λ us. (u : ThreadRun) → IsIn u us → AreGiven stores u.events (bit_or a b) in
    all_next P Q threads i runs l is (λ us p u k. grown stores u.events a b (p u k)) (λ u k. joined stores u.events a b (here u k)) (λ us k u q. h us u k q) rs m r n

both_wanted : (init : List ℕ) (stores : List Store) (es fs : List Event) (a b : ℕ) → AreWanted init stores es a → AreWanted init stores fs b → AreWanted init stores (es ++ fs) (bit_or a b)
both_wanted init stores es fs a b h k = λ j o. elim (either_bit a b j o) [
  | inl p ↦ (let r = h j p in (r.0, in_left es fs r.0 r.1, r.2, r.3))
  | inr p ↦ (let r = k j p in (r.0, in_right es fs r.0 r.1, r.2, r.3))
]

pub wanted_next : (init : List ℕ) (stores : List Store) (events : List Event) (i : ℕ) (e : Event) (a b : ℕ) → i < length events → e ≡ get_or events i e → AreWanted init stores (e ∷ []) b → AreWanted init stores (take i events) a → AreWanted init stores (take (i + 1) events) (bit_or a b)
wanted_next init stores events i e a b l is here h =
    let es = take i events in
    let P : List Event → Type 0 = λ fs. AreWanted init stores fs (bit_or a b) in
    subst P (sym (taken events i e l is)) (both_wanted init stores es (e ∷ []) a b h here)

-- ---- both
pub no_needs : (init : List ℕ) (stores : List Store) → AreNeeds init stores [] (record { wants = 0; gives = 0 })
no_needs init stores = record { wants = λ j b. absurd (omega (arith, b, bit_at-zero j)); gives = λ e m k. absurd m }

pub both_needs : (init : List ℕ) (stores : List Store) (es fs : List Event) (n m : Needs) → AreNeeds init stores es n → AreNeeds init stores fs m → AreNeeds init stores (es ++ fs) (record { wants = bit_or n.wants m.wants; gives = bit_or n.gives m.gives })
both_needs init stores es fs n m h k = record {
  wants = both_wanted init stores es fs n.wants m.wants h.wants k.wants;
  gives = λ e i w. elim (in_append es fs e i) [
    | inl a ↦ left_bit n.gives m.gives (number_of stores e.loc e.value) (h.gives e a w)
    | inr a ↦ right_bit n.gives m.gives (number_of stores e.loc e.value) (k.gives e a w)
  ];
}

-- ---- one for each
pub each_next : {A X : Type 0} (R : A → X → Type 0) (as' : List A) (i : ℕ) (a : A) (old new : List X) (x : X) → i < length as' → a ≡ get_or as' i a → new ≡ old ++ x ∷ [] → R a x → ForEach R (take i as') old → ForEach R (take (i + 1) as') new
each_next {A = A} {X = X} R as' i a old new x l is more r h =
    let P : List A → Type 0 = λ bs. ForEach R bs new in
    let Q : List X → Type 0 = λ ys. ForEach R (take i as' ++ a ∷ []) ys in
    subst P (sym (taken as' i a l is)) (subst Q (sym more) (go (take i as') old h))
  where
    go : (bs : List A) (ys : List X) → ForEach R bs ys → ForEach R (bs ++ a ∷ []) (ys ++ x ∷ [])
    go [] [] f = (r, tt)
    go [] (y ∷ ys) f = absurd f
    go (b ∷ bs) [] f = absurd f
    go (b ∷ bs) (y ∷ ys) f = (f.0, go bs ys f.1)

pub each_at : {A X : Type 0} (R : A → X → Type 0) (as' : List A) (xs : List X) (i : ℕ) (a : A) (x : X) → ForEach R as' xs → i < length as' → R (get_or as' i a) (get_or xs i x)
each_at R [] xs i a x f l = absurd (omega (arith, l))
each_at R (b ∷ as') [] i a x f l = absurd f
each_at R (b ∷ as') (y ∷ xs) zero a x f l = f.0
each_at R (b ∷ as') (y ∷ xs) (suc i) a x f l = each_at R as' xs i a x f.1 (omega (arith, l))

pub each_many : {A X : Type 0} (R : A → X → Type 0) (as' : List A) (xs : List X) → ForEach R as' xs → length xs ≡ length as'
each_many R [] [] f = refl
each_many R [] (x ∷ xs) f = absurd f
each_many R (a ∷ as') [] f = absurd f
each_many R (a ∷ as') (x ∷ xs) f = ap suc (each_many R as' xs f.1)

-- What holds of each at its place, and of one more.
pub many_next : {X : Type 0} (old new : List X) (x : X) → new ≡ old ++ x ∷ [] → length new ≡ length old + 1
many_next {X = X} old new x more = ap (λ (ys : List X). length ys) more ∙ go old
  where
    go : (ys : List X) → length (ys ++ x ∷ []) ≡ length ys + 1
    go [] = refl
    go (z ∷ ys) = omega (arith, go ys)

pub places_next : {X : Type 0} (P : ℕ → X → Type 0) (old new : List X) (x : X) → new ≡ old ++ x ∷ [] → P (length old) x → ((k : ℕ) (y : X) → k < length old → y ≡ get_or old k y → P k y) → (k : ℕ) (y : X) → k < length new → y ≡ get_or new k y → P k y
places_next {X = X} P old new x more here h k y l at =
    let is : y ≡ get_or (old ++ x ∷ []) k y = at ∙ ap (λ ys. get_or ys k y) more in
    elim (cases_lt k (length old)) [
      | inl less ↦ h k y less (is ∙ get_or_append_left old (x ∷ []) y k less)
      | inr last ↦ (let many = many_next old new x more in
          let e : k ≡ length old = omega (arith, last, l, many) in
          let same : y ≡ x = is ∙ ap (λ j. get_or (old ++ x ∷ []) j y) e ∙ get_or-append_seam old x [] y in
          let Q : ℕ → Type 0 = λ j. P j x in
          subst (P k) (sym same) (subst Q (sym e) here))
    ]
