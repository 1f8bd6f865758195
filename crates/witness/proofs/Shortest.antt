-- Cycles, and the shortest of them.
use Rattle.std.proofs.Common.{◌≡◌, ℕ, zero, suc, ◌<◌, ◌≤◌, ◌+◌, ◌≢◌, ◌-◌, List, [], ◌∷◌, ◌++◌, length, get_or, refl, sym, ◌∙◌, ap, subst, inl, inr, arith, append_assoc}
use Rattle.std.proofs.lemmas.Bool.{cases_eq, cases_lt}
use Rattle.listings.specs.Lists.{IsIn, NoRepeats}
use Rattle.relations.specs.Relation.{Relation, In, IsCanonical, IsExactly}
use Rattle.relations.specs.Equality.{pair_below}
use Rattle.relations.specs.Algebra.{Through, Chain, one, more, IsAcyclic, IsIrreflexive}
use Rattle.witness.specs.Cycles.{Leads, IsCycle, IsPower, ArePowers}

-- a list of numbers without repeats that are all below n

without : (k : ℕ) (xs : List ℕ) → NoRepeats xs → (ys : List ℕ) × (length xs ≤ suc (length ys)) × NoRepeats ys × ((y : ℕ) → IsIn y ys → IsIn y xs × (y ≢ k))
without k [] n = ([], omega arith, tt, λ y m. absurd m)
without k (x ∷ xs) n =
    elim (cases_eq x k) [
      | inl e ↦ (xs, omega arith, n.1, λ y m. (inr m, λ d. n.0 (let P : ℕ → Type 0 = λ z. IsIn z xs in subst P (d ∙ sym e) m)))
      | inr d ↦ (let r = without k xs n.1 in (
        x ∷ r.0,
        (let l = r.1 in omega (arith, l)),
        ((λ m. n.0 (r.3 x m).0), r.2),
        λ y m. elim m [
          | inl e ↦ (inl e, λ f. d (sym e ∙ f))
          | inr q ↦ (inr (r.3 y q).0, (r.3 y q).1)
        ],
      ))
    ]

pub few : (n : ℕ) (xs : List ℕ) → NoRepeats xs → ((x : ℕ) → IsIn x xs → x < n) → length xs ≤ n
few zero [] o b = omega arith
few zero (x ∷ xs) o b = (let l : x < 0 = b x (inl refl) in absurd (omega (arith, l)))
few (suc n) xs o b =
    let r = without n xs o in
    let l : length r.0 ≤ n = few n r.0 r.2 (λ y m. (let z : y < suc n = b y (r.3 y m).0 in let d = (r.3 y m).1 in omega (arith, z, d))) in
    let k = r.1 in
    omega (arith, l, k)

-- where an event stands again, there is a cycle from there
cycle_within : (P : ℕ → ℕ → Type 0) (x a : ℕ) (ms : List ℕ) (b : ℕ) → Leads P a ms b → IsIn x ms → (ns : List ℕ) × (suc (length ns) ≤ length ms) × Leads P a ns x
cycle_within P x a [] b p m = absurd m
cycle_within P x a (y ∷ ms) b p (inl e) = ([], omega arith, (let Q : ℕ → Type 0 = λ z. P a z in subst Q (sym e) p.0))
cycle_within P x a (y ∷ ms) b p (inr m) = let r = cycle_within P x y ms b p.1 m in (y ∷ r.0, (let l = r.1 in omega (arith, l)), (p.0, r.2))

-- so events that are fewer than those of any cycle stand once
once : (P : ℕ → ℕ → Type 0) (a : ℕ) (ms : List ℕ) (b : ℕ) → Leads P a ms b → ((ys : List ℕ) → IsCycle P ys → length ms < length ys) → NoRepeats (a ∷ ms)
once P a [] b p f = ((λ m. absurd m), tt)
once P a (m ∷ ms) b p f = (
  (λ q. (let r = cycle_within P a a (m ∷ ms) b p q in let l = r.1 in let z = f (a ∷ r.0) r.2 in absurd (omega (arith, l, z)))),
  once P m ms b p.1 (λ ys c. (let z = f ys c in omega (arith, z))),
)

pub shortest_once : (P : ℕ → ℕ → Type 0) (xs : List ℕ) → IsCycle P xs → ((ys : List ℕ) → IsCycle P ys → length xs ≤ length ys) → NoRepeats xs
shortest_once P [] c f = absurd c
shortest_once P (a ∷ ms) c f = once P a ms a c (λ ys d. (let z = f ys d in omega (arith, z)))

-- what events stand on a cycle

ahead_below : (P : ℕ → ℕ → Type 0) (n : ℕ) → ((i j : ℕ) → P i j → (i < n) × (j < n)) → (a : ℕ) (ms : List ℕ) (b : ℕ) → Leads P a ms b → (x : ℕ) → IsIn x (a ∷ ms) → x < n
ahead_below P n w a [] b p x (inl e) = let l = (w a b p).0 in omega (arith, l, e)
ahead_below P n w a [] b p x (inr m) = absurd m
ahead_below P n w a (y ∷ ms) b p x (inl e) = let l = (w a y p.0).0 in omega (arith, l, e)
ahead_below P n w a (y ∷ ms) b p x (inr m) = ahead_below P n w y ms b p.1 x m

cycle_below : (P : ℕ → ℕ → Type 0) (n : ℕ) → ((i j : ℕ) → P i j → (i < n) × (j < n)) → (ys : List ℕ) → IsCycle P ys → (x : ℕ) → IsIn x ys → x < n
cycle_below P n w [] c x m = absurd c
cycle_below P n w (a ∷ ms) c x m = ahead_below P n w a ms a c x m

-- where none has at most as many events as there are, there is none

none_up_to : (P : ℕ → ℕ → Type 0) (n : ℕ) → ((i j : ℕ) → P i j → (i < n) × (j < n)) → ((ys : List ℕ) → IsCycle P ys → n < length ys) → (k : ℕ) (ys : List ℕ) → length ys ≤ k → ¬ IsCycle P ys
none_up_to P n w f zero [] l c = c
none_up_to P n w f zero (y ∷ ys) l c = absurd (omega (arith, l))
none_up_to P n w f (suc k) ys l c =
    let shorter : (zs : List ℕ) → IsCycle P zs → k < length zs = λ zs d. elim (cases_lt k (length zs)) [ inl m ↦ m | inr m ↦ absurd (none_up_to P n w f k zs m d) ] in
    let o : NoRepeats ys = shortest_once P ys c (λ zs d. (let z = shorter zs d in omega (arith, z, l))) in
    let m : length ys ≤ n = few n ys o (cycle_below P n w ys c) in
    let z : n < length ys = f ys c in
    omega (arith, m, z)

chain_leads : (P : ℕ → ℕ → Type 0) (i j : ℕ) → Chain P i j → (ms : List ℕ) × Leads P i ms j
chain_leads P i j (one p) = ([], p)
chain_leads P i j (more m p c) = let r = chain_leads P m j c in (m ∷ r.0, (p, r.1))

pub none_acyclic : (r : Relation) (n k : ℕ) → IsCanonical r → r.count ≡ n → n ≤ k → ((ys : List ℕ) → IsCycle (In r) ys → k < length ys) → IsAcyclic (In r)
none_acyclic r n k t e o f i c =
    let s = chain_leads (In r) i i c in
    let w : (i j : ℕ) → In r i j → (i < n) × (j < n) = λ i j p. (let b = pair_below r i j t p in let x = b.0 in let y = b.1 in (omega (arith, x, e), omega (arith, y, e))) in
    none_up_to (In r) n w (λ ys d. (let z = f ys d in omega (arith, z, o))) (length (i ∷ s.0)) (i ∷ s.0) (omega arith) s.1

-- powers

pub power_first : (r : Relation) → IsPower r 0 r
power_first r = record {
  count = refl;
  only = λ i j p. ([], refl, p);
  all = λ i j ms l p. first ms i j l p;
}
  where
    first : (ms : List ℕ) (i j : ℕ) → length ms ≡ 0 → Leads (In r) i ms j → In r i j
    first [] i j l p = p
    first (m ∷ ms) i j l p = absurd (omega (arith, l))

pub power_next : (r q s : Relation) (k : ℕ) → IsCanonical r → IsPower r k q → IsExactly r.count (Through r.count (In r) (In q)) s → IsPower r (suc k) s
power_next r q s k t h e = record {
  count = e.count;
  only = λ i j p. (let m = e.only i j p in let w = h.only m.0 j m.3 in (m.0 ∷ w.0, ap suc w.1, (m.2, w.2)));
  all = λ i j ms l p. next ms i j l p;
}
  where
    ends : (ms : List ℕ) (i j : ℕ) → Leads (In r) i ms j → j < r.count
    ends [] i j p = (pair_below r i j t p).1
    ends (m ∷ ms) i j p = ends ms m j p.1

    next : (ms : List ℕ) (i j : ℕ) → length ms ≡ suc k → Leads (In r) i ms j → In s i j
    next [] i j l p = absurd (omega (arith, l))
    next (m ∷ ms) i j l p =
        let b = pair_below r i m t p.0 in
        e.all i j b.0 (ends ms m j p.1) (m, b.1, p.0, h.all m j ms (let z : length ms ≡ k = omega (arith, l) in z) p.1)

pub powers_push : (r : Relation) (k : ℕ) (qs : List Relation) (q : Relation) → ArePowers r k qs → IsPower r (k + length qs) q → ArePowers r k (qs ++ q ∷ [])
powers_push r k [] q h p = (let P : ℕ → Type 0 = λ n. IsPower r n q in subst P (let e : k + 0 ≡ k = omega arith in e) p, tt)
powers_push r k (s ∷ qs) q h p = (h.0, powers_push r (suc k) qs q h.1 (let P : ℕ → Type 0 = λ n. IsPower r n q in subst P (let e : k + suc (length qs) ≡ suc k + length qs = omega arith in e) p))

pub power_at : (r : Relation) (k : ℕ) (qs : List Relation) (i : ℕ) (d : Relation) → ArePowers r k qs → i < length qs → IsPower r (k + i) (get_or qs i d)
power_at r k [] i d h l = absurd (omega (arith, l))
power_at r k (q ∷ qs) zero d h l = (let P : ℕ → Type 0 = λ n. IsPower r n q in subst P (let e : k ≡ k + 0 = omega arith in e) h.0)
power_at r k (q ∷ qs) (suc i) d h l = (let P : ℕ → Type 0 = λ n. IsPower r n (get_or qs i d) in subst P (let e : suc k + i ≡ k + suc i = omega arith in e) (power_at r (suc k) qs i d h.1 (omega (arith, l))))

-- where a power relates no event to itself, each cycle is longer
pub longer : (r q : Relation) (k : ℕ) → IsPower r k q → IsIrreflexive (In q) → ((ys : List ℕ) → IsCycle (In r) ys → k < length ys) → (ys : List ℕ) → IsCycle (In r) ys → k + 1 < length ys
longer r q k h n f [] c = absurd c
longer r q k h n f (a ∷ ms) c = elim (cases_eq (length ms) k) [
  | inl e ↦ absurd (n a (h.all a a ms e c))
  | inr d ↦ (let z : k < length (a ∷ ms) = f (a ∷ ms) c in omega (arith, z, d))
]

-- the way that is left of a cycle
pub record IsLeft (P : ℕ → ℕ → Type 0) (k last event : ℕ) : Type 0 where
  pub way : List ℕ
  pub long : length way ≡ k
  pub leads : Leads P last way event

pub left_first : (r q : Relation) (k event : ℕ) (n : ℕ) → IsPower r k q → In q event event → n ≡ k → (ms : List ℕ) × (length ms ≡ n) × Leads (In r) event ms event
left_first r q k event n h p e = let w = h.only event event p in (w.0, w.1 ∙ sym e, w.2)

-- one event further on the way, by a power
pub left_some : (r q : Relation) (k last event : ℕ) → IsPower r k q → IsLeft (In r) (suc k) last event → (m : ℕ) × In r last m × In q m event
left_some r q k last event h w = some w.way w.long w.leads
  where
    some : (ms : List ℕ) → length ms ≡ suc k → Leads (In r) last ms event → (m : ℕ) × In r last m × In q m event
    some [] l p = absurd (omega (arith, l))
    some (m ∷ ms) l p = (m, p.0, h.all m event ms (let z : length ms ≡ k = omega (arith, l) in z) p.1)

pub left_on : (r q : Relation) (k m event : ℕ) → IsPower r k q → In q m event → IsLeft (In r) k m event
left_on r q k m event h p = let w = h.only m event p in record { way = w.0; long = w.1; leads = w.2 }

-- the way done so far, and any way from its last event on, make a cycle
abbrev pub IsBegun : (ℕ → ℕ → Type 0) → List ℕ → (last event : ℕ) → Type 0
IsBegun P done last event = (ms : List ℕ) → Leads P last ms event → IsCycle P (done ++ ms)

pub begun_on : (P : ℕ → ℕ → Type 0) (done : List ℕ) (last next event : ℕ) → IsBegun P done last event → P last next → IsBegun P (done ++ next ∷ []) next event
begun_on P done last next event h p ms q =
    let C : List ℕ → Type 0 = IsCycle P in
    subst C (sym (append_assoc done (next ∷ []) ms)) (h (next ∷ ms) (p, q))

pub power_of : (r : Relation) (qs : List Relation) (step : ℕ) (q : Relation) → ArePowers r 0 qs → step < length qs → q ≡ get_or qs (length qs - 1 - step) q → IsPower r (length qs - (step + 1)) q
power_of r qs step q h l e =
    let P : Relation → Type 0 = λ s. IsPower r (length qs - (step + 1)) s in
    let N : ℕ → Type 0 = λ n. IsPower r n (get_or qs (length qs - 1 - step) q) in
    subst P (sym e) (subst N (let f : 0 + (length qs - 1 - step) ≡ length qs - (step + 1) = omega arith in f) (power_at r 0 qs (length qs - 1 - step) q h (omega (arith, l))))

pub turn : (r q : Relation) (n step last event : ℕ) → step < n → IsPower r (n - (step + 1)) q → IsLeft (In r) (n - step) last event → (m : ℕ) × In r last m × In q m event
turn r q n step last event l h w =
    let N : ℕ → Type 0 = λ k. IsLeft (In r) k last event in
    left_some r q (n - (step + 1)) last event h (subst N (let f : n - step ≡ suc (n - (step + 1)) = omega (arith, l) in f) w)

pub ends_below : (r : Relation) (k last event : ℕ) → IsCanonical r → IsLeft (In r) k last event → (last < r.count) × (event < r.count)
ends_below r k last event t w = below w.way last w.leads
  where
    below : (ms : List ℕ) (a : ℕ) → Leads (In r) a ms event → (a < r.count) × (event < r.count)
    below [] a p = pair_below r a event t p
    below (m ∷ ms) a p = ((pair_below r a m t p.0).0, (below ms m p.1).1)

pub cycle_some : (P : ℕ → ℕ → Type 0) (ys : List ℕ) → IsCycle P ys → 0 < length ys
cycle_some P [] c = absurd c
cycle_some P (a ∷ ms) c = omega arith
