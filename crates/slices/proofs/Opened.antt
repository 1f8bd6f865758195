-- The orders of several locations by their digits, and the writes that stand last in them.
use Rattle.std.proofs.Common.{◌≡◌, ◌⊎◌, ℕ, zero, suc, ◌+◌, ◌-◌, ◌*◌, ◌/◌, ◌%◌, ◌<◌, ◌≤◌, List, [], ◌∷◌, length, drop, get_or, nat_lt, if◌then◌else◌, Bool, true, false, refl, sym, ◌∙◌, ap, inl, inr, arith}
use Rattle.std.proofs.Math.Nat.{mul_assoc, mul_comm, add-mul, mul-add, mul-zero, zero-mul, one-mul, mul-one, div-add-mod, mod-lt, eq-zero-or-pos, mul-le-mul_left, div-lt_iff_lt-mul}
use Rattle.std.proofs.lemmas.Nat.{div-mul-add, mod-mul-add}
use Rattle.std.proofs.lemmas.Bool.{lt-ltb, le-ltb, ltb-true}
use Rattle.listings.specs.Lists.{product_by, factorial}
use Rattle.listings.specs.Numbered.{arrange, digits}
use Rattle.slices.specs.Totals.{total}
use Rattle.candidates.specs.Blocks.{placings}
use Rattle.slices.specs.Finals.{last_or}
use Rattle.events.specs.declared.event.EventId.{EventId}
use Rattle.slices.specs.Ways.{WaysValue, IsSound, openable, size_of_ways, count_of_ways, weight_of_way, way, share, rest}
use Rattle.slices.proofs.Spread.{total_same, total_const, lasts_add, closed, length_arranged}
use Rattle.slices.proofs.Digits.{Spreads, AllSpread, by_digits}

-- the orders by which the first k of ws have each place
pub spreads_last : (b : Bool) (i : EventId) (ws : List EventId) (k q : ℕ) → k ≤ length ws →
    (let w : WaysValue = record { initial = i; writes = arrange ws (placings (length ws) k * q); opened = k; seen = b } in Spreads size_of_ways count_of_ways weight_of_way way w (λ d. if b then last_or i (arrange ws (placings (length ws) k * q + d)) else i))
spreads_last false i ws k q l f =
    let n : ℕ = placings (length (arrange ws (placings (length ws) k * q))) k in
    total_const n (f i) ∙ (let e : n * f i ≡ 0 + n * f i = omega arith in e)
spreads_last true i ws k q l f =
    let zs : List EventId = arrange ws (placings (length ws) k * q) in
    let w : WaysValue = record { initial = i; writes = zs; opened = k; seen = true } in
    let long : length zs ≡ length ws = length_arranged ws (placings (length ws) k * q) in
    let g : ℕ → ℕ = λ c. weight_of_way w c * f (way w c) in
    let below : total k g ≡ total k (λ c. share (length zs) k * f (get_or zs c i)) =
    total_same k g (λ c. share (length zs) k * f (get_or zs c i)) (λ c u. (let b : nat_lt c k ≡ true = lt-ltb c k u in ap (λ t. (if t then share (length zs) k else rest (length zs) k) * f (if t then get_or zs c i else last_or i zs)) b)) in
    let at_end : g k ≡ rest (length zs) k * f (last_or i zs) = (let b : nat_lt k k ≡ false = le-ltb k k (omega arith) in ap (λ t. (if t then share (length zs) k else rest (length zs) k) * f (if t then get_or zs k i else last_or i zs)) b) in
    ap (λ n. total (placings n k) (λ d. f (last_or i (arrange ws (placings (length ws) k * q + d))))) long ∙ lasts_add i ws k q f ∙ closed i ws k q f l ∙
    (let e : total k (λ c. share (length zs) k * f (get_or zs c i)) + rest (length zs) k * f (last_or i zs) ≡ total k g + g k = omega (arith, below, at_end) in e)

pub placings_more : (n k : ℕ) → k < n → placings n (suc k) ≡ placings n k * (n - k)
placings_more zero k l = absurd (omega (arith, l))
placings_more (suc n) zero l = let e : suc n ≡ suc n - 0 = omega arith in mul_comm (suc n) 1 ∙ ap (λ m. 1 * m) e
placings_more (suc n) (suc k) l =
    let e : suc n - suc k ≡ n - k = omega arith in
    ap (λ m. suc n * m) (placings_more n k (omega (arith, l))) ∙ sym (mul_assoc (suc n) (placings n k) (n - k)) ∙ ap (λ m. suc n * placings n k * m) (sym e)

pub openable_same : (n k : ℕ) → k ≤ n → placings n (openable n k) ≡ placings n k
openable_same n k l = elim (cases n k l) [
  | inl u ↦ ap (λ t. placings n (if t then k else n - 1)) (lt-ltb k n u)
  | inr e ↦ ap (λ t. placings n (if t then k else n - 1)) (le-ltb k n (omega (arith, e))) ∙ elim (eq-zero-or-pos n) [
    | inl z ↦ ap (placings n) (let f : n - 1 ≡ k = omega (arith, z, e) in f)
    | inr p ↦ (let m : placings n (suc (n - 1)) ≡ placings n (n - 1) * (n - (n - 1)) = placings_more n (n - 1) (omega (arith, p)) in
        let a : n - (n - 1) ≡ 1 = omega (arith, p) in
        let b : suc (n - 1) ≡ k = omega (arith, p, e) in
        sym (m ∙ ap (λ z. placings n (n - 1) * z) a ∙ mul-one (placings n (n - 1))) ∙ ap (placings n) b)
  ]
]
  where
    cases : (n k : ℕ) → k ≤ n → (k < n) ⊎ (k ≡ n)
    cases n k l = elim (eq-zero-or-pos (n - k)) [ inl z ↦ inr (omega (arith, l, z)) | inr p ↦ inl (omega (arith, p)) ]

-- SEVERAL LOCATIONS

-- how many orders of these writes there are, and the last of them by number r
abbrev pub orders_of : {A : Type 0} → (A → List EventId) → A → ℕ
orders_of later a = factorial (length (later a))

abbrev pub last_by : {A : Type 0} → (A → EventId) → (A → List EventId) → (A → Bool) → A → ℕ → EventId
last_by first later seen a r = if seen a then last_or (first a) (arrange (later a) r) else first a

-- the writes of each in the order by number i, of which no one has another place
abbrev pub fixed_ways : {A : Type 0} → (A → EventId) → (A → List EventId) → (A → Bool) → List A → ℕ → List (WaysValue)
fixed_ways first later seen [] i = []
fixed_ways first later seen (a ∷ as') i = record { initial = first a; writes = arrange (later a) (i % orders_of later a); opened = 0; seen = seen a } ∷ fixed_ways first later seen as' (i / orders_of later a)

abbrev pub fixed_values : {A Y : Type 0} → (A → ℕ → Y) → (A → List EventId) → List A → ℕ → List (ℕ → Y)
fixed_values at later [] i = []
fixed_values at later (a ∷ as') i = (λ d. at a (i % orders_of later a + d)) ∷ fixed_values at later as' (i / orders_of later a)

abbrev pub opened_ways : {A : Type 0} → (A → EventId) → (A → List EventId) → (A → Bool) → (free k : ℕ) → List A → ℕ → List (WaysValue)
opened_ways first later seen free k [] q = []
opened_ways first later seen zero k (a ∷ as') q =
    let n = length (later a) in
    let e = factorial (length (drop k (later a))) in
    record { initial = first a; writes = arrange (later a) (placings n (openable n k) * (q % e)); opened = openable n k; seen = seen a } ∷ fixed_ways first later seen as' (q / e)
opened_ways first later seen (suc free) k (a ∷ as') q =
    let n = length (later a) in
    record { initial = first a; writes = arrange (later a) (placings n (openable n n) * 0); opened = openable n n; seen = seen a } ∷ opened_ways first later seen free k as' q

abbrev pub opened_values : {A Y : Type 0} → (A → ℕ → Y) → (A → List EventId) → (free k : ℕ) → List A → ℕ → List (ℕ → Y)
opened_values at later free k [] q = []
opened_values at later zero k (a ∷ as') q =
    let n = length (later a) in
    let e = factorial (length (drop k (later a))) in
    (λ d. at a (placings n (openable n k) * (q % e) + d)) ∷ fixed_values at later as' (q / e)
opened_values at later (suc free) k (a ∷ as') q =
    let n = length (later a) in
    (λ d. at a (placings n (openable n n) * 0 + d)) ∷ opened_values at later free k as' q

abbrev pub ways_of_orders : {A : Type 0} → (A → List EventId) → (free k : ℕ) → List A → ℕ
ways_of_orders later free k [] = 1
ways_of_orders later zero k (a ∷ as') = placings (length (later a)) k
ways_of_orders later (suc free) k (a ∷ as') = orders_of later a * ways_of_orders later free k as'

openable_most : (n k : ℕ) → k ≤ n → openable n k ≤ n
openable_most n k l = choice (nat_lt k n) n k l
  where
    choice : (b : Bool) (n k : ℕ) → k ≤ n → (if b then k else n - 1) ≤ n
    choice true n k l = l
    choice false n k l = omega arith

pub fixed_spread : {A : Type 0} (first : A → EventId) (later : A → List EventId) (seen : A → Bool) (as' : List A) (i : ℕ) → AllSpread size_of_ways count_of_ways weight_of_way way (fixed_ways first later seen as' i) (fixed_values (last_by first later seen) later as' i)
fixed_spread first later seen [] i = tt
fixed_spread first later seen (a ∷ as') i = (spreads_fixed (seen a) (first a) (later a) (i % orders_of later a), fixed_spread first later seen as' (i / orders_of later a))
  where
    spreads_fixed : (b : Bool) (i : EventId) (ws : List EventId) (r : ℕ) →
        (let w : WaysValue = record { initial = i; writes = arrange ws r; opened = 0; seen = b } in Spreads size_of_ways count_of_ways weight_of_way way w (λ d. if b then last_or i (arrange ws (r + d)) else i))
    spreads_fixed false i ws r f = let e : 0 + f i ≡ 0 + 1 * f i = omega (arith, one-mul (f i)) in e
    spreads_fixed true i ws r f =
        let x : EventId = last_or i (arrange ws r) in
        let e : r + 0 ≡ r = omega arith in
        let one : 0 + f (last_or i (arrange ws (r + 0))) ≡ 0 + 1 * f x = omega (arith, ap (λ z. f (last_or i (arrange ws z))) e, one-mul (f x)) in one

-- what is opened is no more than there is
abbrev pub Fits : {A : Type 0} → (A → List EventId) → (free k : ℕ) → List A → Type 0
Fits later free k [] = Unit {0}
Fits later zero k (a ∷ as') = k ≤ length (later a)
Fits later (suc free) k (a ∷ as') = Fits later free k as'

pub opened_spread : {A : Type 0} (first : A → EventId) (later : A → List EventId) (seen : A → Bool) (free k : ℕ) (as' : List A) (q : ℕ) → Fits later free k as' → AllSpread size_of_ways count_of_ways weight_of_way way (opened_ways first later seen free k as' q) (opened_values (last_by first later seen) later free k as' q)
opened_spread first later seen free k [] q h = tt
opened_spread first later seen zero k (a ∷ as') q h =
    let n : ℕ = length (later a) in
    let e : ℕ = factorial (length (drop k (later a))) in
    (spreads_last (seen a) (first a) (later a) (openable n k) (q % e) (openable_most n k h), fixed_spread first later seen as' (q / e))
opened_spread first later seen (suc free) k (a ∷ as') q h =
    let n : ℕ = length (later a) in
    (spreads_last (seen a) (first a) (later a) (openable n n) 0 (openable_most n n (omega arith)), opened_spread first later seen free k as' q h)

-- The values by the number i, and by the numbers behind a multiple of what is opened.
pub fixed_digits : {A Y : Type 0} (at : A → ℕ → Y) (first : A → EventId) (later : A → List EventId) (seen : A → Bool) (as' : List A) (i : ℕ) → digits (orders_of later) at as' i ≡ by_digits size_of_ways (fixed_ways first later seen as' i) (fixed_values at later as' i) 0
fixed_digits at first later seen [] i = refl
fixed_digits at first later seen (a ∷ as') i =
    let n : ℕ = orders_of later a in
    let z : i % n ≡ i % n + 0 % 1 = omega arith in
    ap (λ r. at a r ∷ digits (orders_of later) at as' (i / n)) z ∙ ap (λ xs. at a (i % n + 0 % 1) ∷ xs) (fixed_digits at first later seen as' (i / n))

all_placed : (ws : List EventId) (k : ℕ) → factorial (length ws) ≡ placings (length ws) k * factorial (length (drop k ws))
all_placed ws zero = sym (one-mul (factorial (length ws)))
all_placed [] (suc k) = refl
all_placed (w ∷ ws) (suc k) =
    let n : ℕ = suc (length ws) in
    ap (λ m. n * m) (all_placed ws k) ∙ sym (mul_assoc n (placings (length ws) k) (factorial (length (drop k ws))))

all_factorial : (n : ℕ) → placings n n ≡ factorial n
all_factorial zero = refl
all_factorial (suc n) = ap (λ m. suc n * m) (all_factorial n)

positive_left : (a b t : ℕ) → t < a * b → 0 < a
positive_left a b t l = elim (eq-zero-or-pos a) [ inl z ↦ absurd (let f : a * b ≡ 0 = ap (λ x. x * b) z ∙ zero-mul b in omega (arith, f, l)) | inr p ↦ p ]

-- a number behind a multiple of p, by p times e
parted : (p e q t : ℕ) → 0 < e → t < p → ((p * q + t) / (p * e) ≡ q / e) × ((p * q + t) % (p * e) ≡ p * (q % e) + t)
parted p e q t b l =
    let r : ℕ = q % e in
    let h : ℕ = q / e in
    let split : e * h + r ≡ q = div-add-mod q e in
    let less : r < e = mod-lt q b in
    let a1 : p * q ≡ p * (e * h) + p * r = ap (λ x. p * x) (sym split) ∙ mul-add p (e * h) r in
    let a2 : p * (e * h) ≡ h * (p * e) = sym (mul_assoc p e h) ∙ mul_comm (p * e) h in
    let is : p * q + t ≡ h * (p * e) + (p * r + t) = omega (arith, a1, a2) in
    let b1 : p * (r + 1) ≡ p * r + p * 1 = mul-add p r 1 in
    let b2 : p * (r + 1) ≤ p * e = mul-le-mul_left p (let u : r + 1 ≤ e = omega (arith, less) in u) in
    let below : p * r + t < p * e = omega (arith, b1, b2, mul-one p, l) in
    (ap (λ x. x / (p * e)) is ∙ div-mul-add h (p * e) (p * r + t) below, ap (λ x. x % (p * e)) is ∙ mod-mul-add h (p * e) (p * r + t) below)

small_mod : (t p : ℕ) → t < p → t % p ≡ t
small_mod t p l = let z : 0 * p + t ≡ t = omega (arith, zero-mul p) in ap (λ x. x % p) (sym z) ∙ mod-mul-add 0 p t l

small_div : (t p : ℕ) → t < p → t / p ≡ 0
small_div t p l = let z : 0 * p + t ≡ t = omega (arith, zero-mul p) in ap (λ x. x / p) (sym z) ∙ div-mul-add 0 p t l

some_factorial : (n : ℕ) → 0 < factorial n
some_factorial zero = omega arith
some_factorial (suc n) = let a : suc n * factorial n ≡ (n + 1) * factorial n = (let e : suc n ≡ n + 1 = omega arith in ap (λ x. x * factorial n) e) in omega (arith, some_factorial n, a, add-mul n 1 (factorial n), one-mul (factorial n))

pub opened_digits : {A Y : Type 0} (at : A → ℕ → Y) (first : A → EventId) (later : A → List EventId) (seen : A → Bool) (free k : ℕ) (as' : List A) (q t : ℕ) → Fits later free k as' → t < ways_of_orders later free k as' →
    digits (orders_of later) at as' (ways_of_orders later free k as' * q + t) ≡ by_digits size_of_ways (opened_ways first later seen free k as' q) (opened_values at later free k as' q) t
opened_digits at first later seen free k [] q t h l = refl
opened_digits {A} {Y} at first later seen zero k (a ∷ as') q t h l =
    let ws : List EventId = later a in
    let n : ℕ = length ws in
    let p : ℕ = placings n k in
    let e : ℕ = factorial (length (drop k ws)) in
    let d : orders_of later a ≡ p * e = all_placed ws k in
    let two = parted p e q t (some_factorial (length (drop k ws))) l in
    let high : (p * q + t) / orders_of later a ≡ q / e = ap (λ x. (p * q + t) / x) d ∙ two.0 in
    let low : (p * q + t) % orders_of later a ≡ p * (q % e) + t = ap (λ x. (p * q + t) % x) d ∙ two.1 in
    let o : ℕ = openable n k in
    let b : ℕ = placings n o * (q % e) in
    let same : placings n o ≡ p = openable_same n k h in
    let size : placings (length (arrange ws b)) o ≡ p = ap (λ x. placings x o) (length_arranged ws b) ∙ same in
    let R : ℕ → ℕ → List Y = λ r i. at a r ∷ digits (orders_of later) at as' i in
    let F : ℕ → ℕ → List Y = λ r i. at a (b + r) ∷ by_digits size_of_ways (fixed_ways first later seen as' (q / e)) (fixed_values at later as' (q / e)) i in
    let s : ℕ = placings (length (arrange ws b)) o in
    let there : p * (q % e) + t ≡ b + t = ap (λ x. x * (q % e) + t) (sym same) in
    let rem : t % s ≡ t = ap (λ x. t % x) size ∙ small_mod t p l in
    let quo : t / s ≡ 0 = ap (λ x. t / x) size ∙ small_div t p l in
    ap (λ r. R r ((p * q + t) / orders_of later a)) (low ∙ there) ∙ ap (R (b + t)) high ∙ ap (λ xs. at a (b + t) ∷ xs) (fixed_digits at first later seen as' (q / e)) ∙ sym (ap (λ r. F r (t / s)) rem ∙ ap (F t) quo)
opened_digits {A} {Y} at first later seen (suc free) k (a ∷ as') q t h l =
    let ws : List EventId = later a in
    let n : ℕ = length ws in
    let m : ℕ = orders_of later a in
    let w : ℕ = ways_of_orders later free k as' in
    let some : 0 < m = positive_left m w t l in
    let split : m * (t / m) + t % m ≡ t = div-add-mod t m in
    let less : t % m < m = mod-lt t some in
    let c1 : m * w * q ≡ m * (w * q) = mul_assoc m w q in
    let c2 : m * (w * q + t / m) ≡ m * (w * q) + m * (t / m) = mul-add m (w * q) (t / m) in
    let c3 : m * (w * q + t / m) ≡ (w * q + t / m) * m = mul_comm m (w * q + t / m) in
    let is : m * w * q + t ≡ (w * q + t / m) * m + t % m = omega (arith, c1, c2, c3, split) in
    let high : (m * w * q + t) / m ≡ w * q + t / m = ap (λ x. x / m) is ∙ div-mul-add (w * q + t / m) m (t % m) less in
    let low : (m * w * q + t) % m ≡ t % m = ap (λ x. x % m) is ∙ mod-mul-add (w * q + t / m) m (t % m) less in
    let o : ℕ = openable n n in
    let b : ℕ = placings n o * 0 in
    let none : b ≡ 0 = mul-zero (placings n o) in
    let size : placings (length (arrange ws b)) o ≡ m = ap (λ x. placings x o) (length_arranged ws b) ∙ openable_same n n (omega arith) ∙ all_factorial n in
    let s : ℕ = placings (length (arrange ws b)) o in
    let t1 : t / m < w = (div-lt_iff_lt-mul some).1 (omega (arith, l, mul_comm m w)) in
    let R : ℕ → ℕ → List Y = λ r i. at a r ∷ digits (orders_of later) at as' i in
    let F : ℕ → ℕ → List Y = λ r i. at a (b + r) ∷ by_digits size_of_ways (opened_ways first later seen free k as' q) (opened_values at later free k as' q) i in
    let there : t % m ≡ b + t % m = omega (arith, none) in
    ap (λ r. R r ((m * w * q + t) / m)) (low ∙ there) ∙ ap (R (b + t % m)) high ∙ ap (λ xs. at a (b + t % m) ∷ xs) (opened_digits at first later seen free k as' q (t / m) h t1) ∙
    sym (ap (λ x. F (t % x) (t / x)) size)

-- how many numbers are opened
pub opened_size : {A : Type 0} (first : A → EventId) (later : A → List EventId) (seen : A → Bool) (free k : ℕ) (as' : List A) (q : ℕ) → Fits later free k as' → product_by size_of_ways (opened_ways first later seen free k as' q) ≡ ways_of_orders later free k as'
opened_size first later seen free k [] q h = refl
opened_size {A} first later seen zero k (a ∷ as') q h =
    let ws : List EventId = later a in
    let n : ℕ = length ws in
    let e : ℕ = factorial (length (drop k ws)) in
    let b : ℕ = placings n (openable n k) * (q % e) in
    ap (λ x. placings x (openable n k) * product_by size_of_ways (fixed_ways first later seen as' (q / e))) (length_arranged ws b) ∙
    ap (λ x. x * product_by size_of_ways (fixed_ways first later seen as' (q / e))) (openable_same n k h) ∙ ap (λ x. placings n k * x) (fixed_size first later seen as' (q / e)) ∙ mul-one (placings n k)
  where
    fixed_size : {A : Type 0} (first : A → EventId) (later : A → List EventId) (seen : A → Bool) (as' : List A) (i : ℕ) → product_by size_of_ways (fixed_ways first later seen as' i) ≡ 1
    fixed_size first later seen [] i = refl
    fixed_size first later seen (a ∷ as') i = one-mul (product_by size_of_ways (fixed_ways first later seen as' (i / orders_of later a))) ∙ fixed_size first later seen as' (i / orders_of later a)
opened_size {A} first later seen (suc free) k (a ∷ as') q h =
    let ws : List EventId = later a in
    let n : ℕ = length ws in
    let b : ℕ = placings n (openable n n) * 0 in
    ap (λ x. placings x (openable n n) * product_by size_of_ways (opened_ways first later seen free k as' q)) (length_arranged ws b) ∙
    ap (λ x. x * product_by size_of_ways (opened_ways first later seen free k as' q)) (openable_same n n (omega arith) ∙ all_factorial n) ∙ ap (λ x. orders_of later a * x) (opened_size first later seen free k as' q h)

-- the writes that are opened are not the last ones
abbrev pub AreSound : List (WaysValue) → Type 0
AreSound [] = Unit {0}
AreSound (w ∷ ws) = IsSound w × AreSound ws

one_sound : (b : Bool) (i : EventId) (ws : List EventId) (k q : ℕ) → (let w : WaysValue = record { initial = i; writes = arrange ws q; opened = openable (length ws) k; seen = b } in IsSound w)
one_sound b i ws k q = let long : length (arrange ws q) ≡ length ws = length_arranged ws q in let l = choice (nat_lt k (length ws)) (length ws) k (λ e. ltb-true k (length ws) e) in omega (arith, long, l)
  where
    choice : (b : Bool) (n k : ℕ) → (b ≡ true → k < n) → (if b then k else n - 1) ≤ n - 1
    choice true n k h = let l = h refl in omega (arith, l)
    choice false n k h = omega arith

pub opened_sound : {A : Type 0} (first : A → EventId) (later : A → List EventId) (seen : A → Bool) (free k : ℕ) (as' : List A) (q : ℕ) → AreSound (opened_ways first later seen free k as' q)
opened_sound first later seen free k [] q = tt
opened_sound {A} first later seen zero k (a ∷ as') q =
    let n : ℕ = length (later a) in
    let e : ℕ = factorial (length (drop k (later a))) in
    (one_sound (seen a) (first a) (later a) k (placings n (openable n k) * (q % e)), fixed_sound first later seen as' (q / e))
  where
    fixed_sound : {A : Type 0} (first : A → EventId) (later : A → List EventId) (seen : A → Bool) (as' : List A) (i : ℕ) → AreSound (fixed_ways first later seen as' i)
    fixed_sound first later seen [] i = tt
    fixed_sound first later seen (a ∷ as') i = (omega arith, fixed_sound first later seen as' (i / orders_of later a))
opened_sound first later seen (suc free) k (a ∷ as') q =
    let n : ℕ = length (later a) in
    (one_sound (seen a) (first a) (later a) n (placings n (openable n n) * 0), opened_sound first later seen free k as' q)
