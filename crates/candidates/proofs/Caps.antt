-- Products and sums grow: once one is above the limit, it stays above.
use Rattle.std.proofs.Common.{◌≡◌, ℕ, zero, suc, ◌+◌, ◌-◌, ◌*◌, ◌/◌, ◌%◌, ◌^◌, Option, Some, ◌<◌, ◌≤◌, List, [], ◌∷◌, ◌++◌, append_assoc, length, drop, get_or, drop-cons, add-one, refl, sym, ◌∙◌, ap, subst, inl, inr, arith}
use Rattle.std.proofs.Math.Nat.{mul-le-mul_left, mul_assoc, mul_comm, pow-suc, one-le-pow}
use Rattle.std.proofs.lemmas.Nat.{pow-add}
use Rattle.std.proofs.lemmas.Bool.{cases_lt}
use Rattle.std.proofs.lemmas.List.{drop_all}
use Rattle.events.specs.declared.event.Event.{Event}
use Rattle.events.specs.declared.event.EventId.{EventId}
use Rattle.events.specs.Executions.{ThreadRun}
use Rattle.listings.specs.Lists.{factorial, product_by, tabulate}
use Rattle.listings.specs.Numbered.{digits}
use Rattle.candidates.specs.Executions.{later_writes, upto, reads, block}
use Rattle.candidates.specs.Candidates.{count_sources, count_orders, IsCapped}
use Rattle.candidates.specs.Readings.{sources_among, orders_among}

pub factor_le : (a b : ℕ) → 1 ≤ b → a ≤ a * b
factor_le a b l = omega (arith, mul-le-mul_left a l)

pub factorial_positive : (n : ℕ) → 1 ≤ factorial n
factorial_positive zero = omega arith
factorial_positive (suc n) = omega (arith, mul-le-mul_left (suc n) (factorial_positive n))

pub factorial_le : (m n : ℕ) → m ≤ n → factorial m ≤ factorial n
factorial_le m zero l = let e : m ≡ 0 = omega arith in rw e (omega arith)
factorial_le m (suc n) l = elim (cases_lt n m) [
  | inl h ↦ (let e : m ≡ suc n = omega (arith, l, h) in rw e (let k : factorial (suc n) ≤ factorial (suc n) = omega arith in k))
  | inr h ↦ (let r = factorial_le m n h in
      let s : factorial n ≤ suc n * factorial n = rw mul_comm (factor_le (factorial n) (suc n) (omega arith)) in
      omega (arith, r, s))
]

pub product_positive : {A : Type 0} (size : A → ℕ) → ((a : A) → 1 ≤ size a) → (as' : List A) → 1 ≤ product_by size as'
product_positive size each [] = omega arith
product_positive size each (a ∷ rest) = omega (arith, mul-le-mul_left (size a) (product_positive size each rest), each a)

pub factorial_step : (k : ℕ) → factorial k * (k + 1) ≡ factorial (k + 1)
factorial_step k = let e : k + 1 ≡ suc k = omega arith in rw e (mul_comm (factorial k) (suc k))

pub passes_factorial : (limit p k n : ℕ) → p ≡ factorial k → limit < p * (k + 1) → k < n → limit < factorial n
passes_factorial limit p k n e l h =
    let f : p * (k + 1) ≡ factorial (k + 1) = ap (λ q. q * (k + 1)) e ∙ factorial_step k in
    let g : factorial (k + 1) ≤ factorial n = factorial_le (k + 1) n (omega (arith, h)) in
    omega (arith, f, g, l)

pub capped_further : (limit p n rest total : ℕ) → p * (n * rest) ≡ total → 1 ≤ rest → limit < p * n → limit < total
capped_further limit p n rest total e l h =
    let f : p * n ≤ (p * n) * rest = factor_le (p * n) rest l in
    omega (arith, e, f, h)

pub product_drop : {A : Type 0} (size : A → ℕ) (as' : List A) (i : ℕ) (d : A) → i < length as' → product_by size (drop i as') ≡ size (get_or as' i d) * product_by size (drop (i + 1) as')
product_drop size as' i d l = rw (add-one, drop-cons as' i d) refl

-- one factor more is taken
pub taken_factor : {A : Type 0} (size : A → ℕ) (as' : List A) (i : ℕ) (d : A) (p n q : ℕ) → n ≡ size (get_or as' i d) → i < length as' → p * product_by size (drop i as') ≡ product_by size as' → q ≡ p * n → q * product_by size (drop (i + 1) as') ≡ product_by size as'
taken_factor size as' i d p n q is l e f =
    rw (f, is) (mul_assoc p (size (get_or as' i d)) (product_by size (drop (i + 1) as')) ∙ ap (λ n. p * n) (sym (product_drop size as' i d l)) ∙ e)

-- the product is above the limit
pub above : {A : Type 0} (size : A → ℕ) (as' : List A) (i : ℕ) (d : A) (p n limit : ℕ) → ((a : A) → 1 ≤ size a) → n ≡ size (get_or as' i d) → i < length as' → p * product_by size (drop i as') ≡ product_by size as' → limit < p * n → limit < product_by size as'
above size as' i d p n limit each is l e h =
    capped_further limit p n (product_by size (drop (i + 1) as')) (product_by size as')
    (rw is (ap (λ n. p * n) (sym (product_drop size as' i d l)) ∙ e)) (product_positive size each (drop (i + 1) as')) h

pub above_by_one : {A : Type 0} (size : A → ℕ) (as' : List A) (i : ℕ) (d : A) (p limit : ℕ) → ((a : A) → 1 ≤ size a) → 1 ≤ p → i < length as' → p * product_by size (drop i as') ≡ product_by size as' → limit < size (get_or as' i d) → limit < product_by size as'
above_by_one size as' i d p limit each k l e h =
    above size as' i d p (size (get_or as' i d)) limit each refl l e
    (let f : size (get_or as' i d) ≤ size (get_or as' i d) * p = factor_le (size (get_or as' i d)) p k in
    let g : size (get_or as' i d) * p ≡ p * size (get_or as' i d) = mul_comm (size (get_or as' i d)) p in
    omega (arith, f, g, h))

pub length_tabulate : {X : Type 0} (n : ℕ) (f : ℕ → X) → length (tabulate n f) ≡ n
length_tabulate zero f = refl
length_tabulate (suc n) f = ap (λ k. suc k) (length_tabulate n (λ i. f (suc i)))

pub get_or_tabulate : {X : Type 0} (n : ℕ) (f : ℕ → X) (i : ℕ) (d : X) → i < n → get_or (tabulate n f) i d ≡ f i
get_or_tabulate zero f i d l = absurd (omega (arith, l))
get_or_tabulate (suc n) f zero d l = refl
get_or_tabulate (suc n) f (suc i) d l = get_or_tabulate n (λ k. f (suc k)) i d (omega (arith, l))

pub below_upto : (i n : ℕ) → i < n → i < length (upto n)
below_upto i n l = rw (length_tabulate n (λ i. i)) l

pub sources_positive : (runs : List ThreadRun) (r : Event) → 1 ≤ count_sources runs r
sources_positive runs r = omega arith

pub orders_positive : (runs : List ThreadRun) (x : ℕ) → 1 ≤ count_orders runs x
orders_positive runs x = factorial_positive (length (later_writes runs x))

pub drop_upto : (n i : ℕ) → i < n → drop i (upto n) ≡ i ∷ drop (i + 1) (upto n)
drop_upto n i l =
    let h : i < length (upto n) = below_upto i n l in
    let e : drop i (upto n) ≡ get_or (upto n) i 0 ∷ drop (i + 1) (upto n) = rw (add-one, drop-cons (upto n) i 0) refl in
    e ∙ ap (λ k. k ∷ drop (i + 1) (upto n)) (get_or_tabulate n (λ k. k) i 0 l)

pub digits_step : {X : Type 0} (size : ℕ → ℕ) (at : ℕ → ℕ → X) (n i r : ℕ) → i < n → digits size at (drop i (upto n)) r ≡ at i (r % size i) ∷ digits size at (drop (i + 1) (upto n)) (r / size i)
digits_step size at n i r l =
    let e : drop i (upto n) ≡ i ∷ drop (i + 1) (upto n) = drop_upto n i l in
    ap (λ (xs : List ℕ). digits size at xs r) e

pub digits_end : {X : Type 0} (size : ℕ → ℕ) (at : ℕ → ℕ → X) (n i r : ℕ) → n ≤ i → digits size at (drop i (upto n)) r ≡ []
digits_end size at n i r l =
    let h : length (upto n) ≤ i = rw (length_tabulate n (λ k. k)) l in
    ap (λ (xs : List ℕ). digits size at xs r) (drop_all i (upto n) h)

-- one of the factors is at most the product
pub factor_below : {A : Type 0} (size : A → ℕ) (as' : List A) (i : ℕ) (d : A) → ((a : A) → 1 ≤ size a) → i < length as' → size (get_or as' i d) ≤ product_by size as'
factor_below size [] i d each l = absurd (omega (arith, l))
factor_below size (a ∷ rest) zero d each l = factor_le (size a) (product_by size rest) (product_positive size each rest)
factor_below size (a ∷ rest) (suc i) d each l =
    let h = factor_below size rest i d each (omega (arith, l)) in
    let f : product_by size rest ≤ product_by size rest * size a = factor_le (product_by size rest) (size a) (each a) in
    let e : product_by size rest * size a ≡ size a * product_by size rest = mul_comm (product_by size rest) (size a) in
    omega (arith, h, f, e)

pub orders_below : (runs : List ThreadRun) (n i : ℕ) → i < n → count_orders runs i ≤ product_by (count_orders runs) (upto n)
orders_below runs n i l =
    let P : ℕ → Type 0 = λ k. count_orders runs k ≤ product_by (count_orders runs) (upto n) in
    subst P (get_or_tabulate n (λ k. k) i 0 l) (factor_below (count_orders runs) (upto n) i 0 (orders_positive runs) (below_upto i n l))

pub digits_more : {X : Type 0} (size : ℕ → ℕ) (at : ℕ → ℕ → X) (n i rest count : ℕ) (done more total : List X) (x : X) → count ≡ size i → x ≡ at i (rest % count) → i < n → more ≡ done ++ x ∷ [] → done ++ digits size at (drop i (upto n)) rest ≡ total → more ++ digits size at (drop (i + 1) (upto n)) (rest / count) ≡ total
digits_more {X} size at n i rest count done more total x is made l grown e =
    let r = digits size at (drop (i + 1) (upto n)) (rest / count) in
    let f : x ∷ r ≡ digits size at (drop i (upto n)) rest =
    ap (λ (y : X). y ∷ r) made ∙ ap (λ k. at i (rest % k) ∷ digits size at (drop (i + 1) (upto n)) (rest / k)) is ∙ sym (digits_step size at n i rest l) in
    ap (λ (ys : List X). ys ++ r) grown ∙ append_assoc done (x ∷ []) r ∙ ap (λ (ys : List X). done ++ ys) f ∙ e

pub capped_unwrapped : (limit n m : ℕ) (o : Option ℕ) → IsCapped limit n o → o ≡ Some m → 1 ≤ n → (m ≡ n) × (1 ≤ m)
capped_unwrapped limit n m o c e l =
    let P : Option ℕ → Type 0 = IsCapped limit n in
    let h = (subst P e c).0 in
    (h, omega (arith, h, l))

pub ways_below : (runs : List ThreadRun) (locations : ℕ) → product_by (count_sources runs) (reads runs) ≤ block locations runs
ways_below runs locations = factor_le (product_by (count_sources runs) (reads runs)) (product_by (count_orders runs) (upto locations)) (product_positive (count_orders runs) (orders_positive runs) (upto locations))

pub all_orders_below : (runs : List ThreadRun) (locations : ℕ) → product_by (count_orders runs) (upto locations) ≤ block locations runs
all_orders_below runs locations =
    let a = product_by (count_sources runs) (reads runs) in
    let b = product_by (count_orders runs) (upto locations) in
    let f : b ≤ b * a = factor_le b a (product_positive (count_sources runs) (sources_positive runs) (reads runs)) in
    let e : b * a ≡ a * b = mul_comm b a in
    omega (arith, e, f)

pub power_le : (b k n : ℕ) → 1 ≤ b → k ≤ n → b ^ k ≤ b ^ n
power_le b k n h l =
    let e : n ≡ k + (n - k) = omega (arith, l) in
    let f : b ^ n ≡ b ^ k * b ^ (n - k) = ap (λ m. b ^ m) e ∙ pow-add b k (n - k) in
    omega (arith, f, factor_le (b ^ k) (b ^ (n - k)) (one-le-pow (n - k) b h))

pub power_step : (b k : ℕ) → b ^ k * b ≡ b ^ (k + 1)
power_step b k = let e : k + 1 ≡ suc k = omega arith in rw e (sym (pow-suc b k))

pub passes_power : (limit p b k n : ℕ) → p ≡ b ^ k → limit < p * b → k < n → 1 ≤ b → limit < b ^ n
passes_power limit p b k n e l h one =
    let f : p * b ≡ b ^ (k + 1) = ap (λ q. q * b) e ∙ power_step b k in
    omega (arith, f, l, power_le b (k + 1) n one (omega (arith, h)))

pub some_order : (later : List EventId) → 1 ≤ orders_among later
some_order later = factorial_positive (length later)

pub some_source : (writes : List (List EventId)) (r : Event) → 1 ≤ sources_among writes r
some_source writes r = omega arith
