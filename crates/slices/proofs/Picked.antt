-- What is picked by number: how many numbers there are, and their weights.
use Rattle.std.proofs.Common.{◌≡◌, ◌⊎◌, ℕ, zero, suc, ◌+◌, ◌-◌, ◌*◌, ◌/◌, ◌%◌, ◌<◌, ◌≤◌, List, [], ◌∷◌, length, nat_lt, if◌then◌else◌, Bool, true, false, sym, ◌∙◌, ap, inl, inr, arith}
use Rattle.std.proofs.Math.Nat.{mul_comm, add-mul, one-mul, mul-one, eq-zero-or-pos, mul-le-mul_right, div-lt_iff_lt-mul}
use Rattle.listings.specs.Lists.{product_by}
use Rattle.slices.specs.Totals.{total}
use Rattle.candidates.specs.Blocks.{placings}
use Rattle.events.specs.declared.event.EventId.{EventId}
use Rattle.slices.specs.Ways.{WaysValue, size_of_ways, count_of_ways, weight_of_way, way, share, rest, weight_by, IsSound}
use Rattle.slices.proofs.Spread.{total_same, total_const}
use Rattle.slices.proofs.Digits.{all_spread, AllSpread}
use Rattle.slices.proofs.Opened.{AreSound}

-- what is added is at most the whole, and where the whole is more than nothing, so is something that is added
pub one_total : (n i : ℕ) (f : ℕ → ℕ) → i < n → f i ≤ total n f
one_total zero i f l = absurd (omega (arith, l))
one_total (suc n) i f l = elim (last n i l) [
  | inl u ↦ (let h : f i ≤ total n f = one_total n i f u in omega (arith, h))
  | inr e ↦ (let h : f i ≡ f n = ap f e in omega (arith, h))
]
  where
    last : (n i : ℕ) → i < suc n → (i < n) ⊎ (i ≡ n)
    last n i l = elim (eq-zero-or-pos (n - i)) [ inl z ↦ inr (omega (arith, l, z)) | inr p ↦ inl (omega (arith, p)) ]

pub some_total : (n : ℕ) (f : ℕ → ℕ) → 0 < total n f → (i : ℕ) × (i < n) × (0 < f i)
some_total zero f l = absurd (omega (arith, l))
some_total (suc n) f l = elim (eq-zero-or-pos (f n)) [
  | inl z ↦ (let r = some_total n f (omega (arith, l, z)) in (r.0, omega (arith, r.1), r.2))
  | inr p ↦ (n, omega arith, p)
]

pub total_less : (m n : ℕ) (f : ℕ → ℕ) → m ≤ n → total m f ≤ total n f
total_less m zero f l = (let e : m ≡ 0 = omega (arith, l) in let h : total m f ≡ 0 = ap (λ z. total z f) e in omega (arith, h))
total_less m (suc n) f l = elim (eq-zero-or-pos (suc n - m)) [
  | inl z ↦ (let e : m ≡ suc n = omega (arith, l, z) in let h : total m f ≡ total (suc n) f = ap (λ z. total z f) e in omega (arith, h))
  | inr p ↦ (let h : total m f ≤ total n f = total_less m n f (omega (arith, p)) in omega (arith, h))
]

pub some_placings : (n k : ℕ) → 0 < placings n k
some_placings n zero = omega arith
some_placings zero (suc k) = omega arith
some_placings (suc n) (suc k) = let a : suc n * placings n k ≡ (n + 1) * placings n k = (let e : suc n ≡ n + 1 = omega arith in ap (λ x. x * placings n k) e) in omega (arith, some_placings n k, a, add-mul n 1 (placings n k), one-mul (placings n k))

product_some : (a b : ℕ) → 0 < a → 0 < b → 0 < a * b
product_some a b l m = let h : 1 * b ≤ a * b = mul-le-mul_right b l in omega (arith, h, one-mul b, m)

share_some : (n k : ℕ) → 0 < share n k
share_some n zero = omega arith
share_some zero (suc k) = omega arith
share_some (suc n) (suc k) = some_placings n k

rest_some : (n k : ℕ) → k ≤ n - 1 → 0 < rest n k
rest_some n zero l = omega arith
rest_some n (suc k) l = product_some (share n (suc k)) (n - suc k) (share_some n (suc k)) (omega (arith, l))

choice_some : (b : Bool) (x y : ℕ) → 0 < x → 0 < y → 0 < (if b then x else y)
choice_some true x y l m = l
choice_some false x y l m = m

pub weight_some : (w : WaysValue) (c : ℕ) → IsSound w → 0 < weight_of_way w c
weight_some w c h =
    let x : ℕ = if nat_lt c w.opened then share (length w.writes) w.opened else rest (length w.writes) w.opened in
    choice_some w.seen x (size_of_ways w) (choice_some (nat_lt c w.opened) (share (length w.writes) w.opened) (rest (length w.writes) w.opened) (share_some (length w.writes) w.opened) (rest_some (length w.writes) w.opened h)) (some_placings (length w.writes) w.opened)

pub weights_some : (ws : List (WaysValue)) (j : ℕ) → AreSound ws → 0 < weight_by count_of_ways weight_of_way ws j
weights_some [] j h = omega arith
weights_some (w ∷ ws) j h = product_some (weight_of_way w (j % count_of_ways w)) (weight_by count_of_ways weight_of_way ws (j / count_of_ways w)) (weight_some w (j % count_of_ways w) h.0) (weights_some ws (j / count_of_ways w) h.1)

-- The weights add up to the size: so there are no more picks than numbers.
pub weights_add : (ws : List (WaysValue)) (vs : List (ℕ → EventId)) → AllSpread size_of_ways count_of_ways weight_of_way way ws vs → total (product_by count_of_ways ws) (weight_by count_of_ways weight_of_way ws) ≡ product_by size_of_ways ws
weights_add ws vs h =
    let n : ℕ = product_by size_of_ways ws in
    let r : ℕ = product_by count_of_ways ws in
    let W : ℕ → ℕ = weight_by count_of_ways weight_of_way ws in
    sym (total_same r (λ j. W j * 1) W (λ j l. mul-one (W j))) ∙ sym (all_spread size_of_ways count_of_ways weight_of_way way ws vs (λ _. 1) h) ∙ total_const n 1 ∙ mul-one n

at_least : (n : ℕ) (f : ℕ → ℕ) → ((i : ℕ) → 0 < f i) → n ≤ total n f
at_least zero f h = omega arith
at_least (suc n) f h = omega (arith, at_least n f h, h n)

pub few_picks : (ws : List (WaysValue)) (vs : List (ℕ → EventId)) → AreSound ws → AllSpread size_of_ways count_of_ways weight_of_way way ws vs → product_by count_of_ways ws ≤ product_by size_of_ways ws
few_picks ws vs s h =
    let W : ℕ → ℕ = weight_by count_of_ways weight_of_way ws in
    let a : product_by count_of_ways ws ≤ total (product_by count_of_ways ws) W = at_least (product_by count_of_ways ws) W (λ j. weights_some ws j s) in
    omega (arith, a, weights_add ws vs h)

pub count_some : (w : WaysValue) → 0 < count_of_ways w
count_some w = choice_some w.seen (suc w.opened) 1 (omega arith) (omega arith)

-- a digit of a number below so many, and the rest of it
pub next_below : (w : WaysValue) (ws : List (WaysValue)) (j : ℕ) → ((j / count_of_ways w < product_by count_of_ways ws) → j < product_by count_of_ways (w ∷ ws)) × (j < product_by count_of_ways (w ∷ ws) → j / count_of_ways w < product_by count_of_ways ws)
next_below w ws j =
    let n : ℕ = count_of_ways w in
    let p : ℕ = product_by count_of_ways ws in
    let some : 0 < n = count_some w in
    let turned : n * p ≡ p * n = mul_comm n p in
    ((λ l. (let h : j < p * n = (div-lt_iff_lt-mul some).0 l in omega (arith, h, turned))), (λ l. (div-lt_iff_lt-mul some).1 (omega (arith, l, turned))))
