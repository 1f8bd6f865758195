-- Numbers of one stretch whose candidates differ in their orders alone.
use Rattle.std.proofs.Common.{◌≡◌, ℕ, ◌+◌, ◌*◌, ◌/◌, ◌%◌, ◌<◌, ◌≤◌, List, length, Bool, true, false, Option, Some, None, if◌then◌else◌, refl, sym, ◌∙◌, ap, subst, inl, inr, arith}
use Rattle.std.proofs.Math.Nat.{mul_assoc, mul_comm, mul-zero, eq-zero-or-pos, div-add-mod, mod-lt, mul-le-mul_right, add-mul, mul-add}
use Rattle.std.proofs.lemmas.Nat.{div-mul-add, mod-mul-add}
use Rattle.events.specs.Executions.{GraphValue, ThreadRun}
use Rattle.candidates.specs.declared.depths.Known.TheVariants.{Orders}
use Rattle.candidates.specs.declared.open_orders.OpenOrders.{OpenOrders}
use Rattle.candidates.specs.declared.page.Stretch.{Stretch}
use Rattle.candidates.specs.Alike.{IsOpen, AreAlike}
use Rattle.candidates.specs.Candidates.{Choices, candidate_at, graph_at, is_consistent, count_orders, order_at, count_co, rf_at}
use Rattle.candidates.specs.Executions.{upto}
use Rattle.candidates.specs.Readings.{IsStretch}
use Rattle.candidates.proofs.Cutting.{ways_divide}
use Rattle.candidates.proofs.Sizes.{all_open, some_orders}
use Rattle.candidates.proofs.Spanning.{none_some, rest_within, size_divides}
use Rattle.listings.specs.Numbered.{digits}

-- a place that is a multiple of a part of the orders, and the places behind it up to the next one
record Split (place d w : ℕ) : Type 0 where
  times : ℕ
  quotient : ℕ
  is : (t : ℕ) → t < d → ((place + t) / (d * w) ≡ quotient) × ((place + t) % (d * w) ≡ d * times + t)

below_next : (d r w t : ℕ) → r < w → t < d → d * r + t < d * w
below_next d r w t l u =
    let m : (r + 1) * d ≤ w * d = mul-le-mul_right d (let e : r + 1 ≤ w = omega (arith, l) in e) in
    let a : (r + 1) * d ≡ r * d + 1 * d = add-mul r 1 d in
    let b : d * r ≡ r * d = mul_comm d r in
    let c : d * w ≡ w * d = mul_comm d w in
    omega (arith, m, a, b, c, u)

splits : (place d w : ℕ) → 1 ≤ d → 1 ≤ w → place % d ≡ 0 → Split place d w
splits place d w l m e =
    let z : ℕ = place / d in
    let whole : d * z + place % d ≡ place = div-add-mod place d in
    let parts : w * (z / w) + z % w ≡ z = div-add-mod z w in
    let low : z % w < w = mod-lt z m in
    let is : place ≡ (z / w) * (d * w) + d * (z % w) =
    (let a : place ≡ d * z = omega (arith, whole, e) in
    let b : d * z ≡ d * (w * (z / w)) + d * (z % w) = ap (λ x. d * x) (sym parts) ∙ mul-add d (w * (z / w)) (z % w) in
    let c : d * (w * (z / w)) ≡ (z / w) * (d * w) = sym (mul_assoc d w (z / w)) ∙ mul_comm (d * w) (z / w) in
    omega (arith, a, b, c)) in
    record {
      times = z % w;
      quotient = z / w;
      is = λ t u.
          let v : d * (z % w) + t < d * w = below_next d (z % w) w t low u in
          let there : place + t ≡ (z / w) * (d * w) + (d * (z % w) + t) = omega (arith, is) in
          (ap (λ x. x / (d * w)) there ∙ div-mul-add (z / w) (d * w) (d * (z % w) + t) v, ap (λ x. x % (d * w)) there ∙ mod-mul-add (z / w) (d * w) (d * (z % w) + t) v);
    }

holds_there : (b : Bool) (x y : GraphValue) → (if b then Some x else None) ≡ Some y → b ≡ true
holds_there true x y e = refl
holds_there false x y e = absurd (none_some y e)

positive_factor : (a b c : ℕ) → c ≡ a * b → 1 ≤ c → 1 ≤ b
positive_factor a b c e l = elim (eq-zero-or-pos b) [
  | inl z ↦ absurd (let f : a * b ≡ 0 = ap (λ x. a * x) z ∙ mul-zero a in omega (arith, e, f, l))
  | inr p ↦ p
]

-- From a number at which an execution stands, that is the first of a block of orders, all are executions with its runs and sources.
pub alike : (s : Choices) (b : Stretch) → IsStretch s b → (o : OpenOrders) → IsOpen (length s.init) b.page.runs.items o → (place a : ℕ) → place < b.size → place % o.size ≡ 0 → a ≡ b.first + place → (x : GraphValue) → graph_at s a ≡ Some x → AreAlike s a o
alike s b h o opens place a l first is x at =
    let init : List ℕ = s.init in
    let n : ℕ = length init in
    let runs : List ThreadRun = b.page.runs.items in
    let c : ℕ = count_co n runs in
    let w = ways_divide runs o.unplaced.locations o.unplaced.writes (upto n) in
    let e : c ≡ o.size * w.0 = w.1 ∙ ap (λ z. z * w.0) (sym opens.size) in
    let some : 1 ≤ c = (let P : ℕ → Type 0 = λ z. 1 ≤ z in subst P (all_open n runs) (some_orders n runs n 0)) in
    let split = splits place o.size w.0 opens.some (positive_factor o.size w.0 c e some) first in
    let q : ℕ = split.quotient in
    let d = size_divides n runs (Orders o.unplaced) in
    let whole : b.size ≡ o.size * d.0 = h.size ∙ d.1 ∙ ap (λ z. z * d.0) (sym opens.size) in
    let inside = rest_within place o.size d.0 b.size whole l in
    let X : ℕ → ℕ → GraphValue = λ i j. record { init = init; runs = runs; rf = rf_at runs i; co = digits (count_orders runs) (order_at runs) (upto n) j } in
    let G : GraphValue → Option GraphValue = λ y. if is_consistent y then Some y else None in
    let stands : (t : ℕ) → t < o.size → (candidate_at s (a + t) ≡ X q (o.size * split.times + t)) = λ t u. (
    let there : a + t ≡ b.first + (place + t) = omega (arith, is) in
    let r = split.is t u in
    let high : (place + t) / c ≡ q = ap (λ z. (place + t) / z) e ∙ r.0 in
    let low : (place + t) % c ≡ o.size * split.times + t = ap (λ z. (place + t) % z) e ∙ r.1 in
    ap (λ m. candidate_at s m) there ∙ h.at (place + t) (omega (arith, inside.1, first, u)) ∙ ap (λ i. X i ((place + t) % c)) high ∙ ap (λ j. X q j) low) in
    let zero : a + 0 ≡ a = omega arith in
    let here : is_consistent (X q (o.size * split.times + 0)) ≡ true =
    (let P : GraphValue → Type 0 = λ y. is_consistent y ≡ true in
    let N : ℕ → Type 0 = λ m. is_consistent (candidate_at s m) ≡ true in
    subst P (stands 0 (omega (arith, opens.some))) (subst N (sym zero) (holds_there (is_consistent (candidate_at s a)) (candidate_at s a) x at))) in
    record {
      runs = runs;
      rf = rf_at runs q;
      times = split.times;
      opens = opens;
      at = λ t u. ap G (stands t u) ∙ ap (λ k. if k then Some (X q (o.size * split.times + t)) else None) here;
    }

-- All orders are open, and there are some.
pub whole_open : (n orders : ℕ) (runs : List ThreadRun) → orders ≡ count_co n runs → IsOpen n runs (record { unplaced = record { locations = n; writes = 0 }; size = orders })
whole_open n orders runs e = record {
  size = e ∙ sym (all_open n runs);
  some = (let P : ℕ → Type 0 = λ z. 1 ≤ z in subst P (all_open n runs ∙ sym e) (some_orders n runs n 0));
  fits = λ l. absurd (omega (arith, l));
}
