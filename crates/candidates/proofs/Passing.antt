-- From the ways of the reads to the candidates that are passed over.
use Rattle.std.proofs.Common.{◌≡◌, ℕ, ◌+◌, ◌*◌, ◌/◌, ◌<◌, ◌≤◌, ◌⊎◌, List, length, sym, ap, ◌∙◌, true, subst, inl, inr, arith}
use Rattle.std.proofs.lemmas.Bool.{cases_lt}
use Rattle.std.proofs.lemmas.Nat.{div_below, div-mul-add, mod_below}
use Rattle.std.proofs.Math.Nat.{mod-add-div', mul-le-mul_right}
use Rattle.events.specs.Executions.{ThreadRun}
use Rattle.candidates.specs.declared.reading.Fit.TheVariants as of_fit
use Rattle.candidates.specs.declared.reading.Hit.{Hit}
use Rattle.candidates.specs.declared.reading.Look.TheVariants as of_look
use Rattle.candidates.specs.Executions.{block, reads, upto}
use Rattle.listings.specs.Lists.{product_by}
use Rattle.candidates.specs.Candidates.{agree, candidate, count_orders, count_co, count_sources, is_consistent}
use Rattle.candidates.specs.Readings.{IsFirst, IsFit, IsKnown, IsLook, IsWhole, read_at}
use Rattle.candidates.proofs.Caps.{product_positive, orders_positive}

below_times : (i n o : ℕ) → 0 < o → i / o < n → i < n * o
below_times i n o p l =
    let m : (i / o + 1) * o ≤ n * o = mul-le-mul_right o (let h : i / o + 1 ≤ n = omega (arith, l) in h) in
    omega (arith, m, mod-add-div' i o, mod_below i o p)

later_div : (i j o : ℕ) → 0 < o → i ≤ j → i / o ≤ j / o
later_div i j o p l = elim (cases_lt (j / o) (i / o)) [
  | inl h ↦ (let m : (j / o + 1) * o ≤ i / o * o = mul-le-mul_right o (let k : j / o + 1 ≤ i / o = omega (arith, h) in k) in
      absurd (omega (arith, m, l, mod-add-div' i o, mod-add-div' j o, mod_below j o p)))
  | inr h ↦ omega (arith, h)
]

pub until_of : (init : List ℕ) (runs : List ThreadRun) (orders number next : ℕ) → orders ≡ count_co (length init) runs → IsFit init runs (reads runs) (number / orders) (of_fit.Until next) → IsLook init runs number (of_look.Until (next * orders))
until_of init runs orders number next is read =
    let o = count_co (length init) runs in
    let s : 1 ≤ o = product_positive (count_orders runs) (orders_positive runs) (upto (length init)) in
    let p : 0 < o = omega (arith, s) in
    let R : ℕ → Type 0 = λ k. IsFit init runs (reads runs) (number / k) (of_fit.Until next) in
    let r = subst R is read in
    let L : ℕ → Type 0 = λ k. IsLook init runs number (of_look.Until (next * k)) in
    subst L (sym is) (
      below_times number next o p r.0,
      mul-le-mul_right o r.1,
      λ m a b. r.2 (m / o) (later_div number m o p a) (div_below m o next p b),
    )

-- A candidate that reads as an execution does is one.
known_of : (init : List ℕ) (runs : List ThreadRun) (i number : ℕ) → number / count_co (length init) runs ≡ i → agree init runs (reads runs) (read_at runs (reads runs) i) ≡ true → is_consistent (candidate init runs number) ≡ true
known_of init runs i number e h =
    let P : ℕ → Type 0 = λ k. agree init runs (reads runs) (read_at runs (reads runs) k) ≡ true in
    subst P (sym e) h

-- The candidate that reads as the known execution does is the first from its own number on.
pub again_of : (init : List ℕ) (runs : List ThreadRun) (orders number : ℕ) (h : Hit) → orders ≡ count_co (length init) runs → h.at / orders ≡ number / orders → number < block (length init) runs → IsKnown init runs h → IsFirst init runs number (record { at = number; until = h.until })
again_of init runs orders number h is e inside k =
    let o = count_co (length init) runs in
    let f : number / o ≡ h.at / o = ap (λ q. number / q) (sym is) ∙ sym e ∙ ap (λ q. h.at / q) is in
    record {
      order = omega arith;
      none = λ m a b. absurd (omega (arith, a, b));
      known = record {
        within = inside;
        holds = known_of init runs (h.at / o) number f k.holds;
        most = k.most;
        behind = λ m a b. k.behind m (omega (arith, a, f)) b;
      };
    }

-- From a number on whose reads come behind a known execution's, and before the next that may fit, no candidate is an execution.
pub behind_of : (init : List ℕ) (runs : List ThreadRun) (orders number : ℕ) (h : Hit) → orders ≡ count_co (length init) runs → h.at / orders < number / orders → number < h.until → IsKnown init runs h → IsLook init runs number (of_look.Until h.until)
behind_of init runs orders number h is later inside k =
    let o = count_co (length init) runs in
    let s : 1 ≤ o = product_positive (count_orders runs) (orders_positive runs) (upto (length init)) in
    let P : ℕ → Type 0 = λ q. h.at / q < number / q in
    let far : h.at / o < number / o = subst P is later in
    (inside, k.most, λ m a b. k.behind m (omega (arith, far, later_div number m o (omega (arith, s)) a)) b)

-- From the first number by which the reads fit to the first execution.
pub first_of : (init : List ℕ) (runs : List ThreadRun) (orders number at : ℕ) (h : Hit) → orders ≡ count_co (length init) runs → IsWhole init runs (reads runs) (number / orders) h → number ≤ at → h.at * orders ≤ at → (at ≡ number ⊎ at ≡ h.at * orders) → IsFirst init runs number (record { at = at; until = h.until * orders })
first_of init runs orders number at h is whole low high one =
    let o = count_co (length init) runs in
    let s : 1 ≤ o = product_positive (count_orders runs) (orders_positive runs) (upto (length init)) in
    let p : 0 < o = omega (arith, s) in
    let R : ℕ → Type 0 = λ q. IsWhole init runs (reads runs) (number / q) h × (h.at * q ≤ at) × (at ≡ number ⊎ at ≡ h.at * q) in
    let r = subst R is (whole, high, one) in
    let w = r.0 in
    let exact : (h.at * o + 0) / o ≡ h.at = div-mul-add h.at o 0 p in
    let plain : h.at * o + 0 ≡ h.at * o = omega arith in
    let from : (h.at * o) / o ≡ h.at = ap (λ n. n / o) (sym plain) ∙ exact in
    let reading : at / o ≡ h.at = elim r.2 [
      | inl own ↦ (let up : h.at ≤ at / o = subst (λ n. n ≤ at / o) from (later_div (h.at * o) at o p r.1) in
          let same : at / o ≡ number / o = ap (λ n. n / o) own in
          omega (arith, up, same, w.order))
      | inr start ↦ ap (λ n. n / o) start ∙ from
    ] in
    let L : ℕ → Type 0 = λ q. IsFirst init runs number (record { at = at; until = h.until * q }) in
    subst L (sym is) (record {
      order = low;
      none = λ m a b. elim r.2 [
        | inl own ↦ absurd (omega (arith, own, a, b))
        | inr start ↦ w.none (m / o) (later_div number m o p a) (div_below m o h.at p (omega (arith, b, start)))
      ];
      known = record {
        within = below_times at (product_by (count_sources runs) (reads runs)) o p (omega (arith, reading, w.within));
        holds = known_of init runs h.at at reading w.fits;
        most = mul-le-mul_right o w.most;
        behind = λ m a b. w.behind (m / o) (omega (arith, a, reading)) (div_below m o h.until p b);
      };
    })
