-- Final states that are found so many times, one after another.
use Rattle.std.proofs.Common.{◌≡◌, ℕ, zero, suc, ◌+◌, ◌*◌, ◌<◌, ◌≤◌, ◌^◌, List, [], ◌∷◌, ◌++◌, Bool, true, false, cond, refl, sym, ◌∙◌, ap, subst, arith}
use Rattle.std.specs.Prelude.{Option, Some, None, MatchOption}
use Rattle.std.proofs.Math.Nat.{mul-zero, mul-one}
use Rattle.listings.specs.Lists.{product_by}
use Rattle.slices.specs.Alike.{AreFew, followed, of_states, weight_at}
use Rattle.slices.specs.Findings.{FindingValue}
use Rattle.slices.specs.Sums.{IsSum, IsUnion, of_state, state_has}
use Rattle.slices.specs.Totals.{total}
use Rattle.slices.specs.Ways.{WaysValue, count_of_ways, size_of_ways}
use Rattle.slices.proofs.Picked.{total_less}
use Rattle.slices.proofs.Unions.{union_none, union_union}

-- what is chosen by a number, and what is not
pub chosen_some : (found : Option ℕ) (k n i w : ℕ) → found ≡ Some k → MatchOption found (n ≤ i) (λ j. (i < n) × (j ≡ w)) → (i < n) × (k ≡ w)
chosen_some found k n i w e h = let P : Option ℕ → Type 0 = λ o. MatchOption o (n ≤ i) (λ j. (i < n) × (j ≡ w)) in subst P e h

pub chosen_none : (found : Option ℕ) (n i w : ℕ) → ((k : ℕ) → found ≡ Some k → ⊥) → MatchOption found (n ≤ i) (λ j. (i < n) × (j ≡ w)) → n ≤ i
chosen_none None n i w none h = h
chosen_none (Some k) n i w none h = absurd (none k refl)

some_or_none : (b : Bool) (w : ℕ) → (cond b w 0 ≡ w * cond b 1 0) × (cond b 0 w ≡ w * cond b 0 1)
some_or_none true w = (sym (mul-one w), sym (mul-zero w))
some_or_none false w = (sym (mul-zero w), sym (mul-one w))

both_are : (b : Bool) (w : ℕ) → w * cond b 1 0 + w * cond b 0 1 ≡ w
both_are true w = let a = mul-one w in let z = mul-zero w in omega (arith, a, z)
both_are false w = let a = mul-one w in let z = mul-zero w in omega (arith, a, z)

pub states_none : (v : FindingValue) (weight : ℕ → ℕ) (rows : ℕ → List ℕ) → IsSum v (of_states v weight rows 0 []) v
states_none v weight rows = record {
  same = refl;
  positive = (let e : v.positive ≡ v.positive + 0 = omega arith in e);
  negative = (let e : v.negative ≡ v.negative + 0 = omega arith in e);
  states = union_none v.states;
  flags = union_none v.flags;
}

-- one more final state
pub states_more : (v old new : FindingValue) (weight : ℕ → ℕ) (rows : ℕ → List ℕ) (m times : ℕ) (row : List ℕ) → IsSum v (of_states v weight rows m []) old → IsSum old (of_state old row times []) new → times ≡ weight m → row ≡ rows m → IsSum v (of_states v weight rows (m + 1) []) new
states_more v old new weight rows m times row h is w r =
    let next : suc m ≡ m + 1 = omega arith in
    let b : Bool = state_has v (rows m) in
    let P : ℕ → Type 0 = λ k. IsSum v (of_states v weight rows k []) new in
    let U : List (List ℕ) → Type 0 = λ ks. IsUnion v.states ks new.states in
    let has : state_has old row ≡ b = ap (λ u. state_has u row) h.same ∙ ap (state_has v) r in
    let p1 : new.positive ≡ old.positive + cond b (weight m) 0 = is.positive ∙ ap (λ c. old.positive + cond c times 0) has ∙ ap (λ x. old.positive + cond b x 0) w in
    let n1 : new.negative ≡ old.negative + cond b 0 (weight m) = is.negative ∙ ap (λ c. old.negative + cond c 0 times) has ∙ ap (λ x. old.negative + cond b 0 x) w in
    let o = some_or_none b (weight m) in
    let o1 = o.0 in
    let o2 = o.1 in
    let F : ℕ → ℕ = λ j. weight j * cond (state_has v (rows j)) 1 0 in
    let G : ℕ → ℕ = λ j. weight j * cond (state_has v (rows j)) 0 1 in
    let hp : old.positive ≡ v.positive + total m F = h.positive in
    let hn : old.negative ≡ v.negative + total m G = h.negative in
    subst P next (record {
      same = is.same ∙ h.same;
      positive = (let e : new.positive ≡ v.positive + (total m F + F m) = omega (arith, p1, o1, hp) in e);
      negative = (let e : new.negative ≡ v.negative + (total m G + G m) = omega (arith, n1, o2, hn) in e);
      states = subst U (ap (λ x. followed [] rows m ++ x ∷ []) r) (union_union h.states is.states);
      flags = union_union h.flags is.flags;
    })

sums_both : (v : FindingValue) (weight : ℕ → ℕ) (rows : ℕ → List ℕ) (m : ℕ) → total m (λ j. weight j * cond (state_has v (rows j)) 1 0) + total m (λ j. weight j * cond (state_has v (rows j)) 0 1) ≡ total m weight
sums_both v weight rows zero = omega arith
sums_both v weight rows (suc m) = let h = sums_both v weight rows m in let b = both_are (state_has v (rows m)) (weight m) in omega (arith, h, b)

states_sum : (v new : FindingValue) (weight : ℕ → ℕ) (rows : ℕ → List ℕ) (m : ℕ) (flags : List (List ℕ)) → IsSum v (of_states v weight rows m flags) new → new.positive + new.negative ≡ v.positive + v.negative + total m weight
states_sum v new weight rows m flags h =
    let F : ℕ → ℕ = λ j. weight j * cond (state_has v (rows j)) 1 0 in
    let G : ℕ → ℕ = λ j. weight j * cond (state_has v (rows j)) 0 1 in
    let p : new.positive ≡ v.positive + total m F = h.positive in
    let n : new.negative ≡ v.negative + total m G = h.negative in
    let b : total m F + total m G ≡ total m weight = sums_both v weight rows m in
    omega (arith, p, n, b)

pub states_few : (v now : FindingValue) (rows : ℕ → List ℕ) (ways : List WaysValue) (m times : ℕ) → AreFew ways → v.positive + v.negative + product_by size_of_ways ways < 2 ^ 64 → IsSum v (of_states v (weight_at ways) rows m []) now → m < product_by count_of_ways ways → times ≡ weight_at ways m → now.positive + now.negative + times < 2 ^ 64
states_few v now rows ways m times few l h u e =
    let s = states_sum v now (weight_at ways) rows m [] h in
    let o : total (suc m) (weight_at ways) ≤ total (product_by count_of_ways ways) (weight_at ways) = total_less (suc m) (product_by count_of_ways ways) (weight_at ways) (omega (arith, u)) in
    let a = few.all in
    omega (arith, s, o, a, l, e)

-- all that the ways are is counted
pub states_all : (v new : FindingValue) (rows : ℕ → List ℕ) (ways : List WaysValue) (flags : List (List ℕ)) → AreFew ways → IsSum v (of_states v (weight_at ways) rows (product_by count_of_ways ways) flags) new → new.positive + new.negative ≡ v.positive + v.negative + product_by size_of_ways ways
states_all v new rows ways flags few h =
    let s = states_sum v new (weight_at ways) rows (product_by count_of_ways ways) flags h in
    let a = few.all in
    omega (arith, s, a)
