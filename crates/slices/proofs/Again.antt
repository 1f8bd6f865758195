-- Final states that are found again, or for the first time.
use Rattle.std.proofs.Common.{◌≡◌, ℕ, ◌^◌, ◌≤◌, List, [], ◌∷◌, length, Bool, refl, sym, ap, ◌∙◌, subst, inl, inr}
use Rattle.std.specs.Prelude.{Some}
use Rattle.listings.specs.Lists.{IsIn}
use Rattle.slices.specs.Counts.{with_count}
use Rattle.slices.specs.Findings.{FindingValue}
use Rattle.slices.specs.Gathered.{IsKept}
use Rattle.slices.specs.Numbers.{HasNumber}
use Rattle.slices.specs.Recents.{AreKnown, IsKnown}
use Rattle.slices.specs.Sums.{IsSum, IsUnion, of_state, state_has}
use Rattle.slices.specs.declared.gathering.Gathering.{Gathering}
use Rattle.slices.specs.declared.recent.Recent.{Recent}
use Rattle.slices.proofs.Numbered.{same_number}
use Rattle.slices.proofs.Unions.{union_none}

union_in : (xs : List (List ℕ)) (k : List ℕ) → IsIn k xs → IsUnion xs (k ∷ []) xs
union_in xs k p = record {
  members = λ s. (
    (λ q. inl q),
    (λ h. elim h [
      | inl q ↦ q
      | inr q ↦ elim q [ inl e ↦ (let P : List ℕ → Type 0 = λ y. IsIn y xs in subst P (sym e) p) | inr n ↦ absurd n ]
    ]),
  );
  sorted = λ h. h;
}

-- a state more, or one that is there
pub found_now : (v new : FindingValue) (keys : List (List ℕ)) (row : List ℕ) (has : Bool) (times : ℕ) → IsUnion v.states (row ∷ []) keys → has ≡ state_has v row → new ≡ with_count (record v { states = keys }) has times → IsSum v (of_state v row times []) new
found_now v new keys row has times u is e =
    let S : FindingValue → Type 0 = λ w. IsSum v (of_state v row times []) w in
    subst S (sym (e ∙ ap (λ b. with_count (record v { states = keys }) b times) is))
    (record { same = refl; positive = refl; negative = refl; states = u; flags = union_none v.flags })

pub found_again : (v new : FindingValue) (row : List ℕ) (has : Bool) (times : ℕ) → IsIn row v.states → has ≡ state_has v row → new ≡ with_count v has times → IsSum v (of_state v row times []) new
found_again v new row has times p is e = found_now v new v.states row has times (union_in v.states row p) is e

-- what is known stays known

as_wide : (v w sum : FindingValue) → IsSum v w sum → length sum.places ≡ length v.places
as_wide v w sum h = ap (λ (u : FindingValue). length u.places) h.same

has_still : (v w sum : FindingValue) (row : List ℕ) → IsSum v w sum → state_has sum row ≡ state_has v row
has_still v w sum row h = ap (λ u. state_has u row) h.same

pub known_still : (v w sum : FindingValue) (base : ℕ) (r : Recent) → IsSum v w sum → AreKnown v base r → AreKnown sum base r
known_still v w sum base r h known k p row long digits e =
    let is = known k p row (long ∙ as_wide v w sum h) digits e in
    ((h.states.members row).1 (inl is.0), is.1 ∙ sym (has_still v w sum row h))

pub room_still : (v w sum : FindingValue) (base : ℕ) → IsSum v w sum → base ^ length v.places ≤ 2 ^ 63 → base ^ length sum.places ≤ 2 ^ 63
room_still v w sum base h room = subst (λ n. base ^ n ≤ 2 ^ 63) (sym (as_wide v w sum h)) room

-- so is what was found now
pub known_now : (v sum : FindingValue) (base n times : ℕ) (row : List ℕ) (has : Bool) → IsSum v (of_state v row times []) sum → length v.places ≡ length row → HasNumber base row (Some n) → has ≡ state_has v row → IsKnown sum base (record { number = n; has = has })
known_now v sum base n times row has h whole number is other long digits e =
    let same : other ≡ row = same_number base other row digits number.0 (long ∙ as_wide v (of_state v row times []) sum h ∙ whole) (e ∙ number.1) in (
      subst (λ s. IsIn s sum.states) (sym same) ((h.states.members row).1 (inr (inl refl))),
      is ∙ sym (has_still v (of_state v row times []) sum row h) ∙ ap (state_has sum) (sym same),
    )

-- what is gathered goes on

pub kept_as : (g h : Gathering) → IsKept g → h.finding ≡ g.finding → h.recent ≡ g.recent → h.state.base ≡ g.state.base → IsKept h
kept_as g h kept f r b = record {
  known = subst (λ n. AreKnown h.finding n h.recent) (sym b) (subst (λ k. AreKnown h.finding g.state.base k) (sym r) (subst (λ v. AreKnown v g.state.base g.recent) (sym f) kept.known));
  room = subst (λ n. n ^ length h.finding.places ≤ 2 ^ 63) (sym b) (subst (λ (v : FindingValue). g.state.base ^ length v.places ≤ 2 ^ 63) (sym f) kept.room);
}

pub kept_on : (g h : Gathering) (w : FindingValue) → IsKept g → IsSum g.finding w h.finding → h.recent ≡ g.recent → h.state.base ≡ g.state.base → IsKept h
kept_on g h w kept sum r b = record {
  known = subst (λ n. AreKnown h.finding n h.recent) (sym b) (subst (λ k. AreKnown h.finding g.state.base k) (sym r) (known_still g.finding w h.finding g.state.base g.recent sum kept.known));
  room = subst (λ n. n ^ length h.finding.places ≤ 2 ^ 63) (sym b) (room_still g.finding w h.finding g.state.base sum kept.room);
}
