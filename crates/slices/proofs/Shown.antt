-- The writes that may stand last, as the orders of an execution show them.
use Rattle.std.proofs.Common.{◌≡◌, ◌==◌, ℕ, zero, suc, ◌+◌, ◌-◌, ◌*◌, ◌/◌, ◌%◌, ◌<◌, List, [], ◌∷◌, ◌++◌, length, drop, if◌then◌else◌, Bool, refl, sym, ◌∙◌, ap, arith}
use Rattle.std.proofs.Math.Nat.{zero-mod, zero-div}
use Rattle.std.proofs.lemmas.Bool.{lt-ltb, le-ltb, eq-eqb, ne_eqb}
use Rattle.listings.specs.Lists.{factorial}
use Rattle.listings.specs.Numbered.{arrange}
use Rattle.candidates.specs.Blocks.{open_among, placings}
use Rattle.events.specs.declared.event.EventId.{EventId}
use Rattle.events.specs.declared.event.EventId.TheVariants.{Initial}
use Rattle.slices.specs.Ways.{WaysValue, openable, shown_way, shown_ways, size_of_ways}
use Rattle.slices.proofs.Spread.{length_arranged}
use Rattle.slices.proofs.Digits.{by_digits}
use Rattle.slices.proofs.Opened.{orders_of, fixed_ways, fixed_values, opened_ways, opened_values}

-- the locations from x on, so many
abbrev pub from_on : (x count : ℕ) → List ℕ
from_on x zero = []
from_on x (suc count) = x ∷ from_on (suc x) count

abbrev pub order_by : (ℕ → EventId) → (ℕ → List EventId) → ℕ → ℕ → List EventId
order_by first later x r = first x ∷ arrange (later x) r

no_openable : (n : ℕ) → openable n 0 ≡ 0
no_openable zero = refl
no_openable (suc n) = ap (λ b. if b then 0 else suc n - 1) (lt-ltb 0 (suc n) (omega arith))

behind_free : (free k x n : ℕ) → free < x → open_among free k x n ≡ 0
behind_free free k x n l = ap (λ b. if b then n else (if x == free then k else 0)) (le-ltb x free (omega (arith, l))) ∙ ap (λ b. if b then k else 0) (ne_eqb x free (λ e. omega (arith, l, e)))

at_free : (free k x n : ℕ) → free ≡ x → open_among free k x n ≡ k
at_free free k x n e = ap (λ b. if b then n else (if x == free then k else 0)) (le-ltb x free (omega (arith, e))) ∙ ap (λ b. if b then k else 0) (eq-eqb x free (sym e))

before_free : (free k x n : ℕ) → x < free → open_among free k x n ≡ n
before_free free k x n l = ap (λ b. if b then n else (if x == free then k else 0)) (lt-ltb x free l)

one_shown : (first : ℕ → EventId) (later : ℕ → List EventId) (seen : ℕ → Bool) (free k x r opened : ℕ) → open_among free k x (length (later x)) ≡ opened → shown_way first seen free k x (order_by first later x r) ≡ (let w : WaysValue = record { initial = first x; writes = arrange (later x) r; opened = openable (length (later x)) opened; seen = seen x } in w)
one_shown first later seen free k x r opened e =
    let zs : List EventId = arrange (later x) r in
    let W : ℕ → WaysValue = λ o. record { initial = first x; writes = zs; opened = o; seen = seen x } in
    ap (λ n. W (openable n (open_among free k x n))) (length_arranged (later x) r) ∙ ap (λ o. W (openable (length (later x)) o)) e

shown_fixed : (first : ℕ → EventId) (later : ℕ → List EventId) (seen : ℕ → Bool) (free k x count i : ℕ) → free < x →
    shown_ways first seen free k x (by_digits size_of_ways (fixed_ways first later seen (from_on x count) i) (fixed_values (order_by first later) later (from_on x count) i) 0) ≡ fixed_ways first later seen (from_on x count) i
shown_fixed first later seen free k x zero i l = refl
shown_fixed first later seen free k x (suc count) i l =
    let r : ℕ = i % orders_of later x in
    let z : r + 0 % 1 ≡ r = omega arith in
    let W : ℕ → ℕ → WaysValue = λ j o. record { initial = first x; writes = arrange (later x) j; opened = o; seen = seen x } in
    let rest : List WaysValue = fixed_ways first later seen (from_on (suc x) count) (i / orders_of later x) in
    let e : shown_way first seen free k x (order_by first later x (r + 0 % 1)) ≡ W r 0 =
    one_shown first later seen free k x (r + 0 % 1) 0 (behind_free free k x (length (later x)) l) ∙ ap (W (r + 0 % 1)) (no_openable (length (later x))) ∙ ap (λ j. W j 0) z in
    ap (λ w. w ∷ shown_ways first seen free k (suc x) (by_digits size_of_ways rest (fixed_values (order_by first later) later (from_on (suc x) count) (i / orders_of later x)) (0 / 1))) e ∙
    ap (λ ws. W r 0 ∷ ws) (shown_fixed first later seen free k (suc x) count (i / orders_of later x) (omega (arith, l)))

zero_mod : (n : ℕ) → 0 % n ≡ 0
zero_mod n = zero-mod n

zero_div : (n : ℕ) → 0 / n ≡ 0
zero_div n = zero-div n

-- The first order of those that are opened shows what is opened.
pub shown_opened : (first : ℕ → EventId) (later : ℕ → List EventId) (seen : ℕ → Bool) (left k x count q : ℕ) →
    shown_ways first seen (x + left) k x (by_digits size_of_ways (opened_ways first later seen left k (from_on x count) q) (opened_values (order_by first later) later left k (from_on x count) q) 0) ≡ opened_ways first later seen left k (from_on x count) q
shown_opened first later seen left k x zero q = refl
shown_opened first later seen zero k x (suc count) q =
    let n : ℕ = length (later x) in
    let f : ℕ = factorial (length (drop k (later x))) in
    let b : ℕ = placings n (openable n k) * (q % f) in
    let s : ℕ = placings (length (arrange (later x) b)) (openable n k) in
    let W : ℕ → WaysValue = λ j. record { initial = first x; writes = arrange (later x) j; opened = openable n k; seen = seen x } in
    let rest : List WaysValue = fixed_ways first later seen (from_on (suc x) count) (q / f) in
    let more : List (ℕ → List EventId) = fixed_values (order_by first later) later (from_on (suc x) count) (q / f) in
    let z : b + 0 % s ≡ b = omega (arith, zero_mod s) in
    let e : shown_way first seen (x + 0) k x (order_by first later x (b + 0 % s)) ≡ W b = one_shown first later seen (x + 0) k x (b + 0 % s) k (at_free (x + 0) k x n (omega arith)) ∙ ap W z in
    ap (λ w. w ∷ shown_ways first seen (x + 0) k (suc x) (by_digits size_of_ways rest more (0 / s))) e ∙
    ap (λ t. W b ∷ shown_ways first seen (x + 0) k (suc x) (by_digits size_of_ways rest more t)) (zero_div s) ∙
    ap (λ ws. W b ∷ ws) (shown_fixed first later seen (x + 0) k (suc x) count (q / f) (omega arith))
shown_opened first later seen (suc left) k x (suc count) q =
    let n : ℕ = length (later x) in
    let b : ℕ = placings n (openable n n) * 0 in
    let s : ℕ = placings (length (arrange (later x) b)) (openable n n) in
    let W : ℕ → WaysValue = λ j. record { initial = first x; writes = arrange (later x) j; opened = openable n n; seen = seen x } in
    let rest : List WaysValue = opened_ways first later seen left k (from_on (suc x) count) q in
    let more : List (ℕ → List EventId) = opened_values (order_by first later) later left k (from_on (suc x) count) q in
    let z : b + 0 % s ≡ b = omega (arith, zero_mod s) in
    let c : x + suc left ≡ suc x + left = omega arith in
    let e : shown_way first seen (x + suc left) k x (order_by first later x (b + 0 % s)) ≡ W b = one_shown first later seen (x + suc left) k x (b + 0 % s) n (before_free (x + suc left) k x n (omega arith)) ∙ ap W z in
    ap (λ w. w ∷ shown_ways first seen (x + suc left) k (suc x) (by_digits size_of_ways rest more (0 / s))) e ∙
    ap (λ t. W b ∷ shown_ways first seen (x + suc left) k (suc x) (by_digits size_of_ways rest more t)) (zero_div s) ∙
    ap (λ fr. W b ∷ shown_ways first seen fr k (suc x) (by_digits size_of_ways rest more 0)) c ∙
    ap (λ ws. W b ∷ ws) (shown_opened first later seen left k (suc x) count q)

-- the ways of one location more
pub way_added : (seen : ℕ → Bool) (b : Bool) (free k x : ℕ) (order : List EventId) (orders : List (List EventId)) (w : WaysValue) → b ≡ seen x → w ≡ shown_way Initial (λ _. b) free k x order → shown_ways Initial seen free k x (order ∷ orders) ≡ (w ∷ []) ++ shown_ways Initial seen free k (x + 1) orders
way_added seen b free k x order orders w is e =
    let next : suc x ≡ x + 1 = omega arith in
    let W : Bool → WaysValue = λ c. shown_way Initial (λ _. c) free k x order in
    ap (λ y. W (seen x) ∷ shown_ways Initial seen free k y orders) next ∙ ap (λ v. v ∷ shown_ways Initial seen free k (x + 1) orders) (sym (e ∙ ap W is))
