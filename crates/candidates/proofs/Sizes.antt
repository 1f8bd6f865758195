-- How many numbers the blocks of a depth have.
use Rattle.std.proofs.Common.{◌≡◌, ℕ, zero, suc, ◌+◌, ◌-◌, ◌*◌, ◌/◌, ◌<◌, ◌≤◌, List, [], ◌∷◌, ◌++◌, length, drop, get_or, Bool, true, false, if◌then◌else◌, refl, sym, ◌∙◌, ap, subst, arith}
use Rattle.std.specs.List.{All}
use Rattle.std.proofs.lemmas.List.Elements.{All-nil, All-cons, All-append}
use Rattle.std.proofs.Math.Nat.{mul_assoc, mul_comm, mul-one, mul-div_cancel}
use Rattle.events.specs.declared.event.Event.{Event}
use Rattle.events.specs.Executions.{ThreadRun}
use Rattle.listings.specs.Lists.{product_by, factorial}
use Rattle.std.proofs.Math.ListN.{drop_of_length-le}
use Rattle.candidates.specs.declared.depths.Depth.{Depth}
use Rattle.candidates.specs.declared.depths.Known.TheVariants.{Sources, Orders}
use Rattle.candidates.specs.Executions.{reads, later_writes, upto}
use Rattle.candidates.specs.Candidates.{count_sources, count_orders, count_co}
use Rattle.candidates.specs.Blocks.{placings, ways_of_orders, IsDepth}
use Rattle.candidates.proofs.Caps.{product_drop, product_positive, orders_positive, sources_positive, length_tabulate, get_or_tabulate, below_upto, factor_le}
use Rattle.candidates.proofs.Cutting.{ways_divide}

-- one write more has no place
placings_more : (n k : ℕ) → k < n → placings n (suc k) ≡ placings n k * (n - k)
placings_more zero k l = absurd (omega (arith, l))
placings_more (suc n) zero l = let e : suc n - 0 ≡ suc n = omega arith in mul_comm (suc n) 1 ∙ ap (λ z. 1 * z) (sym e)
placings_more (suc n) (suc k) l =
    let e : suc n - suc k ≡ n - k = omega arith in
    ap (λ z. suc n * z) (placings_more n k (omega (arith, l))) ∙ sym (mul_assoc (suc n) (placings n k) (n - k)) ∙ ap (λ z. (suc n * placings n k) * z) (sym e)

placings_all : (n : ℕ) → placings n n ≡ factorial n
placings_all zero = refl
placings_all (suc n) = ap (λ z. suc n * z) (placings_all n)

-- the last write's place among none
placings_last : (n : ℕ) → placings n (n - 1) ≡ factorial n
placings_last zero = refl
placings_last (suc n) =
    let e : suc n - 1 ≡ n = omega arith in
    let one : suc n - n ≡ 1 = omega arith in
    ap (λ k. placings (suc n) k) e ∙ sym (mul-one (placings (suc n) n)) ∙ ap (λ z. placings (suc n) n * z) (sym one) ∙ sym (placings_more (suc n) n (omega arith)) ∙ placings_all (suc n)

ways_more : (runs : List ThreadRun) (free k : ℕ) (xs : List ℕ) → free < length xs → k < length (later_writes runs (get_or xs free 0)) →
    ways_of_orders runs free (suc k) xs ≡ ways_of_orders runs free k xs * (length (later_writes runs (get_or xs free 0)) - k)
ways_more runs free k [] l m = absurd (omega (arith, l))
ways_more runs zero k (x ∷ xs) l m = placings_more (length (later_writes runs x)) k m
ways_more runs (suc free) k (x ∷ xs) l m =
    ap (λ z. count_orders runs x * z) (ways_more runs free k xs (omega (arith, l)) m) ∙ sym (mul_assoc (count_orders runs x) (ways_of_orders runs free k xs) (length (later_writes runs (get_or xs free 0)) - k))

pub ways_none : (runs : List ThreadRun) (xs : List ℕ) → ways_of_orders runs 0 0 xs ≡ 1
ways_none runs [] = refl
ways_none runs (x ∷ xs) = refl

ways_next : (runs : List ThreadRun) (free : ℕ) (xs : List ℕ) → free < length xs → ways_of_orders runs (suc free) 0 xs ≡ ways_of_orders runs free (length (later_writes runs (get_or xs free 0)) - 1) xs
ways_next runs free [] l = absurd (omega (arith, l))
ways_next runs zero (x ∷ xs) l = ap (λ z. count_orders runs x * z) (ways_none runs xs) ∙ mul-one (count_orders runs x) ∙ sym (placings_last (length (later_writes runs x)))
ways_next runs (suc free) (x ∷ xs) l = ap (λ z. count_orders runs x * z) (ways_next runs free xs (omega (arith, l)))

ways_all : (runs : List ThreadRun) (xs : List ℕ) → ways_of_orders runs (length xs) 0 xs ≡ product_by (count_orders runs) xs
ways_all runs [] = refl
ways_all runs (x ∷ xs) = ap (λ z. count_orders runs x * z) (ways_all runs xs)

-- With all locations open the orders are all.
pub all_open : (n : ℕ) (runs : List ThreadRun) → ways_of_orders runs n 0 (upto n) ≡ count_co n runs
all_open n runs = ap (λ k. ways_of_orders runs k 0 (upto n)) (sym (length_tabulate n (λ i. i))) ∙ ways_all runs (upto n)

-- With the last location of the open ones all but its last write are.
pub next_open : (n : ℕ) (runs : List ThreadRun) (x orders : ℕ) → x < n → orders ≡ ways_of_orders runs (x + 1) 0 (upto n) → orders ≡ ways_of_orders runs x (length (later_writes runs x) - 1) (upto n)
next_open n runs x orders l e =
    let f : x + 1 ≡ suc x = omega arith in
    let at : get_or (upto n) x 0 ≡ x = get_or_tabulate n (λ k. k) x 0 l in
    e ∙ ap (λ k. ways_of_orders runs k 0 (upto n)) f ∙ ways_next runs x (upto n) (below_upto x n l) ∙ ap (λ y. ways_of_orders runs x (length (later_writes runs y) - 1) (upto n)) at

-- One write more is placed.
pub one_placed : (n : ℕ) (runs : List ThreadRun) (x k size by : ℕ) → x < n → k < length (later_writes runs x) → size ≡ ways_of_orders runs x (k + 1) (upto n) → by ≡ length (later_writes runs x) - k → size / by ≡ ways_of_orders runs x k (upto n)
one_placed n runs x k size by l m e is =
    let at : get_or (upto n) x 0 ≡ x = get_or_tabulate n (λ k. k) x 0 l in
    let f : k + 1 ≡ suc k = omega arith in
    let P : ℕ → Type 0 = λ y. k < length (later_writes runs y) in
    let w : ℕ = ways_of_orders runs x k (upto n) in
    let more : size ≡ w * by =
    e ∙ ap (λ j. ways_of_orders runs x j (upto n)) f ∙ ways_more runs x k (upto n) (below_upto x n l) (subst P (sym at) m)
    ∙ ap (λ y. w * (length (later_writes runs y) - k)) at ∙ ap (λ z. w * z) (sym is) in
    ap (λ z. z / by) more ∙ mul-div_cancel w (omega (arith, is, m))

factor_positive : (a b c : ℕ) → c ≡ a * b → 1 ≤ c → 1 ≤ a
factor_positive zero b c e l = absurd (let f : 0 * b ≡ 0 = omega arith in omega (arith, e, l, f))
factor_positive (suc a) b c e l = omega arith

pub some_orders : (n : ℕ) (runs : List ThreadRun) (x k : ℕ) → 1 ≤ ways_of_orders runs x k (upto n)
some_orders n runs x k =
    let w = ways_divide runs x k (upto n) in
    factor_positive (ways_of_orders runs x k (upto n)) w.0 (product_by (count_orders runs) (upto n)) w.1 (product_positive (count_orders runs) (orders_positive runs) (upto n))

-- One read's source more is known.
pub one_known : (n : ℕ) (runs : List ThreadRun) (rs : List Event) (i size by : ℕ) (r : Event) → i < length rs → r ≡ get_or rs i r → by ≡ count_sources runs r → size ≡ count_co n runs * product_by (count_sources runs) (drop i rs) →
    size / by ≡ count_co n runs * product_by (count_sources runs) (drop (i + 1) rs)
one_known n runs rs i size by r l is e f =
    let c : ℕ = count_co n runs in
    let p : ℕ = product_by (count_sources runs) (drop (i + 1) rs) in
    let same : by ≡ count_sources runs (get_or rs i r) = e ∙ ap (count_sources runs) is in
    let one : 1 ≤ count_sources runs r = sources_positive runs r in
    let whole : size ≡ (c * p) * by =
    f ∙ ap (λ z. c * z) (product_drop (count_sources runs) rs i r l ∙ ap (λ z. z * p) (sym same) ∙ mul_comm by p) ∙ sym (mul_assoc c p by) in
    ap (λ z. z / by) whole ∙ mul-div_cancel (c * p) (omega (arith, e, one))

pub some_numbers : (n : ℕ) (runs : List ThreadRun) (rs : List Event) → 1 ≤ count_co n runs * product_by (count_sources runs) rs
some_numbers n runs rs =
    let a : 1 ≤ count_co n runs = product_positive (count_orders runs) (orders_positive runs) (upto n) in
    let b : count_co n runs ≤ count_co n runs * product_by (count_sources runs) rs = factor_le (count_co n runs) (product_by (count_sources runs) rs) (product_positive (count_sources runs) (sources_positive runs) rs) in
    omega (arith, a, b)

one_at_end : (P : Depth → Type 0) (xs : List Depth) (d : Depth) → All P xs → P d → All P (xs ++ d ∷ [])
one_at_end P xs d h p = All-append P xs (d ∷ []) h (All-cons P d [] p (All-nil P))

-- A depth more that is as it should be.
pub one_depth : (n : ℕ) (runs : List ThreadRun) (old new : List Depth) (d : Depth) (b : Bool) → new ≡ (if b then old ++ d ∷ [] else old) → IsDepth n runs d → All (IsDepth n runs) old → All (IsDepth n runs) new
one_depth n runs old new d true e p h = let P : List Depth → Type 0 = All (IsDepth n runs) in subst P (sym e) (one_at_end (IsDepth n runs) old d h p)
one_depth n runs old new d false e p h = let P : List Depth → Type 0 = All (IsDepth n runs) in subst P (sym e) h

-- The first reads' sources are known.
pub reading_depth : (n : ℕ) (runs : List ThreadRun) (rs : List Event) (i size : ℕ) → rs ≡ reads runs → size ≡ count_co n runs * product_by (count_sources runs) (drop i rs) → IsDepth n runs (record { size = size; known = Sources i })
reading_depth n runs rs i size e f =
    let P : ℕ → Type 0 = λ z. 1 ≤ z in
    record {
      size = f ∙ ap (λ es. count_co n runs * product_by (count_sources runs) (drop i es)) e;
      some = subst P (sym f) (some_numbers n runs (drop i rs));
      fits = tt;
    }

pub all_read : (n : ℕ) (runs : List ThreadRun) (rs : List Event) (i size : ℕ) → length rs ≤ i → size ≡ count_co n runs * product_by (count_sources runs) (drop i rs) → size ≡ count_co n runs * product_by (count_sources runs) (drop (length rs) rs)
all_read n runs rs i size l f =
    f ∙ ap (λ es. count_co n runs * product_by (count_sources runs) es) (drop_of_length-le rs l ∙ sym (drop_of_length-le rs (let m : length rs ≤ length rs = omega arith in m)))

-- All sources are known, and the orders but for the first k writes of the location x.
pub placing_depth : (n : ℕ) (runs : List ThreadRun) (x k size : ℕ) → x < n → k ≤ length (later_writes runs x) → size ≡ ways_of_orders runs x k (upto n) → IsDepth n runs (record { size = size; known = Orders (record { locations = x; writes = k }) })
placing_depth n runs x k size l m f =
    let P : ℕ → Type 0 = λ z. 1 ≤ z in
    record {
      size = f;
      some = subst P (sym f) (some_orders n runs x k);
      fits = (l, m);
    }
