-- The first number, from a given one on, by which each read has the value of what it reads from.
use Rattle.std.proofs.Common.{◌≡◌, ℕ, ◌+◌, ◌-◌, ◌*◌, ◌<◌, ◌≤◌, ◌/◌, ◌%◌, ◌⊎◌, List, [], length, get_or, drop, refl, sym, ◌∙◌, ap, subst, inl, inr, arith, Bool, true, false, cond, nat_lt, ◌==◌, ltb-true, ltb-false}
use Rattle.std.proofs.lemmas.Bool.{cases_lt, eq-eqb}
use Rattle.std.proofs.lemmas.List.{drop_all}
use Rattle.std.proofs.lemmas.Nat.{div-mul-add, mod_below}
use Rattle.std.proofs.Math.Nat.{mod-add-div', mul-le-mul_right}
use Rattle.events.specs.declared.event.Event.{Event}
use Rattle.events.specs.Executions.{ThreadRun}
use Rattle.listings.specs.Lists.{product_by}
use Rattle.candidates.specs.Candidates.{count_sources, source_at, write_value, agree}
use Rattle.candidates.specs.Readings.{IsFit, IsWhole, Misses, read_at}
use Rattle.candidates.specs.declared.reading.Fit.TheVariants as of_fit
use Rattle.candidates.proofs.Sources.{agree_next, divided, some_ways, split, ways_from, IsSplit}

-- By each number from `number` to before `start + rest` a read has another value, and by each behind the block of `below` from `start` on and before `other`. The reads
-- before place i have theirs by all numbers of the block.
pub record Stands (init : List ℕ) (runs : List ThreadRun) (rs : List Event) (number i start rest below other : ℕ) : Type 0 where
  pub left : below ≡ ways_from runs rs i
  pub small : rest < below
  pub far : start + below ≤ other
  pub most : other ≤ ways_from runs rs 0
  pub order : number ≤ start + rest
  pub same : (j : ℕ) → j < below → agree init runs rs (read_at runs rs (start + j)) ≡ agree init runs (drop i rs) (read_at runs (drop i rs) j)
  pub none : (m : ℕ) → number ≤ m → m < start + rest → agree init runs rs (read_at runs rs m) ≡ false
  pub behind : (m : ℕ) → start + below ≤ m → m < other → agree init runs rs (read_at runs rs m) ≡ false

div_up : (a b q : ℕ) → 1 ≤ q → a ≤ b → a / q ≤ b / q
div_up a b q s l =
    let z : 0 < q = omega (arith, s) in
    elim (cases_lt (b / q) (a / q)) [
      | inl less ↦ (let up : (b / q + 1) * q ≤ a / q * q = mul-le-mul_right q (let g : b / q + 1 ≤ a / q = omega (arith, less) in g) in
          absurd (omega (arith, l, up, mod-add-div' a q, mod-add-div' b q, mod_below b q z)))
      | inr le ↦ le
    ]

-- by no number of the blocks of sources without the read's value the reads fit
missed : (init : List ℕ) (runs : List ThreadRun) (rs : List Event) (number i start rest below other c f j : ℕ) (r : Event) → i < length rs → r ≡ get_or rs i r
    → f ≤ count_sources runs r → Misses init runs r c f → c ≤ j / ways_from runs rs (i + 1) → j < f * ways_from runs rs (i + 1)
    → Stands init runs rs number i start rest below other
    → agree init runs rs (read_at runs rs (start + j)) ≡ false
missed init runs rs number i start rest below other c f j r l e few misses from inside h =
    let n = count_sources runs r in
    let q = ways_from runs rs (i + 1) in
    let w : below ≡ n * q = (divided runs rs i below n r l e h.left refl).1 in
    let t : IsSplit j f q = split j f q (some_ways runs rs (i + 1)) inside in
    let d = j / q in
    let k = j % q in
    let whole : d * q + k ≡ j = t.whole in
    let no = misses d from t.digit in
    let fits : d * q + k < n * q = omega (arith, whole, inside, mul-le-mul_right q few) in
    ap (λ x. agree init runs rs (read_at runs rs (start + x))) (sym whole)
    ∙ h.same (d * q + k) (omega (arith, w, fits))
    ∙ agree_next init runs rs i d k r l e t.small ∙ rw no refl

-- by no number before the block of the source that fits the reads fit
passed : (init : List ℕ) (runs : List ThreadRun) (rs : List Event) (number i start rest below other f : ℕ) (r : Event) → i < length rs → r ≡ get_or rs i r
    → f ≤ count_sources runs r → Misses init runs r (rest / ways_from runs rs (i + 1)) f
    → Stands init runs rs number i start rest below other
    → (m : ℕ) → number ≤ m → m < start + f * ways_from runs rs (i + 1) → agree init runs rs (read_at runs rs m) ≡ false
passed init runs rs number i start rest below other f r l e few misses h m a b = elim (cases_lt m (start + rest)) [
  | inl early ↦ h.none m a early
  | inr late ↦ (let q = ways_from runs rs (i + 1) in
      let at : m ≡ start + (m - start) = omega (arith, late) in
      ap (λ x. agree init runs rs (read_at runs rs x)) at
      ∙ missed init runs rs number i start rest below other (rest / q) f (m - start) r l e few misses (div_up rest (m - start) q (some_ways runs rs (i + 1)) (omega (arith, late))) (omega (arith, late, b)) h)
]

pub stands_until : (init : List ℕ) (runs : List ThreadRun) (rs : List Event) (number i start rest below other f : ℕ) (r : Event) → i < length rs → r ≡ get_or rs i r
    → f ≡ count_sources runs r → Misses init runs r (rest / ways_from runs rs (i + 1)) f
    → Stands init runs rs number i start rest below other
    → IsFit init runs rs number (of_fit.Until other)
stands_until init runs rs number i start rest below other f r l e all misses h =
    let n = count_sources runs r in
    let q = ways_from runs rs (i + 1) in
    let w : below ≡ n * q = (divided runs rs i below n r l e h.left refl).1 in
    let v : f * q ≡ below = ap (λ x. x * q) all ∙ sym w in (
      omega (arith, h.order, h.small, h.far),
      omega (arith, h.most),
      λ m a b. elim (cases_lt m (start + below)) [
        | inl in_block ↦ passed init runs rs number i start rest below other f r l e (omega (arith, all)) misses h m a (omega (arith, in_block, v))
        | inr behind ↦ h.behind m behind b
      ],
    )

-- behind the block of the source that fits, and before that of the next one
between : (init : List ℕ) (runs : List ThreadRun) (rs : List Event) (number i start rest below other f g : ℕ) (r : Event) → i < length rs → r ≡ get_or rs i r
    → g ≤ count_sources runs r → Misses init runs r (f + 1) g
    → Stands init runs rs number i start rest below other
    → (m : ℕ) → start + f * ways_from runs rs (i + 1) + ways_from runs rs (i + 1) ≤ m → m < start + g * ways_from runs rs (i + 1) → agree init runs rs (read_at runs rs m) ≡ false
between init runs rs number i start rest below other f g r l e few misses h m a b =
    let q = ways_from runs rs (i + 1) in
    let s : 1 ≤ q = some_ways runs rs (i + 1) in
    let z : 0 < q = omega (arith, s) in
    let at : m ≡ start + (m - start) = omega (arith, a) in
    let up : (f + 1) * q ≤ m - start = (let d : (f + 1) * q ≡ f * q + q = omega arith in omega (arith, a, d)) in
    let exact : ((f + 1) * q + 0) / q ≡ f + 1 = div-mul-add (f + 1) q 0 z in
    let more : (f + 1) * q + 0 ≤ m - start = omega (arith, up) in
    let from : f + 1 ≤ (m - start) / q = subst (λ x. x ≤ (m - start) / q) exact (div_up ((f + 1) * q + 0) (m - start) q s more) in
    ap (λ x. agree init runs rs (read_at runs rs x)) at
    ∙ missed init runs rs number i start rest below other (f + 1) g (m - start) r l e few misses from (omega (arith, a, b)) h

on_rest : (b : Bool) (d f rest k q : ℕ) → nat_lt d f ≡ b → d ≤ f → d * q + k ≡ rest → k < q → (cond b 0 k < q) × (rest ≤ f * q + cond b 0 k) × (f * q + cond b 0 k ≤ rest ⊎ cond b 0 k ≡ 0)
on_rest true d f rest k q e le whole small = (omega (arith, small), omega (arith, whole, small, mul-le-mul_right q (let more : d + 1 ≤ f = omega (arith, ltb-true d f e) in more)), inr refl)
on_rest false d f rest k q e le whole small =
    let same : d ≡ f = omega (arith, ltb-false d f e, le) in
    let put : f * q ≡ d * q = ap (λ x. x * q) (sym same) in
    (small, omega (arith, whole, put), inl (omega (arith, whole, put)))

-- where the next source that fits begins
record IsOther (init : List ℕ) (runs : List ThreadRun) (rs : List Event) (from to : ℕ) : Type 0 where
  pub far : from ≤ to
  pub most : to ≤ ways_from runs rs 0
  pub behind : (m : ℕ) → from ≤ m → m < to → agree init runs rs (read_at runs rs m) ≡ false

other_choice : (b : Bool) (init : List ℕ) (runs : List ThreadRun) (rs : List Event) (number i start rest below other f g : ℕ) (r : Event) → i < length rs → r ≡ get_or rs i r
    → nat_lt g (count_sources runs r) ≡ b → f < g → g ≤ count_sources runs r → Misses init runs r (f + 1) g
    → Stands init runs rs number i start rest below other
    → IsOther init runs rs (start + f * ways_from runs rs (i + 1) + ways_from runs rs (i + 1)) (cond b (start + g * ways_from runs rs (i + 1)) other)
other_choice true init runs rs number i start rest below other f g r l e t up few misses h =
    let n = count_sources runs r in
    let q = ways_from runs rs (i + 1) in
    let w : below ≡ n * q = (divided runs rs i below n r l e h.left refl).1 in
    let low : (f + 1) * q ≤ g * q = mul-le-mul_right q (let k : f + 1 ≤ g = omega (arith, up) in k) in
    let high : g * q ≤ n * q = mul-le-mul_right q few in
    record {
      far = omega (arith, low);
      most = omega (arith, high, w, h.far, h.most);
      behind = between init runs rs number i start rest below other f g r l e few misses h;
    }
other_choice false init runs rs number i start rest below other f g r l e t up few misses h =
    let n = count_sources runs r in
    let q = ways_from runs rs (i + 1) in
    let w : below ≡ n * q = (divided runs rs i below n r l e h.left refl).1 in
    let all : g ≡ n = omega (arith, few, ltb-false g n t) in
    let v : g * q ≡ below = ap (λ x. x * q) all ∙ sym w in
    let low : (f + 1) * q ≤ g * q = mul-le-mul_right q (let k : f + 1 ≤ g = omega (arith, up) in k) in
    record {
      far = omega (arith, low, v, h.far);
      most = h.most;
      behind = λ m a b. elim (cases_lt m (start + below)) [
        | inl in_block ↦ between init runs rs number i start rest below other f g r l e few misses h m a (omega (arith, in_block, v))
        | inr later ↦ h.behind m later b
      ];
    }

pub stands_on : (init : List ℕ) (runs : List ThreadRun) (rs : List Event) (number i start rest below other f g p : ℕ) (r : Event) → i < length rs → r ≡ get_or rs i r
    → p ≡ ways_from runs rs (i + 1) → f < count_sources runs r → rest / p ≤ f → Misses init runs r (rest / p) f
    → write_value init runs (source_at runs r f) ≡ r.value
    → f < g → g ≤ count_sources runs r → Misses init runs r (f + 1) g
    → Stands init runs rs number i start rest below other
    → Stands init runs rs number (i + 1) (start + f * p) (cond (nat_lt (rest / p) f) 0 (rest % p)) p (cond (nat_lt g (count_sources runs r)) (start + g * p) other)
stands_on init runs rs number i start rest below other f g p r l e is few from misses fits up within later h =
    let n = count_sources runs r in
    let q = ways_from runs rs (i + 1) in
    let P : ℕ → Type 0 = λ x. Stands init runs rs number (i + 1) (start + f * x) (cond (nat_lt (rest / x) f) 0 (rest % x)) x (cond (nat_lt g n) (start + g * x) other) in
    let w : below ≡ n * q = (divided runs rs i below n r l e h.left refl).1 in
    let s : 1 ≤ q = some_ways runs rs (i + 1) in
    let from_q : rest / q ≤ f = subst (λ x. rest / x ≤ f) is from in
    let misses_q : Misses init runs r (rest / q) f = subst (λ x. Misses init runs r (rest / x) f) is misses in
    let t : IsSplit rest n q = split rest n q s (omega (arith, h.small, w)) in
    let b = on_rest (nat_lt (rest / q) f) (rest / q) f rest (rest % q) q refl from_q t.whole t.small in
    let yes : (write_value init runs (source_at runs r f) == r.value) ≡ true = eq-eqb _ _ fits in
    let more : f * q + q ≤ n * q = (let k : (f + 1) * q ≤ n * q = mul-le-mul_right q (let g : f + 1 ≤ n = omega (arith, few) in g) in omega (arith, k)) in
    let pass = passed init runs rs number i start rest below other f r l e (omega (arith, few)) misses_q h in
    let o = other_choice (nat_lt g n) init runs rs number i start rest below other f g r l e refl up within later h in
    subst P (sym is) (record {
      left = refl;
      small = b.0;
      far = o.far;
      most = o.most;
      order = omega (arith, h.order, b.1);
      same = λ j c. (
          ap (λ x. agree init runs rs (read_at runs rs x)) (let at : start + f * q + j ≡ start + (f * q + j) = omega arith in at)
          ∙ h.same (f * q + j) (omega (arith, c, w, more))
          ∙ agree_next init runs rs i f j r l e c ∙ rw yes refl);
      none = λ m a c. elim b.2 [
        | inl short ↦ h.none m a (omega (arith, c, short))
        | inr zero_rest ↦ pass m a (omega (arith, c, zero_rest))
      ];
      behind = o.behind;
    })

-- Before the first read, from the first number on.
pub stands_begin : (init : List ℕ) (runs : List ThreadRun) (rs : List Event) (ways : ℕ) → ways ≡ ways_from runs rs 0 → Stands init runs rs 0 0 0 0 ways ways
stands_begin init runs rs ways e = record {
  left = e;
  small = omega (arith, e, some_ways runs rs 0);
  far = omega arith;
  most = omega (arith, e);
  order = omega arith;
  same = λ j l. ap (λ m. agree init runs rs (read_at runs rs m)) (let plain : 0 + j ≡ j = omega arith in plain);
  none = λ m a b. absurd (omega (arith, b));
  behind = λ m a b. absurd (omega (arith, a, b));
}

-- the same where no number is left
no_rest : (b : Bool) (k : ℕ) → k ≡ 0 → cond b 0 k ≡ 0
no_rest true k e = refl
no_rest false k e = e

pub stands_first : (init : List ℕ) (runs : List ThreadRun) (rs : List Event) (number i start below other f g p : ℕ) (r : Event) → i < length rs → r ≡ get_or rs i r
    → p ≡ ways_from runs rs (i + 1) → f < count_sources runs r → Misses init runs r 0 f
    → write_value init runs (source_at runs r f) ≡ r.value
    → f < g → g ≤ count_sources runs r → Misses init runs r (f + 1) g
    → Stands init runs rs number i start 0 below other
    → Stands init runs rs number (i + 1) (start + f * p) 0 p (cond (nat_lt g (count_sources runs r)) (start + g * p) other)
stands_first init runs rs number i start below other f g p r l e is few misses fits up within later h =
    let s : 1 ≤ ways_from runs rs (i + 1) = some_ways runs rs (i + 1) in
    let t : IsSplit 0 1 p = split 0 1 p (omega (arith, is, s)) (omega (arith, is, s)) in
    let P : ℕ → Type 0 = λ x. Stands init runs rs number (i + 1) (start + f * p) x p (cond (nat_lt g (count_sources runs r)) (start + g * p) other) in
    subst P (no_rest (nat_lt (0 / p) f) (0 % p) (omega (arith, t.whole)))
    (stands_on init runs rs number i start 0 below other f g p r l e is few (omega (arith, t.digit)) (λ d a b. misses d (omega arith) b) fits up within later h)

-- What the read at place i needs to choose its source.
pub can_fit : (init : List ℕ) (runs : List ThreadRun) (rs : List Event) (number i start rest below other : ℕ) (r : Event) → i < length rs → r ≡ get_or rs i r → Stands init runs rs number i start rest below other
    → (below / count_sources runs r ≡ ways_from runs rs (i + 1)) × (1 ≤ ways_from runs rs (i + 1)) × (rest / ways_from runs rs (i + 1) < count_sources runs r) × (below ≡ count_sources runs r * ways_from runs rs (i + 1))
can_fit init runs rs number i start rest below other r l e h =
    let n = count_sources runs r in
    let q = ways_from runs rs (i + 1) in
    let f = divided runs rs i below n r l e h.left refl in
    let s : 1 ≤ q = some_ways runs rs (i + 1) in
    (f.0, s, (split rest n q s (omega (arith, h.small, f.1))).digit, f.1)

-- Behind the last read the number is found by which all fit.
pub stands_end : (init : List ℕ) (runs : List ThreadRun) (rs : List Event) (number i start rest below other : ℕ) → i ≡ length rs → Stands init runs rs number i start rest below other → IsWhole init runs rs number (record { at = start + rest; until = other })
stands_end init runs rs number i start rest below other all h =
    let none_left : drop i rs ≡ [] = drop_all i rs (omega (arith, all)) in
    let one : below ≡ 1 = h.left ∙ ap (product_by (count_sources runs)) none_left in
    let S : List Event → Type 0 = λ es. agree init runs rs (read_at runs rs (start + rest)) ≡ agree init runs es (read_at runs es rest) in
    record {
      order = h.order;
      within = omega (arith, h.far, h.small, h.most);
      fits = subst S none_left (h.same rest h.small);
      none = h.none;
      most = h.most;
      behind = λ m a b. h.behind m (omega (arith, a, one)) b;
    }
