-- The reads from a place on.
use Rattle.std.proofs.Common.{◌≡◌, ℕ, zero, suc, ◌+◌, ◌*◌, ◌<◌, ◌≤◌, ◌/◌, ◌%◌, List, [], ◌∷◌, ◌++◌, length, get_or, take, drop, sym, refl, ◌∙◌, ap, arith}
use Rattle.std.proofs.lemmas.List.{drop_all}
use Rattle.std.proofs.lemmas.Nat.{mod_below}
use Rattle.std.proofs.Math.Nat.{div-add-mod, mod-eq_of_lt, mul-add-mod_self_left, mul-zero, mul_assoc, mul_comm}
use Rattle.events.specs.declared.event.Event.{Event}
use Rattle.events.specs.declared.event.EventId.{EventId}
use Rattle.events.specs.Executions.{ThreadRun}
use Rattle.listings.specs.Lists.{product_by}
use Rattle.candidates.specs.Candidates.{count_sources, source_at}
use Rattle.candidates.specs.Readings.{read_at}
use Rattle.candidates.proofs.Caps.{factor_le, product_drop}
use Rattle.candidates.proofs.Cutting.{same_sources, sources_split}
use Rattle.candidates.proofs.Sources.{IsSet, some_ways, ways_from}

rest_below : (n p w more : ℕ) → p ≡ w * more → (n % p) % w ≡ n % w
rest_below n p w more e =
    let whole : p * (n / p) ≡ w * (more * (n / p)) = ap (λ z. z * (n / p)) e ∙ mul_assoc w more (n / p) in
    sym (mul-add-mod_self_left w (more * (n / p)) (n % p)) ∙ ap (λ z. (z + n % p) % w) (sym whole) ∙ ap (λ z. z % w) (div-add-mod n p)

-- What the first reads read from by a number, and the others by the rest of it.
read_split : (runs : List ThreadRun) (rs : List Event) (i n : ℕ) → n < product_by (count_sources runs) rs → take i (read_at runs rs n) ++ read_at runs (drop i rs) (n % ways_from runs rs i) ≡ read_at runs rs n
read_split runs rs zero n l = ap (read_at runs rs) (mod-eq_of_lt l)
read_split runs [] (suc i) n l = refl
read_split runs (r ∷ rs) (suc i) n l =
    let p = product_by (count_sources runs) rs in
    let w = ways_from runs rs i in
    let d = sources_split runs rs i in
    let small : n % p < p = mod_below n p (omega (arith, some_ways runs rs 0)) in
    let W : List EventId → List EventId = λ ws. source_at runs r (n / p) ∷ ws in
    ap (λ m. W (take i (read_at runs rs (n % p)) ++ read_at runs (drop i rs) m)) (sym (rest_below n p w d.0 d.1)) ∙ ap W (read_split runs rs i (n % p) small)

-- The sources of the reads before place i are written down.
pub set_from : (runs : List ThreadRun) (rs : List Event) (number i : ℕ) (rf : List EventId) (below : ℕ) → number < ways_from runs rs 0 → below ≡ ways_from runs rs i → length rf ≡ length rs → take i rf ≡ take i (read_at runs rs number) → IsSet runs rs number i rf (number % below) below
set_from runs rs number i rf below l e len same = record {
  left = e;
  small = mod_below number below (omega (arith, e, some_ways runs rs i));
  len = len;
  is = ap (λ (ws : List EventId). ws ++ read_at runs (drop i rs) (number % below)) same
      ∙ ap (λ m. take i (read_at runs rs number) ++ read_at runs (drop i rs) (number % m)) e
      ∙ read_split runs rs i number l;
}

-- The reads from one place further ahead on can read in so many ways, and in no more than all.
pub one_ahead : (runs : List ThreadRun) (rs : List Event) (i from ways n : ℕ) (r : Event) → i + 1 ≡ from → i < length rs → r ≡ get_or rs i r → ways ≡ ways_from runs rs from → n ≡ count_sources runs r → (ways * n ≡ ways_from runs rs i) × (ways_from runs rs i ≤ ways_from runs rs 0)
one_ahead runs rs i from ways n r next l is e c =
    let p = ways_from runs rs (i + 1) in
    let w : ways_from runs rs i ≡ count_sources runs r * p = product_drop (count_sources runs) rs i r l ∙ ap (λ (x : Event). count_sources runs x * p) (sym is) in
    let s = sources_split runs rs i in
    let whole : ways_from runs rs 0 ≡ ways_from runs rs i * s.0 = s.1 in
    let some : 1 ≤ s.0 = at_least_one s.0 (ways_from runs rs i) (ways_from runs rs 0) whole (some_ways runs rs 0) in (
      ap (λ z. z * n) (e ∙ ap (ways_from runs rs) (sym next)) ∙ mul_comm p n ∙ ap (λ z. z * p) c ∙ sym w,
      omega (arith, factor_le (ways_from runs rs i) s.0 some, whole),
    )
  where
    at_least_one : (m a b : ℕ) → b ≡ a * m → 1 ≤ b → 1 ≤ m
    at_least_one zero a b e l = absurd (omega (arith, e, mul-zero a, l))
    at_least_one (suc m) a b e l = omega arith

-- Behind the last read there is one way.
pub none_ahead : (runs : List ThreadRun) (rs : List Event) (from : ℕ) → from ≡ length rs → 1 ≡ ways_from runs rs from
none_ahead runs rs from e = sym (ap (product_by (count_sources runs)) (drop_all from rs (omega (arith, e))))

-- The first reads read the same by numbers with the same leading digits.
pub same_before : (runs : List ThreadRun) (rs : List Event) (from ways i j : ℕ) → ways ≡ ways_from runs rs from → i / ways ≡ j / ways → take from (read_at runs rs i) ≡ take from (read_at runs rs j)
same_before runs rs from ways i j e q = same_sources runs rs from i j (ap (λ w. i / w) (sym e) ∙ q ∙ ap (λ w. j / w) e)
