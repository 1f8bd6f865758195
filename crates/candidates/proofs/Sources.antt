-- What the reads read from, one read after another.
use Rattle.std.proofs.Common.{◌≡◌, ◌≢◌, ℕ, suc, ◌+◌, ◌-◌, ◌*◌, ◌<◌, ◌≤◌, ◌/◌, ◌%◌, List, [], ◌∷◌, ◌++◌, length, get_or, take, set, drop, drop-cons, add-one, append_assoc, append-nil, refl, sym, ◌∙◌, ap, subst, inl, inr, arith, true, false, ◌==◌, ◌&&◌}
use Rattle.std.proofs.lemmas.List.{drop_all, take_more_set, length-set}
use Rattle.std.proofs.lemmas.Bool.{cases_Bool, eqb-true, eq-eqb}
use Rattle.std.proofs.lemmas.Nat.{mul-add-lt, div-mul-add, mod-mul-add, div_below, mod_below}
use Rattle.std.proofs.Math.Nat.{mod-add-div', mul_comm, mul-le-mul_right}
use Rattle.events.specs.declared.event.Event.{Event}
use Rattle.events.specs.declared.event.EventId.{EventId}
use Rattle.events.specs.Executions.{ThreadRun}
use Rattle.listings.specs.Lists.{product_by}
use Rattle.candidates.specs.Candidates.{count_sources, source_at, write_value, agree}
use Rattle.candidates.specs.Readings.{read_at}
use Rattle.candidates.proofs.Caps.{product_drop, product_positive, sources_positive}

pub different : (a b : ℕ) → a ≢ b → (a == b) ≡ false
different a b ne = elim (cases_Bool (a == b)) [ inl t ↦ absurd (ne (eqb-true a b t)) | inr f ↦ f ]

pub next : (rs : List Event) (i : ℕ) (r : Event) → i < length rs → r ≡ get_or rs i r → drop i rs ≡ r ∷ drop (i + 1) rs
next rs i r l e = rw (add-one, drop-cons rs i r) (ap (λ (x : Event). x ∷ drop (suc i) rs) (sym e))

-- in how many ways the reads from place i on can read
abbrev pub ways_from : List ThreadRun → List Event → ℕ → ℕ
ways_from runs rs i = product_by (count_sources runs) (drop i rs)

pub some_ways : (runs : List ThreadRun) (rs : List Event) (i : ℕ) → 1 ≤ ways_from runs rs i
some_ways runs rs i = product_positive (count_sources runs) (sources_positive runs) (drop i rs)

-- The reads before place i have read from rf, which fits; the number `rest` of `below` is left for the others.
pub record SoFar (init : List ℕ) (runs : List ThreadRun) (rs : List Event) (number i : ℕ) (rf : List EventId) (rest below : ℕ) : Type 0 where
  pub left : below ≡ ways_from runs rs i
  pub small : rest < below
  pub order : rest ≤ number
  pub most : number - rest + below ≤ ways_from runs rs 0
  pub is : rf ++ read_at runs (drop i rs) rest ≡ read_at runs rs number
  pub same : (j : ℕ) → j < below → agree init runs rs (read_at runs rs (number - rest + j)) ≡ agree init runs (drop i rs) (read_at runs (drop i rs) j)

pub at_first : (init : List ℕ) (runs : List ThreadRun) (rs : List Event) (number ways : ℕ) → ways ≡ product_by (count_sources runs) rs → number < ways → SoFar init runs rs number 0 [] number ways
at_first init runs rs number ways e l = record {
  left = e;
  small = l;
  order = omega arith;
  most = omega (arith, e);
  is = refl;
  same = λ j m. ap (λ n. agree init runs rs (read_at runs rs n)) (let h : number - number + j ≡ j = omega arith in h);
}

-- what the read at place i reads from, and those behind it
read_next : (runs : List ThreadRun) (rs : List Event) (i d j : ℕ) (r : Event) → i < length rs → r ≡ get_or rs i r → j < ways_from runs rs (i + 1) → read_at runs (drop i rs) (d * ways_from runs rs (i + 1) + j) ≡ source_at runs r d ∷ read_at runs (drop (i + 1) rs) j
read_next runs rs i d j r l e b =
    let p = ways_from runs rs (i + 1) in
    let q : (d * p + j) / p ≡ d = div-mul-add d p j b in
    let m : (d * p + j) % p ≡ j = mod-mul-add d p j b in
    ap (λ (xs : List Event). read_at runs xs (d * p + j)) (next rs i r l e) ∙ rw (q, m) refl

pub agree_next : (init : List ℕ) (runs : List ThreadRun) (rs : List Event) (i d j : ℕ) (r : Event) → i < length rs → r ≡ get_or rs i r → j < ways_from runs rs (i + 1) → agree init runs (drop i rs) (read_at runs (drop i rs) (d * ways_from runs rs (i + 1) + j)) ≡ ((write_value init runs (source_at runs r d) == r.value) && agree init runs (drop (i + 1) rs) (read_at runs (drop (i + 1) rs) j))
agree_next init runs rs i d j r l e b =
    ap (λ (xs : List Event). agree init runs xs (read_at runs (drop i rs) (d * ways_from runs rs (i + 1) + j))) (next rs i r l e)
    ∙ ap (λ (ws : List EventId). agree init runs (r ∷ drop (i + 1) rs) ws) (read_next runs rs i d j r l e b)

-- how the number that is left splits
pub record IsSplit (rest n p : ℕ) : Type 0 where
  pub whole : rest / p * p + rest % p ≡ rest
  pub digit : rest / p < n
  pub small : rest % p < p
  pub next : rest / p * p + p ≤ n * p

pub split : (rest n p : ℕ) → 1 ≤ p → rest < n * p → IsSplit rest n p
split rest n p s l =
    let z : 0 < p = omega (arith, s) in
    let d : rest / p < n = div_below rest p n z l in
    let m : (rest / p + 1) * p ≤ n * p = mul-le-mul_right p (let h : rest / p + 1 ≤ n = omega (arith, d) in h) in
    record {
      whole = omega (arith, mod-add-div' rest p);
      digit = d;
      small = mod_below rest p z;
      next = omega (arith, m);
    }

-- the ways of the reads behind the one at place i
pub divided : (runs : List ThreadRun) (rs : List Event) (i below n : ℕ) (r : Event) → i < length rs → r ≡ get_or rs i r → below ≡ ways_from runs rs i → n ≡ count_sources runs r → (below / n ≡ ways_from runs rs (i + 1)) × (below ≡ n * ways_from runs rs (i + 1))
divided runs rs i below n r l e b c =
    let p = ways_from runs rs (i + 1) in
    let w : below ≡ n * p = b ∙ product_drop (count_sources runs) rs i r l ∙ ap (λ (x : Event). count_sources runs x * p) (sym e) ∙ ap (λ k. k * p) (sym c) in
    let s : 0 < n = omega (arith, c, sources_positive runs r) in
    let f : below ≡ p * n + 0 = omega (arith, w, mul_comm n p) in
    (ap (λ k. k / n) f ∙ div-mul-add p n 0 s, w)

pub read_on : (init : List ℕ) (runs : List ThreadRun) (rs : List Event) (number i : ℕ) (rf more : List EventId) (rest below k p : ℕ) (r : Event) (w : EventId) → i < length rs → r ≡ get_or rs i r → p ≡ below / count_sources runs r → k ≡ rest % (below / count_sources runs r) → w ≡ source_at runs r (rest / (below / count_sources runs r)) → write_value init runs w ≡ r.value → more ≡ rf ++ w ∷ [] → SoFar init runs rs number i rf rest below → SoFar init runs rs number (i + 1) more k p
read_on init runs rs number i rf more rest below k p r w l e is left src v put h =
    let n = count_sources runs r in
    let q = ways_from runs rs (i + 1) in
    let f = divided runs rs i below n r l e h.left refl in
    let t : IsSplit rest n q = split rest n q (some_ways runs rs (i + 1)) (omega (arith, h.small, f.1)) in
    let d = rest / q in
    let z = rest % q in
    let same_p : q ≡ p = sym (is ∙ f.0) in
    let same_k : z ≡ k = sym (left ∙ ap (λ m. rest % m) f.0) in
    let src_q : w ≡ source_at runs r d = src ∙ ap (λ m. source_at runs r (rest / m)) f.0 in
    let yes : (write_value init runs (source_at runs r d) == r.value) ≡ true = eq-eqb _ _ (ap (write_value init runs) (sym src_q) ∙ v) in
    let S : ℕ → Type 0 = λ m. SoFar init runs rs number (i + 1) more z m in
    let T : ℕ → Type 0 = λ m. SoFar init runs rs number (i + 1) more m p in
    subst T same_k (subst S same_p (record {
      left = refl;
      small = t.small;
      order = omega (arith, h.order, t.whole);
      most = omega (arith, h.most, h.order, t.whole, t.next, f.1);
      is = ap (λ xs. xs ++ read_at runs (drop (i + 1) rs) z) put ∙ append_assoc rf (w ∷ []) (read_at runs (drop (i + 1) rs) z)
          ∙ ap (λ u. rf ++ u ∷ read_at runs (drop (i + 1) rs) z) src_q
          ∙ ap (λ xs. rf ++ xs) (sym (read_next runs rs i d z r l e t.small))
          ∙ ap (λ m. rf ++ read_at runs (drop i rs) m) t.whole ∙ h.is;
      same = λ j b. (let b' : d * q + j < q * n = mul-add-lt d q j n t.digit b in
          let at : number - z + j ≡ number - rest + (d * q + j) = omega (arith, h.order, t.whole) in
          ap (λ m. agree init runs rs (read_at runs rs m)) at
          ∙ h.same (d * q + j) (omega (arith, b', f.1, mul_comm n q))
          ∙ agree_next init runs rs i d j r l e b ∙ rw yes refl);
    }))

-- Behind the last read all have read.
pub read_all : (init : List ℕ) (runs : List ThreadRun) (rs : List Event) (number i : ℕ) (rf : List EventId) (rest below : ℕ) → length rs ≤ i → SoFar init runs rs number i rf rest below → (rf ≡ read_at runs rs number) × (agree init runs rs rf ≡ true)
read_all init runs rs number i rf rest below l h =
    let none : drop i rs ≡ [] = drop_all i rs l in
    let w : rf ≡ read_at runs rs number = sym (append-nil rf) ∙ ap (λ (xs : List Event). rf ++ read_at runs xs rest) (sym none) ∙ h.is in
    let at : number - rest + rest ≡ number = omega (arith, h.order) in
    (w, ap (agree init runs rs) w ∙ ap (λ n. agree init runs rs (read_at runs rs n)) (sym at) ∙ h.same rest h.small ∙ ap (λ (xs : List Event). agree init runs xs (read_at runs xs rest)) none)

-- What the reads before place i read from is written down; the number `rest` of `below` is left for the others.
pub record IsSet (runs : List ThreadRun) (rs : List Event) (number i : ℕ) (rf : List EventId) (rest below : ℕ) : Type 0 where
  pub left : below ≡ ways_from runs rs i
  pub small : rest < below
  pub len : length rf ≡ length rs
  pub is : take i rf ++ read_at runs (drop i rs) rest ≡ read_at runs rs number

-- What the read at place i needs to pick its write.
pub can_set : (runs : List ThreadRun) (rs : List Event) (number i : ℕ) (rf : List EventId) (rest below : ℕ) (r : Event) → i < length rs → r ≡ get_or rs i r → IsSet runs rs number i rf rest below → (1 ≤ below / count_sources runs r) × (rest / (below / count_sources runs r) < count_sources runs r)
can_set runs rs number i rf rest below r l e h =
    let n = count_sources runs r in
    let q = ways_from runs rs (i + 1) in
    let f = divided runs rs i below n r l e h.left refl in
    let t : IsSplit rest n q = split rest n q (some_ways runs rs (i + 1)) (omega (arith, h.small, f.1)) in
    let P : ℕ → Type 0 = λ m. (1 ≤ m) × (rest / m < n) in
    subst P (sym f.0) (some_ways runs rs (i + 1), t.digit)

pub set_on : (runs : List ThreadRun) (rs : List Event) (number i : ℕ) (rf more : List EventId) (rest below k p : ℕ) (r : Event) (w : EventId) → i < length rs → r ≡ get_or rs i r → p ≡ below / count_sources runs r → k ≡ rest % (below / count_sources runs r) → w ≡ source_at runs r (rest / (below / count_sources runs r)) → more ≡ set rf i w → IsSet runs rs number i rf rest below → IsSet runs rs number (i + 1) more k p
set_on runs rs number i rf more rest below k p r w l e is left src put h =
    let n = count_sources runs r in
    let q = ways_from runs rs (i + 1) in
    let f = divided runs rs i below n r l e h.left refl in
    let t : IsSplit rest n q = split rest n q (some_ways runs rs (i + 1)) (omega (arith, h.small, f.1)) in
    let d = rest / q in
    let z = rest % q in
    let same_p : q ≡ p = sym (is ∙ f.0) in
    let same_k : z ≡ k = sym (left ∙ ap (λ m. rest % m) f.0) in
    let src_q : w ≡ source_at runs r d = src ∙ ap (λ m. source_at runs r (rest / m)) f.0 in
    let grown : take (i + 1) more ≡ take i rf ++ w ∷ [] = ap (λ (xs : List EventId). take (i + 1) xs) put ∙ take_more_set rf i w (omega (arith, l, h.len)) in
    let S : ℕ → Type 0 = λ m. IsSet runs rs number (i + 1) more z m in
    let T : ℕ → Type 0 = λ m. IsSet runs rs number (i + 1) more m p in
    subst T same_k (subst S same_p (record {
      left = refl;
      small = t.small;
      len = ap (λ (xs : List EventId). length xs) put ∙ length-set rf i w ∙ h.len;
      is = ap (λ xs. xs ++ read_at runs (drop (i + 1) rs) z) grown ∙ append_assoc (take i rf) (w ∷ []) (read_at runs (drop (i + 1) rs) z)
          ∙ ap (λ u. take i rf ++ u ∷ read_at runs (drop (i + 1) rs) z) src_q
          ∙ ap (λ xs. take i rf ++ xs) (sym (read_next runs rs i d z r l e t.small))
          ∙ ap (λ m. take i rf ++ read_at runs (drop i rs) m) t.whole ∙ h.is;
    }))

-- Each read reads from one write.
pub as_many_read : (runs : List ThreadRun) (rs : List Event) (number : ℕ) → length (read_at runs rs number) ≡ length rs
as_many_read runs [] number = refl
as_many_read runs (r ∷ rs) number = ap (λ n. suc n) (as_many_read runs rs (number % product_by (count_sources runs) rs))
