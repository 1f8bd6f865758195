-- The greatest value is the greatest constant with all that is added.
use Rattle.std.proofs.Common.{◌≢◌, ◌≡◌, ℕ, ◌+◌, ◌≤◌, ◌<◌, List, [], ◌∷◌, ◌++◌, map, length, take, get_or, ap, sym, subst, ◌∙◌, refl, arith, inl, inr, Bool, true, if◌then◌else◌, ◌==◌}
use Rattle.std.specs.Prelude.{fold, max}
use Rattle.std.specs.List.{list_any}
use Rattle.std.proofs.lemmas.Bool.{cases_Bool, or_cases, eqb-true, false≢true}
use Rattle.std.proofs.lemmas.List.Sums.{fold-append, fold_more}
use Rattle.litmus_value.specs.Values.{with_value, with_values, with_sum, with_sums}
use Rattle.litmus_value.proofs.Distinct.{with_longer, longer}
use Rattle.test_places.specs.declared.mark.Role.{Role}
use Rattle.test_places.specs.declared.mark.Role.TheVariants.{Constant, Added}
use Rattle.test_places.specs.Numbers.{with_constant, with_added, greatest}

abbrev pub top : List ℕ → ℕ
top vs = fold max 0 vs

-- how great the constants are, and all that is added

abbrev pub constant_behind : ℕ → Role → ℕ
constant_behind n (Constant k) = max n k
constant_behind n r = n

abbrev pub added_behind : ℕ → Role → ℕ
added_behind n (Added k) = n + k
added_behind n r = n

abbrev pub greatest_constant : List Role → ℕ
greatest_constant rs = fold constant_behind 1 rs

abbrev pub added : List Role → ℕ
added rs = fold added_behind 0 rs

-- the greatest of a list, from a number on

fold_max : (m : ℕ) (vs : List ℕ) → fold max m vs ≡ max m (top vs)
fold_max m [] = omega arith
fold_max m (v ∷ vs) = omega (arith, fold_max (max m v) vs, fold_max (max 0 v) vs)

top_append : (us vs : List ℕ) → top (us ++ vs) ≡ max (top us) (top vs)
top_append us vs = fold-append max 0 us vs ∙ fold_max (top us) vs

held : (vs : List ℕ) (v : ℕ) → list_any (λ w. w == v) vs ≡ true → v ≤ top vs
held [] v h = absurd (false≢true h)
held (w ∷ vs) v h = elim (or_cases (w == v) (list_any (λ u. u == v) vs) h) [
  | inl a ↦ omega (arith, fold_max (max 0 w) vs, eqb-true w v a)
  | inr b ↦ omega (arith, fold_max (max 0 w) vs, held vs v b)
]

top_with : (vs : List ℕ) (v : ℕ) → top (with_value vs v) ≡ max (top vs) v
top_with vs v =
    let P : Bool → Type 0 = λ b. top (if b then vs else vs ++ v ∷ []) ≡ max (top vs) v in
    elim (cases_Bool (list_any (λ w. w == v) vs)) [
      | inl t ↦ subst P (sym t) (omega (arith, held vs v t))
      | inr t ↦ subst P (sym t) (omega (arith, top_append vs (v ∷ [])))
    ]

top_values : (vs cs : List ℕ) → top (with_values vs cs) ≡ max (top vs) (top cs)
top_values vs [] = omega arith
top_values vs (c ∷ cs) = omega (arith, top_values (with_value vs c) cs, top_with vs c, fold_max (max 0 c) cs)

top_raised : (vs : List ℕ) (c : ℕ) → 0 < length vs → top (map (λ v. v + c) vs) ≡ top vs + c
top_raised [] c h = absurd (omega (arith, h))
top_raised (v ∷ []) c h = omega arith
top_raised (v ∷ w ∷ vs) c h = omega (arith, fold_max (max 0 v) (w ∷ vs), fold_max (max 0 (v + c)) (map (λ u. u + c) (w ∷ vs)), top_raised (w ∷ vs) c (omega arith))

top_sum : (vs : List ℕ) (c : ℕ) → 0 < length vs → top (with_sum vs c) ≡ top vs + c
top_sum vs c h = omega (arith, top_values vs (map (λ v. v + c) vs), top_raised vs c h)

abbrev total : List ℕ → ℕ
total cs = fold (λ n c. n + c) 0 cs

fold_plus : (m : ℕ) (cs : List ℕ) → fold (λ n c. n + c) m cs ≡ m + total cs
fold_plus m [] = omega arith
fold_plus m (c ∷ cs) = omega (arith, fold_plus (m + c) cs, fold_plus (0 + c) cs)

top_sums : (vs cs : List ℕ) → 0 < length vs → top (with_sums vs cs) ≡ top vs + total cs
top_sums vs [] h = omega arith
top_sums vs (c ∷ cs) h = omega (arith, top_sums (with_sum vs c) cs (omega (arith, h, longer vs (map (λ v. v + c) vs))), top_sum vs c h, fold_plus (0 + c) cs)

-- one number after another

step_top : (vs : List ℕ) (r : Role) → top (with_constant vs r) ≡ constant_behind (top vs) r
step_top vs (Constant n) = top_with vs n
step_top vs r = refl

constants_top : (vs : List ℕ) (rs : List Role) → top (fold with_constant vs rs) ≡ fold constant_behind (top vs) rs
constants_top vs [] = refl
constants_top vs (r ∷ rs) = constants_top (with_constant vs r) rs ∙ ap (λ n. fold constant_behind n rs) (step_top vs r)

step_total : (cs : List ℕ) (r : Role) → total (with_added cs r) ≡ added_behind (total cs) r
step_total cs (Added n) = fold-append (λ m c. m + c) 0 cs (n ∷ [])
step_total cs r = refl

adds_total : (cs : List ℕ) (rs : List Role) → total (fold with_added cs rs) ≡ fold added_behind (total cs) rs
adds_total cs [] = refl
adds_total cs (r ∷ rs) = adds_total (with_added cs r) rs ∙ ap (λ n. fold added_behind n rs) (step_total cs r)

step_longer : (vs : List ℕ) (r : Role) → length vs ≤ length (with_constant vs r)
step_longer vs (Constant n) = with_longer vs n
step_longer vs r = omega arith

constants_longer : (vs : List ℕ) (rs : List Role) → length vs ≤ length (fold with_constant vs rs)
constants_longer vs [] = omega arith
constants_longer vs (r ∷ rs) = omega (arith, step_longer vs r, constants_longer (with_constant vs r) rs)

pub greatest_is : (rs : List Role) → greatest rs ≡ greatest_constant rs + added rs
greatest_is rs =
    let constants = fold with_constant (0 ∷ 1 ∷ []) rs in
    omega (arith, top_sums constants (fold with_added [] rs) (omega (arith, constants_longer (0 ∷ 1 ∷ []) rs)), constants_top (0 ∷ 1 ∷ []) rs, adds_total [] rs)

-- one number more

pub greatest_behind : (m n : ℕ) (r : Role) → ((k : ℕ) → r ≢ Constant k) → ((k : ℕ) → r ≢ Added k) → (m ≡ constant_behind m r) × (n ≡ added_behind n r)
greatest_behind m n (Constant k) f g = absurd (f k refl)
greatest_behind m n (Added k) f g = absurd (g k refl)
greatest_behind m n r f g = (refl, refl)

pub next_greatest : (rs : List Role) (i : ℕ) (r d : Role) (m n m' n' : ℕ) → i < length rs → r ≡ get_or rs i d → m ≡ greatest_constant (take i rs) → n ≡ added (take i rs) → m' ≡ constant_behind m r → n' ≡ added_behind n r →
    (m' ≡ greatest_constant (take (i + 1) rs)) × (n' ≡ added (take (i + 1) rs))
next_greatest rs i r d m n m' n' l e p q s t = (
  s ∙ ap (λ k. constant_behind k r) p ∙ ap (constant_behind (greatest_constant (take i rs))) e ∙ sym (fold_more constant_behind 1 rs i d l),
  t ∙ ap (λ k. added_behind k r) q ∙ ap (added_behind (added (take i rs))) e ∙ sym (fold_more added_behind 0 rs i d l),
)
