-- Numbers that are noted one after another.
use Rattle.std.proofs.Common.{Bool, cond, ◌≡◌, ℕ, ◌+◌, ◌≤◌, ◌<◌, List, [], ◌∷◌, length, take, get_or, ap, sym, subst, ◌∙◌, arith, inl, inr}
use Rattle.std.specs.List.{count_by}
use Rattle.std.specs.Prelude.{◌^◌, All, fold}
use Rattle.std.proofs.lemmas.Bool.{cases_lt}
use Rattle.std.proofs.lemmas.List.Sums.{fold_more}
use Rattle.litmus_value.specs.Values.{with_value, with_sums}
use Rattle.litmus_value.proofs.Bounds.{in_all, all_in}
use Rattle.litmus_value.proofs.Distinct.{with_in}
use Rattle.test_places.specs.declared.mark.Role.{Role}
use Rattle.test_places.specs.Numbers.{with_constant, with_added, values}

pub narrow_with : (vs : List ℕ) (c : ℕ) → All (λ v. v < 2 ^ 32) vs → c < 2 ^ 32 → All (λ v. v < 2 ^ 32) (with_value vs c)
narrow_with vs c h l = all_in (λ v. v < 2 ^ 32) (with_value vs c) (λ v m. elim (with_in vs c v m) [
  | inl a ↦ in_all (λ w. w < 2 ^ 32) vs v h a
  | inr e ↦ (let Q : ℕ → Type 0 = λ w. w < 2 ^ 32 in subst Q (sym e) l)
])

-- a number that is noted, and one that isn't

pub noted : {Y : Type 0} (f : Y → Role → Y) (b : Y) (rs : List Role) (i : ℕ) (d : Role) (old new : Y) → i < length rs → old ≡ fold f b (take i rs) → new ≡ f old (get_or rs i d) → new ≡ fold f b (take (i + 1) rs)
noted f b rs i d old new l e n = n ∙ ap (λ y. f y (get_or rs i d)) e ∙ sym (fold_more f b rs i d l)

pub skipped : {Y : Type 0} (f : Y → Role → Y) (b : Y) (rs : List Role) (i : ℕ) (d : Role) (old : Y) → i < length rs → old ≡ fold f b (take i rs) → f old (get_or rs i d) ≡ old → old ≡ fold f b (take (i + 1) rs)
skipped f b rs i d old l e n = noted f b rs i d old old l e (sym n)

-- how many values there are, by what is noted
pub values_are : (rs : List Role) (vs cs : List ℕ) → vs ≡ fold with_constant (0 ∷ 1 ∷ []) rs → cs ≡ fold with_added [] rs → values rs ≡ length (with_sums vs cs)
values_are rs vs cs e f = sym (ap (λ us. length (with_sums us cs)) e ∙ ap (λ ds. length (with_sums (fold with_constant (0 ∷ 1 ∷ []) rs) ds)) f)

-- how many pass a test, with one more
pub count_more : {X : Type 0} (p : X → Bool) (xs : List X) (i : ℕ) (x : X) (b : Bool) → i < length xs → x ≡ get_or xs i x → b ≡ p x → count_by p (take (i + 1) xs) ≡ count_by p (take i xs) + cond b 1 0
count_more p xs i x b l e t =
    fold_more (λ a y. a + cond (p y) 1 0) 0 xs i x l ∙ ap (λ y. count_by p (take i xs) + cond (p y) 1 0) (sym e)
    ∙ ap (λ c. count_by p (take i xs) + cond c 1 0) (sym t)

-- few up to a place, and with one more
pub few_more : {X : Type 0} (size : List X → ℕ) (most : ℕ) (xs : List X) (i : ℕ) → ((j : ℕ) → j ≤ i → size (take j xs) ≤ most) → size (take (i + 1) xs) ≤ most → (j : ℕ) → j ≤ i + 1 → size (take j xs) ≤ most
few_more size most xs i few here j low = elim (cases_lt i j) [
  | inl h ↦ (let e : i + 1 ≡ j = omega (arith, h, low) in subst (λ k. size (take k xs) ≤ most) e here)
  | inr h ↦ few j h
]
