-- Numbers whose digits are the values of a final state.
use Rattle.std.proofs.Common.{◌≡◌, ℕ, zero, suc, ◌+◌, ◌*◌, ◌/◌, ◌%◌, ◌^◌, ◌<◌, ◌≤◌, List, [], ◌∷◌, ◌++◌, length, refl, sym, ap, ◌∙◌, subst, arith}
use Rattle.std.specs.Prelude.{Some}
use Rattle.std.proofs.Math.Nat.{div-le_self, mod-eq_of_lt, mul_assoc, mul_comm, one-mul, mul-one, mul-zero, pow-zero, pow-le-pow_right, pow-suc, pow-succ'}
use Rattle.std.proofs.Math.Pow.{pow-lt, pow_mono}
use Rattle.std.proofs.lemmas.Grind.{pow_more}
use Rattle.std.proofs.lemmas.Nat.{div-mul-add, mul-add-lt, pow-add}
use Rattle.slices.specs.Numbers.{AreDigits, HasNumber, with_values}

-- a value more

digits_more : (base : ℕ) (xs : List ℕ) (x : ℕ) → AreDigits base xs → x < base → AreDigits base (xs ++ x ∷ [])
digits_more base [] x d l = (l, tt)
digits_more base (y ∷ ys) x d l = (d.0, digits_more base ys x d.1 l)

values_more : (base n : ℕ) (xs : List ℕ) (x : ℕ) → with_values base n (xs ++ x ∷ []) ≡ with_values base n xs * base + x
values_more base n [] x = refl
values_more base n (y ∷ ys) x = values_more base (n * base + y) ys x

-- there is room for the number

values_below : (base n m : ℕ) (xs : List ℕ) → AreDigits base xs → n < m → with_values base n xs < m * base ^ length xs
values_below base n m [] d l =
    let one : m * base ^ 0 ≡ m = ap (λ k. m * k) (pow-zero base) ∙ mul-one m in
    omega (arith, l, one)
values_below base n m (x ∷ xs) d l =
    let next : n * base + x < base * m = mul-add-lt n base x m l d.0 in
    let rest : with_values base (n * base + x) xs < base * m * base ^ length xs = values_below base (n * base + x) (base * m) xs d.1 next in
    let same : base * m * base ^ length xs ≡ m * base ^ suc (length xs) = ap (λ k. k * base ^ length xs) (mul_comm base m) ∙ mul_assoc m base (base ^ length xs) ∙ sym (ap (λ k. m * k) (pow-succ' base (length xs))) in
    subst (λ k. with_values base (n * base + x) xs < k) same rest

pub number_below : (base : ℕ) (xs : List ℕ) → AreDigits base xs → with_values base 0 xs < base ^ length xs
number_below base xs d = omega (arith, values_below base 0 1 xs d (omega arith))

-- numbers with as many digits are the same only where the digits are

same_first : (base m n x y : ℕ) → x < base → y < base → m * base + x ≡ n * base + y → (m ≡ n) × (x ≡ y)
same_first base m n x y lx ly e =
    let same : m ≡ n = sym (div-mul-add m base x lx) ∙ ap (λ k. k / base) e ∙ div-mul-add n base y ly in
    let f : n * base + x ≡ n * base + y = ap (λ k. k * base + x) (sym same) ∙ e in
    (same, omega (arith, f))

same_values : (base m n : ℕ) (xs ys : List ℕ) → AreDigits base xs → AreDigits base ys → length xs ≡ length ys → with_values base m xs ≡ with_values base n ys → (m ≡ n) × (xs ≡ ys)
same_values base m n [] [] d f l e = (e, refl)
same_values base m n [] (y ∷ ys) d f l e = absurd (let z : 0 ≡ suc (length ys) = l in cc)
same_values base m n (x ∷ xs) [] d f l e = absurd (let z : suc (length xs) ≡ 0 = l in cc)
same_values base m n (x ∷ xs) (y ∷ ys) d f l e =
    let less : length xs ≡ length ys = (let z : suc (length xs) ≡ suc (length ys) = l in omega (arith, z)) in
    let rest = same_values base (m * base + x) (n * base + y) xs ys d.1 f.1 less e in
    let first = same_first base m n x y d.0 f.0 rest.0 in
    (first.0, ap (λ z. z ∷ xs) first.1 ∙ ap (λ zs. y ∷ zs) rest.1)

pub same_number : (base : ℕ) (xs ys : List ℕ) → AreDigits base xs → AreDigits base ys → length xs ≡ length ys → with_values base 0 xs ≡ with_values base 0 ys → xs ≡ ys
same_number base xs ys d f l e = (same_values base 0 0 xs ys d f l e).1

-- a value more, where the number is a digit longer

pub room_for : (base n x : ℕ) (xs : List ℕ) → HasNumber base xs (Some n) → x < base → base ^ (length xs + 1) ≤ 2 ^ 63 → n * base + x < 2 ^ 63
room_for base n x xs h l room =
    let below : n < base ^ length xs = (let b = number_below base xs h.0 in let e = h.1 in omega (arith, b, e)) in
    let next : n * base + x < base * base ^ length xs = mul-add-lt n base x (base ^ length xs) below l in
    let p : base ^ suc (length xs) ≡ base * base ^ length xs = pow-succ' base (length xs) in
    let one : length xs + 1 ≡ suc (length xs) = omega arith in
    let r : base ^ suc (length xs) ≤ 2 ^ 63 = subst (λ k. base ^ k ≤ 2 ^ 63) one room in
    omega (arith, next, p, r)

pub number_more : (base n x : ℕ) (xs ys : List ℕ) → HasNumber base xs (Some n) → x < base → ys ≡ xs ++ x ∷ [] → HasNumber base ys (Some (n * base + x))
number_more base n x xs ys h l e =
    subst (λ zs. HasNumber base zs (Some (n * base + x))) (sym e)
    (digits_more base xs x h.0 l, ap (λ k. k * base + x) h.1 ∙ sym (values_more base 0 xs x))

-- the base

pow_of : (k w : ℕ) → (2 ^ k) ^ w ≡ 2 ^ (k * w)
pow_of k zero = pow-zero (2 ^ k) ∙ sym (ap (λ n. 2 ^ n) (mul-zero k) ∙ pow-zero 2)
pow_of k (suc w) =
    let e : k * w + k ≡ k * suc w = omega arith in
    pow-suc (2 ^ k) w ∙ ap (λ n. n * 2 ^ k) (pow_of k w) ∙ sym (pow-add 2 (k * w) k) ∙ ap (λ n. 2 ^ n) e

pub room_of : (k w : ℕ) → k * w ≤ 63 → (2 ^ k) ^ w ≤ 2 ^ 63
room_of k w l = subst (λ n. n ≤ 2 ^ 63) (sym (pow_of k w)) (pow_mono l)

-- it is made by a shift
pub base_is : (k : ℕ) → k ≤ 63 → 1 * 2 ^ k % 2 ^ 64 ≡ 2 ^ k
base_is k l =
    let p : 2 ^ k < 2 ^ 64 = pow-lt {i = k} {j = 64} (omega (arith, l)) in
    ap (λ n. n % 2 ^ 64) (one-mul (2 ^ k)) ∙ mod-eq_of_lt p

pub at_most_all : (n : ℕ) → 63 / n ≤ 63
at_most_all n = div-le_self 63 n

-- where there is room for more digits, there is for fewer
pub room_less : (base m n : ℕ) → m < n → base ^ n ≤ 2 ^ 63 → base ^ (m + 1) ≤ 2 ^ 63
room_less zero m n l room =
    let e : 0 ^ (m + 1) ≡ 0 = pow_more 0 m ∙ mul-zero (0 ^ m) in
    omega (arith, e)
room_less (suc b) m n l room =
    let less : suc b ^ (m + 1) ≤ suc b ^ n = pow-le-pow_right {n = suc b} (omega arith) {i = m + 1} {j = n} (omega (arith, l)) in
    omega (arith, less, room)

-- where nothing is a digit
pub no_digits : (n : ℕ) → 0 ^ n ≤ 2 ^ 63
no_digits zero = let e : 0 ^ 0 ≡ 1 = pow-zero 0 in omega (arith, e)
no_digits (suc n) = let e : 0 ^ suc n ≡ 0 = pow-suc 0 n ∙ mul-zero (0 ^ n) in omega (arith, e)
