-- Sums over digits.
use Rattle.std.proofs.Common.{◌≡◌, ℕ, zero, suc, ◌+◌, ◌*◌, ◌/◌, ◌%◌, ◌<◌, List, [], ◌∷◌, refl, sym, ◌∙◌, ap, arith}
use Rattle.std.proofs.Math.Nat.{mul_assoc, mul_comm, mul-zero, one-mul}
use Rattle.std.proofs.lemmas.Nat.{div-mul-add, mod-mul-add}
use Rattle.listings.specs.Lists.{product_by}
use Rattle.listings.specs.Numbered.{digits}
use Rattle.slices.specs.Totals.{total}
use Rattle.slices.specs.Ways.{weight_by}
use Rattle.slices.proofs.Spread.{total_same, total_twice, total_scale, total_const}

pub total_zero : (n : ℕ) → total n (λ _. 0) ≡ 0
total_zero n = total_const n 0 ∙ mul-zero n

pub total_swap : (m n : ℕ) (f : ℕ → ℕ → ℕ) → total m (λ i. total n (λ j. f i j)) ≡ total n (λ j. total m (λ i. f i j))
total_swap zero n f = sym (total_zero n)
total_swap (suc m) n f = ap (λ z. z + total n (λ j. f m j)) (total_swap m n f) ∙ sym (sums n (λ j. total m (λ i. f i j)) (λ j. f m j))
  where
    sums : (n : ℕ) (f g : ℕ → ℕ) → total n (λ i. f i + g i) ≡ total n f + total n g
    sums zero f g = refl
    sums (suc n) f g = omega (arith, sums n f g)

-- one value for each, by the digits of t, the lowest first
abbrev pub by_digits : {A X : Type 0} → (A → ℕ) → List A → List (ℕ → X) → ℕ → List X
by_digits size [] vs t = []
by_digits size (a ∷ as') [] t = []
by_digits size (a ∷ as') (v ∷ vs) t = v (t % size a) ∷ by_digits size as' vs (t / size a)

-- The values of v at the numbers below its size are those that are picked, with their weights.
abbrev pub Spreads : {A X : Type 0} → (size count : A → ℕ) → (weight : A → ℕ → ℕ) → (pick : A → ℕ → X) → A → (ℕ → X) → Type 0
Spreads {A} {X} size count weight pick a v = (f : X → ℕ) → total (size a) (λ d. f (v d)) ≡ total (count a) (λ c. weight a c * f (pick a c))

abbrev pub AllSpread : {A X : Type 0} → (size count : A → ℕ) → (weight : A → ℕ → ℕ) → (pick : A → ℕ → X) → List A → List (ℕ → X) → Type 0
AllSpread size count weight pick [] vs = Unit {0}
AllSpread size count weight pick (a ∷ as') [] = ⊥
AllSpread size count weight pick (a ∷ as') (v ∷ vs) = Spreads size count weight pick a v × AllSpread size count weight pick as' vs

digit_low : (m u d : ℕ) → d < m → (m * u + d) % m ≡ d
digit_low m u d l = ap (λ z. (z + d) % m) (mul_comm m u) ∙ mod-mul-add u m d l

digit_high : (m u d : ℕ) → d < m → (m * u + d) / m ≡ u
digit_high m u d l = ap (λ z. (z + d) / m) (mul_comm m u) ∙ div-mul-add u m d l

-- a sum by a low and a high digit
by_both : {X Y : Type 0} (m n : ℕ) (g : X → Y → ℕ) (low : ℕ → X) (high : ℕ → Y) → total (m * n) (λ t. g (low (t % m)) (high (t / m))) ≡ total n (λ u. total m (λ d. g (low d) (high u)))
by_both m n g low high =
    total_twice m n (λ t. g (low (t % m)) (high (t / m))) ∙
    total_same n (λ u. total m (λ d. g (low ((m * u + d) % m)) (high ((m * u + d) / m)))) (λ u. total m (λ d. g (low d) (high u)))
    (λ u k. total_same m (λ d. g (low ((m * u + d) % m)) (high ((m * u + d) / m))) (λ d. g (low d) (high u))
    (λ d l. ap (λ z. g (low z) (high ((m * u + d) / m))) (digit_low m u d l) ∙ ap (λ z. g (low d) (high z)) (digit_high m u d l)))

pub all_spread : {A X : Type 0} (size count : A → ℕ) (weight : A → ℕ → ℕ) (pick : A → ℕ → X) (as' : List A) (vs : List (ℕ → X)) (F : List X → ℕ) → AllSpread size count weight pick as' vs →
    total (product_by size as') (λ t. F (by_digits size as' vs t)) ≡ total (product_by count as') (λ j. weight_by count weight as' j * F (digits count pick as' j))
all_spread size count weight pick [] vs F h = let e : 0 + F [] ≡ 0 + 1 * F [] = omega (arith, one-mul (F [])) in e
all_spread size count weight pick (a ∷ as') [] F h = absurd h
all_spread {A} {X} size count weight pick (a ∷ as') (v ∷ vs) F h =
    let n : ℕ = size a in
    let r : ℕ = count a in
    let w : ℕ = product_by size as' in
    let q : ℕ = product_by count as' in
    let L : ℕ → List X = by_digits size as' vs in
    let P : ℕ → List X = digits count pick as' in
    let W : ℕ → ℕ = weight_by count weight as' in
    let G : X → List X → ℕ = λ x xs. F (x ∷ xs) in
    let one : total (n * w) (λ t. F (by_digits size (a ∷ as') (v ∷ vs) t)) ≡ total w (λ u. total n (λ d. G (v d) (L u))) = by_both n w G v L in
    let two : total w (λ u. total n (λ d. G (v d) (L u))) ≡ total w (λ u. total r (λ c. weight a c * G (pick a c) (L u))) =
    total_same w (λ u. total n (λ d. G (v d) (L u))) (λ u. total r (λ c. weight a c * G (pick a c) (L u))) (λ u l. h.0 (λ x. G x (L u))) in
    let three : total w (λ u. total r (λ c. weight a c * G (pick a c) (L u))) ≡ total r (λ c. total w (λ u. weight a c * G (pick a c) (L u))) = total_swap w r (λ u c. weight a c * G (pick a c) (L u)) in
    let four : total r (λ c. total w (λ u. weight a c * G (pick a c) (L u))) ≡ total r (λ c. total q (λ j. weight a c * (W j * G (pick a c) (P j)))) =
    total_same r (λ c. total w (λ u. weight a c * G (pick a c) (L u))) (λ c. total q (λ j. weight a c * (W j * G (pick a c) (P j)))) (λ c l.
    total_scale w (weight a c) (λ u. G (pick a c) (L u)) ∙ ap (λ z. weight a c * z) (all_spread size count weight pick as' vs (λ xs. F (pick a c ∷ xs)) h.1) ∙ sym (total_scale q (weight a c) (λ j. W j * G (pick a c) (P j)))) in
    let five : total r (λ c. total q (λ j. weight a c * (W j * G (pick a c) (P j)))) ≡ total q (λ j. total r (λ c. weight a c * (W j * G (pick a c) (P j)))) = total_swap r q (λ c j. weight a c * (W j * G (pick a c) (P j))) in
    let H : ℕ → ℕ → ℕ = λ c j. weight a c * (W j * G (pick a c) (P j)) in
    let I : ℕ → ℕ = λ c. c in
    let six : total (r * q) (λ j. H (j % r) (j / r)) ≡ total q (λ j. total r (λ c. H c j)) = by_both r q H I I in
    let seven : total (r * q) (λ j. weight a (j % r) * W (j / r) * F (pick a (j % r) ∷ P (j / r))) ≡ total (r * q) (λ j. H (j % r) (j / r)) =
    total_same (r * q) (λ j. weight a (j % r) * W (j / r) * F (pick a (j % r) ∷ P (j / r))) (λ j. H (j % r) (j / r)) (λ j l. mul_assoc (weight a (j % r)) (W (j / r)) (F (pick a (j % r) ∷ P (j / r)))) in
    one ∙ two ∙ three ∙ four ∙ five ∙ sym six ∙ sym seven
