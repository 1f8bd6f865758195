-- Which writes stand last in the orders of some numbers.
use Rattle.std.proofs.Common.{◌≡◌, ℕ, zero, suc, ◌+◌, ◌*◌, ◌/◌, ◌%◌, ◌<◌, ◌≤◌, List, [], ◌∷◌, ◌-◌, get_or, length, refl, sym, ◌∙◌, ap, arith}
use Rattle.std.specs.List.{insert}
use Rattle.std.proofs.Math.Nat.{mul_assoc, mul_comm, add-mul, mul-add, mul-zero, zero-mul, one-mul}
use Rattle.std.proofs.lemmas.Nat.{div-mul-add, mod-mul-add}
use Rattle.listings.specs.Numbered.{arrange}
use Rattle.listings.proofs.Arrangements.{put, insert-put}
use Rattle.slices.specs.Totals.{total, over_lasts}
use Rattle.candidates.specs.Blocks.{placings}
use Rattle.slices.specs.Finals.{last_or}
use Rattle.slices.specs.Ways.{share, rest}

pub total_same : (n : ℕ) (f g : ℕ → ℕ) → ((i : ℕ) → i < n → f i ≡ g i) → total n f ≡ total n g
total_same zero f g h = refl
total_same (suc n) f g h = omega (arith, total_same n f g (λ i l. h i (omega (arith, l))), h n (omega arith))

pub total_const : (n c : ℕ) → total n (λ _. c) ≡ n * c
total_const zero c = sym (zero-mul c)
total_const (suc n) c = let a : (n + 1) * c ≡ n * c + 1 * c = add-mul n 1 c in let b : suc n * c ≡ (n + 1) * c = (let e : suc n ≡ n + 1 = omega arith in ap (λ x. x * c) e) in omega (arith, total_const n c, a, b)

pub total_sum : (n : ℕ) (f g : ℕ → ℕ) → total n (λ i. f i + g i) ≡ total n f + total n g
total_sum zero f g = refl
total_sum (suc n) f g = omega (arith, total_sum n f g)

pub total_scale : (n c : ℕ) (f : ℕ → ℕ) → total n (λ i. c * f i) ≡ c * total n f
total_scale zero c f = sym (mul-zero c)
total_scale (suc n) c f = omega (arith, total_scale n c f, mul-add c (total n f) (f n))

pub total_add : (m n : ℕ) (f : ℕ → ℕ) → total (m + n) f ≡ total m f + total n (λ i. f (m + i))
total_add m zero f = let e : m + 0 ≡ m = omega arith in ap (λ z. total z f) e ∙ (let g : total m f ≡ total m f + 0 = omega arith in g)
total_add m (suc n) f =
    let e : m + suc n ≡ suc (m + n) = omega arith in
    ap (λ z. total z f) e ∙ (let g : total (m + n) f + f (m + n) ≡ total m f + (total n (λ i. f (m + i)) + f (m + n)) = omega (arith, total_add m n f) in g)

-- the fast number below m, the slow one below n
pub total_twice : (m n : ℕ) (f : ℕ → ℕ) → total (m * n) f ≡ total n (λ u. total m (λ d. f (m * u + d)))
total_twice m zero f = ap (λ z. total z f) (mul-zero m)
total_twice m (suc n) f =
    let e : m * suc n ≡ m * n + m = (let a : suc n ≡ n + 1 = omega arith in let b : m * (n + 1) ≡ m * n + m * 1 = mul-add m n 1 in omega (arith, ap (λ z. m * z) a, b)) in
    ap (λ z. total z f) e ∙ total_add (m * n) m f ∙ ap (λ z. z + total m (λ d. f (m * n + d))) (total_twice m n f)

length_put : {X : Type 0} (w : X) (d : ℕ) (ys : List X) → length (put w d ys) ≡ suc (length ys)
length_put w zero ys = refl
length_put w (suc d) [] = refl
length_put w (suc d) (y ∷ ys) = ap suc (length_put w d ys)

pub length_arranged : {X : Type 0} (ws : List X) (i : ℕ) → length (arrange ws i) ≡ length ws
length_arranged [] i = refl
length_arranged (w ∷ ws) i =
    let n : ℕ = suc (length ws) in
    ap length (insert-put w (i % n) (arrange ws (i / n))) ∙ length_put w (i % n) (arrange ws (i / n)) ∙ ap suc (length_arranged ws (i / n))

last_before : {X : Type 0} (i w : X) (d : ℕ) (ys : List X) → d < length ys → last_or i (put w d ys) ≡ last_or i ys
last_before i w d [] l = absurd (omega (arith, l))
last_before i w zero (y ∷ ys) l = refl
last_before i w (suc d) (y ∷ ys) l = last_before y w d ys (omega (arith, l))

last_behind : {X : Type 0} (i w : X) (d : ℕ) (ys : List X) → length ys ≤ d → last_or i (put w d ys) ≡ w
last_behind i w zero [] l = refl
last_behind i w (suc d) [] l = refl
last_behind i w zero (y ∷ ys) l = absurd (omega (arith, l))
last_behind i w (suc d) (y ∷ ys) l = last_behind y w d ys (omega (arith, l))

-- one write more, by the number of the others and its place
placed : {X : Type 0} (i w : X) (ws : List X) (u d : ℕ) → d < suc (length ws) → last_or i (arrange (w ∷ ws) (suc (length ws) * u + d)) ≡ last_or i (put w d (arrange ws u))
placed i w ws u d l =
    let n : ℕ = suc (length ws) in
    let turned : n * u + d ≡ u * n + d = ap (λ z. z + d) (mul_comm n u) in
    let high : (n * u + d) / n ≡ u = ap (λ z. z / n) turned ∙ div-mul-add u n d l in
    let low : (n * u + d) % n ≡ d = ap (λ z. z % n) turned ∙ mod-mul-add u n d l in
    ap (λ z. last_or i (insert (arrange ws z) ((n * u + d) % n) w)) high ∙ ap (λ z. last_or i (insert (arrange ws u) z w)) low ∙ ap (last_or i) (insert-put w d (arrange ws u))

one_write : {X : Type 0} (i w : X) (ws : List X) (u : ℕ) (f : X → ℕ) → total (suc (length ws)) (λ d. f (last_or i (arrange (w ∷ ws) (suc (length ws) * u + d)))) ≡ f w + length ws * f (last_or i (arrange ws u))
one_write i w ws u f =
    let n : ℕ = length ws in
    let g : ℕ → ℕ = λ d. f (last_or i (arrange (w ∷ ws) (suc n * u + d))) in
    let long : length (arrange ws u) ≡ n = length_arranged ws u in
    let before : total n g ≡ n * f (last_or i (arrange ws u)) =
    total_same n g (λ _. f (last_or i (arrange ws u))) (λ d l. ap f (placed i w ws u d (omega (arith, l)) ∙ last_before i w d (arrange ws u) (omega (arith, l, long)))) ∙ total_const n (f (last_or i (arrange ws u))) in
    let at_end : g n ≡ f w = ap f (placed i w ws u n (omega arith) ∙ last_behind i w n (arrange ws u) (omega (arith, long))) in
    omega (arith, before, at_end)

pub lasts_add : {X : Type 0} (i : X) (ws : List X) (k q : ℕ) (f : X → ℕ) → total (placings (length ws) k) (λ t. f (last_or i (arrange ws (placings (length ws) k * q + t)))) ≡ over_lasts i ws k q f
lasts_add i ws zero q f =
    let e : 1 * q + 0 ≡ q = omega (arith, one-mul q) in
    let n : 0 + f (last_or i (arrange ws (1 * q + 0))) ≡ f (last_or i (arrange ws (1 * q + 0))) = omega arith in
    n ∙ ap (λ z. f (last_or i (arrange ws z))) e
lasts_add i [] (suc k) q f = let n : 0 + f i ≡ f i = omega arith in n
lasts_add {X} i (w ∷ ws) (suc k) q f =
    let m : ℕ = length ws in
    let n : ℕ = suc m in
    let p : ℕ = placings m k in
    let g : ℕ → ℕ = λ t. f (last_or i (arrange (w ∷ ws) (n * p * q + t))) in
    let h : ℕ → ℕ = λ u. f (last_or i (arrange ws (p * q + u))) in
    let inner : (u : ℕ) → total n (λ d. g (n * u + d)) ≡ f w + m * h u = λ u. (
    total_same n (λ d. g (n * u + d)) (λ d. f (last_or i (arrange (w ∷ ws) (n * (p * q + u) + d))))
    (λ d l. ap (λ z. f (last_or i (arrange (w ∷ ws) z))) (let a : n * p * q ≡ n * (p * q) = mul_assoc n p q in let b : n * (p * q + u) ≡ n * (p * q) + n * u = mul-add n (p * q) u in let c : n * p * q + (n * u + d) ≡ n * (p * q + u) + d = omega (arith, a, b) in c)) ∙
    one_write i w ws (p * q + u) f) in
    total_twice n p g ∙ total_same p (λ u. total n (λ d. g (n * u + d))) (λ u. f w + m * h u) (λ u l. inner u) ∙ total_sum p (λ _. f w) (λ u. m * h u) ∙
    (let a : total p (λ _. f w) ≡ p * f w = total_const p (f w) in let b : total p (λ u. m * h u) ≡ m * total p h = total_scale p m h in
    let c : m * total p h ≡ m * over_lasts i ws k q f = ap (λ z. m * z) (lasts_add i ws k q f) in
    let d : total p (λ _. f w) + total p (λ u. m * h u) ≡ p * f w + m * over_lasts i ws k q f = omega (arith, a, b, c) in d)

-- CLOSED

total_first : (n : ℕ) (f : ℕ → ℕ) → total (suc n) f ≡ f 0 + total n (λ i. f (suc i))
total_first zero f = omega arith
total_first (suc n) f = omega (arith, total_first n f)

in_front : {X : Type 0} (w : X) (ws : List X) (u : ℕ) → arrange (w ∷ ws) (suc (length ws) * u) ≡ w ∷ arrange ws u
in_front w ws u =
    let n : ℕ = suc (length ws) in
    let turned : n * u ≡ u * n + 0 = omega (arith, mul_comm n u) in
    let high : (n * u) / n ≡ u = ap (λ z. z / n) turned ∙ div-mul-add u n 0 (omega arith) in
    let low : (n * u) % n ≡ 0 = ap (λ z. z % n) turned ∙ mod-mul-add u n 0 (omega arith) in
    ap (λ z. insert (arrange ws z) ((n * u) % n) w) high ∙ ap (λ z. insert (arrange ws u) z w) low ∙ insert-put w 0 (arrange ws u)

-- f of each of the first k, and of the last one
abbrev pub by_shares : {X : Type 0} → X → List X → ℕ → (X → ℕ) → ℕ
by_shares i zs k f = total k (λ c. share (length zs) k * f (get_or zs c i)) + rest (length zs) k * f (last_or i zs)

shares_more : (m k : ℕ) → suc k ≤ m → (share (suc m) (suc (suc k)) ≡ m * share m (suc k)) × (rest (suc m) (suc (suc k)) ≡ m * rest m (suc k))
shares_more zero k l = absurd (omega (arith, l))
shares_more (suc m) k l =
    let e : suc (suc m) - suc (suc k) ≡ suc m - suc k = omega arith in
    (refl, ap (λ z. suc m * placings m k * z) e ∙ mul_assoc (suc m) (placings m k) (suc m - suc k))

pub last_cons : {X : Type 0} (i w : X) (zs : List X) → 1 ≤ length zs → last_or i (w ∷ zs) ≡ last_or i zs
last_cons i w [] l = absurd (omega (arith, l))
last_cons i w (z ∷ zs) l = refl

one_more_share : {X : Type 0} (i w : X) (zs : List X) (f : X → ℕ) → by_shares i (w ∷ zs) 1 f ≡ 1 * f w + length zs * f (last_or i zs)
one_more_share i w [] f = let a : 1 * f w ≡ f w = one-mul (f w) in let b : 0 * f w ≡ 0 = zero-mul (f w) in let c : 0 * f i ≡ 0 = zero-mul (f i) in let d : 1 * 0 * f w ≡ 0 = zero-mul (f w) in (let g : 0 + 1 * f w + 1 * 0 * f w ≡ 1 * f w + 0 * f i = omega (arith, a, b, c, d) in g)
one_more_share i w (z ∷ zs) f =
    let n : ℕ = length (z ∷ zs) in
    let e : 1 * (suc n - 1) ≡ n = omega arith in
    let g : 0 + 1 * f w + 1 * (suc n - 1) * f (last_or z zs) ≡ 1 * f w + n * f (last_or z zs) = omega (arith, ap (λ x. x * f (last_or z zs)) e) in g

more_shares : {X : Type 0} (i w : X) (zs : List X) (k : ℕ) (f : X → ℕ) → suc k ≤ length zs → by_shares i (w ∷ zs) (suc (suc k)) f ≡ placings (length zs) (suc k) * f w + length zs * by_shares i zs (suc k) f
more_shares {X} i w zs k f l =
    let n : ℕ = length zs in
    let s : ℕ = share n (suc k) in
    let t : ℕ = share (suc n) (suc (suc k)) in
    let r : ℕ = rest n (suc k) in
    let x : ℕ = f (last_or i zs) in
    let m = shares_more n k l in
    let g : ℕ → ℕ = λ c. t * f (get_or (w ∷ zs) c i) in
    let h : ℕ → ℕ = λ c. s * f (get_or zs c i) in
    let first : total (suc (suc k)) g ≡ t * f w + total (suc k) (λ c. t * f (get_or zs c i)) = total_first (suc k) g in
    let each : total (suc k) (λ c. t * f (get_or zs c i)) ≡ n * total (suc k) h =
    total_same (suc k) (λ c. t * f (get_or zs c i)) (λ c. n * h c) (λ c u. ap (λ y. y * f (get_or zs c i)) m.0 ∙ mul_assoc n s (f (get_or zs c i))) ∙ total_scale (suc k) n h in
    let back : rest (suc n) (suc (suc k)) * f (last_or i (w ∷ zs)) ≡ n * (r * x) = ap (λ y. y * f (last_or i (w ∷ zs))) m.1 ∙ ap (λ y. n * r * f y) (last_cons i w zs (omega (arith, l))) ∙ mul_assoc n r x in
    let whole : n * (total (suc k) h + r * x) ≡ n * total (suc k) h + n * (r * x) = mul-add n (total (suc k) h) (r * x) in
    omega (arith, first, each, back, whole)

pub closed : {X : Type 0} (i : X) (ws : List X) (k q : ℕ) (f : X → ℕ) → k ≤ length ws → over_lasts i ws k q f ≡ by_shares i (arrange ws (placings (length ws) k * q)) k f
closed i ws zero q f l =
    let e : q ≡ 1 * q = omega (arith, one-mul q) in
    ap (λ z. f (last_or i (arrange ws z))) e ∙ (let x : ℕ = f (last_or i (arrange ws (1 * q))) in let n : x ≡ 0 + 1 * x = omega (arith, one-mul x) in n)
closed i [] (suc k) q f l = absurd (omega (arith, l))
closed {X} i (w ∷ ws) (suc zero) q f l =
    let m : ℕ = length ws in
    let u : ℕ = 1 * q in
    let zs : List X = arrange ws u in
    let p : suc m * 1 * q ≡ suc m * u = mul_assoc (suc m) 1 q in
    let long : length zs ≡ m = length_arranged ws u in
    let e : q ≡ u = omega (arith, one-mul q) in
    ap (λ z. 1 * f w + m * f (last_or i (arrange ws z))) e ∙ ap (λ z. 1 * f w + z * f (last_or i zs)) (sym long) ∙ sym (one_more_share i w zs f) ∙ ap (λ ys. by_shares i ys 1 f) (sym (in_front w ws u) ∙ ap (arrange (w ∷ ws)) (sym p))
closed {X} i (w ∷ ws) (suc (suc k)) q f l =
    let m : ℕ = length ws in
    let u : ℕ = placings m (suc k) * q in
    let zs : List X = arrange ws u in
    let p : suc m * placings m (suc k) * q ≡ suc m * u = mul_assoc (suc m) (placings m (suc k)) q in
    let long : length zs ≡ m = length_arranged ws u in
    ap (λ z. placings m (suc k) * f w + m * z) (closed i ws (suc k) q f (omega (arith, l))) ∙ ap (λ z. placings z (suc k) * f w + z * by_shares i zs (suc k) f) (sym long) ∙
    sym (more_shares i w zs k f (omega (arith, l, long))) ∙ ap (λ ys. by_shares i ys (suc (suc k)) f) (sym (in_front w ws u) ∙ ap (arrange (w ∷ ws)) (sym p))
