-- Parts of orders, and numbers that share a quotient.
use Rattle.std.proofs.Common.{◌≡◌, ℕ, zero, suc, ◌+◌, ◌*◌, ◌/◌, ◌%◌, ◌<◌, List, [], ◌∷◌, length, map, take, drop, refl, sym, ◌∙◌, ap, subst, inl, inr, mul-add, arith}
use Rattle.std.specs.List.{All, insert}
use Rattle.std.proofs.lemmas.List.Elements.{All-nil, All-cons, All-head, All-tail}
use Rattle.std.proofs.Math.Nat.{div-one, div-zero, zero-mod, mod-zero, mod-lt, mul-zero, mul_assoc, mul_comm, eq-zero-or-pos, div-div-eq-div-mul, div-add-mod}
use Rattle.std.proofs.lemmas.Nat.{div-mul-add, mod-mul-add, mul-add-lt}
use Rattle.events.specs.declared.event.Event.{Event}
use Rattle.events.specs.declared.event.EventId.{EventId}
use Rattle.events.specs.declared.event.EventId.TheVariants.{Initial}
use Rattle.events.specs.Executions.{ThreadRun}
use Rattle.listings.specs.Lists.{IsIn, product_by, factorial}
use Rattle.listings.specs.Numbered.{arrange}
use Rattle.listings.proofs.Arrangements.{put, insert-put}
use Rattle.candidates.specs.Executions.{later_writes}
use Rattle.candidates.specs.Candidates.{count_sources, source_at, count_orders, digits_down}
use Rattle.events.specs.Extends.{IsPart, IsPartOfOne}
use Rattle.candidates.specs.Blocks.{placings, ways_of_orders}

-- PARTS OF ORDERS

part_self : (xs : List EventId) → IsPart xs xs
part_self [] = tt
part_self (x ∷ xs) = inl (refl, part_self xs)

part_put : (xs ys : List EventId) (w : EventId) (d : ℕ) → IsPart xs ys → IsPart xs (put w d ys)
part_put [] ys w d p = tt
part_put (x ∷ xs) ys w zero p = inr p
part_put (x ∷ xs) [] w (suc d) p = absurd p
part_put (x ∷ xs) (y ∷ ys) w (suc d) p = elim p [ inl q ↦ inl (q.0, part_put xs ys w d q.1) | inr q ↦ inr (part_put (x ∷ xs) ys w d q) ]

part_insert : (xs ys : List EventId) (w : EventId) (d : ℕ) → IsPart xs ys → IsPart xs (insert ys d w)
part_insert xs ys w d p = let P : List EventId → Type 0 = λ zs. IsPart xs zs in subst P (sym (insert-put w d ys)) (part_put xs ys w d p)

-- the order of the later writes of ws alone
pub arranged_part : (ws : List EventId) (k i : ℕ) → IsPart (arrange (drop k ws) (i / placings (length ws) k)) (arrange ws i)
arranged_part ws zero i = let P : ℕ → Type 0 = λ j. IsPart (arrange ws j) (arrange ws i) in subst P (sym (div-one i)) (part_self (arrange ws i))
arranged_part [] (suc k) i = tt
arranged_part (w ∷ ws) (suc k) i =
    let n : ℕ = suc (length ws) in
    let P : ℕ → Type 0 = λ j. IsPart (arrange (drop k ws) j) (arrange (w ∷ ws) i) in
    subst P (div-div-eq-div-mul i n (placings (length ws) k)) (part_insert (arrange (drop k ws) (i / n / placings (length ws) k)) (arrange ws (i / n)) w (i % n) (arranged_part ws k (i / n)))

one_later : (y : List EventId) (ys : List (List EventId)) (xs : List EventId) → IsPartOfOne ys xs → IsPartOfOne (y ∷ ys) xs
one_later y ys xs p = (suc p.0, p.1, p.2, p.3)

pub all_later : (y : List EventId) (ys xss : List (List EventId)) → All (IsPartOfOne ys) xss → All (IsPartOfOne (y ∷ ys)) xss
all_later y ys [] h = All-nil (IsPartOfOne (y ∷ ys))
all_later y ys (xs ∷ xss) h = All-cons (IsPartOfOne (y ∷ ys)) xs xss (one_later y ys xs (All-head (IsPartOfOne ys) xs xss h)) (all_later y ys xss (All-tail (IsPartOfOne ys) xs xss h))

-- each order is a part of itself
pub order_self : (xss : List (List EventId)) → All (IsPartOfOne xss) xss
order_self [] = All-nil (IsPartOfOne [])
order_self (xs ∷ xss) = All-cons (IsPartOfOne (xs ∷ xss)) xs xss (0, xs, refl, part_self xs) (all_later xs xss xss (order_self xss))

put_there : (w : EventId) (d : ℕ) (zs : List EventId) → IsPart (w ∷ []) (put w d zs)
put_there w zero zs = inl (refl, tt)
put_there w (suc d) [] = inl (refl, tt)
put_there w (suc d) (z ∷ zs) = inr (put_there w d zs)

part_in : (w : EventId) (zs : List EventId) → IsPart (w ∷ []) zs → IsIn w zs
part_in w [] h = absurd h
part_in w (z ∷ zs) h = elim h [ inl k ↦ inl k.0 | inr k ↦ inr (part_in w zs k) ]

-- each of some writes stands in each of their orders
in_order : (w : EventId) (ws : List EventId) (i : ℕ) → IsIn w ws → IsPart (w ∷ []) (arrange ws i)
in_order w [] i h = absurd h
in_order w (v ∷ ws) i h =
    let n : ℕ = suc (length ws) in
    elim h [
      | inl e ↦ (let P : List EventId → Type 0 = λ zs. IsPart (w ∷ []) zs in
          let Q : EventId → Type 0 = λ u. IsPart (w ∷ []) (put u (i % n) (arrange ws (i / n))) in
          subst P (sym (insert-put v (i % n) (arrange ws (i / n)))) (subst Q e (put_there w (i % n) (arrange ws (i / n)))))
      | inr m ↦ part_insert (w ∷ []) (arrange ws (i / n)) v (i % n) (in_order w ws (i / n) m)
    ]

pub arrange_in : (w : EventId) (ws : List EventId) (i : ℕ) → IsIn w ws → IsIn w (arrange ws i)
arrange_in w ws i h = part_in w (arrange ws i) (in_order w ws i h)

pub pairs_part : (x : ℕ) (ws vs : List EventId) (i : ℕ) (yss : List (List EventId)) → ((w : EventId) → IsIn w vs → IsIn w ws) → All (IsPartOfOne ((Initial x ∷ arrange ws i) ∷ yss)) (map (λ v. Initial x ∷ v ∷ []) vs)
pairs_part x ws [] i yss f = All-nil (IsPartOfOne ((Initial x ∷ arrange ws i) ∷ yss))
pairs_part x ws (v ∷ vs) i yss f =
    All-cons (IsPartOfOne ((Initial x ∷ arrange ws i) ∷ yss)) (Initial x ∷ v ∷ []) (map (λ v. Initial x ∷ v ∷ []) vs) (0, (Initial x ∷ arrange ws i), refl, inl (refl, in_order v ws i (f v (inl refl)))) (pairs_part x ws vs i yss (λ w m. f w (inr m)))

pub in_take : (w : EventId) (k : ℕ) (ws : List EventId) → IsIn w (take k ws) → IsIn w ws
in_take w zero ws h = absurd h
in_take w (suc k) [] h = absurd h
in_take w (suc k) (v ∷ ws) h = elim h [ inl e ↦ inl e | inr m ↦ inr (in_take w k ws m) ]

-- QUOTIENTS

rest_over_both : (i a b : ℕ) → 0 < a → 0 < b → (i % (a * b)) / a ≡ (i / a) % b
rest_over_both i a b p q =
    let d : ℕ = i / a in
    let r : ℕ = i % a in
    let e : ℕ = d / b in
    let s : ℕ = d % b in
    let whole : a * d + r ≡ i = div-add-mod i a in
    let inner : b * e + s ≡ d = div-add-mod d b in
    let spread : a * d ≡ a * (b * e) + a * s = ap (λ z. a * z) (sym inner) ∙ mul-add a (b * e) s in
    let joined : e * (a * b) ≡ a * (b * e) = mul_comm e (a * b) ∙ mul_assoc a b e in
    let swapped : s * a ≡ a * s = mul_comm s a in
    let below : s * a + r < a * b = mul-add-lt s a r b (mod-lt d q) (mod-lt i p) in
    let is : i ≡ e * (a * b) + (s * a + r) = omega (arith, whole, spread, joined, swapped) in
    ap (λ z. (z % (a * b)) / a) is ∙ ap (λ z. z / a) (mod-mul-add e (a * b) (s * a + r) below) ∙ div-mul-add s a r (mod-lt i p)

-- the quotient of a rest: the rest of the quotient
rest_over : (i a b : ℕ) → (i % (a * b)) / a ≡ (i / a) % b
rest_over i a b = elim (eq-zero-or-pos a) [
  | inl z ↦ (let P : ℕ → Type 0 = λ c. (i % (c * b)) / c ≡ (i / c) % b in subst P (sym z) (div-zero (i % (0 * b)) ∙ sym (zero-mod b) ∙ ap (λ c. c % b) (sym (div-zero i))))
  | inr p ↦ elim (eq-zero-or-pos b) [
    | inl z ↦ (let P : ℕ → Type 0 = λ c. (i % (a * c)) / a ≡ (i / a) % c in
        subst P (sym z) (ap (λ c. (i % c) / a) (mul-zero a) ∙ ap (λ c. c / a) (mod-zero i) ∙ sym (mod-zero (i / a))))
    | inr q ↦ rest_over_both i a b p q
  ]
]

-- numbers that share a quotient share that by a multiple, and the quotient of the rest
pub shared_over : (i j a b : ℕ) → i / a ≡ j / a → i / (a * b) ≡ j / (a * b)
shared_over i j a b e = sym (div-div-eq-div-mul i a b) ∙ ap (λ q. q / b) e ∙ div-div-eq-div-mul j a b

pub shared_rest : (i j a b : ℕ) → i / a ≡ j / a → (i % (a * b)) / a ≡ (j % (a * b)) / a
shared_rest i j a b e = rest_over i a b ∙ ap (λ q. q % b) e ∙ sym (rest_over j a b)

pub shared_behind : (i j a b : ℕ) → i / (a * b) ≡ j / (a * b) → (i / a) / b ≡ (j / a) / b
shared_behind i j a b e = div-div-eq-div-mul i a b ∙ e ∙ sym (div-div-eq-div-mul j a b)

-- ORDERS

pub all_placed : (ws : List EventId) (k : ℕ) → factorial (length ws) ≡ placings (length ws) k * factorial (length (drop k ws))
all_placed ws zero = omega arith
all_placed [] (suc k) = refl
all_placed (w ∷ ws) (suc k) =
    let n : ℕ = suc (length ws) in
    ap (λ m. n * m) (all_placed ws k) ∙ sym (mul_assoc n (placings (length ws) k) (factorial (length (drop k ws))))

pub ways_divide : (runs : List ThreadRun) (free k : ℕ) (xs : List ℕ) → (more : ℕ) × (product_by (count_orders runs) xs ≡ ways_of_orders runs free k xs * more)
ways_divide runs free k [] = (1, refl)
ways_divide runs zero k (x ∷ xs) =
    let p : ℕ = placings (length (later_writes runs x)) k in
    let f : ℕ = factorial (length (drop k (later_writes runs x))) in
    let m : ℕ = product_by (count_orders runs) xs in
    (f * m, ap (λ c. c * m) (all_placed (later_writes runs x) k) ∙ mul_assoc p f m)
ways_divide runs (suc free) k (x ∷ xs) =
    let r = ways_divide runs free k xs in
    (r.0, ap (λ m. count_orders runs x * m) r.1 ∙ sym (mul_assoc (count_orders runs x) (ways_of_orders runs free k xs) r.0))

-- READS

turned : (a b c : ℕ) → a * (b * c) ≡ b * (a * c)
turned a b c = sym (mul_assoc a b c) ∙ ap (λ z. z * c) (mul_comm a b) ∙ mul_assoc b a c

pub sources_split : (runs : List ThreadRun) (rs : List Event) (m : ℕ) → (more : ℕ) × (product_by (count_sources runs) rs ≡ product_by (count_sources runs) (drop m rs) * more)
sources_split runs rs zero = (1, omega arith)
sources_split runs [] (suc m) = (1, refl)
sources_split runs (r ∷ rs) (suc m) =
    let s = sources_split runs rs m in
    (count_sources runs r * s.0, ap (λ z. count_sources runs r * z) s.1 ∙ turned (count_sources runs r) (product_by (count_sources runs) (drop m rs)) s.0)

pub same_sources : (runs : List ThreadRun) (rs : List Event) (m i j : ℕ) → i / product_by (count_sources runs) (drop m rs) ≡ j / product_by (count_sources runs) (drop m rs) →
    take m (digits_down (count_sources runs) (source_at runs) rs i) ≡ take m (digits_down (count_sources runs) (source_at runs) rs j)
same_sources runs rs zero i j e = refl
same_sources runs [] (suc m) i j e = refl
same_sources runs (r ∷ rs) (suc m) i j e =
    let p : ℕ = product_by (count_sources runs) rs in
    let b : ℕ = product_by (count_sources runs) (drop m rs) in
    let d : (more : ℕ) × (p ≡ b * more) = sources_split runs rs m in
    let q : i / p ≡ j / p = (let P : ℕ → Type 0 = λ z. i / z ≡ j / z in subst P (sym d.1) (shared_over i j b d.0 e)) in
    let t : (i % p) / b ≡ (j % p) / b = (let P : ℕ → Type 0 = λ z. (i % z) / b ≡ (j % z) / b in subst P (sym d.1) (shared_rest i j b d.0 e)) in
    ap (λ z. source_at runs r z ∷ take m (digits_down (count_sources runs) (source_at runs) rs (i % p))) q ∙
    ap (λ ws. source_at runs r (j / p) ∷ ws) (same_sources runs rs m (i % p) (j % p) t)
