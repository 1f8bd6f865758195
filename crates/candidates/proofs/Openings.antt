-- Candidates whose numbers share a quotient extend what is known of each of them, where some of their writes have no place.
use Rattle.std.proofs.Common.{◌≡◌, ℕ, zero, suc, ◌+◌, ◌/◌, ◌%◌, ◌*◌, ◌<◌, ◌≤◌, ◌⊎◌, ◌==◌, if◌then◌else◌, cond, not, false, List, [], ◌∷◌, ◌++◌, length, take, drop, refl, sym, ◌∙◌, ap, subst, inl, inr, arith}
use Rattle.std.specs.List.{All}
use Rattle.std.proofs.lemmas.List.Elements.{All-nil, All-cons, All-append}
use Rattle.std.proofs.Math.Nat.{div-one, div-div-eq-div-mul, div-eq_of_lt, mod-lt}
use Rattle.std.proofs.lemmas.Bool.{cases_Bool, eq-eqb, ne_eqb, lt-ltb, le-ltb, false≢true}
use Rattle.std.proofs.lemmas.List.{take-append-drop}
use Rattle.events.specs.declared.event.EventId.{EventId}
use Rattle.events.specs.declared.event.EventId.TheVariants.{Initial}
use Rattle.events.specs.Cuts.{is_among, placed, first_before, known_of, known_from, known_part}
use Rattle.events.specs.Executions.{ThreadRun}
use Rattle.events.specs.Extends.{IsPartOfOne, Extends}
use Rattle.events.proofs.Cutting.{among_in, in_among}
use Rattle.listings.specs.Lists.{IsIn, NoRepeats, StandsAt, product_by, factorial, tabulate}
use Rattle.listings.specs.Numbered.{digits, arrange}
use Rattle.listings.proofs.Arrangements.{put, insert-put}
use Rattle.candidates.specs.declared.depths.Known.{Known}
use Rattle.candidates.specs.declared.depths.Known.TheVariants.{Sources, Orders}
use Rattle.candidates.specs.Executions.{reads, later_writes, upto}
use Rattle.candidates.specs.Candidates.{count_sources, count_orders, order_at, count_co, rf_at, candidate}
use Rattle.candidates.specs.Blocks.{placings, ways_of_orders, size_by, cut_of}
use Rattle.candidates.proofs.Caps.{product_positive, orders_positive}
use Rattle.candidates.proofs.Cutting.{all_later, all_placed, arranged_part, in_take, order_self, pairs_part, same_sources, shared_behind, shared_over, shared_rest, ways_divide}
use Rattle.candidates.proofs.Sizes.{all_open}
use Rattle.candidates.proofs.Writing.{once_later, once_sources}

-- ORDERS WITHOUT SOME WRITES

not_among : (ws : List EventId) (e : EventId) → ¬ IsIn e ws → is_among ws e ≡ false
not_among ws e h = elim (cases_Bool (is_among ws e)) [ inl t ↦ absurd (h (among_in ws e t)) | inr f ↦ f ]

among_others : (w : EventId) (ys : List EventId) (e : EventId) → (e ≡ w → ⊥) → is_among (w ∷ ys) e ≡ is_among ys e
among_others w ys e h = elim (cases_Bool (is_among ys e)) [
  | inl t ↦ in_among (w ∷ ys) e (inr (among_in ys e t)) ∙ sym t
  | inr f ↦ not_among (w ∷ ys) e (λ m. elim m [ inl q ↦ h q | inr i ↦ false≢true (sym f ∙ in_among ys e i) ]) ∙ sym f
]

placed_first : (w : EventId) (ys xs : List EventId) → placed (w ∷ ys) (w ∷ xs) ≡ placed (w ∷ ys) xs
placed_first w ys xs = ap (λ b. cond (not b) (w ∷ placed (w ∷ ys) xs) (placed (w ∷ ys) xs)) (in_among (w ∷ ys) w (inl refl))

placed_other : (w x : EventId) (ys xs zs : List EventId) → (x ≡ w → ⊥) → placed (w ∷ ys) xs ≡ placed ys zs → placed (w ∷ ys) (x ∷ xs) ≡ placed ys (x ∷ zs)
placed_other w x ys xs zs h e =
    ap (λ b. cond (not b) (x ∷ placed (w ∷ ys) xs) (placed (w ∷ ys) xs)) (among_others w ys x h) ∙ ap (λ (vs : List EventId). cond (not (is_among ys x)) (x ∷ vs) vs) e

placed_others : (w : EventId) (ys xs : List EventId) → ¬ IsIn w xs → placed (w ∷ ys) xs ≡ placed ys xs
placed_others w ys [] h = refl
placed_others w ys (x ∷ xs) h = placed_other w x ys xs xs (λ e. h (inl (sym e))) (placed_others w ys xs (λ m. h (inr m)))

placed_put : (w : EventId) (d : ℕ) (ys xs : List EventId) → ¬ IsIn w xs → placed (w ∷ ys) (put w d xs) ≡ placed ys xs
placed_put w zero ys xs h = placed_first w ys xs ∙ placed_others w ys xs h
placed_put w (suc d) ys [] h = placed_first w ys []
placed_put w (suc d) ys (x ∷ xs) h = placed_other w x ys (put w d xs) xs (λ e. h (inl (sym e))) (placed_put w d ys xs (λ m. h (inr m)))

all_have : (xs : List EventId) → placed [] xs ≡ xs
all_have [] = refl
all_have (x ∷ xs) = ap (λ (zs : List EventId). x ∷ zs) (all_have xs)

pub in_put : (v w : EventId) (d : ℕ) (xs : List EventId) → IsIn v (put w d xs) → (v ≡ w) ⊎ IsIn v xs
in_put v w zero xs h = h
in_put v w (suc d) [] h = h
in_put v w (suc d) (x ∷ xs) h = elim h [ inl e ↦ inr (inl e) | inr m ↦ elim (in_put v w d xs m) [ inl e ↦ inl e | inr n ↦ inr (inr n) ] ]

pub in_arrange : (ws : List EventId) (i : ℕ) (v : EventId) → IsIn v (arrange ws i) → IsIn v ws
in_arrange [] i v h = h
in_arrange (w ∷ ws) i v h =
    let n : ℕ = suc (length ws) in
    let P : List EventId → Type 0 = λ xs. IsIn v xs in
    elim (in_put v w (i % n) (arrange ws (i / n)) (subst P (insert-put w (i % n) (arrange ws (i / n))) h)) [ inl e ↦ inl e | inr m ↦ inr (in_arrange ws (i / n) v m) ]

-- An order without its first writes is one of the others.
pub placed_arranged : (k : ℕ) (ws : List EventId) (i : ℕ) → NoRepeats ws → placed (take k ws) (arrange ws i) ≡ arrange (drop k ws) (i / placings (length ws) k)
placed_arranged zero ws i o = all_have (arrange ws i) ∙ ap (arrange ws) (sym (div-one i))
placed_arranged (suc k) [] i o = refl
placed_arranged (suc k) (w ∷ ws) i o =
    let n : ℕ = suc (length ws) in
    let xs : List EventId = arrange ws (i / n) in
    ap (placed (w ∷ take k ws)) (insert-put w (i % n) xs)
    ∙ placed_put w (i % n) (take k ws) xs (λ m. o.0 (in_arrange ws (i / n) w m))
    ∙ placed_arranged k ws (i / n) o.1
    ∙ ap (arrange (drop k ws)) (div-div-eq-div-mul i n (placings (length ws) k))

placed_order : (runs : List ThreadRun) (x k i : ℕ) → let later = later_writes runs x in placed (take k later) (order_at runs x i) ≡ Initial x ∷ arrange (drop k later) (i / placings (length later) k)
placed_order runs x k i =
    let later : List EventId = later_writes runs x in
    let rest : List EventId = placed (take k later) (arrange later i) in
    ap (λ b. cond (not b) (Initial x ∷ rest) rest) (not_among (take k later) (Initial x) (λ m. (once_sources runs x).0 (in_take (Initial x) k later m)))
    ∙ ap (λ (zs : List EventId). Initial x ∷ zs) (placed_arranged k later i (once_later runs x))

-- WHAT IS KNOWN OF THE ORDERS

-- these are the locations from x on
abbrev pub AreFrom : ℕ → List ℕ → Type 0
AreFrom x [] = Unit {0}
AreFrom x (y ∷ ys) = (y ≡ x) × AreFrom (suc x) ys

pub from_tabulate : (n x : ℕ) (g : ℕ → ℕ) → ((i : ℕ) → g i ≡ x + i) → AreFrom x (tabulate n g)
from_tabulate zero x g h = tt
from_tabulate (suc n) x g h = (
  h 0 ∙ (let e : x + 0 ≡ x = omega arith in e),
  from_tabulate n (suc x) (λ i. g (suc i)) (λ i. h (suc i) ∙ (let e : x + suc i ≡ suc x + i = omega arith in e)),
)

known_before : (free : ℕ) (ws : List EventId) (x : ℕ) (order : List EventId) → x < free → known_of free ws x order ≡ first_before order (drop 1 order)
known_before free ws x order l =
    ap (λ b. if b then first_before order (drop 1 order) else (if x == free then placed ws order ∷ first_before order ws else order ∷ [])) (lt-ltb x free l)

known_at : (free : ℕ) (ws : List EventId) (order : List EventId) → known_of free ws free order ≡ placed ws order ∷ first_before order ws
known_at free ws order =
    ap (λ b. if b then first_before order (drop 1 order) else (if free == free then placed ws order ∷ first_before order ws else order ∷ [])) (le-ltb free free (omega arith))
    ∙ ap (λ b. if b then placed ws order ∷ first_before order ws else order ∷ []) (eq-eqb free free refl)

known_behind : (free : ℕ) (ws : List EventId) (x : ℕ) (order : List EventId) → free < x → known_of free ws x order ≡ order ∷ []
known_behind free ws x order l =
    ap (λ b. if b then first_before order (drop 1 order) else (if x == free then placed ws order ∷ first_before order ws else order ∷ [])) (le-ltb x free (omega (arith, l)))
    ∙ ap (λ b. if b then placed ws order ∷ first_before order ws else order ∷ []) (ne_eqb x free (λ e. absurd (omega (arith, e, l))))

all_behind : (free : ℕ) (ws : List EventId) (x : ℕ) (orders : List (List EventId)) → free < x → known_from free ws x orders ≡ orders
all_behind free ws x [] l = refl
all_behind free ws x (order ∷ orders) l =
    ap (λ (os : List (List EventId)). os ++ known_from free ws (suc x) orders) (known_behind free ws x order l) ∙ ap (λ (os : List (List EventId)). order ∷ os) (all_behind free ws (suc x) orders (omega (arith, l)))

-- of the location whose first k later writes have no place, and of those behind it
at_free : (runs : List ThreadRun) (k x : ℕ) (xs : List ℕ) (i j : ℕ) → i / ways_of_orders runs 0 k (x ∷ xs) ≡ j / ways_of_orders runs 0 k (x ∷ xs) →
    All (IsPartOfOne (digits (count_orders runs) (order_at runs) (x ∷ xs) j)) (known_from x (take k (later_writes runs x)) x (digits (count_orders runs) (order_at runs) (x ∷ xs) i))
at_free runs k x xs i j e =
    let c : ℕ = count_orders runs x in
    let later : List EventId = later_writes runs x in
    let ws : List EventId = take k later in
    let p : ℕ = placings (length later) k in
    let f : ℕ = factorial (length (drop k later)) in
    let d : c ≡ p * f = all_placed later k in
    let q : i / c ≡ j / c = (let P : ℕ → Type 0 = λ m. i / m ≡ j / m in subst P (sym d) (shared_over i j p f e)) in
    let r : (i % c) / p ≡ (j % c) / p = (let P : ℕ → Type 0 = λ m. (i % m) / p ≡ (j % m) / p in subst P (sym d) (shared_rest i j p f e)) in
    let mine : List EventId = order_at runs x (i % c) in
    let order : List EventId = order_at runs x (j % c) in
    let rest : ℕ → List (List EventId) = λ n. digits (count_orders runs) (order_at runs) xs n in
    let part : List EventId = Initial x ∷ arrange (drop k later) ((j % c) / p) in
    let R : List EventId → Type 0 = IsPartOfOne (order ∷ rest (j / c)) in
    let pairs : List (List EventId) = first_before mine ws in
    let is : (part ∷ pairs) ++ rest (j / c) ≡ known_from x ws x (mine ∷ rest (i / c)) =
    ap (λ (os : List (List EventId)). (part ∷ pairs) ++ os) (ap rest (sym q))
    ∙ ap (λ (o : List EventId). (o ∷ pairs) ++ rest (i / c)) (ap (λ m. Initial x ∷ arrange (drop k later) m) (sym r) ∙ sym (placed_order runs x k (i % c)))
    ∙ ap (λ (os : List (List EventId)). os ++ rest (i / c)) (sym (known_at x ws mine))
    ∙ ap (λ (os : List (List EventId)). known_of x ws x mine ++ os) (sym (all_behind x ws (suc x) (rest (i / c)) (omega arith))) in
    let P : List (List EventId) → Type 0 = All R in
    subst P is (All-cons R part (pairs ++ rest (j / c)) (0, order, refl, inl (refl, arranged_part later k (j % c)))
    (All-append R pairs (rest (j / c)) (pairs_part x later ws (j % c) (rest (j / c)) (λ w m. in_take w k later m)) (all_later order (rest (j / c)) (rest (j / c)) (order_self (rest (j / c))))))

-- of the locations from x on, of which so many are free
orders_known : (runs : List ThreadRun) (free k x f : ℕ) (xs : List ℕ) (i j : ℕ) → free ≡ x + f → AreFrom x xs → i / ways_of_orders runs f k xs ≡ j / ways_of_orders runs f k xs →
    All (IsPartOfOne (digits (count_orders runs) (order_at runs) xs j)) (known_from free (take k (later_writes runs free)) x (digits (count_orders runs) (order_at runs) xs i))
orders_known runs free k x f [] i j at are e = All-nil (IsPartOfOne [])
orders_known runs free k x zero (y ∷ ys) i j at are e =
    let P : ℕ → ℕ → Type 0 = λ z w. All (IsPartOfOne (digits (count_orders runs) (order_at runs) (y ∷ ys) j)) (known_from z (take k (later_writes runs z)) w (digits (count_orders runs) (order_at runs) (y ∷ ys) i)) in
    let P1 : ℕ → Type 0 = λ z. P z y in
    let P2 : ℕ → Type 0 = λ w. P free w in
    subst P2 are.0 (subst P1 (are.0 ∙ (let h : x ≡ free = omega (arith, at) in h)) (at_free runs k y ys i j e))
orders_known runs free k x (suc f) (y ∷ ys) i j at are e =
    let c : ℕ = count_orders runs y in
    let later : List EventId = later_writes runs y in
    let ws : List EventId = take k (later_writes runs free) in
    let mine : List EventId = order_at runs y (i % c) in
    let order : List EventId = order_at runs y (j % c) in
    let rest : ℕ → List (List EventId) = λ n. digits (count_orders runs) (order_at runs) ys n in
    let R : List EventId → Type 0 = IsPartOfOne (order ∷ rest (j / c)) in
    let pairs : List (List EventId) = first_before mine (drop 1 mine) in
    let behind : List (List EventId) = known_from free ws (suc x) (rest (i / c)) in
    let P : List (List EventId) → Type 0 = λ os. All R (os ++ behind) in
    subst P (sym (known_before free ws x mine (omega (arith, at))))
    (All-append R pairs behind (pairs_part y later (arrange later (i % c)) (j % c) (rest (j / c)) (in_arrange later (i % c)))
    (all_later order (rest (j / c)) behind (orders_known runs free k (suc x) f ys (i / c) (j / c) (omega (arith, at)) are.1 (shared_behind i j c (ways_of_orders runs f k ys) e))))

-- OF CANDIDATES

-- what stands among the first stands so in the whole
stands_first : (m : ℕ) (ws : List EventId) (k : ℕ) (e : EventId) → StandsAt (take m ws) k e → StandsAt ws k e
stands_first zero ws k e s = absurd s
stands_first (suc m) [] k e s = absurd s
stands_first (suc m) (w ∷ ws) zero e s = s
stands_first (suc m) (w ∷ ws) (suc k) e s = stands_first m ws k e s

extends_known : (init : List ℕ) (runs : List ThreadRun) (m free k i j : ℕ) → let c = count_co (length init) runs in let w = ways_of_orders runs free k (upto (length init)) in
    take m (rf_at runs (i / c)) ≡ take m (rf_at runs (j / c)) → (i % c) / w ≡ (j % c) / w → Extends (known_part (candidate init runs i) m free (take k (later_writes runs free))) (candidate init runs j)
extends_known init runs m free k i j s e =
    let n : ℕ = length init in
    let c : ℕ = count_co n runs in
    record {
      init = refl;
      runs = refl;
      rf = λ k e t. inl (let P : List EventId → Type 0 = λ ws. StandsAt ws k e in stands_first m (rf_at runs (j / c)) k e (subst P s t));
      co = orders_known runs free k 0 free (upto n) (i % c) (j % c) (omega arith) (from_tabulate n 0 (λ x. x) (λ x. let h : x ≡ 0 + x = omega arith in h)) e;
    }

-- no order is left where all are open
no_order : (runs : List ThreadRun) (n i : ℕ) → (i % count_co n runs) / ways_of_orders runs n 0 (upto n) ≡ 0
no_order runs n i =
    ap (λ w. (i % count_co n runs) / w) (all_open n runs) ∙ div-eq_of_lt (mod-lt i (let p : 1 ≤ count_co n runs = product_positive (count_orders runs) (orders_positive runs) (upto n) in let l : 0 < count_co n runs = omega (arith, p) in l))

-- The candidates of a block extend what is known of one of them.
pub extends_cut : (init : List ℕ) (runs : List ThreadRun) (k : Known) (i j : ℕ) → i / size_by (length init) runs k ≡ j / size_by (length init) runs k → Extends (cut_of k (candidate init runs i)) (candidate init runs j)
extends_cut init runs (Sources m) i j e =
    let n : ℕ = length init in
    let c : ℕ = count_co n runs in
    extends_known init runs m n 0 i j (same_sources runs (reads runs) m (i / c) (j / c) (shared_behind i j c (product_by (count_sources runs) (drop m (reads runs))) e)) (no_order runs n i ∙ sym (no_order runs n j))
extends_cut init runs (Orders o) i j e =
    let n : ℕ = length init in
    let c : ℕ = count_co n runs in
    let w : ℕ = ways_of_orders runs o.locations o.writes (upto n) in
    let d : (more : ℕ) × (c ≡ w * more) = ways_divide runs o.locations o.writes (upto n) in
    let q : i / c ≡ j / c = (let P : ℕ → Type 0 = λ m. i / m ≡ j / m in subst P (sym d.1) (shared_over i j w d.0 e)) in
    let r : (i % c) / w ≡ (j % c) / w = (let P : ℕ → Type 0 = λ m. (i % m) / w ≡ (j % m) / w in subst P (sym d.1) (shared_rest i j w d.0 e)) in
    extends_known init runs (length (reads runs)) o.locations o.writes i j (ap (λ z. take (length (reads runs)) (rf_at runs z)) q) r
