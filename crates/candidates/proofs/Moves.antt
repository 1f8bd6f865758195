-- Orders made from one another by moves of one write.
use Rattle.std.proofs.Common.{◌≡◌, ℕ, zero, suc, ◌+◌, ◌-◌, ◌/◌, ◌%◌, ◌<◌, ◌≤◌, List, [], ◌∷◌, ◌++◌, length, take, drop, refl, sym, ◌∙◌, ap, append-nil, arith}
use Rattle.std.proofs.Math.Nat.{zero-div, zero-mod}
use Rattle.std.proofs.lemmas.List.{take_all, drop_all}
use Rattle.std.specs.List.{insert, swap}
use Rattle.std.proofs.lemmas.List.Edits.{swap_is, length-insert}
use Rattle.listings.specs.Numbered.{arrange}

-- The same write stands at place j of ys, among the same others, that stands at place i of xs.
abbrev pub IsMoved : {X : Type 0} → List X → ℕ → List X → ℕ → Type 0
IsMoved {X} xs i ys j = (ws : List X) (w : X) → xs ≡ insert ws i w → ys ≡ insert ws j w

swap_next : {X : Type 0} (ws : List X) (i : ℕ) (w : X) → i < length ws → swap (insert ws i w) i (suc i) ≡ insert ws (suc i) w
swap_next [] i w l = absurd (omega (arith, l))
swap_next (x ∷ ws) zero w l = refl
swap_next {X} (x ∷ ws) (suc i) w l =
    let ys = insert ws i w in
    let n : length ys ≡ length ws + 1 = length-insert ws i w (omega (arith, l)) in
    ap (λ (zs : List X). x ∷ zs) (swap_is ys i (suc i) x (omega (arith, n, l)) (omega (arith, n, l)) ∙ swap_next ws i w (omega (arith, l)))

swap_before : {X : Type 0} (ws : List X) (i : ℕ) (w : X) → i < length ws → swap (insert ws (suc i) w) i (suc i) ≡ insert ws i w
swap_before [] i w l = absurd (omega (arith, l))
swap_before (x ∷ ws) zero w l = refl
swap_before {X} (x ∷ ws) (suc i) w l =
    let ys = insert ws (suc i) w in
    let n : length ys ≡ length ws + 1 = length-insert ws (suc i) w (omega (arith, l)) in
    ap (λ (zs : List X). x ∷ zs) (swap_is ys i (suc i) x (omega (arith, n, l)) (omega (arith, n, l)) ∙ swap_before ws i w (omega (arith, l)))

one_more : {X : Type 0} (ws : List X) (i : ℕ) (w : X) → length (insert ws i w) ≡ length ws + 1
one_more [] zero w = refl
one_more [] (suc i) w = refl
one_more (x ∷ ws) zero w = omega arith
one_more (x ∷ ws) (suc i) w = omega (arith, one_more ws i w)

length_of : {X : Type 0} (ws : List X) (i : ℕ) (w : X) (xs : List X) → xs ≡ insert ws i w → length xs ≡ length ws + 1
length_of {X} ws i w xs e = ap (λ (zs : List X). length zs) e ∙ one_more ws i w

-- A swap moves a write on by one place.
pub moved_on : {X : Type 0} (old xs ys : List X) (from i j : ℕ) → j ≡ i + 1 → j < length xs → ys ≡ swap xs i j → IsMoved old from xs i → IsMoved old from ys j
moved_on {X} old xs ys from i j is l f h ws w e =
    let s : j ≡ suc i = omega (arith, is) in
    let k : xs ≡ insert ws i w = h ws w e in
    let many = length_of ws i w xs k in
    f ∙ ap (λ (zs : List X). swap zs i j) k ∙ rw s (swap_next ws i w (omega (arith, is, l, many)))

-- A swap moves a write back by one place.
pub moved_back : {X : Type 0} (old xs ys : List X) (from i j : ℕ) → i ≡ j + 1 → i < length xs → ys ≡ swap xs j i → IsMoved old from xs i → IsMoved old from ys j
moved_back {X} old xs ys from i j is l f h ws w e =
    let s : i ≡ suc j = omega (arith, is) in
    let k : xs ≡ insert ws i w = h ws w e in
    let many = length_of ws i w xs k in
    f ∙ ap (λ (zs : List X). swap zs j i) k ∙ rw s (swap_before ws j w (omega (arith, is, l, many)))

pub length_arrange : {X : Type 0} (ws : List X) (i : ℕ) → length (arrange ws i) ≡ length ws
length_arrange [] i = refl
length_arrange (w ∷ ws) i = one_more (arrange ws (i / suc (length ws))) (i % suc (length ws)) w ∙ omega (arith, length_arrange ws (i / suc (length ws)))

length_arranged : {X : Type 0} (ws : List X) (i : ℕ) (xs : List X) → xs ≡ arrange ws i → length xs ≡ length ws
length_arranged {X} ws i xs e = ap (λ (zs : List X). length zs) e ∙ length_arrange ws i

-- Of no writes there is one order.
pub turned_none : {X : Type 0} (xs ws : List X) (i j : ℕ) → length xs ≡ 0 → xs ≡ arrange ws i → xs ≡ arrange ws j
turned_none xs [] i j l e = e
turned_none xs (w ∷ ws) i j l e = absurd (omega (arith, l, length_arranged (w ∷ ws) i xs e))

-- Where the others keep their order, the first is moved alone.
pub turned_first : {X : Type 0} (xs ys ws : List X) (i j n : ℕ) → n ≡ length xs → 1 ≤ n → i / n ≡ j / n → IsMoved xs (i % n) ys (j % n) → xs ≡ arrange ws i → ys ≡ arrange ws j
turned_first xs ys [] i j n is l e m h = absurd (omega (arith, is, l, length_arranged [] i xs h))
turned_first {X} xs ys (w ∷ ws) i j n is l e m h =
    let k : n ≡ suc (length ws) = omega (arith, is, length_arranged (w ∷ ws) i xs h) in
    let old : xs ≡ insert (arrange ws (i / n)) (i % n) w = h ∙ ap (λ q. insert (arrange ws (i / q)) (i % q) w) (sym k) in
    m (arrange ws (i / n)) w old ∙ ap (λ q. insert (arrange ws q) (j % n) w) e ∙ ap (λ q. insert (arrange ws (j / q)) (j % q) w) k

-- Else the first is moved to the front, the others are turned, and the first is moved to its place.
pub turned_all : {X : Type 0} (xs front rest more made ys ws : List X) (i j n : ℕ) → n ≡ length xs → 1 ≤ n → IsMoved xs (i % n) front 0 → rest ≡ drop 1 front → ((vs : List X) → rest ≡ arrange vs (i / n) → more ≡ arrange vs (j / n)) → made ≡ take 1 front ++ more → IsMoved made 0 ys (j % n) → xs ≡ arrange ws i → ys ≡ arrange ws j
turned_all xs front rest more made ys [] i j n is l a r t p b h = absurd (omega (arith, is, l, length_arranged [] i xs h))
turned_all {X} xs front rest more made ys (w ∷ ws) i j n is l a r t p b h =
    let k : n ≡ suc (length ws) = omega (arith, is, length_arranged (w ∷ ws) i xs h) in
    let old : xs ≡ insert (arrange ws (i / n)) (i % n) w = h ∙ ap (λ q. insert (arrange ws (i / q)) (i % q) w) (sym k) in
    let f : front ≡ w ∷ arrange ws (i / n) = a (arrange ws (i / n)) w old in
    let g : more ≡ arrange ws (j / n) = t ws (r ∙ ap (λ (zs : List X). drop 1 zs) f) in
    let m : made ≡ w ∷ arrange ws (j / n) = p ∙ ap (λ (zs : List X). take 1 zs ++ more) f ∙ ap (λ (zs : List X). w ∷ zs) g in
    b (arrange ws (j / n)) w m ∙ ap (λ q. insert (arrange ws (j / q)) (j % q) w) k

-- What is behind the first of some, as a part of a slice.
pub behind_first : {X : Type 0} (xs : List X) → take (length xs - 1) (drop 1 xs) ≡ drop 1 xs
behind_first [] = refl
behind_first (x ∷ xs) = take_all (length (x ∷ xs) - 1) xs (omega arith)

none_behind : {X : Type 0} (xs : List X) → drop (length xs - 1) (drop 1 xs) ≡ []
none_behind [] = refl
none_behind (x ∷ xs) = drop_all (length (x ∷ xs) - 1) xs (omega arith)

pub first_kept : {X : Type 0} (xs ys : List X) → take 1 xs ++ (ys ++ drop (length xs - 1) (drop 1 xs)) ≡ take 1 xs ++ ys
first_kept {X} xs ys = ap (λ (zs : List X). take 1 xs ++ (ys ++ zs)) (none_behind xs) ∙ ap (λ (zs : List X). take 1 xs ++ zs) (append-nil ys)

-- The order with the number 0 is that of the writes as they stand.
pub first_order : {X : Type 0} (ws : List X) → ws ≡ arrange ws 0
first_order [] = refl
first_order {X} (w ∷ ws) =
    let n = suc (length ws) in
    let q : 0 / n ≡ 0 = zero-div n in
    let r : 0 % n ≡ 0 = zero-mod n in
    rw (q, r) (ap (λ (zs : List X). w ∷ zs) (first_order ws))
