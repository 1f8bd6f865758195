-- Lists that are filled one by one with what a function gives of each.
use Rattle.std.proofs.Common.{◌≡◌, ℕ, ◌+◌, ◌<◌, ◌≤◌, List, [], ◌∷◌, ◌++◌, length, map, take, get_or, sym, ◌∙◌, ap, arith}
use Rattle.std.proofs.lemmas.List.{length-map, length-take, map_more, take_all}

pub mapped_more : {X Y : Type 0} (f : X → Y) (xs : List X) (i : ℕ) (d : X) (y : Y) (ys zs : List Y) → ys ≡ map f (take i xs) → i < length xs → y ≡ f (get_or xs i d) → zs ≡ ys ++ y ∷ [] → zs ≡ map f (take (i + 1) xs)
mapped_more f xs i d y ys zs h l e push = push ∙ ap (λ vs. vs ++ y ∷ []) h ∙ ap (λ v. map f (take i xs) ++ v ∷ []) e ∙ sym (map_more f xs i d l)

pub mapped_all : {X Y : Type 0} (f : X → Y) (xs : List X) (i : ℕ) (ys : List Y) → ys ≡ map f (take i xs) → length xs ≤ i → ys ≡ map f xs
mapped_all f xs i ys h l = h ∙ ap (map f) (take_all i xs l)

-- how many there are so far
pub mapped_many : {X Y : Type 0} (f : X → Y) (xs : List X) (i : ℕ) (ys : List Y) → ys ≡ map f (take i xs) → i < length xs → length ys ≡ i
mapped_many f xs i ys h l =
    let n : length ys ≡ length (take i xs) = ap length h ∙ length-map (take i xs) f in
    let m = length-take i xs in
    omega (arith, n, m, l)
