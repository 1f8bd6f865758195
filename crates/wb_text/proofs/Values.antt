-- The values of decimal digits.
use Rattle.std.proofs.Common.{◌≡◌, ℕ, ◌+◌, ◌*◌, ◌-◌, ◌<◌, ◌≤◌, List, [], ◌∷◌, ◌++◌, length, take, drop, fold, get_or, ap, arith, take-append-drop}
use Rattle.std.proofs.lemmas.List.Sums.{fold-append, fold_more}
use Rattle.wb_text.specs.Numbers.{decimal_value}

-- a digit more makes no value smaller
fold-grows : (a : ℕ) (xs : List ℕ) → a ≤ fold (λ value digit. value * 10 + (digit - 48)) a xs
fold-grows a [] = omega arith
fold-grows a (x ∷ xs) = omega (arith, fold-grows (a * 10 + (x - 48)) xs)

pub decimal_value-take : (n : ℕ) (xs : List ℕ) → decimal_value (take n xs) ≤ decimal_value xs
decimal_value-take n xs =
    let e : decimal_value (take n xs ++ drop n xs) ≡ fold (λ value digit. value * 10 + (digit - 48)) (decimal_value (take n xs)) (drop n xs) = fold-append (λ value digit. value * 10 + (digit - 48)) 0 (take n xs) (drop n xs) in
    let s : decimal_value (take n xs ++ drop n xs) ≡ decimal_value xs = ap decimal_value (take-append-drop n xs) in
    omega (arith, fold-grows (decimal_value (take n xs)) (drop n xs))

pub decimal_value-more : (xs : List ℕ) (i : ℕ) (d : ℕ) → i < length xs → decimal_value (take (i + 1) xs) ≡ decimal_value (take i xs) * 10 + (get_or xs i d - 48)
decimal_value-more xs i d h = fold_more (λ value digit. value * 10 + (digit - 48)) 0 xs i d h
