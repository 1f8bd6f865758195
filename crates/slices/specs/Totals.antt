-- Sums over numbers. No statement on what is found rests on this.
use Rattle.std.specs.Prelude.{ℕ, zero, suc, ◌+◌, ◌*◌, List, [], ◌∷◌, length}
use Rattle.listings.specs.Numbered.{arrange}
use Rattle.candidates.specs.Blocks.{placings}
use Rattle.slices.specs.Finals.{last_or}

-- the sum of f at the numbers below n
abbrev pub total : ℕ → (ℕ → ℕ) → ℕ
total zero f = 0
total (suc n) f = total n f + f n

-- f of the last of each order of ws in which the first k have each place, and the others are ordered by number q; summed
abbrev pub over_lasts : {X : Type 0} → X → List X → ℕ → ℕ → (X → ℕ) → ℕ
over_lasts i ws zero q f = f (last_or i (arrange ws q))
over_lasts i [] (suc k) q f = f i
over_lasts i (w ∷ ws) (suc k) q f = placings (length ws) k * f w + length ws * over_lasts i ws k q f
