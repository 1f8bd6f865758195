-- The longest front of bytes that pass a test.
use Rattle.std.proofs.Common.{◌≡◌, ℕ, ◌<◌, ◌≤◌, Bool, true, List, [], ◌∷◌, length, get_or, arith}
use Rattle.std.specs.List.{prefix_len}
use Rattle.std.proofs.lemmas.List.Sums.{prefix_len-le-length}
use Rattle.wb_text.specs.declared.byte.Class.{Class}
use Rattle.wb_text.specs.declared.token.Dialect.{Dialect}
use Rattle.wb_text.specs.declared.token.Dialect.TheVariants.{Litmus, Cat}
use Rattle.wb_text.specs.Bytes.{is_name_start, is_name_part, is_of}

-- it is not empty where the first byte passes
pub prefix_len-pos : (p : ℕ → Bool) (xs : List ℕ) → 0 < length xs → p (get_or xs 0 0) ≡ true → 0 < prefix_len p xs
prefix_len-pos p [] h e = absurd (omega arith)
prefix_len-pos p (x ∷ xs) h e = rw e (omega arith)

pub run_within : (k : Class) (xs : List ℕ) → prefix_len (is_of k) xs ≤ length xs
run_within k xs = prefix_len-le-length (is_of k) xs

-- what begins a name goes on with it
pub start_is_part : (d : Dialect) (b : ℕ) → is_name_start b ≡ true → is_name_part d b ≡ true
start_is_part Litmus b e = grind arith
start_is_part Cat b e = grind arith
