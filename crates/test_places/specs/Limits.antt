-- The limits on threads and locations (docs/LITMUS.md, "Refusals", 19 and 20), and where a limit is first not kept.
use Rattle.std.specs.Prelude.{ℕ, ◌+◌, ◌<◌, ◌≤◌, List, [], length, take, fold, Option, Some, None, if◌then◌else◌}
use Rattle.litmus_tree.specs.Names.{with_name}
use Rattle.test_places.specs.declared.mark.Mark.{Mark}
use Rattle.test_places.specs.Rules.{is_location}

-- however far it is read, there is no more than this
abbrev pub AreFew : {X : Type 0} → (size : List X → ℕ) → (most : ℕ) → List X → Type 0
AreFew size most xs = (j : ℕ) → j ≤ length xs → size (take j xs) ≤ most

-- What stands at place k is the first with which there is more than this.
pub record IsFirstOver {X : Type 0} (size : List X → ℕ) (most : ℕ) (xs : List X) (k : ℕ) : Type 0 where
  pub within : k < length xs
  pub few : (j : ℕ) → j ≤ k → size (take j xs) ≤ most
  pub many : most < size (take (k + 1) xs)

abbrev pub with_some : List (List ℕ) → Option (List ℕ) → List (List ℕ)
with_some xs None = xs
with_some xs (Some x) = with_name xs x

-- xs, and then the name of a mark where it is a location's and isn't among them
abbrev pub with_location : List (List ℕ) → Mark → List (List ℕ)
with_location xs m = if is_location m then with_some xs m.name else xs

-- how many locations there are
abbrev pub locations : List Mark → ℕ
locations ms = length (fold with_location [] ms)
