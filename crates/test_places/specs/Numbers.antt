-- The values of a test by its numbers, as they stand (docs/LITMUS.md, "Values" and "Refusals", 22 and 23).
use Rattle.std.specs.Prelude.{ℕ, List, [], ◌∷◌, ◌++◌, length, fold, max, Bool, true, not, ◌&&◌, Option, Some, None, if◌then◌else◌}
use Rattle.std.specs.List.{list_any}
use Rattle.litmus_value.specs.Values.{with_value, with_sums}
use Rattle.test_places.specs.contracts.mark.RolePartialEq.TheImpl.{ghosts as role_equality}
use Rattle.test_places.specs.declared.mark.Mark.{Mark}
use Rattle.test_places.specs.declared.mark.Role.{Role}
use Rattle.test_places.specs.declared.mark.Role.TheVariants.{Constant, Added, Nothing}
use Rattle.test_places.specs.Rules.{is_first, is_named}

-- Of two entries of the initial state for one place the later holds.

-- the name of an entry, for the place of this name and role
abbrev pub is_entry_of : Role → List ℕ → Mark → Bool
is_entry_of r x m = is_first m.part && role_equality.eq m.role r && is_named x m

-- An entry holds if its name has no further one among the marks ms behind; up to its name, what was so before.
abbrev pub holds_named : Option (List ℕ) → Role → List Mark → (before : Bool) → Bool
holds_named None r ms before = before
holds_named (Some x) r ms before = not (list_any (is_entry_of r x) ms)

-- whether what m is in holds: outside the initial state it does
abbrev pub holds : Mark → List Mark → (before : Bool) → Bool
holds m ms before = if is_first m.part then holds_named m.name m.role ms before else true

-- a number of an entry that doesn't hold is none
abbrev pub counted : Bool → Mark → Role
counted holds m = if holds then m.role else Nothing

abbrev pub numbers_from : (before : Bool) → List Mark → List Role
numbers_from before [] = []
numbers_from before (m ∷ ms) = counted (holds m ms before) m ∷ numbers_from (holds m ms before) ms

-- the marks as numbers: which are constants and which are added
abbrev pub numbers_of : List Mark → List Role
numbers_of ms = numbers_from true ms

abbrev pub with_constant : List ℕ → Role → List ℕ
with_constant vs (Constant n) = with_value vs n
with_constant vs r = vs

abbrev pub with_added : List ℕ → Role → List ℕ
with_added cs (Added n) = cs ++ n ∷ []
with_added cs r = cs

-- 0, 1 and the constants, and what the adds make of them
abbrev pub values_with : List Role → List ℕ
values_with rs = with_sums (fold with_constant (0 ∷ 1 ∷ []) rs) (fold with_added [] rs)

-- how many values there are
abbrev pub values : List Role → ℕ
values rs = length (values_with rs)

-- the greatest of them
abbrev pub greatest : List Role → ℕ
greatest rs = fold max 0 (values_with rs)
