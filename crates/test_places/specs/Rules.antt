-- The rules on names, for each name where it stands (docs/LITMUS.md, "Refusals", 14 to 16).
use Rattle.std.specs.Prelude.{ℕ, ◌==◌, List, Bool, true, false, not, ◌&&◌, ◌||◌, Option, Some, None, if◌then◌else◌}
use Rattle.std.specs.List.{list_any}
use Rattle.std.specs.Str.{bytes_eq}
use Rattle.litmus_tree.specs.contracts.tree.LocationKindPartialEq.TheImpl.{ghosts as kind_equality}
use Rattle.litmus_tree.specs.declared.tree.LocationKind.{LocationKind}
use Rattle.litmus_tree.specs.declared.tree.LocationKind.TheVariants.{Atomic, Plain}
use Rattle.test_places.specs.contracts.mark.PartPartialEq.TheImpl.{ghosts as part_equality}
use Rattle.test_places.specs.contracts.mark.RolePartialEq.TheImpl.{ghosts as role_equality}
use Rattle.test_places.specs.declared.mark.Mark.{Mark}
use Rattle.test_places.specs.declared.mark.Part.{Part}
use Rattle.test_places.specs.declared.mark.Part.TheVariants.{Initial, Thread, Final}
use Rattle.test_places.specs.declared.mark.Role.{Role}
use Rattle.test_places.specs.declared.mark.Role.TheVariants.{Head, Location, Register, Parameter, Given, Read, Accessed, Called}
use Rattle.test_places.specs.declared.rules.Rule.{Rule}
use Rattle.test_places.specs.declared.rules.Rule.TheVariants.{Names, PlainAccess, AtomicAccess}

abbrev pub is_same : List ℕ → Option (List ℕ) → Bool
is_same x None = false
is_same x (Some y) = bytes_eq y x

abbrev pub is_named : List ℕ → Mark → Bool
is_named x m = is_same x m.name

abbrev pub is_in : Part → ℕ → Bool
is_in p k = part_equality.eq p (Thread k)

abbrev pub is_first : Part → Bool
is_first p = part_equality.eq p Initial

-- a register of a thread: it is declared or assigned there, or has an entry
abbrev pub gives_by : Role → Part → ℕ → Bool
gives_by Given p k = is_in p k
gives_by (Register n) p k = is_first p && (n == k)
gives_by r p k = false

abbrev pub gives : ℕ → Mark → Bool
gives k m = gives_by m.role m.part k

abbrev pub is_parameter_by : Role → Part → ℕ → Bool
is_parameter_by (Parameter kind) p k = is_in p k
is_parameter_by r p k = false

abbrev pub is_parameter_of : ℕ → Mark → Bool
is_parameter_of k m = is_parameter_by m.role m.part k

abbrev pub is_of_kind_by : Role → Part → ℕ → LocationKind → Bool
is_of_kind_by (Parameter found) p k kind = is_in p k && kind_equality.eq found kind
is_of_kind_by r p k kind = false

abbrev pub is_of_kind : ℕ → LocationKind → Mark → Bool
is_of_kind k kind m = is_of_kind_by m.role m.part k kind

-- a location of the test: it stands in the initial state, or is a parameter
abbrev pub is_location_by : Role → Part → Bool
is_location_by (Parameter kind) p = true
is_location_by Location p = is_first p
is_location_by r p = false

abbrev pub is_location : Mark → Bool
is_location m = is_location_by m.role m.part

abbrev pub is_head : Mark → Bool
is_head m = role_equality.eq m.role Head

abbrev pub begins : ℕ → Mark → Bool
begins k m = is_head m && is_in m.part k

abbrev pub gives_named : ℕ → List ℕ → Mark → Bool
gives_named k x m = gives k m && is_named x m

abbrev pub is_parameter_named : ℕ → List ℕ → Mark → Bool
is_parameter_named k x m = is_parameter_of k m && is_named x m

abbrev pub is_of_kind_named : ℕ → LocationKind → List ℕ → Mark → Bool
is_of_kind_named k kind x m = is_of_kind k kind m && is_named x m

abbrev pub is_location_named : List ℕ → Mark → Bool
is_location_named x m = is_location m && is_named x m

-- A name in a thread: a register that is read is the thread's, what is declared or assigned is no parameter, and what a call or a `*` is on is one.
abbrev pub is_there : List Mark → ℕ → Role → List ℕ → Bool
is_there ms k Read x = list_any (gives_named k x) ms
is_there ms k Given x = not (list_any (is_parameter_named k x) ms)
is_there ms k Called x = list_any (is_parameter_named k x) ms
is_there ms k Accessed x = list_any (is_parameter_named k x) ms
is_there ms k r x = true

-- an entry's register belongs to a thread, and is no parameter of it
abbrev pub is_fair_entry : List Mark → ℕ → List ℕ → Bool
is_fair_entry ms k x = list_any (begins k) ms && not (list_any (is_parameter_named k x) ms)

-- a register of what is listed or of the condition is a thread's
abbrev pub is_register : List Mark → ℕ → List ℕ → Bool
is_register ms k x = list_any (begins k) ms && list_any (gives_named k x) ms

-- A name outside the threads; last: behind them.
abbrev pub is_there_outside : List Mark → (last : Bool) → Role → List ℕ → Bool
is_there_outside ms last (Register k) x = if last then is_register ms k x else is_fair_entry ms k x
is_there_outside ms last Location x = not last || list_any (is_location_named x) ms
is_there_outside ms last r x = true

abbrev pub is_known_in : List Mark → Part → Role → List ℕ → Bool
is_known_in ms (Thread k) r x = is_there ms k r x
is_known_in ms Initial r x = is_there_outside ms false r x
is_known_in ms Final r x = is_there_outside ms true r x

abbrev pub is_known : List Mark → Mark → List ℕ → Bool
is_known ms m x = is_known_in ms m.part m.role x

-- a name that does this in a thread is a parameter of this kind
abbrev pub is_at_kind_in : List Mark → Part → Role → Role → LocationKind → List ℕ → Bool
is_at_kind_in ms (Thread k) r s kind x = role_equality.eq r s && list_any (is_of_kind_named k kind x) ms
is_at_kind_in ms p r s kind x = false

abbrev pub is_at_kind : List Mark → Mark → Role → LocationKind → List ℕ → Bool
is_at_kind ms m s kind x = is_at_kind_in ms m.part m.role s kind x

-- 14: the name is there; 15: no plain access is to an atomic location; 16: no call is on a plain one
abbrev pub name_keeps : Rule → List Mark → Mark → List ℕ → Bool
name_keeps Names ms m x = is_known ms m x
name_keeps PlainAccess ms m x = not (is_at_kind ms m Accessed Atomic x)
name_keeps AtomicAccess ms m x = not (is_at_kind ms m Called Plain x)

abbrev pub keeps_by : Option (List ℕ) → Rule → List Mark → Mark → Bool
keeps_by None r ms m = true
keeps_by (Some x) r ms m = name_keeps r ms m x

abbrev pub keeps : Rule → List Mark → Mark → Bool
keeps r ms m = keeps_by m.name r ms m

abbrev pub breaks : Rule → List Mark → Mark → Bool
breaks r ms m = not (keeps r ms m)
