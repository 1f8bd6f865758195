-- What each symbol of a test does where it stands, for a test that the grammar takes (docs/LITMUS.md, "Grammar"): read off what stands beside it.
use Rattle.std.specs.Prelude.{ℕ, ◌+◌, ◌-◌, min, nat_le, List, [], ◌∷◌, Bool, true, false, ◌&&◌, Option, Some, None, if◌then◌else◌}
use Rattle.litmus_syntax.specs.declared.atomics.Operation.{Operation}
use Rattle.litmus_syntax.specs.declared.atomics.Operation.TheVariants as calls
use Rattle.litmus_syntax.specs.declared.symbol.Symbol.{Symbol}
use Rattle.litmus_syntax.specs.declared.symbol.Symbol.TheVariants as symbols
use Rattle.litmus_syntax.specs.declared.symbol.Terminal.{Terminal}
use Rattle.litmus_syntax.specs.declared.symbol.Terminal.TheVariants as terminals
use Rattle.litmus_tree.specs.declared.tree.LocationKind.TheVariants as kinds
use Rattle.test_places.specs.declared.beside.Beside.{Beside}
use Rattle.test_places.specs.declared.beside.Beside.TheVariants.{Typed, Star, Open, Close, Comma, Colon, Assign, Call, Number, Name, Asks, Other}
use Rattle.test_places.specs.declared.mark.Mark.{Mark}
use Rattle.test_places.specs.declared.mark.Part.{Part}
use Rattle.test_places.specs.declared.mark.Part.TheVariants as parts
use Rattle.test_places.specs.declared.mark.Role.{Role}
use Rattle.test_places.specs.declared.mark.Role.TheVariants as roles
use Rattle.test_places.specs.declared.mark.Walk.{Walk}

abbrev pub beside_terminal : Terminal → Beside
beside_terminal terminals.Int = Typed kinds.Plain
beside_terminal terminals.AtomicInt = Typed kinds.Atomic
beside_terminal terminals.Star = Star
beside_terminal terminals.LeftParen = Open
beside_terminal terminals.RightParen = Close
beside_terminal terminals.Comma = Comma
beside_terminal terminals.Colon = Colon
beside_terminal terminals.Assign = Assign
beside_terminal terminals.Locations = Asks
beside_terminal terminals.Exists = Asks
beside_terminal terminals.Forall = Asks
beside_terminal terminals.Tilde = Asks
beside_terminal terminals.Not = Asks
beside_terminal t = Other

abbrev pub beside : Symbol → Beside
beside (symbols.Fixed t) = beside_terminal t
beside (symbols.Call c) = Call c
beside (symbols.Name x) = Name
beside (symbols.Number n) = Number n
beside s = Other

-- a call's last argument is an order
abbrev pub takes_order : Operation → Bool
takes_order calls.LoadExplicit = true
takes_order calls.StoreExplicit = true
takes_order calls.ExchangeExplicit = true
takes_order calls.FetchAddExplicit = true
takes_order calls.Fence = true
takes_order c = false

-- a call adds a number
abbrev pub adds : Operation → Bool
adds calls.FetchAdd = true
adds calls.FetchAddExplicit = true
adds c = false

abbrev pub opens : Beside → Bool
opens Open = true
opens b = false

abbrev pub closes : Beside → Bool
closes Close = true
closes b = false

abbrev pub assigns : Beside → Bool
assigns Assign = true
assigns b = false

abbrev pub start : Walk
start = record { part = parts.Initial; former = Other; last = Other; call = None; depth = 0 }

-- A name outside the threads: a register behind a thread's number and a colon, and else a location.
abbrev pub outside_at : (former last : Beside) → Role
outside_at (Number k) Colon = roles.Register k
outside_at former last = roles.Location

abbrev pub outside : Walk → Role
outside w = outside_at w.former w.last

-- A name behind an opening parenthesis: a fence's order, a call's location, or a register in an expression.
abbrev pub opened_at : Beside → Role
opened_at (Call calls.Fence) = roles.Order
opened_at (Call c) = roles.Called
opened_at b = roles.Read

abbrev pub opened : Walk → Role
opened w = opened_at w.former

-- A name behind a comma: a call's order, at its end, or the beginning of its value; else one more register that is declared.
abbrev pub listed_at : Option Operation → Beside → Role
listed_at None next = roles.Given
listed_at (Some c) next = if takes_order c && closes next then roles.Order else roles.Read

abbrev pub listed : Walk → Beside → Role
listed w next = listed_at w.call next

-- A name behind a `*`: a parameter behind its type, and else the location of a plain access.
abbrev pub starred_at : Beside → Role
starred_at (Typed k) = roles.Parameter k
starred_at b = roles.Accessed

abbrev pub given_or_read : Beside → Role
given_or_read next = if assigns next then roles.Given else roles.Read

-- a name in a thread
abbrev pub inside_at : Walk → (last next : Beside) → Role
inside_at w Star next = starred_at w.former
inside_at w Open next = opened w
inside_at w Comma next = listed w next
inside_at w (Typed k) next = roles.Given
inside_at w last next = given_or_read next

abbrev pub inside : Walk → Beside → Role
inside w next = inside_at w w.last next

abbrev pub named_in : Part → Walk → Beside → Role
named_in (parts.Thread k) w next = inside w next
named_in p w next = outside w

-- a name: only a thread's stands before an opening parenthesis
abbrev pub named : Walk → Beside → Role
named w next = if opens next then roles.Head else named_in w.part w next

-- a number in a thread
abbrev pub argument_of : Option Operation → ℕ → Role
argument_of None n = roles.Constant n
argument_of (Some c) n = if adds c then roles.Added n else roles.Constant n

abbrev pub argument : Walk → ℕ → Role
argument w n = argument_of w.call n

-- a number in the initial state: a thread's stands before a colon
abbrev pub initial_at : ℕ → Beside → Role
initial_at n Colon = roles.Nothing
initial_at n next = roles.Constant n

abbrev pub numbered_in : Part → Walk → ℕ → Beside → Role
numbered_in (parts.Thread k) w n next = argument w n
numbered_in parts.Initial w n next = initial_at n next
numbered_in parts.Final w n next = roles.Nothing

abbrev pub numbered : Walk → ℕ → Beside → Role
numbered w n next = numbered_in w.part w n next

abbrev pub role : Walk → (this next : Beside) → Role
role w Name next = named w next
role w (Number n) next = numbered w n next
role w (Call c) next = roles.Calls c
role w this next = roles.Nothing

-- the part of the thread that begins
abbrev pub next_thread : Part → Part
next_thread (parts.Thread k) = parts.Thread (min (k + 1) 18446744073709551615)
next_thread p = parts.Thread 0

abbrev pub part_at : Walk → (this next : Beside) → Part
part_at w Name next = if opens next then next_thread w.part else w.part
part_at w Asks next = parts.Final
part_at w this next = w.part

abbrev pub open_behind : Walk → Beside → ℕ
open_behind w (Call c) = 0
open_behind w Open = min (w.depth + 1) 18446744073709551615
open_behind w Close = w.depth - 1
open_behind w this = w.depth

abbrev pub call_behind : Walk → Beside → Option Operation
call_behind w (Call c) = Some c
call_behind w Close = if nat_le w.depth 1 then None else w.call
call_behind w this = w.call

abbrev pub behind : Walk → (this next : Beside) → Walk
behind w this next = record { part = part_at w this next; former = w.last; last = this; call = call_behind w this; depth = open_behind w this }

abbrev pub name_of : Symbol → Option (List ℕ)
name_of (symbols.Name x) = Some x
name_of s = None

abbrev pub first : List Symbol → Beside
first [] = Other
first (s ∷ ss) = beside s

-- what each symbol does, from a place on
abbrev pub marks_from : Walk → List Symbol → List Mark
marks_from w [] = []
marks_from w (s ∷ ss) =
    record { part = part_at w (beside s) (first ss); role = role w (beside s) (first ss); name = name_of s } ∷ marks_from (behind w (beside s) (first ss)) ss
