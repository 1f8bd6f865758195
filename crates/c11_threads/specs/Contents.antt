-- What registers hold, and what expressions give: a value, and the reads that reached it.
-- (ISO/IEC 9899:2011, 6.5.3.3, 6.5.9, 6.5.13, 6.5.14; Alglave, Maranget and Tautschnig, Herding cats, 2014, section 5, on dependencies.)
use Rattle.std.specs.Prelude.{ℕ, suc, List, [], ◌∷◌, if◌then◌else◌, slice_index_or, Bool, true, false, not, ◌==◌, ◌&&◌, ◌||◌}
use Rattle.std.specs.Str.{bytes_eq}
use Rattle.relations.specs.Tables.{place}
use Rattle.relations.specs.Events.{EventSet, event_set}
use Rattle.events.specs.Executions.{no_places}
use Rattle.c11_threads.specs.declared.content.Content.{Content}
use Rattle.litmus_tree.specs.declared.tree.Computation.{Computation}
use Rattle.litmus_tree.specs.declared.expression.Operator.{Operator}
use Rattle.litmus_tree.specs.declared.expression.Operator.TheVariants.{Equal, Unequal, Both, Either}
use Rattle.litmus_tree.specs.Tree.{Word, Term, number, held, denied, equal, unequal, both, either, Growth, denies, joins, computed_by}

-- the first place of the name among the names
abbrev pub place_of : Word → List Word → ℕ
place_of w [] = 0
place_of w (name ∷ names) = if bytes_eq name w then 0 else suc (place_of w names)

-- the set of the event at place p alone, and all places of two sets
unfoldable pub just : ℕ → EventSet
just p = event_set 64 (λ i. i == p)

unfoldable pub joined : EventSet → EventSet → EventSet
joined s t = event_set 64 (λ i. place s.members i || place t.members i)

-- 0, which no read reached
abbrev pub nothing : Content
nothing = record { value = 0; reads = no_places }

-- what a register holds
abbrev pub content : List Word → List Content → Word → Content
content names registers r = slice_index_or registers (place_of r names) nothing

-- not 0 counts as true, and an operator gives 1 for true and 0 for false
abbrev pub is_true : ℕ → Bool
is_true v = not (v == 0)

abbrev pub truth : Bool → ℕ
truth true = 1
truth false = 0

-- The value of an expression.
abbrev pub value_in : List Word → List Content → Term → ℕ
value_in names registers (number n) = n
value_in names registers (held r) = (content names registers r).value
value_in names registers (denied a) = truth (not (is_true (value_in names registers a)))
value_in names registers (equal a b) = truth (value_in names registers a == value_in names registers b)
value_in names registers (unequal a b) = truth (not (value_in names registers a == value_in names registers b))
value_in names registers (both a b) = truth (is_true (value_in names registers a) && is_true (value_in names registers b))
value_in names registers (either a b) = truth (is_true (value_in names registers a) || is_true (value_in names registers b))

-- The reads that reached it: those of all its registers, since both operands are always evaluated.
abbrev pub reads_in : List Word → List Content → Term → EventSet
reads_in names registers (number n) = no_places
reads_in names registers (held r) = (content names registers r).reads
reads_in names registers (denied a) = reads_in names registers a
reads_in names registers (equal a b) = joined (reads_in names registers a) (reads_in names registers b)
reads_in names registers (unequal a b) = joined (reads_in names registers a) (reads_in names registers b)
reads_in names registers (both a b) = joined (reads_in names registers a) (reads_in names registers b)
reads_in names registers (either a b) = joined (reads_in names registers a) (reads_in names registers b)

abbrev pub content_in : List Word → List Content → Term → Content
content_in names registers e = record { value = value_in names registers e; reads = reads_in names registers e }

-- an operator is true of two values
abbrev pub holds : Operator → ℕ → ℕ → Bool
holds Equal v w = v == w
holds Unequal v w = not (v == w)
holds Both v w = is_true v && is_true w
holds Either v w = is_true v || is_true w

-- what a link makes of what stands before it, which gives c
abbrev pub passed : List Word → List Content → Content → Growth → Content
passed names registers c denies = record { value = truth (not (is_true c.value)); reads = c.reads }
passed names registers c (joins o b) = record { value = truth (holds o c.value (value_in names registers b)); reads = joined c.reads (reads_in names registers b) }

-- what is computed of what was read and a constant, by which no read but that one reached it
abbrev pub modified : Computation → ℕ → Content → Content
modified f k w = record { value = computed_by f w.value k; reads = w.reads }
