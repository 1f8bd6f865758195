-- What the named sets and relations rest on: the sets on the runs alone, each relation on its basis.
use Rattle.std.specs.Prelude.{◌≡◌, ℕ}
use Rattle.events.specs.declared.named.SetName.{SetName}
use Rattle.events.specs.declared.named.RelName.{RelName}
use Rattle.events.specs.declared.named.RelName.TheVariants.{Po, Int, Ext, Loc, PoLoc, Rf, Co, Fr, Rfi, Coi, Fri, Rfe, Coe, Fre, Rmw, Data, Ctrl, Addr, Id}
use Rattle.events.specs.declared.named.Basis.{Basis}
use Rattle.events.specs.declared.named.Basis.TheVariants.{Runs, Sources, Orders}
use Rattle.events.specs.Executions.{GraphValue}
use Rattle.events.specs.Named.{event_count, NamedSet, NamedRel}
use Rattle.events.specs.Structures.{structure_of, sourced_of, plain}

abbrev pub basis_of : RelName → Basis
basis_of Po = Runs
basis_of Int = Runs
basis_of Ext = Runs
basis_of Loc = Runs
basis_of PoLoc = Runs
basis_of Rf = Sources
basis_of Co = Orders
basis_of Fr = Orders
basis_of Rfi = Sources
basis_of Coi = Orders
basis_of Fri = Orders
basis_of Rfe = Sources
basis_of Coe = Orders
basis_of Fre = Orders
basis_of Rmw = Runs
basis_of Data = Runs
basis_of Ctrl = Runs
basis_of Addr = Runs
basis_of Id = Runs

-- The law: two executions of one structure have equally many events.
abbrev pub CountsRestOnRuns : Type 0
CountsRestOnRuns = (g h : GraphValue) → structure_of g ≡ structure_of h → event_count g ≡ event_count h

-- The law: what is left of an execution without its orders and values is, as an execution, one with the same left.
abbrev pub PlainIsLike : Type 0
PlainIsLike = (g : GraphValue) → sourced_of (plain (sourced_of g)) ≡ sourced_of g

-- The law: two executions of one structure have the same sets.
abbrev pub SetsRestOnRuns : Type 0
SetsRestOnRuns = (g h : GraphValue) → structure_of g ≡ structure_of h → (name : SetName) (i : ℕ) → NamedSet g name i → NamedSet h name i

-- The law: two executions of one structure have the same relations of those that rest on the runs.
abbrev pub RelationsRestOnRuns : Type 0
RelationsRestOnRuns = (g h : GraphValue) → structure_of g ≡ structure_of h → (name : RelName) → basis_of name ≡ Runs → (i j : ℕ) → NamedRel g name i j → NamedRel h name i j

-- The law: two executions of one structure and one read-from map have the same relations of those that rest on these.
abbrev pub RelationsRestOnSources : Type 0
RelationsRestOnSources = (g h : GraphValue) → sourced_of g ≡ sourced_of h → (name : RelName) → basis_of name ≡ Sources → (i j : ℕ) → NamedRel g name i j → NamedRel h name i j
