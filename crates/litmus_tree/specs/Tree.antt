-- Litmus tests as trees, apart from where they lie in memory. (herd7 manual, C litmus tests; ISO/IEC 9899:2011, 7.17.)
use Rattle.std.specs.Prelude.{ℕ, ◌+◌, List, [], ◌∷◌, map, Option, None, Some}
use Rattle.events.specs.declared.event.Order.{Order}
use Rattle.conditions.specs.declared.place.Binding.{Binding}
use Rattle.conditions.specs.declared.place.Place.{Place}
use Rattle.litmus_tree.specs.declared.tree.Parameter.{Parameter}
use Rattle.litmus_tree.specs.declared.expression.Leaf.{Leaf}
use Rattle.litmus_tree.specs.declared.expression.Leaf.TheVariants.{Number, Register}
use Rattle.litmus_tree.specs.declared.expression.Operator.{Operator}
use Rattle.litmus_tree.specs.declared.expression.Operator.TheVariants.{Equal, Unequal, Both, Either}
use Rattle.litmus_tree.specs.declared.expression.Expression.{Expression, Expression-F}
use Rattle.litmus_tree.specs.declared.expression.Link.{Link, Link-F, fold-Link}
use Rattle.litmus_tree.specs.declared.tree.Call as calls
use Rattle.litmus_tree.specs.declared.tree.Call.TheVariants.{Load, Store, Exchange, Modify, Fence}
use Rattle.litmus_tree.specs.declared.tree.Computation.{Computation}
use Rattle.litmus_tree.specs.declared.tree.Computation.TheVariants.{Addition}
use Rattle.litmus_tree.specs.declared.tree.RightSide.{RightSide}
use Rattle.litmus_tree.specs.declared.tree.RightSide.TheVariants as rights
use Rattle.litmus_tree.specs.declared.tree.Declarator.{Declarator}
use Rattle.litmus_tree.specs.declared.tree.Statement.{Statement}
use Rattle.litmus_tree.specs.declared.tree.Statement.TheFolds.{fold-Statement}
use Rattle.litmus_tree.specs.declared.tree.Statement.TheOpen.{Statement-F}
use Rattle.conditions.specs.Conditions.{Condition}

-- the bytes of a name
abbrev pub Word : Type 0
Word = List ℕ

-- An expression. held r: the value of the register r. denied a: `!a`. equal, unequal, both, either: `==`, `!=`, `&&`, `||`.
pub data Term : Type 0 where
  number : ℕ → Term
  held : Word → Term
  denied : Term → Term
  equal : Term → Term → Term
  unequal : Term → Term → Term
  both : Term → Term → Term
  either : Term → Term → Term

-- What a call that modifies a location writes there, of the value v that it read and of its constant c.
-- (ISO/IEC 9899:2011, 7.17.7.5.)
abbrev pub computed_by : Computation → ℕ → ℕ → ℕ
computed_by Addition v c = v + c

-- A call of an atomic operation, with its location. modify x f c o: it reads x, and writes there what f makes of the
-- value read and of c.
pub data Action : Type 0 where
  load : Word → Order → Action
  store : Word → Term → Order → Action
  exchange : Word → Term → Order → Action
  modify : Word → Computation → ℕ → Order → Action
  fence : Order → Action

-- what a register is given: the value of an expression, of a plain read of a location, or of a call
pub data Right : Type 0 where
  computed : Term → Right
  plain_read : Word → Right
  value_of : Action → Right

-- a register that is declared, and what it is given
pub record Declared : Type 0 where
  pub register : Word
  pub value : Option Right

mutual
  -- A statement. plain_write x e: `*x = e;`. if_only c a: `if (c) a` without `else`.
  pub data Step : Type 0 where
    empty : Step
    block : Steps → Step
    declare : List Declared → Step
    assign : Word → Right → Step
    plain_write : Word → Term → Step
    perform : Action → Step
    if_only : Term → Step → Step
    if_else : Term → Step → Step → Step

  -- statements, one after another
  pub data Steps : Type 0 where
    no_steps : Steps
    in_turn : Step → Steps → Steps

-- the statements of a list
abbrev pub row : List Step → Steps
row [] = no_steps
row (s ∷ ss) = in_turn s (row ss)

-- ss, and then s
abbrev pub followed : Steps → Step → Steps
followed no_steps s = in_turn s no_steps
followed (in_turn t ss) s = in_turn t (followed ss s)

-- a thread: its parameters, its statements, and all its registers
pub record Program : Type 0 where
  pub parameters : List Parameter
  pub steps : Steps
  pub registers : List Word

-- A test. initial: one binding for each place that the initial state gives. listed: what `locations` lists.
-- locations: in the order of their first appearance in the text.
pub record Litmus : Type 0 where
  pub name : Word
  pub initial : List Binding
  pub threads : List Program
  pub condition : Condition
  pub listed : List Place
  pub locations : List Word

-- the trees of the values in memory

-- An expression lies there as the leaf on the far left of its term, and the links from there up to the root.

abbrev pub leaf_of : Leaf → Term
leaf_of (Number n) = number n
leaf_of (Register r) = held r

abbrev pub joined : Operator → Term → Term → Term
joined Equal = equal
joined Unequal = unequal
joined Both = both
joined Either = either

-- what a link does to the term before it
pub data Growth : Type 0 where
  denies : Growth
  joins : Operator → Term → Growth

abbrev pub grown : Term → Growth → Term
grown a denies = denied a
grown a (joins o b) = joined o a b

-- the term of a, and of the links behind it: a chain is folded from the left
abbrev pub along : Term → List Growth → Term
along a [] = a
along a (s ∷ ss) = along (grown a s) ss

-- one level of a link, where each expression inside is seen as its term; and of an expression
abbrev pub link_layer : Link-F Growth Term → Growth
link_layer Link-F.Not = denies
link_layer (Link-F.Join o b) = joins o b

abbrev pub expression_layer : Expression-F Growth Term → Term
expression_layer e = along (leaf_of e.first) e.rest.items

abbrev pub growth_of : Link → Growth
growth_of = fold-Link Growth Term link_layer expression_layer

abbrev pub term_of : Expression → Term
term_of e = along (leaf_of e.first) (map growth_of e.rest.items)

abbrev pub action_of : calls.Call → Action
action_of (Load x o) = load x o
action_of (Store x e o) = store x (term_of e) o
action_of (Exchange x e o) = exchange x (term_of e) o
action_of (Modify x f c o) = modify x f c o
action_of (Fence o) = fence o

abbrev pub right_of : RightSide → Right
right_of (rights.Value e) = computed (term_of e)
right_of (rights.Read x) = plain_read x
right_of (rights.Call c) = value_of (action_of c)

abbrev pub option_right : Option RightSide → Option Right
option_right None = None
option_right (Some r) = Some (right_of r)

abbrev pub declared_of : Declarator → Declared
declared_of d = record { register = d.register; value = option_right d.value }

-- one level of a statement, where each statement inside is seen as its tree
abbrev pub layer : Statement-F Step → Step
layer Statement-F.Empty = empty
layer (Statement-F.Block v) = block (row v.items)
layer (Statement-F.Declare v) = declare (map declared_of v.items)
layer (Statement-F.Assign r v) = assign r (right_of v)
layer (Statement-F.Write x e) = plain_write x (term_of e)
layer (Statement-F.Perform c) = perform (action_of c)
layer (Statement-F.If c a None) = if_only (term_of c) a.value
layer (Statement-F.If c a (Some b)) = if_else (term_of c) a.value b.value

abbrev pub step_of : Statement → Step
step_of = fold-Statement Step layer

abbrev pub steps_of : List Statement → Steps
steps_of ss = row (map step_of ss)
