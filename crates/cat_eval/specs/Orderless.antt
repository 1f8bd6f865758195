-- Models that don't look at the coherence orders.
use Rattle.std.specs.Prelude.{◌≡◌, ◌↔◌, List, Bool, true, false, Option, Some, None, not}
use Rattle.std.specs.List.{list_any}
use Rattle.events.specs.declared.named.Basis.{Basis}
use Rattle.events.specs.declared.named.Basis.TheVariants.{Runs, Sources, Orders}
use Rattle.events.specs.Bases.{basis_of}
use Rattle.events.specs.Executions.{GraphValue}
use Rattle.events.specs.Structures.{sourced_of}
use Rattle.cat_tree.specs.declared.node.Leaf.{Leaf}
use Rattle.cat_tree.specs.declared.node.Leaf.TheVariants as leaves
use Rattle.cat_tree.specs.declared.node.Node.{Node}
use Rattle.cat_tree.specs.declared.node.Node.TheVariants as nodes
use Rattle.cat_tree.specs.Terms.{postorder}
use Rattle.cat_tree.specs.Tree.{Word, Term, Clause, bind, bind_recursively, check, include, show, unshow}
use Rattle.cat_model.specs.Named.{named_of}
use Rattle.cat_model.specs.declared.named.Named.{Named}
use Rattle.cat_model.specs.declared.named.Named.TheVariants.{Set, Rel}
use Rattle.cat_eval.specs.Judging.{Allowed, Raised}

-- a model of these items says the same of executions that differ in their coherence orders alone
abbrev pub IsOrderless : List Clause → Type 0
IsOrderless items = (g h : GraphValue) → sourced_of g ≡ sourced_of h →
    (Allowed items g ↔ Allowed items h) × ((x : Word) → Raised items g x ↔ Raised items h x)

-- whether what rests on this rests on the orders
abbrev pub is_orders : Basis → Bool
is_orders Runs = false
is_orders Sources = false
is_orders Orders = true

abbrev pub rests_on_orders : Named → Bool
rests_on_orders (Set s) = false
rests_on_orders (Rel r) = is_orders (basis_of r)

-- whether a name that stands for this beforehand stands for what rests on the orders
abbrev pub stands_for_order : Option Named → Bool
stands_for_order None = false
stands_for_order (Some m) = rests_on_orders m

abbrev pub is_order : Word → Bool
is_order x = stands_for_order (named_of x)

-- whether such a name stands in it, be it bound anew or not

abbrev pub leaf_names_order : Leaf → Bool
leaf_names_order (leaves.Name x) = is_order x
leaf_names_order leaves.EmptyRelation = false
leaf_names_order leaves.EmptySet = false
leaf_names_order leaves.Universe = false

abbrev pub node_names_order : Node → Bool
node_names_order (nodes.Leaf l) = leaf_names_order l
node_names_order (nodes.Sign u) = false
node_names_order (nodes.Infix o) = false
node_names_order (nodes.Call f count) = is_order f

abbrev pub term_names_order : Term → Bool
term_names_order a = list_any node_names_order (postorder a)

-- A `show` has no effect.
abbrev pub clause_names_order : Clause → Bool
clause_names_order (bind ds) = list_any (λ d. term_names_order d.value) ds
clause_names_order (bind_recursively bs) = list_any (λ b. term_names_order b.value) bs
clause_names_order (check flag negated kind a x) = term_names_order a
clause_names_order (include x) = false
clause_names_order (show es) = false
clause_names_order (unshow xs) = false

-- no expression of the items names what rests on the orders, the bodies of functions included
abbrev pub names_no_order : List Clause → Bool
names_no_order items = not (list_any clause_names_order items)
