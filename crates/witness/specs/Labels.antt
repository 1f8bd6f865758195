-- The names that relate two events of an execution.
use Rattle.std.specs.Prelude.{◌≡◌, ℕ, ◌⊎◌, List, [], ◌∷◌, ◌++◌, map, filter, not, Bool, true, false, Some, if◌then◌else◌}
use Rattle.std.specs.List.{list_any}
use Rattle.std.specs.Str.{bytes_eq}
use Rattle.cat_eval.specs.declared.value.Entry.{Entry}
use Rattle.cat_eval.specs.declared.value.Value.{Value}
use Rattle.cat_eval.specs.declared.value.Value.TheVariants.{Events, Pairs}
use Rattle.cat_eval.specs.declared.valuing.Outcome.{Outcome}
use Rattle.cat_model.specs.Named.{named_of, spelling_of}
use Rattle.cat_model.specs.declared.named.Named.TheVariants.{Rel}
use Rattle.cat_tree.specs.Tree.{Word, name, Defined, Clause, bind, bind_recursively, values_in}
use Rattle.events.specs.Executions.{GraphValue}
use Rattle.events.specs.Named.{event_count, NamedRel}
use Rattle.events.specs.declared.named.RelName.{RelName}
use Rattle.events.specs.declared.named.RelName.TheVariants as rels
use Rattle.listings.specs.Lists.{IsIn}
use Rattle.relations.specs.Relation.{Relation, In, IsExactly}
use Rattle.relations.specs.Tables.{cell}
use Rattle.witness.specs.Reasons.{HasValue}

-- Behind the items before the item of this number, x stands for a relation, and it relates event i to event j.
pub record IsLabel (items : List Clause) (number : ℕ) (g : GraphValue) (i j : ℕ) (x : Word) : Type 0 where
  pub relation : Relation
  pub stands : HasValue items number g (name x) (Pairs relation)
  pub relates : In relation i j

-- the named relations, in the order in which labels tell them
abbrev pub named_relations : List RelName
named_relations =
    rels.Po ∷ rels.Rf ∷ rels.Co ∷ rels.Fr ∷ rels.Rmw ∷ rels.Data ∷ rels.Ctrl ∷ rels.Addr ∷ rels.PoLoc ∷ rels.Loc ∷ rels.Int ∷ rels.Ext ∷
    rels.Rfi ∷ rels.Rfe ∷ rels.Coi ∷ rels.Coe ∷ rels.Fri ∷ rels.Fre ∷ rels.Id ∷ []

-- how relations are written
abbrev pub words_of : List RelName → List Word
words_of = map (λ r. spelling_of (Rel r))

-- the names that an item binds to values
abbrev pub names_of : Clause → List Word
names_of (bind ds) = map (λ b. b.name) (values_in ds)
names_of (bind_recursively bs) = map (λ b. b.name) bs
names_of item = []

-- those of items, in order
abbrev pub names_in : List Clause → List Word
names_in [] = []
names_in (item ∷ items) = names_of item ++ names_in items

-- each word once, where it stands last
unfoldable pub at_last : List Word → List Word
at_last [] = []
at_last (x ∷ xs) = if list_any (λ y. bytes_eq y x) xs then at_last xs else x ∷ at_last xs

-- xs stand among ys, in the order of ys
abbrev pub AreInOrder : List Word → List Word → Type 0
AreInOrder [] ys = Unit {0}
AreInOrder (x ∷ xs) [] = ⊥
AreInOrder (x ∷ xs) (y ∷ ys) = ((x ≡ y) × AreInOrder xs ys) ⊎ AreInOrder (x ∷ xs) ys

-- No statement rests on what follows.

-- x is written so beforehand for one of these relations, and it relates event i to event j
pub record IsWritten (g : GraphValue) (i j : ℕ) (rs : List RelName) (x : Word) : Type 0 where
  pub relation : RelName
  pub among : IsIn relation rs
  pub named : named_of x ≡ Some (Rel relation)
  pub pairs : Relation
  pub exact : IsExactly (event_count g) (NamedRel g relation) pairs
  pub relates : In pairs i j

-- whether a value is a relation that relates event i to event j
abbrev pub is_related : ℕ → ℕ → Value → Bool
is_related i j (Pairs r) = cell r.pairs i j
is_related i j (Events s) = false

abbrev pub without : Word → List Word → List Word
without y xs = filter (λ x. not (bytes_eq x y)) xs

-- the labels once y is bound anew, to what relates the events or doesn't
abbrev pub rebound : Word → Bool → List Word → List Word
rebound y true xs = without y xs ++ y ∷ []
rebound y false xs = without y xs

-- once entries are bound
abbrev pub bound_by : ℕ → ℕ → List Entry → List Word → List Word
bound_by i j [] xs = xs
bound_by i j (e ∷ es) xs = bound_by i j es (rebound e.name (is_related i j e.value) xs)

-- once y is bound to a function, where there are parameters: it hides what y stood for
abbrev pub hidden_if : List Word → Word → List Word → List Word
hidden_if [] y xs = xs
hidden_if (p ∷ ps) y xs = without y xs

-- once the functions among these are bound
abbrev pub hidden_by : List Defined → List Word → List Word
hidden_by [] xs = xs
hidden_by (d ∷ ds) xs = hidden_by ds (hidden_if d.parameters d.name xs)

-- what a `let` defines
abbrev pub defined_in : Clause → List Defined
defined_in (bind ds) = ds
defined_in item = []

-- behind an item that binds these values
abbrev pub labelled : ℕ → ℕ → Clause → List Entry → List Word → List Word
labelled i j item es xs = hidden_by (defined_in item) (bound_by i j es xs)

-- behind items that come to these outcomes
abbrev pub all_labelled : ℕ → ℕ → List Clause → List Outcome → List Word → List Word
all_labelled i j [] os xs = xs
all_labelled i j (item ∷ items) [] xs = all_labelled i j items [] (labelled i j item [] xs)
all_labelled i j (item ∷ items) (o ∷ os) xs = all_labelled i j items os (labelled i j item o.bound.items xs)
