-- Sizes and depths by one count: how much each parameter of a function weighs in its replaced body. A size weighs as much as it is;
-- a depth weighs one more, and 0 is the weight of what stands nowhere. No statement on what a model says rests on this.
use Rattle.std.specs.Prelude.{◌≡◌, ℕ, ◌+◌, ◌*◌, ◌≤◌, ◌⊎◌, max, List, [], ◌∷◌, ◌++◌, length, map, get_or, Option, None, Some, Bool, true, false, cond, nat_eq}
use Rattle.std.specs.Str.{bytes_eq}
use Rattle.std.proofs.Common.{zero, suc}
use Rattle.cat_tree.specs.declared.node.Infix.TheVariants.{Union, Sequence, Difference, Intersection, Product}
use Rattle.cat_tree.specs.declared.node.Leaf.TheVariants as leaves
use Rattle.cat_tree.specs.declared.node.Node.{Node}
use Rattle.cat_tree.specs.declared.node.Node.TheVariants as nodes
use Rattle.cat_tree.specs.declared.node.Sign.TheVariants.{Complement, Plus, Star, Optional, Inverse, Domain, Range, Identity}
use Rattle.cat_tree.specs.Tree.{Word, Term, Terms, union, sequence, difference, intersection, product, complement, plus, star, optional, inverse, domain, range, identity, name, empty_relation, empty_set, universe, call, no_terms, term}
use Rattle.cat_tree.specs.Terms.{count_terms, postorder}
use Rattle.cat_model.specs.Lookups.{held_in}
use Rattle.cat_model.specs.declared.scope.BoundName.{BoundName}
use Rattle.cat_model.specs.declared.scope.Held.{Held}
use Rattle.cat_model.specs.declared.scope.Held.TheVariants.{Value, Function}
use Rattle.cat_model.specs.declared.scope.Summary.{Summary}
use Rattle.cat_model.specs.declared.weights.Measure.{Measure}
use Rattle.cat_model.specs.declared.weights.Measure.TheVariants.{Size, Depth}

-- the weight of two beside one another
abbrev pub beside : Measure → ℕ → ℕ → ℕ
beside Size a b = a + b
beside Depth a b = max a b

abbrev pub deeper : ℕ → ℕ → ℕ
deeper zero b = 0
deeper (suc a) zero = 0
deeper (suc a) (suc b) = suc (a + b)

-- the weight of what weighs b where it stands with weight a
abbrev pub within : Measure → ℕ → ℕ → ℕ
within Size a b = a * b
within Depth a b = deeper a b

abbrev pub most : Measure → ℕ
most Size = 65537
most Depth = 66

-- equal, or both too much
abbrev pub Alike : Measure → ℕ → ℕ → Type 0
Alike m a b = (a ≡ b) ⊎ ((most m ≤ a) × (most m ≤ b))

abbrev pub all_beside : Measure → List ℕ → ℕ
all_beside m [] = 0
all_beside m (n ∷ ns) = beside m n (all_beside m ns)

-- a node and its operands
abbrev pub node_over : Measure → List ℕ → ℕ
node_over m ns = beside m 1 (all_beside m ns)

-- each within the place of its number
abbrev pub placed : Measure → List ℕ → List ℕ → ℕ
placed m [] ns = 0
placed m (t ∷ ts) [] = 0
placed m (t ∷ ts) (n ∷ ns) = beside m (within m t n) (placed m ts ns)

-- a call by a function's weights: the first is that of its own nodes, the others are those of its parameters
abbrev pub by_weights : Measure → List ℕ → List ℕ → ℕ
by_weights m ws ns = cond (nat_eq (length ws) (length (1 ∷ ns))) (placed m ws (1 ∷ ns)) (node_over m ns)

abbrev pub weights_of : Measure → Summary → List ℕ
weights_of Size s = s.sizing.weights.items
weights_of Depth s = s.nesting.weights.items

abbrev pub by_held : Measure → Option Held → List ℕ → ℕ
by_held m None ns = node_over m ns
by_held m (Some (Value k)) ns = node_over m ns
by_held m (Some (Function s)) ns = by_weights m (weights_of m s) ns

abbrev pub next_place : ℕ → Bool → ℕ
next_place (suc k) b = suc (suc k)
next_place zero true = 1
next_place zero false = 0

-- the number of the latest parameter of this name, counted from one, or 0
abbrev pub place_in : List Word → Word → ℕ
place_in [] x = 0
place_in (y ∷ ys) x = next_place (place_in ys x) (bytes_eq y x)

-- what stands for the weight n, unless it is called
abbrev pub just_weight : Measure → ℕ → List ℕ → ℕ
just_weight m n [] = n
just_weight m n (k ∷ ks) = node_over m (k ∷ ks)

-- a parameter's weight by its place, or e where there is none
abbrev pub given : Measure → ℕ → List ℕ → List ℕ → ℕ → ℕ
given m zero ms ns e = e
given m (suc i) ms ns e = just_weight m (get_or ms i 0) ns

-- what a name comes to by what is known, where parameters weigh ms, and its arguments ns
abbrev pub told : Measure → List BoundName → List Word → List ℕ → Word → List ℕ → ℕ
told m names xs ms x ns = given m (place_in xs x) ms ns (by_held m (held_in names x) ns)

-- what a node comes to, where its operands weigh ns
abbrev pub made : Measure → List BoundName → List Word → List ℕ → Node → List ℕ → ℕ
made m names xs ms (nodes.Leaf (leaves.Name x)) ns = told m names xs ms x ns
made m names xs ms (nodes.Leaf leaves.EmptyRelation) ns = node_over m ns
made m names xs ms (nodes.Leaf leaves.EmptySet) ns = node_over m ns
made m names xs ms (nodes.Leaf leaves.Universe) ns = node_over m ns
made m names xs ms (nodes.Sign u) ns = node_over m ns
made m names xs ms (nodes.Infix o) ns = node_over m ns
made m names xs ms (nodes.Call f count) ns = told m names xs ms f ns

-- how many operands a node has
abbrev pub arity : Node → ℕ
arity (nodes.Leaf l) = 0
arity (nodes.Sign u) = 1
arity (nodes.Infix o) = 2
arity (nodes.Call f count) = count

-- a tree's last node, and the trees that it is made of

abbrev pub root : Term → Node
root (union a b) = nodes.Infix Union
root (sequence a b) = nodes.Infix Sequence
root (difference a b) = nodes.Infix Difference
root (intersection a b) = nodes.Infix Intersection
root (product a b) = nodes.Infix Product
root (complement a) = nodes.Sign Complement
root (plus a) = nodes.Sign Plus
root (star a) = nodes.Sign Star
root (optional a) = nodes.Sign Optional
root (inverse a) = nodes.Sign Inverse
root (domain a) = nodes.Sign Domain
root (range a) = nodes.Sign Range
root (identity a) = nodes.Sign Identity
root (name x) = nodes.Leaf (leaves.Name x)
root empty_relation = nodes.Leaf leaves.EmptyRelation
root empty_set = nodes.Leaf leaves.EmptySet
root universe = nodes.Leaf leaves.Universe
root (call f bs) = nodes.Call f (count_terms bs)

abbrev pub listed : Terms → List Term
listed no_terms = []
listed (term a bs) = a ∷ listed bs

abbrev pub operands : Term → List Term
operands (union a b) = a ∷ b ∷ []
operands (sequence a b) = a ∷ b ∷ []
operands (difference a b) = a ∷ b ∷ []
operands (intersection a b) = a ∷ b ∷ []
operands (product a b) = a ∷ b ∷ []
operands (complement a) = a ∷ []
operands (plus a) = a ∷ []
operands (star a) = a ∷ []
operands (optional a) = a ∷ []
operands (inverse a) = a ∷ []
operands (domain a) = a ∷ []
operands (range a) = a ∷ []
operands (identity a) = a ∷ []
operands (name x) = []
operands empty_relation = []
operands empty_set = []
operands universe = []
operands (call f bs) = listed bs

abbrev pub all_nodes : List Term → List Node
all_nodes [] = []
all_nodes (t ∷ ts) = postorder t ++ all_nodes ts

-- V gives the weights of terms, where names come to what is known of them, and parameters weigh ms
abbrev pub Measures : Measure → List BoundName → List Word → List ℕ → (Term → ℕ) → Type 0
Measures m names xs ms V = (t : Term) → Alike m (made m names xs ms (root t) (map V (operands t))) (V t)

-- the weights of a term that stands with weight w: its own, and those of its parameters
pub record AreWeights (m : Measure) (names : List BoundName) (xs : List Word) (t : Term) (w : ℕ) (ws : List ℕ) : Type 0 where
  pub long : length ws ≡ suc (length xs)
  pub come : (ms : List ℕ) (V : Term → ℕ) → length ms ≡ length xs → Measures m names xs ms V → Alike m (placed m ws (1 ∷ ms)) (within m w (V t))

-- A node of weight w is counted, which comes to F of its operands, count of them; their weights wait. What is counted goes from
-- ws to ws', and what waits from vs to us.
pub record IsCounted (m : Measure) (ws vs ws' us : List ℕ) (count w : ℕ) (F : List ℕ → List ℕ → ℕ) : Type 0 where
  pub more : List ℕ
  pub waiting : us ≡ vs ++ more
  pub each : length more ≡ count
  pub long : length ws' ≡ length ws
  pub counted : (ms ns : List ℕ) → length ws ≡ suc (length ms) → length ns ≡ count → Alike m (beside m (placed m ws' (1 ∷ ms)) (placed m more ns)) (beside m (placed m ws (1 ∷ ms)) (within m w (F ms ns)))

-- each weighs what its parameter weighs, within w
abbrev pub AreWithin : Measure → ℕ → List ℕ → List ℕ → Type 0
AreWithin m w [] [] = Unit {0}
AreWithin m w [] (t ∷ ts) = ⊥
AreWithin m w (p ∷ ps) [] = ⊥
AreWithin m w (p ∷ ps) (t ∷ ts) = Alike m p (within m w t) × AreWithin m w ps ts

-- The trees whose nodes are ahead, and what they weigh: with what is counted they come to the whole.
pub record Kept (m : Measure) (names : List BoundName) (xs : List Word) (t : Term) (w : ℕ) (ahead : List Node) (ws waiting : List ℕ) : Type 0 where
  pub long : length ws ≡ suc (length xs)
  pub trees : List Term
  pub lie : all_nodes trees ≡ ahead
  pub each : length waiting ≡ length trees
  pub come : (ms : List ℕ) (V : Term → ℕ) → length ms ≡ length xs → Measures m names xs ms V → Alike m (beside m (placed m ws (1 ∷ ms)) (placed m waiting (map V trees))) (within m w (V t))

-- a tree's last node is counted
pub record IsStep (m : Measure) (names : List BoundName) (xs : List Word) (n : Node) (ws waiting ws' waiting' : List ℕ) : Type 0 where
  pub others : List ℕ
  pub w : ℕ
  pub popped : waiting ≡ others ++ w ∷ []
  pub counted : IsCounted m ws others ws' waiting' (arity n) w (λ ms ns. made m names xs ms n ns)
