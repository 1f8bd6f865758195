-- How the trees are written in a key. What is written of a value tells the value, and stands on top of what was written before.
use Rattle.std.specs.Prelude.{◌≡◌, ℕ, List, ◌∷◌, Bool, true, false, Option, refl}
use Rattle.std.proofs.Common.{ap}
use Rattle.keys.specs.Spelling.{Spelling, top, below, spelled_bytes, spelled_number, spelled_list, spelled_option, spelled_pair, spell_by, pair_over}
use Rattle.cat_tree.specs.declared.node.Infix.{Infix}
use Rattle.cat_tree.specs.declared.node.Infix.TheVariants.{Union, Sequence, Difference, Intersection, Product}
use Rattle.cat_tree.specs.declared.node.Leaf.{Leaf}
use Rattle.cat_tree.specs.declared.node.Leaf.TheVariants as leaves
use Rattle.cat_tree.specs.declared.node.Node.{Node}
use Rattle.cat_tree.specs.declared.node.Node.TheVariants as nodes
use Rattle.cat_tree.specs.declared.node.Sign.{Sign}
use Rattle.cat_tree.specs.declared.node.Sign.TheVariants.{Complement, Plus, Star, Optional, Inverse, Domain, Range, Identity}
use Rattle.cat_tree.specs.declared.tree.CheckKind.{CheckKind}
use Rattle.cat_tree.specs.declared.tree.CheckKind.TheVariants.{Acyclic, Irreflexive, Empty}
use Rattle.cat_tree.specs.Postorder.{term_in-postorder}
use Rattle.cat_tree.specs.Terms.{postorder, term_in}
use Rattle.cat_tree.specs.Tree.{Word, Term, Defined, Bound, Shown, Clause, bind, bind_recursively, check, include, show, unshow}

-- choices without parts, each by a byte of its own

abbrev pub truth_byte : Bool → ℕ
truth_byte false = 0
truth_byte true = 1

abbrev pub kind_byte : CheckKind → ℕ
kind_byte Acyclic = 0
kind_byte Irreflexive = 1
kind_byte Empty = 2

abbrev pub sign_byte : Sign → ℕ
sign_byte Complement = 0
sign_byte Plus = 1
sign_byte Star = 2
sign_byte Optional = 3
sign_byte Inverse = 4
sign_byte Domain = 5
sign_byte Range = 6
sign_byte Identity = 7

abbrev pub infix_byte : Infix → ℕ
infix_byte Union = 0
infix_byte Sequence = 1
infix_byte Difference = 2
infix_byte Intersection = 3
infix_byte Product = 4

pub one_truth : (a b : Bool) → truth_byte a ≡ truth_byte b → a ≡ b
one_truth false false e = refl
one_truth true true e = refl
one_truth a b e = absurd (cc)

pub one_kind : (a b : CheckKind) → kind_byte a ≡ kind_byte b → a ≡ b
one_kind Acyclic Acyclic e = refl
one_kind Irreflexive Irreflexive e = refl
one_kind Empty Empty e = refl
one_kind a b e = absurd (cc)

pub one_sign : (u v : Sign) → sign_byte u ≡ sign_byte v → u ≡ v
one_sign Complement Complement e = refl
one_sign Plus Plus e = refl
one_sign Star Star e = refl
one_sign Optional Optional e = refl
one_sign Inverse Inverse e = refl
one_sign Domain Domain e = refl
one_sign Range Range e = refl
one_sign Identity Identity e = refl
one_sign u v e = absurd (cc)

pub one_infix : (o p : Infix) → infix_byte o ≡ infix_byte p → o ≡ p
one_infix Union Union e = refl
one_infix Sequence Sequence e = refl
one_infix Difference Difference e = refl
one_infix Intersection Intersection e = refl
one_infix Product Product e = refl
one_infix o p e = absurd (cc)

module _ {A : Type 0} where
  pub by_byte_exact : (to : A → ℕ) → ((a b : A) → to a ≡ to b → a ≡ b) → (a b : A) (s t : List ℕ) → to a ∷ s ≡ to b ∷ t → (a ≡ b) × (s ≡ t)
  by_byte_exact to one a b s t e = (one a b (ap top e), ap below e)

  -- a value, as the byte that tells it
  abbrev spell_by_byte : (to : A → ℕ) → ((a b : A) → to a ≡ to b → a ≡ b) → Spelling A
  spell_by_byte to one = record { over = λ a s. to a ∷ s; exact = by_byte_exact to one }

abbrev pub spelled_truth : Spelling Bool
spelled_truth = spell_by_byte truth_byte one_truth

abbrev pub spelled_kind : Spelling CheckKind
spelled_kind = spell_by_byte kind_byte one_kind

abbrev pub spelled_sign : Spelling Sign
spelled_sign = spell_by_byte sign_byte one_sign

abbrev pub spelled_infix : Spelling Infix
spelled_infix = spell_by_byte infix_byte one_infix

-- a leaf, and a node: what it is made of, and a byte on top

abbrev pub leaf_over : Leaf → List ℕ → List ℕ
leaf_over (leaves.Name x) s = 0 ∷ spelled_bytes.over x s
leaf_over leaves.EmptyRelation s = 1 ∷ s
leaf_over leaves.EmptySet s = 2 ∷ s
leaf_over leaves.Universe s = 3 ∷ s

leaf_over_exact : (l m : Leaf) (s t : List ℕ) → leaf_over l s ≡ leaf_over m t → (l ≡ m) × (s ≡ t)
leaf_over_exact (leaves.Name x) (leaves.Name y) s t e = let h = spelled_bytes.exact x y s t (ap below e) in (ap leaves.Name h.0, h.1)
leaf_over_exact leaves.EmptyRelation leaves.EmptyRelation s t e = (refl, ap below e)
leaf_over_exact leaves.EmptySet leaves.EmptySet s t e = (refl, ap below e)
leaf_over_exact leaves.Universe leaves.Universe s t e = (refl, ap below e)
leaf_over_exact l m s t e = absurd (cc)

abbrev pub node_over : Node → List ℕ → List ℕ
node_over (nodes.Leaf l) s = 0 ∷ leaf_over l s
node_over (nodes.Sign u) s = 1 ∷ spelled_sign.over u s
node_over (nodes.Infix o) s = 2 ∷ spelled_infix.over o s
node_over (nodes.Call f count) s = 3 ∷ pair_over spelled_bytes.over spelled_number.over (f, count) s

pub node_over_exact : (n m : Node) (s t : List ℕ) → node_over n s ≡ node_over m t → (n ≡ m) × (s ≡ t)
node_over_exact (nodes.Leaf l) (nodes.Leaf m) s t e = let h = leaf_over_exact l m s t (ap below e) in (ap nodes.Leaf h.0, h.1)
node_over_exact (nodes.Sign u) (nodes.Sign v) s t e = let h = spelled_sign.exact u v s t (ap below e) in (ap nodes.Sign h.0, h.1)
node_over_exact (nodes.Infix o) (nodes.Infix p) s t e = let h = spelled_infix.exact o p s t (ap below e) in (ap nodes.Infix h.0, h.1)
node_over_exact (nodes.Call f i) (nodes.Call g j) s t e = let h = (spelled_pair spelled_bytes spelled_number).exact (f, i) (g, j) s t (ap below e) in (ap (λ p. nodes.Call p.0 p.1) h.0, h.1)
node_over_exact n m s t e = absurd (cc)

abbrev pub spelled_node : Spelling Node
spelled_node = record { over = node_over; exact = node_over_exact }

-- a term, by its nodes
abbrev pub spelled_term : Spelling Term
spelled_term = spell_by (List Node) (spelled_list spelled_node) postorder term_in term_in-postorder

abbrev pub spelled_words : Spelling (List Word)
spelled_words = spelled_list spelled_bytes

abbrev pub spelled_alias : Spelling (Option Word)
spelled_alias = spelled_option spelled_bytes

abbrev pub spelled_defined : Spelling Defined
spelled_defined =
    spell_by (Word × (List Word × Term)) (spelled_pair spelled_bytes (spelled_pair spelled_words spelled_term))
    (λ d. (d.name, (d.parameters, d.value))) (λ p. record { name = p.0; parameters = p.1.0; value = p.1.1 }) (λ _. refl)

abbrev pub spelled_bound : Spelling Bound
spelled_bound = spell_by (Word × Term) (spelled_pair spelled_bytes spelled_term) (λ b. (b.name, b.value)) (λ p. record { name = p.0; value = p.1 }) (λ _. refl)

abbrev pub spelled_shown : Spelling Shown
spelled_shown = spell_by (Term × Option Word) (spelled_pair spelled_term spelled_alias) (λ b. (b.value, b.alias)) (λ p. record { value = p.0; alias = p.1 }) (λ _. refl)

-- the parts of a check
abbrev pub spelled_check : Spelling (Bool × (Bool × (CheckKind × (Term × Option Word))))
spelled_check = spelled_pair spelled_truth (spelled_pair spelled_truth (spelled_pair spelled_kind (spelled_pair spelled_term spelled_alias)))

-- an item: its parts, and a byte on top
abbrev pub clause_over : Clause → List ℕ → List ℕ
clause_over (bind ds) s = 0 ∷ (spelled_list spelled_defined).over ds s
clause_over (bind_recursively bs) s = 1 ∷ (spelled_list spelled_bound).over bs s
clause_over (check flag negated kind a x) s = 2 ∷ spelled_check.over (flag, (negated, (kind, (a, x)))) s
clause_over (include x) s = 3 ∷ spelled_bytes.over x s
clause_over (show es) s = 4 ∷ (spelled_list spelled_shown).over es s
clause_over (unshow xs) s = 5 ∷ spelled_words.over xs s

pub clause_over_exact : (c d : Clause) (s t : List ℕ) → clause_over c s ≡ clause_over d t → (c ≡ d) × (s ≡ t)
clause_over_exact (bind ds) (bind es) s t e = let h = (spelled_list spelled_defined).exact ds es s t (ap below e) in (ap bind h.0, h.1)
clause_over_exact (bind_recursively bs) (bind_recursively cs) s t e = let h = (spelled_list spelled_bound).exact bs cs s t (ap below e) in (ap bind_recursively h.0, h.1)
clause_over_exact (check f n k a x) (check g m l b y) s t e =
    let h = spelled_check.exact (f, (n, (k, (a, x)))) (g, (m, (l, (b, y)))) s t (ap below e) in
    (ap (λ p. check p.0 p.1.0 p.1.1.0 p.1.1.1.0 p.1.1.1.1) h.0, h.1)
clause_over_exact (include x) (include y) s t e = let h = spelled_bytes.exact x y s t (ap below e) in (ap include h.0, h.1)
clause_over_exact (show es) (show fs) s t e = let h = (spelled_list spelled_shown).exact es fs s t (ap below e) in (ap show h.0, h.1)
clause_over_exact (unshow xs) (unshow ys) s t e = let h = spelled_words.exact xs ys s t (ap below e) in (ap unshow h.0, h.1)
clause_over_exact c d s t e = absurd (cc)

abbrev pub spelled_clause : Spelling Clause
spelled_clause = record { over = clause_over; exact = clause_over_exact }
