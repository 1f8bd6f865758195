-- The nodes of a tree are read as that tree.
use Rattle.std.specs.Prelude.{◌≡◌, List, [], ◌∷◌, ◌++◌, length, take, drop, reverse, refl}
use Rattle.std.proofs.Common.{◌∙◌, ap, sym, suc}
use Rattle.std.proofs.Math.Seq.{take-append_seam, drop-append_seam}
use Rattle.std.proofs.lemmas.List.{append_assoc, append-nil, length-reverse, reverse-append, reverse-reverse}
use Rattle.cat_tree.specs.declared.node.Infix.{Infix}
use Rattle.cat_tree.specs.declared.node.Infix.TheVariants.{Union, Sequence, Difference, Intersection, Product}
use Rattle.cat_tree.specs.declared.node.Leaf.{Leaf}
use Rattle.cat_tree.specs.declared.node.Leaf.TheVariants as leaves
use Rattle.cat_tree.specs.declared.node.Node.{Node}
use Rattle.cat_tree.specs.declared.node.Node.TheVariants as nodes
use Rattle.cat_tree.specs.declared.node.Sign.{Sign}
use Rattle.cat_tree.specs.declared.node.Sign.TheVariants.{Complement, Plus, Star, Optional, Inverse, Domain, Range, Identity}
use Rattle.cat_tree.specs.Terms.{Word, Term, Terms, union, sequence, difference, intersection, product, complement, plus, star, optional, inverse, domain, range, identity, name, empty_relation, empty_set, universe, call, no_terms, term, leaf_of, applied, joined, count_terms, terms_of, postorder, postorders, left_by, left_by_all, latest, term_in}

-- what holds of leaves, of what signs and operators make of trees of which it holds, and of calls with such arguments, holds of all trees
module _ (P : Term → Type 0) (Q : Terms → Type 0) (leaf : (l : Leaf) → P (leaf_of l)) (one : (u : Sign) (a : Term) → P a → P (applied u a)) (two : (o : Infix) (a b : Term) → P a → P b → P (joined o a b)) (calls : (f : Word) (bs : Terms) → Q bs → P (call f bs)) (none : Q no_terms) (more : (a : Term) (bs : Terms) → P a → Q bs → Q (term a bs)) where
  mutual
    pub by_nodes : (a : Term) → P a
    by_nodes (union a b) = two Union a b (by_nodes a) (by_nodes b)
    by_nodes (sequence a b) = two Sequence a b (by_nodes a) (by_nodes b)
    by_nodes (difference a b) = two Difference a b (by_nodes a) (by_nodes b)
    by_nodes (intersection a b) = two Intersection a b (by_nodes a) (by_nodes b)
    by_nodes (product a b) = two Product a b (by_nodes a) (by_nodes b)
    by_nodes (complement a) = one Complement a (by_nodes a)
    by_nodes (plus a) = one Plus a (by_nodes a)
    by_nodes (star a) = one Star a (by_nodes a)
    by_nodes (optional a) = one Optional a (by_nodes a)
    by_nodes (inverse a) = one Inverse a (by_nodes a)
    by_nodes (domain a) = one Domain a (by_nodes a)
    by_nodes (range a) = one Range a (by_nodes a)
    by_nodes (identity a) = one Identity a (by_nodes a)
    by_nodes (name x) = leaf (leaves.Name x)
    by_nodes empty_relation = leaf leaves.EmptyRelation
    by_nodes empty_set = leaf leaves.EmptySet
    by_nodes universe = leaf leaves.Universe
    by_nodes (call f bs) = calls f bs (by_arguments bs)

    pub by_arguments : (bs : Terms) → Q bs
    by_arguments no_terms = none
    by_arguments (term a bs) = more a bs (by_nodes a) (by_arguments bs)

pub postorder-leaf : (l : Leaf) → postorder (leaf_of l) ≡ nodes.Leaf l ∷ []
postorder-leaf (leaves.Name x) = refl
postorder-leaf leaves.EmptyRelation = refl
postorder-leaf leaves.EmptySet = refl
postorder-leaf leaves.Universe = refl

pub postorder-sign : (u : Sign) (a : Term) → postorder (applied u a) ≡ postorder a ++ nodes.Sign u ∷ []
postorder-sign Complement a = refl
postorder-sign Plus a = refl
postorder-sign Star a = refl
postorder-sign Optional a = refl
postorder-sign Inverse a = refl
postorder-sign Domain a = refl
postorder-sign Range a = refl
postorder-sign Identity a = refl

pub postorder-infix : (o : Infix) (a b : Term) → postorder (joined o a b) ≡ postorder a ++ (postorder b ++ nodes.Infix o ∷ [])
postorder-infix Union a b = refl
postorder-infix Sequence a b = refl
postorder-infix Difference a b = refl
postorder-infix Intersection a b = refl
postorder-infix Product a b = refl

-- the terms of a list of arguments
abbrev pub listed : Terms → List Term
listed no_terms = []
listed (term a bs) = a ∷ listed bs

pub terms_of-listed : (bs : Terms) → terms_of (listed bs) ≡ bs
terms_of-listed no_terms = refl
terms_of-listed (term a bs) = ap (term a) (terms_of-listed bs)

pub length-listed : (bs : Terms) → length (listed bs) ≡ count_terms bs
length-listed no_terms = refl
length-listed (term a bs) = ap suc (length-listed bs)

stacked : (bs : Terms) → length (reverse (listed bs)) ≡ count_terms bs
stacked bs = length-reverse (listed bs) ∙ length-listed bs

-- a call takes just its arguments
pub call_left : (f : Word) (bs : Terms) (s : List Term) → left_by (nodes.Call f (count_terms bs)) (reverse (listed bs) ++ s) ≡ call f bs ∷ s
call_left f bs s =
    ap (λ n. call f (terms_of (reverse (take n (reverse (listed bs) ++ s)))) ∷ drop n (reverse (listed bs) ++ s)) (sym (stacked bs)) ∙
    ap (λ as'. call f (terms_of (reverse as')) ∷ drop (length (reverse (listed bs))) (reverse (listed bs) ++ s)) (take-append_seam (reverse (listed bs)) s) ∙
    ap (λ as'. call f (terms_of (reverse (reverse (listed bs)))) ∷ as') (drop-append_seam (reverse (listed bs)) s) ∙
    ap (λ as'. call f (terms_of as') ∷ s) (reverse-reverse (listed bs)) ∙
    ap (λ cs. call f cs ∷ s) (terms_of-listed bs)

-- the nodes of a tree leave the tree
abbrev Leaves : Term → Type 0
Leaves a = (s : List Term) (ns : List Node) → left_by_all s (postorder a ++ ns) ≡ left_by_all (a ∷ s) ns

-- those of arguments leave them, the last one above
abbrev AllLeave : Terms → Type 0
AllLeave bs = (s : List Term) (ns : List Node) → left_by_all s (postorders bs ++ ns) ≡ left_by_all (reverse (listed bs) ++ s) ns

leaf_leaves : (l : Leaf) → Leaves (leaf_of l)
leaf_leaves l s ns = ap (λ ms. left_by_all s (ms ++ ns)) (postorder-leaf l)

sign_leaves : (u : Sign) (a : Term) → Leaves a → Leaves (applied u a)
sign_leaves u a h s ns = ap (λ ms. left_by_all s (ms ++ ns)) (postorder-sign u a) ∙ ap (λ ms. left_by_all s ms) (append_assoc (postorder a) (nodes.Sign u ∷ []) ns) ∙ h s (nodes.Sign u ∷ ns)

infix_leaves : (o : Infix) (a b : Term) → Leaves a → Leaves b → Leaves (joined o a b)
infix_leaves o a b h k s ns =
    ap (λ ms. left_by_all s (ms ++ ns)) (postorder-infix o a b) ∙ ap (λ ms. left_by_all s ms) (append_assoc (postorder a) (postorder b ++ nodes.Infix o ∷ []) ns) ∙
    h s ((postorder b ++ nodes.Infix o ∷ []) ++ ns) ∙ ap (λ ms. left_by_all (a ∷ s) ms) (append_assoc (postorder b) (nodes.Infix o ∷ []) ns) ∙ k (a ∷ s) (nodes.Infix o ∷ ns)

call_leaves : (f : Word) (bs : Terms) → AllLeave bs → Leaves (call f bs)
call_leaves f bs h s ns =
    ap (λ ms. left_by_all s ms) (append_assoc (postorders bs) (nodes.Call f (count_terms bs) ∷ []) ns) ∙
    h s (nodes.Call f (count_terms bs) ∷ ns) ∙
    ap (λ t. left_by_all t ns) (call_left f bs s)

none_leave : AllLeave no_terms
none_leave s ns = refl

more_leave : (a : Term) (bs : Terms) → Leaves a → AllLeave bs → AllLeave (term a bs)
more_leave a bs h k s ns =
    ap (λ ms. left_by_all s ms) (append_assoc (postorder a) (postorders bs) ns) ∙ h s (postorders bs ++ ns) ∙ k (a ∷ s) ns ∙
    ap (λ t. left_by_all t ns) (sym (append_assoc (reverse (listed bs)) (a ∷ []) s) ∙ ap (λ t. t ++ s) (sym (reverse-append (a ∷ []) (listed bs))))

pub leaves_tree : (a : Term) → Leaves a
leaves_tree = by_nodes Leaves AllLeave leaf_leaves sign_leaves infix_leaves call_leaves none_leave more_leave

pub term_in-postorder : (a : Term) → term_in (postorder a) ≡ a
term_in-postorder a = ap (λ ms. term_in ms) (sym (append-nil (postorder a))) ∙ ap (λ s. latest universe s) (leaves_tree a [] [])

-- nothing else is left
pub left_alone : (ns : List Node) → postorder (term_in ns) ≡ ns → left_by_all [] ns ≡ term_in ns ∷ []
left_alone ns w = ap (λ ms. left_by_all [] ms) (sym w ∙ sym (append-nil (postorder (term_in ns)))) ∙ leaves_tree (term_in ns) [] []
