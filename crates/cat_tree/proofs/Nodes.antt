-- Lists of nodes that are those of a tree.
use Rattle.std.proofs.Common.{◌≡◌, ℕ, List, [], ◌∷◌, ◌++◌, length, map, suc, ◌∙◌, ap, sym, refl}
use Rattle.std.proofs.Common.{rules}
use Rattle.std.specs.Prelude.{reverse}
use Rattle.std.specs.Bool.{Decides, one_answer}
use Rattle.std.specs.Cmp.Lexicographic.{pointwise, pointwise_decides}
use Rattle.std.proofs.lemmas.List.{append_assoc, append-nil, reverse-append, length-map}
use Rattle.cat_tree.specs.contracts.node.NodePartialEq.TheImpl.{ghosts as node_equality}
use Rattle.cat_tree.specs.declared.node.Infix.{Infix}
use Rattle.cat_tree.specs.declared.node.Leaf.{Leaf}
use Rattle.cat_tree.specs.declared.node.Node.{Node}
use Rattle.cat_tree.specs.declared.node.Node.TheVariants as nodes
use Rattle.cat_tree.specs.declared.node.Sign.{Sign}
use Rattle.cat_tree.specs.Equality.{same_term}
use Rattle.cat_tree.specs.Exact.{by_parts, term_exact}
use Rattle.cat_tree.specs.Postorder.{postorder-leaf, postorder-sign, postorder-infix, term_in-postorder}
use Rattle.cat_tree.specs.Terms.{Word, Term, call, leaf_of, applied, joined, nest, count_terms, terms_of, operands_in, operators_in, postorder, postorders, term_in}
use Rattle.cat_tree.specs.Tree.{term_of}
use Rattle.cat_tree.specs.declared.expression.Expression.{Expression}

-- nodes that are those of a tree are read as it, and are those of what they are read as

pub term_by : (ns : List Node) (a : Term) → ns ≡ postorder a → term_in ns ≡ a
term_by ns a e = ap (λ ms. term_in ms) e ∙ term_in-postorder a

pub whole_by : (ns : List Node) (a : Term) → ns ≡ postorder a → postorder (term_in ns) ≡ ns
whole_by ns a e = ap (λ b. postorder b) (term_by ns a e) ∙ sym e

pub leaf_term : (l : Leaf) → term_in (nodes.Leaf l ∷ []) ≡ leaf_of l
leaf_term l = refl

pub leaf_whole : (l : Leaf) → postorder (term_in (nodes.Leaf l ∷ [])) ≡ nodes.Leaf l ∷ []
leaf_whole l = postorder-leaf l

sign_is : (ns : List Node) (u : Sign) → postorder (term_in ns) ≡ ns → ns ++ nodes.Sign u ∷ [] ≡ postorder (applied u (term_in ns))
sign_is ns u e = sym (postorder-sign u (term_in ns) ∙ ap (λ ms. ms ++ nodes.Sign u ∷ []) e)

pub sign_term : (ns : List Node) (u : Sign) → postorder (term_in ns) ≡ ns → term_in (ns ++ nodes.Sign u ∷ []) ≡ applied u (term_in ns)
sign_term ns u e = term_by (ns ++ nodes.Sign u ∷ []) (applied u (term_in ns)) (sign_is ns u e)

pub sign_whole : (ns : List Node) (u : Sign) → postorder (term_in ns) ≡ ns → postorder (term_in (ns ++ nodes.Sign u ∷ [])) ≡ ns ++ nodes.Sign u ∷ []
sign_whole ns u e = whole_by (ns ++ nodes.Sign u ∷ []) (applied u (term_in ns)) (sign_is ns u e)

infix_is : (ns : List Node) (b : Term) (o : Infix) → postorder (term_in ns) ≡ ns → (ns ++ postorder b) ++ nodes.Infix o ∷ [] ≡ postorder (joined o (term_in ns) b)
infix_is ns b o e = append_assoc ns (postorder b) (nodes.Infix o ∷ []) ∙ sym (postorder-infix o (term_in ns) b ∙ ap (λ ms. ms ++ (postorder b ++ nodes.Infix o ∷ [])) e)

pub infix_term : (ns : List Node) (b : Term) (o : Infix) → postorder (term_in ns) ≡ ns → term_in ((ns ++ postorder b) ++ nodes.Infix o ∷ []) ≡ joined o (term_in ns) b
infix_term ns b o e = term_by ((ns ++ postorder b) ++ nodes.Infix o ∷ []) (joined o (term_in ns) b) (infix_is ns b o e)

pub infix_whole : (ns : List Node) (b : Term) (o : Infix) → postorder (term_in ns) ≡ ns → postorder (term_in ((ns ++ postorder b) ++ nodes.Infix o ∷ [])) ≡ (ns ++ postorder b) ++ nodes.Infix o ∷ []
infix_whole ns b o e = whole_by ((ns ++ postorder b) ++ nodes.Infix o ∷ []) (joined o (term_in ns) b) (infix_is ns b o e)

-- calls

count_is : (as' : List Term) → count_terms (terms_of as') ≡ length as'
count_is [] = refl
count_is (a ∷ as') = ap suc (count_is as')

call_is : (f : Word) (es : List Expression) (n : ℕ) → n ≡ length es → postorders (terms_of (map term_of es)) ++ nodes.Call f n ∷ [] ≡ postorder (call f (terms_of (map term_of es)))
call_is f es n e = ap (λ m. postorders (terms_of (map term_of es)) ++ nodes.Call f m ∷ []) (e ∙ sym (count_is (map term_of es) ∙ length-map es term_of))

pub call_term : (f : Word) (es : List Expression) (n : ℕ) → n ≡ length es → term_in (postorders (terms_of (map term_of es)) ++ nodes.Call f n ∷ []) ≡ call f (terms_of (map term_of es))
call_term f es n e = term_by (postorders (terms_of (map term_of es)) ++ nodes.Call f n ∷ []) (call f (terms_of (map term_of es))) (call_is f es n e)

pub call_whole : (f : Word) (es : List Expression) (n : ℕ) → n ≡ length es → postorder (term_in (postorders (terms_of (map term_of es)) ++ nodes.Call f n ∷ [])) ≡ postorders (terms_of (map term_of es)) ++ nodes.Call f n ∷ []
call_whole f es n e = whole_by (postorders (terms_of (map term_of es)) ++ nodes.Call f n ∷ []) (call f (terms_of (map term_of es))) (call_is f es n e)

pub same_whole : (ns ms : List Node) → ns ≡ ms → postorder (term_in ms) ≡ ms → postorder (term_in ns) ≡ ns
same_whole ns ms e w = whole_by ns (term_in ms) (e ∙ sym w)

-- chains to the right: the nodes of all left operands, those of the last, and the operators from the last to the first

regrouped : (hs is js ks ls : List Node) → ((hs ++ is) ++ js) ++ (ks ++ ls) ≡ hs ++ (((is ++ js) ++ ks) ++ ls)
regrouped hs is js ks ls =
    ap (λ ms. ms ++ (ks ++ ls)) (append_assoc hs is js) ∙ append_assoc hs (is ++ js) (ks ++ ls) ∙ ap (λ ms. hs ++ ms) (sym (append_assoc (is ++ js) ks ls))

nest_is : (xs : List (Infix × Term)) (b : Term) → (operands_in xs ++ postorder b) ++ reverse (operators_in xs) ≡ postorder (nest xs b)
nest_is [] b = append-nil (postorder b)
nest_is (x ∷ xs) b =
    ap (λ ms. ((postorder x.1 ++ operands_in xs) ++ postorder b) ++ ms) (reverse-append (nodes.Infix x.0 ∷ []) (operators_in xs)) ∙
    regrouped (postorder x.1) (operands_in xs) (postorder b) (reverse (operators_in xs)) (nodes.Infix x.0 ∷ []) ∙
    ap (λ ms. postorder x.1 ++ (ms ++ nodes.Infix x.0 ∷ [])) (nest_is xs b) ∙
    sym (postorder-infix x.0 x.1 (nest xs b))

pub nest_term : (xs : List (Infix × Term)) (b : Term) → term_in ((operands_in xs ++ postorder b) ++ reverse (operators_in xs)) ≡ nest xs b
nest_term xs b = term_by ((operands_in xs ++ postorder b) ++ reverse (operators_in xs)) (nest xs b) (nest_is xs b)

pub nest_whole : (xs : List (Infix × Term)) (b : Term) → postorder (term_in ((operands_in xs ++ postorder b) ++ reverse (operators_in xs))) ≡ (operands_in xs ++ postorder b) ++ reverse (operators_in xs)
nest_whole xs b = whole_by ((operands_in xs ++ postorder b) ++ reverse (operators_in xs)) (nest xs b) (nest_is xs b)

-- equal nodes are those of equal trees

node_exact : (n m : Node) → Decides (node_equality.eq n m) (n ≡ m)
node_exact n m = search rules

pub nodes_same : (ns ms : List Node) → postorder (term_in ns) ≡ ns → postorder (term_in ms) ≡ ms → pointwise node_equality.eq ns ms ≡ same_term (term_in ns) (term_in ms)
nodes_same ns ms v w =
    one_answer _ _
    (by_parts _ (pointwise_decides node_exact ns ms) (λ e. ap (λ ls. term_in ls) e) (λ e. sym v ∙ ap (λ a. postorder a) e ∙ w))
    (term_exact (term_in ns) (term_in ms))
