-- The nodes of the symbols are the nodes of the tree that they spell.
use Rattle.std.proofs.Common.{◌≡◌, ℕ, zero, suc, ◌+◌, ◌-◌, ◌<◌, ◌≤◌, List, [], ◌∷◌, length, take, drop, get_or, refl, ap, sym, ◌∙◌, arith, add-one, drop-cons, ◌⊎◌, inl, inr}
use Rattle.std.proofs.lemmas.List.Sums.{sum_by-cons}
use Rattle.std.specs.Prelude.{Bool, Option, sum_by, if◌then◌else◌}
use Rattle.cat_syntax.specs.declared.counting.Context.{Context}
use Rattle.cat_syntax.specs.declared.counting.Context.TheVariants as contexts
use Rattle.cat_tree.specs.declared.node.Infix.{Infix}
use Rattle.cat_tree.specs.declared.node.Infix.TheVariants.{Union, Sequence, Difference, Intersection, Product}
use Rattle.cat_syntax.specs.declared.symbol.Symbol.{Symbol}
use Rattle.cat_syntax.specs.declared.symbol.Symbol.TheVariants.{Fixed, Name, Quoted}
use Rattle.cat_syntax.specs.declared.symbol.Terminal.{Terminal}
use Rattle.cat_syntax.specs.declared.symbol.Terminal.TheVariants.{And, Comma, Equals, Flag, RightParen, Tilde}
use Rattle.cat_tree.specs.declared.tree.CheckKind.{CheckKind}
use Rattle.cat_tree.specs.Tree.{Word, Term, Terms, Defined, Bound, Shown, Clause, File}
use Rattle.cat_syntax.specs.Nodes.{term_nodes, terms_nodes, clause_nodes, nodes}
use Rattle.cat_syntax.specs.Counting.{cost, announces_node, context_after, depth_after, weight}
use Rattle.cat_syntax.specs.Stops.{IsExcess, excess_at}
use Rattle.cat_syntax.specs.Grammar.{joined, JoinsLeft, joins_product, joins_difference, JoinsRight, joins_intersection, joins_sequence, joins_union, IsLevel, level_unary, level_tighter, level_left, level_right, IsUnary, unary_complement, unary_postfix, IsPostfix, postfix_primary, postfix_plus, postfix_star, postfix_optional, postfix_inverse, IsPrimary, primary_name, primary_universe, primary_empty_relation, primary_empty_set, primary_paren, primary_identity, primary_domain, primary_range, primary_call, AreArguments, last_argument, more_arguments}
use Rattle.cat_syntax.specs.Items.{AreSeparated, one, more, IsOptional, absent, present, IsNamed, named, IsAlias, no_alias, alias, AreParameters, no_parameters, with_parameters, IsDefinition, definition, IsBinding, binding, IsElement, element, Checks, checks_acyclic, checks_irreflexive, checks_empty, IsItem, item_let, item_rec, item_check, item_include, item_show, item_unshow, AreItems, no_items, more_items, IsFile, untitled, title_name, title_quoted}
use Rattle.cat_syntax.proofs.ItemsComplete.{starts_let, starts_flag, starts_tilde, starts_acyclic, starts_irreflexive, starts_empty, starts_include, starts_show, starts_unshow, Follows, at_end, at_item, items-follow}

-- the next symbol of a list
pub weight_next : (c : Context) (p : ℕ) (ss : List Symbol) (i : ℕ) (d : Symbol) → i < length ss →
    weight c p (drop i ss) ≡ cost c p (get_or ss i d) + weight (context_after c (get_or ss i d)) (depth_after p (get_or ss i d)) (drop (i + 1) ss)
unfolding weight
weight_next c p ss i d h = rw (add-one, drop-cons ss i d)

-- the same of the first few
pub front_next : (b c : Context) (p : ℕ) (ss : List Symbol) (i n : ℕ) (d : Symbol) → i < length ss → ((m : ℕ) → n + weight c p (take m (drop i ss)) ≡ weight b 0 (take (i + m) ss)) →
    (m : ℕ) → (n + cost c p (get_or ss i d)) + weight (context_after c (get_or ss i d)) (depth_after p (get_or ss i d)) (take m (drop (i + 1) ss)) ≡ weight b 0 (take ((i + 1) + m) ss)
unfolding weight
front_next b c p ss i n d h f m =
    let g : n + (cost c p (get_or ss i d) + weight (context_after c (get_or ss i d)) (depth_after p (get_or ss i d)) (take m (drop (suc i) ss))) ≡ weight b 0 (take (i + suc m) ss) = rw (drop-cons ss i d h) at (f (suc m)) in
    let e : i + suc m ≡ suc i + m = omega arith in
    let k : n + (cost c p (get_or ss i d) + weight (context_after c (get_or ss i d)) (depth_after p (get_or ss i d)) (take m (drop (suc i) ss))) ≡ weight b 0 (take (suc i + m) ss) = g ∙ ap (λ j. weight b 0 (take j ss)) e in
    rw add-one (omega (arith, k))

front-le : (c : Context) (p : ℕ) (ss : List Symbol) (m n : ℕ) → m ≤ n → weight c p (take m ss) ≤ weight c p (take n ss)
unfolding weight
front-le c p [] zero n h = omega arith
front-le c p [] (suc m) zero h = absurd (omega (arith, h))
front-le c p [] (suc m) (suc n) h = omega arith
front-le c p (s ∷ ss) zero n h = omega arith
front-le c p (s ∷ ss) (suc m) zero h = absurd (omega (arith, h))
front-le c p (s ∷ ss) (suc m) (suc n) h = omega (arith, front-le (context_after c s) (depth_after p s) ss m n (omega (arith, h)))

pub front_all : (c : Context) (p : ℕ) (ss : List Symbol) (n : ℕ) → weight c p (take n ss) ≤ weight c p ss
unfolding weight
front_all c p [] zero = omega arith
front_all c p [] (suc n) = omega arith
front_all c p (s ∷ ss) zero = omega arith
front_all c p (s ∷ ss) (suc n) = omega (arith, front_all (context_after c s) (depth_after p s) ss n)

le_or : (m n : ℕ) → (m ≤ n) ⊎ (n < m)
le_or zero n = inl (omega arith)
le_or (suc m) zero = inr (omega arith)
le_or (suc m) (suc n) = elim (le_or m n) [ inl h ↦ inl (omega (arith, h)) | inr h ↦ inr (omega (arith, h)) ]

counted-not_less : (ss : List Symbol) (i j : ℕ) → weight contexts.Naming 0 (take i ss) ≤ 4096 → 4096 < weight contexts.Naming 0 (take (j + 1) ss) → i ≤ j
counted-not_less ss i j few many = elim (le_or i j) [
  | inl h ↦ h
  | inr h ↦ absurd (omega (arith, many, few, front-le contexts.Naming 0 ss (j + 1) i (omega (arith, h))))
]

excess-reported : (ss : List Symbol) (i j : ℕ) (s t : Symbol) (ts us : List Symbol) → drop i ss ≡ s ∷ ts → drop j ss ≡ t ∷ us → i ≡ j → (if announces_node s then i + 1 else i) ≡ (if announces_node t then j + 1 else j)
excess-reported ss i j s t ts us here there same =
    let pair : s ∷ ts ≡ t ∷ us = sym here ∙ (ap (λ k. drop k ss) same ∙ there) in
    let symbols : s ≡ t = cc in
    rw (symbols, same) refl

pub one_excess : (ss : List Symbol) (m n : ℕ) → IsExcess ss m → IsExcess ss n → m ≡ n
one_excess ss m n (excess_at i s ts few many here reported) (excess_at j t us few' many' there reported') =
    let same : i ≡ j = omega (arith, counted-not_less ss i j few many', counted-not_less ss j i few' many) in
    reported ∙ (excess-reported ss i j s t ts us here there same ∙ sym reported')

-- the symbol that makes it too many
pub excess_here : (c : Context) (p : ℕ) (ss : List Symbol) (i n place : ℕ) (d : Symbol) → i < length ss → ((m : ℕ) → n + weight c p (take m (drop i ss)) ≡ weight contexts.Naming 0 (take (i + m) ss)) → n ≤ 4096 →
    4096 < n + cost c p (get_or ss i d) → place ≡ (if announces_node (get_or ss i d) then i + 1 else i) → IsExcess ss place
unfolding weight
excess_here c p ss i n place d h f few over reported =
    let before : n + 0 ≡ weight contexts.Naming 0 (take (i + 0) ss) = f 0 in
    let none : i + 0 ≡ i = omega arith in
    let same : weight contexts.Naming 0 (take (i + 0) ss) ≡ weight contexts.Naming 0 (take i ss) = ap (λ j. weight contexts.Naming 0 (take j ss)) none in
    let g = front_next contexts.Naming c p ss i n d h f 0 in
    let e : (i + 1) + 0 ≡ i + 1 = omega arith in
    let k = ap (λ j. weight contexts.Naming 0 (take j ss)) e in
    excess_at i (get_or ss i d) (drop (suc i) ss) (omega (arith, before, same, few)) (omega (arith, g, k, over)) (drop-cons ss i d h) reported

-- where so many parentheses are open
abbrev plain : (depth : ℕ) → List Symbol → ℕ
plain p ss = weight contexts.Plain p ss

-- expressions

joined-nodes : (o : Infix) (a b : Term) → term_nodes (joined o a b) ≡ 1 + term_nodes a + term_nodes b
joined-nodes Union a b = refl
joined-nodes Sequence a b = refl
joined-nodes Difference a b = refl
joined-nodes Intersection a b = refl
joined-nodes Product a b = refl

left-weight : {k : ℕ} {t : Terminal} {o : Infix} → JoinsLeft k t o → (p : ℕ) (ss : List Symbol) → plain p (Fixed t ∷ ss) ≡ 1 + plain p ss
unfolding weight cost context_after depth_after
left-weight joins_product p ss = refl
left-weight joins_difference p ss = refl

right-weight : {k : ℕ} {t : Terminal} {o : Infix} → JoinsRight k t o → (p : ℕ) (ss : List Symbol) → plain p (Fixed t ∷ ss) ≡ 1 + plain p ss
unfolding weight cost context_after depth_after
right-weight joins_intersection p ss = refl
right-weight joins_sequence p ss = refl
right-weight joins_union p ss = refl

-- behind ~ an operand counts as ever
mutual
  unfolding weight cost context_after depth_after

  unary-behind : {n : ℕ} {ts rest : List Symbol} {a : Term} → IsUnary n ts rest a → (p : ℕ) → weight contexts.Tilde p ts ≡ plain p ts
  unary-behind (unary_complement d) p = refl
  unary-behind (unary_postfix d) p = postfix-behind d p

  postfix-behind : {n : ℕ} {ts rest : List Symbol} {a : Term} → IsPostfix n ts rest a → (p : ℕ) → weight contexts.Tilde p ts ≡ plain p ts
  postfix-behind (postfix_primary d) p = primary-behind d p
  postfix-behind (postfix_plus d) p = postfix-behind d p
  postfix-behind (postfix_star d f) p = postfix-behind d p
  postfix-behind (postfix_optional d) p = postfix-behind d p
  postfix-behind (postfix_inverse d) p = postfix-behind d p

  primary-behind : {n : ℕ} {ts rest : List Symbol} {a : Term} → IsPrimary n ts rest a → (p : ℕ) → weight contexts.Tilde p ts ≡ plain p ts
  primary-behind primary_name p = refl
  primary-behind primary_universe p = refl
  primary-behind primary_empty_relation p = refl
  primary-behind primary_empty_set p = refl
  primary-behind (primary_paren d) p = refl
  primary-behind (primary_identity d) p = refl
  primary-behind (primary_domain d) p = refl
  primary-behind (primary_range d) p = refl
  primary-behind (primary_call d) p = refl

-- a parenthesis is closed
closed-weight : (p : ℕ) (ss : List Symbol) → plain (p + 1) (Fixed RightParen ∷ ss) ≡ plain p ss
unfolding weight cost context_after depth_after
closed-weight p ss = (let same : (p + 1) - 1 ≡ p = omega arith in omega (arith, ap (λ q. plain q ss) same))

-- a comma between arguments
inner-comma : (p : ℕ) (ss : List Symbol) → plain (p + 1) (Fixed Comma ∷ ss) ≡ plain (p + 1) ss
unfolding weight cost context_after depth_after
inner-comma p ss = rw add-one (omega arith)

mutual
  unfolding weight cost context_after depth_after

  level-weight : {k n : ℕ} {ts rest : List Symbol} {a : Term} → IsLevel k n ts rest a → (p : ℕ) → plain p ts ≡ term_nodes a + plain p rest
  level-weight (level_unary d) p = unary-weight d p
  level-weight (level_tighter d) p = level-weight d p
  level-weight (level_left {mid = mid} {o = o} {a = a} {b = b} d j e) p = omega (arith, level-weight d p, left-weight j p mid, level-weight e p, joined-nodes o a b)
  level-weight (level_right {mid = mid} {o = o} {a = a} {b = b} d j e) p = omega (arith, level-weight d p, right-weight j p mid, level-weight e p, joined-nodes o a b)

  unary-weight : {n : ℕ} {ts rest : List Symbol} {a : Term} → IsUnary n ts rest a → (p : ℕ) → plain p ts ≡ term_nodes a + plain p rest
  unary-weight (unary_complement d) p = omega (arith, unary-behind d p, unary-weight d p)
  unary-weight (unary_postfix d) p = postfix-weight d p

  postfix-weight : {n : ℕ} {ts rest : List Symbol} {a : Term} → IsPostfix n ts rest a → (p : ℕ) → plain p ts ≡ term_nodes a + plain p rest
  postfix-weight (postfix_primary d) p = primary-weight d p
  postfix-weight (postfix_plus d) p = omega (arith, postfix-weight d p)
  postfix-weight (postfix_star d f) p = omega (arith, postfix-weight d p)
  postfix-weight (postfix_optional d) p = omega (arith, postfix-weight d p)
  postfix-weight (postfix_inverse d) p = omega (arith, postfix-weight d p)

  primary-weight : {n : ℕ} {ts rest : List Symbol} {a : Term} → IsPrimary n ts rest a → (p : ℕ) → plain p ts ≡ term_nodes a + plain p rest
  primary-weight primary_name p = omega arith
  primary-weight primary_universe p = omega arith
  primary-weight primary_empty_relation p = omega arith
  primary-weight primary_empty_set p = omega arith
  primary-weight (primary_paren {rest = rest} d) p = omega (arith, level-weight d (p + 1), closed-weight p rest)
  primary-weight (primary_identity d) p = omega (arith, level-weight d p)
  primary-weight (primary_domain {rest = rest} d) p = omega (arith, level-weight d (p + 1), closed-weight p rest)
  primary-weight (primary_range {rest = rest} d) p = omega (arith, level-weight d (p + 1), closed-weight p rest)
  primary-weight (primary_call {rest = rest} d) p = omega (arith, arguments-weight d p, closed-weight p rest)

  -- between parentheses
  arguments-weight : {n : ℕ} {ts rest : List Symbol} {bs : Terms} → AreArguments n ts rest bs → (p : ℕ) → plain (p + 1) ts ≡ terms_nodes bs + plain (p + 1) rest
  arguments-weight (last_argument d) p = omega (arith, level-weight d (p + 1))
  arguments-weight (more_arguments {mid = mid} d e) p = omega (arith, level-weight d (p + 1), inner-comma p mid, arguments-weight e p)

-- items

alias-weight : (ts rest : List Symbol) (x : Option Word) → IsAlias ts rest x → plain 0 ts ≡ plain 0 rest
unfolding weight cost context_after depth_after
alias-weight ts rest x no_alias = refl
alias-weight ts rest x alias = omega arith

binding-weight : (ts rest : List Symbol) (b : Bound) → IsBinding ts rest b → plain 0 ts ≡ (1 + term_nodes b.value) + plain 0 rest
unfolding weight cost context_after depth_after
binding-weight ts rest b (binding d) = omega (arith, level-weight d 0)

element-weight : (ts rest : List Symbol) (e : Shown) → IsElement ts rest e → plain 0 ts ≡ term_nodes e.value + plain 0 rest
element-weight ts rest e (element {mid = mid} {x = x} d f) = omega (arith, level-weight d 0, alias-weight mid rest x f)

and-weight : (ss : List Symbol) → plain 0 (Fixed And ∷ ss) ≡ plain 0 ss
unfolding weight cost context_after depth_after
and-weight ss = omega arith

comma-weight : (ss : List Symbol) → plain 0 (Fixed Comma ∷ ss) ≡ 1 + plain 0 ss
unfolding weight cost context_after depth_after
comma-weight ss = omega arith

name-weight : (p : ℕ) (x : Word) (ss : List Symbol) → plain p (Name x ∷ ss) ≡ 1 + plain p ss
unfolding weight cost context_after depth_after
name-weight p x ss = omega arith

parameter-weight : (ts rest : List Symbol) (x : Word) → IsNamed ts rest x → plain (0 + 1) ts ≡ 1 + plain (0 + 1) rest
parameter-weight ts rest x (named {rest = us}) = name-weight (0 + 1) x us

listed-weight : (ts rest : List Symbol) (xs : List Word) → AreSeparated Comma IsNamed ts rest xs → plain (0 + 1) ts ≡ length xs + plain (0 + 1) rest
listed-weight ts rest xs (one {x = x} d) = omega (arith, parameter-weight ts rest x d)
listed-weight ts rest xs (more {mid = mid} {x = x} {xs = ys} d ds) = omega (arith, parameter-weight ts (Fixed Comma ∷ mid) x d, inner-comma 0 mid, listed-weight mid rest ys ds)

parameters-weight : (ts rest : List Symbol) (xs : List Word) → AreParameters ts rest xs → plain 0 ts ≡ length xs + plain 0 rest
unfolding weight cost context_after depth_after
parameters-weight ts rest xs no_parameters = omega arith
parameters-weight ts rest xs (with_parameters {ts = us} d k) = omega (arith, listed-weight us (Fixed RightParen ∷ rest) xs d, closed-weight 0 rest)

equals-weight : (ss : List Symbol) → plain 0 (Fixed Equals ∷ ss) ≡ plain 0 ss
unfolding weight cost context_after depth_after
equals-weight ss = omega arith

definition-weight : (ts rest : List Symbol) (d : Defined) → IsDefinition ts rest d → plain 0 ts ≡ (1 + length d.parameters + term_nodes d.value) + plain 0 rest
definition-weight ts rest d (definition {x = x} {ts = vs} {us = us} {ps = ps} k e) = omega (arith, name-weight 0 x vs, parameters-weight vs (Fixed Equals ∷ us) ps k, equals-weight us, level-weight e 0)

definitions-weight : (ts rest : List Symbol) (ds : List Defined) → AreSeparated And IsDefinition ts rest ds → plain 0 ts ≡ sum_by (λ d. 1 + length d.parameters + term_nodes d.value) ds + plain 0 rest
definitions-weight ts rest ds (one {x = d} e) = omega (arith, definition-weight ts rest d e)
definitions-weight ts rest ds (more {mid = mid} {x = d} {xs = cs} e es) =
    omega (arith, definition-weight ts (Fixed And ∷ mid) d e, and-weight mid, definitions-weight mid rest cs es, sum_by-cons (λ (y : Defined). 1 + length y.parameters + term_nodes y.value) d cs)

bindings-weight : (ts rest : List Symbol) (bs : List Bound) → AreSeparated And IsBinding ts rest bs → plain 0 ts ≡ sum_by (λ b. 1 + term_nodes b.value) bs + plain 0 rest
bindings-weight ts rest bs (one {x = b} d) = omega (arith, binding-weight ts rest b d)
bindings-weight ts rest bs (more {mid = mid} {x = b} {xs = cs} d ds) = omega (arith, binding-weight ts (Fixed And ∷ mid) b d, and-weight mid, bindings-weight mid rest cs ds, sum_by-cons (λ (y : Bound). 1 + term_nodes y.value) b cs)

elements-weight : (ts rest : List Symbol) (es : List Shown) → AreSeparated Comma IsElement ts rest es → 1 + plain 0 ts ≡ sum_by (λ e. 1 + term_nodes e.value) es + plain 0 rest
elements-weight ts rest es (one {x = e} d) = omega (arith, element-weight ts rest e d)
elements-weight ts rest es (more {mid = mid} {x = e} {xs = fs} d ds) = omega (arith, element-weight ts (Fixed Comma ∷ mid) e d, comma-weight mid, elements-weight mid rest fs ds, sum_by-cons (λ (y : Shown). 1 + term_nodes y.value) e fs)

named-weight : (ts rest : List Symbol) (x : Word) → IsNamed ts rest x → weight contexts.Unshow 0 ts ≡ weight contexts.Unshow 0 rest
unfolding weight cost context_after depth_after
named-weight ts rest x named = omega arith

unshow-comma : (ss : List Symbol) → weight contexts.Unshow 0 (Fixed Comma ∷ ss) ≡ 1 + weight contexts.Unshow 0 ss
unfolding weight cost context_after depth_after
unshow-comma ss = omega arith

names-weight : (ts rest : List Symbol) (xs : List Word) → AreSeparated Comma IsNamed ts rest xs → 1 + weight contexts.Unshow 0 ts ≡ length xs + weight contexts.Unshow 0 rest
names-weight ts rest xs (one {x = x} d) = omega (arith, named-weight ts rest x d)
names-weight ts rest xs (more {mid = mid} {x = x} {xs = ys} d ds) = omega (arith, named-weight ts (Fixed Comma ∷ mid) x d, unshow-comma mid, names-weight mid rest ys ds)

-- what follows an item counts alike wherever it stands
follows-weight : {ts : List Symbol} → Follows ts → (weight contexts.Unshow 0 ts ≡ plain 0 ts) × (weight contexts.Naming 0 ts ≡ plain 0 ts)
unfolding weight cost context_after depth_after
follows-weight at_end = (refl, refl)
follows-weight (at_item starts_let) = (refl, refl)
follows-weight (at_item starts_flag) = (refl, refl)
follows-weight (at_item starts_tilde) = (refl, refl)
follows-weight (at_item starts_acyclic) = (refl, refl)
follows-weight (at_item starts_irreflexive) = (refl, refl)
follows-weight (at_item starts_empty) = (refl, refl)
follows-weight (at_item starts_include) = (refl, refl)
follows-weight (at_item starts_show) = (refl, refl)
follows-weight (at_item starts_unshow) = (refl, refl)

-- A check is one node, with its `flag` and `~`.

record WordWeight (t : Terminal) (ss : List Symbol) : Type 0 where
  alone : plain 0 (Fixed t ∷ ss) ≡ 1 + plain 0 ss
  behind_flag : weight contexts.Flag 0 (Fixed t ∷ ss) ≡ plain 0 ss
  behind_tilde : weight contexts.Tilde 0 (Fixed t ∷ ss) ≡ plain 0 ss

word-weight : {t : Terminal} {k : CheckKind} → Checks t k → (ss : List Symbol) → WordWeight t ss
unfolding weight cost context_after depth_after
word-weight checks_acyclic ss = record { alone = omega arith; behind_flag = omega arith; behind_tilde = omega arith }
word-weight checks_irreflexive ss = record { alone = omega arith; behind_flag = omega arith; behind_tilde = omega arith }
word-weight checks_empty ss = record { alone = omega arith; behind_flag = omega arith; behind_tilde = omega arith }

tilde-weight : (ts rest vs : List Symbol) (t : Terminal) (b : Bool) → IsOptional Tilde ts rest b → rest ≡ Fixed t ∷ vs → WordWeight t vs → (plain 0 ts ≡ 1 + plain 0 vs) × (weight contexts.Flag 0 ts ≡ plain 0 vs)
unfolding weight cost context_after depth_after
tilde-weight ts rest vs t b absent e w = (rw e w.alone, rw e w.behind_flag)
tilde-weight ts rest vs t b present e w =
    let f : weight contexts.Tilde 0 rest ≡ plain 0 vs = rw e w.behind_tilde in
    (omega (arith, f), omega (arith, f))

flag-weight : (ts rest vs : List Symbol) (b : Bool) → IsOptional Flag ts rest b → (plain 0 rest ≡ 1 + plain 0 vs) × (weight contexts.Flag 0 rest ≡ plain 0 vs) → plain 0 ts ≡ 1 + plain 0 vs
unfolding weight cost context_after depth_after
flag-weight ts rest vs b absent w = w.0
flag-weight ts rest vs b present w = omega (arith, w.1)

item-weight : (ts rest : List Symbol) (c : Clause) → IsItem ts rest c → Follows rest → plain 0 ts ≡ clause_nodes c + plain 0 rest
unfolding weight cost context_after depth_after
item-weight ts rest c (item_let {ts = us} {ds = ds} d k) f = omega (arith, definitions-weight us rest ds d)
item-weight ts rest c (item_rec {ts = us} {bs = bs} d k) f = omega (arith, bindings-weight us rest bs d)
item-weight ts rest c (item_check {us = us} {vs = vs} {ws = ws} {flag = flag} {negated = negated} {t = t} {x = x} o n k d e) f =
    omega (arith, flag-weight ts us vs flag o (tilde-weight us (Fixed t ∷ vs) vs t negated n refl (word-weight k vs)), level-weight d 0, alias-weight ws rest x e)
item-weight ts rest c (item_include n) f = omega arith
item-weight ts rest c (item_show {ts = us} {es = es} d) f = omega (arith, elements-weight us rest es d)
item-weight ts rest c (item_unshow {ts = us} {xs = xs} d) f = omega (arith, names-weight us rest xs d, (follows-weight f).0)

items-weight : (ts : List Symbol) (cs : List Clause) → AreItems ts cs → plain 0 ts ≡ sum_by clause_nodes cs
unfolding weight
items-weight ts cs no_items = refl
items-weight ts cs (more_items {rest = rest} {i = c} {is = ds} d e) = omega (arith, item-weight ts rest c d (items-follow e), items-weight rest ds e, sum_by-cons clause_nodes c ds)

title_name-weight : (x : Word) (ts : List Symbol) → weight contexts.Naming 0 (Name x ∷ ts) ≡ plain 0 ts
unfolding weight cost context_after depth_after
title_name-weight x ts = omega arith

title_quoted-weight : (x : Word) (ts : List Symbol) → weight contexts.Naming 0 (Quoted x ∷ ts) ≡ plain 0 ts
unfolding weight cost context_after depth_after
title_quoted-weight x ts = omega arith

pub file-weight : (ts : List Symbol) (f : File) → IsFile ts f → weight contexts.Naming 0 ts ≡ nodes f
file-weight ts f (untitled {is = cs} d) = (follows-weight (items-follow d)).1 ∙ items-weight ts cs d
file-weight ts f (title_name {x = x} {ts = us} {is = cs} d) = title_name-weight x us ∙ items-weight us cs d
file-weight ts f (title_quoted {x = x} {ts = us} {is = cs} d) = title_quoted-weight x us ∙ items-weight us cs d
