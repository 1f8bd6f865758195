-- A model says the same of executions that differ in their values alone. If it names nothing that rests on the coherence orders, they may differ in these, too.
use Rattle.std.specs.Prelude.{◌↔◌, ◌||◌}
use Rattle.std.proofs.Common.{◌≡◌, ℕ, List, [], ◌∷◌, ◌++◌, map, Option, Some, None, Bool, true, false, refl, sym, ◌∙◌, ap, subst, inl, inr, arith}
use Rattle.std.specs.List.{list_any}
use Rattle.std.proofs.lemmas.Bool.{or_parts, or_from, not-true, true≢false}
use Rattle.std.proofs.lemmas.List.Folds.{list_any-append}
use Rattle.events.specs.Bases.{basis_of, CountsRestOnRuns, SetsRestOnRuns, RelationsRestOnRuns, RelationsRestOnSources}
use Rattle.events.specs.Executions.{GraphValue}
use Rattle.events.specs.Named.{event_count}
use Rattle.events.specs.declared.named.Basis.{Basis}
use Rattle.events.specs.declared.named.Basis.TheVariants.{Runs, Sources, Orders}
use Rattle.cat_tree.specs.declared.node.Infix.{Infix}
use Rattle.cat_tree.specs.declared.node.Infix.TheVariants.{Union, Sequence, Difference, Intersection, Product}
use Rattle.cat_tree.specs.declared.node.Node.{Node}
use Rattle.cat_tree.specs.declared.node.Node.TheVariants as nodes
use Rattle.cat_tree.specs.declared.node.Sign.{Sign}
use Rattle.cat_tree.specs.declared.node.Sign.TheVariants.{Complement, Plus, Star, Optional, Inverse, Domain, Range, Identity}
use Rattle.cat_tree.specs.declared.tree.Binding.{Binding}
use Rattle.cat_tree.specs.declared.tree.CheckKind.{CheckKind}
use Rattle.cat_tree.specs.declared.tree.Definition.{Definition}
use Rattle.cat_tree.specs.declared.tree.Item.{Item}
use Rattle.cat_tree.specs.Postorder.{postorder-sign, postorder-infix}
use Rattle.cat_tree.specs.Terms.{applied, joined, count_terms, postorder, postorders, term_in}
use Rattle.cat_tree.specs.Tree.{Word, Term, Terms, union, sequence, difference, intersection, product, complement, plus, star, optional, inverse, domain, range, identity, name, empty_relation, empty_set, universe, call, no_terms, term, Bound, Defined, value_if, values_in, function_if, functions_in, Clause, bind, bind_recursively, check, include, show, unshow, term_of, defined_of, bound_of, clause_of}
use Rattle.cat_model.specs.Beforehand.{beforehand}
use Rattle.cat_model.specs.Named.{named_of, written, spelling_of}
use Rattle.cat_model.specs.declared.named.Named.{Named}
use Rattle.cat_model.specs.declared.named.Named.TheVariants.{Set, Rel}
use Rattle.cat_eval.specs.declared.value.Value.{Value}
use Rattle.cat_eval.specs.declared.value.Entry.{Entry}
use Rattle.cat_eval.specs.Judging.{Holds, Binds, Behind, Permits, RaisedBy, AllPermit, SomeRaises, First, Allowed, Raised}
use Rattle.cat_eval.specs.Keeping.{IsAtMost, basis_of_named}
use Rattle.cat_eval.specs.Laws.{ValuesDontMatter}
use Rattle.cat_eval.specs.Meaning.{Predicate, Environment, Means, meanings, Just, Applied, With, Under, WithFunctions, AreBound, Solves, IsLeast}
use Rattle.cat_eval.specs.Names.{Beforehand, Names}
use Rattle.cat_eval.specs.Operators.{IsUnion, IsIntersection, IsDifference, IsComplement, IsSequence, IsProduct, IsPlus, IsStar, IsOptional, IsInverse, IsDomain, IsRange, IsIdentity}
use Rattle.cat_eval.specs.Orderless.{IsOrderless, is_orders, rests_on_orders, stands_for_order, is_order, node_names_order, term_names_order, clause_names_order, names_no_order}
use Rattle.cat_eval.proofs.Held.{AreLike, beforehand_same, like_sources, like_orders}
use Rattle.cat_eval.proofs.Replaced.{one, two}

-- WHERE NAMES STAND

nodes_left : (ns ms : List Node) → list_any node_names_order (ns ++ ms) ≡ false → list_any node_names_order ns ≡ false
nodes_left ns ms q = (or_parts (list_any node_names_order ns) (list_any node_names_order ms) (sym (list_any-append node_names_order ns ms) ∙ q)).0

nodes_right : (ns ms : List Node) → list_any node_names_order (ns ++ ms) ≡ false → list_any node_names_order ms ≡ false
nodes_right ns ms q = (or_parts (list_any node_names_order ns) (list_any node_names_order ms) (sym (list_any-append node_names_order ns ms) ∙ q)).1

-- WHAT ARGUMENTS AND FUNCTIONS MEAN

-- the arguments mean the same
abbrev MeanSame : List Predicate → List Predicate → Type 0
MeanSame [] [] = Unit {0}
MeanSame (p ∷ ps) (q ∷ qs) = ((v : Value) → p v ↔ q v) × MeanSame ps qs
MeanSame [] (q ∷ qs) = ⊥
MeanSame (p ∷ ps) [] = ⊥

abbrev IsSame : (List Predicate → Predicate) → (List Predicate → Predicate) → Type 1
IsSame F G = (ps qs : List Predicate) → MeanSame ps qs → (v : Value) → F ps v ↔ G qs v

just_same : (p q : Predicate) → ((v : Value) → p v ↔ q v) → IsSame (Just p) (Just q)
just_same p q h [] [] m v = h v
just_same p q h [] (s ∷ qs) m v = absurd m
just_same p q h (r ∷ ps) [] m v = absurd m
just_same p q h (r ∷ ps) (s ∷ qs) m v = (λ k. absurd k, λ k. absurd k)

-- EXECUTIONS WHOSE ORDERS DIFFER AT MOST IF `Differ` HOLDS

module _ (Differ : Type 0) where
  -- if the orders differ, no name in it stands for what rests on them
  abbrev IsQuiet : Term → Type 0
  IsQuiet a = Differ → term_names_order a ≡ false

  abbrev AllQuiet : {X : Type 0} → (X → Term) → List X → Type 0
  AllQuiet f xs = Differ → list_any (λ x. term_names_order (f x)) xs ≡ false

  operand_quiet : (u : Sign) (a : Term) → IsQuiet (applied u a) → IsQuiet a
  operand_quiet u a q = λ d. nodes_left (postorder a) (nodes.Sign u ∷ []) (sym (ap (list_any node_names_order) (postorder-sign u a)) ∙ q d)

  left_quiet : (o : Infix) (a b : Term) → IsQuiet (joined o a b) → IsQuiet a
  left_quiet o a b q = λ d. nodes_left (postorder a) (postorder b ++ nodes.Infix o ∷ []) (sym (ap (list_any node_names_order) (postorder-infix o a b)) ∙ q d)

  right_quiet : (o : Infix) (a b : Term) → IsQuiet (joined o a b) → IsQuiet b
  right_quiet o a b q = λ d.
      nodes_left (postorder b) (nodes.Infix o ∷ []) (nodes_right (postorder a) (postorder b ++ nodes.Infix o ∷ []) (sym (ap (list_any node_names_order) (postorder-infix o a b)) ∙ q d))

  first_quiet : {X : Type 0} (f : X → Term) (x : X) (xs : List X) → AllQuiet f (x ∷ xs) → IsQuiet (f x)
  first_quiet f x xs q = λ d. (or_parts (term_names_order (f x)) (list_any (λ y. term_names_order (f y)) xs) (q d)).0

  rest_quiet : {X : Type 0} (f : X → Term) (x : X) (xs : List X) → AllQuiet f (x ∷ xs) → AllQuiet f xs
  rest_quiet f x xs q = λ d. (or_parts (term_names_order (f x)) (list_any (λ y. term_names_order (f y)) xs) (q d)).1

  values_quiet : (ds : List Defined) → AllQuiet (λ d. d.value) ds → AllQuiet (λ b. b.value) (values_in ds)
  values_quiet [] q = λ e. refl
  values_quiet (d ∷ ds) q = go d.parameters (first_quiet (λ d. d.value) d ds q) (values_quiet ds (rest_quiet (λ d. d.value) d ds q)) where
    go : (xs : List Word) → IsQuiet d.value → AllQuiet (λ b. b.value) (values_in ds) → AllQuiet (λ b. b.value) (value_if xs d (values_in ds))
    go [] p r = λ e. or_from (term_names_order d.value) _ (p e) (r e)
    go (x ∷ xs) p r = r

  functions_quiet : (ds : List Defined) → AllQuiet (λ d. d.value) ds → AllQuiet (λ d. d.value) (functions_in ds)
  functions_quiet [] q = λ e. refl
  functions_quiet (d ∷ ds) q = go d.parameters (first_quiet (λ d. d.value) d ds q) (functions_quiet ds (rest_quiet (λ d. d.value) d ds q)) where
    go : (xs : List Word) → IsQuiet d.value → AllQuiet (λ d. d.value) (functions_in ds) → AllQuiet (λ d. d.value) (function_if xs d (functions_in ds))
    go [] p r = r
    go (x ∷ xs) p r = λ e. or_from (term_names_order d.value) _ (p e) (r e)

  -- WHAT NAMES STAND FOR

  -- names stand for the same: if the orders differ, those that don't rest on them
  abbrev Agree : Environment → Environment → Type 1
  Agree E F = (x : Word) → (Differ → is_order x ≡ false) → IsSame (E x) (F x)

  mutual
    means_same : (n : ℕ) (E F : Environment) → Agree E F → (a : Term) → IsQuiet a → (v : Value) → Means n E a v ↔ Means n F a v
    means_same n E F h (union a b) q v = two _ _ _ _ IsUnion (means_same n E F h a (left_quiet Union a b q)) (means_same n E F h b (right_quiet Union a b q)) v
    means_same n E F h (intersection a b) q v = two _ _ _ _ IsIntersection (means_same n E F h a (left_quiet Intersection a b q)) (means_same n E F h b (right_quiet Intersection a b q)) v
    means_same n E F h (difference a b) q v = two _ _ _ _ IsDifference (means_same n E F h a (left_quiet Difference a b q)) (means_same n E F h b (right_quiet Difference a b q)) v
    means_same n E F h (sequence a b) q v = two _ _ _ _ IsSequence (means_same n E F h a (left_quiet Sequence a b q)) (means_same n E F h b (right_quiet Sequence a b q)) v
    means_same n E F h (product a b) q v = two _ _ _ _ IsProduct (means_same n E F h a (left_quiet Product a b q)) (means_same n E F h b (right_quiet Product a b q)) v
    means_same n E F h (complement a) q v = one _ _ IsComplement (means_same n E F h a (operand_quiet Complement a q)) v
    means_same n E F h (plus a) q v = one _ _ IsPlus (means_same n E F h a (operand_quiet Plus a q)) v
    means_same n E F h (star a) q v = one _ _ IsStar (means_same n E F h a (operand_quiet Star a q)) v
    means_same n E F h (optional a) q v = one _ _ IsOptional (means_same n E F h a (operand_quiet Optional a q)) v
    means_same n E F h (inverse a) q v = one _ _ IsInverse (means_same n E F h a (operand_quiet Inverse a q)) v
    means_same n E F h (domain a) q v = one _ _ IsDomain (means_same n E F h a (operand_quiet Domain a q)) v
    means_same n E F h (range a) q v = one _ _ IsRange (means_same n E F h a (operand_quiet Range a q)) v
    means_same n E F h (identity a) q v = one _ _ IsIdentity (means_same n E F h a (operand_quiet Identity a q)) v
    means_same n E F h (name x) q v = h x (λ d. (or_parts (is_order x) false (q d)).0) [] [] tt v
    means_same n E F h empty_relation q v = (λ m. m, λ m. m)
    means_same n E F h empty_set q v = (λ m. m, λ m. m)
    means_same n E F h universe q v = (λ m. m, λ m. m)
    means_same n E F h (call f bs) q v =
        h f (λ d. (or_parts (is_order f) false (nodes_right (postorders bs) (nodes.Call f (count_terms bs) ∷ []) (q d))).0) (meanings n E bs) (meanings n F bs)
        (meanings_same n E F h bs (λ d. nodes_left (postorders bs) (nodes.Call f (count_terms bs) ∷ []) (q d))) v

    meanings_same : (n : ℕ) (E F : Environment) → Agree E F → (bs : Terms) → (Differ → list_any node_names_order (postorders bs) ≡ false) → MeanSame (meanings n E bs) (meanings n F bs)
    meanings_same n E F h no_terms q = tt
    meanings_same n E F h (term a bs) q = (means_same n E F h a (λ d. nodes_left (postorder a) (postorders bs) (q d)), meanings_same n E F h bs (λ d. nodes_right (postorder a) (postorders bs) (q d)))

  with_agrees : (E F : Environment) (y : Word) (R S : List Predicate → Predicate) → Agree E F → IsSame R S → Agree (With E y R) (With F y S)
  with_agrees E F y R S h s x o ps qs m v =
      let r : R ps v ↔ S qs v = s ps qs m v in
      let e : E x ps v ↔ F x qs v = h x o ps qs m v in (
        λ k. elim k [ inl a ↦ inl (a.0, r.0 a.1) | inr a ↦ inr (a.0, e.0 a.1) ],
        λ k. elim k [ inl a ↦ inl (a.0, r.1 a.1) | inr a ↦ inr (a.0, e.1 a.1) ],
      )

  applied_same : (n : ℕ) (E F : Environment) → Agree E F → (xs : List Word) (t : Term) → IsQuiet t → IsSame (Applied n E xs t) (Applied n F xs t)
  applied_same n E F h [] t q [] [] m v = means_same n E F h t q v
  applied_same n E F h [] t q [] (s ∷ qs) m v = absurd m
  applied_same n E F h [] t q (r ∷ ps) [] m v = absurd m
  applied_same n E F h [] t q (r ∷ ps) (s ∷ qs) m v = (λ k. absurd k, λ k. absurd k)
  applied_same n E F h (x ∷ xs) t q [] [] m v = (λ k. absurd k, λ k. absurd k)
  applied_same n E F h (x ∷ xs) t q [] (s ∷ qs) m v = absurd m
  applied_same n E F h (x ∷ xs) t q (r ∷ ps) [] m v = absurd m
  applied_same n E F h (x ∷ xs) t q (r ∷ ps) (s ∷ qs) m v =
      applied_same n (With E x (Just r)) (With F x (Just s)) (with_agrees E F x (Just r) (Just s) h (just_same r s m.0)) xs t q ps qs m.1 v

  functions_agree : (n : ℕ) (B C E F : Environment) → Agree B C → (ds : List Defined) → AllQuiet (λ d. d.value) ds → Agree E F → Agree (WithFunctions n B ds E) (WithFunctions n C ds F)
  functions_agree n B C E F b [] q h = h
  functions_agree n B C E F b (d ∷ ds) q h =
      functions_agree n B C (With E d.name (Applied n B d.parameters d.value)) (With F d.name (Applied n C d.parameters d.value)) b ds (rest_quiet (λ d. d.value) d ds q)
      (with_agrees E F d.name (Applied n B d.parameters d.value) (Applied n C d.parameters d.value) h (applied_same n B C b d.parameters d.value (first_quiet (λ d. d.value) d ds q)))

  under_agrees : (E F : Environment) (es : List Entry) → Agree E F → Agree (Under E es) (Under F es)
  under_agrees E F [] h = h
  under_agrees E F (e ∷ es) h =
      let p : Predicate = λ v. v ≡ e.value in
      under_agrees (With E e.name (Just p)) (With F e.name (Just p)) es (with_agrees E F e.name (Just p) (Just p) h (just_same p p (λ v. (λ k. k, λ k. k))))

  -- WHAT ITEMS SAY

  -- the same of an item
  abbrev IsQuietItem : Clause → Type 0
  IsQuietItem i = Differ → clause_names_order i ≡ false

  bound_same : (n : ℕ) (E F : Environment) → Agree E F → (bs : List Bound) (es : List Entry) → AllQuiet (λ b. b.value) bs → AreBound n E bs es ↔ AreBound n F bs es
  bound_same n E F h [] [] q = (λ k. k, λ k. k)
  bound_same n E F h [] (e ∷ es) q = (λ k. k, λ k. k)
  bound_same n E F h (b ∷ bs) [] q = (λ k. k, λ k. k)
  bound_same n E F h (b ∷ bs) (e ∷ es) q =
      let m = means_same n E F h b.value (first_quiet (λ b. b.value) b bs q) e.value in
      let r = bound_same n E F h bs es (rest_quiet (λ b. b.value) b bs q) in (
        λ k. (record { name = k.0.name; value = m.0 k.0.value }, r.0 k.1),
        λ k. (record { name = k.0.name; value = m.1 k.0.value }, r.1 k.1),
      )

  solves_same : (n : ℕ) (E F : Environment) → Agree E F → (bs : List Bound) (es : List Entry) → AllQuiet (λ b. b.value) bs → Solves n E bs es ↔ Solves n F bs es
  solves_same n E F h bs es q =
      let r = bound_same n (Under E es) (Under F es) (under_agrees E F es h) bs es q in (
        λ k. record { relations = k.relations; equations = r.0 k.equations },
        λ k. record { relations = k.relations; equations = r.1 k.equations },
      )

  least_same : (n : ℕ) (E F : Environment) → Agree E F → (bs : List Bound) (es : List Entry) → AllQuiet (λ b. b.value) bs → IsLeast n E bs es ↔ IsLeast n F bs es
  least_same n E F h bs es q =
      let r = λ (fs : List Entry). solves_same n E F h bs fs q in (
        λ k. record { solves = (r es).0 k.solves; least = λ fs s. k.least fs ((r fs).1 s) },
        λ k. record { solves = (r es).1 k.solves; least = λ fs s. k.least fs ((r fs).0 s) },
      )

  binds_same : (n : ℕ) (E F : Environment) → Agree E F → (i : Clause) (es : List Entry) → IsQuietItem i → Binds n E i es ↔ Binds n F i es
  binds_same n E F h (bind ds) es q = bound_same n E F h (values_in ds) es (values_quiet ds q)
  binds_same n E F h (bind_recursively bs) es q = least_same n E F h bs es q
  binds_same n E F h (check flag negated kind a x) es q = (λ k. k, λ k. k)
  binds_same n E F h (include x) es q = (λ k. k, λ k. k)
  binds_same n E F h (show xs) es q = (λ k. k, λ k. k)
  binds_same n E F h (unshow xs) es q = (λ k. k, λ k. k)

  behind_agrees : (n : ℕ) (E F : Environment) → Agree E F → (i : Clause) (es : List Entry) → IsQuietItem i → Agree (Behind n E i es) (Behind n F i es)
  behind_agrees n E F h (bind ds) es q = functions_agree n E F (Under E es) (Under F es) h (functions_in ds) (functions_quiet ds q) (under_agrees E F es h)
  behind_agrees n E F h (bind_recursively bs) es q = under_agrees E F es h
  behind_agrees n E F h (check flag negated kind a x) es q = under_agrees E F es h
  behind_agrees n E F h (include x) es q = under_agrees E F es h
  behind_agrees n E F h (show xs) es q = under_agrees E F es h
  behind_agrees n E F h (unshow xs) es q = under_agrees E F es h

  holds_same : (n : ℕ) (E F : Environment) → Agree E F → (negated : Bool) (kind : CheckKind) (a : Term) → IsQuiet a → Holds n E negated kind a ↔ Holds n F negated kind a
  holds_same n E F h negated kind a q = (
    λ k. (k.0, (means_same n E F h a q k.0).0 k.1, k.2),
    λ k. (k.0, (means_same n E F h a q k.0).1 k.1, k.2),
  )

  permits_same : (n : ℕ) (E F : Environment) → Agree E F → (i : Clause) → IsQuietItem i → Permits n E i ↔ Permits n F i
  permits_same n E F h (bind ds) q = (λ k. k, λ k. k)
  permits_same n E F h (bind_recursively bs) q = (λ k. k, λ k. k)
  permits_same n E F h (check flag negated kind a x) q = let s = holds_same n E F h negated kind a q in (λ k f. s.0 (k f), λ k f. s.1 (k f))
  permits_same n E F h (include x) q = (λ k. k, λ k. k)
  permits_same n E F h (show xs) q = (λ k. k, λ k. k)
  permits_same n E F h (unshow xs) q = (λ k. k, λ k. k)

  raised_same : (n : ℕ) (E F : Environment) → Agree E F → (i : Clause) (x : Word) → IsQuietItem i → RaisedBy n E i x ↔ RaisedBy n F i x
  raised_same n E F h (bind ds) x q = (λ k. k, λ k. k)
  raised_same n E F h (bind_recursively bs) x q = (λ k. k, λ k. k)
  raised_same n E F h (check flag negated kind a y) x q = let s = holds_same n E F h negated kind a q in (λ k. (k.0, k.1, s.0 k.2), λ k. (k.0, k.1, s.1 k.2))
  raised_same n E F h (include y) x q = (λ k. k, λ k. k)
  raised_same n E F h (show xs) x q = (λ k. k, λ k. k)
  raised_same n E F h (unshow xs) x q = (λ k. k, λ k. k)

  abbrev AreQuiet : List Clause → Type 0
  AreQuiet items = Differ → list_any clause_names_order items ≡ false

  all_permit_same : (n : ℕ) (E F : Environment) → Agree E F → (items : List Clause) → AreQuiet items → AllPermit n E items ↔ AllPermit n F items
  all_permit_same n E F h [] q = (λ k. k, λ k. k)
  all_permit_same n E F h (i ∷ items) q =
      let p = λ (d : Differ). or_parts (clause_names_order i) (list_any clause_names_order items) (q d) in
      let this : IsQuietItem i = λ d. (p d).0 in
      let rest : AreQuiet items = λ d. (p d).1 in
      let a = permits_same n E F h i this in
      let b = λ (es : List Entry). binds_same n E F h i es this in
      let r = λ (es : List Entry). all_permit_same n (Behind n E i es) (Behind n F i es) (behind_agrees n E F h i es this) items rest in (
        λ k. (a.0 k.0, (k.1.0, (b k.1.0).0 k.1.1, (r k.1.0).0 k.1.2)),
        λ k. (a.1 k.0, (k.1.0, (b k.1.0).1 k.1.1, (r k.1.0).1 k.1.2)),
      )

  some_raises_same : (n : ℕ) (E F : Environment) → Agree E F → (items : List Clause) (x : Word) → AreQuiet items → SomeRaises n E items x ↔ SomeRaises n F items x
  some_raises_same n E F h [] x q = (λ k. k, λ k. k)
  some_raises_same n E F h (i ∷ items) x q =
      let p = λ (d : Differ). or_parts (clause_names_order i) (list_any clause_names_order items) (q d) in
      let this : IsQuietItem i = λ d. (p d).0 in
      let rest : AreQuiet items = λ d. (p d).1 in
      let a = raised_same n E F h i x this in
      let b = λ (es : List Entry). binds_same n E F h i es this in
      let r = λ (es : List Entry). some_raises_same n (Behind n E i es) (Behind n F i es) (behind_agrees n E F h i es this) items x rest in (
        λ k. elim k [ inl m ↦ inl (a.0 m) | inr m ↦ inr (m.0, (b m.0).0 m.1, (r m.0).0 m.2) ],
        λ k. elim k [ inl m ↦ inl (a.1 m) | inr m ↦ inr (m.0, (b m.0).1 m.1, (r m.0).1 m.2) ],
      )

  -- BEFORE ANY ITEM

  -- Of the names that are looked at, each rests on b at most.
  abbrev Covers : Basis → Type 0
  Covers b = (m : Named) → (Differ → rests_on_orders m ≡ false) → IsAtMost (basis_of_named m) b

  before_same : (g h : GraphValue) (b : Basis) → AreLike g h b → AreLike h g b → Covers b → (o : Option Named) → (Differ → stands_for_order o ≡ false) → (v : Value) → Beforehand g o v ↔ Beforehand h o v
  before_same g h b a c l None q v = (λ k. k, λ k. k)
  before_same g h b a c l (Some m) q v = (λ k. beforehand_same g h b m v a (l m q) k, λ k. beforehand_same h g b m v c (l m q) k)

  names_agree : (g h : GraphValue) (b : Basis) → AreLike g h b → AreLike h g b → Covers b → Agree (Names g) (Names h)
  names_agree g h b a c l x q = just_same (Beforehand g (named_of x)) (Beforehand h (named_of x)) (before_same g h b a c l (named_of x) q)

  beforehand_quiet : AllQuiet (λ d. d.value) beforehand
  unfolding named_of written spelling_of
  beforehand_quiet = λ e. refl

  -- Executions that are alike are judged alike.
  judged_alike : (g h : GraphValue) (b : Basis) → AreLike g h b → AreLike h g b → Covers b → (items : List Clause) → AreQuiet items → (Allowed items g ↔ Allowed items h) × ((x : Word) → Raised items g x ↔ Raised items h x)
  judged_alike g h b a c l items q =
      let n : ℕ = event_count g in
      let F : ℕ → Environment = λ m. WithFunctions m (Names h) beforehand (Names h) in
      let s : Agree (Names g) (Names h) = names_agree g h b a c l in
      let w : Agree (First g) (F n) = functions_agree n (Names g) (Names h) (Names g) (Names h) s beforehand beforehand_quiet s in
      let P : ℕ → Type 0 = λ m. Allowed items g ↔ AllPermit m (F m) items in
      let R : Word → ℕ → Type 0 = λ x m. Raised items g x ↔ SomeRaises m (F m) items x in
      (subst P a.count (all_permit_same n (First g) (F n) w items q), λ x. subst (R x) a.count (some_raises_same n (First g) (F n) w items x q))

-- THE LAWS

no_orders : (b : Basis) → is_orders b ≡ false → IsAtMost b Sources
no_orders Runs q = omega arith
no_orders Sources q = omega arith
no_orders Orders q = absurd (true≢false q)

is_plain : (m : Named) → rests_on_orders m ≡ false → IsAtMost (basis_of_named m) Sources
is_plain (Set s) q = omega arith
is_plain (Rel r) q = no_orders (basis_of r) q

pub orderless : CountsRestOnRuns → SetsRestOnRuns → RelationsRestOnRuns → RelationsRestOnSources → (items : List Clause) → names_no_order items ≡ true → IsOrderless items
orderless counts sets runs sources items q g h e =
    let a : AreLike g h Sources = like_sources g h counts sets runs sources e in
    let b : AreLike h g Sources = like_sources h g counts sets runs sources (sym e) in
    judged_alike (Unit {0}) g h Sources a b (λ m p. is_plain m (p tt)) items (λ d. not-true (list_any clause_names_order items) q)

at_most_orders : (b : Basis) → IsAtMost b Orders
at_most_orders Runs = omega arith
at_most_orders Sources = omega arith
at_most_orders Orders = omega arith

pub values_dont_matter : CountsRestOnRuns → SetsRestOnRuns → RelationsRestOnRuns → RelationsRestOnSources → ValuesDontMatter
values_dont_matter counts sets runs sources items g h e c =
    let a : AreLike g h Orders = like_orders g h counts sets runs sources e c in
    let b : AreLike h g Orders = like_orders h g counts sets runs sources (sym e) (sym c) in
    judged_alike ⊥ g h Orders a b (λ m p. at_most_orders (basis_of_named m)) items (λ d. absurd d)

-- WHAT THE CODE LOOKS AT

pub nodes_told : (ns : List Node) → postorder (term_in ns) ≡ ns → list_any node_names_order ns ≡ term_names_order (term_in ns)
nodes_told ns w = ap (list_any node_names_order) (sym w)

any_map : {X Y : Type 0} (p : Y → Bool) (f : X → Y) (xs : List X) → list_any (λ x. p (f x)) xs ≡ list_any p (map f xs)
any_map p f [] = refl
any_map p f (x ∷ xs) = ap (λ b. p (f x) || b) (any_map p f xs)

pub definitions_told : (ds : List Definition) → list_any (λ d. term_names_order (term_of d.value)) ds ≡ list_any (λ d. term_names_order d.value) (map defined_of ds)
definitions_told ds = any_map (λ d. term_names_order d.value) defined_of ds

pub bindings_told : (bs : List Binding) → list_any (λ b. term_names_order (term_of b.value)) bs ≡ list_any (λ b. term_names_order b.value) (map bound_of bs)
bindings_told bs = any_map (λ b. term_names_order b.value) bound_of bs

pub items_told : (is : List Item) → list_any (λ i. clause_names_order (clause_of i)) is ≡ list_any clause_names_order (map clause_of is)
items_told is = any_map clause_names_order clause_of is
