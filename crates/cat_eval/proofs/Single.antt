-- An expression has at most one value, whatever is bound.
use Rattle.std.proofs.Common.{◌≡◌, ℕ, List, [], ◌∷◌, sym, ◌∙◌, inl, inr}
use Rattle.std.specs.List.{All}
use Rattle.std.proofs.lemmas.List.Elements.{All-head, All-tail}
use Rattle.listings.specs.Lists.{ForEach}
use Rattle.cat_tree.specs.Tree.{Word, Term, Terms, union, sequence, difference, intersection, product, complement, plus, star, optional, inverse, domain, range, identity, name, empty_relation, empty_set, universe, call, no_terms, term, Bound, Defined, functions_in, Clause, bind, bind_recursively, check, include, show, unshow}
use Rattle.cat_model.specs.Beforehand.{beforehand}
use Rattle.events.specs.Executions.{GraphValue}
use Rattle.events.specs.Named.{event_count}
use Rattle.cat_eval.specs.declared.value.Value.{Value}
use Rattle.cat_eval.specs.declared.value.Entry.{Entry}
use Rattle.cat_eval.specs.Operators.{IsUnion, IsIntersection, IsDifference, IsComplement, IsSequence, IsProduct, IsPlus, IsStar, IsOptional, IsInverse, IsDomain, IsRange, IsIdentity}
use Rattle.cat_eval.specs.Meaning.{Predicate, Environment, Means, meanings, Just, Applied, With, Under, WithFunctions, BindsRelation, AreBound, IsLeast}
use Rattle.cat_eval.specs.Names.{Names}
use Rattle.cat_eval.specs.Judging.{Behind, First}
use Rattle.cat_eval.specs.Core as cores
use Rattle.cat_eval.specs.Laws.{BehindAll}
use Rattle.cat_eval.proofs.Values as values
use Rattle.cat_eval.proofs.Values.{union_operator, intersection_operator, difference_operator, sequence_operator, product_operator, complement_operator, plus_operator, star_operator, optional_operator, inverse_operator, domain_operator, range_operator, identity_operator}
use Rattle.cat_eval.proofs.Terms.{one_same, two_same}
use Rattle.cat_eval.proofs.Execution.{names_one}
use Rattle.cat_eval.proofs.Groups.{IsLike, within_both}

-- at most one value
abbrev pub IsOne : Predicate → Type 0
IsOne p = (v w : Value) → p v → p w → v ≡ w

abbrev pub AllOne : List Predicate → Type 0
AllOne [] = Unit {0}
AllOne (p ∷ ps) = IsOne p × AllOne ps

-- a name stands for at most one value, where each of its arguments does
abbrev pub AreOne : Environment → Type 1
AreOne E = (x : Word) (ps : List Predicate) → AllOne ps → IsOne (E x ps)

abbrev pub IsOneOn : (List Predicate → Predicate) → Type 1
IsOneOn F = (ps : List Predicate) → AllOne ps → IsOne (F ps)

mutual
  pub means_one : (n : ℕ) (E : Environment) → AreOne E → (a : Term) → IsOne (Means n E a)
  means_one n E h (union a b) = two_same (Means n E a) (Means n E a) (Means n E b) (Means n E b) IsUnion (means_one n E h a) (means_one n E h b) union_operator.one
  means_one n E h (intersection a b) = two_same (Means n E a) (Means n E a) (Means n E b) (Means n E b) IsIntersection (means_one n E h a) (means_one n E h b) intersection_operator.one
  means_one n E h (difference a b) = two_same (Means n E a) (Means n E a) (Means n E b) (Means n E b) IsDifference (means_one n E h a) (means_one n E h b) difference_operator.one
  means_one n E h (sequence a b) = two_same (Means n E a) (Means n E a) (Means n E b) (Means n E b) IsSequence (means_one n E h a) (means_one n E h b) sequence_operator.one
  means_one n E h (product a b) = two_same (Means n E a) (Means n E a) (Means n E b) (Means n E b) IsProduct (means_one n E h a) (means_one n E h b) product_operator.one
  means_one n E h (complement a) = one_same (Means n E a) (Means n E a) IsComplement (means_one n E h a) complement_operator.one
  means_one n E h (plus a) = one_same (Means n E a) (Means n E a) IsPlus (means_one n E h a) plus_operator.one
  means_one n E h (star a) = one_same (Means n E a) (Means n E a) IsStar (means_one n E h a) star_operator.one
  means_one n E h (optional a) = one_same (Means n E a) (Means n E a) IsOptional (means_one n E h a) optional_operator.one
  means_one n E h (inverse a) = one_same (Means n E a) (Means n E a) IsInverse (means_one n E h a) inverse_operator.one
  means_one n E h (domain a) = one_same (Means n E a) (Means n E a) IsDomain (means_one n E h a) domain_operator.one
  means_one n E h (range a) = one_same (Means n E a) (Means n E a) IsRange (means_one n E h a) range_operator.one
  means_one n E h (identity a) = one_same (Means n E a) (Means n E a) IsIdentity (means_one n E h a) identity_operator.one
  means_one n E h (name x) = h x [] tt
  means_one n E h empty_relation = values.one_relation_value n (λ i j. ⊥)
  means_one n E h empty_set = values.one_set_value n (λ i. ⊥)
  means_one n E h universe = values.one_set_value n (λ i. Unit {0})
  means_one n E h (call f bs) = h f (meanings n E bs) (meanings_one n E h bs)

  pub meanings_one : (n : ℕ) (E : Environment) → AreOne E → (bs : Terms) → AllOne (meanings n E bs)
  meanings_one n E h no_terms = tt
  meanings_one n E h (term a bs) = (means_one n E h a, meanings_one n E h bs)

-- more names

with_one : (E : Environment) (y : Word) (F : List Predicate → Predicate) → AreOne E → IsOneOn F → AreOne (With E y F)
with_one E y F h f x ps o v w m k = elim m [
  | inl a ↦ elim k [ inl b ↦ f ps o v w a.1 b.1 | inr b ↦ absurd (b.0 a.0) ]
  | inr a ↦ elim k [ inl b ↦ absurd (a.0 b.0) | inr b ↦ h x ps o v w a.1 b.1 ]
]

just_one : (p : Predicate) → IsOne p → IsOneOn (Just p)
just_one p h [] o v w m k = h v w m k
just_one p h (q ∷ ps) o v w m k = absurd m

applied_one : (n : ℕ) (E : Environment) → AreOne E → (xs : List Word) (t : Term) → IsOneOn (Applied n E xs t)
applied_one n E h [] t [] o v w m k = means_one n E h t v w m k
applied_one n E h [] t (p ∷ ps) o v w m k = absurd m
applied_one n E h (x ∷ xs) t [] o v w m k = absurd m
applied_one n E h (x ∷ xs) t (p ∷ ps) o v w m k = applied_one n (With E x (Just p)) (with_one E x (Just p) h (just_one p o.0)) xs t ps o.1 v w m k

functions_one : (n : ℕ) (B E : Environment) → AreOne B → (ds : List Defined) → AreOne E → AreOne (WithFunctions n B ds E)
functions_one n B E b [] h = h
functions_one n B E b (d ∷ ds) h =
    functions_one n B (With E d.name (Applied n B d.parameters d.value)) b ds (with_one E d.name (Applied n B d.parameters d.value) h (applied_one n B b d.parameters d.value))

under_one : (E : Environment) (es : List Entry) → AreOne E → AreOne (Under E es)
under_one E [] h = h
under_one E (e ∷ es) h =
    let p : Predicate = λ v. v ≡ e.value in
    under_one (With E e.name (Just p)) es (with_one E e.name (Just p) h (just_one p (λ v w m k. m ∙ sym k)))

behind_one : (n : ℕ) (E : Environment) (i : Clause) (es : List Entry) → AreOne E → AreOne (Behind n E i es)
behind_one n E (bind ds) es h = functions_one n E (Under E es) h (functions_in ds) (under_one E es h)
behind_one n E (bind_recursively bs) es h = under_one E es h
behind_one n E (check f d k a x) es h = under_one E es h
behind_one n E (include x) es h = under_one E es h
behind_one n E (show xs) es h = under_one E es h
behind_one n E (unshow xs) es h = under_one E es h

pub behind_all_one : (n : ℕ) (E : Environment) (is : List Clause) (ess : List (List Entry)) → AreOne E → AreOne (BehindAll n E is ess)
behind_all_one n E [] ess h = h
behind_all_one n E (i ∷ is) [] h = behind_all_one n (Behind n E i []) is [] (behind_one n E i [] h)
behind_all_one n E (i ∷ is) (es ∷ ess) h = behind_all_one n (Behind n E i es) is ess (behind_one n E i es h)

pub first_one : (g : GraphValue) → AreOne (First g)
first_one g =
    let a : AreOne (Names g) = λ x. just_one (Names g x []) (names_one g x) in
    functions_one (event_count g) (Names g) (Names g) a beforehand a

-- Least solutions are one.

named : List Bound → List cores.Bound
named [] = []
named (b ∷ bs) = record { name = b.name; value = cores.universe } ∷ named bs

like_of : (n : ℕ) (E : Environment) (bs : List Bound) (es : List Entry) → All (BindsRelation n) es → AreBound n E bs es → ForEach (IsLike n) (named bs) es
unfolding named
like_of n E [] [] r h = tt
like_of n E [] (e ∷ es) r h = absurd h
like_of n E (b ∷ bs) [] r h = absurd h
like_of n E (b ∷ bs) (e ∷ es) r h = (record { name = h.0.name; relation = All-head (BindsRelation n) e es r }, like_of n E bs es (All-tail (BindsRelation n) e es r) h.1)

pub least_one : (n : ℕ) (E : Environment) (bs : List Bound) (es fs : List Entry) → IsLeast n E bs es → IsLeast n E bs fs → es ≡ fs
least_one n E bs es fs a b =
    within_both n (named bs) es fs (like_of n (Under E es) bs es a.solves.relations a.solves.equations) (like_of n (Under E fs) bs fs b.solves.relations b.solves.equations) (a.least fs b.solves) (b.least es a.solves)
