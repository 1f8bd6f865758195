-- Values have the sorts of their expressions.
use Rattle.std.proofs.Common.{◌≡◌, ℕ, ◌⊎◌, Option, Some, sym, ◌∙◌, ap}
use Rattle.relations.specs.Events.{Has}
use Rattle.relations.specs.Relation.{In}
use Rattle.relations.specs.Algebra.{Through, Chain, Domain, Range}
use Rattle.cat_tree.specs.Tree.{Word}
use Rattle.cat_model.specs.declared.sort.Sort.{Sort}
use Rattle.cat_model.specs.declared.sort.Sort.TheVariants.{Set, Relation}
use Rattle.cat_eval.specs.declared.value.Value.{Value}
use Rattle.cat_eval.specs.declared.value.Value.TheVariants.{Events, Pairs}
use Rattle.cat_eval.specs.Operators.{IsSet, IsRelation, IsUnion, IsIntersection, IsDifference, IsComplement, IsSequence, IsProduct, IsPlus, IsStar, IsOptional, IsInverse, IsDomain, IsRange, IsIdentity}
use Rattle.cat_eval.specs.Core.{Term, union, sequence, difference, intersection, product, complement, plus, star, optional, inverse, domain, range, identity, name, empty_relation, empty_set, universe, Scope, HasSort, sort_of_name}
use Rattle.cat_eval.specs.CoreMeaning.{Means}
use Rattle.cat_eval.specs.Steps.{sort_of}

pub set_sort : (n : ℕ) (P : ℕ → Type 0) (v : Value) → IsSet n P v → sort_of v ≡ Set
set_sort n P v h = ap sort_of h.value

pub relation_sort : (n : ℕ) (P : ℕ → ℕ → Type 0) (v : Value) → IsRelation n P v → sort_of v ≡ Relation
relation_sort n P v h = ap sort_of h.value

union_sort : (x y v : Value) → IsUnion x y v → sort_of v ≡ sort_of x
union_sort (Events s) (Events t) v h = set_sort s.count (λ i. Has s i ⊎ Has t i) v h
union_sort (Events s) (Pairs r) v h = absurd h
union_sort (Pairs r) (Events s) v h = absurd h
union_sort (Pairs r) (Pairs q) v h = relation_sort r.count (λ i j. In r i j ⊎ In q i j) v h

intersection_sort : (x y v : Value) → IsIntersection x y v → sort_of v ≡ sort_of x
intersection_sort (Events s) (Events t) v h = set_sort s.count (λ i. Has s i × Has t i) v h
intersection_sort (Events s) (Pairs r) v h = absurd h
intersection_sort (Pairs r) (Events s) v h = absurd h
intersection_sort (Pairs r) (Pairs q) v h = relation_sort r.count (λ i j. In r i j × In q i j) v h

difference_sort : (x y v : Value) → IsDifference x y v → sort_of v ≡ sort_of x
difference_sort (Events s) (Events t) v h = set_sort s.count (λ i. Has s i × (¬ Has t i)) v h
difference_sort (Events s) (Pairs r) v h = absurd h
difference_sort (Pairs r) (Events s) v h = absurd h
difference_sort (Pairs r) (Pairs q) v h = relation_sort r.count (λ i j. In r i j × (¬ In q i j)) v h

sequence_sort : (x y v : Value) → IsSequence x y v → sort_of v ≡ Relation
sequence_sort (Events s) (Events t) v h = absurd h
sequence_sort (Events s) (Pairs r) v h = absurd h
sequence_sort (Pairs r) (Events s) v h = absurd h
sequence_sort (Pairs r) (Pairs q) v h = relation_sort r.count (Through r.count (In r) (In q)) v h

product_sort : (x y v : Value) → IsProduct x y v → sort_of v ≡ Relation
product_sort (Events s) (Events t) v h = relation_sort s.count (λ i j. Has s i × Has t j) v h
product_sort (Events s) (Pairs r) v h = absurd h
product_sort (Pairs r) (Events s) v h = absurd h
product_sort (Pairs r) (Pairs q) v h = absurd h

complement_sort : (x v : Value) → IsComplement x v → sort_of v ≡ sort_of x
complement_sort (Events s) v h = set_sort s.count (λ i. ¬ Has s i) v h
complement_sort (Pairs r) v h = relation_sort r.count (λ i j. ¬ In r i j) v h

plus_sort : (x v : Value) → IsPlus x v → sort_of v ≡ Relation
plus_sort (Events s) v h = absurd h
plus_sort (Pairs r) v h = relation_sort r.count (Chain (In r)) v h

star_sort : (x v : Value) → IsStar x v → sort_of v ≡ Relation
star_sort (Events s) v h = absurd h
star_sort (Pairs r) v h = relation_sort r.count (λ i j. Chain (In r) i j ⊎ (i ≡ j)) v h

optional_sort : (x v : Value) → IsOptional x v → sort_of v ≡ Relation
optional_sort (Events s) v h = absurd h
optional_sort (Pairs r) v h = relation_sort r.count (λ i j. In r i j ⊎ (i ≡ j)) v h

inverse_sort : (x v : Value) → IsInverse x v → sort_of v ≡ Relation
inverse_sort (Events s) v h = absurd h
inverse_sort (Pairs r) v h = relation_sort r.count (λ i j. In r j i) v h

domain_sort : (x v : Value) → IsDomain x v → sort_of v ≡ Set
domain_sort (Events s) v h = absurd h
domain_sort (Pairs r) v h = set_sort r.count (Domain (In r)) v h

range_sort : (x v : Value) → IsRange x v → sort_of v ≡ Set
range_sort (Events s) v h = absurd h
range_sort (Pairs r) v h = set_sort r.count (Range (In r)) v h

identity_sort : (x v : Value) → IsIdentity x v → sort_of v ≡ Relation
identity_sort (Events s) v h = relation_sort s.count (λ i j. (i ≡ j) × Has s i) v h
identity_sort (Pairs r) v h = absurd h

-- Each name stands for a value of its sort.
pub record Fits (E : Word → Value → Type 0) (s : Scope) : Type 0 where
  pub fits : (x : Word) (v : Value) → E x v → sort_of_name s x ≡ Some (sort_of v)

some_one : (j k : Sort) → ◌≡◌ {A = Option Sort} (Some j) (Some k) → j ≡ k
some_one j k e = cc

pub means_sort : (n : ℕ) (E : Word → Value → Type 0) (s : Scope) → Fits E s → (a : Term) (k : Sort) (v : Value) → HasSort s a k → Means n E a v → sort_of v ≡ k
means_sort n E s f (union a b) k v h m = union_sort m.left m.right v m.made ∙ means_sort n E s f a k m.left h.0 m.given_left
means_sort n E s f (intersection a b) k v h m = intersection_sort m.left m.right v m.made ∙ means_sort n E s f a k m.left h.0 m.given_left
means_sort n E s f (difference a b) k v h m = difference_sort m.left m.right v m.made ∙ means_sort n E s f a k m.left h.0 m.given_left
means_sort n E s f (sequence a b) k v h m = sequence_sort m.left m.right v m.made ∙ sym h.0
means_sort n E s f (product a b) k v h m = product_sort m.left m.right v m.made ∙ sym h.0
means_sort n E s f (complement a) k v h m = complement_sort m.operand v m.made ∙ means_sort n E s f a k m.operand h m.given
means_sort n E s f (plus a) k v h m = plus_sort m.operand v m.made ∙ sym h.0
means_sort n E s f (star a) k v h m = star_sort m.operand v m.made ∙ sym h.0
means_sort n E s f (optional a) k v h m = optional_sort m.operand v m.made ∙ sym h.0
means_sort n E s f (inverse a) k v h m = inverse_sort m.operand v m.made ∙ sym h.0
means_sort n E s f (domain a) k v h m = domain_sort m.operand v m.made ∙ sym h.0
means_sort n E s f (range a) k v h m = range_sort m.operand v m.made ∙ sym h.0
means_sort n E s f (identity a) k v h m = identity_sort m.operand v m.made ∙ sym h.0
means_sort n E s f (name x) k v h m = some_one (sort_of v) k (sym (f.fits x v m) ∙ h)
means_sort n E s f empty_relation k v h m = relation_sort n (λ i j. ⊥) v m ∙ sym h
means_sort n E s f empty_set k v h m = set_sort n (λ i. ⊥) v m ∙ sym h
means_sort n E s f universe k v h m = set_sort n (λ i. Unit {0}) v m ∙ sym h
