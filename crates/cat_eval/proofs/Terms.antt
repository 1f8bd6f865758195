-- The meaning of an expression: it is one value, over the same events, and more where the names stand for more.
use Rattle.std.proofs.Common.{◌≡◌, ℕ, List, [], ◌∷◌, ◌++◌, refl, sym, subst}
use Rattle.std.specs.List.{All}
use Rattle.std.proofs.lemmas.List.Elements.{All-nil, All-cons, All-head, All-tail}
use Rattle.cat_tree.specs.Tree.{Word}
use Rattle.cat_eval.specs.declared.value.Value.{Value}
use Rattle.cat_eval.specs.Operators.{IsUnion, IsIntersection, IsDifference, IsComplement, IsSequence, IsProduct, IsPlus, IsStar, IsOptional, IsInverse, IsDomain, IsRange, IsIdentity}
use Rattle.cat_eval.specs.Core.{Term, union, sequence, difference, intersection, product, complement, plus, star, optional, inverse, domain, range, identity, name, empty_relation, empty_set, universe, names, denied_names}
use Rattle.cat_eval.specs.CoreMeaning.{Made, MadeOfTwo, Means, Lies}
use Rattle.cat_eval.specs.Steps.{IsOver}
use Rattle.cat_eval.proofs.Values as values
use Rattle.cat_eval.proofs.Values.{union_operator, intersection_operator, difference_operator, sequence_operator, product_operator, complement_operator, plus_operator, star_operator, optional_operator, inverse_operator, domain_operator, range_operator, identity_operator}

left : {X : Type 0} (P : X → Type 0) (xs ys : List X) → All P (xs ++ ys) → All P xs
left P [] ys h = All-nil P
left P (x ∷ xs) ys h = All-cons P x xs (All-head P x (xs ++ ys) h) (left P xs ys (All-tail P x (xs ++ ys) h))

right : {X : Type 0} (P : X → Type 0) (xs ys : List X) → All P (xs ++ ys) → All P ys
right P [] ys h = h
right P (x ∷ xs) ys h = right P xs ys (All-tail P x (xs ++ ys) h)

one_over : (n : ℕ) (A : Value → Type 0) (Op : Value → Value → Type 0) → ((v : Value) → A v → IsOver n v) → ((x v : Value) → IsOver n x → Op x v → IsOver n v) →
    (v : Value) → Made A Op v → IsOver n v
one_over n A Op f over v h = over h.operand v (f h.operand h.given) h.made

two_over : (n : ℕ) (A B : Value → Type 0) (Op : Value → Value → Value → Type 0) → ((v : Value) → A v → IsOver n v) → ((x y v : Value) → IsOver n x → Op x y v → IsOver n v) →
    (v : Value) → MadeOfTwo A B Op v → IsOver n v
two_over n A B Op f over v h = over h.left h.right v (f h.left h.given_left) h.made

-- A value of an expression is one over the events of the names' values.
pub means_over : (n : ℕ) (E : Word → Value → Type 0) → ((x : Word) (v : Value) → E x v → IsOver n v) → (a : Term) (v : Value) → Means n E a v → IsOver n v
means_over n E f (union a b) v h = two_over n (Means n E a) (Means n E b) IsUnion (means_over n E f a) (union_operator.over n) v h
means_over n E f (intersection a b) v h = two_over n (Means n E a) (Means n E b) IsIntersection (means_over n E f a) (intersection_operator.over n) v h
means_over n E f (difference a b) v h = two_over n (Means n E a) (Means n E b) IsDifference (means_over n E f a) (difference_operator.over n) v h
means_over n E f (sequence a b) v h = two_over n (Means n E a) (Means n E b) IsSequence (means_over n E f a) (sequence_operator.over n) v h
means_over n E f (product a b) v h = two_over n (Means n E a) (Means n E b) IsProduct (means_over n E f a) (product_operator.over n) v h
means_over n E f (complement a) v h = one_over n (Means n E a) IsComplement (means_over n E f a) (complement_operator.over n) v h
means_over n E f (plus a) v h = one_over n (Means n E a) IsPlus (means_over n E f a) (plus_operator.over n) v h
means_over n E f (star a) v h = one_over n (Means n E a) IsStar (means_over n E f a) (star_operator.over n) v h
means_over n E f (optional a) v h = one_over n (Means n E a) IsOptional (means_over n E f a) (optional_operator.over n) v h
means_over n E f (inverse a) v h = one_over n (Means n E a) IsInverse (means_over n E f a) (inverse_operator.over n) v h
means_over n E f (domain a) v h = one_over n (Means n E a) IsDomain (means_over n E f a) (domain_operator.over n) v h
means_over n E f (range a) v h = one_over n (Means n E a) IsRange (means_over n E f a) (range_operator.over n) v h
means_over n E f (identity a) v h = one_over n (Means n E a) IsIdentity (means_over n E f a) (identity_operator.over n) v h
means_over n E f (name x) v h = f x v h
means_over n E f empty_relation v h = values.relation_over n n (λ i j. ⊥) v refl h
means_over n E f empty_set v h = values.set_over n n (λ i. ⊥) v refl h
means_over n E f universe v h = values.set_over n n (λ i. Unit {0}) v refl h

pub one_same : (A C : Value → Type 0) (Op : Value → Value → Type 0) → ((v w : Value) → A v → C w → v ≡ w) → ((x v w : Value) → Op x v → Op x w → v ≡ w) →
    (v w : Value) → Made A Op v → Made C Op w → v ≡ w
one_same A C Op f one v w h k =
    let F : Value → Type 0 = λ x. Op x w in
    one h.operand v w h.made (subst F (sym (f h.operand k.operand h.given k.given)) k.made)

pub two_same : (A C B D : Value → Type 0) (Op : Value → Value → Value → Type 0) → ((v w : Value) → A v → C w → v ≡ w) → ((v w : Value) → B v → D w → v ≡ w) →
    ((x y v w : Value) → Op x y v → Op x y w → v ≡ w) → (v w : Value) → MadeOfTwo A B Op v → MadeOfTwo C D Op w → v ≡ w
two_same A C B D Op f g one v w h k =
    let F : Value → Type 0 = λ x. Op x k.right w in
    let G : Value → Type 0 = λ y. Op h.left y w in
    one h.left h.right v w h.made (subst G (sym (g h.right k.right h.given_right k.given_right)) (subst F (sym (f h.left k.left h.given_left k.given_left)) k.made))

-- An expression has one value, also in two environments that agree on its names.
pub same : (n : ℕ) (E F : Word → Value → Type 0) (P : Word → Type 0) → ((x : Word) → P x → (v w : Value) → E x v → F x w → v ≡ w) →
    (a : Term) → All P (names a) → (v w : Value) → Means n E a v → Means n F a w → v ≡ w
same n E F P f (union a b) h v w =
    two_same (Means n E a) (Means n F a) (Means n E b) (Means n F b) IsUnion (same n E F P f a (left P (names a) (names b) h)) (same n E F P f b (right P (names a) (names b) h)) union_operator.one v w
same n E F P f (intersection a b) h v w =
    two_same (Means n E a) (Means n F a) (Means n E b) (Means n F b) IsIntersection (same n E F P f a (left P (names a) (names b) h)) (same n E F P f b (right P (names a) (names b) h)) intersection_operator.one v w
same n E F P f (difference a b) h v w =
    two_same (Means n E a) (Means n F a) (Means n E b) (Means n F b) IsDifference (same n E F P f a (left P (names a) (names b) h)) (same n E F P f b (right P (names a) (names b) h)) difference_operator.one v w
same n E F P f (sequence a b) h v w =
    two_same (Means n E a) (Means n F a) (Means n E b) (Means n F b) IsSequence (same n E F P f a (left P (names a) (names b) h)) (same n E F P f b (right P (names a) (names b) h)) sequence_operator.one v w
same n E F P f (product a b) h v w =
    two_same (Means n E a) (Means n F a) (Means n E b) (Means n F b) IsProduct (same n E F P f a (left P (names a) (names b) h)) (same n E F P f b (right P (names a) (names b) h)) product_operator.one v w
same n E F P f (complement a) h v w = one_same (Means n E a) (Means n F a) IsComplement (same n E F P f a h) complement_operator.one v w
same n E F P f (plus a) h v w = one_same (Means n E a) (Means n F a) IsPlus (same n E F P f a h) plus_operator.one v w
same n E F P f (star a) h v w = one_same (Means n E a) (Means n F a) IsStar (same n E F P f a h) star_operator.one v w
same n E F P f (optional a) h v w = one_same (Means n E a) (Means n F a) IsOptional (same n E F P f a h) optional_operator.one v w
same n E F P f (inverse a) h v w = one_same (Means n E a) (Means n F a) IsInverse (same n E F P f a h) inverse_operator.one v w
same n E F P f (domain a) h v w = one_same (Means n E a) (Means n F a) IsDomain (same n E F P f a h) domain_operator.one v w
same n E F P f (range a) h v w = one_same (Means n E a) (Means n F a) IsRange (same n E F P f a h) range_operator.one v w
same n E F P f (identity a) h v w = one_same (Means n E a) (Means n F a) IsIdentity (same n E F P f a h) identity_operator.one v w
same n E F P f (name x) h v w = f x (All-head P x [] h) v w
same n E F P f empty_relation h v w = values.one_relation_value n (λ i j. ⊥) v w
same n E F P f empty_set h v w = values.one_set_value n (λ i. ⊥) v w
same n E F P f universe h v w = values.one_set_value n (λ i. Unit {0}) v w

one_grows : (n : ℕ) (A C : Value → Type 0) (Op : Value → Value → Type 0) → ((v : Value) → A v → IsOver n v) → ((v : Value) → C v → IsOver n v) →
    ((v w : Value) → A v → C w → Lies v w) → ((x x' v w : Value) → IsOver n x → IsOver n x' → Lies x x' → Op x v → Op x' w → Lies v w) →
    (v w : Value) → Made A Op v → Made C Op w → Lies v w
one_grows n A C Op o p f grows v w h k =
    grows h.operand k.operand v w (o h.operand h.given) (p k.operand k.given) (f h.operand k.operand h.given k.given) h.made k.made

two_grow : (n : ℕ) (A C B D : Value → Type 0) (R : Value → Value → Type 0) (Op : Value → Value → Value → Type 0) → ((v : Value) → A v → IsOver n v) → ((v : Value) → C v → IsOver n v) →
    ((v w : Value) → A v → C w → Lies v w) → ((v w : Value) → B v → D w → R v w) →
    ((x x' y y' v w : Value) → IsOver n x → IsOver n x' → Lies x x' → R y y' → Op x y v → Op x' y' w → Lies v w) →
    (v w : Value) → MadeOfTwo A B Op v → MadeOfTwo C D Op w → Lies v w
two_grow n A C B D R Op o p f g grow v w h k =
    grow h.left k.left h.right k.right v w (o h.left h.given_left) (p k.left k.given_left) (f h.left k.left h.given_left k.given_left) (g h.right k.right h.given_right k.given_right) h.made k.made

-- What two environments have to do with one another for an expression to be worth at least as much in the second:
-- each name stands for at least as much, and one with P for the same.
pub record Grow (n : ℕ) (E F : Word → Value → Type 0) (P : Word → Type 0) : Type 0 where
  pub over : (x : Word) (v : Value) → E x v → IsOver n v
  pub over_more : (x : Word) (v : Value) → F x v → IsOver n v
  pub lies : (x : Word) (v w : Value) → E x v → F x w → Lies v w
  pub keeps : (x : Word) → P x → (v w : Value) → E x v → F x w → v ≡ w

pub grows : (n : ℕ) (E F : Word → Value → Type 0) (P : Word → Type 0) → Grow n E F P → (a : Term) → All P (denied_names a) → (v w : Value) → Means n E a v → Means n F a w → Lies v w
grows n E F P g (union a b) h v w =
    two_grow n (Means n E a) (Means n F a) (Means n E b) (Means n F b) Lies IsUnion (means_over n E g.over a) (means_over n F g.over_more a)
    (grows n E F P g a (left P (denied_names a) (denied_names b) h)) (grows n E F P g b (right P (denied_names a) (denied_names b) h)) (union_operator.grows n) v w
grows n E F P g (intersection a b) h v w =
    two_grow n (Means n E a) (Means n F a) (Means n E b) (Means n F b) Lies IsIntersection (means_over n E g.over a) (means_over n F g.over_more a)
    (grows n E F P g a (left P (denied_names a) (denied_names b) h)) (grows n E F P g b (right P (denied_names a) (denied_names b) h)) (intersection_operator.grows n) v w
grows n E F P g (sequence a b) h v w =
    two_grow n (Means n E a) (Means n F a) (Means n E b) (Means n F b) Lies IsSequence (means_over n E g.over a) (means_over n F g.over_more a)
    (grows n E F P g a (left P (denied_names a) (denied_names b) h)) (grows n E F P g b (right P (denied_names a) (denied_names b) h)) (sequence_operator.grows n) v w
grows n E F P g (product a b) h v w =
    two_grow n (Means n E a) (Means n F a) (Means n E b) (Means n F b) Lies IsProduct (means_over n E g.over a) (means_over n F g.over_more a)
    (grows n E F P g a (left P (denied_names a) (denied_names b) h)) (grows n E F P g b (right P (denied_names a) (denied_names b) h)) (product_operator.grows n) v w
grows n E F P g (difference a b) h v w =
    two_grow n (Means n E a) (Means n F a) (Means n E b) (Means n F b) (λ y z. Lies z y) IsDifference (means_over n E g.over a) (means_over n F g.over_more a)
    (grows n E F P g a (left P (denied_names a) (names b) h))
    (λ y z m k. values.lies_same z y (sym (same n E F P g.keeps b (right P (denied_names a) (names b) h) y z m k)))
    (difference_operator.grows n) v w
grows n E F P g (complement a) h v w = λ m k. values.lies_same v w (same n E F P g.keeps (complement a) h v w m k)
grows n E F P g (plus a) h v w = one_grows n (Means n E a) (Means n F a) IsPlus (means_over n E g.over a) (means_over n F g.over_more a) (grows n E F P g a h) (plus_operator.grows n) v w
grows n E F P g (star a) h v w = one_grows n (Means n E a) (Means n F a) IsStar (means_over n E g.over a) (means_over n F g.over_more a) (grows n E F P g a h) (star_operator.grows n) v w
grows n E F P g (optional a) h v w = one_grows n (Means n E a) (Means n F a) IsOptional (means_over n E g.over a) (means_over n F g.over_more a) (grows n E F P g a h) (optional_operator.grows n) v w
grows n E F P g (inverse a) h v w = one_grows n (Means n E a) (Means n F a) IsInverse (means_over n E g.over a) (means_over n F g.over_more a) (grows n E F P g a h) (inverse_operator.grows n) v w
grows n E F P g (domain a) h v w = one_grows n (Means n E a) (Means n F a) IsDomain (means_over n E g.over a) (means_over n F g.over_more a) (grows n E F P g a h) (domain_operator.grows n) v w
grows n E F P g (range a) h v w = one_grows n (Means n E a) (Means n F a) IsRange (means_over n E g.over a) (means_over n F g.over_more a) (grows n E F P g a h) (range_operator.grows n) v w
grows n E F P g (identity a) h v w = one_grows n (Means n E a) (Means n F a) IsIdentity (means_over n E g.over a) (means_over n F g.over_more a) (grows n E F P g a h) (identity_operator.grows n) v w
grows n E F P g (name x) h v w = g.lies x v w
grows n E F P g empty_relation h v w = λ m k. values.lies_same v w (values.one_relation_value n (λ i j. ⊥) v w m k)
grows n E F P g empty_set h v w = λ m k. values.lies_same v w (values.one_set_value n (λ i. ⊥) v w m k)
grows n E F P g universe h v w = λ m k. values.lies_same v w (values.one_set_value n (λ i. Unit {0}) v w m k)
