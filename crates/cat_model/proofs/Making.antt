-- What nodes make of sorts, where classes are joined.
use Rattle.std.proofs.Common.{◌≡◌, ◌<◌, ◌⊎◌, ◌↔◌, ◌∙◌, arith, ℕ, zero, suc, ◌+◌, length, get_or, List, [], ◌∷◌, map, Bool, true, false, ◌&&◌, cond, nat_eq, inl, inr, Option, None, Some, ap, sym, subst, refl}
use Rattle.std.specs.Prelude.{option_map}
use Rattle.std.proofs.lemmas.Bool.{eqb-true, eq-eqb}
use Rattle.std.proofs.lemmas.List.{length-map}
use Rattle.cat_tree.specs.declared.node.Infix.{Infix}
use Rattle.cat_tree.specs.declared.node.Infix.TheVariants.{Union, Sequence, Difference, Intersection, Product}
use Rattle.cat_tree.specs.declared.node.Sign.{Sign}
use Rattle.cat_tree.specs.declared.node.Sign.TheVariants.{Complement, Plus, Star, Optional, Inverse, Domain, Range, Identity}
use Rattle.cat_model.specs.Classing.{class_of, Agree, Makes, AreTaken, wanted_by, wanted_of_both, sort_applied, sort_joined, sorts_of_classes}
use Rattle.cat_model.specs.Schemes.{sort_of_class, agree, all_sorts, by_sorts, by_scheme, same_sort}
use Rattle.cat_model.specs.Sorts.{just_sort, of_both}
use Rattle.cat_model.specs.declared.schemes.Class.{Class}
use Rattle.cat_model.specs.declared.schemes.Class.TheVariants.{Known, Same}
use Rattle.cat_model.specs.declared.schemes.Classes.{Classes}
use Rattle.cat_model.specs.declared.schemes.Scheme.{Scheme}
use Rattle.cat_model.specs.declared.sort.Sort.{Sort}
use Rattle.cat_model.specs.declared.sort.Sort.TheVariants.{Set, Relation}
use Rattle.cat_model.proofs.Joining.{sorts_same, sorts_apart}

-- nothing is possible
pub made_never : (old new : Classes) (js : List Sort) (o : Option Sort) (k : Sort) → (Agree new js → ⊥) → o ≡ None → Makes old new js o k
made_never old new js o k never e = record { back = λ h. absurd (never h); made = λ h. inr (never, e) }

-- by a condition that a test decides
made_if : (old new : Classes) (js : List Sort) (o : Option Sort) (k : Sort) (P : Type 0) (t : Bool) → Agree new js ↔ (Agree old js × P) → (t ≡ true → P) → (t ≡ false → P → ⊥) → o ≡ cond t (Some k) None → Makes old new js o k
made_if old new js o k P t f holds fails e = record { back = λ h. (f.0 h).0; made = λ h. by t refl h }
  where
    by : (b : Bool) → t ≡ b → Agree old js → (Agree new js × (o ≡ Some k)) ⊎ ((Agree new js → ⊥) × (o ≡ None))
    by true g h = inl (f.1 (h, holds g), e ∙ ap (λ b. cond b (Some k) None) g)
    by false g h = inr (λ a. fails g (f.0 a).1, e ∙ ap (λ b. cond b (Some k) None) g)

-- signs

abbrev by_wanted : Option (Sort × Sort) → Sort → Option Sort
by_wanted None k = Some k
by_wanted (Some w) k = cond (same_sort k w.0) (Some w.1) None

sign_by : (u : Sign) (k : Sort) → sort_applied u (Some k) ≡ by_wanted (wanted_by u) k
sign_by Complement k = refl
sign_by Plus Set = refl
sign_by Plus Relation = refl
sign_by Star Set = refl
sign_by Star Relation = refl
sign_by Optional Set = refl
sign_by Optional Relation = refl
sign_by Inverse Set = refl
sign_by Inverse Relation = refl
sign_by Domain Set = refl
sign_by Domain Relation = refl
sign_by Range Set = refl
sign_by Range Relation = refl
sign_by Identity Set = refl
sign_by Identity Relation = refl

pub made_sign : (old new : Classes) (u : Sign) (a : Class) (k m : Sort) → wanted_by u ≡ Some (k, m) → ((js : List Sort) → Agree new js ↔ (Agree old js × (sort_of_class js a ≡ k))) →
    (js : List Sort) → Makes old new js (sort_applied u (Some (sort_of_class js a))) m
made_sign old new u a k m e f js =
    made_if old new js (sort_applied u (Some (sort_of_class js a))) m (sort_of_class js a ≡ k) (same_sort (sort_of_class js a) k) (f js) (sorts_same (sort_of_class js a) k) (sorts_apart (sort_of_class js a) k)
    (sign_by u (sort_of_class js a) ∙ ap (λ w. by_wanted w (sort_of_class js a)) e)

-- operators

both_alike : (j k : Sort) → of_both (Some j) (Some k) ≡ cond (same_sort j k) (Some j) None
both_alike Set Set = refl
both_alike Relation Relation = refl
both_alike Set Relation = refl
both_alike Relation Set = refl

infix_none : (o : Infix) (j k : Sort) → wanted_of_both o ≡ None → sort_joined o (Some j) (Some k) ≡ cond (same_sort j k) (Some j) None
infix_none Union j k e = both_alike j k
infix_none Difference j k e = both_alike j k
infix_none Intersection j k e = both_alike j k
infix_none Sequence j k e = cc
infix_none Product j k e = cc

pub made_alike : (old new : Classes) (o : Infix) (a b : Class) → wanted_of_both o ≡ None → ((js : List Sort) → Agree new js ↔ (Agree old js × (sort_of_class js a ≡ sort_of_class js b))) →
    (js : List Sort) → Makes old new js (sort_joined o (Some (sort_of_class js a)) (Some (sort_of_class js b))) (sort_of_class js a)
made_alike old new o a b e f js =
    let j : Sort = sort_of_class js a in
    let k : Sort = sort_of_class js b in
    made_if old new js (sort_joined o (Some j) (Some k)) j (j ≡ k) (same_sort j k) (f js) (sorts_same j k) (sorts_apart j k) (infix_none o j k e)

infix_some : (o : Infix) (j k l m : Sort) → wanted_of_both o ≡ Some (l, m) → sort_joined o (Some j) (Some k) ≡ cond (same_sort j k && same_sort j l) (Some m) None
infix_some Union j k l m e = cc
infix_some Difference j k l m e = cc
infix_some Intersection j k l m e = cc
infix_some Sequence j k l m e = (let P : Sort × Sort → Type 0 = λ w. sort_joined Sequence (Some j) (Some k) ≡ cond (same_sort j k && same_sort j w.0) (Some w.1) None in subst P (pair_is (Relation, Relation) (l, m) e) (by j k))
  where
    pair_is : (v w : Sort × Sort) → ◌≡◌ {A = Option (Sort × Sort)} (Some v) (Some w) → v ≡ w
    pair_is v w e = cc

    by : (j k : Sort) → sort_joined Sequence (Some j) (Some k) ≡ cond (same_sort j k && same_sort j Relation) (Some Relation) None
    by Set Set = refl
    by Relation Relation = refl
    by Set Relation = refl
    by Relation Set = refl
infix_some Product j k l m e = (let P : Sort × Sort → Type 0 = λ w. sort_joined Product (Some j) (Some k) ≡ cond (same_sort j k && same_sort j w.0) (Some w.1) None in subst P (pair_is (Set, Relation) (l, m) e) (by j k))
  where
    pair_is : (v w : Sort × Sort) → ◌≡◌ {A = Option (Sort × Sort)} (Some v) (Some w) → v ≡ w
    pair_is v w e = cc

    by : (j k : Sort) → sort_joined Product (Some j) (Some k) ≡ cond (same_sort j k && same_sort j Set) (Some Relation) None
    by Set Set = refl
    by Relation Relation = refl
    by Set Relation = refl
    by Relation Set = refl

pub both_true : (s t : Bool) → (s && t) ≡ true → (s ≡ true) × (t ≡ true)
both_true true t e = (refl, e)
both_true false t e = absurd (let f : false ≡ true = e in cc)

not_both : (s t : Bool) → (s && t) ≡ false → s ≡ true → t ≡ false
not_both true t e f = e
not_both false t e f = absurd (let g : false ≡ true = f in cc)

true_of : (j k : Sort) → j ≡ k → same_sort j k ≡ true
true_of j k e = by (same_sort j k) refl
  where
    by : (b : Bool) → same_sort j k ≡ b → same_sort j k ≡ true
    by true f = f
    by false f = absurd (sorts_apart j k f e)

pub made_infix : (old mid new : Classes) (o : Infix) (a b : Class) (k m : Sort) → wanted_of_both o ≡ Some (k, m) → ((js : List Sort) → Agree mid js ↔ (Agree old js × (sort_of_class js a ≡ sort_of_class js b))) →
    ((js : List Sort) → Agree new js ↔ (Agree mid js × (sort_of_class js a ≡ k))) → (js : List Sort) → Makes old new js (sort_joined o (Some (sort_of_class js a)) (Some (sort_of_class js b))) m
made_infix old mid new o a b k m e f g js =
    let i : Sort = sort_of_class js a in
    let j : Sort = sort_of_class js b in
    made_if old new js (sort_joined o (Some i) (Some j)) m ((i ≡ j) × (i ≡ k)) (same_sort i j && same_sort i k)
    (λ h. (let x = (g js).0 h in let y = (f js).0 x.0 in (y.0, (y.1, x.1))), λ h. (g js).1 ((f js).1 (h.0, h.1.0), h.1.1))
    (λ t. (let b = both_true (same_sort i j) (same_sort i k) t in (sorts_same i j b.0, sorts_same i k b.1)))
    (λ t h. sorts_apart i k (not_both (same_sort i j) (same_sort i k) t (true_of i j h.0)) h.1)
    (infix_some o i j k m e)

-- values

pub made_no_value : (old new : Classes) (c : Class) (cs : List Class) → (length cs ≡ 0 → ⊥) → ((js : List Sort) → Agree new js → ⊥) → (js : List Sort) → Makes old new js (just_sort (Some (sort_of_class js c)) (sorts_of_classes js cs)) (sort_of_class js c)
made_no_value old new c [] l never js = absurd (l refl)
made_no_value old new c (d ∷ cs) l never js = made_never old new js None (sort_of_class js c) (never js) refl

-- calls

pub instance_sort : (js : List Sort) (cs : List Class) (c : Class) → sort_of_class js (class_of cs c) ≡ sort_of_class (map (sort_of_class js) cs) c
instance_sort js cs (Known k) = refl
instance_sort js cs (Same i) = at cs i
  where
    at : (cs : List Class) (i : ℕ) → sort_of_class js (get_or cs i (Known Set)) ≡ get_or (map (sort_of_class js) cs) i Set
    at [] i = refl
    at (c ∷ cs) zero = refl
    at (c ∷ cs) (suc i) = at cs i

all_there : (js : List Sort) (cs : List Class) → all_sorts (sorts_of_classes js cs) ≡ Some (map (sort_of_class js) cs)
all_there js [] = refl
all_there js (c ∷ cs) = ap (λ o. option_map (λ l. sort_of_class js c ∷ l) o) (all_there js cs)

-- one place after another
pub agree_each : (all : List Sort) (cs : List Class) (js : List Sort) → agree all cs js ≡ true → (i : ℕ) → i < length js → get_or js i Set ≡ sort_of_class all (get_or cs i (Known Set))
agree_each all [] [] e i l = absurd (omega (arith, l))
agree_each all [] (j ∷ js) e i l = absurd (let f : false ≡ true = e in cc)
agree_each all (c ∷ cs) [] e i l = absurd (let f : false ≡ true = e in cc)
agree_each all (c ∷ cs) (j ∷ js) e zero l = sorts_same j (sort_of_class all c) (both_true (same_sort j (sort_of_class all c)) (agree all cs js) e).0
agree_each all (c ∷ cs) (j ∷ js) e (suc i) l = agree_each all cs js (both_true (same_sort j (sort_of_class all c)) (agree all cs js) e).1 i (omega (arith, l))

pub and_true : (s t : Bool) → s ≡ true → t ≡ true → (s && t) ≡ true
and_true true t e f = f
and_true false t e f = absurd (let g : false ≡ true = e in cc)

pub each_agree : (all : List Sort) (cs : List Class) (js : List Sort) → length cs ≡ length js → ((i : ℕ) → i < length js → get_or js i Set ≡ sort_of_class all (get_or cs i (Known Set))) → agree all cs js ≡ true
each_agree all [] [] l h = refl
each_agree all [] (j ∷ js) l h = absurd (omega (arith, l))
each_agree all (c ∷ cs) [] l h = absurd (omega (arith, l))
each_agree all (c ∷ cs) (j ∷ js) l h =
    and_true (same_sort j (sort_of_class all c)) (agree all cs js) (true_of j (sort_of_class all c) (h 0 (omega arith))) (each_agree all cs js (omega (arith, l)) (λ i m. h (suc i) (omega (arith, m))))

pub agree_long : (all : List Sort) (cs : List Class) (js : List Sort) → agree all cs js ≡ true → length cs ≡ length js
agree_long all [] [] e = refl
agree_long all [] (j ∷ js) e = absurd (let f : false ≡ true = e in cc)
agree_long all (c ∷ cs) [] e = absurd (let f : false ≡ true = e in cc)
agree_long all (c ∷ cs) (j ∷ js) e = ap suc (agree_long all cs js (both_true (same_sort j (sort_of_class all c)) (agree all cs js) e).1)

at_map : (js : List Sort) (cs : List Class) (i : ℕ) → get_or (map (sort_of_class js) cs) i Set ≡ sort_of_class js (get_or cs i (Known Set))
at_map js [] i = refl
at_map js (c ∷ cs) zero = refl
at_map js (c ∷ cs) (suc i) = at_map js cs i

taken_agree : (js : List Sort) (ws cs : List Class) → length ws ≡ length cs → AreTaken js ws cs (length cs) → agree (map (sort_of_class js) cs) ws (map (sort_of_class js) cs) ≡ true
taken_agree js ws cs l h =
    each_agree (map (sort_of_class js) cs) ws (map (sort_of_class js) cs) (l ∙ sym (length-map cs (sort_of_class js)))
    (λ i m. at_map js cs i ∙ h i (let e = length-map cs (sort_of_class js) in omega (arith, m, e)) ∙ instance_sort js cs (get_or ws i (Known Set)))

agree_taken : (js : List Sort) (ws cs : List Class) → agree (map (sort_of_class js) cs) ws (map (sort_of_class js) cs) ≡ true → AreTaken js ws cs (length cs)
agree_taken js ws cs e i m =
    sym (at_map js cs i) ∙ agree_each (map (sort_of_class js) cs) ws (map (sort_of_class js) cs) e i (let f = length-map cs (sort_of_class js) in omega (arith, m, f)) ∙ sym (instance_sort js cs (get_or ws i (Known Set)))

called : (s : Scheme) (js : List Sort) (cs : List Class) → by_scheme s (sorts_of_classes js cs) ≡ by_sorts s (Some (map (sort_of_class js) cs))
called s js cs = ap (by_sorts s) (all_there js cs)

pub made_call : (old new : Classes) (s : Scheme) (cs : List Class) (c : Class) → s.classes.possible ≡ true → length s.classes.items.items ≡ length cs → c ≡ class_of cs s.result →
    ((js : List Sort) → Agree new js ↔ (Agree old js × AreTaken js s.classes.items.items cs (length cs))) → (js : List Sort) → Makes old new js (by_scheme s (sorts_of_classes js cs)) (sort_of_class js c)
made_call old new s cs c p l e f js =
    let all : List Sort = map (sort_of_class js) cs in
    let t : Bool = agree all s.classes.items.items all in
    made_if old new js (by_scheme s (sorts_of_classes js cs)) (sort_of_class js c) (AreTaken js s.classes.items.items cs (length cs)) t (f js) (agree_taken js s.classes.items.items cs)
    (λ g h. (let x : true ≡ false = sym (taken_agree js s.classes.items.items cs l h) ∙ g in cc))
    (called s js cs ∙ ap (λ q. cond (q && t) (Some (sort_of_class all s.result)) None) p ∙ ap (λ k. cond t (Some k) None) (sym (ap (sort_of_class js) e ∙ instance_sort js cs s.result)))

pub made_no_call : (old new : Classes) (s : Scheme) (cs : List Class) (k : Sort) → s.classes.possible ≡ false → ((js : List Sort) → Agree new js → ⊥) → (js : List Sort) → Makes old new js (by_scheme s (sorts_of_classes js cs)) k
made_no_call old new s cs k p never js =
    let all : List Sort = map (sort_of_class js) cs in
    made_never old new js (by_scheme s (sorts_of_classes js cs)) k (never js) (called s js cs ∙ ap (λ q. cond (q && agree all s.classes.items.items all) (Some (sort_of_class all s.result)) None) p)

pub made_wrong_call : (old new : Classes) (s : Scheme) (cs : List Class) (k : Sort) → (length s.classes.items.items ≡ length cs → ⊥) → ((js : List Sort) → Agree new js → ⊥) → (js : List Sort) → Makes old new js (by_scheme s (sorts_of_classes js cs)) k
made_wrong_call old new s cs k l never js =
    made_never old new js (by_scheme s (sorts_of_classes js cs)) k (never js) (called s js cs ∙ by (agree all s.classes.items.items all) refl)
  where
    all : List Sort
    all = map (sort_of_class js) cs

    none : (p : Bool) (k : Option Sort) → cond (p && false) k None ≡ None
    none true k = refl
    none false k = refl

    by : (b : Bool) → agree all s.classes.items.items all ≡ b → cond (s.classes.possible && agree all s.classes.items.items all) (Some (sort_of_class all s.result)) None ≡ None
    by true e = absurd (l (agree_long all s.classes.items.items all e ∙ length-map cs (sort_of_class js)))
    by false e = ap (λ b. cond (s.classes.possible && b) (Some (sort_of_class all s.result)) None) e ∙ none s.classes.possible (Some (sort_of_class all s.result))

-- the next argument
pub taken_next : (js : List Sort) (ws cs : List Class) (i : ℕ) → AreTaken js ws cs i → sort_of_class js (get_or cs i (Known Set)) ≡ sort_of_class js (class_of cs (get_or ws i (Known Set))) → AreTaken js ws cs (i + 1)
taken_next js ws cs i h e k l = by (nat_eq k i) refl
  where
    by : (b : Bool) → nat_eq k i ≡ b → sort_of_class js (get_or cs k (Known Set)) ≡ sort_of_class js (class_of cs (get_or ws k (Known Set)))
    by true f = (let g : k ≡ i = eqb-true k i f in ap (λ n. sort_of_class js (get_or cs n (Known Set))) g ∙ e ∙ sym (ap (λ n. sort_of_class js (class_of cs (get_or ws n (Known Set)))) g))
    by false f = h k (let g : (k ≡ i) → ⊥ = λ e. absurd (let x : true ≡ false = sym (eq-eqb k i e) ∙ f in cc) in omega (arith, l, g))

-- joined with one more argument
pub joined_next : (old mid new : Classes) (ws cs : List Class) (i : ℕ) (a b : Class) → a ≡ get_or cs i (Known Set) → b ≡ class_of cs (get_or ws i (Known Set)) → ((js : List Sort) → Agree mid js ↔ (Agree old js × AreTaken js ws cs i)) →
    ((js : List Sort) → Agree new js ↔ (Agree mid js × (sort_of_class js a ≡ sort_of_class js b))) → (js : List Sort) → Agree new js ↔ (Agree old js × AreTaken js ws cs (i + 1))
joined_next old mid new ws cs i a b d e f g js = (
  λ h. (let x = (g js).0 h in let y = (f js).0 x.0 in (y.0, taken_next js ws cs i y.1 (sym (ap (sort_of_class js) d) ∙ x.1 ∙ ap (sort_of_class js) e))),
  λ h. (g js).1 ((f js).1 (h.0, λ k l. h.1 k (omega (arith, l))), ap (sort_of_class js) d ∙ h.1 i (omega arith) ∙ sym (ap (sort_of_class js) e)),
)
