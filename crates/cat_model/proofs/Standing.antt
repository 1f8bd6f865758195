-- Classes that wait, and the sorts of the terms that wait.
use Rattle.std.proofs.Common.{◌≡◌, ◌<◌, ◌≤◌, ◌-◌, ◌⊎◌, ◌∙◌, arith, ℕ, zero, suc, ◌+◌, length, take, drop, get_or, List, [], ◌∷◌, ◌++◌, map, Bool, true, false, ◌&&◌, cond, inl, inr, Option, None, Some, ap, sym, subst, refl}
use Rattle.std.specs.Prelude.{option_map, reverse}
use Rattle.std.specs.Option.{option_or}
use Rattle.std.specs.Str.{bytes_eq}
use Rattle.std.proofs.lemmas.Bool.{cases_lt}
use Rattle.std.proofs.Math.Seq.{take-append_seam, drop-append_seam}
use Rattle.std.proofs.lemmas.List.{drop_more, drop_all, take_rest, reverse-append, reverse-reverse, length-reverse, length-drop, take-append-drop}
use Rattle.cat_tree.specs.declared.node.Infix.{Infix}
use Rattle.cat_tree.specs.declared.node.Infix.TheVariants.{Union, Sequence, Difference, Intersection, Product}
use Rattle.cat_tree.specs.declared.node.Leaf.{Leaf}
use Rattle.cat_tree.specs.declared.node.Leaf.TheVariants as leaves
use Rattle.cat_tree.specs.declared.node.Node.{Node}
use Rattle.cat_tree.specs.declared.node.Node.TheVariants as nodes
use Rattle.cat_tree.specs.declared.node.Sign.{Sign}
use Rattle.cat_tree.specs.declared.node.Sign.TheVariants.{Complement, Plus, Star, Optional, Inverse, Domain, Range, Identity}
use Rattle.cat_tree.specs.Postorder.{left_alone}
use Rattle.cat_tree.specs.Terms.{Word, Term, universe, leaf_of, applied, joined, terms_of, latest, earlier, left_by, left_by_all, postorder, term_in}
use Rattle.cat_model.specs.Classing.{place_in, given_sorts, Agree, Makes, sort_applied, sort_joined, sort_of_leaf, sorts_of_classes, HasNone, Stand, Kept, Names, IsLeaf}
use Rattle.cat_model.specs.Lookups.{held_in}
use Rattle.cat_model.specs.Named.{named_of, sort_of_named}
use Rattle.cat_model.specs.Schemes.{sort_of_class, agree, all_sorts, by_sorts, by_scheme, sort_by, FitSorts}
use Rattle.cat_model.specs.Sorts.{Sorting, sort, sorts, just_sort, with_sort, applied_sort, of_relation, of_set, of_both}
use Rattle.cat_model.specs.declared.schemes.Class.{Class}
use Rattle.cat_model.specs.declared.schemes.Class.TheVariants.{Known, Same}
use Rattle.cat_model.specs.declared.schemes.Classes.{Classes}
use Rattle.cat_model.specs.declared.schemes.Scheme.{Scheme}
use Rattle.cat_model.specs.declared.scope.BoundName.{BoundName}
use Rattle.cat_model.specs.declared.scope.Held.{Held}
use Rattle.cat_model.specs.declared.scope.Held.TheVariants.{Value, Function}
use Rattle.cat_model.specs.declared.sort.Sort.{Sort}
use Rattle.cat_model.specs.declared.sort.Sort.TheVariants.{Set, Relation}
use Rattle.cat_model.proofs.Making.{made_never, and_true, both_true, each_agree, agree_each, agree_long}

-- what a node leaves of sorts
abbrev sort_step : Sorting → Node → List (Option Sort) → List (Option Sort)
sort_step E (nodes.Leaf l) ks = sort_of_leaf E l ∷ ks
sort_step E (nodes.Sign u) ks = sort_applied u (latest (Some Set) ks) ∷ earlier ks
sort_step E (nodes.Infix o) ks = sort_joined o (latest (Some Set) (earlier ks)) (latest (Some Set) ks) ∷ earlier (earlier ks)
sort_step E (nodes.Call f count) ks = E f (reverse (take count ks)) ∷ drop count ks

-- it is what it leaves of terms

leaf_sort : (E : Sorting) (l : Leaf) → sort_of_leaf E l ≡ sort E (leaf_of l)
leaf_sort E (leaves.Name x) = refl
leaf_sort E leaves.EmptyRelation = refl
leaf_sort E leaves.EmptySet = refl
leaf_sort E leaves.Universe = refl

sign_sort : (E : Sorting) (u : Sign) (a : Term) → sort_applied u (sort E a) ≡ sort E (applied u a)
sign_sort E Complement a = refl
sign_sort E Plus a = refl
sign_sort E Star a = refl
sign_sort E Optional a = refl
sign_sort E Inverse a = refl
sign_sort E Domain a = refl
sign_sort E Range a = refl
sign_sort E Identity a = refl

infix_sort : (E : Sorting) (o : Infix) (a b : Term) → sort_joined o (sort E a) (sort E b) ≡ sort E (joined o a b)
infix_sort E Union a b = refl
infix_sort E Sequence a b = refl
infix_sort E Difference a b = refl
infix_sort E Intersection a b = refl
infix_sort E Product a b = refl

latest_map : {A B : Type 0} (f : A → B) (d : A) (xs : List A) → latest (f d) (map f xs) ≡ f (latest d xs)
latest_map f d [] = refl
latest_map f d (x ∷ xs) = refl

earlier_map : {A B : Type 0} (f : A → B) (xs : List A) → earlier (map f xs) ≡ map f (earlier xs)
earlier_map f [] = refl
earlier_map f (x ∷ xs) = refl

take_map : {A B : Type 0} (f : A → B) (n : ℕ) (xs : List A) → take n (map f xs) ≡ map f (take n xs)
take_map f zero xs = refl
take_map f (suc n) [] = refl
take_map f (suc n) (x ∷ xs) = ap (λ l. f x ∷ l) (take_map f n xs)

drop_map : {A B : Type 0} (f : A → B) (n : ℕ) (xs : List A) → drop n (map f xs) ≡ map f (drop n xs)
drop_map f zero xs = refl
drop_map f (suc n) [] = refl
drop_map f (suc n) (x ∷ xs) = drop_map f n xs

map_both : {A B : Type 0} (f : A → B) (xs ys : List A) → map f (xs ++ ys) ≡ map f xs ++ map f ys
map_both f [] ys = refl
map_both f (x ∷ xs) ys = ap (λ l. f x ∷ l) (map_both f xs ys)

reverse_map : {A B : Type 0} (f : A → B) (xs : List A) → reverse (map f xs) ≡ map f (reverse xs)
reverse_map f [] = refl
reverse_map f (x ∷ xs) = reverse-append (f x ∷ []) (map f xs) ∙ ap (λ l. l ++ f x ∷ []) (reverse_map f xs) ∙ sym (map_both f (reverse xs) (x ∷ [])) ∙ ap (λ l. map f l) (sym (reverse-append (x ∷ []) xs))

sorts_map : (E : Sorting) (ts : List Term) → sorts E (terms_of ts) ≡ map (sort E) ts
sorts_map E [] = refl
sorts_map E (t ∷ ts) = ap (λ l. sort E t ∷ l) (sorts_map E ts)

step_sorts : (E : Sorting) (n : Node) (ts : List Term) → sort_step E n (map (sort E) ts) ≡ map (sort E) (left_by n ts)
step_sorts E (nodes.Leaf l) ts = ap (λ k. k ∷ map (sort E) ts) (leaf_sort E l)
step_sorts E (nodes.Sign u) ts =
    ap (λ k. sort_applied u k ∷ earlier (map (sort E) ts)) (latest_map (sort E) universe ts) ∙ ap (λ k. k ∷ earlier (map (sort E) ts)) (sign_sort E u (latest universe ts)) ∙
    ap (λ ks. sort E (applied u (latest universe ts)) ∷ ks) (earlier_map (sort E) ts)
step_sorts E (nodes.Infix o) ts =
    ap (λ k. sort_joined o (latest (Some Set) (earlier (map (sort E) ts))) k ∷ earlier (earlier (map (sort E) ts))) (latest_map (sort E) universe ts) ∙
    ap (λ ks. sort_joined o (latest (Some Set) ks) (sort E (latest universe ts)) ∷ earlier ks) (earlier_map (sort E) ts) ∙
    ap (λ k. sort_joined o k (sort E (latest universe ts)) ∷ earlier (map (sort E) (earlier ts))) (latest_map (sort E) universe (earlier ts)) ∙
    ap (λ k. k ∷ earlier (map (sort E) (earlier ts))) (infix_sort E o (latest universe (earlier ts)) (latest universe ts)) ∙
    ap (λ ks. sort E (joined o (latest universe (earlier ts)) (latest universe ts)) ∷ ks) (earlier_map (sort E) (earlier ts))
step_sorts E (nodes.Call f count) ts =
    ap (λ ks. E f (reverse ks) ∷ drop count (map (sort E) ts)) (take_map (sort E) count ts) ∙ ap (λ ks. E f ks ∷ drop count (map (sort E) ts)) (reverse_map (sort E) (take count ts) ∙ sym (sorts_map E (reverse (take count ts)))) ∙
    ap (λ ks. E f (sorts E (terms_of (reverse (take count ts)))) ∷ ks) (drop_map (sort E) count ts)

-- what has no sort stays so

abbrev Strict : Sorting → Type 0
Strict E = (x : Word) (ks : List (Option Sort)) → HasNone ks → E x ks ≡ None

none_first : (ks : List (Option Sort)) (k : Option Sort) → k ≡ None → HasNone (k ∷ ks)
none_first ks None e = tt
none_first ks (Some k) e = absurd (let f : ◌≡◌ {A = Option Sort} (Some k) None = e in cc)

none_later : (k : Option Sort) (ks : List (Option Sort)) → HasNone ks → HasNone (k ∷ ks)
none_later None ks h = tt
none_later (Some k) ks h = h

sign_none : (u : Sign) → sort_applied u None ≡ None
sign_none Complement = refl
sign_none Plus = refl
sign_none Star = refl
sign_none Optional = refl
sign_none Inverse = refl
sign_none Domain = refl
sign_none Range = refl
sign_none Identity = refl

infix_left : (o : Infix) (k : Option Sort) → sort_joined o None k ≡ None
infix_left Union k = refl
infix_left Sequence k = refl
infix_left Difference k = refl
infix_left Intersection k = refl
infix_left Product k = refl

both_right : (k : Option Sort) → of_both k None ≡ None
both_right None = refl
both_right (Some Set) = refl
both_right (Some Relation) = refl

infix_right : (o : Infix) (k : Option Sort) → sort_joined o k None ≡ None
infix_right Union k = both_right k
infix_right Difference k = both_right k
infix_right Intersection k = both_right k
infix_right Sequence k = ap (of_relation Relation) (both_right k)
infix_right Product k = ap of_set (both_right k)

none_split : (n : ℕ) (ks : List (Option Sort)) → HasNone ks → HasNone (take n ks) ⊎ HasNone (drop n ks)
none_split zero ks h = inr h
none_split (suc n) [] h = absurd h
none_split (suc n) (None ∷ ks) h = inl tt
none_split (suc n) (Some k ∷ ks) h = none_split n ks h

none_push : (ks : List (Option Sort)) (k : Option Sort) → HasNone ks → HasNone (ks ++ k ∷ [])
none_push [] k h = absurd h
none_push (None ∷ ks) k h = tt
none_push (Some j ∷ ks) k h = none_push ks k h

none_last : (ks : List (Option Sort)) → HasNone (ks ++ None ∷ [])
none_last [] = tt
none_last (None ∷ ks) = tt
none_last (Some j ∷ ks) = none_last ks

none_reverse : (ks : List (Option Sort)) → HasNone ks → HasNone (reverse ks)
none_reverse [] h = absurd h
none_reverse (None ∷ ks) h = (let P : List (Option Sort) → Type 0 = HasNone in subst P (sym (reverse-append (None ∷ []) ks)) (none_last (reverse ks)))
none_reverse (Some k ∷ ks) h = (let P : List (Option Sort) → Type 0 = HasNone in subst P (sym (reverse-append (Some k ∷ []) ks)) (none_push (reverse ks) (Some k) (none_reverse ks h)))

none_stays : (E : Sorting) → Strict E → (n : Node) (ks : List (Option Sort)) → HasNone ks → HasNone (sort_step E n ks)
none_stays E s (nodes.Leaf l) ks h = none_later (sort_of_leaf E l) ks h
none_stays E s (nodes.Sign u) [] h = absurd h
none_stays E s (nodes.Sign u) (None ∷ ks) h = none_first ks (sort_applied u None) (sign_none u)
none_stays E s (nodes.Sign u) (Some k ∷ ks) h = none_later (sort_applied u (Some k)) ks h
none_stays E s (nodes.Infix o) [] h = absurd h
none_stays E s (nodes.Infix o) (None ∷ ks) h = none_first (earlier ks) (sort_joined o (latest (Some Set) ks) None) (infix_right o (latest (Some Set) ks))
none_stays E s (nodes.Infix o) (Some k ∷ []) h = absurd h
none_stays E s (nodes.Infix o) (Some k ∷ None ∷ ks) h = none_first ks (sort_joined o None (Some k)) (infix_left o (Some k))
none_stays E s (nodes.Infix o) (Some k ∷ Some j ∷ ks) h = none_later (sort_joined o (Some j) (Some k)) ks h
none_stays E s (nodes.Call f count) ks h = elim (none_split count ks h) [
  | inl a ↦ none_first (drop count ks) (E f (reverse (take count ks))) (s f (reverse (take count ks)) (none_reverse (take count ks) a))
  | inr a ↦ none_later (E f (reverse (take count ks))) (drop count ks) a
]

-- names are strict

none_missing : (ks : List (Option Sort)) → HasNone ks → all_sorts ks ≡ None
none_missing [] h = absurd h
none_missing (None ∷ ks) h = refl
none_missing (Some k ∷ ks) h = ap (λ o. option_map (λ js. k ∷ js) o) (none_missing ks h)

just_strict : (o : Option Sort) (ks : List (Option Sort)) → HasNone ks → just_sort o ks ≡ None
just_strict o [] h = absurd h
just_strict o (k ∷ ks) h = refl

held_strict : (h : Option Held) (x : Word) (ks : List (Option Sort)) → HasNone ks → sort_by h x ks ≡ None
held_strict None x ks h = just_strict (option_map sort_of_named (named_of x)) ks h
held_strict (Some (Value k)) x ks h = just_strict (Some k) ks h
held_strict (Some (Function s)) x ks h = ap (by_sorts s.scheme) (none_missing ks h)

fit_strict : (ns : List BoundName) (S : Sorting) → FitSorts ns S → Strict S
fit_strict ns S f x ks h = f x ks ∙ held_strict (held_in ns x) x ks h

with_strict : (S : Sorting) (y : Word) (j : Sort) → Strict S → Strict (with_sort S y (just_sort (Some j)))
with_strict S y j s x ks h = by (bytes_eq y x)
  where
    by : (b : Bool) → cond b (just_sort (Some j) ks) (S x ks) ≡ None
    by true = just_strict (Some j) ks h
    by false = s x ks h

given_strict : (S : Sorting) (xs : List Word) (js : List Sort) → Strict S → Strict (given_sorts S xs js)
given_strict S [] js s = s
given_strict S (x ∷ xs) [] s = s
given_strict S (x ∷ xs) (j ∷ js) s = given_strict (with_sort S x (just_sort (Some j))) xs js (with_strict S x j s)

-- what parameters stand for

abbrev given_at : Option ℕ → List Sort → List (Option Sort) → Option Sort → Option Sort
given_at (Some i) js ks o = just_sort (Some (get_or js i Set)) ks
given_at None js ks o = o

given_is : (S : Sorting) (xs : List Word) (js : List Sort) (x : Word) (ks : List (Option Sort)) → length js ≡ length xs → given_sorts S xs js x ks ≡ given_at (place_in xs x) js ks (S x ks)
given_is S [] [] x ks e = refl
given_is S [] (j ∷ js) x ks e = absurd (omega (arith, e))
given_is S (y ∷ xs) [] x ks e = absurd (omega (arith, e))
given_is S (y ∷ xs) (j ∷ js) x ks e = given_is (with_sort S y (just_sort (Some j))) xs js x ks (omega (arith, e)) ∙ by (place_in xs x) (bytes_eq y x)
  where
    by : (o : Option ℕ) (b : Bool) → given_at o js ks (cond b (just_sort (Some j) ks) (S x ks)) ≡ given_at (option_or (option_map suc o) (cond b (Some 0) None)) (j ∷ js) ks (S x ks)
    by (Some i) b = refl
    by None true = refl
    by None false = refl

pub named_parameter : (ns : List BoundName) (xs : List Word) (x : Word) (cs : List Class) (old new : Classes) (c : Class) (i : ℕ) → place_in xs x ≡ Some i → ((js : List Sort) → Makes old new js (just_sort (Some (sort_of_class js (Same i))) (sorts_of_classes js cs)) (sort_of_class js c)) →
    Names ns xs x cs old new c
named_parameter ns xs x cs old new c i e m S f js l =
    let P : Option Sort → Type 0 = λ o. Makes old new js o (sort_of_class js c) in
    subst P (sym (given_is S xs js x (sorts_of_classes js cs) l ∙ ap (λ o. given_at o js (sorts_of_classes js cs) (S x (sorts_of_classes js cs))) e)) (m js)

pub named_outer : (ns : List BoundName) (xs : List Word) (x : Word) (cs : List Class) (old new : Classes) (c : Class) → place_in xs x ≡ None → ((js : List Sort) → Makes old new js (sort_by (held_in ns x) x (sorts_of_classes js cs)) (sort_of_class js c)) →
    Names ns xs x cs old new c
named_outer ns xs x cs old new c e m S f js l =
    let P : Option Sort → Type 0 = λ o. Makes old new js o (sort_of_class js c) in
    subst P (sym (given_is S xs js x (sorts_of_classes js cs) l ∙ ap (λ o. given_at o js (sorts_of_classes js cs) (S x (sorts_of_classes js cs))) e ∙ f x (sorts_of_classes js cs))) (m js)

none_just : (ks : List (Option Sort)) → just_sort None ks ≡ None
none_just [] = refl
none_just (k ∷ ks) = refl

pub outer_none : (h : Option Held) (x : Word) (cs : List Class) (old new : Classes) (k : Sort) → h ≡ None → named_of x ≡ None → ((js : List Sort) → Agree new js → ⊥) → (js : List Sort) → Makes old new js (sort_by h x (sorts_of_classes js cs)) k
outer_none h x cs old new k e f never js =
    made_never old new js (sort_by h x (sorts_of_classes js cs)) k (never js)
    (ap (λ o. sort_by o x (sorts_of_classes js cs)) e ∙ ap (λ n. just_sort (option_map sort_of_named n) (sorts_of_classes js cs)) f ∙ none_just (sorts_of_classes js cs))

-- steps

step_stands : (E : Sorting) → Strict E → (n : Node) (old new : Classes) (js : List Sort) (cs ds : List Class) (o : Option Sort) (k : Class) (ks : List (Option Sort)) → Makes old new js o (sort_of_class js k) →
    sort_step E n (sorts_of_classes js cs) ≡ o ∷ sorts_of_classes js ds → Stand old js cs ks → Stand new js (k ∷ ds) (sort_step E n ks)
step_stands E s n old new js cs ds o k ks m e (inr h) = inr (λ a. h.0 (m.back a), none_stays E s n ks h.1)
step_stands E s n old new js cs ds o k ks m e (inl h) = elim (m.made h.0) [
  | inl a ↦ inl (a.0, ap (sort_step E n) h.1 ∙ e ∙ ap (λ q. q ∷ sorts_of_classes js ds) a.1)
  | inr a ↦ inr (a.0, (let P : List (Option Sort) → Type 0 = HasNone in subst P (sym (ap (sort_step E n) h.1 ∙ e)) (none_first (sorts_of_classes js ds) o a.1)))
]

kept_step : (ns : List BoundName) (xs : List Word) (n : Node) (old new : Classes) (cs ds : List Class) (k : Class) (ts : List Term) →
    ((S : Sorting) → FitSorts ns S → (js : List Sort) → length js ≡ length xs → (o : Option Sort) × Makes old new js o (sort_of_class js k) × (sort_step (given_sorts S xs js) n (sorts_of_classes js cs) ≡ o ∷ sorts_of_classes js ds)) →
    Kept ns xs old cs ts → Kept ns xs new (k ∷ ds) (left_by n ts)
kept_step ns xs n old new cs ds k ts m h S f js l =
    let a = m S f js l in
    let P : List (Option Sort) → Type 0 = Stand new js (k ∷ ds) in
    subst P (step_sorts (given_sorts S xs js) n ts)
    (step_stands (given_sorts S xs js) (given_strict S xs js (fit_strict ns S f)) n old new js cs ds a.0 k (map (sort (given_sorts S xs js)) ts) a.1 a.2 (h S f js l))

node_by : (ns : List BoundName) (xs : List Word) (n m : Node) (new : Classes) (ds : List Class) (ts : List Term) → n ≡ m → Kept ns xs new ds (left_by m ts) → Kept ns xs new ds (left_by n ts)
node_by ns xs n m new ds ts e h = (let P : Node → Type 0 = λ a. Kept ns xs new ds (left_by a ts) in subst P (sym e) h)

pub kept_leaf : (ns : List BoundName) (xs : List Word) (n : Node) (l : Leaf) (old new : Classes) (cs : List Class) (k : Class) (ts : List Term) → n ≡ nodes.Leaf l → IsLeaf ns xs l old new k → Kept ns xs old cs ts → Kept ns xs new (k ∷ cs) (left_by n ts)
kept_leaf ns xs n l old new cs k ts e m h =
    node_by ns xs n (nodes.Leaf l) new (k ∷ cs) ts e (kept_step ns xs (nodes.Leaf l) old new cs cs k ts (λ S f js i. (sort_of_leaf (given_sorts S xs js) l, m S f js i, refl)) h)

pub kept_sign : (ns : List BoundName) (xs : List Word) (n : Node) (u : Sign) (old new : Classes) (cs ds : List Class) (a k : Class) (ts : List Term) → n ≡ nodes.Sign u → a ≡ latest (Known Set) cs → ds ≡ earlier cs →
    ((js : List Sort) → Makes old new js (sort_applied u (Some (sort_of_class js a))) (sort_of_class js k)) → Kept ns xs old cs ts → Kept ns xs new (k ∷ ds) (left_by n ts)
kept_sign ns xs n u old new cs ds a k ts e f g m h =
    node_by ns xs n (nodes.Sign u) new (k ∷ ds) ts e
    (kept_step ns xs (nodes.Sign u) old new cs ds k ts
    (λ S fit js i. (
      sort_applied u (Some (sort_of_class js a)),
      m js,
      ap (λ o. sort_applied u o ∷ earlier (sorts_of_classes js cs)) (latest_map (λ c. Some (sort_of_class js c)) (Known Set) cs ∙ ap (λ c. Some (sort_of_class js c)) (sym f)) ∙
          ap (λ os. sort_applied u (Some (sort_of_class js a)) ∷ os) (earlier_map (λ c. Some (sort_of_class js c)) cs ∙ ap (sorts_of_classes js) (sym g)),
    )) h)

pub kept_infix : (ns : List BoundName) (xs : List Word) (n : Node) (o : Infix) (old new : Classes) (cs ds es : List Class) (a b k : Class) (ts : List Term) → n ≡ nodes.Infix o → b ≡ latest (Known Set) cs → ds ≡ earlier cs → a ≡ latest (Known Set) ds → es ≡ earlier ds →
    ((js : List Sort) → Makes old new js (sort_joined o (Some (sort_of_class js a)) (Some (sort_of_class js b))) (sort_of_class js k)) → Kept ns xs old cs ts → Kept ns xs new (k ∷ es) (left_by n ts)
kept_infix ns xs n o old new cs ds es a b k ts e f g x y m h =
    node_by ns xs n (nodes.Infix o) new (k ∷ es) ts e
    (kept_step ns xs (nodes.Infix o) old new cs es k ts
    (λ S fit js i. (
      sort_joined o (Some (sort_of_class js a)) (Some (sort_of_class js b)),
      m js,
      (let one : Class → Option Sort = λ c. Some (sort_of_class js c) in
          let p : latest (Some Set) (sorts_of_classes js cs) ≡ Some (sort_of_class js b) = latest_map one (Known Set) cs ∙ ap one (sym f) in
          let q : earlier (sorts_of_classes js cs) ≡ sorts_of_classes js ds = earlier_map one cs ∙ ap (sorts_of_classes js) (sym g) in
          let r : latest (Some Set) (sorts_of_classes js ds) ≡ Some (sort_of_class js a) = latest_map one (Known Set) ds ∙ ap one (sym x) in
          let z : earlier (sorts_of_classes js ds) ≡ sorts_of_classes js es = earlier_map one ds ∙ ap (sorts_of_classes js) (sym y) in
          ap (λ w. sort_joined o (latest (Some Set) (earlier (sorts_of_classes js cs))) w ∷ earlier (earlier (sorts_of_classes js cs))) p ∙
          ap (λ w. sort_joined o (latest (Some Set) w) (Some (sort_of_class js b)) ∷ earlier w) q ∙
          ap (λ w. sort_joined o w (Some (sort_of_class js b)) ∷ earlier (sorts_of_classes js ds)) r ∙
          ap (λ w. sort_joined o (Some (sort_of_class js a)) (Some (sort_of_class js b)) ∷ w) z),
    )) h)

-- the latest of a vector, as many as count, and those before them
taken_last : {A : Type 0} (xs : List A) (m n : ℕ) → m ≡ length xs - n → (reverse (take n (reverse xs)) ≡ drop m xs) × (drop n (reverse xs) ≡ reverse (take m xs))
taken_last xs m n e =
    let whole : reverse xs ≡ reverse (drop m xs) ++ reverse (take m xs) = ap (λ l. reverse l) (sym (take-append-drop m xs)) ∙ reverse-append (take m xs) (drop m xs) in
    let long : length (reverse (drop m xs)) ≡ length xs - m = length-reverse (drop m xs) ∙ length-drop m xs in
    elim (cases_lt (length xs) n) [
      | inl l ↦ (let z : m ≡ 0 = omega (arith, l, e) in
          let few : length (reverse xs) ≤ n = (let k = length-reverse xs in omega (arith, k, l)) in
          (ap (λ l. reverse l) (take_few n (reverse xs) few) ∙ reverse-reverse xs ∙ sym (ap (λ k. drop k xs) z), drop_few n (reverse xs) few ∙ sym (ap (λ k. reverse (take k xs)) z)))
      | inr l ↦ (let k : length (reverse (drop m xs)) ≡ n = omega (arith, l, e, long) in (
        ap (λ l. reverse (take n l)) whole ∙ ap (λ j. reverse (take j (reverse (drop m xs) ++ reverse (take m xs)))) (sym k) ∙ ap (λ l. reverse l) (take-append_seam (reverse (drop m xs)) (reverse (take m xs))) ∙ reverse-reverse (drop m xs),
        ap (λ l. drop n l) whole ∙ ap (λ j. drop j (reverse (drop m xs) ++ reverse (take m xs))) (sym k) ∙ drop-append_seam (reverse (drop m xs)) (reverse (take m xs)),
      ))
    ]
  where
    take_few : {A : Type 0} (n : ℕ) (xs : List A) → length xs ≤ n → take n xs ≡ xs
    take_few zero [] l = refl
    take_few zero (x ∷ xs) l = absurd (omega (arith, l))
    take_few (suc n) [] l = refl
    take_few (suc n) (x ∷ xs) l = ap (λ l. x ∷ l) (take_few n xs (omega (arith, l)))

    drop_few : {A : Type 0} (n : ℕ) (xs : List A) → length xs ≤ n → drop n xs ≡ []
    drop_few zero [] l = refl
    drop_few zero (x ∷ xs) l = absurd (omega (arith, l))
    drop_few (suc n) [] l = refl
    drop_few (suc n) (x ∷ xs) l = drop_few n xs (omega (arith, l))

pub kept_call : (ns : List BoundName) (xs : List Word) (n : Node) (f : Word) (count m : ℕ) (old new : Classes) (vs ws : List Class) (k : Class) (ts : List Term) → n ≡ nodes.Call f count → m ≡ length vs - count → ws ≡ take m vs →
    Names ns xs f (drop m vs) old new k → Kept ns xs old (reverse vs) ts → Kept ns xs new (k ∷ reverse ws) (left_by n ts)
kept_call ns xs n f count m old new vs ws k ts e l g made h =
    let split = taken_last vs m count l in
    node_by ns xs n (nodes.Call f count) new (k ∷ reverse ws) ts e
    (kept_step ns xs (nodes.Call f count) old new (reverse vs) (reverse ws) k ts
    (λ S fit js i. (
      given_sorts S xs js f (sorts_of_classes js (drop m vs)),
      made S fit js i,
      (let one : Class → Option Sort = λ c. Some (sort_of_class js c) in
          let E : Sorting = given_sorts S xs js in
          let p : reverse (take count (sorts_of_classes js (reverse vs))) ≡ sorts_of_classes js (drop m vs) = ap (λ l. reverse l) (take_map one count (reverse vs)) ∙ reverse_map one (take count (reverse vs)) ∙ ap (sorts_of_classes js) split.0 in
          let q : drop count (sorts_of_classes js (reverse vs)) ≡ sorts_of_classes js (reverse ws) = drop_map one count (reverse vs) ∙ ap (sorts_of_classes js) (split.1 ∙ ap (λ l. reverse l) (sym g)) in
          ap (λ w. E f w ∷ drop count (sorts_of_classes js (reverse vs))) p ∙ ap (λ w. E f (sorts_of_classes js (drop m vs)) ∷ w) q),
    )) h)

-- the whole

pub kept_first : (ns : List BoundName) (xs : List Word) (c : Classes) → ((js : List Sort) → length js ≡ length xs → Agree c js) → Kept ns xs c [] []
kept_first ns xs c a S f js l = inl (a js l, refl)

given_applied : (S : Sorting) (xs : List Word) (t : Term) (js : List Sort) → length js ≡ length xs → applied_sort S xs t (map Some js) ≡ sort (given_sorts S xs js) t
given_applied S [] t [] l = refl
given_applied S [] t (j ∷ js) l = absurd (omega (arith, l))
given_applied S (x ∷ xs) t [] l = absurd (omega (arith, l))
given_applied S (x ∷ xs) t (j ∷ js) l = given_applied (with_sort S x (just_sort (Some j))) xs t js (omega (arith, l))

wrong_applied : (S : Sorting) (xs : List Word) (t : Term) (js : List Sort) → (length js ≡ length xs → ⊥) → applied_sort S xs t (map Some js) ≡ None
wrong_applied S [] t [] l = absurd (l refl)
wrong_applied S [] t (j ∷ js) l = refl
wrong_applied S (x ∷ xs) t [] l = refl
wrong_applied S (x ∷ xs) t (j ∷ js) l = wrong_applied (with_sort S x (just_sort (Some j))) xs t js (λ e. l (ap suc e))

none_applied : (S : Sorting) (xs : List Word) (t : Term) (ks : List (Option Sort)) → all_sorts ks ≡ None → applied_sort S xs t ks ≡ None
none_applied S [] t [] e = absurd (let f : ◌≡◌ {A = Option (List Sort)} (Some []) None = e in cc)
none_applied S [] t (k ∷ ks) e = refl
none_applied S (x ∷ xs) t [] e = refl
none_applied S (x ∷ xs) t (None ∷ ks) e = refl
none_applied S (x ∷ xs) t (Some k ∷ ks) e = none_applied (with_sort S x (just_sort (Some k))) xs t ks (by (all_sorts ks) e)
  where
    by : (o : Option (List Sort)) → option_map (λ js. k ∷ js) o ≡ None → o ≡ None
    by None f = refl
    by (Some js) f = absurd (let g : ◌≡◌ {A = Option (List Sort)} (Some (k ∷ js)) None = f in cc)

all_are : (ks : List (Option Sort)) (js : List Sort) → all_sorts ks ≡ Some js → ks ≡ map Some js
all_are [] js e = (let f : [] ≡ js = cc in ap (λ l. map Some l) f)
all_are (None ∷ ks) js e = absurd (let f : ◌≡◌ {A = Option (List Sort)} None (Some js) = e in cc)
all_are (Some k ∷ ks) js e = by (all_sorts ks) refl e (all_are ks)
  where
    by : (o : Option (List Sort)) → all_sorts ks ≡ o → option_map (λ l. k ∷ l) o ≡ Some js → ((l : List Sort) → all_sorts ks ≡ Some l → ks ≡ map Some l) → Some k ∷ ks ≡ map Some js
    by None f g rest = absurd (let x : ◌≡◌ {A = Option (List Sort)} None (Some js) = g in cc)
    by (Some l) f g rest = ap (λ x. Some k ∷ x) (rest l f) ∙ (let x : k ∷ l ≡ js = cc in ap (λ y. map Some y) x)

one_sort : (c : Classes) (js : List Sort) (cs : List Class) (k : Option Sort) (r : Class) → r ≡ latest (Known Set) cs → Stand c js cs (k ∷ []) → (Agree c js × (k ≡ Some (sort_of_class js r))) ⊎ ((Agree c js → ⊥) × (k ≡ None))
one_sort c js cs None r e (inr h) = inr (h.0, refl)
one_sort c js cs (Some k) r e (inr h) = absurd h.1
one_sort c js [] k r e (inl h) = (let f = h.1 in cc)
one_sort c js (d ∷ cs) k r e (inl h) = inl (h.0, (let f = h.1 in let g : k ≡ Some (sort_of_class js d) = cc in g ∙ ap (λ x. Some (sort_of_class js x)) (sym e)))

scheme_at : (s : Scheme) (js : List Sort) (n : ℕ) (k : Option Sort) → length s.classes.items.items ≡ n → length js ≡ n → (Agree s.classes js × (k ≡ Some (sort_of_class js s.result))) ⊎ ((Agree s.classes js → ⊥) × (k ≡ None)) → by_sorts s (Some js) ≡ k
scheme_at s js n k l m (inl h) = ap (λ b. cond b (Some (sort_of_class js s.result)) None) (and_true s.classes.possible (agree js s.classes.items.items js) h.0.0 (each_agree js s.classes.items.items js (l ∙ sym m) (λ i x. h.0.1 i))) ∙ sym h.1
scheme_at s js n k l m (inr h) = by (s.classes.possible && agree js s.classes.items.items js) refl
  where
    beyond : (js : List Sort) (cs : List Class) (all : List Sort) (i : ℕ) → length cs ≡ length js → length js ≤ i → get_or js i Set ≡ sort_of_class all (get_or cs i (Known Set))
    beyond [] [] all i l m = refl
    beyond [] (c ∷ cs) all i l m = absurd (omega (arith, l))
    beyond (j ∷ js) [] all i l m = absurd (omega (arith, l))
    beyond (j ∷ js) (c ∷ cs) all zero l m = absurd (omega (arith, m))
    beyond (j ∷ js) (c ∷ cs) all (suc i) l m = beyond js cs all i (omega (arith, l)) (omega (arith, m))

    at : agree js s.classes.items.items js ≡ true → (i : ℕ) → get_or js i Set ≡ sort_of_class js (get_or s.classes.items.items i (Known Set))
    at e i = elim (cases_lt i (length js)) [
      | inl a ↦ agree_each js s.classes.items.items js e i a
      | inr a ↦ beyond js s.classes.items.items js i (l ∙ sym m) a
    ]

    by : (b : Bool) → (s.classes.possible && agree js s.classes.items.items js) ≡ b → cond (s.classes.possible && agree js s.classes.items.items js) (Some (sort_of_class js s.result)) None ≡ k
    by true e = (let t = both_true s.classes.possible (agree js s.classes.items.items js) e in absurd (h.0 (t.0, at t.1)))
    by false e = ap (λ b. cond b (Some (sort_of_class js s.result)) None) e ∙ sym h.1

pub kept_last : (ns : List BoundName) (xs : List Word) (ms : List Node) (c : Classes) (cs : List Class) (s : Scheme) (ts : List Term) → postorder (term_in ms) ≡ ms → s.classes ≡ c → s.result ≡ latest (Known Set) cs → length c.items.items ≡ length xs → ts ≡ left_by_all [] ms →
    Kept ns xs c cs ts → (S : Sorting) → FitSorts ns S → (ks : List (Option Sort)) → by_scheme s ks ≡ applied_sort S xs (term_in ms) ks
kept_last ns xs ms c cs s ts w e r l g h S f ks = by (all_sorts ks) refl
  where
    sorted : (js : List Sort) → length js ≡ length xs → by_sorts s (Some js) ≡ sort (given_sorts S xs js) (term_in ms)
    sorted js m =
        let P : List (Option Sort) → Type 0 = Stand c js cs in
        let stand = subst P (ap (map (sort (given_sorts S xs js))) (g ∙ left_alone ms w)) (h S f js m) in
        let Q : Classes → Type 0 = λ d. (Agree d js × (sort (given_sorts S xs js) (term_in ms) ≡ Some (sort_of_class js s.result))) ⊎ ((Agree d js → ⊥) × (sort (given_sorts S xs js) (term_in ms) ≡ None)) in
        scheme_at s js (length xs) (sort (given_sorts S xs js) (term_in ms)) (ap (λ d. length d.items.items) e ∙ l) m
        (subst Q (sym e) (one_sort c js cs (sort (given_sorts S xs js) (term_in ms)) s.result r stand))

    apart : (js : List Sort) → (length js ≡ length xs → ⊥) → by_sorts s (Some js) ≡ None
    apart js m = go (agree js s.classes.items.items js) refl
      where
        none : (p : Bool) (k : Option Sort) → cond (p && false) k None ≡ None
        none true k = refl
        none false k = refl

        go : (b : Bool) → agree js s.classes.items.items js ≡ b → cond (s.classes.possible && agree js s.classes.items.items js) (Some (sort_of_class js s.result)) None ≡ None
        go true x = absurd (m (sym (agree_long js s.classes.items.items js x) ∙ ap (λ d. length d.items.items) e ∙ l))
        go false x = ap (λ b. cond (s.classes.possible && b) (Some (sort_of_class js s.result)) None) x ∙ none s.classes.possible (Some (sort_of_class js s.result))

    there : (js : List Sort) → by_sorts s (Some js) ≡ applied_sort S xs (term_in ms) (map Some js)
    there js = elim (cases_lt (length js) (length xs)) [
      | inl x ↦ apart js (λ y. absurd (omega (arith, x, y))) ∙ sym (wrong_applied S xs (term_in ms) js (λ y. absurd (omega (arith, x, y))))
      | inr x ↦ elim (cases_lt (length xs) (length js)) [
        | inl y ↦ apart js (λ z. absurd (omega (arith, z, y))) ∙ sym (wrong_applied S xs (term_in ms) js (λ z. absurd (omega (arith, z, y))))
        | inr y ↦ (let z : length js ≡ length xs = omega (arith, x, y) in sorted js z ∙ sym (given_applied S xs (term_in ms) js z))
      ]
    ]

    by : (o : Option (List Sort)) → all_sorts ks ≡ o → by_scheme s ks ≡ applied_sort S xs (term_in ms) ks
    by None x = ap (by_sorts s) x ∙ sym (none_applied S xs (term_in ms) ks x)
    by (Some js) x = ap (by_sorts s) x ∙ there js ∙ ap (applied_sort S xs (term_in ms)) (sym (all_are ks js x))

pub walk_next : (ms ns : List Node) (i : ℕ) (n : Node) (ts all : List Term) → ms ≡ ns → i < length ms → n ≡ get_or ms i n → left_by_all ts (drop i ns) ≡ all → left_by_all (left_by n ts) (drop (i + 1) ns) ≡ all
walk_next ms ns i n ts all d l e h =
    let P : List Node → Type 0 = λ us. left_by_all (left_by n ts) (drop (i + 1) us) ≡ all in
    let Q : List Node → Type 0 = λ us. left_by_all ts (drop i us) ≡ all in
    subst P d (ap (λ a. left_by_all (left_by a ts) (drop (i + 1) ms)) e ∙ ap (left_by_all ts) (sym (drop_more ms i n l)) ∙ subst Q (sym d) h)

pub walk_end : (ms ns : List Node) (i : ℕ) (ts all : List Term) → ms ≡ ns → length ms ≤ i → left_by_all ts (drop i ns) ≡ all → ts ≡ all
walk_end ms ns i ts all d l h = (let P : List Node → Type 0 = λ us. left_by_all ts (drop i us) ≡ all in ap (left_by_all ts) (sym (drop_all i ms l)) ∙ subst P (sym d) h)

pub names_by : (ns : List BoundName) (xs : List Word) (f : Word) (vs ws : List Class) (m : ℕ) (old new : Classes) (k : Class) → vs ≡ ws → Names ns xs f (take (length vs - m) (drop m vs)) old new k → Names ns xs f (drop m ws) old new k
names_by ns xs f vs ws m old new k e h = (let P : List Class → Type 0 = λ cs. Names ns xs f cs old new k in subst P (take_rest vs m ∙ ap (drop m) e) h)
