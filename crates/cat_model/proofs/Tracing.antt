-- What stands in terms, and the traces that tell it.
use Rattle.std.proofs.Common.{◌≡◌, ◌<◌, ◌≤◌, ◌-◌, ◌⊎◌, ◌↔◌, ◌∙◌, arith, ℕ, zero, suc, length, take, drop, get_or, List, [], ◌∷◌, ◌++◌, map, Bool, true, false, ◌||◌, cond, inl, inr, Option, None, Some, Vec, Global, ap, sym, subst, refl}
use Rattle.std.specs.Prelude.{option_map, reverse}
use Rattle.std.specs.List.{Contains}
use Rattle.std.specs.Option.{option_or}
use Rattle.std.specs.Str.{bytes_eq}
use Rattle.std.proofs.lemmas.Bool.{cases_lt}
use Rattle.std.proofs.lemmas.List.{take_rest, map-append, reverse-append, length-map}
use Rattle.std.proofs.lemmas.List.Elements.{Contains-append_left, Contains-append_right, Contains-append_cases}
use Rattle.cat_tree.specs.declared.node.Infix.{Infix}
use Rattle.cat_tree.specs.declared.node.Infix.TheVariants.{Union, Sequence, Difference, Intersection, Product}
use Rattle.cat_tree.specs.declared.node.Leaf.{Leaf}
use Rattle.cat_tree.specs.declared.node.Leaf.TheVariants as leaves
use Rattle.cat_tree.specs.declared.node.Node.{Node}
use Rattle.cat_tree.specs.declared.node.Node.TheVariants as nodes
use Rattle.cat_tree.specs.declared.node.Sign.{Sign}
use Rattle.cat_tree.specs.declared.node.Sign.TheVariants.{Complement, Plus, Star, Optional, Inverse, Domain, Range, Identity}
use Rattle.cat_tree.specs.Postorder.{left_alone}
use Rattle.cat_tree.specs.Terms.{Word, Term, name, universe, call, leaf_of, applied, joined, terms_of, latest, earlier, left_by, left_by_all, postorder, term_in}
use Rattle.cat_model.specs.Classing.{place_in}
use Rattle.cat_model.specs.Denials.{Mark, Marking, denied_mark, deny, marks, all_marks, with_mark, applied_marks}
use Rattle.cat_model.specs.Lookups.{held_in}
use Rattle.cat_model.specs.Marked.{mark_if, Comes, IsMarked, IsMarkedBy, FitMarks, given_marks, Traced, trace_if, Composes, AreTraced, traces_applied, traces_joined, IsOuter, IsNamedAt, IsNamed}
use Rattle.cat_model.specs.declared.denials.Marked.{Marked}
use Rattle.cat_model.specs.declared.denials.Trace.{Trace}
use Rattle.cat_model.specs.declared.scope.BoundName.{BoundName}
use Rattle.cat_model.specs.declared.scope.Held.{Held}
use Rattle.cat_model.specs.declared.scope.Held.TheVariants.{Value, Function}
use Rattle.cat_model.specs.declared.scope.Summary.{Summary}
use Rattle.cat_model.proofs.Paired.{IsPaired, for_length, for_latest, for_call}
use Rattle.cat_model.proofs.Members.{nothing_in, contains_first, contains_one, mapped, map_member}

-- traces

pub comes_none : (ms : List (List Mark)) (m : Mark) → Comes [] ms m → ⊥
comes_none ms m h = nothing_in h.trace h.among

comes_same : (ts us : List Trace) (ms : List (List Mark)) (m : Mark) → ((q : Trace) → Contains ts q → Contains us q) → Comes ts ms m → Comes us ms m
comes_same ts us ms m f h = record { trace = h.trace; among = f h.trace h.among; inner = h.inner; there = h.there; is = h.is }

comes_one : (i : ℕ) (ms : List (List Mark)) (m : Mark) → Contains (get_or ms i []) m ↔ Comes (record { place = i; denied = false } ∷ []) ms m
comes_one i ms m = (
  λ h. record { trace = t; among = contains_first t [] t refl; inner = m; there = h; is = refl },
  λ h. (let e : t ≡ h.trace = contains_one t h.trace h.among in
      let P : Trace → Type 0 = λ u. Contains (get_or ms u.place []) h.inner in
      let Q : Mark → Type 0 = λ n. Contains (get_or ms i []) n in
      subst Q (sym (h.is ∙ ap (λ u. mark_if u.denied h.inner) (sym e))) (subst P (sym e) h.there)),
)
  where
    t : Trace
    t = record { place = i; denied = false }

comes_both : (ts us : List Trace) (ms : List (List Mark)) (m : Mark) → Comes (ts ++ us) ms m ↔ (Comes ts ms m ⊎ Comes us ms m)
comes_both ts us ms m = (λ h. to h (Contains-append_cases ts us h.trace h.among), λ h. back h)
  where
    to : (h : Comes (ts ++ us) ms m) → Contains ts h.trace ⊎ Contains us h.trace → Comes ts ms m ⊎ Comes us ms m
    to h (inl a) = inl (record { trace = h.trace; among = a; inner = h.inner; there = h.there; is = h.is })
    to h (inr a) = inr (record { trace = h.trace; among = a; inner = h.inner; there = h.there; is = h.is })

    back : Comes ts ms m ⊎ Comes us ms m → Comes (ts ++ us) ms m
    back (inl h) = comes_same ts (ts ++ us) ms m (λ q c. Contains-append_left ts us q c) h
    back (inr h) = comes_same us (ts ++ us) ms m (λ q c. Contains-append_right ts us q c) h

or_true : (d e : Bool) (m : Mark) → mark_if (d || e) m ≡ mark_if d (mark_if e m)
or_true true e m = refl
or_true false e m = refl

comes_denied : (ts : List Trace) (ms : List (List Mark)) (L : List Mark) → ((m : Mark) → Contains L m ↔ Comes ts ms m) → (m : Mark) → Contains (deny L) m ↔ Comes (map (trace_if true) ts) ms m
comes_denied ts ms L f m = (λ h. to (map_member denied_mark L m h), λ h. back h (map_member (trace_if true) ts h.trace h.among))
  where
    to : (x : Mark) × Contains L x × (m ≡ denied_mark x) → Comes (map (trace_if true) ts) ms m
    to a = (let h = (f a.0).0 a.1 in record { trace = trace_if true h.trace; among = mapped (trace_if true) ts h.trace h.among; inner = h.inner; there = h.there; is = a.2 ∙ ap denied_mark h.is })

    back : (h : Comes (map (trace_if true) ts) ms m) → (t : Trace) × Contains ts t × (h.trace ≡ trace_if true t) → Contains (deny L) m
    back h a =
        let there : Contains (get_or ms (a.0).place []) h.inner = (let P : Trace → Type 0 = λ u. Contains (get_or ms u.place []) h.inner in subst P a.2 h.there) in
        let within : Contains L (mark_if (a.0).denied h.inner) = (f (mark_if (a.0).denied h.inner)).1 (record { trace = a.0; among = a.1; inner = h.inner; there = there; is = refl }) in
        let is : m ≡ denied_mark (mark_if (a.0).denied h.inner) = h.is ∙ ap (λ u. mark_if u.denied h.inner) a.2 in
        (let P : Mark → Type 0 = λ n. Contains (deny L) n in subst P (sym is) (mapped denied_mark L (mark_if (a.0).denied h.inner) within))

contains_both : (L K : List Mark) (P Q R : Type 0) (m : Mark) → (Contains L m ↔ P) → (Contains K m ↔ Q) → (R ↔ (P ⊎ Q)) → Contains (L ++ K) m ↔ R
contains_both L K P Q R m f g r = (λ h. to (Contains-append_cases L K m h), λ h. back (r.0 h))
  where
    to : Contains L m ⊎ Contains K m → R
    to (inl h) = r.1 (inl (f.0 h))
    to (inr h) = r.1 (inr (g.0 h))

    back : P ⊎ Q → Contains (L ++ K) m
    back (inl h) = Contains-append_left L K m (f.1 h)
    back (inr h) = Contains-append_right L K m (g.1 h)

-- signs and operators

pub traced_sign : (ns : List BoundName) (xs : List Word) (u : Sign) (a : Term) (ts : List Trace) → Traced ns xs ts a → Traced ns xs (traces_applied u ts) (applied u a)
traced_sign ns xs Complement a ts h = λ M f ms l m. comes_denied ts ms (marks (given_marks M xs ms) a) (h M f ms l) m
traced_sign ns xs Plus a ts h = h
traced_sign ns xs Star a ts h = h
traced_sign ns xs Optional a ts h = h
traced_sign ns xs Inverse a ts h = h
traced_sign ns xs Domain a ts h = h
traced_sign ns xs Range a ts h = h
traced_sign ns xs Identity a ts h = h

traced_both : (ns : List BoundName) (xs : List Word) (a b : Term) (ts us : List Trace) → Traced ns xs ts a → Traced ns xs us b →
    (M : Marking) → FitMarks ns M → (ms : List (List Mark)) → length xs ≤ length ms → (m : Mark) → Contains (marks (given_marks M xs ms) a ++ marks (given_marks M xs ms) b) m ↔ Comes (ts ++ us) ms m
traced_both ns xs a b ts us h k M f ms l m =
    contains_both (marks (given_marks M xs ms) a) (marks (given_marks M xs ms) b) (Comes ts ms m) (Comes us ms m) (Comes (ts ++ us) ms m) m (h M f ms l m) (k M f ms l m) (comes_both ts us ms m)

pub traced_infix : (ns : List BoundName) (xs : List Word) (o : Infix) (a b : Term) (ts us : List Trace) → Traced ns xs ts a → Traced ns xs us b → Traced ns xs (traces_joined o ts us) (joined o a b)
traced_infix ns xs Union a b ts us h k = traced_both ns xs a b ts us h k
traced_infix ns xs Sequence a b ts us h k = traced_both ns xs a b ts us h k
traced_infix ns xs Intersection a b ts us h k = traced_both ns xs a b ts us h k
traced_infix ns xs Product a b ts us h k = traced_both ns xs a b ts us h k
traced_infix ns xs Difference a b ts us h k = λ M f ms l m.
    contains_both (marks (given_marks M xs ms) a) (deny (marks (given_marks M xs ms) b)) (Comes ts ms m) (Comes (map (trace_if true) us) ms m) (Comes (ts ++ map (trace_if true) us) ms m) m
    (h M f ms l m) (comes_denied us ms (marks (given_marks M xs ms) b) (k M f ms l) m) (comes_both ts (map (trace_if true) us) ms m)

-- names

abbrev marks_at : Option ℕ → List (List Mark) → List Mark → List Mark
marks_at (Some i) ms o = get_or ms i []
marks_at None ms o = o

given_is : (M : Marking) (xs : List Word) (ms : List (List Mark)) (x : Word) (ls : List (List Mark)) → length xs ≤ length ms → given_marks M xs ms x ls ≡ marks_at (place_in xs x) ms (M x ls)
given_is M [] ms x ls e = refl
given_is M (y ∷ xs) [] x ls e = absurd (omega (arith, e))
given_is M (y ∷ xs) (m ∷ ms) x ls e = given_is (with_mark M y (λ _. m)) xs ms x ls (omega (arith, e)) ∙ by (place_in xs x) (bytes_eq y x)
  where
    by : (o : Option ℕ) (b : Bool) → marks_at o ms (cond b m (M x ls)) ≡ marks_at (option_or (option_map suc o) (cond b (Some 0) None)) (m ∷ ms) (M x ls)
    by (Some i) b = refl
    by None true = refl
    by None false = refl

-- an argument's marks, by its traces, or none of both
at_traced : (ns : List BoundName) (xs : List Word) (vs : List (List Trace)) (us : List Term) → AreTraced ns xs vs us → (M : Marking) → FitMarks ns M → (ms : List (List Mark)) → length xs ≤ length ms → (i : ℕ) (m : Mark) →
    Contains (get_or (map (marks (given_marks M xs ms)) us) i []) m ↔ Comes (get_or vs i []) ms m
at_traced ns xs [] [] h M f ms l i m = (λ c. absurd (nothing_in m c), λ c. absurd (comes_none ms m c))
at_traced ns xs [] (u ∷ us) h M f ms l i m = absurd h
at_traced ns xs (v ∷ vs) [] h M f ms l i m = absurd h
at_traced ns xs (v ∷ vs) (u ∷ us) h M f ms l zero m = h.0 M f ms l m
at_traced ns xs (v ∷ vs) (u ∷ us) h M f ms l (suc i) m = at_traced ns xs vs us h.1 M f ms l i m

paired_traced : (ns : List BoundName) (xs : List Word) → IsPaired (Traced ns xs) (AreTraced ns xs)
paired_traced ns xs = record { ends = tt; too_long = λ k ks h. h; too_short = λ t ts h. h; both = λ k ks t ts. (λ h. h, λ h. h) }

body_traced : (s : Marked) (vs : List (List Trace)) (ls ms : List (List Mark)) (ts : List Trace) (L : List Mark) → length vs ≡ length ls → ((i : ℕ) (m : Mark) → Contains (get_or ls i []) m ↔ Comes (get_or vs i []) ms m) →
    ((m : Mark) → Contains L m ↔ ((s.count ≤ length ls) × Comes s.traces.items ls m)) → ((q : Trace) → Contains ts q ↔ ((s.count ≤ length vs) × Composes s.traces.items vs q)) → (m : Mark) → Contains L m ↔ Comes ts ms m
body_traced s vs ls ms ts L e at f g m = (λ h. to ((f m).0 h), λ h. (f m).1 (back h))
  where
    to : (s.count ≤ length ls) × Comes s.traces.items ls m → Comes ts ms m
    to h =
        let c = h.1 in
        let d = (at c.trace.place c.inner).0 c.there in
        let n = h.0 in
        record {
          trace = trace_if c.trace.denied d.trace;
          among = (g (trace_if c.trace.denied d.trace)).1 (omega (arith, n, e), record { trace = c.trace; among = c.among; inner = d.trace; there = d.among; is = refl });
          inner = d.inner;
          there = d.there;
          is = c.is ∙ ap (mark_if c.trace.denied) d.is ∙ sym (or_true c.trace.denied d.trace.denied d.inner);
        }

    back : Comes ts ms m → (s.count ≤ length ls) × Comes s.traces.items ls m
    back h =
        let c = (g h.trace).0 h.among in
        let n = c.0 in
        let d = c.1 in
        let there : Contains (get_or ms d.inner.place []) h.inner = (let P : Trace → Type 0 = λ u. Contains (get_or ms u.place []) h.inner in subst P d.is h.there) in (
          omega (arith, n, e),
          record {
            trace = d.trace;
            among = d.among;
            inner = mark_if d.inner.denied h.inner;
            there = (at d.trace.place (mark_if d.inner.denied h.inner)).1 (record { trace = d.inner; among = d.there; inner = h.inner; there = there; is = refl });
            is = h.is ∙ ap (λ u. mark_if u.denied h.inner) d.is ∙ or_true d.trace.denied d.inner.denied h.inner;
          },
        )

none_traced : (L : List Mark) (ts : List Trace) (ms : List (List Mark)) (m : Mark) → L ≡ [] → ts ≡ [] → Contains L m ↔ Comes ts ms m
none_traced L ts ms m d e = (
  λ c. absurd (nothing_in m (let P : List Mark → Type 0 = λ k. Contains k m in subst P d c)),
  λ c. absurd (comes_none ms m (let P : List Trace → Type 0 = λ k. Comes k ms m in subst P e c)),
)

outer_traced : (h : Option Held) (F : List (List Mark) → List Mark) (vs : List (List Trace)) (ls ms : List (List Mark)) (ts : List Trace) → IsMarkedBy h F → IsOuter h vs ts → length vs ≡ length ls → ((i : ℕ) (m : Mark) → Contains (get_or ls i []) m ↔ Comes (get_or vs i []) ms m) →
    (m : Mark) → Contains (F ls) m ↔ Comes ts ms m
outer_traced None F vs ls ms ts f e l at m = none_traced (F ls) ts ms m (f ls) e
outer_traced (Some (Value k)) F vs ls ms ts f e l at m = none_traced (F ls) ts ms m (f ls) e
outer_traced (Some (Function s)) F vs ls ms ts f e l at m = body_traced s.marked vs ls ms ts (F ls) l at (f ls) e m

named_traced : (ns : List BoundName) (xs : List Word) (x : Word) (vs : List (List Trace)) (us : List Term) (ts : List Trace) (o : Option ℕ) → place_in xs x ≡ o → AreTraced ns xs vs us → IsNamedAt o (held_in ns x) vs ts →
    (M : Marking) → FitMarks ns M → (ms : List (List Mark)) → length xs ≤ length ms → (m : Mark) → Contains (given_marks M xs ms x (map (marks (given_marks M xs ms)) us)) m ↔ Comes ts ms m
named_traced ns xs x vs us ts o p h n M f ms l m =
    let ls : List (List Mark) = map (marks (given_marks M xs ms)) us in
    let P : List Mark → Type 0 = λ L. Contains L m ↔ Comes ts ms m in
    subst P (sym (given_is M xs ms x ls l ∙ ap (λ q. marks_at q ms (M x ls)) p)) (by o n)
  where
    long : length vs ≡ length (map (marks (given_marks M xs ms)) us)
    long = for_length (paired_traced ns xs) vs us h ∙ sym (length-map us (marks (given_marks M xs ms)))

    by : (o : Option ℕ) → IsNamedAt o (held_in ns x) vs ts → Contains (marks_at o ms (M x (map (marks (given_marks M xs ms)) us))) m ↔ Comes ts ms m
    by (Some i) e = (let Q : List Trace → Type 0 = λ k. Contains (get_or ms i []) m ↔ Comes k ms m in subst Q (sym e) (comes_one i ms m))
    by None e = outer_traced (held_in ns x) (M x) vs (map (marks (given_marks M xs ms)) us) ms ts (f x) e long (at_traced ns xs vs us h M f ms l) m

pub traced_name : (ns : List BoundName) (xs : List Word) (x : Word) (ts : List Trace) → IsNamed ns xs x [] ts → Traced ns xs ts (name x)
traced_name ns xs x ts n = named_traced ns xs x [] [] ts (place_in xs x) refl tt n

marks_map : (M : Marking) (us : List Term) → all_marks M (terms_of us) ≡ map (marks M) us
marks_map M [] = refl
marks_map M (u ∷ us) = ap (λ l. marks M u ∷ l) (marks_map M us)

traced_call : (ns : List BoundName) (xs : List Word) (x : Word) (vs : List (List Trace)) (us : List Term) (ts : List Trace) → AreTraced ns xs vs us → IsNamed ns xs x vs ts → Traced ns xs ts (call x (terms_of us))
traced_call ns xs x vs us ts h n M f ms l m =
    let P : List (List Mark) → Type 0 = λ k. Contains (given_marks M xs ms x k) m ↔ Comes ts ms m in
    subst P (sym (marks_map (given_marks M xs ms) us)) (named_traced ns xs x vs us ts (place_in xs x) refl h n M f ms l m)

pub traced_nothing : (ns : List BoundName) (xs : List Word) (ts : List Trace) (t : Term) → ts ≡ [] → ((M : Marking) → marks M t ≡ []) → Traced ns xs ts t
traced_nothing ns xs ts t e d M f ms l m = (
  λ c. absurd (nothing_in m (let P : List Mark → Type 0 = λ k. Contains k m in subst P (d (given_marks M xs ms)) c)),
  λ c. absurd (comes_none ms m (let P : List Trace → Type 0 = λ k. Comes k ms m in subst P e c)),
)

-- nodes

traced_universe : (ns : List BoundName) (xs : List Word) → Traced ns xs [] universe
traced_universe ns xs = traced_nothing ns xs [] universe refl (λ M. refl)

node_by : (ns : List BoundName) (xs : List Word) (n m : Node) (vs : List (List Trace)) (ts : List Term) → n ≡ m → AreTraced ns xs vs (left_by m ts) → AreTraced ns xs vs (left_by n ts)
node_by ns xs n m vs ts e h = (let P : Node → Type 0 = λ a. AreTraced ns xs vs (left_by a ts) in subst P (sym e) h)

pub trace_leaves : (ns : List BoundName) (xs : List Word) (n : Node) (l : Leaf) (v : List Trace) (vs : List (List Trace)) (ts : List Term) → n ≡ nodes.Leaf l → Traced ns xs v (leaf_of l) → AreTraced ns xs vs ts → AreTraced ns xs (v ∷ vs) (left_by n ts)
trace_leaves ns xs n l v vs ts e t h = node_by ns xs n (nodes.Leaf l) (v ∷ vs) ts e (t, h)

pub trace_signs : (ns : List BoundName) (xs : List Word) (n : Node) (u : Sign) (v w : List Trace) (vs ws : List (List Trace)) (ts : List Term) → n ≡ nodes.Sign u → w ≡ latest [] vs → ws ≡ earlier vs → v ≡ traces_applied u w → AreTraced ns xs vs ts →
    AreTraced ns xs (v ∷ ws) (left_by n ts)
trace_signs ns xs n u v w vs ws ts e f g d h =
    let P : List Trace → Type 0 = λ a. Traced ns xs a (applied u (latest universe ts)) in
    let Q : List (List Trace) → Type 0 = λ a. AreTraced ns xs a (earlier ts) in
    let r = for_latest (paired_traced ns xs) [] universe vs ts (traced_universe ns xs) h in
    node_by ns xs n (nodes.Sign u) (v ∷ ws) ts e (subst P (sym (d ∙ ap (traces_applied u) f)) (traced_sign ns xs u (latest universe ts) (latest [] vs) r.0), subst Q (sym g) r.1)

pub trace_operators : (ns : List BoundName) (xs : List Word) (n : Node) (o : Infix) (v a b : List Trace) (vs ws us : List (List Trace)) (ts : List Term) → n ≡ nodes.Infix o → b ≡ latest [] vs → ws ≡ earlier vs → a ≡ latest [] ws → us ≡ earlier ws →
    v ≡ traces_joined o a b → AreTraced ns xs vs ts → AreTraced ns xs (v ∷ us) (left_by n ts)
trace_operators ns xs n o v a b vs ws us ts e f g x y d h =
    let r = for_latest (paired_traced ns xs) [] universe vs ts (traced_universe ns xs) h in
    let W : List (List Trace) → Type 0 = λ k. AreTraced ns xs k (earlier ts) in
    let s = for_latest (paired_traced ns xs) [] universe ws (earlier ts) (traced_universe ns xs) (subst W (sym g) r.1) in
    let B : List Trace → Type 0 = λ k. Traced ns xs k (latest universe ts) in
    let A : List Trace → Type 0 = λ k. Traced ns xs k (latest universe (earlier ts)) in
    let P : List Trace → Type 0 = λ k. Traced ns xs k (joined o (latest universe (earlier ts)) (latest universe ts)) in
    let Q : List (List Trace) → Type 0 = λ k. AreTraced ns xs k (earlier (earlier ts)) in
    node_by ns xs n (nodes.Infix o) (v ∷ us) ts e
    (subst P (sym d) (traced_infix ns xs o (latest universe (earlier ts)) (latest universe ts) a b (subst A (sym x) s.0) (subst B (sym f) r.0)), subst Q (sym y) s.1)

pub trace_calls : (ns : List BoundName) (xs : List Word) (n : Node) (f : Word) (count m : ℕ) (v : List Trace) (vs as' ws : List (List Trace)) (ts : List Term) → n ≡ nodes.Call f count → m ≡ length vs - count → as' ≡ drop m vs → ws ≡ take m vs →
    IsNamed ns xs f as' v → AreTraced ns xs (reverse vs) ts → AreTraced ns xs (v ∷ reverse ws) (left_by n ts)
trace_calls ns xs n f count m v vs as' ws ts e l a g made h =
    let r = for_call (paired_traced ns xs) vs m count ts l h in
    let P : List (List Trace) → Type 0 = λ k. AreTraced ns xs (reverse k) (drop count ts) in
    let Q : List (List Trace) → Type 0 = λ k. AreTraced ns xs k (reverse (take count ts)) in
    node_by ns xs n (nodes.Call f count) (v ∷ reverse ws) ts e (traced_call ns xs f as' (reverse (take count ts)) v (subst Q (sym a) r.0) made, subst P (sym g) r.1)

-- the whole

pub traced_whole : (ns : List BoundName) (xs : List Word) (ms : List Node) (vs : List (List Trace)) (v : List Trace) (ts : List Term) → postorder (term_in ms) ≡ ms → v ≡ latest [] vs → ts ≡ left_by_all [] ms → AreTraced ns xs vs ts → Traced ns xs v (term_in ms)
traced_whole ns xs ms vs v ts w e g h =
    let P : List Term → Type 0 = λ k. AreTraced ns xs vs k in
    let r = for_latest (paired_traced ns xs) [] universe vs (term_in ms ∷ []) (traced_universe ns xs) (subst P (g ∙ left_alone ms w) h) in
    let Q : List Trace → Type 0 = λ k. Traced ns xs k (term_in ms) in
    subst Q (sym e) r.0

-- functions

enough : (M : Marking) (xs : List Word) (t : Term) (ms : List (List Mark)) → length xs ≤ length ms → applied_marks M xs t ms ≡ marks (given_marks M xs ms) t
enough M [] t ms l = refl
enough M (x ∷ xs) t [] l = absurd (omega (arith, l))
enough M (x ∷ xs) t (m ∷ ms) l = enough (with_mark M x (λ _. m)) xs t ms (omega (arith, l))

too_few : (M : Marking) (xs : List Word) (t : Term) (ms : List (List Mark)) → length ms < length xs → applied_marks M xs t ms ≡ []
too_few M [] t ms l = absurd (omega (arith, l))
too_few M (x ∷ xs) t [] l = refl
too_few M (x ∷ xs) t (m ∷ ms) l = too_few (with_mark M x (λ _. m)) xs t ms (omega (arith, l))

pub marked_function : (ns : List BoundName) (xs : List Word) (t : Term) (ts : List Trace) (s : Marked) → s.count ≡ length xs → ((q : Trace) → Contains s.traces.items q ↔ Contains ts q) → Traced ns xs ts t → (M : Marking) → FitMarks ns M → IsMarked s (applied_marks M xs t)
marked_function ns xs t ts s e f h M fit ms m = elim (cases_lt (length ms) (length xs)) [
  | inl l ↦ (
    λ c. absurd (nothing_in m (let P : List Mark → Type 0 = λ k. Contains k m in subst P (too_few M xs t ms l) c)),
    λ c. absurd (let n = c.0 in omega (arith, n, e, l)),
  )
  | inr l ↦ (let P : List Mark → Type 0 = λ k. Contains k m ↔ ((s.count ≤ length ms) × Comes s.traces.items ms m) in
      let g = h M fit ms (omega (arith, l)) m in
      subst P (sym (enough M xs t ms (omega (arith, l)))) (
        λ c. (omega (arith, l, e), comes_same ts s.traces.items ms m (λ q d. (f q).1 d) (g.0 c)),
        λ c. g.1 (comes_same s.traces.items ts ms m (λ q d. (f q).0 d) c.1),
      ))
]

pub outer_function : (h : Option Held) (s : Summary) (vs : List (List Trace)) (n : ℕ) (ts : List Trace) → h ≡ Some (Function s) → n ≡ length vs → ((q : Trace) → Contains ts q ↔ ((s.marked.count ≤ n) × Composes s.marked.traces.items vs q)) → IsOuter h vs ts
outer_function h s vs n ts e l f =
    let P : Option Held → Type 0 = λ o. IsOuter o vs ts in
    subst P (sym e) (λ q. (λ c. (let d = (f q).0 c in let k = d.0 in (omega (arith, k, l), d.1)), λ d. (let k = d.0 in (f q).1 (omega (arith, k, l), d.1))))

pub leaf_by : (ns : List BoundName) (xs : List Word) (l : Leaf) (x : Word) (ts : List Trace) → l ≡ leaves.Name x → Traced ns xs ts (name x) → Traced ns xs ts (leaf_of l)
leaf_by ns xs l x ts e h = (let P : Leaf → Type 0 = λ k. Traced ns xs ts (leaf_of k) in subst P (sym e) h)

-- vectors of lists

pub pushed_items : (xs ys : List (Vec Trace Global)) (x : Vec Trace Global) → ys ≡ xs ++ x ∷ [] → reverse (map (λ a. a.items) ys) ≡ x.items ∷ reverse (map (λ a. a.items) xs)
pushed_items xs ys x e = ap (λ l. reverse (map (λ a. a.items) l)) e ∙ ap (λ l. reverse l) (map-append (λ a. a.items) xs (x ∷ [])) ∙ reverse-append (map (λ a. a.items) xs) (x.items ∷ [])

pub call_items : (ns : List BoundName) (xs : List Word) (n : Node) (f : Word) (count m : ℕ) (v : List Trace) (vs as' ws : List (Vec Trace Global)) (ts : List Term) → n ≡ nodes.Call f count → m ≡ length vs - count → as' ≡ drop m vs → ws ≡ take m vs →
    IsNamed ns xs f (map (λ a. a.items) as') v → AreTraced ns xs (reverse (map (λ a. a.items) vs)) ts → AreTraced ns xs (v ∷ reverse (map (λ a. a.items) ws)) (left_by n ts)
call_items ns xs n f count m v vs as' ws ts e l a g made h =
    let item : Vec Trace Global → List Trace = λ a. a.items in
    trace_calls ns xs n f count m v (map item vs) (map item as') (map item ws) ts e (l ∙ ap (λ k. k - count) (sym (length-map vs item))) (ap (map item) a ∙ sym (drop_items m vs)) (ap (map item) g ∙ sym (take_items m vs)) made h
  where
    take_items : (n : ℕ) (xs : List (Vec Trace Global)) → take n (map (λ a. a.items) xs) ≡ map (λ a. a.items) (take n xs)
    take_items zero xs = refl
    take_items (suc n) [] = refl
    take_items (suc n) (x ∷ xs) = ap (λ l. x.items ∷ l) (take_items n xs)

    drop_items : (n : ℕ) (xs : List (Vec Trace Global)) → drop n (map (λ a. a.items) xs) ≡ map (λ a. a.items) (drop n xs)
    drop_items zero xs = refl
    drop_items (suc n) [] = refl
    drop_items (suc n) (x ∷ xs) = drop_items n xs

pub rest_items : (vs ws : List (Vec Trace Global)) (m : ℕ) → vs ≡ ws → take (length vs - m) (drop m vs) ≡ drop m ws
rest_items vs ws m e = take_rest vs m ∙ ap (drop m) e
