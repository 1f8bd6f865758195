-- What is found of no execution is right, and so is the sum of what is found of some executions and of others.
use Rattle.std.proofs.Common.{◌≡◌, ◌⊎◌, ℕ, ◌+◌, List, [], ◌∷◌, ◌++◌, Bool, true, false, cond, not, count_by, append-nil, refl, sym, ap, ◌∙◌, subst, inl, inr, arith}
use Rattle.std.specs.Prelude.{Result, Ok, Err, OnOk, ◌↔◌}
use Rattle.cat_eval.specs.Judging.{Raised}
use Rattle.cat_tree.specs.Tree.{Clause}
use Rattle.conditions.specs.Conditions.{Formula}
use Rattle.conditions.specs.States.{AreObserved}
use Rattle.conditions.specs.declared.condition.Kind.{Kind}
use Rattle.conditions.specs.declared.place.Place.{Place}
use Rattle.conditions.proofs.ObservedPlaces.{same_observed}
use Rattle.events.specs.Executions.{GraphValue}
use Rattle.listings.specs.Lists.{IsIn, Lists}
use Rattle.listings.proofs.Listings.{in_append, in_left, in_right}
use Rattle.litmus_tree.specs.Tree.{Litmus, Word}
use Rattle.slices.specs.Finals.{obs, has}
use Rattle.slices.specs.Findings.{FindingValue}
use Rattle.slices.specs.Sums.{AddsUp, IsSum, IsUnion, nothing_of, of_flags}
use Rattle.slices.specs.Verdicts.{AreSorted, IsRaised, Tells}
use Rattle.slices.proofs.Members.{count-append, count-cons}
use Rattle.slices.proofs.Sorted.{once_sorted}
use Rattle.slices.proofs.Unions.{union_union}

-- zs has what xs and ys have
pub record AreBoth {X : Type 0} (xs ys zs : List X) : Type 0 where
  pub counts : (p : X → Bool) → count_by p zs ≡ count_by p xs + count_by p ys
  pub members : (x : X) → IsIn x zs ↔ (IsIn x xs ⊎ IsIn x ys)

pub both_behind : {X : Type 0} (xs ys : List X) → AreBoth xs ys (xs ++ ys)
both_behind xs ys = record {
  counts = λ p. count-append p xs ys;
  members = λ x. ((λ q. in_append xs ys x q), (λ h. elim h [ inl a ↦ in_left xs ys x a | inr b ↦ in_right xs ys x b ]));
}

pub both_before : {X : Type 0} (xs ys : List X) → AreBoth xs ys (ys ++ xs)
both_before xs ys = record {
  counts = λ p. (let e = count-append p ys xs in omega (arith, e));
  members = λ x. (
    (λ q. elim (in_append ys xs x q) [ inl a ↦ inr a | inr b ↦ inl b ]),
    (λ h. elim h [ inl a ↦ in_right ys xs x a | inr b ↦ in_left ys xs x b ]),
  );
}

-- w is right for these executions, but for the order of its states and its flags
pub record Says (t : Litmus) (items : List Clause) (places : List Place) (xs : List GraphValue) (w : FindingValue) : Type 0 where
  pub positive : w.positive ≡ count_by (has t places) xs
  pub negative : w.negative ≡ count_by (λ x. not (has t places x)) xs
  pub states : (s : List ℕ) → IsIn s w.states ↔ ((x : GraphValue) × IsIn x xs × (s ≡ obs t places x))
  pub flags : (name : Word) → IsIn name w.flags ↔ IsRaised items xs name

says : (t : Litmus) (items : List Clause) (xs : List GraphValue) (w : FindingValue) → Tells t items xs w → Says t items w.places xs w
says t items xs w h = record {
  positive = h.positive;
  negative = h.negative;
  states = λ s. ((λ p. h.states.only s p), (λ q. h.states.all s q));
  flags = λ s. ((λ p. h.flags.only s p), (λ q. h.flags.all s q));
}

-- what the executions of both lists show, each once
grown : {X : Type 0} (R : X → List ℕ → Type 0) (xs ys zs : List X) (old ws new : List (List ℕ)) → Lists (λ s. (x : X) × IsIn x xs × R x s) old → AreSorted old → ((s : List ℕ) → IsIn s ws ↔ ((x : X) × IsIn x ys × R x s)) → IsUnion old ws new → AreBoth xs ys zs
    → Lists (λ s. (x : X) × IsIn x zs × R x s) new
grown R xs ys zs old ws new l sorted more union both = record {
  once = once_sorted new (union.sorted sorted);
  only = λ s p. elim ((union.members s).0 p) [
    | inl a ↦ (let q = l.only s a in (q.0, (both.members q.0).1 (inl q.1), q.2))
    | inr b ↦ (let q = (more s).0 b in (q.0, (both.members q.0).1 (inr q.1), q.2))
  ];
  all = λ s q. (union.members s).1 (elim ((both.members q.0).0 q.1) [
    | inl a ↦ inl (l.all s (q.0, a, q.2))
    | inr b ↦ inr ((more s).1 (q.0, b, q.2))
  ]);
}

-- The sum of what is found of xs and what is found of ys is right for both.
pub sum_told : (t : Litmus) (items : List Clause) (xs ys zs : List GraphValue) (v w sum : FindingValue) → Tells t items xs v → Says t items v.places ys w → IsSum v w sum → AreBoth xs ys zs → Tells t items zs sum
sum_told t items xs ys zs v w sum h more is both =
    let places : v.places ≡ sum.places = sym (ap (λ (u : FindingValue). u.places) is.same) in
    let O : List Place → Type 0 = λ ps. AreObserved t.condition t.listed ps in
    let P : List Place → Type 0 = λ ps. sum.positive ≡ count_by (has t ps) zs in
    let N : List Place → Type 0 = λ ps. sum.negative ≡ count_by (λ x. not (has t ps x)) zs in
    let S : List Place → Type 0 = λ ps. Lists (λ s. (x : GraphValue) × IsIn x zs × (s ≡ obs t ps x)) sum.states in
    record {
      name = ap (λ (u : FindingValue). u.name) is.same ∙ h.name;
      kind = ap (λ (u : FindingValue). u.kind) is.same ∙ h.kind;
      formula = ap (λ (u : FindingValue). u.formula) is.same ∙ h.formula;
      places = subst O places h.places;
      positive = subst P places (omega (arith, is.positive, h.positive, more.positive, both.counts (has t v.places)));
      negative = subst N places (omega (arith, is.negative, h.negative, more.negative, both.counts (λ x. not (has t v.places x))));
      states = subst S places (grown (λ x s. s ≡ obs t v.places x) xs ys zs v.states w.states sum.states h.states h.sorted more.states is.states both);
      sorted = is.states.sorted h.sorted;
      flags = grown (λ x name. Raised items x name) xs ys zs v.flags w.flags sum.flags h.flags h.in_order more.flags is.flags both;
      in_order = is.flags.sorted h.in_order;
    }

pub adds_up : (v w sum : FindingValue) → IsSum v w sum → AddsUp v w sum
adds_up v w sum is t items xs ys h k =
    let S : List Place → Type 0 = λ ps. Says t items ps ys w in
    sum_told t items xs ys (ys ++ xs) v w sum h (subst S (same_observed t.condition t.listed w.places v.places k.places h.places) (says t items ys w k)) is (both_before xs ys)

-- nothing

no_flag : {P : List ℕ → Type 0} (ks : List (List ℕ)) → ks ≡ [] → ((s : List ℕ) → ¬ P s) → Lists P ks
no_flag {P} ks e none = let L : List (List ℕ) → Type 0 = λ l. Lists P l in subst L (sym e) (record { once = tt; only = λ s p. absurd p; all = λ s q. absurd (none s q) })

pub nothing_told : (t : Litmus) (places : List Place) (states flags : List (List ℕ)) → AreObserved t.condition t.listed places → states ≡ [] → flags ≡ [] → (items : List Clause)
    → Tells t items [] (record { name = t.name; kind = t.condition.kind; formula = t.condition.formula; places = places; positive = 0; negative = 0; states = states; flags = flags })
nothing_told t places states flags observed s f items = record {
  name = refl;
  kind = refl;
  formula = refl;
  places = observed;
  positive = refl;
  negative = refl;
  states = no_flag states s (λ x q. q.1);
  sorted = subst AreSorted (sym s) tt;
  flags = no_flag flags f (λ x q. q.1);
  in_order = subst AreSorted (sym f) tt;
}

one_of : (b : Bool) → cond b 1 0 + cond (not b) 1 0 ≡ 1
one_of true = refl
one_of false = refl

none_counted : {X : Type 0} (p : X → Bool) (xs : List X) → count_by p xs ≡ 0 → count_by (λ x. not (p x)) xs ≡ 0 → xs ≡ []
none_counted p [] a b = refl
none_counted p (x ∷ xs) a b = absurd (omega (arith, a, b, count-cons p x xs, count-cons (λ y. not (p y)) x xs, one_of (p x)))

-- to nothing, w adds up to w
pub nothing_adds : (v w : FindingValue) → v.positive ≡ 0 → v.negative ≡ 0 → AddsUp v w w
nothing_adds v w p n t items xs ys h k =
    let none : xs ≡ [] = none_counted (has t v.places) xs (sym h.positive ∙ p) (sym h.negative ∙ n) in
    let T : List GraphValue → Type 0 = λ zs. Tells t items zs w in
    let B : List GraphValue → Type 0 = λ zs. Tells t items (ys ++ zs) w in
    subst B (sym none) (subst T (sym (append-nil ys)) k)

-- and nothing adds nothing to v
pub adds_nothing : (v w : FindingValue) → w.positive ≡ 0 → w.negative ≡ 0 → AddsUp v w v
adds_nothing v w p n t items xs ys h k =
    let none : ys ≡ [] = none_counted (has t w.places) ys (sym k.positive ∙ p) (sym k.negative ∙ n) in
    let B : List GraphValue → Type 0 = λ zs. Tells t items (zs ++ xs) v in
    subst B (sym none) h

-- v, added to nothing, and w behind it

abbrev heading : Word → Kind → Formula → List Place → FindingValue
heading x k f ps = record { name = x; kind = k; formula = f; places = ps; positive = 0; negative = 0; states = []; flags = [] }

pub same_heading : (v w : FindingValue) → v.name ≡ w.name → v.kind ≡ w.kind → v.formula ≡ w.formula → v.places ≡ w.places → nothing_of v ≡ nothing_of w
same_heading v w x k f ps = ap (λ y. heading y v.kind v.formula v.places) x ∙ ap (λ y. heading w.name y v.formula v.places) k ∙ ap (λ y. heading w.name w.kind y v.places) f ∙ ap (heading w.name w.kind w.formula) ps

again : {none xs old ys new : List (List ℕ)} → ((s : List ℕ) → ¬ IsIn s none) → AreSorted none → IsUnion none xs old → IsUnion old ys new → IsUnion xs ys new
again none sorted g h = record {
  members = λ s. (
    (λ p. elim ((h.members s).0 p) [ inl q ↦ elim ((g.members s).0 q) [ inl n ↦ absurd (none s n) | inr a ↦ inl a ] | inr b ↦ inr b ]),
    (λ m. elim m [ inl a ↦ (h.members s).1 (inl ((g.members s).1 (inr a))) | inr b ↦ (h.members s).1 (inr b) ]),
  );
  sorted = λ _. h.sorted (g.sorted sorted);
}

pub union_again : (none xs old ys new : List (List ℕ)) → none ≡ [] → IsUnion none xs old → IsUnion old ys new → IsUnion xs ys new
union_again none xs old ys new e g h =
    let N : List (List ℕ) → Type 0 = λ ks. IsUnion ks xs old in
    again {none = []} (λ s p. p) tt (subst N e g) h

pub sum_again : (t : Litmus) (none v w old new : FindingValue) → Tells t [] [] none → v.name ≡ t.name → v.kind ≡ t.condition.kind → v.formula ≡ t.condition.formula → AreObserved t.condition t.listed v.places → IsSum none v old → IsSum old w new → IsSum v w new
sum_again t none v w old new h x k f observed g is = record {
  same = is.same ∙ g.same ∙ same_heading none v (h.name ∙ sym x) (h.kind ∙ sym k) (h.formula ∙ sym f) (same_observed t.condition t.listed none.places v.places h.places observed);
  positive = (let z : none.positive ≡ 0 = h.positive in omega (arith, is.positive, g.positive, z));
  negative = (let z : none.negative ≡ 0 = h.negative in omega (arith, is.negative, g.negative, z));
  states = again (λ s p. (h.states.only s p).1) h.sorted g.states is.states;
  flags = again (λ s p. (h.flags.only s p).1) h.in_order g.flags is.flags;
}

-- what is found, and the names of flags behind it
pub sum_flags : (v w old new : FindingValue) (flags : List Word) → w.flags ≡ [] → IsSum v w old → IsSum old (of_flags old flags) new → IsSum v (record w { flags = flags }) new
sum_flags v w old new flags none g is =
    let U : List (List ℕ) → Type 0 = λ ks. IsUnion v.flags ks old.flags in
    let S : List (List ℕ) → Type 0 = λ ks. IsUnion v.states ks new.states in
    record {
      same = is.same ∙ g.same;
      positive = (let z : new.positive ≡ old.positive + 0 = is.positive in let e : new.positive ≡ v.positive + w.positive = omega (arith, z, g.positive) in e);
      negative = (let z : new.negative ≡ old.negative + 0 = is.negative in let e : new.negative ≡ v.negative + w.negative = omega (arith, z, g.negative) in e);
      states = subst S (append-nil w.states) (union_union g.states is.states);
      flags = union_union (subst U none g.flags) is.flags;
    }

pub on_ok : {X E P Q : Type 0} (r : Result X E) → (P → Q) → OnOk r P → OnOk r Q
on_ok (Ok x) f p = f p
on_ok (Err e) f p = tt

-- what code makes of a finding

pub findings_merged : (v w : FindingValue) (states flags : List (List ℕ)) → IsUnion v.states w.states states → IsUnion v.flags w.flags flags → IsSum v w (record v { positive = v.positive + w.positive; negative = v.negative + w.negative; states = states; flags = flags })
findings_merged v w states flags s f = record { same = refl; positive = refl; negative = refl; states = s; flags = f }
