-- The first name of a term that is not bound.
use Rattle.std.proofs.Common.{◌≡◌, List, [], ◌∷◌, ◌++◌, Option, None, Some, Bool, true, false, cond, ap, sym, ◌∙◌, subst, refl, Bor, option_map}
use Rattle.std.specs.Prelude.{reverse, ◌||◌, not}
use Rattle.std.specs.List.{find, Contains}
use Rattle.std.specs.Option.{option_or}
use Rattle.std.proofs.lemmas.List.Folds.{find-append}
use Rattle.cat_tree.specs.declared.node.Infix.{Infix}
use Rattle.cat_tree.specs.declared.node.Infix.TheVariants.{Union, Sequence, Difference, Intersection, Product}
use Rattle.cat_tree.specs.declared.node.Sign.{Sign}
use Rattle.cat_tree.specs.declared.node.Sign.TheVariants.{Complement, Plus, Star, Optional, Inverse, Domain, Range, Identity}
use Rattle.cat_tree.specs.Tree.{Defined}
use Rattle.cat_tree.specs.declared.node.Node.{Node}
use Rattle.cat_tree.specs.declared.node.Node.TheVariants as nodes
use Rattle.cat_tree.specs.Terms.{Word, Term, call, terms_of, applied, joined, name, universe, latest, earlier, left_by}
use Rattle.cat_model.proofs.Paired.{for_latest}
use Rattle.cat_model.proofs.Waiting.{paired_along, node_as, pushed}
use Rattle.cat_model.specs.Along.{is_loose, IsFirstLoose, first_some, ForEach}
use Rattle.cat_model.proofs.Contained.{kept, was_kept}
use Rattle.cat_model.specs.Names.{names, all_names, free_names, is_among}
use Rattle.cat_model.specs.Lookups.{is_known}
use Rattle.cat_model.specs.declared.scope.BoundName.{BoundName}

names_applied : (u : Sign) (a : Term) → names (applied u a) ≡ names a
names_applied Complement a = refl
names_applied Plus a = refl
names_applied Star a = refl
names_applied Optional a = refl
names_applied Inverse a = refl
names_applied Domain a = refl
names_applied Range a = refl
names_applied Identity a = refl

names_joined : (o : Infix) (a b : Term) → names (joined o a b) ≡ names a ++ names b
names_joined Union a b = refl
names_joined Sequence a b = refl
names_joined Difference a b = refl
names_joined Intersection a b = refl
names_joined Product a b = refl

shown : Option (Bor Word) → Option Word
shown o = option_map (λ x. x.now) o

shown_or : (o p : Option (Bor Word)) → option_map (λ x. x.now) (option_or o p) ≡ option_or (option_map (λ x. x.now) o) (option_map (λ x. x.now) p)
shown_or None p = refl
shown_or (Some x) p = refl

cond_or : (b : Bool) (x : Word) (o : Option Word) → cond b (Some x) o ≡ option_or (cond b (Some x) None) o
cond_or true x o = refl
cond_or false x o = refl

module _ (ns : List BoundName) (ps : List Word) where
  pub loose_name : (o : Option (Bor Word)) (x : Word) → option_map (λ y. y.now) o ≡ cond (is_loose ns ps x) (Some x) None → IsFirstLoose ns ps o (name x)
  loose_name o x h = h

  pub loose_applied : (o : Option (Bor Word)) (u : Sign) (a : Term) → IsFirstLoose ns ps o a → IsFirstLoose ns ps o (applied u a)
  loose_applied o u a h = h ∙ ap (find (is_loose ns ps)) (sym (names_applied u a))

  pub loose_joined : (o p q : Option (Bor Word)) (i : Infix) (a b : Term) → q ≡ option_or o p → IsFirstLoose ns ps o a → IsFirstLoose ns ps p b → IsFirstLoose ns ps q (joined i a b)
  loose_joined o p q i a b e h k =
      ap (option_map (λ x. x.now)) e ∙ shown_or o p ∙ ap (λ r. option_or r (option_map (λ x. x.now) p)) h ∙ ap (λ r. option_or (find (is_loose ns ps) (names a)) r) k
      ∙ sym (ap (find (is_loose ns ps)) (names_joined i a b) ∙ find-append (is_loose ns ps) (names a) (names b))

  first_arguments : (ks : List (Option (Bor Word))) (us : List Term) → ForEach (IsFirstLoose ns ps) ks us → option_map (λ x. x.now) (first_some ks) ≡ find (is_loose ns ps) (all_names (terms_of us))
  first_arguments [] [] h = refl
  first_arguments [] (t ∷ us) h = absurd h
  first_arguments (k ∷ ks) [] h = absurd h
  first_arguments (k ∷ ks) (t ∷ us) h =
      shown_or k (first_some ks) ∙ ap (λ r. option_or r (option_map (λ x. x.now) (first_some ks))) h.0 ∙ ap (λ r. option_or (find (is_loose ns ps) (names t)) r) (first_arguments ks us h.1)
      ∙ sym (find-append (is_loose ns ps) (names t) (all_names (terms_of us)))

  pub loose_call : (o p q : Option (Bor Word)) (f : Word) (ks : List (Option (Bor Word))) (us : List Term) → q ≡ option_or o p → option_map (λ y. y.now) o ≡ cond (is_loose ns ps f) (Some f) None → p ≡ first_some ks → ForEach (IsFirstLoose ns ps) ks us →
      IsFirstLoose ns ps q (call f (terms_of us))
  loose_call o p q f ks us e d g h =
      ap (option_map (λ x. x.now)) e ∙ shown_or o p ∙ ap (λ r. option_or r (option_map (λ x. x.now) p)) d
      ∙ ap (λ r. option_or (cond (is_loose ns ps f) (Some f) None) r) (ap (option_map (λ x. x.now)) g ∙ first_arguments ks us h)
      ∙ sym (cond_or (is_loose ns ps f) f (find (is_loose ns ps) (all_names (terms_of us))))

-- a name that is not loose

known_else : (a k : Bool) → not (a || k) ≡ false → not a ≡ true → k ≡ true
known_else true k h e = cc
known_else false true h e = refl
known_else false false h e = cc

free_unknown : (a k : Bool) → not (a || k) ≡ true → (not a ≡ true) × (k ≡ false)
free_unknown true k h = cc
free_unknown false true h = cc
free_unknown false false h = (refl, refl)

pub known_free : (ns : List BoundName) (d : Defined) → ((x : Word) → Contains (names d.value) x → is_loose ns d.parameters x ≡ false) → (x : Word) → Contains (free_names d) x → is_known ns x ≡ true
known_free ns d h x c =
    let k = was_kept (λ y. not (is_among d.parameters y)) (names d.value) x c in
    known_else (is_among d.parameters x) (is_known ns x) (h x k.0) k.1

pub free_loose : (ns : List BoundName) (d : Defined) (x : Word) → Contains (names d.value) x → is_loose ns d.parameters x ≡ true → Contains (free_names d) x × (is_known ns x ≡ false)
free_loose ns d x c t =
    let k = free_unknown (is_among d.parameters x) (is_known ns x) t in
    (kept (λ y. not (is_among d.parameters y)) (names d.value) x c k.0, k.1)

pub known_bound : (b : Bool) → not b ≡ false → b ≡ true
known_bound b h = known_else false b h refl

pub unknown_bound : (b : Bool) → not b ≡ true → b ≡ false
unknown_bound b h = (free_unknown false b h).1

-- what waits behind a node

module _ (ns : List BoundName) (ps : List Word) where
  pub infix_step : (ks ls ms js : List (Option (Bor Word))) (r l o : Option (Bor Word)) (n : Node) (i : Infix) (us : List Term) → n ≡ nodes.Infix i → r ≡ latest None (reverse ks) → reverse ls ≡ earlier (reverse ks) → l ≡ latest None (reverse ls) →
      reverse ms ≡ earlier (reverse ls) → o ≡ option_or l r → js ≡ ms ++ o ∷ [] → ForEach (IsFirstLoose ns ps) (reverse ks) us → ForEach (IsFirstLoose ns ps) (reverse js) (left_by n us)
  infix_step ks ls ms js r l o n i us en er els el ems eo ejs h =
      let R = IsFirstLoose ns ps in
      let a : Term = latest universe (earlier us) in
      let b : Term = latest universe us in
      let p = for_latest (paired_along R) None universe (reverse ks) us refl h in
      let A : List (Option (Bor Word)) → Type 0 = λ z. ForEach R z (earlier us) in
      let q = for_latest (paired_along R) None universe (reverse ls) (earlier us) refl (subst A (sym els) p.1) in
      let B : List (Option (Bor Word)) → Type 0 = λ z. ForEach R z (earlier (earlier us)) in
      let L : Option (Bor Word) → Type 0 = λ z. R z a in
      let K : Option (Bor Word) → Type 0 = λ z. R z b in
      let C : List (Option (Bor Word)) → Type 0 = λ z. ForEach R z (joined i a b ∷ earlier (earlier us)) in
      node_as R (reverse js) us n (nodes.Infix i) en
      (subst C (sym (ap (λ z. reverse z) ejs ∙ pushed ms o)) (loose_joined ns ps l r o i a b eo (subst L (sym el) q.0) (subst K (sym er) p.0), subst B (sym ems) q.1))
