-- What bindings on top of an environment do to it.
use Rattle.std.proofs.Common.{◌≡◌, ℕ, ◌⊎◌, List, [], ◌∷◌, ◌++◌, Bool, true, false, Option, Some, None, option_map, find, reverse, cond, refl, sym, ◌∙◌, ap, subst, inl, inr}
use Rattle.std.specs.Option.{option_or}
use Rattle.std.specs.Str.{bytes_eq}
use Rattle.std.specs.List.{All}
use Rattle.std.proofs.lemmas.Bool.{cases_Bool, false≢true}
use Rattle.std.proofs.lemmas.List.{reverse-append}
use Rattle.std.proofs.lemmas.List.Folds.{find-append}
use Rattle.std.proofs.lemmas.List.Elements.{All-head, All-tail}
use Rattle.std.proofs.lemmas.Slice.Eq.{bytes_eq-Decides}
use Rattle.cat_tree.specs.Tree.{Word}
use Rattle.cat_eval.specs.declared.value.Value.{Value}
use Rattle.cat_eval.specs.declared.value.Entry.{Entry}
use Rattle.cat_eval.specs.Core.{Scope, sort_of_name}
use Rattle.cat_eval.specs.CoreMeaning.{With, Under}
use Rattle.cat_eval.specs.Steps.{IsOver, sort_of, scope_of, latest}
use Rattle.cat_eval.proofs.Sorting.{Fits}

mapped_or : (a b : Option Entry) → option_map (λ e. e.value) (option_or a b) ≡ option_or (option_map (λ e. e.value) a) (option_map (λ e. e.value) b)
mapped_or None b = refl
mapped_or (Some e) b = refl

mapped_cond : (t : Bool) (e : Entry) → option_map (λ e. e.value) (cond t (Some e) None) ≡ cond t (Some e.value) None
mapped_cond true e = refl
mapped_cond false e = refl

-- The latest binding of a list is that of its rest, if there is one.
pub latest_cons : (e : Entry) (es : List Entry) (x : Word) → latest (e ∷ es) x ≡ option_or (latest es x) (cond (bytes_eq e.name x) (Some e.value) None)
unfolding latest
latest_cons e es x =
    let p : Entry → Bool = λ e. bytes_eq e.name x in
    ap (λ xs. option_map (λ e. e.value) (find p xs)) (reverse-append (e ∷ []) es) ∙
    ap (option_map (λ e. e.value)) (find-append p (reverse es) (e ∷ [])) ∙
    mapped_or (find p (reverse es)) (cond (bytes_eq e.name x) (Some e) None) ∙
    ap (option_or (option_map (λ e. e.value) (find p (reverse es)))) (mapped_cond (bytes_eq e.name x) e)

Cases : Option Value → Bool → Value → Type 0
Cases o t v = ((w : Value) × (o ≡ Some w) × (option_or o (cond t (Some v) None) ≡ Some w)) ⊎
    (((o ≡ None) × (t ≡ true) × (option_or o (cond t (Some v) None) ≡ Some v)) ⊎ ((o ≡ None) × (t ≡ false) × (option_or o (cond t (Some v) None) ≡ None)))

cases : (o : Option Value) (t : Bool) (v : Value) → Cases o t v
unfolding Cases
cases (Some w) t v = inl (w, refl, refl)
cases None true v = inr (inl (refl, refl, refl))
cases None false v = inr (inr (refl, refl, refl))

some_one : (v w : Value) → ◌≡◌ {A = Option Value} (Some v) (Some w) → v ≡ w
some_one v w e = cc

none_some : (v : Value) → ◌≡◌ {A = Option Value} None (Some v) → ⊥
none_some v e = cc

is_name : (x y : Word) → bytes_eq y x ≡ true → x ≡ y
is_name x y e = sym ((bytes_eq-Decides y x).0 e)

is_other : (x y : Word) → bytes_eq y x ≡ false → ¬ (x ≡ y)
is_other x y e s = false≢true (sym e ∙ (bytes_eq-Decides y x).1 (sym s))

-- A name that isn't bound stands for what it stood for.
pub under_none : (E : Word → Value → Type 0) (es : List Entry) (x : Word) (v : Value) → latest es x ≡ None → E x v → Under E es x v
unfolding Cases
under_none E [] x v h m = m
under_none E (e ∷ es) x v h m = elim (cases (latest es x) (bytes_eq e.name x) e.value) [
  | inl c ↦ absurd (none_some c.0 (sym h ∙ latest_cons e es x ∙ c.2))
  | inr d ↦ elim d [
    | inl c ↦ absurd (none_some e.value (sym h ∙ latest_cons e es x ∙ c.2))
    | inr c ↦ under_none (With E e) es x v c.0 (inr (is_other x e.name c.1, m))
  ]
]

-- A name that is bound stands for the value of its latest binding.
pub under_some : (E : Word → Value → Type 0) (es : List Entry) (x : Word) (v : Value) → latest es x ≡ Some v → Under E es x v
unfolding latest Cases
under_some E [] x v h = absurd (none_some v h)
under_some E (e ∷ es) x v h = elim (cases (latest es x) (bytes_eq e.name x) e.value) [
  | inl c ↦ under_some (With E e) es x v (c.1 ∙ sym c.2 ∙ sym (latest_cons e es x) ∙ h)
  | inr d ↦ elim d [
    | inl c ↦ under_none (With E e) es x v c.0 (inl (is_name x e.name c.1, some_one v e.value (sym h ∙ latest_cons e es x ∙ c.2)))
    | inr c ↦ absurd (none_some v (sym c.2 ∙ sym (latest_cons e es x) ∙ h))
  ]
]

-- A name that isn't bound has the sort that it had.
pub scope_none : (s : Scope) (es : List Entry) (x : Word) → latest es x ≡ None → sort_of_name (scope_of s es) x ≡ sort_of_name s x
unfolding Cases
scope_none s [] x h = refl
scope_none s (e ∷ es) x h = elim (cases (latest es x) (bytes_eq e.name x) e.value) [
  | inl c ↦ absurd (none_some c.0 (sym h ∙ latest_cons e es x ∙ c.2))
  | inr d ↦ elim d [
    | inl c ↦ absurd (none_some e.value (sym h ∙ latest_cons e es x ∙ c.2))
    | inr c ↦ scope_none ((e.name, sort_of e.value) ∷ s) es x c.0 ∙ (rw c.1 refl)
  ]
]

with_fits : (E : Word → Value → Type 0) (s : Scope) (e : Entry) → Fits E s → Fits (With E e) ((e.name, sort_of e.value) ∷ s)
with_fits E s e f = record {
  fits = λ x v h. elim h [
    | inl m ↦ (let t : bytes_eq e.name x ≡ true = (bytes_eq-Decides e.name x).1 (sym m.0) in rw t (ap (λ w. Some (sort_of w)) (sym m.1)))
    | inr m ↦ elim (cases_Bool (bytes_eq e.name x)) [
      | inl t ↦ absurd (m.0 (is_name x e.name t))
      | inr t ↦ rw t (f.fits x v m.1)
    ]
  ];
}

pub under_fits : (E : Word → Value → Type 0) (s : Scope) (es : List Entry) → Fits E s → Fits (Under E es) (scope_of s es)
under_fits E s [] f = f
under_fits E s (e ∷ es) f = under_fits (With E e) ((e.name, sort_of e.value) ∷ s) es (with_fits E s e f)

pub under_over : (n : ℕ) (E : Word → Value → Type 0) (es : List Entry) → ((x : Word) (v : Value) → E x v → IsOver n v) → All (λ e. IsOver n e.value) es →
    (x : Word) (v : Value) → Under E es x v → IsOver n v
under_over n E [] f o x v h = f x v h
under_over n E (e ∷ es) f o x v h =
    let P : Entry → Type 0 = λ e. IsOver n e.value in
    let F : Value → Type 0 = λ w. IsOver n w in
    under_over n (With E e) es (λ y w k. elim k [ inl m ↦ subst F (sym m.1) (All-head P e es o) | inr m ↦ f y w m.1 ]) (All-tail P e es o) x v h

with_one : (E : Word → Value → Type 0) (e : Entry) → ((x : Word) (v w : Value) → E x v → E x w → v ≡ w) → (x : Word) (v w : Value) → With E e x v → With E e x w → v ≡ w
with_one E e f x v w h k = elim h [
  | inl m ↦ elim k [ inl l ↦ m.1 ∙ sym l.1 | inr l ↦ absurd (l.0 m.0) ]
  | inr m ↦ elim k [ inl l ↦ absurd (m.0 l.0) | inr l ↦ f x v w m.1 l.1 ]
]

-- Where a name stands for one value, it does so under more bindings.
pub under_one : (E : Word → Value → Type 0) (es : List Entry) → ((x : Word) (v w : Value) → E x v → E x w → v ≡ w) → (x : Word) (v w : Value) → Under E es x v → Under E es x w → v ≡ w
under_one E [] f = f
under_one E (e ∷ es) f = under_one (With E e) es (with_one E e f)

pub under_append : (E : Word → Value → Type 0) (es fs : List Entry) → Under E (es ++ fs) ≡ Under (Under E es) fs
under_append E [] fs = refl
under_append E (e ∷ es) fs = under_append (With E e) es fs

pub scope_append : (s : Scope) (es fs : List Entry) → scope_of s (es ++ fs) ≡ scope_of (scope_of s es) fs
scope_append s [] fs = refl
scope_append s (e ∷ es) fs = scope_append ((e.name, sort_of e.value) ∷ s) es fs
