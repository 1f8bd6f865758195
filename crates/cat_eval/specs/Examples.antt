-- Examples, computed.
use Rattle.std.proofs.Common.{◌≡◌, ℕ, ◌<◌, List, [], ◌∷◌, codes, refl, sym, ◌∙◌, subst, inl, inr, true, false, Some}
use Rattle.std.proofs.lemmas.Bool.{false≢true}
use Rattle.std.proofs.lemmas.List.Elements.{All-nil, All-cons, All-head}
use Rattle.std.proofs.lemmas.Slice.Eq.{bytes_eq-Decides}
use Rattle.relations.specs.Relation.{Relation, In, relation}
use Rattle.relations.specs.TableFacts.{cell_square, square_below, square_again}
use Rattle.cat_tree.specs.declared.tree.CheckKind.TheVariants.{Acyclic}
use Rattle.cat_tree.specs.Tree.{Term, Bound, Defined, name, call, no_terms, term, bind, check}
use Rattle.cat_eval.specs.declared.value.Value.{Value}
use Rattle.cat_eval.specs.declared.value.Value.TheVariants.{Pairs}
use Rattle.cat_eval.specs.declared.value.Entry.{Entry}
use Rattle.cat_eval.specs.Meaning.{Environment, Means, Under, BindsRelation, Solves, IsLeast, Lies, LieWithin}
use Rattle.cat_eval.specs.Judging.{Permits, Behind}

no_flag : true ≡ false → ⊥
no_flag e = cc

abbrev pub r_is : Value → Entry
r_is v = record { name = codes "r"; value = v }

-- let r = v let r = w: then r means w ..
pub a_later_binding_hides : (n : ℕ) (E : Environment) (v w : Value) → Means n (Under E (r_is v ∷ r_is w ∷ [])) (name (codes "r")) w
a_later_binding_hides n E v w = inl (refl, refl)

-- .. and nothing else
pub an_earlier_binding_is_hidden : (n : ℕ) (E : Environment) (v w : Value) → Means n (Under E (r_is v ∷ r_is w ∷ [])) (name (codes "r")) v → v ≡ w
an_earlier_binding_is_hidden n E v w (inl m) = m.1
an_earlier_binding_is_hidden n E v w (inr m) = absurd (m.0 refl)

-- flag acyclic r as f
pub a_flagged_check_forbids_nothing : (n : ℕ) (E : Environment) → Permits n E (check true false Acyclic (name (codes "r")) (Some (codes "f")))
a_flagged_check_forbids_nothing n E e = absurd (no_flag e)

-- let rec r = r: r is the relation without a pair
abbrev pub r_is_r : List Bound
r_is_r = record { name = codes "r"; value = name (codes "r") } ∷ []

abbrev pub no_pairs : ℕ → Relation
no_pairs n = relation n (λ _ _. false)

has_none : (n i j : ℕ) → In (no_pairs n) i j → ⊥
has_none n i j m =
    let b : (i < n) × (j < n) = square_below n (λ _ _. false) i j m in
    false≢true (sym (cell_square n (λ _ _. false) i j b.0 b.1) ∙ m)

below_all : (n : ℕ) (v : Value) (q : Relation) → v ≡ Pairs q → Lies (Pairs (no_pairs n)) v
below_all n v q e = let P : Value → Type 0 = λ w. Lies (Pairs (no_pairs n)) w in subst P (sym e) (λ i j m. absurd (has_none n i j m))

below_solution : (n : ℕ) (E : Environment) (fs : List Entry) → Solves n E r_is_r fs → LieWithin (r_is (Pairs (no_pairs n)) ∷ []) fs
below_solution n E [] s = absurd s.equations
below_solution n E (f ∷ []) s =
    let b : BindsRelation n f = All-head (BindsRelation n) f [] s.relations in
    (below_all n f.value b.pairs b.value, tt)
below_solution n E (f ∷ h ∷ fs) s = absurd s.equations.1

pub recursion_from_nothing : (n : ℕ) (E : Environment) → IsLeast n E r_is_r (r_is (Pairs (no_pairs n)) ∷ [])
recursion_from_nothing n E = record {
  solves = record {
    relations = All-cons (BindsRelation n) (r_is (Pairs (no_pairs n))) [] (record { pairs = no_pairs n; value = refl; count = refl; canonical = record { pairs = square_again n (λ _ _. false) } }) (All-nil (BindsRelation n));
    equations = (record { name = refl; value = inl (refl, refl) }, tt);
  };
  least = below_solution n E;
}

-- let f(x) = y: behind it f(a) means what y meant before it, whatever a means
abbrev pub constant : Defined
constant = record { name = codes "f"; parameters = codes "x" ∷ []; value = name (codes "y") }

no_parameter : codes "y" ≡ codes "x" → ⊥
no_parameter e = false≢true ((bytes_eq-Decides (codes "y") (codes "x")).1 e)

pub a_function_sees_what_stood_before_it : (n : ℕ) (E : Environment) (a : Term) (v : Value) → E (codes "y") [] v → Means n (Behind n E (bind (constant ∷ [])) []) (call (codes "f") (term a no_terms)) v
a_function_sees_what_stood_before_it n E a v h = inl (refl, inr (no_parameter, h))
