-- When two values are the same, for each type whose values have codes: exactly where they are equal.
use Rattle.std.specs.Prelude.{◌≡◌, ℕ, ◌==◌, ◌&&◌, Bool, true, false, List, refl}
use Rattle.std.proofs.Common.{ap, ◌∙◌}
use Rattle.std.specs.Bool.{Decides, one_answer}
use Rattle.std.specs.Cmp.{IsEquivalence, IsPartialEquivalence, partial_equiv_from_equiv}
use Rattle.std.specs.Coded.{Coded}
use Rattle.std.specs.Cmp.Lexicographic.{pointwise, pointwise_decides}
use Rattle.std.specs.Str.{bytes_eq}
use Rattle.std.proofs.lemmas.Bool.Decides.{Decides-eqb}
use Rattle.std.proofs.lemmas.Slice.Eq.{bytes_eq-Decides}
use base.Stored.{Gv, gnil, gnum, gcons}
use Rattle.conditions.specs.Conditions.{Formula}
use Rattle.conditions.specs.Equality.{same_place, same_formula, same_kind}
use Rattle.conditions.specs.Exact.{both, by_parts, equivalence, place_exact, kind_exact, formula_exact}
use Rattle.conditions.specs.declared.condition.Kind.{Kind}
use Rattle.conditions.specs.declared.place.Place.{Place}
use Rattle.litmus_tree.specs.Tree.{Word}
use Rattle.slices.specs.Findings.{FindingValue}

abbrev same_code : Gv → Gv → Bool
same_code gnil gnil = true
same_code (gnum a) (gnum b) = a == b
same_code (gcons a x) (gcons b y) = same_code a b && same_code x y
same_code a b = false

code_exact : (a b : Gv) → Decides (same_code a b) (a ≡ b)
code_exact gnil gnil = (λ h. refl, λ e. refl)
code_exact (gnum a) (gnum b) = by_parts _ (Decides-eqb a b) (λ h. ap gnum h) (λ e. cc)
code_exact (gcons a x) (gcons b y) = by_parts _ (both _ _ (code_exact a b) (code_exact x y)) (λ h. let e = h.0 in let n = h.1 in cc) (λ e. ((let t : a ≡ b = cc in t), (let t : x ≡ y = cc in t)))
code_exact a b = (λ h. cc, λ e. cc)

-- the values have one code
pub same : {A : Type 0} → Coded A → A → A → Bool
same coded a b = same_code (coded.code a) (coded.code b)

-- They do exactly where they are equal.
pub same_exact : {A : Type 0} (coded : Coded A) (a b : A) → Decides (same coded a b) (a ≡ b)
unfolding same
same_exact coded a b = by_parts _ (code_exact (coded.code a) (coded.code b)) (λ h. coded.inj a b h) (λ e. ap coded.code e)

pub same_equivalence : {A : Type 0} (coded : Coded A) → IsEquivalence (same coded)
same_equivalence coded = equivalence (same coded) (same_exact coded)

pub same_partial_equivalence : {A : Type 0} (coded : Coded A) → IsPartialEquivalence (same coded)
same_partial_equivalence coded = partial_equiv_from_equiv (same_equivalence coded)

-- so each test that decides whether two values are equal is this one
pub one_test : {A : Type 0} (coded : Coded A) (a b : A) (r : Bool) → Decides r (a ≡ b) → r ≡ same coded a b
one_test coded a b r d = one_answer r (same coded a b) d (same_exact coded a b)

-- what is found: part by part
abbrev pub same_finding : FindingValue → FindingValue → Bool
same_finding a b =
    bytes_eq a.name b.name && same_kind a.kind b.kind && same_formula a.formula b.formula && pointwise same_place a.places b.places &&
    (a.positive == b.positive) && (a.negative == b.negative) && pointwise bytes_eq a.states b.states && pointwise bytes_eq a.flags b.flags

words_exact : (xs ys : List (List ℕ)) → Decides (pointwise bytes_eq xs ys) (xs ≡ ys)
words_exact = pointwise_decides bytes_eq-Decides

abbrev finding : Word → Kind → Formula → List Place → ℕ → ℕ → List (List ℕ) → List Word → FindingValue
finding x k f ps n m ss fs = record { name = x; kind = k; formula = f; places = ps; positive = n; negative = m; states = ss; flags = fs }

pub finding_exact : (a b : FindingValue) → Decides (same_finding a b) (a ≡ b)
finding_exact a b =
    by_parts _
    (both _ _ (both _ _ (both _ _ (both _ _ (both _ _ (both _ _ (both _ _ (bytes_eq-Decides a.name b.name) (kind_exact a.kind b.kind)) (formula_exact a.formula b.formula)) (pointwise_decides place_exact a.places b.places))
    (Decides-eqb a.positive b.positive)) (Decides-eqb a.negative b.negative)) (words_exact a.states b.states)) (words_exact a.flags b.flags))
    (λ h.
    ap (λ x. finding x a.kind a.formula a.places a.positive a.negative a.states a.flags) h.0.0.0.0.0.0.0 ∙
    ap (λ k. finding b.name k a.formula a.places a.positive a.negative a.states a.flags) h.0.0.0.0.0.0.1 ∙
    ap (λ f. finding b.name b.kind f a.places a.positive a.negative a.states a.flags) h.0.0.0.0.0.1 ∙
    ap (λ ps. finding b.name b.kind b.formula ps a.positive a.negative a.states a.flags) h.0.0.0.0.1 ∙
    ap (λ n. finding b.name b.kind b.formula b.places n a.negative a.states a.flags) h.0.0.0.1 ∙
    ap (λ m. finding b.name b.kind b.formula b.places b.positive m a.states a.flags) h.0.0.1 ∙
    ap (λ ss. finding b.name b.kind b.formula b.places b.positive b.negative ss a.flags) h.0.1 ∙
    ap (finding b.name b.kind b.formula b.places b.positive b.negative b.states) h.1)
    (λ e. (((((((ap (λ c. c.name) e, ap (λ c. c.kind) e), ap (λ c. c.formula) e), ap (λ c. c.places) e), ap (λ c. c.positive) e), ap (λ c. c.negative) e), ap (λ c. c.states) e), ap (λ c. c.flags) e))
