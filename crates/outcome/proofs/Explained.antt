-- What is drawn of an execution, and why.
use Rattle.std.proofs.Common.{◌≡◌, ◌⊎◌, inl, inr, ℕ, List, [], ◌∷◌, ◌++◌, Bool, Option, refl, subst}
use Rattle.std.specs.List.{zip}
use Rattle.cat_model.specs.Models.{Assembly}
use Rattle.events.specs.Executions.{GraphValue}
use Rattle.slices.specs.VerdictValues.{VerdictValue}
use Rattle.slices.specs.Works.{WorkValue}
use Rattle.suite.specs.declared.case.Case.{Case}
use Rattle.witness.specs.Reasons.{IsWhy}
use Rattle.witness.specs.declared.reasons.Reason.{Reason}
use Rattle.outcome.specs.Reasons.{AreExplained, Explains, IsDrawn, IsExplained, asks_with}

pub why_is : (m n : Assembly) (x : GraphValue) (o r : Option Reason) → IsWhy m.items x o → m ≡ n → o ≡ r → IsWhy n.items x r
why_is m n x o r h e f =
    let P : Assembly → Type 0 = λ k. IsWhy k.items x o in
    let Q : Option Reason → Type 0 = λ q. IsWhy n.items x q in
    subst Q f (subst P e h)

pub under_heading : (w : WorkValue) (name h k : List ℕ) (x : GraphValue) (r : Option Reason) (why dot : List ℕ) → IsDrawn w name h x r why dot → h ≡ k → IsDrawn w name k x r why dot
under_heading w name h k x r why dot d e = let P : List ℕ → Type 0 = λ l. IsDrawn w name l x r why dot in subst P e d

-- the first of two lists side by side, and the end

pub one_on : (w d w1 d1 : List ℕ) (cs cs' : List Case) (vs vs' : List VerdictValue) (c : Case) (v : VerdictValue) → cs ≡ c ∷ cs' → vs ≡ v ∷ vs' → Explains w d c v w1 d1 → (why dot : List ℕ) → AreExplained w1 d1 (zip cs' vs') why dot → AreExplained w d (zip cs vs) why dot
one_on w d w1 d1 cs cs' vs vs' c v e f h why dot rest = rw (e, f) (w1, d1, h, rest)

pub none_on : (w d : List ℕ) (cs : List Case) (vs : List VerdictValue) → (cs ≡ []) ⊎ (vs ≡ []) → AreExplained w d (zip cs vs) w d
none_on w d cs vs (inl e) = rw e (refl, refl)
none_on w d [] vs (inr e) = (refl, refl)
none_on w d (c ∷ cs) vs (inr e) = rw e (refl, refl)

-- by what the steps of the code give
pub explains_as : (ow od : List ℕ) (c : Case) (v : VerdictValue) (w : WorkValue) (has : Bool) (name why dot nw nd : List ℕ) → IsExplained w has name why dot → w ≡ v.work → has ≡ asks_with v.finding.kind → name ≡ c.model.now → nw ≡ ow ++ why → nd ≡ od ++ dot → Explains ow od c v nw nd
explains_as ow od c v w has name why dot nw nd h e f g t d =
    let P : WorkValue → Type 0 = λ x. IsExplained x has name why dot in
    let Q : Bool → Type 0 = λ b. IsExplained v.work b name why dot in
    let R : List ℕ → Type 0 = λ n. IsExplained v.work (asks_with v.finding.kind) n why dot in
    record { why = why; dot = dot; explained = subst R g (subst Q f (subst P e h)); text = t; file = d }
