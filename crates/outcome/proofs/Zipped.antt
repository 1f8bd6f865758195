-- Cases and verdicts side by side.
use Rattle.std.proofs.Common.{◌≡◌, ℕ, List, [], ◌∷◌, ◌++◌, ◌⊎◌, inl, inr, map, refl, sym, ap, ◌∙◌, subst, append-nil}
use Rattle.std.proofs.lemmas.List.{map_push}
use Rattle.slices.specs.VerdictValues.{VerdictValue}
use Rattle.suite.specs.declared.case.Case.{Case}
use Rattle.suite.specs.declared.expected.Row.{Row}
use Rattle.outcome.specs.Forms.{verdict_text, verdicts_text}
use Rattle.outcome.specs.Rows.{RowTexts, texts_of, verdict_row, verdict_rows}
use Rattle.outcome.specs.declared.form.Form.{Form}
use Rattle.outcome.proofs.Added.{put_first}

pub no_texts : (form : Form) (ms : ℕ) (cs : List Case) (vs : List VerdictValue) → (cs ≡ []) ⊎ (vs ≡ []) → verdicts_text form ms cs vs ≡ []
no_texts form ms cs vs (inl e) = rw e refl
no_texts form ms [] vs (inr e) = refl
no_texts form ms (c ∷ cs) vs (inr e) = rw e refl

pub no_rows : (cs : List Case) (vs : List VerdictValue) → (cs ≡ []) ⊎ (vs ≡ []) → verdict_rows cs vs ≡ []
no_rows cs vs (inl e) = rw e refl
no_rows [] vs (inr e) = refl
no_rows (c ∷ cs) vs (inr e) = rw e refl

-- nothing is left to add
pub at_end : {A : Type 0} (xs more whole : List A) → xs ++ more ≡ whole → more ≡ [] → xs ≡ whole
at_end xs more whole h e = sym (append-nil xs) ∙ ap (λ l. xs ++ l) (sym e) ∙ h

-- the text of the first verdict was added
pub text_on : (form : Form) (ms : ℕ) (old new all : List ℕ) (cs rest : List Case) (vs others : List VerdictValue) (c : Case) (v : VerdictValue)
    → cs ≡ c ∷ rest → vs ≡ v ∷ others → new ≡ old ++ verdict_text form ms c v.finding → old ++ verdicts_text form ms cs vs ≡ all → new ++ verdicts_text form ms rest others ≡ all
text_on form ms old new all cs rest vs others c v e f put h =
    let P : List Case → Type 0 = λ l. old ++ verdicts_text form ms l vs ≡ all in
    let Q : List VerdictValue → Type 0 = λ l. old ++ verdicts_text form ms (c ∷ rest) l ≡ all in
    put_first old (verdict_text form ms c v.finding) new (verdicts_text form ms rest others) all put (subst Q f (subst P e h))

-- its row was
pub row_on : (old new : List Row) (row : Row) (all : List RowTexts) (cs rest : List Case) (vs others : List VerdictValue) (c : Case) (v : VerdictValue)
    → cs ≡ c ∷ rest → vs ≡ v ∷ others → new ≡ old ++ row ∷ [] → texts_of row ≡ verdict_row c v.finding → map texts_of old ++ verdict_rows cs vs ≡ all → map texts_of new ++ verdict_rows rest others ≡ all
row_on old new row all cs rest vs others c v e f put told h =
    let P : List Case → Type 0 = λ l. map texts_of old ++ verdict_rows l vs ≡ all in
    let Q : List VerdictValue → Type 0 = λ l. map texts_of old ++ verdict_rows (c ∷ rest) l ≡ all in
    let added = ap (map texts_of) put ∙ map_push texts_of old row ∙ ap (λ r. map texts_of old ++ r ∷ []) told in
    put_first (map texts_of old) (verdict_row c v.finding ∷ []) (map texts_of new) (verdict_rows rest others) all added (subst Q f (subst P e h))
