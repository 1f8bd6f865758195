-- Stored rows, read back.
use Rattle.std.proofs.Common.{◌≡◌, ℕ, zero, suc, List, [], ◌∷◌, ◌++◌, map, length, false, ◌==◌, Some, None, Result, Ok, Err, refl, sym, ap, ◌∙◌, subst, append_assoc}
use Rattle.std.specs.Prelude.{◌≢◌, All, slice_get, MatchResult, IfOk, IfErr}
use Rattle.std.specs.List.{flat_map}
use Rattle.std.proofs.lemmas.Bool.{ne_eqb}
use Rattle.std.proofs.lemmas.List.Elements.{All-weaker, All-append, All-cons, All-head, All-tail}
use Rattle.std.proofs.lemmas.List.Splits.{slice_split_at, slice_split_none}
use Rattle.suite.specs.Expected.{stored_text}
use Rattle.suite.specs.declared.expected.Row.{Row}
use Rattle.outcome.specs.Rows.{RowTexts, texts_of}
use Rattle.outcome.specs.Reading.{AreRowsOf, EndsAt, IsField, IsNoRow, IsWhole, of_fields, parts, row_of_line}
use Rattle.outcome.specs.declared.reading.RowsFault.{RowsFault}
use Rattle.outcome.specs.declared.reading.RowsFault.TheVariants.{NoRow, NoMemory}

-- a stored row without its line feed
abbrev line_of : Row → List ℕ
line_of r = r.path.items ++ 9 ∷ (r.model.items ++ 9 ∷ (r.answer.items ++ 9 ∷ r.states.items))

no_tab : (text : List ℕ) → IsField text → All (λ b. (b == 9) ≡ false) text
no_tab text h = All-weaker (λ b. (b ≢ 9) × (b ≢ 10)) (λ b. (b == 9) ≡ false) (λ b p. ne_eqb b 9 p.0) text h

no_end : (text : List ℕ) → IsField text → All (λ b. (b == 10) ≡ false) text
no_end text h = All-weaker (λ b. (b ≢ 9) × (b ≢ 10)) (λ b. (b == 10) ≡ false) (λ b p. ne_eqb b 10 p.1) text h

fields_in : (r : Row) → IsWhole r → parts 9 (line_of r) ≡ r.path.items ∷ r.model.items ∷ r.answer.items ∷ r.states.items ∷ []
fields_in r h =
    slice_split_at (λ b. b == 9) r.path.items 9 _ (no_tab r.path.items h.path) refl
    ∙ ap (λ l. r.path.items ∷ l) (slice_split_at (λ b. b == 9) r.model.items 9 _ (no_tab r.model.items h.model) refl
    ∙ ap (λ l. r.model.items ∷ l) (slice_split_at (λ b. b == 9) r.answer.items 9 _ (no_tab r.answer.items h.answer) refl
    ∙ ap (λ l. r.answer.items ∷ l) (slice_split_none (λ b. b == 9) r.states.items (no_tab r.states.items h.states))))

is_row : (r : Row) → IsWhole r → row_of_line (line_of r) ≡ Some (texts_of r)
is_row r h = ap of_fields (fields_in r h)

-- neither four fields nor twelve
pub no_row : (fs : List (List ℕ)) (n : ℕ) → length fs ≡ n → n ≢ 4 → n ≢ 12 → None ≡ of_fields fs
no_row fs n e four twelve = rw (e, ne_eqb n 4 four, ne_eqb n 12 twelve) refl

-- no line feed in the line
one_line : (r : Row) → IsWhole r → All (λ b. (b == 10) ≡ false) (line_of r)
one_line r h =
    let N : ℕ → Type 0 = λ b. (b == 10) ≡ false in
    All-append N r.path.items _ (no_end r.path.items h.path) (All-cons N 9 _ refl
    (All-append N r.model.items _ (no_end r.model.items h.model) (All-cons N 9 _ refl
    (All-append N r.answer.items _ (no_end r.answer.items h.answer) (All-cons N 9 _ refl
    (no_end r.states.items h.states))))))

whole_line : (r : Row) (rest : List ℕ) → stored_text r ++ rest ≡ line_of r ++ 10 ∷ rest
whole_line r rest = simp append_assoc

lines_in : (rs : List Row) → All IsWhole rs → parts 10 (flat_map stored_text rs) ≡ map line_of rs ++ [] ∷ []
lines_in [] h = refl
lines_in (r ∷ rs) h =
    ap (parts 10) (whole_line r (flat_map stored_text rs))
    ∙ slice_split_at (λ b. b == 10) (line_of r) 10 (flat_map stored_text rs) (one_line r (All-head IsWhole r rs h)) refl
    ∙ ap (λ l. line_of r ∷ l) (lines_in rs (All-tail IsWhole r rs h))

-- what a line that isn't empty gives
first_row : (l : List ℕ) (ls : List (List ℕ)) (rows : List RowTexts) → l ≢ [] → AreRowsOf (l ∷ ls) rows → (row : RowTexts) × (rest : List RowTexts) × (rows ≡ row ∷ rest) × (row_of_line l ≡ Some row) × AreRowsOf ls rest
first_row [] ls rows some h = absurd (some refl)
first_row (b ∷ bs) ls [] some h = absurd h
first_row (b ∷ bs) ls (row ∷ rest) some h = (row, rest, refl, h.0, h.1)

filled : (xs ys : List ℕ) → xs ++ 9 ∷ ys ≢ []
filled [] ys e = cc e
filled (x ∷ xs) ys e = cc e

not_empty : (r : Row) → line_of r ≢ []
not_empty r = filled r.path.items _

some_is : {X : Type 0} (x y : X) → Some x ≡ Some y → x ≡ y
some_is x y e = cc

exactly : (rs : List Row) (rows : List RowTexts) → All IsWhole rs → AreRowsOf (map line_of rs ++ [] ∷ []) rows → rows ≡ map texts_of rs
exactly [] rows h are = are
exactly (r ∷ rs) rows h are =
    let f = first_row (line_of r) (map line_of rs ++ [] ∷ []) rows (not_empty r) are in
    let same : f.0 ≡ texts_of r = some_is _ _ (sym f.3 ∙ is_row r (All-head IsWhole r rs h)) in
    f.2 ∙ ap (λ x. x ∷ f.1) same ∙ ap (λ l. texts_of r ∷ l) (exactly rs f.1 (All-tail IsWhole r rs h) f.4)

none_ends : (rs : List Row) (k : ℕ) (line : List ℕ) → All IsWhole rs → slice_get (map line_of rs ++ [] ∷ []) k ≡ Some line → line ≢ [] → row_of_line line ≡ None → ⊥
none_ends [] zero line h here some none = some (sym (some_is [] line here))
none_ends [] (suc k) line h here some none = cc here
none_ends (r ∷ rs) zero line h here some none =
    let same : line_of r ≡ line = some_is (line_of r) line here in
    let f : Some (texts_of r) ≡ None = sym (is_row r (All-head IsWhole r rs h)) ∙ ap row_of_line same ∙ none in
    cc f
none_ends (r ∷ rs) (suc k) line h here some none = none_ends rs k line (All-tail IsWhole r rs h) here some none

-- what is read of a text that stored rows make

is_read : (text : List ℕ) (rs : List Row) (rows : List RowTexts) → All IsWhole rs → text ≡ flat_map stored_text rs → AreRowsOf (parts 10 text) rows → rows ≡ map texts_of rs
is_read text rs rows h is are =
    let P : List (List ℕ) → Type 0 = λ ls. AreRowsOf ls rows in
    exactly rs rows h (subst P (ap (parts 10) is ∙ lines_in rs h) are)

isnt_refused : (text : List ℕ) (rs : List Row) (e : RowsFault) → All IsWhole rs → text ≡ flat_map stored_text rs → IsNoRow (parts 10 text) e → e ≡ NoMemory
isnt_refused text rs NoMemory h is none = refl
isnt_refused text rs (NoRow number) h is found =
    let P : List (List ℕ) → Type 0 = λ ls. EndsAt ls found.0 in
    let ends = subst P (ap (parts 10) is ∙ lines_in rs h) found.2 in
    absurd (none_ends rs found.0 ends.line h ends.here ends.filled ends.other)

pub told_of : {V : Type 0} (f : V → List RowTexts) (text : List ℕ) (r : Result V RowsFault) → IfOk r (λ v. AreRowsOf (parts 10 text) (f v)) → IfErr r (IsNoRow (parts 10 text))
    → (rs : List Row) → All IsWhole rs → text ≡ flat_map stored_text rs → MatchResult r (λ v. f v ≡ map texts_of rs) (λ e. e ≡ NoMemory)
told_of f text (Ok v) are none rs h is = is_read text rs (f v) h is are
told_of f text (Err e) are none rs h is = isnt_refused text rs e h is none
