-- Lines that are read, one after another.
use Rattle.std.proofs.Common.{◌≡◌, ℕ, suc, ◌+◌, ◌<◌, List, [], ◌∷◌, ◌++◌, map, length, take, get_or, true, false, ◌==◌, Some, None, refl, sym, ap, ◌∙◌, subst, arith, Bor}
use Rattle.std.specs.Prelude.{◌≢◌, option_map, slice_get}
use Rattle.std.proofs.Math.Seq.{take-suc}
use Rattle.std.proofs.lemmas.Bool.{eqb-true, true≢false}
use Rattle.std.proofs.lemmas.List.{nil_from_length}
use Rattle.std.proofs.lemmas.Option.{slice_get-map, slice_get-get_or, slice_get_within, get_or_from_slice_get}
use Rattle.outcome.specs.Rows.{RowTexts}
use Rattle.outcome.specs.Reading.{AreRowsOf, EndsAt, row_of_line}

pub past_empty : (ls : List (List ℕ)) (rs : List RowTexts) → AreRowsOf ls rs → AreRowsOf (ls ++ [] ∷ []) rs
past_empty [] rs h = h
past_empty ([] ∷ ls) rs h = past_empty ls rs h
past_empty ((b ∷ bs) ∷ ls) [] h = h
past_empty ((b ∷ bs) ∷ ls) (r ∷ rs) h = (h.0, past_empty ls rs h.1)

pub past_row : (ls : List (List ℕ)) (l : List ℕ) (rs : List RowTexts) (r : RowTexts) → l ≢ [] → row_of_line l ≡ Some r → AreRowsOf ls rs → AreRowsOf (ls ++ l ∷ []) (rs ++ r ∷ [])
past_row [] [] rs r some is h = absurd (some refl)
past_row [] (b ∷ bs) rs r some is h =
    let P : List RowTexts → Type 0 = λ xs. AreRowsOf ((b ∷ bs) ∷ []) (xs ++ r ∷ []) in
    subst P (sym h) (is, refl)
past_row ([] ∷ ls) l rs r some is h = past_row ls l rs r some is h
past_row ((b ∷ bs) ∷ ls) l [] r some is h = absurd h
past_row ((b ∷ bs) ∷ ls) l (s ∷ rs) r some is h = (h.0, past_row ls l rs r some is h.1)

-- the line at a place, where a list of slices is seen as texts

pub line_at : (xs : List (Bor (List ℕ))) (k : ℕ) (d : Bor (List ℕ)) → k < length xs → slice_get (map (λ x. x.now) xs) k ≡ Some (get_or xs k d).now
line_at xs k d h = slice_get-map (λ x. x.now) xs k ∙ ap (option_map (λ x. x.now)) (slice_get-get_or xs k d h)

one_more : (ls : List (List ℕ)) (k : ℕ) (l : List ℕ) → slice_get ls k ≡ Some l → take (k + 1) ls ≡ take k ls ++ l ∷ []
one_more ls k l is =
    let next : k + 1 ≡ suc k = omega arith in
    ap (λ n. take n ls) next ∙ take-suc ls k [] (slice_get_within ls k l is) ∙ ap (λ (x : List ℕ). take k ls ++ x ∷ []) (get_or_from_slice_get ls k l [] is)

empty_if : (l : List ℕ) → (length l == 0) ≡ true → l ≡ []
empty_if [] h = refl
empty_if (b ∷ bs) h = nil_from_length (b ∷ bs) (eqb-true (length (b ∷ bs)) 0 h)

filled_if : (l : List ℕ) → (length l == 0) ≡ false → l ≢ []
filled_if [] h e = true≢false h
filled_if (b ∷ bs) h e = cc e

-- what the lines up to a place give, once that at the place is read

pub empty_on : (xs : List (Bor (List ℕ))) (k : ℕ) (d : Bor (List ℕ)) (rs : List RowTexts) → AreRowsOf (take k (map (λ x. x.now) xs)) rs → k < length xs → (length (get_or xs k d).now == 0) ≡ true → AreRowsOf (take (k + 1) (map (λ x. x.now) xs)) rs
empty_on xs k d rs h inside none =
    let ls : List (List ℕ) = map (λ x. x.now) xs in
    let P : List (List ℕ) → Type 0 = λ ys. AreRowsOf ys rs in
    let at : slice_get ls k ≡ Some [] = line_at xs k d inside ∙ ap Some (empty_if (get_or xs k d).now none) in
    subst P (sym (one_more ls k [] at)) (past_empty (take k ls) rs h)

pub row_on : (xs : List (Bor (List ℕ))) (k : ℕ) (d : Bor (List ℕ)) (rs more : List RowTexts) (r : RowTexts) → AreRowsOf (take k (map (λ x. x.now) xs)) rs → k < length xs → (length (get_or xs k d).now == 0) ≡ false
    → row_of_line (get_or xs k d).now ≡ Some r → more ≡ rs ++ r ∷ [] → AreRowsOf (take (k + 1) (map (λ x. x.now) xs)) more
row_on xs k d rs more r h inside some is pushed =
    let ls : List (List ℕ) = map (λ x. x.now) xs in
    let l : List ℕ = (get_or xs k d).now in
    let P : List (List ℕ) → Type 0 = λ ys. AreRowsOf ys (rs ++ r ∷ []) in
    let Q : List RowTexts → Type 0 = λ ys. AreRowsOf (take (k + 1) ls) ys in
    subst Q (sym pushed) (subst P (sym (one_more ls k l (line_at xs k d inside))) (past_row (take k ls) l rs r (filled_if l some) is h))

pub ends_at : (xs : List (Bor (List ℕ))) (k : ℕ) (d : Bor (List ℕ)) (rs : List RowTexts) → AreRowsOf (take k (map (λ x. x.now) xs)) rs → k < length xs → (length (get_or xs k d).now == 0) ≡ false
    → row_of_line (get_or xs k d).now ≡ None → EndsAt (map (λ x. x.now) xs) k
ends_at xs k d rs h inside some is = record { before = rs; read = h; line = (get_or xs k d).now; here = line_at xs k d inside; filled = filled_if (get_or xs k d).now some; other = is }
