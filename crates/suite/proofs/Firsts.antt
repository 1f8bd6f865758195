-- The first row of each case.
use denote.Bor.{Bor}
use Rattle.std.proofs.Common.{◌≡◌, ℕ, List, [], ◌∷◌, ◌++◌, Bool, true, false, cond, ◌&&◌, Option, Some, find, map, reverse, option_map, bytes_eq, refl, sym, ◌∙◌, ap}
use Rattle.std.proofs.lemmas.List.{map-append, reverse-append}
use Rattle.std.proofs.lemmas.Cmp.{nat_list_eq_equiv}
use Rattle.suite.specs.Expected.{same_case}
use Rattle.suite.specs.declared.expected.Row.{Row}

-- the case of a row
abbrev pub case_of : Row → Bor (List ℕ) × Bor (List ℕ)
case_of r = (record { ref_ptr = (0, 0); now = r.path.items }, record { ref_ptr = (0, 0); now = r.model.items })

-- a row in front comes before those of its case
pub put_first : (r : Row) (x : Bor Row) (xs : List (Bor Row)) (c : Bor (List ℕ) × Bor (List ℕ)) (old new : Option (Bor Row)) → c.0.now ≡ x.now.path.items → c.1.now ≡ x.now.model.items
    → new ≡ cond (bytes_eq c.0.now r.path.items && bytes_eq c.1.now r.model.items) (Some x) old
    → option_map (λ s. s.now) old ≡ find (same_case r) (reverse (map (λ e. e.now) xs))
    → option_map (λ s. s.now) new ≡ find (same_case r) (reverse (map (λ e. e.now) (xs ++ (x ∷ []))))
put_first r x xs c old new p q put so_far =
    let turned : (bytes_eq c.0.now r.path.items && bytes_eq c.1.now r.model.items) ≡ same_case r x.now =
    ap (λ t. bytes_eq t r.path.items && bytes_eq c.1.now r.model.items) p ∙ ap (λ t. bytes_eq x.now.path.items r.path.items && bytes_eq t r.model.items) q
    ∙ ap (λ b. b && bytes_eq x.now.model.items r.model.items) (nat_list_eq_equiv.symm x.now.path.items r.path.items) ∙ ap (λ b. bytes_eq r.path.items x.now.path.items && b) (nat_list_eq_equiv.symm x.now.model.items r.model.items) in
    ap (option_map (λ s. s.now)) (put ∙ ap (λ b. cond b (Some x) old) turned) ∙ by (same_case r x.now) ∙ ap (λ o. cond (same_case r x.now) (Some x.now) o) so_far ∙ ap (find (same_case r)) (sym front)
  where
    by : (b : Bool) → option_map (λ s. s.now) (cond b (Some x) old) ≡ cond b (Some x.now) (option_map (λ s. s.now) old)
    by true = refl
    by false = refl

    front : reverse (map (λ e. e.now) (xs ++ (x ∷ []))) ≡ x.now ∷ reverse (map (λ e. e.now) xs)
    front = ap reverse (map-append (λ e. e.now) xs (x ∷ [])) ∙ reverse-append (map (λ e. e.now) xs) (x.now ∷ [])
