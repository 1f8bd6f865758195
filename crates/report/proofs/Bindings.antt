-- The bindings of a state, written from the front.
use Rattle.std.proofs.Common.{◌≡◌, ℕ, List, [], ◌∷◌, ◌++◌, map, codes, refl, sym, ap, append_assoc, append-nil, ◌⊎◌, inl, inr}
use Rattle.std.specs.List.{join_with_byte, zip}
use Rattle.conditions.specs.declared.place.Place.{Place}
use Rattle.report.specs.Texts.{binding_text}

-- what is left to write: a separator, a binding, and then the others, each behind a space
abbrev pub left : List ℕ → List (Place × ℕ) → List ℕ
left separator [] = []
left separator (b ∷ bs) = separator ++ binding_text b ++ left (codes " ") bs

others : (b : Place × ℕ) (bs : List (Place × ℕ)) → binding_text b ++ left (codes " ") bs ≡ join_with_byte 32 (map binding_text (b ∷ bs))
others b [] = append-nil (binding_text b)
others b (d ∷ bs) = ap (λ l. binding_text b ++ (32 ∷ l)) (others d bs)

pub all_left : (bs : List (Place × ℕ)) → join_with_byte 32 (map binding_text bs) ≡ left [] bs
all_left [] = refl
all_left (b ∷ bs) = sym (others b bs)

pub left-more : (separator : List ℕ) (as' : List Place) (vs : List ℕ) (p : Place) (v : ℕ) (as'' : List Place) (vs' : List ℕ) → as' ≡ p ∷ as'' → vs ≡ v ∷ vs' → left separator (zip as' vs) ≡ (separator ++ binding_text (p, v)) ++ left (codes " ") (zip as'' vs')
left-more separator as' vs p v as'' vs' a b = rw (a, b) refl

pub left-none : (separator : List ℕ) (as' : List Place) (vs : List ℕ) → (as' ≡ []) ⊎ (vs ≡ []) → left separator (zip as' vs) ≡ []
left-none separator as' vs (inl e) = rw e refl
left-none separator [] vs (inr e) = refl
left-none separator (a ∷ as') vs (inr e) = rw e refl

pub regroup : (whole front next rest' rest end' : List ℕ) → whole ≡ front ++ rest' → rest' ≡ next ++ rest → whole ++ end' ≡ front ++ (next ++ (rest ++ end'))
regroup whole front next rest' rest end' a b = rw (a, b) (simp append_assoc)

pub further : (whole front next rest' rest : List ℕ) → whole ≡ front ++ rest' → rest' ≡ next ++ rest → whole ≡ (front ++ next) ++ rest
further whole front next rest' rest a b = rw (a, b) (simp append_assoc)
