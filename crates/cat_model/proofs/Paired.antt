-- Two lists of one length, and what is said of each two at one place.
use Rattle.std.proofs.Common.{◌≡◌, ◌≤◌, ◌-◌, ◌⊎◌, ◌↔◌, inl, inr, ℕ, zero, suc, List, [], ◌∷◌, ◌++◌, length, take, drop, refl, ap, sym, ◌∙◌, subst, arith}
use Rattle.std.specs.Prelude.{reverse}
use Rattle.std.proofs.lemmas.Bool.{cases_lt}
use Rattle.std.proofs.lemmas.List.{take-append-drop, reverse-append, reverse-reverse, length-reverse, length-drop}
use Rattle.cat_tree.specs.Terms.{latest, earlier}

-- F says R of each two at one place, of lists of one length.
pub record IsPaired {A X : Type 0} (R : A → X → Type 0) (F : List A → List X → Type 0) : Type 0 where
  pub ends : F [] []
  pub too_long : (k : A) (ks : List A) → F (k ∷ ks) [] → ⊥
  pub too_short : (x : X) (xs : List X) → F [] (x ∷ xs) → ⊥
  pub both : (k : A) (ks : List A) (x : X) (xs : List X) → F (k ∷ ks) (x ∷ xs) ↔ (R k x × F ks xs)

cases_from : {A : Type 0} (ks : List A) (m n : ℕ) → m ≡ length ks - n → length (reverse (drop m ks)) ≡ length ks - m → (length (reverse (drop m ks)) ≡ n) ⊎ ((reverse (take m ks) ≡ []) × (length (reverse (drop m ks)) ≤ n))
cases_from ks m n e a = elim (cases_lt (length ks) n) [
  | inl l ↦ inr ((let z : m ≡ 0 = omega (arith, l, e) in ap (λ j. reverse (take j ks)) z), omega (arith, a, l))
  | inr l ↦ inl (omega (arith, a, l, e))
]

module _ {A X : Type 0} {R : A → X → Type 0} {F : List A → List X → Type 0} (p : IsPaired R F) where
  pub for_length : (ks : List A) (xs : List X) → F ks xs → length ks ≡ length xs
  for_length [] [] h = refl
  for_length [] (x ∷ xs) h = absurd (p.too_short x xs h)
  for_length (k ∷ ks) [] h = absurd (p.too_long k ks h)
  for_length (k ∷ ks) (x ∷ xs) h = ap suc (for_length ks xs ((p.both k ks x xs).0 h).1)

  -- the latest, and what is below it
  pub for_latest : (d : A) (e : X) (ks : List A) (xs : List X) → R d e → F ks xs → R (latest d ks) (latest e xs) × F (earlier ks) (earlier xs)
  for_latest d e [] [] r h = (r, h)
  for_latest d e [] (x ∷ xs) r h = absurd (p.too_short x xs h)
  for_latest d e (k ∷ ks) [] r h = absurd (p.too_long k ks h)
  for_latest d e (k ∷ ks) (x ∷ xs) r h = (p.both k ks x xs).0 h

  for_push : (ks : List A) (xs : List X) (k : A) (x : X) → F ks xs → R k x → F (ks ++ k ∷ []) (xs ++ x ∷ [])
  for_push [] [] k x h r = (p.both k [] x []).1 (r, h)
  for_push [] (y ∷ xs) k x h r = absurd (p.too_short y xs h)
  for_push (j ∷ ks) [] k x h r = absurd (p.too_long j ks h)
  for_push (j ∷ ks) (y ∷ xs) k x h r = (let b = (p.both j ks y xs).0 h in (p.both j (ks ++ k ∷ []) y (xs ++ x ∷ [])).1 (b.0, for_push ks xs k x b.1 r))

  for_reverse : (ks : List A) (xs : List X) → F ks xs → F (reverse ks) (reverse xs)
  for_reverse [] [] h = h
  for_reverse [] (x ∷ xs) h = absurd (p.too_short x xs h)
  for_reverse (k ∷ ks) [] h = absurd (p.too_long k ks h)
  for_reverse (k ∷ ks) (x ∷ xs) h =
      let P : List A → Type 0 = λ l. F l (reverse (x ∷ xs)) in
      let Q : List X → Type 0 = λ l. F (reverse ks ++ k ∷ []) l in
      let b = (p.both k ks x xs).0 h in
      subst P (sym (reverse-append (k ∷ []) ks)) (subst Q (sym (reverse-append (x ∷ []) xs)) (for_push (reverse ks) (reverse xs) k x (for_reverse ks xs b.1) b.0))

  for_split : (js ks : List A) (xs : List X) (n : ℕ) → ((length js ≡ n) ⊎ ((ks ≡ []) × (length js ≤ n))) → F (js ++ ks) xs → F js (take n xs) × F ks (drop n xs)
  for_split [] ks xs zero w h = (p.ends, h)
  for_split [] ks [] (suc n) w h = (p.ends, h)
  for_split [] ks (x ∷ xs) (suc n) (inl e) h = absurd (omega (arith, e))
  for_split [] ks (x ∷ xs) (suc n) (inr e) h = (let P : List A → Type 0 = λ l. F l (x ∷ xs) in absurd (p.too_short x xs (subst P e.0 h)))
  for_split (j ∷ js) ks [] n w h = absurd (p.too_long j (js ++ ks) h)
  for_split (j ∷ js) ks (x ∷ xs) zero (inl e) h = absurd (omega (arith, e))
  for_split (j ∷ js) ks (x ∷ xs) zero (inr e) h = (let a = e.1 in absurd (omega (arith, a)))
  for_split (j ∷ js) ks (x ∷ xs) (suc n) w h =
      let b = (p.both j (js ++ ks) x xs).0 h in
      let less : (length js ≡ n) ⊎ ((ks ≡ []) × (length js ≤ n)) = elim w [
        | inl e ↦ inl (omega (arith, e))
        | inr e ↦ (let a = e.1 in inr (e.0, omega (arith, a)))
      ] in
      let r = for_split js ks xs n less b.1 in
      ((p.both j js x (take n xs)).1 (b.0, r.0), r.1)

  -- the latest of a vector, as many as n, and those before them
  pub for_call : (ks : List A) (m n : ℕ) (xs : List X) → m ≡ length ks - n → F (reverse ks) xs → F (drop m ks) (reverse (take n xs)) × F (reverse (take m ks)) (drop n xs)
  for_call ks m n xs e h =
      let whole : reverse ks ≡ reverse (drop m ks) ++ reverse (take m ks) = ap (λ l. reverse l) (sym (take-append-drop m ks)) ∙ reverse-append (take m ks) (drop m ks) in
      let P : List A → Type 0 = λ l. F l xs in
      let a : length (reverse (drop m ks)) ≡ length ks - m = length-reverse (drop m ks) ∙ length-drop m ks in
      let r = for_split (reverse (drop m ks)) (reverse (take m ks)) xs n (cases_from ks m n e a) (subst P whole h) in
      let Q : List A → Type 0 = λ l. F l (reverse (take n xs)) in
      (subst Q (reverse-reverse (drop m ks)) (for_reverse (reverse (drop m ks)) (take n xs) r.0), r.1)
