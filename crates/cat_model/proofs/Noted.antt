-- Files in order of first reading.
use Rattle.std.proofs.Common.{◌≡◌, List, [], ◌∷◌, ◌++◌, Bool, true, false, not, ◌&&◌, ◌||◌, map, refl, sym, ◌∙◌, inl, inr, ap, append_assoc, append-nil, filter}
use Rattle.std.specs.List.{list_any}
use Rattle.std.specs.Str.{bytes_eq}
use Rattle.std.proofs.lemmas.List.Folds.{list_any-append}
use Rattle.std.proofs.lemmas.Slice.Eq.{bytes_eq-Decides}
use Rattle.std.proofs.lemmas.Bool.{cases_Bool}
use Rattle.cat_tree.specs.Tree.{Word}
use Rattle.cat_model.specs.Closure.{once, versioned}
use Rattle.cat_model.specs.Walks.{note, note_all}
use Rattle.cat_model.specs.declared.files.Entry.{Entry}
use Rattle.cat_model.specs.declared.model.FileVersion.{FileVersion}

filter-twice : (p q r : Word → Bool) → ((y : Word) → r y ≡ (p y && q y)) → (ys : List Word) → filter p (filter q ys) ≡ filter r ys
filter-twice p q r h [] = refl
filter-twice p q r h (y ∷ ys) =
    let i = filter-twice p q r h ys in
    elim (cases_Bool (q y)) [
      | inl t ↦ elim (cases_Bool (p y)) [ inl u ↦ rw (h y, t, u) (ap (λ (us : List Word). y ∷ us) i) | inr u ↦ rw (h y, t, u) i ]
      | inr t ↦ elim (cases_Bool (p y)) [ inl u ↦ rw (h y, t, u) i | inr u ↦ rw (h y, t, u) i ]
    ]

filter-all : (p : Word → Bool) → ((y : Word) → p y ≡ true) → (ys : List Word) → filter p ys ≡ ys
filter-all p h [] = refl
filter-all p h (y ∷ ys) = rw (h y) (ap (λ (us : List Word). y ∷ us) (filter-all p h ys))

-- whether y is among those seen
is_in : List Word → Word → Bool
is_in seen y = list_any (λ s. bytes_eq s y) seen

unseen : List Word → Word → Bool
unseen seen y = not (is_in seen y)

in-map : (es : List Entry) (seen : List Word) (x : Word) → list_any (λ (f : FileVersion). bytes_eq f.name x) (map (versioned es) seen) ≡ list_any (λ s. bytes_eq s x) seen
in-map es [] x = refl
in-map es (s ∷ seen) x = ap (λ b. bytes_eq s x || b) (in-map es seen x)

-- a name that is equal to one that was seen was seen
old-again : (seen : List Word) (x y : Word) → is_in seen x ≡ true → unseen seen y ≡ (unseen seen y && not (bytes_eq x y))
unfolding is_in unseen
old-again seen x y t =
    elim (cases_Bool (bytes_eq x y)) [
      | inl e ↦ (let same : x ≡ y = (bytes_eq-Decides x y).0 e in let seen_y : list_any (λ s. bytes_eq s y) seen ≡ true = ap (λ z. list_any (λ s. bytes_eq s z) seen) (sym same) ∙ t in rw seen_y refl)
      | inr e ↦ rw e (elim (cases_Bool (list_any (λ s. bytes_eq s y) seen)) [ inl u ↦ rw u refl | inr u ↦ rw u refl ])
    ]

one-more : (seen : List Word) (x y : Word) → unseen (seen ++ x ∷ []) y ≡ (unseen seen y && not (bytes_eq x y))
unfolding is_in unseen
one-more seen x y =
    rw (list_any-append (λ s. bytes_eq s y) seen (x ∷ []))
    (elim (cases_Bool (list_any (λ s. bytes_eq s y) seen)) [
      | inl u ↦ rw u refl
      | inr u ↦ rw u (elim (cases_Bool (bytes_eq x y)) [ inl e ↦ rw e refl | inr e ↦ rw e refl ])
    ])

map-push : (es : List Entry) (seen : List Word) (x : Word) → map (versioned es) seen ++ versioned es x ∷ [] ≡ map (versioned es) (seen ++ x ∷ [])
map-push es [] x = refl
map-push es (s ∷ seen) x = ap (λ (fs : List FileVersion). versioned es s ∷ fs) (map-push es seen x)

note-old : (es : List Entry) (seen : List Word) (x : Word) → list_any (λ s. bytes_eq s x) seen ≡ true → note es (map (versioned es) seen) x ≡ map (versioned es) seen
note-old es seen x t = rw (in-map es seen x ∙ t) refl

note-new : (es : List Entry) (seen : List Word) (x : Word) → list_any (λ s. bytes_eq s x) seen ≡ false → note es (map (versioned es) seen) x ≡ map (versioned es) (seen ++ x ∷ [])
note-new es seen x t = rw (in-map es seen x ∙ t) (map-push es seen x)

noted-from : (es : List Entry) (seen xs : List Word) → note_all es (map (versioned es) seen) xs ≡ map (versioned es) (seen ++ filter (unseen seen) (once xs))
unfolding is_in unseen
noted-from es seen [] = ap (map (versioned es)) (sym (append-nil seen))
noted-from es seen (x ∷ xs) =
    elim (cases_Bool (list_any (λ s. bytes_eq s x) seen)) [
      | inl t ↦ ap (λ fs. note_all es fs xs) (note-old es seen x t) ∙ (noted-from es seen xs
          ∙ rw t (ap (λ us. map (versioned es) (seen ++ us)) (sym (filter-twice (unseen seen) (λ y. not (bytes_eq x y)) (unseen seen) (λ y. old-again seen x y t) (once xs)))))
      | inr t ↦ ap (λ fs. note_all es fs xs) (note-new es seen x t) ∙ (noted-from es (seen ++ x ∷ []) xs
          ∙ rw t (ap (map (versioned es)) (append_assoc seen (x ∷ []) (filter (unseen (seen ++ x ∷ [])) (once xs))
          ∙ ap (λ us. seen ++ x ∷ us) (sym (filter-twice (unseen seen) (λ y. not (bytes_eq x y)) (unseen (seen ++ x ∷ [])) (λ y. one-more seen x y) (once xs))))))
    ]

-- the files that are noted are those read, each once, where it was first read
pub noted : (es : List Entry) (xs : List Word) → note_all es [] xs ≡ map (versioned es) (once xs)
unfolding is_in unseen
noted es xs = noted-from es [] xs ∙ ap (map (versioned es)) (filter-all (unseen []) (λ y. refl) (once xs))
