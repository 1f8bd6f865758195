-- Names that are listed one after another.
use Rattle.std.proofs.Common.{◌≡◌, ℕ, zero, suc, ◌+◌, ◌<◌, List, [], ◌∷◌, ◌++◌, length, get_or, map, filter, take, drop, Bool, true, false, cond, None, Some, refl, sym, ap, ◌∙◌, arith}
use Rattle.std.proofs.lemmas.List.{map-append, take_more}
use Rattle.std.specs.Prelude.{slice_get, option_map}
use Rattle.cat_model.specs.declared.files.Entry.{Entry}
use Rattle.journal.specs.declared.listing.Loaded.{Loaded}
use Rattle.litmus_tree.specs.Tree.{Word}
use Rattle.book.specs.Listings.{is_test, test_row, listed_tests, is_cat, cat_row, listed_cats}
use Rattle.book.specs.declared.names.TestSlot.{TestSlot}

-- the rows of those names of xs that pass
abbrev pub rows : {X : Type 0} → (X → Word) → (Word → Bool) → (Word → Loaded) → List X → List Loaded
rows f p r xs = map r (filter p (map f xs))

none_left : {X : Type 0} (f : X → Word) (xs : List X) (i : ℕ) → option_map f (slice_get xs i) ≡ None → drop i xs ≡ []
none_left f [] zero e = refl
none_left f [] (suc i) e = refl
none_left f (x ∷ xs) zero e = cc
none_left f (x ∷ xs) (suc i) e = none_left f xs i e

some_left : {X : Type 0} (f : X → Word) (xs : List X) (i : ℕ) (n : Word) → option_map f (slice_get xs i) ≡ Some n → (x : X) × (drop i xs ≡ x ∷ drop (suc i) xs) × (f x ≡ n)
some_left f [] i n e = cc
some_left f (x ∷ xs) zero n e = let same : f x ≡ n = cc in (x, refl, same)
some_left f (x ∷ xs) (suc i) n e = some_left f xs i n e

snoc : {X : Type 0} (as' : List X) (b : X) (cs : List X) → as' ++ b ∷ cs ≡ (as' ++ b ∷ []) ++ cs
snoc [] b cs = refl
snoc (a ∷ as') b cs = ap (λ xs. a ∷ xs) (snoc as' b cs)

no_rest : {X : Type 0} (ys : List X) → ys ++ [] ≡ ys
no_rest [] = refl
no_rest (y ∷ ys) = ap (λ zs. y ∷ zs) (no_rest ys)

all_rows : {X : Type 0} (f : X → Word) (p : Word → Bool) (r : Word → Loaded) (xs : List X) (i : ℕ) (items whole : List Loaded) → option_map f (slice_get xs i) ≡ None → items ++ rows f p r (drop i xs) ≡ whole → items ≡ whole
all_rows f p r xs i items whole e h = sym (no_rest items) ∙ ap (λ ys. items ++ rows f p r ys) (sym (none_left f xs i e)) ∙ h

next_row : {X : Type 0} (f : X → Word) (p : Word → Bool) (r : Word → Loaded) (xs : List X) (i : ℕ) (n : Word) (items whole : List Loaded) → option_map f (slice_get xs i) ≡ Some n → p n ≡ true → items ++ rows f p r (drop i xs) ≡ whole → (items ++ r n ∷ []) ++ rows f p r (drop (i + 1) xs) ≡ whole
next_row f p r xs i n items whole e is h =
    let at = some_left f xs i n e in
    let next : i + 1 ≡ suc i = omega arith in
    let first : rows f p r (drop i xs) ≡ r n ∷ rows f p r (drop (suc i) xs) =
    ap (rows f p r) at.1 ∙ ap (λ x. map r (cond (p x) (x ∷ filter p (map f (drop (suc i) xs))) (filter p (map f (drop (suc i) xs))))) at.2
    ∙ ap (λ b. map r (cond b (n ∷ filter p (map f (drop (suc i) xs))) (filter p (map f (drop (suc i) xs))))) is in
    rw next (sym (snoc items (r n) (rows f p r (drop (suc i) xs))) ∙ ap (λ ys. items ++ ys) (sym first) ∙ h)

no_row : {X : Type 0} (f : X → Word) (p : Word → Bool) (r : Word → Loaded) (xs : List X) (i : ℕ) (n : Word) (items whole : List Loaded) → option_map f (slice_get xs i) ≡ Some n → p n ≡ false → items ++ rows f p r (drop i xs) ≡ whole → items ++ rows f p r (drop (i + 1) xs) ≡ whole
no_row f p r xs i n items whole e is h =
    let at = some_left f xs i n e in
    let next : i + 1 ≡ suc i = omega arith in
    let first : rows f p r (drop i xs) ≡ rows f p r (drop (suc i) xs) =
    ap (rows f p r) at.1 ∙ ap (λ x. map r (cond (p x) (x ∷ filter p (map f (drop (suc i) xs))) (filter p (map f (drop (suc i) xs))))) at.2
    ∙ ap (λ b. map r (cond b (n ∷ filter p (map f (drop (suc i) xs))) (filter p (map f (drop (suc i) xs))))) is in
    rw next (ap (λ ys. items ++ ys) (sym first) ∙ h)

-- tests

abbrev name : Word × TestSlot → Word
name t = t.0

-- the rows that are listed, and those that follow from place i on, are all
abbrev pub TestsListed : List (Word × TestSlot) → ℕ → List Loaded → Type 0
TestsListed tests i items = items ++ rows name (is_test tests) (test_row tests) (drop i tests) ≡ listed_tests tests

pub no_more : (tests : List (Word × TestSlot)) (i : ℕ) (items : List Loaded) → option_map name (slice_get tests i) ≡ None → TestsListed tests i items → items ≡ listed_tests tests
no_more tests i items e h = all_rows name (is_test tests) (test_row tests) tests i items (listed_tests tests) e h

pub test_there : (tests : List (Word × TestSlot)) (i : ℕ) (n : Word) (items : List Loaded) → option_map name (slice_get tests i) ≡ Some n → is_test tests n ≡ true → TestsListed tests i items → TestsListed tests (i + 1) (items ++ test_row tests n ∷ [])
test_there tests i n items e is h = next_row name (is_test tests) (test_row tests) tests i n items (listed_tests tests) e is h

pub test_away : (tests : List (Word × TestSlot)) (i : ℕ) (n : Word) (items : List Loaded) → option_map name (slice_get tests i) ≡ Some n → is_test tests n ≡ false → TestsListed tests i items → TestsListed tests (i + 1) items
test_away tests i n items e is h = no_row name (is_test tests) (test_row tests) tests i n items (listed_tests tests) e is h

-- cat files

abbrev of : Entry → Word
of e = e.name

abbrev pub CatsListed : List Entry → ℕ → List Loaded → Type 0
CatsListed cats i items = items ++ rows of (is_cat cats) (cat_row cats) (drop i cats) ≡ listed_cats cats

pub no_more_cats : (cats : List Entry) (i : ℕ) (items : List Loaded) → option_map of (slice_get cats i) ≡ None → CatsListed cats i items → items ≡ listed_cats cats
no_more_cats cats i items e h = all_rows of (is_cat cats) (cat_row cats) cats i items (listed_cats cats) e h

pub cat_there : (cats : List Entry) (i : ℕ) (n : Word) (items : List Loaded) → option_map of (slice_get cats i) ≡ Some n → is_cat cats n ≡ true → CatsListed cats i items → CatsListed cats (i + 1) (items ++ cat_row cats n ∷ [])
cat_there cats i n items e is h = next_row of (is_cat cats) (cat_row cats) cats i n items (listed_cats cats) e is h

pub cat_away : (cats : List Entry) (i : ℕ) (n : Word) (items : List Loaded) → option_map of (slice_get cats i) ≡ Some n → is_cat cats n ≡ false → CatsListed cats i items → CatsListed cats (i + 1) items
cat_away cats i n items e is h = no_row of (is_cat cats) (cat_row cats) cats i n items (listed_cats cats) e is h

-- one more of a list that is mapped from the front
pub mapped_more : {A B : Type 0} (f : A → B) (xs : List A) (i : ℕ) (x : A) (y : B) (done more : List B) → i < length xs → x ≡ get_or xs i x → y ≡ f x → more ≡ done ++ y ∷ [] → done ≡ map f (take i xs) → more ≡ map f (take (i + 1) xs)
mapped_more {B = B} f xs i x y done more l is e m h =
    m ∙ ap (λ (ys : List B). ys ++ y ∷ []) h
    ∙ ap (λ (z : B). map f (take i xs) ++ z ∷ []) (e ∙ ap f is)
    ∙ sym (map-append f (take i xs) (get_or xs i x ∷ []))
    ∙ ap (map f) (sym (take_more xs i x l))
