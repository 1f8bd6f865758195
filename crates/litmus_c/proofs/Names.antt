-- Names that are noted one after another.
use Rattle.std.proofs.Common.{◌≡◌, ℕ, suc, ◌+◌, ◌<◌, ◌≤◌, List, [], ◌∷◌, ◌++◌, length, refl, sym, ◌∙◌, ap, subst, inl, inr, arith, drop, get_or, drop-cons, add-one, map, length-append}
use Rattle.std.specs.Prelude.{Bool, if◌then◌else◌}
use Rattle.std.specs.List.{flat_map}
use Rattle.std.proofs.lemmas.Bool.{cases_Bool}
use Rattle.conditions.specs.declared.place.Binding.{Binding}
use Rattle.litmus_syntax.specs.declared.draft.Body.{Body}
use Rattle.litmus_c.specs.declared.fault.TestFault.{TestFault}
use Rattle.litmus_c.specs.declared.fault.TestFault.TheVariants.{Text, Syntax, BadOrder, UnknownName, PlainOnAtomic, AtomicOnPlain, Unsupported, TooDeep, TooManyThreads, TooManyLocations, TooManyEvents, TooManyValues, ValueTooBig, NoMemory}
use Rattle.litmus_syntax.specs.Drafts.{Listing, listing_of}
use Rattle.litmus_c.specs.Rules.{program_of, programs_of, ExplainsLocations}
use Rattle.litmus_tree.specs.Names.{is_one_of, with_name, with_names}
use Rattle.litmus_tree.specs.Tree.{Word}

with_longer : (xs : List Word) (x : Word) → length xs ≤ length (with_name xs x)
with_longer xs x =
    let P : Bool → Type 0 = λ b. length xs ≤ length (if b then xs else xs ++ x ∷ []) in
    elim (cases_Bool (is_one_of xs x)) [
      | inl t ↦ subst P (sym t) (omega arith)
      | inr t ↦ subst P (sym t) (omega (arith, length-append xs (x ∷ [])))
    ]

-- Further names only add names.
longer : (xs ys : List Word) → length xs ≤ length (with_names xs ys)
longer xs [] = omega arith
longer xs (y ∷ ys) = omega (arith, with_longer xs y, longer (with_name xs y) ys)

pub names_append : (xs ys zs : List Word) → with_names xs (ys ++ zs) ≡ with_names (with_names xs ys) zs
names_append xs [] zs = refl
names_append xs (y ∷ ys) zs = names_append (with_name xs y) ys zs

-- One part more of what is left to note.
first : {A : Type 0} (a : A) (xs : List A) (i : ℕ) → i < length xs → a ≡ get_or xs i a → drop i xs ≡ a ∷ drop (i + 1) xs
first a xs i l e = rw add-one (drop-cons xs i a l ∙ ap (λ y. y ∷ drop (suc i) xs) (sym e))

pub next_of : {A B : Type 0} (f : B → List Word) (g : A → B) (a : A) (xs : List A) (i : ℕ) (ns : List Word) → i < length xs → a ≡ get_or xs i a →
    with_names ns (flat_map f (map g (drop i xs))) ≡ with_names (with_names ns (f (g a))) (flat_map f (map g (drop (i + 1) xs)))
next_of f g a xs i ns l e = ap (λ ys. with_names ns (flat_map f (map g ys))) (first a xs i l e) ∙ names_append ns (f (g a)) (flat_map f (map g (drop (i + 1) xs)))

pub at_least_of : {A B : Type 0} (f : B → List Word) (g : A → B) (a : A) (xs : List A) (i : ℕ) (ns : List Word) → i < length xs → a ≡ get_or xs i a →
    length (with_names ns (f (g a))) ≤ length (with_names ns (flat_map f (map g (drop i xs))))
at_least_of f g a xs i ns l e = rw (next_of f g a xs i ns l e) (longer (with_names ns (f (g a))) (flat_map f (map g (drop (i + 1) xs))))

pub next : {A : Type 0} (f : A → List Word) (a : A) (xs : List A) (i : ℕ) (ns : List Word) → i < length xs → a ≡ get_or xs i a →
    with_names ns (flat_map f (drop i xs)) ≡ with_names (with_names ns (f a)) (flat_map f (drop (i + 1) xs))
next f a xs i ns l e = ap (λ ys. with_names ns (flat_map f ys)) (first a xs i l e) ∙ names_append ns (f a) (flat_map f (drop (i + 1) xs))

pub at_least : {A : Type 0} (f : A → List Word) (a : A) (xs : List A) (i : ℕ) (ns : List Word) → i < length xs → a ≡ get_or xs i a →
    length (with_names ns (f a)) ≤ length (with_names ns (flat_map f (drop i xs)))
at_least f a xs i ns l e = rw (next f a xs i ns l e) (longer (with_names ns (f a)) (flat_map f (drop (i + 1) xs)))

pub next_with : {A : Type 0} (g : A → Word) (a : A) (xs : List A) (i : ℕ) (ns : List Word) → i < length xs → a ≡ get_or xs i a →
    with_names ns (map g (drop i xs)) ≡ with_names (with_name ns (g a)) (map g (drop (i + 1) xs))
next_with g a xs i ns l e = ap (λ ys. with_names ns (map g ys)) (first a xs i l e)

pub at_least_with : {A : Type 0} (g : A → Word) (a : A) (xs : List A) (i : ℕ) (ns : List Word) → i < length xs → a ≡ get_or xs i a →
    length (with_name ns (g a)) ≤ length (with_names ns (map g (drop i xs)))
at_least_with g a xs i ns l e = rw (next_with g a xs i ns l e) (longer (with_name ns (g a)) (map g (drop (i + 1) xs)))

-- what explains a refusal of some locations explains it of more
pub explained : (xs ys : List Word) (e : TestFault) → length xs ≤ length ys → ExplainsLocations xs e → ExplainsLocations ys e
explained xs ys NoMemory l h = tt
explained xs ys TooManyLocations l h = omega arith
explained xs ys TooManyThreads l h = h
explained xs ys TooManyEvents l h = h
explained xs ys TooManyValues l h = h
explained xs ys ValueTooBig l h = h
explained xs ys UnknownName l h = h
explained xs ys BadOrder l h = h
explained xs ys PlainOnAtomic l h = h
explained xs ys AtomicOnPlain l h = h
explained xs ys (Unsupported w) l h = h
explained xs ys TooDeep l h = h
explained xs ys (Text f) l h = h
explained xs ys (Syntax n) l h = h

-- the first locations are fewer
pub first_longer : (xs ys : List Word) → length xs ≤ length (with_names xs ys)
first_longer = longer

-- One thread more.
programs-snoc : (k : ℕ) (es : List Binding) (ts : List Listing) (t : Listing) → programs_of k es (ts ++ t ∷ []) ≡ programs_of k es ts ++ program_of (length ts + k) es t ∷ []
programs-snoc k es [] t = ap (λ n. program_of n es t ∷ []) (omega arith)
programs-snoc k es (u ∷ ts) t = ap (λ ps. program_of k es u ∷ ps) (programs-snoc (suc k) es ts t ∙ ap (λ n. programs_of (suc k) es ts ++ program_of n es t ∷ []) (omega arith))

pub programs_len : (k : ℕ) (es : List Binding) (ts : List Listing) → length (programs_of k es ts) ≡ length ts
programs_len k es [] = refl
programs_len k es (t ∷ ts) = ap (λ n. suc n) (programs_len (suc k) es ts)

listings-snoc : (xs : List Body) (b : Body) → map listing_of (xs ++ b ∷ []) ≡ map listing_of xs ++ listing_of b ∷ []
listings-snoc [] b = refl
listings-snoc (x ∷ xs) b = ap (λ l. listing_of x ∷ l) (listings-snoc xs b)

pub map_len : {A B : Type 0} (f : A → B) (xs : List A) → length (map f xs) ≡ length xs
map_len f [] = refl
map_len f (x ∷ xs) = ap (λ n. suc n) (map_len f xs)

pub programs_push : (es : List Binding) (xs : List Body) (b : Body) → programs_of 0 es (map listing_of (xs ++ b ∷ [])) ≡ programs_of 0 es (map listing_of xs) ++ program_of (length xs) es (listing_of b) ∷ []
programs_push es xs b =
    ap (programs_of 0 es) (listings-snoc xs b) ∙ programs-snoc 0 es (map listing_of xs) (listing_of b) ∙
    ap (λ n. programs_of 0 es (map listing_of xs) ++ program_of n es (listing_of b) ∷ []) (omega (arith, map_len listing_of xs))
