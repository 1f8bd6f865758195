-- What passes a test.
use Rattle.std.proofs.Common.{◌≡◌, ℕ, ◌+◌, ◌<◌, List, [], ◌∷◌, length, get_or, drop, filter, Bool, true, false, cond, inl, inr, refl, sym, ap, ◌∙◌, subst}
use Rattle.std.proofs.lemmas.Bool.{false≢true}
use Rattle.std.proofs.lemmas.List.{drop_more}
use Rattle.listings.specs.Lists.{IsIn, NoRepeats, Lists}

pub in_filter : {X : Type 0} (p : X → Bool) (xs : List X) (x : X) → IsIn x (filter p xs) → IsIn x xs × (p x ≡ true)
in_filter p [] x h = absurd h
in_filter {X} p (y ∷ ys) x h = by (p y) refl (in_filter p ys x) h
  where
    by : (b : Bool) → p y ≡ b → (IsIn x (filter p ys) → IsIn x ys × (p x ≡ true)) → IsIn x (cond b (y ∷ filter p ys) (filter p ys)) → IsIn x (y ∷ ys) × (p x ≡ true)
    by true e rest h = elim h [ inl g ↦ (inl g, ap p g ∙ e) | inr m ↦ (inr (rest m).0, (rest m).1) ]
    by false e rest h = (inr (rest h).0, (rest h).1)

pub filter_in : {X : Type 0} (p : X → Bool) (xs : List X) (x : X) → IsIn x xs → p x ≡ true → IsIn x (filter p xs)
filter_in p [] x h t = absurd h
filter_in {X} p (y ∷ ys) x h t = by (p y) refl (λ m. filter_in p ys x m t) h
  where
    by : (b : Bool) → p y ≡ b → (IsIn x ys → IsIn x (filter p ys)) → IsIn x (y ∷ ys) → IsIn x (cond b (y ∷ filter p ys) (filter p ys))
    by true e rest h = elim h [ inl g ↦ inl g | inr m ↦ inr (rest m) ]
    by false e rest h = elim h [ inl g ↦ absurd (false≢true (sym e ∙ ap p (sym g) ∙ t)) | inr m ↦ rest m ]

once_filter : {X : Type 0} (p : X → Bool) (xs : List X) → NoRepeats xs → NoRepeats (filter p xs)
once_filter p [] o = tt
once_filter {X} p (y ∷ ys) o = by (p y) (once_filter p ys o.1)
  where
    by : (b : Bool) → NoRepeats (filter p ys) → NoRepeats (cond b (y ∷ filter p ys) (filter p ys))
    by true rest = (λ m. o.0 (in_filter p ys y m).0, rest)
    by false rest = rest

-- a list of what has P, and of it what passes
pub lists_filter : {X : Type 0} (P : X → Type 0) (p : X → Bool) (xs : List X) → Lists P xs → Lists (λ x. P x × (p x ≡ true)) (filter p xs)
lists_filter P p xs l = record {
  once = once_filter p xs l.once;
  only = λ x h. (let m = in_filter p xs x h in (l.only x m.0, m.1));
  all = λ x h. filter_in p xs x (l.all x h.0) h.1;
}

pub all_pass : {X : Type 0} (p : X → Bool) (xs : List X) → ((x : X) → p x ≡ true) → filter p xs ≡ xs
all_pass p [] h = refl
all_pass {X} p (y ∷ ys) h = by (p y) (h y) (all_pass p ys h)
  where
    by : (b : Bool) → b ≡ true → filter p ys ≡ ys → cond b (y ∷ filter p ys) (filter p ys) ≡ y ∷ ys
    by true e rest = ap (λ zs. y ∷ zs) rest
    by false e rest = absurd (false≢true e)

chosen : {X : Type 0} (b c : Bool) (xs ys : List X) → b ≡ c → cond b xs ys ≡ cond c xs ys
chosen b c xs ys e = ap (λ d. cond d xs ys) e

-- What is left of a list from one place on, where what stands there passes, and where it doesn't.
pub pass_next : {X : Type 0} (p : X → Bool) (xs : List X) (i : ℕ) (d : X) → i < length xs → p (get_or xs i d) ≡ true → filter p (drop i xs) ≡ get_or xs i d ∷ filter p (drop (i + 1) xs)
pass_next p xs i d l t =
    let x = get_or xs i d in
    let rest = drop (i + 1) xs in
    ap (filter p) (drop_more xs i d l) ∙ chosen (p x) true (x ∷ filter p rest) (filter p rest) t

pub skip_next : {X : Type 0} (p : X → Bool) (xs : List X) (i : ℕ) (d : X) → i < length xs → p (get_or xs i d) ≡ false → filter p (drop i xs) ≡ filter p (drop (i + 1) xs)
skip_next p xs i d l t =
    let x = get_or xs i d in
    let rest = drop (i + 1) xs in
    ap (filter p) (drop_more xs i d l) ∙ chosen (p x) false (x ∷ filter p rest) (filter p rest) t

-- The same, where the list is known by two names.
pub passes : {X : Type 0} (p : X → Bool) (inside xs : List X) (i : ℕ) (d : X) → inside ≡ xs → i < length inside → true ≡ p (get_or inside i d) → filter p (drop i xs) ≡ get_or inside i d ∷ filter p (drop (i + 1) xs)
passes {X} p inside xs i d e l t =
    let P : List X → Type 0 = λ ys. filter p (drop i ys) ≡ get_or inside i d ∷ filter p (drop (i + 1) ys) in
    subst P e (pass_next p inside i d l (sym t))

pub skips : {X : Type 0} (p : X → Bool) (inside xs : List X) (i : ℕ) (d : X) → inside ≡ xs → i < length inside → false ≡ p (get_or inside i d) → filter p (drop i xs) ≡ filter p (drop (i + 1) xs)
skips {X} p inside xs i d e l t =
    let P : List X → Type 0 = λ ys. filter p (drop i ys) ≡ filter p (drop (i + 1) ys) in
    subst P e (skip_next p inside i d l (sym t))
