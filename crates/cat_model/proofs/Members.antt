-- Members of lists, and lists that are listed once.
use Rattle.std.proofs.Common.{◌≡◌, ◌<◌, ◌≤◌, ◌⊎◌, ◌↔◌, ◌∙◌, arith, ℕ, zero, suc, ◌+◌, length, take, get_or, List, [], ◌∷◌, ◌++◌, map, Bool, inl, inr, Result, Ok, Err, Vec, Global, ap, sym, subst, refl}
use Rattle.std.specs.Prelude.{IfOk}
use Rattle.std.specs.List.{Contains}
use Rattle.std.proofs.lemmas.List.{take_more, map-append}
use Rattle.std.proofs.lemmas.List.Elements.{Contains-append_left, Contains-append_right, Contains-append_cases, Contains-push_cases}
use Rattle.cat_model.specs.Marked.{Composes, trace_if}
use Rattle.cat_model.specs.declared.denials.Trace.{Trace}

pub nothing_in : {X : Type 0} (x : X) → Contains [] x → ⊥
nothing_in x h = absurd (let l = h.1 in omega (arith, l))

pub contains_first : {X : Type 0} (y : X) (ys : List X) (x : X) → y ≡ x → Contains (y ∷ ys) x
contains_first y ys x e = (0, omega arith, e)

pub contains_later : {X : Type 0} (y : X) (ys : List X) (x : X) → Contains ys x → Contains (y ∷ ys) x
contains_later y ys x h = (let l = h.1 in (suc h.0, omega (arith, l), h.2))

pub contains_cases : {X : Type 0} (y : X) (ys : List X) (x : X) → Contains (y ∷ ys) x → (y ≡ x) ⊎ Contains ys x
contains_cases y ys x (zero, l, e) = inl e
contains_cases y ys x (suc k, l, e) = inr (k, omega (arith, l), e)

pub contains_one : {X : Type 0} (y x : X) → Contains (y ∷ []) x → y ≡ x
contains_one y x h = elim (contains_cases y [] x h) [ inl e ↦ e | inr g ↦ absurd (nothing_in x g) ]

pub mapped : {X Y : Type 0} (f : X → Y) (xs : List X) (x : X) → Contains xs x → Contains (map f xs) (f x)
mapped f [] x h = absurd (nothing_in x h)
mapped f (y ∷ xs) x h = elim (contains_cases y xs x h) [
  | inl e ↦ contains_first (f y) (map f xs) (f x) (ap f e)
  | inr g ↦ contains_later (f y) (map f xs) (f x) (mapped f xs x g)
]

pub map_member : {X Y : Type 0} (f : X → Y) (xs : List X) (y : Y) → Contains (map f xs) y → (x : X) × Contains xs x × (y ≡ f x)
map_member f [] y h = absurd (nothing_in y h)
map_member {X} f (z ∷ xs) y h = elim (contains_cases (f z) (map f xs) y h) [
  | inl e ↦ (z, contains_first z xs z refl, sym e)
  | inr g ↦ (let r = map_member f xs y g in (r.0, contains_later z xs r.0 r.1, r.2))
]

-- one more is taken

pub taken_more : {X : Type 0} (xs : List X) (i : ℕ) (x y : X) → i < length xs → y ≡ get_or xs i y → Contains (take (i + 1) xs) x ↔ (Contains (take i xs) x ⊎ (y ≡ x))
taken_more {X} xs i x y l e =
    let P : List X → Type 0 = λ ys. Contains ys x ↔ (Contains (take i xs) x ⊎ (y ≡ x)) in
    subst P (sym (take_more xs i y l ∙ ap (λ z. take i xs ++ z ∷ []) (sym e)))
    (λ h. Contains-push_cases (take i xs) y x h, λ h. by h)
  where
    by : Contains (take i xs) x ⊎ (y ≡ x) → Contains (take i xs ++ y ∷ []) x
    by (inl g) = Contains-append_left (take i xs) (y ∷ []) x g
    by (inr g) = Contains-append_right (take i xs) (y ∷ []) x (contains_first y [] x g)

pub all_taken : {X : Type 0} (i : ℕ) (xs : List X) → length xs ≤ i → take i xs ≡ xs
all_taken zero [] l = refl
all_taken zero (x ∷ xs) l = absurd (omega (arith, l))
all_taken (suc i) [] l = refl
all_taken (suc i) (x ∷ xs) l = ap (λ l. x ∷ l) (all_taken i xs (omega (arith, l)))

-- how lists grow together

pub listed_next : (mid new : List Trace) (ts : List Trace) (i : ℕ) (t : Trace) → i < length ts → t ≡ get_or ts i t → ((q : Trace) → Contains mid q ↔ Contains (take i ts) q) → ((q : Trace) → Contains new q ↔ (Contains mid q ⊎ (t ≡ q))) → (q : Trace) → Contains new q ↔ Contains (take (i + 1) ts) q
listed_next mid new ts i t l e f g q = (λ h. (taken_more ts i q t l e).1 (to ((g q).0 h)), λ h. (g q).1 (back ((taken_more ts i q t l e).0 h)))
  where
    to : Contains mid q ⊎ (t ≡ q) → Contains (take i ts) q ⊎ (t ≡ q)
    to (inl h) = inl ((f q).0 h)
    to (inr h) = inr h

    back : Contains (take i ts) q ⊎ (t ≡ q) → Contains mid q ⊎ (t ≡ q)
    back (inl h) = inl ((f q).1 h)
    back (inr h) = inr h

pub inner_next : (old mid new : List Trace) (ts : List Trace) (d : Bool) (i : ℕ) (t u : Trace) → i < length ts → t ≡ get_or ts i t → u ≡ trace_if d t → ((q : Trace) → Contains mid q ↔ (Contains old q ⊎ Contains (map (trace_if d) (take i ts)) q)) →
    ((q : Trace) → Contains new q ↔ (Contains mid q ⊎ (u ≡ q))) → (q : Trace) → Contains new q ↔ (Contains old q ⊎ Contains (map (trace_if d) (take (i + 1) ts)) q)
inner_next old mid new ts d i t u l e s f g q =
    let P : List Trace → Type 0 = λ ys. Contains new q ↔ (Contains old q ⊎ Contains ys q) in
    subst P (sym (ap (map (trace_if d)) (take_more ts i t l ∙ ap (λ z. take i ts ++ z ∷ []) (sym e)) ∙ map-append (trace_if d) (take i ts) (t ∷ []))) (λ h. to ((g q).0 h), λ h. (g q).1 (back h))
  where
    more : List Trace
    more = map (trace_if d) (take i ts)

    to : Contains mid q ⊎ (u ≡ q) → Contains old q ⊎ Contains (more ++ trace_if d t ∷ []) q
    to (inl h) = elim ((f q).0 h) [ inl a ↦ inl a | inr a ↦ inr (Contains-append_left more (trace_if d t ∷ []) q a) ]
    to (inr h) = inr (Contains-append_right more (trace_if d t ∷ []) q (contains_first (trace_if d t) [] q (sym s ∙ h)))

    back : Contains old q ⊎ Contains (more ++ trace_if d t ∷ []) q → Contains mid q ⊎ (u ≡ q)
    back (inl h) = inl ((f q).1 (inl h))
    back (inr h) = elim (Contains-append_cases more (trace_if d t ∷ []) q h) [ inl a ↦ inl ((f q).1 (inr a)) | inr a ↦ inr (s ∙ contains_one (trace_if d t) q a) ]

pub composes_next : (mid new : List Trace) (ts : List Trace) (as' : List (List Trace)) (i : ℕ) (t : Trace) → i < length ts → t ≡ get_or ts i t → ((q : Trace) → Contains mid q ↔ Composes (take i ts) as' q) →
    ((q : Trace) → Contains new q ↔ (Contains mid q ⊎ Contains (map (trace_if t.denied) (get_or as' t.place [])) q)) → (q : Trace) → Contains new q ↔ Composes (take (i + 1) ts) as' q
composes_next mid new ts as' i t l e f g q = (λ h. to ((g q).0 h), λ h. (g q).1 (back h))
  where
    to : Contains mid q ⊎ Contains (map (trace_if t.denied) (get_or as' t.place [])) q → Composes (take (i + 1) ts) as' q
    to (inl h) = (let c = (f q).0 h in record { trace = c.trace; among = (taken_more ts i c.trace t l e).1 (inl c.among); inner = c.inner; there = c.there; is = c.is })
    to (inr h) = (let m = map_member (trace_if t.denied) (get_or as' t.place []) q h in record { trace = t; among = (taken_more ts i t t l e).1 (inr refl); inner = m.0; there = m.1; is = m.2 })

    last : (c : Composes (take (i + 1) ts) as' q) → t ≡ c.trace → Contains (map (trace_if t.denied) (get_or as' t.place [])) q
    last c x =
        let there : Contains (get_or as' t.place []) c.inner = (let P : Trace → Type 0 = λ u. Contains (get_or as' u.place []) c.inner in subst P (sym x) c.there) in
        let is : q ≡ trace_if t.denied c.inner = c.is ∙ ap (λ u. trace_if u.denied c.inner) (sym x) in
        (let P : Trace → Type 0 = λ u. Contains (map (trace_if t.denied) (get_or as' t.place [])) u in subst P (sym is) (mapped (trace_if t.denied) (get_or as' t.place []) c.inner there))

    back : Composes (take (i + 1) ts) as' q → Contains mid q ⊎ Contains (map (trace_if t.denied) (get_or as' t.place [])) q
    back c = elim ((taken_more ts i c.trace t l e).0 c.among) [
      | inl a ↦ inl ((f q).1 (record { trace = c.trace; among = a; inner = c.inner; there = c.there; is = c.is }))
      | inr a ↦ inr (last c a)
    ]

-- the first turn, and the last

pub listed_first : (once ts : List Trace) → once ≡ [] → (q : Trace) → Contains once q ↔ Contains (take 0 ts) q
listed_first once ts e q = (λ h. (let P : List Trace → Type 0 = λ l. Contains l q in subst P e h), λ h. absurd (nothing_in q h))

pub listed_last : (once ts : List Trace) (i : ℕ) → length ts ≤ i → ((q : Trace) → Contains once q ↔ Contains (take i ts) q) → (q : Trace) → Contains once q ↔ Contains ts q
listed_last once ts i l f q = (let P : List Trace → Type 0 = λ l. Contains once q ↔ Contains l q in subst P (all_taken i ts l) (f q))

pub inner_first : (old ts : List Trace) (d : Bool) (q : Trace) → Contains old q ↔ (Contains old q ⊎ Contains (map (trace_if d) (take 0 ts)) q)
inner_first old ts d q = (λ h. inl h, λ h. by h)
  where
    by : Contains old q ⊎ Contains (map (trace_if d) (take 0 ts)) q → Contains old q
    by (inl h) = h
    by (inr h) = absurd (nothing_in q h)

pub inner_last : (old new ts : List Trace) (d : Bool) (i : ℕ) → length ts ≤ i → ((q : Trace) → Contains new q ↔ (Contains old q ⊎ Contains (map (trace_if d) (take i ts)) q)) → (q : Trace) → Contains new q ↔ (Contains old q ⊎ Contains (map (trace_if d) ts) q)
inner_last old new ts d i l f q = (let P : List Trace → Type 0 = λ l. Contains new q ↔ (Contains old q ⊎ Contains (map (trace_if d) l) q) in subst P (all_taken i ts l) (f q))

pub composes_first : (once ts : List Trace) (as' : List (List Trace)) → once ≡ [] → (q : Trace) → Contains once q ↔ Composes (take 0 ts) as' q
composes_first once ts as' e q = (λ h. absurd (nothing_in q (let P : List Trace → Type 0 = λ l. Contains l q in subst P e h)), λ h. absurd (nothing_in h.trace h.among))

pub composes_last : (once ts : List Trace) (as' : List (List Trace)) (i : ℕ) → length ts ≤ i → ((q : Trace) → Contains once q ↔ Composes (take i ts) as' q) → (q : Trace) → Contains once q ↔ Composes ts as' q
composes_last once ts as' i l f q = (let P : List Trace → Type 0 = λ l. Contains once q ↔ Composes l as' q in subst P (all_taken i ts l) (f q))

-- what stands at a place
pub looked_up : (as' : List (Vec Trace Global)) (i : ℕ) (a : Vec Trace Global) → (i < length as') × (a ≡ get_or as' i a) → a.items ≡ get_or (map (λ v. v.items) as') i []
looked_up [] i a h = absurd (let l = h.0 in omega (arith, l))
looked_up (b ∷ as') zero a h = ap (λ v. v.items) h.1
looked_up (b ∷ as') (suc i) a h = (let l = h.0 in looked_up as' i a (omega (arith, l), h.1))

pub ok_if : {A F : Type 0} (r : Result A F) (P Q : A → Type 0) → ((k : A) → P k → Q k) → IfOk r P → IfOk r Q
ok_if (Ok k) P Q f p = f k p
ok_if (Err e) P Q f p = tt
