-- What is in a list.
use Rattle.std.proofs.Common.{◌≡◌, ℕ, ◌+◌, ◌<◌, ◌≤◌, List, [], ◌∷◌, ◌++◌, Bool, true, false, None, Some, cond, map, sym, ◌∙◌, inl, inr, ◌⊎◌, ap, subst, take, length, get_or, arith, filter}
use Rattle.std.specs.List.{All, Contains, find}
use Rattle.std.proofs.lemmas.Bool.{cases_Bool}
use Rattle.std.proofs.lemmas.List.{take_all, take_more, get_or-map, length-map}
use Rattle.std.proofs.lemmas.List.Elements.{All-nil, All-cons, Contains-append_cases, Contains-append_left, Contains-append_right, Contains-push, Contains-push_cases}

pub contains_nothing : {X : Type 0} (x : X) → Contains [] x → ⊥
contains_nothing x h = absurd (omega (arith, h.1))

pub contains_one : {X : Type 0} (y x : X) → Contains (y ∷ []) x → y ≡ x
contains_one y x h = elim (Contains-push_cases [] y x h) [ inl g ↦ absurd (contains_nothing x g) | inr e ↦ e ]

pub in_cons : {X : Type 0} (y : X) (ys : List X) (x : X) → Contains (y ∷ ys) x → (y ≡ x) ⊎ Contains ys x
in_cons y ys x h = elim (Contains-append_cases (y ∷ []) ys x h) [ inl l ↦ inl (contains_one y x l) | inr r ↦ inr r ]

pub contains_first : {X : Type 0} (x : X) (xs : List X) → Contains (x ∷ xs) x
contains_first x xs = Contains-append_left (x ∷ []) xs x (Contains-push [] x)

pub contains_later : {X : Type 0} (y : X) (xs : List X) (x : X) → Contains xs x → Contains (y ∷ xs) x
contains_later y xs x h = Contains-append_right (y ∷ []) xs x h

pub contains_map : {X Y : Type 0} (f : X → Y) (xs : List X) (x : X) → Contains xs x → Contains (map f xs) (f x)
contains_map f [] x h = absurd (contains_nothing x h)
contains_map f (y ∷ xs) x h =
    elim (in_cons y xs x h) [ inl e ↦ subst (λ z. Contains (f y ∷ map f xs) (f z)) e (contains_first (f y) (map f xs)) | inr r ↦ contains_later (f y) (map f xs) (f x) (contains_map f xs x r) ]

-- an element that a loop reads
pub contains_at : {X Y : Type 0} (f : X → Y) (xs : List X) (k : ℕ) (x : X) → k < length xs → x ≡ get_or xs k x → Contains (map f xs) (f x)
contains_at f xs k x l at = contains_map f xs x (k, l, sym at)

-- what holds of all that a loop has read
pub each_more : {X Y : Type 0} (P : Y → Type 0) (f : X → Y) (xs : List X) (k : ℕ) (x : X) → k < length xs → x ≡ get_or xs k x → ((y : Y) → Contains (take k (map f xs)) y → P y) → P (f x) → (y : Y) → Contains (take (k + 1) (map f xs)) y → P y
each_more P f xs k x l at h p y c =
    let long : k < length (map f xs) = omega (arith, length-map xs f, l) in
    let same : take (k + 1) (map f xs) ≡ take k (map f xs) ++ f x ∷ [] = take_more (map f xs) k (f x) long ∙ ap (λ z. take k (map f xs) ++ z ∷ []) (get_or-map f xs k x (f x) l ∙ ap f (sym at)) in
    elim (Contains-push_cases (take k (map f xs)) (f x) y (subst (λ l. Contains l y) same c)) [ inl g ↦ h y g | inr e ↦ subst P e p ]

pub each_end : {X Y : Type 0} (P : Y → Type 0) (f : X → Y) (xs : List X) (k : ℕ) → length xs ≤ k → ((y : Y) → Contains (take k (map f xs)) y → P y) → (y : Y) → Contains (map f xs) y → P y
each_end P f xs k l h y c = let long : length (map f xs) ≤ k = omega (arith, length-map xs f, l) in h y (subst (λ l. Contains l y) (sym (take_all k (map f xs) long)) c)

-- the first that passes a test

pub found : {X : Type 0} (p : X → Bool) (xs : List X) (x : X) → Some x ≡ find p xs → Contains xs x × (p x ≡ true)
found p [] x e = cc
found p (y ∷ xs) x e = elim (cases_Bool (p y)) [
  | inl t ↦ (let same : y ≡ x = (let z : Some x ≡ Some y = e ∙ ap (λ b. cond b (Some y) (find p xs)) t in cc) in (subst (Contains (y ∷ xs)) same (contains_first y xs), subst (λ z. p z ≡ true) same t))
  | inr f ↦ (let r = found p xs x (e ∙ ap (λ b. cond b (Some y) (find p xs)) f) in (contains_later y xs x r.0, r.1))
]

pub none_found : {X : Type 0} (p : X → Bool) (xs : List X) → None ≡ find p xs → (x : X) → Contains xs x → p x ≡ false
none_found p [] e x c = absurd (contains_nothing x c)
none_found p (y ∷ xs) e x c = elim (cases_Bool (p y)) [
  | inl t ↦ absurd (let z : None ≡ Some y = e ∙ ap (λ b. cond b (Some y) (find p xs)) t in cc)
  | inr f ↦ elim (in_cons y xs x c) [ inl g ↦ subst (λ z. p z ≡ false) g f | inr r ↦ none_found p xs (e ∙ ap (λ b. cond b (Some y) (find p xs)) f) x r ]
]

-- what passes a test

pub kept : {X : Type 0} (p : X → Bool) (xs : List X) (x : X) → Contains xs x → p x ≡ true → Contains (filter p xs) x
kept p [] x c t = absurd (contains_nothing x c)
kept {X} p (y ∷ xs) x c t =
    let P : List X → Type 0 = λ l. Contains l x in
    elim (in_cons y xs x c) [
      | inl e ↦ subst P (sym (ap (λ b. cond b (y ∷ filter p xs) (filter p xs)) (ap p e ∙ t))) (subst (λ z. Contains (y ∷ filter p xs) z) e (contains_first y (filter p xs)))
      | inr r ↦ elim (cases_Bool (p y)) [
        | inl u ↦ subst P (sym (ap (λ b. cond b (y ∷ filter p xs) (filter p xs)) u)) (contains_later y (filter p xs) x (kept p xs x r t))
        | inr f ↦ subst P (sym (ap (λ b. cond b (y ∷ filter p xs) (filter p xs)) f)) (kept p xs x r t)
      ]
    ]

pub was_kept : {X : Type 0} (p : X → Bool) (xs : List X) (x : X) → Contains (filter p xs) x → Contains xs x × (p x ≡ true)
was_kept p [] x c = absurd (contains_nothing x c)
was_kept {X} p (y ∷ xs) x c =
    let P : List X → Type 0 = λ l. Contains l x in
    elim (cases_Bool (p y)) [
      | inl u ↦ elim (in_cons y (filter p xs) x (subst P (ap (λ b. cond b (y ∷ filter p xs) (filter p xs)) u) c)) [
        | inl e ↦ (subst (Contains (y ∷ xs)) e (contains_first y xs), subst (λ z. p z ≡ true) e u)
        | inr r ↦ (let h = was_kept p xs x r in (contains_later y xs x h.0, h.1))
      ]
      | inr f ↦ (let h = was_kept p xs x (subst P (ap (λ b. cond b (y ∷ filter p xs) (filter p xs)) f) c) in (contains_later y xs x h.0, h.1))
    ]

pub all_from : {X : Type 0} (P : X → Type 0) (xs : List X) → ((x : X) → Contains xs x → P x) → All P xs
all_from P [] h = All-nil P
all_from P (x ∷ xs) h = All-cons P x xs (h x (contains_first x xs)) (all_from P xs (λ c k. h c (contains_later x xs c k)))
