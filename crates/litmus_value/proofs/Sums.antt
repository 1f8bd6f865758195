-- The sums that adds make of values.
use Rattle.std.proofs.Common.{◌≡◌, ℕ, ◌≤◌, ◌<◌, ◌+◌, List, [], ◌∷◌, ◌++◌, length, map, take, drop, get_or, drop-cons, add-one, refl, subst, sym, ap, ◌∙◌, inl, inr, arith, Bool, if◌then◌else◌, ◌==◌}
use Rattle.std.specs.List.{list_any}
use Rattle.std.proofs.lemmas.Bool.{cases_Bool}
use Rattle.std.proofs.lemmas.List.{take-append-le, get_or-take}
use Rattle.listings.specs.Lists.{IsIn, NoRepeats, Lists}
use Rattle.listings.proofs.Listings.{in_append, in_left, in_right, in_map, map_in}
use Rattle.conditions.specs.declared.place.Binding.{Binding}
use Rattle.litmus_tree.specs.Tree.{Program}
use Rattle.litmus_value.specs.Gathering.{IsFull}
use Rattle.litmus_value.specs.declared.values.ValuesFault.{ValuesFault}
use Rattle.litmus_value.specs.Values.{constants_among, adds_among, sums, IsConstant, IsValue, with_value, with_values, with_sum, with_sums, values_among}
use Rattle.litmus_value.proofs.Distinct.{longer, with_values_in, in_with_values, once_with_values}
use Rattle.litmus_value.proofs.Noted.{full_longer}

-- v is among vs, and a sum over a subset of cs more
abbrev IsSum : List ℕ → List ℕ → ℕ → Type 0
IsSum vs cs v = (w : ℕ) × (s : ℕ) × IsIn w vs × IsIn s (sums cs) × (v ≡ w + s)

sums_in : (vs cs : List ℕ) (v : ℕ) → IsIn v (with_sums vs cs) → IsSum vs cs v
sums_in vs [] v h = (v, 0, h, inl refl, omega arith)
sums_in vs (c ∷ cs) v h =
    let r = sums_in (with_sum vs c) cs v h in
    elim (with_values_in vs (map (λ w. w + c) vs) r.0 r.2) [
      | inl a ↦ (r.0, r.1, a, in_left (sums cs) (map (λ s. c + s) (sums cs)) r.1 r.3, r.4)
      | inr b ↦ (let w = in_map (λ (u : ℕ). u + c) vs r.0 b in
          (w.0, c + r.1, w.1, in_right (sums cs) (map (λ s. c + s) (sums cs)) (c + r.1) (map_in (λ s. c + s) (sums cs) r.1 r.3), omega (arith, r.4, w.2)))
    ]

in_sums : (vs cs : List ℕ) (w s : ℕ) → IsIn w vs → IsIn s (sums cs) → IsIn (w + s) (with_sums vs cs)
in_sums vs [] w s h k = elim k [ inl e ↦ (let same : w ≡ w + s = omega (arith, e) in let Q : ℕ → Type 0 = λ u. IsIn u vs in subst Q same h) | inr n ↦ absurd n ]
in_sums vs (c ∷ cs) w s h k = elim (in_append (sums cs) (map (λ r. c + r) (sums cs)) s k) [
  | inl a ↦ in_sums (with_sum vs c) cs w s (in_with_values vs (map (λ u. u + c) vs) w (inl h)) a
  | inr b ↦ (let r = in_map (λ (u : ℕ). c + u) (sums cs) s b in
      let same : (w + c) + r.0 ≡ w + s = omega (arith, r.2) in
      let Q : ℕ → Type 0 = λ u. IsIn u (with_sums vs (c ∷ cs)) in
      subst Q same (in_sums (with_sum vs c) cs (w + c) r.0 (in_with_values vs (map (λ u. u + c) vs) (w + c) (inr (map_in (λ u. u + c) vs w h))) r.1))
]

once_sums : (vs cs : List ℕ) → NoRepeats vs → NoRepeats (with_sums vs cs)
once_sums vs [] o = o
once_sums vs (c ∷ cs) o = once_sums (with_sum vs c) cs (once_with_values vs (map (λ v. v + c) vs) o)

bits : NoRepeats {X = ℕ} (0 ∷ 1 ∷ [])
bits = (λ h. elim h [ inl e ↦ absurd (omega (arith, e)) | inr n ↦ n ], (λ h. h, tt))

constant_in : (initial : List Binding) (threads : List Program) (k : ℕ) → IsIn k (with_values (0 ∷ 1 ∷ []) (constants_among initial threads)) → IsConstant initial threads k
constant_in initial threads k h = elim (with_values_in (0 ∷ 1 ∷ []) (constants_among initial threads) k h) [
  | inl a ↦ elim a [ inl e ↦ inl e | inr b ↦ elim b [ inl e ↦ inr (inl e) | inr n ↦ absurd n ] ]
  | inr s ↦ inr (inr s)
]

in_constants : (initial : List Binding) (threads : List Program) (k : ℕ) → IsConstant initial threads k → IsIn k (with_values (0 ∷ 1 ∷ []) (constants_among initial threads))
in_constants initial threads k h = in_with_values (0 ∷ 1 ∷ []) (constants_among initial threads) k (elim h [
  | inl e ↦ inl (inl e)
  | inr j ↦ elim j [ inl e ↦ inl (inr (inl e)) | inr s ↦ inr s ]
])

pub lists_values : (initial : List Binding) (threads : List Program) → Lists (IsValue initial threads) (values_among initial threads)
lists_values initial threads =
    let constants = with_values (0 ∷ 1 ∷ []) (constants_among initial threads) in
    record {
      once = once_sums constants (adds_among threads) (once_with_values (0 ∷ 1 ∷ []) (constants_among initial threads) bits);
      only = λ v h. (let r = sums_in constants (adds_among threads) v h in record { constant = r.0; sum = r.1; is_constant = constant_in initial threads r.0 r.2; is_sum = r.3; is = r.4 });
      all = λ v h. (let Q : ℕ → Type 0 = λ u. IsIn u (values_among initial threads) in
          subst Q (sym h.is) (in_sums constants (adds_among threads) h.constant h.sum (in_constants initial threads h.constant h.is_constant) h.is_sum));
    }

-- the empty sum, and each number alone

pub nothing_sums : (cs : List ℕ) → IsIn 0 (sums cs)
nothing_sums [] = inl refl
nothing_sums (c ∷ cs) = in_left (sums cs) (map (λ s. c + s) (sums cs)) 0 (nothing_sums cs)

pub each_sums : (cs : List ℕ) (c : ℕ) → IsIn c cs → IsIn c (sums cs)
each_sums [] c h = absurd h
each_sums (d ∷ cs) c h = elim h [
  | inl e ↦ (let same : d + 0 ≡ c = omega (arith, e) in let Q : ℕ → Type 0 = λ u. IsIn u (sums (d ∷ cs)) in
      subst Q same (in_right (sums cs) (map (λ s. d + s) (sums cs)) (d + 0) (map_in (λ s. d + s) (sums cs) 0 (nothing_sums cs))))
  | inr m ↦ in_left (sums cs) (map (λ s. d + s) (sums cs)) c (each_sums cs c m)
]

-- Constants are values, and 0 is one of them; what a call adds is a value.

pub constant_is_value : (initial : List Binding) (threads : List Program) (k : ℕ) → IsConstant initial threads k → IsValue initial threads k
constant_is_value initial threads k h = record { constant = k; sum = 0; is_constant = h; is_sum = nothing_sums (adds_among threads); is = omega arith }

pub add_is_value : (initial : List Binding) (threads : List Program) (c : ℕ) → IsIn c (adds_among threads) → IsValue initial threads c
add_is_value initial threads c h = record { constant = 0; sum = c; is_constant = inl refl; is_sum = each_sums (adds_among threads) c h; is = omega arith }

-- Sums are only added.

pub longer_sums : (vs cs : List ℕ) → length vs ≤ length (with_sums vs cs)
longer_sums vs [] = omega arith
longer_sums vs (c ∷ cs) = omega (arith, longer vs (map (λ v. v + c) vs), longer_sums (with_sum vs c) cs)

pub full_sums : (vs cs : List ℕ) (e : ValuesFault) → IsFull vs e → IsFull (with_sums vs cs) e
full_sums vs cs e h = full_longer vs (with_sums vs cs) e (longer_sums vs cs) h

pub full_values : (vs cs : List ℕ) (e : ValuesFault) → IsFull vs e → IsFull (with_values vs cs) e
full_values vs cs e h = full_longer vs (with_values vs cs) e (longer vs cs) h

-- A value more, behind those that stand there: the first n stay.
pub held_with : (vs us : List ℕ) (c : ℕ) → take (length us) vs ≡ us → length us ≤ length vs → take (length us) (with_value vs c) ≡ us
held_with vs us c h l =
    let P : Bool → Type 0 = λ b. take (length us) (if b then vs else vs ++ c ∷ []) ≡ us in
    elim (cases_Bool (list_any (λ w. w == c) vs)) [
      | inl t ↦ subst P (sym t) h
      | inr t ↦ subst P (sym t) (take-append-le (length us) vs (c ∷ []) l ∙ h)
    ]

-- the value at a place is the one that stood there before
pub held_at : (vs us : List ℕ) (i d : ℕ) → take (length us) vs ≡ us → i < length us → get_or vs i d ≡ get_or us i d
held_at vs us i d h l = sym (get_or-take (length us) vs i d l) ∙ ap (λ ws. get_or ws i d) h

pub next_sum : (vs us : List ℕ) (i d c : ℕ) → i < length us → with_values vs (map (λ u. u + c) (drop i us)) ≡ with_values (with_value vs (get_or us i d + c)) (map (λ u. u + c) (drop (i + 1) us))
next_sum vs us i d c l = rw add-one (ap (λ ws. with_values vs (map (λ u. u + c) ws)) (drop-cons us i d l))

pub next_sums : (vs cs : List ℕ) (i d : ℕ) → i < length cs → with_sums vs (drop i cs) ≡ with_sums (with_sum vs (get_or cs i d)) (drop (i + 1) cs)
next_sums vs cs i d l = rw add-one (ap (λ ws. with_sums vs ws) (drop-cons cs i d l))

-- One sum more: v is that of the value at place i of us, behind which vs only has more.

pub next_held : (vs us ws : List ℕ) (i d c v : ℕ) → i < length us → take (length us) vs ≡ us → v ≡ get_or vs i d + c → ws ≡ with_value vs v → with_values vs (map (λ u. u + c) (drop i us)) ≡ with_sum us c →
    with_values ws (map (λ u. u + c) (drop (i + 1) us)) ≡ with_sum us c
next_held vs us ws i d c v l h e n is =
    ap (λ xs. with_values xs (map (λ u. u + c) (drop (i + 1) us))) (n ∙ ap (with_value vs) (e ∙ ap (λ u. u + c) (held_at vs us i d h l))) ∙ sym (next_sum vs us i d c l) ∙ is

pub full_held : (vs us : List ℕ) (i d c v : ℕ) (e : ValuesFault) → i < length us → take (length us) vs ≡ us → v ≡ get_or vs i d + c → with_values vs (map (λ u. u + c) (drop i us)) ≡ with_sum us c →
    IsFull (with_value vs v) e → IsFull (with_sum us c) e
full_held vs us i d c v f l h e is k =
    let Q : List ℕ → Type 0 = λ xs. IsFull xs f in
    subst Q (next_held vs us (with_value vs v) i d c v l h e refl is) (full_values (with_value vs v) (map (λ u. u + c) (drop (i + 1) us)) f k)
