-- Tools that know no grammar.
use Rattle.std.proofs.Common.{◌≡◌, List, refl, subst, ◌⊎◌, inl, inr}
use Rattle.std.specs.Prelude.{Option, Some, None, Result, Ok, Err, Bool, true, false, if◌then◌else◌}
use Rattle.descent.specs.Reading.{Read, Look, match_option, ◌>>=◌, required}

-- from what a `do` gave to what its steps gave
pub bind_ok : {A B F : Type 0} (o : Result A F) (f : A → Result B F) (y : B) → (o >>= f) ≡ Ok y → (x : A) × (o ≡ Ok x) × (f x ≡ Ok y)
bind_ok (Err e) f y h = absurd (cc)
bind_ok (Ok x) f y h = (x, refl, h)

-- a `do` fails where one of its steps does
pub bind_err : {A B F : Type 0} (o : Result A F) (f : A → Result B F) (e : F) → (o >>= f) ≡ Err e → (o ≡ Err e) ⊎ ((x : A) × (o ≡ Ok x) × (f x ≡ Err e))
bind_err {A} {B} {F} (Err d) f e h = let same : d ≡ e = cc in inl (cc)
bind_err (Ok x) f e h = inr (x, refl, h)

pub required_ok : {A F : Type 0} (c : F) (o : Option A) (x : A) → required c o ≡ Ok x → o ≡ Some x
required_ok c None x h = absurd (cc)
required_ok c (Some y) x h = let same : y ≡ x = cc in cc

-- what was chosen, by cases on the option
pub cases_of : {A B : Type 0} (o : Option A) (d : B) (f : A → B) (y : B) → match_option o d f ≡ y → ((o ≡ None) × (d ≡ y)) ⊎ ((x : A) × (o ≡ Some x) × (f x ≡ y))
cases_of None d f y e = inl (refl, e)
cases_of (Some x) d f y e = inr (x, refl, e)

pub none_or_some : {A : Type 0} (o : Option A) → (o ≡ None) ⊎ ((x : A) × (o ≡ Some x))
none_or_some None = inl refl
none_or_some (Some x) = inr (x, refl)

pub ok_or_err : {A F : Type 0} (o : Result A F) → ((e : F) × (o ≡ Err e)) ⊎ ((x : A) × (o ≡ Ok x))
ok_or_err (Err e) = inl (e, refl)
ok_or_err (Ok x) = inr (x, refl)

-- the value and the rest that were read are these
pub moved : {T F A : Type 0} (P : List T → A → Type 0) {x a : A} {ts rest : List T} → ◌≡◌ {A = Read T F A} (Ok (x, ts)) (Ok (a, rest)) → P ts x → P rest a
moved {T} {F} {A} P {x} {a} {ts} {rest} e p =
    let same : ◌≡◌ {A = A × List T} (x, ts) (a, rest) = cc in
    subst (λ (q : A × List T). P q.1 q.0) same p

pub moved_look : {T A : Type 0} (P : List T → A → Type 0) {x a : A} {ts rest : List T} → ◌≡◌ {A = Look T A} (Some (x, ts)) (Some (a, rest)) → P ts x → P rest a
moved_look {T} {A} P {x} {a} {ts} {rest} e p =
    let same : ◌≡◌ {A = A × List T} (x, ts) (a, rest) = cc in
    subst (λ (q : A × List T). P q.1 q.0) same p

-- r reads a from the front of ts, and leaves rest. Records, so that antt finds their arguments.
pub record Yields {T F A : Type 0} (r : List T → Read T F A) (ts rest : List T) (a : A) : Type 0 where
  pub is : r ts ≡ Ok (a, rest)

-- a stands in front of ts, and rest behind it
pub record Shows {T A : Type 0} (r : List T → Look T A) (ts rest : List T) (a : A) : Type 0 where
  pub is : r ts ≡ Some (a, rest)

-- what was chosen, by cases on the test
pub chosen : {A : Type 0} (b : Bool) (x y z : A) → (if b then x else y) ≡ z → ((b ≡ true) × (x ≡ z)) ⊎ ((b ≡ false) × (y ≡ z))
chosen true x y z e = inl (refl, e)
chosen false x y z e = inr (refl, e)

-- a last step that cannot fail
pub bind_pure : {A B C F : Type 0} (o : Result A F) (f : A → B) (g : B → Result C F) → ((o >>= λ x. Ok (f x)) >>= g) ≡ (o >>= λ x. g (f x))
bind_pure (Err e) f g = refl
bind_pure (Ok x) f g = refl
