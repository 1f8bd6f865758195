-- Why there is no reading: a cause that comes out was raised at some place in the tokens.
use Rattle.std.proofs.Common.{◌≡◌, ◌≤◌, List, ◌∷◌, length, arith, refl, subst, inl, inr}
use Rattle.std.specs.Prelude.{Some, None, Ok, Err}
use Rattle.descent.specs.Reading.{Read, Look, match_option, ◌>>=◌, required}
use Rattle.descent.proofs.Tools.{bind_ok, bind_err, moved}

-- what is left of tokens
pub data Tail {T : Type 0} : List T → List T → Type 0 where
  tail_here : {ts : List T} → Tail ts ts
  tail_later : {t : T} {ts rest : List T} → Tail ts rest → Tail (t ∷ ts) rest

pub tail_behind : {T : Type 0} {ts us vs : List T} → Tail ts us → Tail us vs → Tail ts vs
tail_behind tail_here e = e
tail_behind (tail_later d) e = tail_later (tail_behind d e)

pub tail_length : {T : Type 0} {ts rest : List T} → Tail ts rest → length rest ≤ length ts
tail_length tail_here = omega arith
tail_length (tail_later d) = omega (arith, tail_length d)

-- the cause e was raised where this much was left, of which R tells
pub record Raised {T F : Type 0} (R : F → List T → Type 0) (e : F) (ts : List T) : Type 0 where
  pub left : List T
  pub behind : Tail ts left
  pub tells : R e left

-- What is left behind a reading is a tail; and where there is none, its cause was raised.
pub record Caused {T F A : Type 0} (R : F → List T → Type 0) (ts : List T) (o : Read T F A) : Type 0 where
  pub tail : (a : A) (rest : List T) → o ≡ Ok (a, rest) → Tail ts rest
  pub raised : (e : F) → o ≡ Err e → Raised R e ts

module _ {T F : Type 0} {R : F → List T → Type 0} where
  pub raised_behind : {e : F} {ts us : List T} → Tail ts us → Raised R e us → Raised R e ts
  raised_behind d h = record { left = h.left; behind = tail_behind d h.behind; tells = h.tells }

  pub caused_ok : {A : Type 0} {ts us : List T} {a : A} → Tail ts us → Caused {A = A} R ts (Ok (a, us))
  caused_ok {ts = ts} d = record { tail = λ b rest e. moved (λ l t. Tail ts l) e d; raised = λ e f. absurd (cc) }

  pub caused_err : {A : Type 0} {ts : List T} (c : F) → R c ts → Caused {A = A} R ts (Err c)
  caused_err {ts = ts} c h = record {
    tail = λ a rest e. absurd (cc);
    raised = λ e f. let same : c ≡ e = cc in subst (λ d. Raised R d ts) same (record { left = ts; behind = tail_here; tells = h });
  }

  pub caused_bind : {A B : Type 0} {ts : List T} {o : Read T F A} (f : A × List T → Read T F B) → Caused R ts o → ((x : A × List T) → Caused R x.1 (f x)) → Caused R ts (o >>= f)
  caused_bind {o = o} f h g = record {
    tail = λ a rest e. let x = bind_ok o f (a, rest) e in tail_behind (h.tail x.0.0 x.0.1 x.1) ((g x.0).tail a rest x.2);
    raised = λ e d. elim (bind_err o f e d) [ inl k ↦ h.raised e k | inr (x, is, k) ↦ raised_behind (h.tail x.0 x.1 is) ((g x).raised e k) ];
  }

  pub caused_behind : {A : Type 0} {ts us : List T} {o : Read T F A} → Tail ts us → Caused R us o → Caused R ts o
  caused_behind d h = record { tail = λ a rest e. tail_behind d (h.tail a rest e); raised = λ e f. raised_behind d (h.raised e f) }

  pub caused_match : {A B : Type 0} {ts : List T} (o : Look T A) {d : Read T F B} (f : A × List T → Read T F B) → ((x : A × List T) → o ≡ Some x → Tail ts x.1) → Caused R ts d →
      ((x : A × List T) → Caused R x.1 (f x)) → Caused R ts (match_option o d f)
  caused_match None f takes h g = h
  caused_match (Some x) f takes h g = caused_behind (takes x refl) (g x)

  pub caused_required : {A : Type 0} {ts : List T} (c : F) (o : Look T A) → ((x : A × List T) → o ≡ Some x → Tail ts x.1) → R c ts → Caused {A = A} R ts (required c o)
  caused_required c None takes h = caused_err c h
  caused_required c (Some x) takes h = caused_ok (takes x refl)

-- what tells R tells S
pub caused_as : {T F A : Type 0} {R S : F → List T → Type 0} {ts : List T} {o : Read T F A} → ((e : F) (us : List T) → R e us → S e us) → Caused R ts o → Caused S ts o
caused_as g h = record { tail = h.tail; raised = λ e f. let r = h.raised e f in record { left = r.left; behind = r.behind; tells = g e r.left r.tells } }

-- Readings that never end in the cause c, and where the others do.

-- a record, so that antt finds its arguments
pub record Never {T F A : Type 0} (c : F) (o : Read T F A) : Type 0 where
  pub never : ¬ (o ≡ Err c)

module _ {T F : Type 0} {c : F} where
  pub never_ok : {A : Type 0} {x : A × List T} → Never {A = A} c (Ok x)
  never_ok = record { never = λ e. cc }

  -- a value that was made of what was read
  pub never_made : {A B : Type 0} {o : Read T F A} (f : A × List T → B × List T) → Never c o → Never c (o >>= λ x. Ok (f x))
  never_made {o = o} f h = record { never = λ e. elim (bind_err o (λ x. Ok (f x)) c e) [ inl d ↦ h.never d | inr (x, is, d) ↦ absurd (cc) ] }

  -- the first step, or what is behind it
  pub either : {A B Q : Type 0} (o : Read T F A) {f : A × List T → Read T F B} → (o >>= f) ≡ Err c → (o ≡ Err c → Q) → ((x : A × List T) → o ≡ Ok x → f x ≡ Err c → Q) → Q
  either o {f} e g h = elim (bind_err o f c e) [ inl d ↦ g d | inr (x, is, d) ↦ h x is d ]

  -- not in the first step
  pub later : {A B Q : Type 0} {o : Read T F A} {f : A × List T → Read T F B} → Never c o → (o >>= f) ≡ Err c → ((x : A × List T) → o ≡ Ok x → f x ≡ Err c → Q) → Q
  later {o = o} h e g = either o e (λ d. absurd (h.never d)) g

  -- not behind the first step
  pub first : {A B Q : Type 0} (o : Read T F A) {f : A × List T → Read T F B} → (o >>= f) ≡ Err c → (o ≡ Err c → Q) → ((x : A × List T) → Never c (f x)) → Q
  first o e g h = either o e g (λ x is d. absurd ((h x).never d))
