-- What reading gives, and where it stops, rests on the symbols up to there and on the two behind.
use Rattle.std.proofs.Common.{◌≡◌, ℕ, zero, suc, ◌+◌, ◌<◌, ◌≤◌, List, ◌∷◌, length, true, false, refl, sym, ◌∙◌, subst, arith, inl, inr}
use Rattle.std.specs.Prelude.{Bool, Some, None, Ok, Err, if◌then◌else◌}
use Rattle.descent.specs.Reading.{Look, match_option, ◌>>=◌, required, repeated}
use Rattle.descent.proofs.Tools.{bind_ok, bind_err, cases_of, chosen, moved}
use Rattle.cat_syntax.specs.declared.syntax_fault.SyntaxFault.{SyntaxFault}
use Rattle.cat_syntax.specs.declared.symbol.Symbol.{Symbol}
use Rattle.cat_syntax.specs.Reading.{Stop, Reading, cut}

-- ts and us are the same up to their ends x and y
pub data Same (x y : List Symbol) : List Symbol → List Symbol → Type 0 where
  same_end : Same x y x y
  same_more : {t : Symbol} {ts us : List Symbol} → Same x y ts us → Same x y (t ∷ ts) (t ∷ us)

-- three symbols or more before the end x
abbrev pub Far : List Symbol → List Symbol → Type 0
Far x ts = length x + 3 ≤ length ts

-- o and p stop at one place with one answer, where that is far before the end, and behind no more than n symbols
pub record Agree {A : Type 0} (x y : List Symbol) (n : ℕ) (o p : Reading A) : Type 0 where
  pub ok : (a : A) (rest : List Symbol) → o ≡ Ok (a, rest) → (length rest ≤ n) × (Far x rest → (end : List Symbol) × (p ≡ Ok (a, end)) × Same x y rest end)
  pub err : (c : SyntaxFault) (rest : List Symbol) → o ≡ Err (c, rest) → (length rest ≤ n) × (Far x rest → (end : List Symbol) × (p ≡ Err (c, end)) × Same x y rest end)

-- the same of what may be taken
pub record AgreeLook {A : Type 0} (x y ts : List Symbol) (o p : Look Symbol A) : Type 0 where
  pub none : o ≡ None → Far x ts → p ≡ None
  pub some : (a : A) (rest : List Symbol) → o ≡ Some (a, rest) → (length rest ≤ length ts) × (Far x rest → (end : List Symbol) × (p ≡ Some (a, end)) × Same x y rest end)

-- whatever stands behind
abbrev pub AlikeAt : {A : Type 0} → (List Symbol → Reading A) → List Symbol → Type 0
AlikeAt r ts = (x y us : List Symbol) → Same x y ts us → Agree x y (length ts) (r ts) (r us)

abbrev pub Alike : {A : Type 0} → (List Symbol → Reading A) → Type 0
Alike r = (ts : List Symbol) → AlikeAt r ts

abbrev pub AlikeLook : {A : Type 0} → (List Symbol → Look Symbol A) → Type 0
AlikeLook l = (ts x y us : List Symbol) → Same x y ts us → AgreeLook x y ts (l ts) (l us)

pub stopped : {A : Type 0} (P : List Symbol → SyntaxFault → Type 0) {c d : SyntaxFault} {ts rest : List Symbol} → ◌≡◌ {A = Reading A} (Err (c, ts)) (Err (d, rest)) → P ts c → P rest d
stopped P {c} {d} {ts} {rest} e p =
    let same : ◌≡◌ {A = Stop} (c, ts) (d, rest) = cc in
    subst (λ (q : Stop). P q.1 q.0) same p

pub agree-weaken : {A : Type 0} {x y : List Symbol} {m n : ℕ} {o p : Reading A} → Agree x y m o p → m ≤ n → Agree x y n o p
agree-weaken g h = record {
  ok = λ a rest e. (omega (arith, (g.ok a rest e).0, h), (g.ok a rest e).1);
  err = λ c rest e. (omega (arith, (g.err c rest e).0, h), (g.err c rest e).1);
}

pub agree-ok : {A : Type 0} (a : A) {x y ts us : List Symbol} → Same x y ts us → Agree {A = A} x y (length ts) (Ok (a, ts)) (Ok (a, us))
agree-ok {A} a {x} {y} {ts} {us} s = record {
  ok = λ b rest e. moved (λ l t. (length l ≤ length ts) × (Far x l → (end : List Symbol) × (◌≡◌ {A = Reading A} (Ok (a, us)) (Ok (t, end))) × Same x y l end)) e (omega arith, λ _. (us, refl, s));
  err = λ c rest e. absurd (cc);
}

pub agree-err : {A : Type 0} (c : SyntaxFault) {x y ts us : List Symbol} → Same x y ts us → Agree {A = A} x y (length ts) (Err (c, ts)) (Err (c, us))
agree-err {A} c {x} {y} {ts} {us} s = record {
  ok = λ b rest e. absurd (cc);
  err = λ d rest e. stopped (λ l t. (length l ≤ length ts) × (Far x l → (end : List Symbol) × (◌≡◌ {A = Reading A} (Err (c, us)) (Err (t, end))) × Same x y l end)) e (omega arith, λ _. (us, refl, s));
}

-- one step, and then another
pub agree-bind : {A B : Type 0} {x y : List Symbol} {n : ℕ} {o p : Reading A} (f : A × List Symbol → Reading B) → Agree x y n o p →
    ((a : A) (ts : List Symbol) → o ≡ Ok (a, ts) → AlikeAt (λ l. f (a, l)) ts) → Agree x y n (o >>= f) (p >>= f)
agree-bind {A} {B} {x} {y} {n} {o} {p} f g step = record { ok = ok_of; err = err_of }
  where
    ok_of : (b : B) (rest : List Symbol) → (o >>= f) ≡ Ok (b, rest) → (length rest ≤ n) × (Far x rest → (end : List Symbol) × ((p >>= f) ≡ Ok (b, end)) × Same x y rest end)
    ok_of b rest e =
        let s = bind_ok o f (b, rest) e in
        let q = g.ok s.0.0 s.0.1 s.1 in
        let bound = ((step s.0.0 s.0.1 s.1 s.0.1 s.0.1 s.0.1 same_end).ok b rest s.2).0 in (
          omega (arith, q.0, bound),
          λ far.
              let m = q.1 (omega (arith, far, bound)) in
              let k = ((step s.0.0 s.0.1 s.1 x y m.0 m.2).ok b rest s.2).1 far in
              (k.0, rw m.1 k.1, k.2),
        )

    err_of : (c : SyntaxFault) (rest : List Symbol) → (o >>= f) ≡ Err (c, rest) → (length rest ≤ n) × (Far x rest → (end : List Symbol) × ((p >>= f) ≡ Err (c, end)) × Same x y rest end)
    err_of c rest e = elim (bind_err o f (c, rest) e) [
      | inl d ↦
          let q = g.err c rest d in
          (q.0, λ far. let m = q.1 far in (m.0, rw m.1 refl, m.2))
      | inr (s, is, d) ↦
          let q = g.ok s.0 s.1 is in
          let bound = ((step s.0 s.1 is s.1 s.1 s.1 same_end).err c rest d).0 in (
            omega (arith, q.0, bound),
            λ far.
                let m = q.1 (omega (arith, far, bound)) in
                let k = ((step s.0 s.1 is x y m.0 m.2).err c rest d).1 far in
                (k.0, rw m.1 k.1, k.2),
          )
    ]

-- what is taken, or else
pub agree-look : {A B : Type 0} {x y ts : List Symbol} {l m : Look Symbol A} {d e : Reading B} (f : A × List Symbol → Reading B) → AgreeLook x y ts l m →
    Agree x y (length ts) d e → ((a : A) (us : List Symbol) → l ≡ Some (a, us) → AlikeAt (λ r. f (a, r)) us) → Agree x y (length ts) (match_option l d f) (match_option m e f)
agree-look {A} {B} {x} {y} {ts} {l} {m} {d} {e} f g other step = record { ok = ok_of; err = err_of }
  where
    ok_of : (b : B) (rest : List Symbol) → match_option l d f ≡ Ok (b, rest) → (length rest ≤ length ts) × (Far x rest → (end : List Symbol) × (match_option m e f ≡ Ok (b, end)) × Same x y rest end)
    ok_of b rest h = elim (cases_of l d f (Ok (b, rest)) h) [
      | inl s ↦
          let q = other.ok b rest s.1 in
          (q.0, λ far. let k = q.1 far in (k.0, rw (g.none s.0 (omega (arith, far, q.0))) k.1, k.2))
      | inr (s, is, k) ↦
          let q = g.some s.0 s.1 is in
          let bound = ((step s.0 s.1 is s.1 s.1 s.1 same_end).ok b rest k).0 in (
            omega (arith, q.0, bound),
            λ far.
                let w = q.1 (omega (arith, far, bound)) in
                let v = ((step s.0 s.1 is x y w.0 w.2).ok b rest k).1 far in
                (v.0, rw w.1 v.1, v.2),
          )
    ]

    err_of : (c : SyntaxFault) (rest : List Symbol) → match_option l d f ≡ Err (c, rest) → (length rest ≤ length ts) × (Far x rest → (end : List Symbol) × (match_option m e f ≡ Err (c, end)) × Same x y rest end)
    err_of c rest h = elim (cases_of l d f (Err (c, rest)) h) [
      | inl s ↦
          let q = other.err c rest s.1 in
          (q.0, λ far. let k = q.1 far in (k.0, rw (g.none s.0 (omega (arith, far, q.0))) k.1, k.2))
      | inr (s, is, k) ↦
          let q = g.some s.0 s.1 is in
          let bound = ((step s.0 s.1 is s.1 s.1 s.1 same_end).err c rest k).0 in (
            omega (arith, q.0, bound),
            λ far.
                let w = q.1 (omega (arith, far, bound)) in
                let v = ((step s.0 s.1 is x y w.0 w.2).err c rest k).1 far in
                (v.0, rw w.1 v.1, v.2),
          )
    ]

-- a test that rests on the symbols ahead
pub agree-if : {A : Type 0} {x y : List Symbol} {n : ℕ} (b c : Bool) {o p q r : Reading A} → (length x + 3 ≤ n → b ≡ c) → Agree x y n o q → Agree x y n p r →
    Agree x y n (if b then o else p) (if c then q else r)
agree-if {A} {x} {y} {n} b c {o} {p} {q} {r} same g h = record { ok = ok_of; err = err_of }
  where
    ok_of : (a : A) (rest : List Symbol) → (if b then o else p) ≡ Ok (a, rest) → (length rest ≤ n) × (Far x rest → (end : List Symbol) × ((if c then q else r) ≡ Ok (a, end)) × Same x y rest end)
    ok_of a rest e = elim (chosen b o p (Ok (a, rest)) e) [
      | inl s ↦ let k = g.ok a rest s.1 in (k.0, λ far. let v = k.1 far in let t : c ≡ true = sym (same (omega (arith, far, k.0))) ∙ s.0 in (v.0, rw t v.1, v.2))
      | inr s ↦ let k = h.ok a rest s.1 in (k.0, λ far. let v = k.1 far in let t : c ≡ false = sym (same (omega (arith, far, k.0))) ∙ s.0 in (v.0, rw t v.1, v.2))
    ]

    err_of : (a : SyntaxFault) (rest : List Symbol) → (if b then o else p) ≡ Err (a, rest) → (length rest ≤ n) × (Far x rest → (end : List Symbol) × ((if c then q else r) ≡ Err (a, end)) × Same x y rest end)
    err_of a rest e = elim (chosen b o p (Err (a, rest)) e) [
      | inl s ↦ let k = g.err a rest s.1 in (k.0, λ far. let v = k.1 far in let t : c ≡ true = sym (same (omega (arith, far, k.0))) ∙ s.0 in (v.0, rw t v.1, v.2))
      | inr s ↦ let k = h.err a rest s.1 in (k.0, λ far. let v = k.1 far in let t : c ≡ false = sym (same (omega (arith, far, k.0))) ∙ s.0 in (v.0, rw t v.1, v.2))
    ]

-- what has to stand in front
pub agree-required : {A : Type 0} (c : SyntaxFault) {x y ts us : List Symbol} {l m : Look Symbol A} → Same x y ts us → AgreeLook x y ts l m → Agree x y (length ts) (required {F = Stop} (c, ts) l) (required {F = Stop} (c, us) m)
agree-required {A} c {x} {y} {ts} {us} {l} {m} s g = record { ok = ok_of l m g; err = err_of l m g }
  where
    ok_of : (l m : Look Symbol A) → AgreeLook x y ts l m → (a : A) (rest : List Symbol) → required {F = Stop} (c, ts) l ≡ Ok (a, rest) → (length rest ≤ length ts) × (Far x rest → (end : List Symbol) × (required {F = Stop} (c, us) m ≡ Ok (a, end)) × Same x y rest end)
    ok_of None m g a rest e = absurd (cc)
    ok_of (Some w) m g a rest e =
        let is : ◌≡◌ {A = Look Symbol A} (Some w) (Some (a, rest)) = cc in
        let q = g.some a rest is in
        (q.0, λ far. let k = q.1 far in (k.0, rw k.1 refl, k.2))

    err_of : (l m : Look Symbol A) → AgreeLook x y ts l m → (d : SyntaxFault) (rest : List Symbol) → required {F = Stop} (c, ts) l ≡ Err (d, rest) → (length rest ≤ length ts) × (Far x rest → (end : List Symbol) × (required {F = Stop} (c, us) m ≡ Err (d, end)) × Same x y rest end)
    err_of None m g d rest e = stopped (λ k t. (length k ≤ length ts) × (Far x k → (end : List Symbol) × (required {F = Stop} (c, us) m ≡ Err (t, end)) × Same x y k end)) e (omega arith, λ far. (us, rw (g.none refl far) refl, s))
    err_of (Some w) m g d rest e = absurd (cc)

-- turns
module _ {O A : Type 0} (op : List Symbol → Look Symbol O) (step : O → A → List Symbol → Reading A)
    (more : (a : A) (ts : List Symbol) → repeated cut op step a ts ≡ match_option (op ts) (Ok (a, ts)) (λ x. step x.0 a x.1 >>= λ y. repeated cut op step y.0 y.1))
    (shorter : (ts mid rest : List Symbol) (o : O) (a b : A) → op ts ≡ Some (o, mid) → step o a mid ≡ Ok (b, rest) → length rest < length ts)
    (look : AlikeLook op) (each : (o : O) (a : A) → Alike (step o a)) where
  turns-up_to : (k : ℕ) (a : A) (ts : List Symbol) → length ts < k → AlikeAt (repeated cut op step a) ts
  turns-up_to zero a ts h x y us s = absurd (omega (arith, h))
  turns-up_to (suc k) a ts h x y us s =
      rw (more a ts, more a us)
      (agree-look (λ w. step w.0 a w.1 >>= λ v. repeated cut op step v.0 v.1) (look ts x y us s) (agree-ok a s)
      (λ o mid is v w end t. agree-bind (λ u. repeated cut op step u.0 u.1) (each o a mid v w end t)
      (λ b rest f. turns-up_to k b rest (omega (arith, h, shorter ts mid rest o a b is f)))))

  pub alike-repeated : (a : A) → Alike (repeated cut op step a)
  alike-repeated a ts = turns-up_to (suc (length ts)) a ts (omega arith)
