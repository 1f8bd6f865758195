-- The laws of turns.
use Rattle.std.proofs.Common.{◌≡◌, ℕ, zero, suc, ◌<◌, List, length, ◌∙◌, arith, inl, inr}
use Rattle.std.specs.Prelude.{Some, None, Ok}
use Rattle.descent.specs.Reading.{Read, Look, match_option, ◌>>=◌, turns, repeated}
use Rattle.descent.proofs.Tools.{bind_ok, cases_of, moved, none_or_some, ok_or_err, bind_pure, Yields, Shows}

-- Soundness: what holds of the value and the rest so far, and stays so by each turn, holds at the end.
turns-keep : {T F O A : Type 0} (c : F) (op : List T → Look T O) (step : O → A → List T → Read T F A) (P : List T → A → Type 0) →
    ((o : O) (ts mid rest : List T) (a b : A) → P ts a → op ts ≡ Some (o, mid) → step o a mid ≡ Ok (b, rest) → P rest b) →
    (k : ℕ) (a : A) (ts : List T) (b : A) (rest : List T) → P ts a → turns c op step k a ts ≡ Ok (b, rest) → P rest b
unfolding turns
turns-keep c op step P go zero a ts b rest p e = absurd (cc)
turns-keep c op step P go (suc k) a ts b rest p e =
    elim (cases_of (op ts) _ _ _ e) [
      | inl s ↦ moved P s.1 p
      | inr (x, was, f) ↦
          let g = bind_ok (step x.0 a x.1) _ _ f in
          turns-keep c op step P go k g.0.0 g.0.1 b rest (go x.0 ts x.1 g.0.1 a g.0.0 p was g.1) g.2
    ]

pub repeated-keeps : {T F O A : Type 0} (c : F) (op : List T → Look T O) (step : O → A → List T → Read T F A) (P : List T → A → Type 0) →
    ((o : O) (ts mid rest : List T) (a b : A) → P ts a → op ts ≡ Some (o, mid) → step o a mid ≡ Ok (b, rest) → P rest b) →
    (a : A) (ts : List T) (b : A) (rest : List T) → P ts a → repeated c op step a ts ≡ Ok (b, rest) → P rest b
unfolding repeated
repeated-keeps c op step P go a ts = turns-keep c op step P go (suc (length ts)) a ts

-- turns end where nothing more is looked at
turns-stop : {T F O A : Type 0} (c : F) (op : List T → Look T O) (step : O → A → List T → Read T F A) (k : ℕ) (a : A) (ts : List T) (b : A) (rest : List T) →
    turns c op step k a ts ≡ Ok (b, rest) → op rest ≡ None
unfolding turns
turns-stop c op step zero a ts b rest e = absurd (cc)
turns-stop c op step (suc k) a ts b rest e =
    elim (cases_of (op ts) _ _ _ e) [
      | inl s ↦ moved (λ l t. op l ≡ None) s.1 s.0
      | inr (x, was, f) ↦
          let g = bind_ok (step x.0 a x.1) _ _ f in
          turns-stop c op step k g.0.0 g.0.1 b rest g.2
    ]

pub repeated-stops : {T F O A : Type 0} (c : F) (op : List T → Look T O) (step : O → A → List T → Read T F A) (a : A) (ts : List T) (b : A) (rest : List T) →
    repeated c op step a ts ≡ Ok (b, rest) → op rest ≡ None
unfolding repeated
repeated-stops c op step a ts = turns-stop c op step (suc (length ts)) a ts

-- Completeness. Reading ts by r has come to rest, with a read so far.
pub record Arrives {T F O A : Type 0} (c : F) (op : List T → Look T O) (step : O → A → List T → Read T F A) (r : List T → Read T F A) (ts rest : List T) (a : A) : Type 0 where
  pub is : r ts ≡ repeated c op step a rest

-- nothing more is looked at
pub last : {T F O A : Type 0} {c : F} {op : List T → Look T O} {step : O → A → List T → Read T F A} {r : List T → Read T F A} {ts rest : List T} {a : A} →
    Arrives c op step r ts rest a → op rest ≡ None → Yields r ts rest a
unfolding repeated turns
last s e = record { is = s.is ∙ rw e }

-- Each turn takes a token, so turns are not cut short.
module _ {T F O A : Type 0} (c : F) (op : List T → Look T O) (step : O → A → List T → Read T F A)
    (shorter : (ts mid rest : List T) (o : O) (a b : A) → op ts ≡ Some (o, mid) → step o a mid ≡ Ok (b, rest) → length rest < length ts) where
  pub turns-any : (k m : ℕ) (a : A) (ts : List T) → length ts < k → length ts < m → turns c op step k a ts ≡ turns c op step m a ts
  unfolding turns
  turns-any zero m a ts h i = absurd (omega arith)
  turns-any (suc k) zero a ts h i = absurd (omega arith)
  turns-any (suc k) (suc m) a ts h i =
      elim (none_or_some (op ts)) [
        | inl e ↦ rw e
        | inr (x, e) ↦ rw e (elim (ok_or_err (step x.0 a x.1)) [
          | inl (d, f) ↦ rw f
          | inr (y, f) ↦ rw f (turns-any k m y.0 y.1
              (omega (arith, shorter ts x.1 y.1 x.0 a y.0 e f))
              (omega (arith, shorter ts x.1 y.1 x.0 a y.0 e f)))
        ])
      ]

  pub repeated-more : (a : A) (ts : List T) → repeated c op step a ts ≡ match_option (op ts) (Ok (a, ts)) (λ x. step x.0 a x.1 >>= λ y. repeated c op step y.0 y.1)
  unfolding repeated turns
  repeated-more a ts =
      elim (none_or_some (op ts)) [
        | inl e ↦ rw e
        | inr (x, e) ↦ rw e (elim (ok_or_err (step x.0 a x.1)) [
          | inl (d, f) ↦ rw f
          | inr (y, f) ↦ rw f (turns-any (length ts) (suc (length y.1)) y.0 y.1
              (omega (arith, shorter ts x.1 y.1 x.0 a y.0 e f)) (omega arith))
        ])
      ]

  -- a turn that reads an item and joins it to what is there
  pub items-more : {B : Type 0} (item : A → List T → Read T F B) (join : A → B → A) → ((o : O) (a : A) (ts : List T) → step o a ts ≡ (item a ts >>= λ y. Ok (join a y.0, y.1))) →
      (a : A) (ts : List T) → repeated c op step a ts ≡ match_option (op ts) (Ok (a, ts)) (λ x. item a x.1 >>= λ y. repeated c op step (join a y.0) y.1)
  items-more item join is a ts = repeated-more a ts ∙ elim (none_or_some (op ts)) [
    | inl e ↦ rw e
    | inr (x, e) ↦ rw (e, is x.0 a x.1, bind_pure {B = A × List T} (item a x.1) (λ y. (join a y.0, y.1)) (λ y. repeated c op step y.0 y.1))
  ]

  -- one more turn
  pub next : {r : List T → Read T F A} {ts us mid rest : List T} {o : O} {a b : A} →
      Arrives c op step r ts us a → Shows op us mid o → Yields (step o a) mid rest b → Arrives c op step r ts rest b
  next {r} {ts} {us} {mid} {rest} {o} {a} {b} s y z = record { is = s.is ∙ rw (repeated-more a us, y.is, z.is) }
