-- What a walk over the reading functions keeps, for each of them: what is told of the causes for which there is no
-- reading, and that reading does the same on symbols that begin alike, up to where they part. Tools.
use Rattle.std.proofs.Common.{◌≡◌, ℕ, zero, suc, ◌<◌, ◌≤◌, List, [], ◌∷◌, length, ◌+◌, arith, refl}
use Rattle.std.specs.Prelude.{Bool, true, false, Some, None, Ok, Err, if◌then◌else◌}
use Rattle.descent.specs.Reading.{Look, match_option, ◌>>=◌, required, turns, repeated}
use Rattle.descent.proofs.Causes.{Tail, tail_here, tail_later, Caused, caused_ok, caused_err, caused_bind, caused_behind, caused_match, caused_required, caused_as}
use Rattle.descent.proofs.Tools.{moved_look}
use Rattle.descent.proofs.Turns.{turns-any}
use Rattle.litmus_syntax.specs.declared.symbol.Symbol.{Symbol}
use Rattle.litmus_syntax.specs.Reading.{Cause, Reading, syntax, deep, misordered}

-- What a cause tells of the symbols where it is raised: of a place that it is in them, of `deep` D, and of `misordered` M.
abbrev pub Tells : Type 0 → (List Symbol → Type 0) → Cause → List Symbol → Type 0
Tells D M (syntax n) ts = n ≤ length ts
Tells D M deep ts = D
Tells D M misordered ts = M ts

-- nothing is told of an order
abbrev pub Any : List Symbol → Type 0
Any ts = Unit {0}

-- no more is told than that the place is in the symbols
abbrev pub Placed : {A : Type 0} → List Symbol → Reading A → Type 0
Placed ts o = Caused (Tells (Unit {0}) Any) ts o

tells_any : (D : Type 0) (M : List Symbol → Type 0) (e : Cause) (ts : List Symbol) → Tells D M e ts → Tells D Any e ts
tells_any D M (syntax n) ts h = h
tells_any D M deep ts h = h
tells_any D M misordered ts h = tt

tells_place : (D : Type 0) (M : List Symbol → Type 0) (e : Cause) (ts : List Symbol) → Tells D M e ts → Tells (Unit {0}) Any e ts
tells_place D M (syntax n) ts h = h
tells_place D M deep ts h = tt
tells_place D M misordered ts h = tt

pub placed : {A D : Type 0} {M : List Symbol → Type 0} {ts : List Symbol} {o : Reading A} → Caused (Tells D M) ts o → Placed ts o
placed {D = D} {M} h = caused_as (tells_place D M) h

-- The same symbols up to one, and with that one; r and s stand behind it.
pub data Alike (r s : List Symbol) : List Symbol → List Symbol → Type 0 where
  alike_last : {x : Symbol} → Alike r s (x ∷ r) (x ∷ s)
  alike_next : {x : Symbol} {ts us : List Symbol} → Alike r s ts us → Alike r s (x ∷ ts) (x ∷ us)

-- The same is read, or both stop at the same place; or the former reading is past the place where the symbols part.
pub data Agree {A : Type 0} (r s : List Symbol) : Reading A → Reading A → Type 0 where
  agree_ok : {a : A} {ts us : List Symbol} → Alike r s ts us → Agree r s (Ok (a, ts)) (Ok (a, us))
  agree_stuck : {ts us : List Symbol} → Alike r s ts us → Agree r s (Err (syntax (length ts))) (Err (syntax (length us)))
  agree_past : {o p : Reading A} → Placed r o → Agree r s o p

-- o is read from ts, and p from us
pub record Both {A : Type 0} (D : Type 0) (M : List Symbol → Type 0) (ts us : List Symbol) (o p : Reading A) : Type 0 where
  pub told : Caused (Tells D M) ts o
  pub agree : (r s : List Symbol) → Alike r s ts us → Agree r s o p

-- What stands first in symbols is seen, and these stand behind it; or it is not.
pub data Head {A : Type 0} (ts us : List Symbol) : Look Symbol A → Look Symbol A → Type 0 where
  head_none : Head ts us None None
  head_some : {a : A} → Head ts us (Some (a, ts)) (Some (a, us))

pub data Shown {A : Type 0} (r s : List Symbol) : Look Symbol A → Look Symbol A → Type 0 where
  shown_none : Shown r s None None
  shown_some : {a : A} {ts us : List Symbol} → Alike r s ts us → Shown r s (Some (a, ts)) (Some (a, us))
  shown_past : {o p : Look Symbol A} {a : A} {ts : List Symbol} → Tail r ts → o ≡ Some (a, ts) → Shown r s o p

pub record Seen {A : Type 0} (ts us : List Symbol) (o p : Look Symbol A) : Type 0 where
  pub takes : (x : A × List Symbol) → o ≡ Some x → Tail ts x.1
  pub shown : (r s : List Symbol) → Alike r s ts us → Shown r s o p

-- what is behind something that may be skipped
pub data Behind (r s : List Symbol) : List Symbol → List Symbol → Type 0 where
  behind_alike : {ts us : List Symbol} → Alike r s ts us → Behind r s ts us
  behind_past : {ts us : List Symbol} → Tail r ts → Behind r s ts us

pub record Skips (ts us vs ws : List Symbol) : Type 0 where
  pub left : Tail ts vs
  pub behind : (r s : List Symbol) → Alike r s ts us → Behind r s vs ws

-- what is seen

head_takes : {A : Type 0} {ts us : List Symbol} {o p : Look Symbol A} → Head ts us o p → (x : A × List Symbol) → o ≡ Some x → Tail ts x.1
head_takes head_none x e = absurd (cc)
head_takes {ts = ts} head_some x e = moved_look (λ l t. Tail ts l) e tail_here

first_takes : {A : Type 0} (op : List Symbol → Look Symbol A) → op [] ≡ None → ((x : Symbol) (ts us : List Symbol) → Head ts us (op (x ∷ ts)) (op (x ∷ us))) → (ts : List Symbol) (y : A × List Symbol) → op ts ≡ Some y → Tail ts y.1
first_takes op nil heads [] y e = absurd (cc)
first_takes op nil heads (x ∷ ts) y e = tail_later (head_takes (heads x ts ts) y e)

head_last : {A : Type 0} {r s : List Symbol} {o p : Look Symbol A} → Head r s o p → Shown r s o p
head_last head_none = shown_none
head_last head_some = shown_past tail_here refl

head_next : {A : Type 0} {r s ts us : List Symbol} {o p : Look Symbol A} → Alike r s ts us → Head ts us o p → Shown r s o p
head_next d head_none = shown_none
head_next d head_some = shown_some d

head_shown : {A : Type 0} (op : List Symbol → Look Symbol A) → ((x : Symbol) (ts us : List Symbol) → Head ts us (op (x ∷ ts)) (op (x ∷ us))) → {ts us : List Symbol} (r s : List Symbol) → Alike r s ts us → Shown r s (op ts) (op us)
head_shown op heads r s (alike_last {x}) = head_last (heads x r s)
head_shown op heads r s (alike_next {x} {ts} {us} d) = head_next d (heads x ts us)

pub seen_first : {A : Type 0} (op : List Symbol → Look Symbol A) → op [] ≡ None → ((x : Symbol) (ts us : List Symbol) → Head ts us (op (x ∷ ts)) (op (x ∷ us))) → (ts us : List Symbol) → Seen ts us (op ts) (op us)
seen_first op nil heads ts us = record { takes = first_takes op nil heads ts; shown = head_shown op heads }

-- what may be skipped

skip_left : {A : Type 0} {ts vs : List Symbol} (o : Look Symbol A) → ((x : A × List Symbol) → o ≡ Some x → Tail ts x.1) → Tail ts vs → Tail ts (match_option o vs (λ y. y.1))
skip_left None takes d = d
skip_left (Some x) takes d = takes x refl

past_skip : {A : Type 0} {r : List Symbol} {o : Look Symbol A} {a : A} {ts : List Symbol} (vs : List Symbol) → Tail r ts → o ≡ Some (a, ts) → Tail r (match_option o vs (λ y. y.1))
past_skip vs d e = rw e d

skip_behind : {A : Type 0} {r s : List Symbol} {o p : Look Symbol A} {vs ws : List Symbol} → Shown r s o p → Behind r s vs ws → Behind r s (match_option o vs (λ y. y.1)) (match_option p ws (λ y. y.1))
skip_behind shown_none h = h
skip_behind (shown_some d) h = behind_alike d
skip_behind (shown_past l e) h = behind_past (past_skip _ l e)

pub skip_none : {ts us : List Symbol} → Skips ts us ts us
skip_none = record { left = tail_here; behind = λ r s d. behind_alike d }

pub skip_match : {A : Type 0} {ts us vs ws : List Symbol} {o p : Look Symbol A} → Seen ts us o p → Skips ts us vs ws → Skips ts us (match_option o vs (λ y. y.1)) (match_option p ws (λ y. y.1))
skip_match {o = o} h k = record { left = skip_left o h.takes k.left; behind = λ r s d. skip_behind (h.shown r s d) (k.behind r s d) }

-- past the place where the symbols part

past_match : {A B : Type 0} {r : List Symbol} {o : Look Symbol A} (d : Reading B) (f : A × List Symbol → Reading B) {a : A} {ts : List Symbol} → Tail r ts → o ≡ Some (a, ts) → Placed ts (f (a, ts)) → Placed r (match_option o d f)
past_match d f l e h = rw e (caused_behind l h)

past_required : {A : Type 0} {r : List Symbol} (n : ℕ) {o : Look Symbol A} {a : A} {ts : List Symbol} → Tail r ts → o ≡ Some (a, ts) → Placed r (required (syntax n) o)
past_required n l e = rw e (caused_ok l)

agree_required : {A : Type 0} {r s ts us : List Symbol} {o p : Look Symbol A} → Alike r s ts us → Shown r s o p → Agree r s (required (syntax (length ts)) o) (required (syntax (length us)) p)
agree_required d shown_none = agree_stuck d
agree_required d (shown_some e) = agree_ok e
agree_required d (shown_past l e) = agree_past (past_required _ l e)

module _ {D : Type 0} {M : List Symbol → Type 0} where
  pub both_any : {A : Type 0} {ts us : List Symbol} {o p : Reading A} → Both D M ts us o p → Both D Any ts us o p
  both_any h = record { told = caused_as (tells_any D M) h.told; agree = h.agree }

  agree_bind : {A B : Type 0} {r s : List Symbol} {o p : Reading A} (f g : A × List Symbol → Reading B) → Agree r s o p → ((a : A) (ts us : List Symbol) → Both D M ts us (f (a, ts)) (g (a, us))) → Agree r s (o >>= f) (p >>= g)
  agree_bind {r = r} {s} f g (agree_ok {a} {ts} {us} d) k = (k a ts us).agree r s d
  agree_bind f g (agree_stuck d) k = agree_stuck d
  agree_bind f g (agree_past l) k = agree_past (caused_bind f l (λ x. placed (k x.0 x.1 x.1).told))

  pub both_bind : {A B : Type 0} {ts us : List Symbol} {o p : Reading A} (f g : A × List Symbol → Reading B) → Both D M ts us o p → ((a : A) (ts us : List Symbol) → Both D M ts us (f (a, ts)) (g (a, us))) → Both D M ts us (o >>= f) (p >>= g)
  both_bind f g h k = record { told = caused_bind f h.told (λ x. (k x.0 x.1 x.1).told); agree = λ r s d. agree_bind f g (h.agree r s d) k }

  pub both_ok : {A : Type 0} {a : A} {ts us : List Symbol} → Both {A = A} D M ts us (Ok (a, ts)) (Ok (a, us))
  both_ok = record { told = caused_ok tail_here; agree = λ r s d. agree_ok d }

  pub both_stuck : {A : Type 0} {ts us : List Symbol} → Both {A = A} D M ts us (Err (syntax (length ts))) (Err (syntax (length us)))
  both_stuck {ts = ts} = record { told = caused_err (syntax (length ts)) (omega arith); agree = λ r s d. agree_stuck d }

  pub both_deep : {A : Type 0} {ts us : List Symbol} → D → Both {A = A} D M ts us (Err deep) (Err deep)
  both_deep h = record { told = caused_err deep h; agree = λ r s d. agree_past (caused_err deep tt) }

  pub both_misordered : {A : Type 0} {ts us : List Symbol} → M ts → Both {A = A} D M ts us (Err misordered) (Err misordered)
  both_misordered h = record { told = caused_err misordered h; agree = λ r s d. agree_past (caused_err misordered tt) }

  pub both_if : {A : Type 0} {ts us : List Symbol} (b : Bool) {o p q t : Reading A} → Both D M ts us o p → Both D M ts us q t → Both D M ts us (if b then o else q) (if b then p else t)
  both_if true h k = h
  both_if false h k = k

  -- a test of what stands first
  pub both_test : {A : Type 0} {ts us : List Symbol} (b c : Bool) {o p q t : Reading A} → ((r s : List Symbol) → Alike r s ts us → b ≡ c) → Both D M ts us o p → Both D M ts us q t → Both D M ts us (if b then o else q) (if c then p else t)
  both_test true true e h k = h
  both_test false false e h k = k
  both_test true false e h k = record { told = h.told; agree = λ r s d. let f : true ≡ false = e r s d in absurd (cc) }
  both_test false true e h k = record { told = k.told; agree = λ r s d. let f : false ≡ true = e r s d in absurd (cc) }

  agree_match : {A B : Type 0} {r s : List Symbol} {o p : Look Symbol A} {d e : Reading B} (f g : A × List Symbol → Reading B) → Shown r s o p → Agree r s d e → ((a : A) (ts us : List Symbol) → Both D M ts us (f (a, ts)) (g (a, us))) → Agree r s (match_option o d f) (match_option p e g)
  agree_match f g shown_none h k = h
  agree_match {r = r} {s} f g (shown_some {a} {ts} {us} d) h k = (k a ts us).agree r s d
  agree_match f g (shown_past {o} {p} {a} {ts} l e) h k = agree_past (past_match _ f l e (placed (k a ts ts).told))

  pub both_match : {A B : Type 0} {ts us : List Symbol} {o p : Look Symbol A} {d e : Reading B} (f g : A × List Symbol → Reading B) → Seen ts us o p → Both D M ts us d e → ((a : A) (ts us : List Symbol) → Both D M ts us (f (a, ts)) (g (a, us))) → Both D M ts us (match_option o d f) (match_option p e g)
  both_match {o = o} f g h e k = record { told = caused_match o f h.takes e.told (λ x. (k x.0 x.1 x.1).told); agree = λ r s d. agree_match f g (h.shown r s d) (e.agree r s d) k }

  pub both_required : {A : Type 0} {ts us : List Symbol} {o p : Look Symbol A} → Seen ts us o p → Both D M ts us (required (syntax (length ts)) o) (required (syntax (length us)) p)
  both_required {ts = ts} {o = o} h = record { told = caused_required (syntax (length ts)) o h.takes (omega arith); agree = λ r s d. agree_required d (h.shown r s d) }

  agree_behind : {A : Type 0} {r s vs ws : List Symbol} {o p : Reading A} → Both D M vs ws o p → Behind r s vs ws → Agree r s o p
  agree_behind {r = r} {s} h (behind_alike d) = h.agree r s d
  agree_behind h (behind_past l) = agree_past (caused_behind l (placed h.told))

  pub both_behind : {A : Type 0} {ts us vs ws : List Symbol} {o p : Reading A} → Skips ts us vs ws → Both D M vs ws o p → Both D M ts us o p
  both_behind k h = record { told = caused_behind k.left h.told; agree = λ r s d. agree_behind h (k.behind r s d) }

  -- turns
  module _ {O A : Type 0} (op : List Symbol → Look Symbol O) (step : O → A → List Symbol → Reading A) (seen : (ts us : List Symbol) → Seen ts us (op ts) (op us)) (each : (o : O) (a : A) (ts us : List Symbol) → Both D M ts us (step o a ts) (step o a us)) where
    both_turns : (k : ℕ) (a : A) (ts us : List Symbol) → Both D M ts us (turns (syntax 0) op step k a ts) (turns (syntax 0) op step k a us)
    unfolding turns
    both_turns zero a ts us = record { told = caused_err (syntax 0) (omega arith); agree = λ r s d. agree_past (caused_err (syntax 0) (omega arith)) }
    both_turns (suc k) a ts us = both_match _ _ (seen ts us) both_ok (λ o vs ws. both_bind _ _ (each o a vs ws) (λ b ts us. both_turns k b ts us))

    pub both_repeated : ((ts mid rest : List Symbol) (o : O) (a b : A) → op ts ≡ Some (o, mid) → step o a mid ≡ Ok (b, rest) → length rest < length ts) → (a : A) (ts us : List Symbol) →
        Both D M ts us (repeated (syntax 0) op step a ts) (repeated (syntax 0) op step a us)
    unfolding repeated
    both_repeated shorter a ts us =
        let k : ℕ = suc (length ts + length us) in
        rw (turns-any (syntax 0) op step shorter (suc (length ts)) k a ts (omega arith) (omega arith), turns-any (syntax 0) op step shorter (suc (length us)) k a us (omega arith) (omega arith)) (both_turns k a ts us)
