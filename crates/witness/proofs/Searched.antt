-- A walk over all numbers of a test that looks for the first execution of a kind.
use mathlib.Core.Bool.{beq, not}
use Rattle.std.proofs.Common.{◌≡◌, ℕ, ◌+◌, ◌<◌, ◌≤◌, Bool, true, false, List, [], Option, Some, None, refl, sym, ◌∙◌, ap, subst, inl, inr, arith}
use Rattle.std.specs.Prelude.{IfOk, IfSome, MatchBool, MatchOption, Result, Ok, Err}
use Rattle.std.proofs.lemmas.Bool.{cases_lt, false≢true}
use Rattle.candidates.specs.Candidates.{At, Choices, Numbering, choices_of, graph_at}
use Rattle.candidates.specs.Executions.{IsExecution}
use Rattle.candidates.specs.Walks.{IsHit, IsMiss, Walking}
use Rattle.cat_eval.specs.Judging.{Allowed}
use Rattle.cat_tree.specs.Tree.{Clause}
use Rattle.conditions.specs.Conditions.{Condition}
use Rattle.conditions.specs.States.{AreObserved}
use Rattle.conditions.specs.declared.place.Place.{Place}
use Rattle.events.specs.Executions.{GraphValue}
use Rattle.litmus_tree.specs.Tree.{Litmus}
use Rattle.slices.specs.Finals.{has}
use Rattle.slices.specs.Parts.{IsAdmitted, test_size}
use Rattle.slices.specs.Passing.{ArePassed}
use Rattle.slices.specs.Questions.{IsAnswer}
use Rattle.witness.specs.Witnesses.{IsFound, IsWitness, NoneBelow}

some_is : {X : Type 0} (x y : X) → Some x ≡ Some y → x ≡ y
some_is x y e = cc

-- the step of a walk that found something, and of one that did not
pub hit_number : (v w : Walking) (o : Option ℕ) (n : ℕ) → o ≡ Some n → MatchOption o (IsMiss v w) (IsHit v w) → IsHit v w n
hit_number v w (Some m) n e h = let P : ℕ → Type 0 = λ k. IsHit v w k in subst P (some_is m n e) h
hit_number v w None n e h = absurd (let f : None ≡ Some n = e in cc)

pub miss_number : (v w : Walking) (o : Option ℕ) → ((n : ℕ) → o ≡ Some n → ⊥) → MatchOption o (IsMiss v w) (IsHit v w) → IsMiss v w
miss_number v w None none h = h
miss_number v w (Some m) none h = absurd (none m refl)

-- none below a number, and none from there to before a later one
pub none_on : (t : Litmus) (W : GraphValue → Type 0) (a b : ℕ) → NoneBelow t W a → ((m : ℕ) → a ≤ m → m < b → (y : GraphValue) → At t m ≡ Some y → ¬ W y) → NoneBelow t W b
none_on t W a b f g m l y e = elim (cases_lt m a) [ inl k ↦ f m k y e | inr k ↦ g m k l y e ]

at_space : (t : Litmus) (s : Choices) (m : ℕ) (o : Option GraphValue) → s ≡ choices_of t → graph_at s m ≡ o → At t m ≡ o
at_space t s m o e h = let P : Choices → Type 0 = λ c. graph_at c m ≡ o in subst P e h

no_graph : (y : GraphValue) → ◌≡◌ {A = Option GraphValue} None (Some y) → ⊥
no_graph y e = cc

-- nothing stands where a walk that found a number has gone over, nor to its end where it found none
pub none_to : (t : Litmus) (W : GraphValue → Type 0) (v w : Walking) (n : ℕ) → v.space ≡ choices_of t → NoneBelow t W v.next → IsHit v w n → NoneBelow t W n
none_to t W v w n e f h = none_on t W v.next n f (λ m l k y at. absurd (no_graph y (sym (at_space t v.space m None e (h.none m l k)) ∙ at)))

pub none_at_all : (t : Litmus) (W : GraphValue → Type 0) (v w : Walking) → v.space ≡ choices_of t → NoneBelow t W v.next → IsMiss v w → NoneBelow t W v.to
none_at_all t W v w e f h = none_on t W v.next v.to f (λ m l k y at. absurd (no_graph y (sym (at_space t v.space m None e (h.none m l k)) ∙ at)))

-- the execution that was found
pub shown_at : (t : Litmus) (v w : Walking) (n : ℕ) → v.space ≡ choices_of t → IsHit v w n → At t n ≡ Some w.shown
shown_at t v w n e h = at_space t v.space n (Some w.shown) e h.at

-- it hasn't W
pub none_behind : (t : Litmus) (W : GraphValue → Type 0) (v w : Walking) (n : ℕ) → v.space ≡ choices_of t → NoneBelow t W v.next → IsHit v w n → ¬ W w.shown → NoneBelow t W w.next
none_behind t W v w n e f h not =
    let next : w.next ≡ n + 1 = h.step.next in
    none_on t W n w.next (none_to t W v w n e f h)
    (λ m l k y at. (let same : m ≡ n = omega (arith, l, k, next) in
    let A : ℕ → Type 0 = λ j. At t j ≡ Some y in
    let is : w.shown ≡ y = some_is w.shown y (sym (shown_at t v w n e h) ∙ subst A same at) in
    λ q. not (subst W (sym is) q)))

-- it is passed over with others that a model forbids
pub none_passed : (t : Litmus) (W : GraphValue → Type 0) (items : List Clause) (u v w : Walking) (n : ℕ) → u.space ≡ choices_of t → NoneBelow t W u.next → IsHit u v n → ArePassed items n v w → ((y : GraphValue) → W y → Allowed items y) → NoneBelow t W w.next
none_passed t W items u v w n e f h p allowed =
    none_on t W n w.next (none_to t W u v n e f h)
    (λ m l k y at q. p.none m l k y (let P : Choices → Type 0 = λ c. graph_at c m ≡ Some y in subst P (sym (h.step.space ∙ e)) at) (allowed y q))

-- an answer is one or the other
pub one_answer : ((condition : Condition) (listed xs ys : List Place) → AreObserved condition listed xs → AreObserved condition listed ys → xs ≡ ys) → (t : Litmus) (x : GraphValue) (a b : Bool) → IsAnswer t x a → IsAnswer t x b → a ≡ b
one_answer law t x a b p q =
    sym p.2 ∙ ap (λ places. has t places x) (law t.condition t.listed p.0 q.0 p.1 q.1) ∙ q.2

-- what is found
pub found_first : Numbering → (t : Litmus) (W : GraphValue → Type 0) (n : ℕ) (x : GraphValue) (o : Option GraphValue) → IsAdmitted t → n < test_size t → At t n ≡ Some x → W x → NoneBelow t W n → o ≡ At t n → IsFound t W o
found_first law t W n x o admitted below at w none is =
    let P : Option GraphValue → Type 0 = IsFound t W in
    let Q : Option GraphValue → Type 0 = λ p. IfSome p (IsExecution t) in
    subst P (sym (is ∙ at)) (record {
      execution = subst Q at ((law t (test_size t) admitted.size).only n below);
      has = w;
      number = n;
      below = below;
      at = at;
      first = none;
    })

pub found_none : Numbering → (t : Litmus) (W : GraphValue → Type 0) (n : ℕ) → IsAdmitted t → n ≡ test_size t → NoneBelow t W n → IsFound t W None
found_none law t W n admitted e none = λ x execution w.
    let r = (law t (test_size t) admitted.size).all x execution in
    none r.0 (let l : r.0 < test_size t = r.1 in omega (arith, l, e)) x r.2 w

-- where all count, a witness is an execution with the answer
pub found_any : (t : Litmus) (b : Bool) (o : Option GraphValue) → IsFound t (IsWitness t [] b) o → IsFound t (λ x. IsAnswer t x b) o
found_any t b None f = λ x e a. f x e (tt, a)
found_any t b (Some x) f = record { execution = f.execution; has = f.has.1; number = f.number; below = f.below; at = f.at; first = λ m l y at a. f.first m l y at (tt, a) }

pub is_passed : (b : Bool) (P Q : Type 0) → b ≡ true → MatchBool b P Q → P
is_passed true P Q e h = h
is_passed false P Q e h = absurd (false≢true e)

pub not_passed : (b : Bool) (P Q : Type 0) → b ≡ false → MatchBool b P Q → Q
not_passed false P Q e h = h
not_passed true P Q e h = absurd (false≢true (sym e))

pub if_ok : {X E : Type 0} (P Q : X → Type 0) (r : Result X E) → ((x : X) → P x → Q x) → IfOk r P → IfOk r Q
if_ok P Q (Ok x) f h = f x h
if_ok P Q (Err e) f h = tt

-- whether two tests differ
pub differ : (a b : Bool) → not (beq a b) ≡ true → a ≡ b → ⊥
differ true true e d = false≢true e
differ true false e d = false≢true (sym d)
differ false true e d = false≢true d
differ false false e d = false≢true e

pub agree : (a b : Bool) → not (beq a b) ≡ false → a ≡ b
agree true true e = refl
agree true false e = absurd (false≢true (sym e))
agree false true e = absurd (false≢true (sym e))
agree false false e = refl
