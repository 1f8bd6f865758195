-- The events of a run are few, and at locations of the test.
use Rattle.std.proofs.Common.{◌≡◌, ℕ, zero, suc, ◌+◌, ◌<◌, ◌≤◌, List, [], ◌∷◌, ◌++◌, length, get_or, refl, sym, ◌∙◌, ap, subst, inl, inr, arith, append_assoc, append-nil, Bool, true, false, Option, None, Some, length-append}
use Rattle.std.specs.Prelude.{max}
use Rattle.std.proofs.lemmas.List.Elements.{All-nil, All-cons, All-head, All-tail, All-append}
use Rattle.std.proofs.lemmas.List.Sums.{sum_by-cons}
use Rattle.std.proofs.lemmas.Slice.Eq.{bytes_eq-Decides}
use Rattle.std.specs.List.{sum_by, All, Contains}
use Rattle.std.specs.Str.{bytes_eq}
use Rattle.std.proofs.lemmas.Bool.{cases_Bool}
use Rattle.events.specs.declared.event.Access.TheVariants.{Read, Write, ExRead, ExWrite}
use Rattle.events.specs.declared.event.Event.{Event}
use Rattle.events.specs.declared.event.Order.TheVariants.{Na}
use Rattle.events.specs.Executions.{ThreadRun}
use Rattle.litmus_tree.specs.Tree.{Word, Action, load, store, exchange, modify, fence, Right, computed, plain_read, value_of, Declared, Step, empty, block, declare, assign, plain_write, perform, if_only, if_else, Steps, no_steps, in_turn}
use Rattle.litmus_value.specs.Limits.{action_events, right_events, optional_events, step_events, steps_events, program_events, ActionNames, RightNames, OptionalNames, StepNames, StepsNames}
use Rattle.c11_threads.specs.declared.content.Content.{Content}
use Rattle.c11_threads.specs.Contents.{place_of, is_true, modified}
use Rattle.c11_threads.specs.Runs.{Progress, after, next_read, Site, thread_of, names, given_by, inside, reads_from, writes_into, fences, Calls, Gives, Assigns, Declares, DeclaresAll, Branches, Performs, PerformsAll, body, start}
use Rattle.c11_threads.specs.Bounds.{IsPlaced, AreFew, Bounding}

place_yes : (w name : Word) (names : List Word) → bytes_eq name w ≡ true → place_of w (name ∷ names) ≡ 0
place_yes w name names h = rw h refl

place_no : (w name : Word) (names : List Word) → bytes_eq name w ≡ false → place_of w (name ∷ names) ≡ suc (place_of w names)
place_no w name names h = rw h refl

place_below : (w : Word) (names : List Word) (k : ℕ) → k < length names → get_or names k w ≡ w → place_of w names < length names
place_below w [] k l e = absurd (omega (arith, l))
place_below w (name ∷ names) zero l e =
    let t : bytes_eq name w ≡ true = (bytes_eq-Decides name w).1 e in
    omega (arith, place_yes w name names t)
place_below w (name ∷ names) (suc k) l e = elim (cases_Bool (bytes_eq name w)) [
  | inl t ↦ omega (arith, place_yes w name names t)
  | inr f ↦ omega (arith, place_no w name names f, place_below w names k (omega (arith, l)) e)
]

-- q comes after p by events such as AreFew says.
pub record Adds (n m : ℕ) (p q : Progress) : Type 0 where
  pub more : List Event
  pub is : q.events ≡ p.events ++ more
  pub few : AreFew n m more

no_more : (n m : ℕ) (p q : Progress) → q.events ≡ p.events → Adds n m p q
no_more n m p q e = record { more = []; is = e ∙ sym (append-nil p.events); few = record { count = omega arith; places = All-nil (IsPlaced m) } }

one_more : (m : ℕ) (p q : Progress) (e : Event) → IsPlaced m e → q ≡ after p (e ∷ []) → Adds 1 m p q
one_more m p q e l h = record {
  more = e ∷ [];
  is = ap (λ (r : Progress). r.events) h;
  few = record { count = omega arith; places = All-cons (IsPlaced m) e [] l (All-nil (IsPlaced m)) };
}

two_more : (m : ℕ) (p q : Progress) (e f : Event) → IsPlaced m e → IsPlaced m f → q ≡ after p (e ∷ f ∷ []) → Adds 2 m p q
two_more m p q e f l k h = record {
  more = e ∷ f ∷ [];
  is = ap (λ (r : Progress). r.events) h;
  few = record { count = omega arith; places = All-cons (IsPlaced m) e (f ∷ []) l (All-cons (IsPlaced m) f [] k (All-nil (IsPlaced m))) };
}

then_more : (n k m : ℕ) (p r q : Progress) → Adds n m p r → Adds k m r q → Adds (n + k) m p q
then_more n k m p r q a b = record {
  more = a.more ++ b.more;
  is = b.is ∙ ap (λ (es : List Event). es ++ b.more) a.is ∙ append_assoc p.events a.more b.more;
  few = record { count = omega (arith, length-append a.more b.more, a.few.count, b.few.count); places = All-append (IsPlaced m) a.more b.more a.few.places b.few.places };
}

fewer : (n k m : ℕ) (p q : Progress) → n ≤ k → Adds n m p q → Adds k m p q
fewer n k m p q l a = record { more = a.more; is = a.is; few = record { count = omega (arith, a.few.count, l); places = a.few.places } }

same_events : (n m : ℕ) (p r q : Progress) → q.events ≡ r.events → Adds n m p r → Adds n m p q
same_events n m p r q e a = record { more = a.more; is = e ∙ a.is; few = a.few }

abbrev pub count : Site → ℕ
count s = length s.test.locations

below : (s : Site) (x : Word) → Contains s.test.locations x → place_of x s.test.locations < count s
below s x c = place_below x s.test.locations c.0 c.1 c.2

few_calls : (s : Site) (a : Action) (p : Progress) (w : Content) (q : Progress) → ActionNames s.test.locations (names s) a → Calls s a p w q → Adds (action_events a) (count s) p q
few_calls s (load x o) p w q c h = one_more (count s) p q (reads_from s Read x o h.0) (inr (below s x c)) h.3
few_calls s (store x e o) p w q c h = one_more (count s) p q (writes_into s Write x o (given_by s p e)) (inr (below s x c.0)) h.1
few_calls s (exchange x e o) p w q c h =
    two_more (count s) p q (reads_from s ExRead x o h.0) (writes_into s ExWrite x o (given_by s p e)) (inr (below s x c.0)) (inr (below s x c.0)) h.3
few_calls s (modify x f k o) p w q c h =
    two_more (count s) p q (reads_from s ExRead x o h.0) (writes_into s ExWrite x o (modified f k (next_read p h.0))) (inr (below s x c)) (inr (below s x c)) h.3
few_calls s (fence o) p w q c h = one_more (count s) p q (fences s o) (inl refl) h.1

few_gives : (s : Site) (r : Right) (p : Progress) (w : Content) (q : Progress) → RightNames s.test.locations (names s) r → Gives s r p w q → Adds (right_events r) (count s) p q
few_gives s (computed e) p w q c h = no_more 0 (count s) p q (ap (λ (u : Progress). u.events) h.1)
few_gives s (plain_read x) p w q c h = one_more (count s) p q (reads_from s Read x Na h.0) (inr (below s x c)) h.3
few_gives s (value_of a) p w q c h = few_calls s a p w q c h

few_assigns : (s : Site) (r : Word) (right : Right) (p q : Progress) → RightNames s.test.locations (names s) right → Assigns s r right p q → Adds (right_events right) (count s) p q
few_assigns s r right p q c h = same_events (right_events right) (count s) p h.1 q (ap (λ (u : Progress). u.events) h.3) (few_gives s right p h.0 h.1 c h.2)

few_declares : (s : Site) (r : Word) (right : Option Right) (p q : Progress) → OptionalNames s.test.locations (names s) right → Declares s r right p q → Adds (optional_events right) (count s) p q
few_declares s r None p q c h = no_more 0 (count s) p q (ap (λ (u : Progress). u.events) h)
few_declares s r (Some right) p q c h = few_assigns s r right p q c h

abbrev pub DeclaredNames : Site → Declared → Type 0
DeclaredNames s d = Contains (names s) d.register × OptionalNames s.test.locations (names s) d.value

few_declares_all : (s : Site) (ds : List Declared) (p q : Progress) → All (DeclaredNames s) ds → DeclaresAll s ds p q → Adds (sum_by (λ (d : Declared). optional_events d.value) ds) (count s) p q
few_declares_all s [] p q c h = no_more (sum_by (λ (d : Declared). optional_events d.value) []) (count s) p q (ap (λ (u : Progress). u.events) h)
few_declares_all s (d ∷ ds) p q c h =
    let a = few_declares s d.register d.value p h.0 (All-head (DeclaredNames s) d ds c).1 h.1 in
    let b = few_declares_all s ds h.0 q (All-tail (DeclaredNames s) d ds c) h.2 in
    fewer (optional_events d.value + sum_by (λ (d : Declared). optional_events d.value) ds) (sum_by (λ (d : Declared). optional_events d.value) (d ∷ ds)) (count s) p q
    (omega (arith, sum_by-cons (λ (d : Declared). optional_events d.value) d ds)) (then_more (optional_events d.value) (sum_by (λ (d : Declared). optional_events d.value) ds) (count s) p h.0 q a b)

either_way : (b : Bool) (P Q R : Type 0) → (P → R) → (Q → R) → Branches b P Q → R
either_way true P Q R f g h = f h
either_way false P Q R f g h = g h

mutual
  few_step : (a : Step) (s : Site) (p q : Progress) → StepNames s.test.locations (names s) a → Performs a s p q → Adds (step_events a) (count s) p q
  few_step empty s p q c h = no_more 0 (count s) p q (ap (λ (u : Progress). u.events) h)
  few_step (block steps) s p q c h = few_steps steps s p q c h
  few_step (declare ds) s p q c h = few_declares_all s ds p q c h
  few_step (assign r right) s p q c h = few_assigns s r right p q c.1 h
  few_step (plain_write x e) s p q c h = one_more (count s) p q (writes_into s Write x Na (given_by s p e)) (inr (below s x c.0)) h
  few_step (perform a) s p q c h = few_calls s a p h.0 q c h.1
  few_step (if_only e a) s p q c h =
      either_way (is_true (given_by s p e).value) (Performs a (inside s p e) p q) (q ≡ p) (Adds (step_events a) (count s) p q)
      (λ g. few_step a (inside s p e) p q c.1 g) (λ g. no_more (step_events a) (count s) p q (ap (λ (u : Progress). u.events) g)) h
  few_step (if_else e a b) s p q c h =
      let n = max (step_events a) (step_events b) in
      either_way (is_true (given_by s p e).value) (Performs a (inside s p e) p q) (Performs b (inside s p e) p q) (Adds n (count s) p q)
      (λ g. fewer (step_events a) n (count s) p q (omega arith) (few_step a (inside s p e) p q c.1 g))
      (λ g. fewer (step_events b) n (count s) p q (omega arith) (few_step b (inside s p e) p q c.2 g)) h

  few_steps : (steps : Steps) (s : Site) (p q : Progress) → StepsNames s.test.locations (names s) steps → PerformsAll steps s p q → Adds (steps_events steps) (count s) p q
  few_steps no_steps s p q c h = no_more 0 (count s) p q (ap (λ (u : Progress). u.events) h)
  few_steps (in_turn a rest) s p q c h =
      then_more (step_events a) (steps_events rest) (count s) p h.0 q (few_step a s p h.0 c.0 h.1) (few_steps rest s h.0 q c.1 h.2)

pub bounding : Bounding
bounding t k run c h =
    let a = few_steps (thread_of t k).steps (body t k) (start t k) h.0 c h.1 in
    let P : List Event → Type 0 = AreFew (program_events (thread_of t k)) (length t.locations) in
    subst P (sym (ap (λ (r : ThreadRun). r.events) h.2 ∙ a.is)) a.few
