-- The writes to a location are listed, and each has its value.
use Rattle.std.proofs.Common.{◌≡◌, ℕ, zero, suc, ◌+◌, List, [], ◌∷◌, get_or, refl, sym, ◌∙◌, ap, subst, inl, inr, arith, true, false}
use Rattle.std.proofs.lemmas.Bool.{cases_Bool}
use Rattle.events.specs.declared.event.Event.{Event}
use Rattle.events.specs.declared.event.EventId.{EventId}
use Rattle.events.specs.declared.event.EventId.TheVariants.{Initial, Own}
use Rattle.events.specs.Executions.{ThreadRun, writes_to, empty_run}
use Rattle.listings.specs.Lists.{IsIn, NoRepeats, StandsAt}
use Rattle.listings.proofs.Listings.{in_append, in_left, in_right, once_append}
use Rattle.candidates.specs.Executions.{Writes, writes_from, writes_from_thread, later_writes}
use Rattle.candidates.specs.Candidates.{sources, write_value}
use Rattle.events.specs.Named.{no_event}

-- w is the event p + q of thread k, where the event e at place q of events writes to x.
abbrev pub WritesFrom : ℕ → ℕ → ℕ → List Event → EventId → Type 0
WritesFrom x k p events w = (q : ℕ) × (e : Event) × StandsAt events q e × (writes_to x e ≡ true) × (w ≡ Own k (p + q))

writes_head : (x k p : ℕ) (e : Event) (events : List Event) → writes_to x e ≡ true → writes_from x k p (e ∷ events) ≡ Own k p ∷ writes_from x k (suc p) events
writes_head x k p e events h = rw h refl

writes_skip : (x k p : ℕ) (e : Event) (events : List Event) → writes_to x e ≡ false → writes_from x k p (e ∷ events) ≡ writes_from x k (suc p) events
writes_skip x k p e events h = rw h refl

further : (x k p : ℕ) (e : Event) (events : List Event) (w : EventId) → WritesFrom x k (suc p) events w → WritesFrom x k p (e ∷ events) w
further x k p e events w f = (suc f.0, f.1, f.2, f.3, f.4 ∙ ap (λ n. Own k n) (let h : suc p + f.0 ≡ p + suc f.0 = omega arith in h))

in_writes : (x k p : ℕ) (events : List Event) (w : EventId) → IsIn w (writes_from x k p events) → WritesFrom x k p events w
in_writes x k p [] w h = absurd h
in_writes x k p (e ∷ events) w h =
    let P : List EventId → Type 0 = λ ws. IsIn w ws in
    elim (cases_Bool (writes_to x e)) [
      | inl t ↦ elim (subst P (writes_head x k p e events t) h) [
        | inl f ↦ (0, e, refl, t, f ∙ ap (λ n. Own k n) (let g : p ≡ p + 0 = omega arith in g))
        | inr m ↦ further x k p e events w (in_writes x k (suc p) events w m)
      ]
      | inr t ↦ further x k p e events w (in_writes x k (suc p) events w (subst P (writes_skip x k p e events t) h))
    ]

writes_in : (x k p : ℕ) (events : List Event) (q : ℕ) (f : Event) → StandsAt events q f → writes_to x f ≡ true → IsIn (Own k (p + q)) (writes_from x k p events)
writes_in x k p [] q f s u = absurd s
writes_in x k p (e ∷ events) zero f s u =
    let P : List EventId → Type 0 = λ ws. IsIn (Own k (p + 0)) ws in
    let t : writes_to x e ≡ true = ap (writes_to x) (sym s) ∙ u in
    subst P (sym (writes_head x k p e events t)) (inl (ap (λ n. Own k n) (let g : p + 0 ≡ p = omega arith in g)))
writes_in x k p (e ∷ events) (suc q) f s u =
    let Q : ℕ → Type 0 = λ n. IsIn (Own k n) (writes_from x k (suc p) events) in
    let m = subst Q (let g : suc p + q ≡ p + suc q = omega arith in g) (writes_in x k (suc p) events q f s u) in
    let P : List EventId → Type 0 = λ ws. IsIn (Own k (p + suc q)) ws in
    elim (cases_Bool (writes_to x e)) [
      | inl t ↦ subst P (sym (writes_head x k p e events t)) (inr m)
      | inr t ↦ subst P (sym (writes_skip x k p e events t)) m
    ]

thread_of : EventId → ℕ
thread_of (Initial x) = 0
thread_of (Own k p) = k

place_in : EventId → ℕ
place_in (Initial x) = 0
place_in (Own k p) = p

same_place : (k p l q : ℕ) → Own k p ≡ Own l q → p ≡ q
unfolding place_in
same_place k p l q e = ap place_in e

same_thread : (k p l q : ℕ) → Own k p ≡ Own l q → k ≡ l
unfolding thread_of
same_thread k p l q e = ap thread_of e

once_writes : (x k p : ℕ) (events : List Event) → NoRepeats (writes_from x k p events)
once_writes x k p [] = tt
once_writes x k p (e ∷ events) =
    let P : List EventId → Type 0 = NoRepeats in
    elim (cases_Bool (writes_to x e)) [
      | inl t ↦ subst P (sym (writes_head x k p e events t)) (
        λ h. (let f = in_writes x k (suc p) events (Own k p) h in
            let g : p ≡ suc p + f.0 = same_place k p k (suc p + f.0) f.4 in absurd (omega (arith, g))),
        once_writes x k (suc p) events,
      )
      | inr t ↦ subst P (sym (writes_skip x k p e events t)) (once_writes x k (suc p) events)
    ]

cong_own : (k l p q : ℕ) → k ≡ l → p ≡ q → Own k p ≡ Own l q
cong_own k l p q e f = cc

pub initial_own : (x k p : ℕ) → Initial x ≡ Own k p → ⊥
initial_own x k p e = cc

-- w is an event of thread k + j, where the run at place j of runs writes to x.
abbrev pub FromThreads : ℕ → ℕ → List ThreadRun → EventId → Type 0
FromThreads x k runs w = (j : ℕ) × (q : ℕ) × (run : ThreadRun) × (e : Event) × StandsAt runs j run × StandsAt run.events q e × (writes_to x e ≡ true) × (w ≡ Own (k + j) q)

in_threads : (x k : ℕ) (runs : List ThreadRun) (w : EventId) → IsIn w (writes_from_thread x k runs) → FromThreads x k runs w
in_threads x k [] w h = absurd h
in_threads x k (run ∷ runs) w h = elim (in_append (writes_from x k 0 run.events) (writes_from_thread x (suc k) runs) w h) [
  | inl a ↦ (let f = in_writes x k 0 run.events w a in (
    0,
    0 + f.0,
    run,
    f.1,
    refl,
    (let P : ℕ → Type 0 = λ n. StandsAt run.events n f.1 in subst P (let g : f.0 ≡ 0 + f.0 = omega arith in g) f.2),
    f.3,
    f.4 ∙ ap (λ n. Own n (0 + f.0)) (let g : k ≡ k + 0 = omega arith in g),
  ))
  | inr b ↦ (let f = in_threads x (suc k) runs w b in
      (suc f.0, f.1, f.2, f.3, f.4, f.5, f.6, f.7 ∙ ap (λ n. Own n f.1) (let g : suc k + f.0 ≡ k + suc f.0 = omega arith in g)))
]

threads_in : (x k : ℕ) (runs : List ThreadRun) (j q : ℕ) (run : ThreadRun) (e : Event) → StandsAt runs j run → StandsAt run.events q e → writes_to x e ≡ true → IsIn (Own (k + j) q) (writes_from_thread x k runs)
threads_in x k [] j q run e s at u = absurd s
threads_in x k (first ∷ runs) zero q run e s at u =
    let E : ThreadRun → Type 0 = λ r. StandsAt r.events q e in
    let P : EventId → Type 0 = λ w. IsIn w (writes_from_thread x k (first ∷ runs)) in
    let f : Own k (0 + q) ≡ Own (k + 0) q = cong_own k (k + 0) (0 + q) q (omega arith) (omega arith) in
    subst P f (in_left (writes_from x k 0 first.events) (writes_from_thread x (suc k) runs) (Own k (0 + q)) (writes_in x k 0 first.events q e (subst E s at) u))
threads_in x k (first ∷ runs) (suc j) q run e s at u =
    let P : EventId → Type 0 = λ w. IsIn w (writes_from_thread x k (first ∷ runs)) in
    let f : Own (suc k + j) q ≡ Own (k + suc j) q = cong_own (suc k + j) (k + suc j) q q (omega arith) refl in
    subst P f (in_right (writes_from x k 0 first.events) (writes_from_thread x (suc k) runs) (Own (suc k + j) q) (threads_in x (suc k) runs j q run e s at u))

once_threads : (x k : ℕ) (runs : List ThreadRun) → NoRepeats (writes_from_thread x k runs)
once_threads x k [] = tt
once_threads x k (run ∷ runs) =
    once_append (writes_from x k 0 run.events) (writes_from_thread x (suc k) runs) (once_writes x k 0 run.events) (once_threads x (suc k) runs)
    (λ w a b.
    let f = in_writes x k 0 run.events w a in
    let g = in_threads x (suc k) runs w b in
    let e : k ≡ suc k + g.0 = same_thread k (0 + f.0) (suc k + g.0) g.1 (sym f.4 ∙ g.7) in
    absurd (omega (arith, e)))

pub stands_get : {X : Type 0} (xs : List X) (i : ℕ) (d x : X) → StandsAt xs i x → get_or xs i d ≡ x
stands_get [] i d x s = absurd s
stands_get (y ∷ xs) zero d x s = sym s
stands_get (y ∷ xs) (suc i) d x s = stands_get xs i d x s

-- The value of a write is the one that it writes.
pub value_is : (init : List ℕ) (runs : List ThreadRun) (w : EventId) (x v : ℕ) → Writes init runs w x v → write_value init runs w ≡ v
value_is init runs (Initial y) x v h = ap (λ n. get_or init n 0) h.0 ∙ sym h.1
value_is init runs (Own k p) x v h =
    ap (λ (r : ThreadRun). (get_or r.events p no_event).value) (stands_get runs k empty_run h.0 h.2)
    ∙ ap (λ (e : Event). e.value) (stands_get h.0.events p no_event h.1 h.3) ∙ sym h.5

pub sources_in : (init : List ℕ) (runs : List ThreadRun) (w : EventId) (x v : ℕ) → Writes init runs w x v → IsIn w (sources runs x)
sources_in init runs (Initial y) x v h = inl (ap (λ n. Initial n) h.0)
sources_in init runs (Own k p) x v h =
    inr (let P : ℕ → Type 0 = λ n. IsIn (Own n p) (later_writes runs x) in
    subst P (let g : 0 + k ≡ k = omega arith in g) (threads_in x 0 runs k p h.0 h.1 h.2 h.3 h.4))

pub in_sources : (init : List ℕ) (runs : List ThreadRun) (w : EventId) (x : ℕ) → IsIn w (sources runs x) → Writes init runs w x (write_value init runs w)
in_sources init runs w x h =
    let P : EventId → Type 0 = λ u. Writes init runs u x (write_value init runs u) in
    elim h [
      | inl e ↦ subst P (sym e) (refl, refl)
      | inr m ↦ (let f = in_threads x 0 runs w m in
          let own : EventId = Own (0 + f.0) f.1 in
          let S : ℕ → Type 0 = λ n. StandsAt runs n f.2 in
          let at : Writes init runs own x f.3.value = (f.2, f.3, subst S (let g : f.0 ≡ 0 + f.0 = omega arith in g) f.4, f.5, f.6, refl) in
          let V : ℕ → Type 0 = λ v. Writes init runs own x v in
          subst P (sym f.7) (subst V (sym (value_is init runs own x f.3.value at)) at))
    ]

pub once_later : (runs : List ThreadRun) (x : ℕ) → NoRepeats (later_writes runs x)
once_later runs x = once_threads x 0 runs

pub once_sources : (runs : List ThreadRun) (x : ℕ) → NoRepeats (sources runs x)
once_sources runs x =
    (λ h. let f = in_threads x 0 runs (Initial x) h in initial_own x (0 + f.0) f.1 f.7, once_later runs x)
