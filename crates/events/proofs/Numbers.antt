-- The events of an execution are listed, each once.
use Rattle.std.proofs.Common.{◌≡◌, ℕ, zero, suc, ◌+◌, ◌<◌, ◌⊎◌, List, [], ◌∷◌, ◌++◌, length, get_or, drop, drop-cons, add-one, refl, sym, ◌∙◌, ap, subst, inl, inr, arith}
use Rattle.std.specs.Prelude.{sum_by}
use Rattle.std.proofs.lemmas.List.{length-append}
use Rattle.std.proofs.lemmas.List.Sums.{sum_by-cons}
use Rattle.events.specs.declared.event.Event.{Event}
use Rattle.events.specs.declared.event.EventId.{EventId}
use Rattle.events.specs.declared.event.EventId.TheVariants.{Initial, Own}
use Rattle.events.specs.Executions.{GraphValue, ThreadRun, IsNamed, empty_run}
use Rattle.listings.specs.Lists.{IsIn, NoRepeats, Lists, tabulate}
use Rattle.listings.proofs.Listings.{listed, in_append, in_left, in_right, once_append}
use Rattle.events.specs.Named.{names_from, thread_names, event_names, event_count, no_event}

-- HOW MANY

pub count_names : (k p : ℕ) (es : List Event) → length (names_from k p es) ≡ length es
count_names k p [] = refl
count_names k p (e ∷ es) = ap suc (count_names k (suc p) es)

pub count_initial : {X : Type 0} (n : ℕ) (f : ℕ → X) → length (tabulate n f) ≡ n
count_initial zero f = refl
count_initial (suc n) f = ap suc (count_initial n (λ i. f (suc i)))

count_threads : (k : ℕ) (runs : List ThreadRun) → length (thread_names k runs) ≡ sum_by (λ run. length run.events) runs
count_threads k [] = refl
count_threads k (run ∷ runs) =
    length-append (names_from k 0 run.events) (thread_names (suc k) runs)
    ∙ ap (λ n. n + length (thread_names (suc k) runs)) (count_names k 0 run.events)
    ∙ ap (λ n. length run.events + n) (count_threads (suc k) runs)
    ∙ sym (sum_by-cons (λ (r : ThreadRun). length r.events) run runs)

pub counted : (g : GraphValue) → length (event_names g) ≡ event_count g
unfolding event_names
counted g =
    length-append (tabulate (length g.init) Initial) (thread_names 0 g.runs)
    ∙ ap (λ n. n + length (thread_names 0 g.runs)) (count_initial (length g.init) Initial)
    ∙ ap (λ n. length g.init + n) (count_threads 0 g.runs)

-- ONE MORE

tabulate_next : {X : Type 0} (n : ℕ) (f : ℕ → X) → tabulate (suc n) f ≡ tabulate n f ++ f n ∷ []
tabulate_next zero f = refl
tabulate_next (suc n) f = ap (λ xs. f 0 ∷ xs) (tabulate_next n (λ i. f (suc i)))

pub tabulate_more : {X : Type 0} (n : ℕ) (f : ℕ → X) → tabulate (n + 1) f ≡ tabulate n f ++ f n ∷ []
tabulate_more n f = ap (λ m. tabulate m f) (let e : n + 1 ≡ suc n = omega arith in e) ∙ tabulate_next n f

pub names_next : (k p : ℕ) (es : List Event) → p < length es → names_from k p (drop p es) ≡ Own k p ∷ names_from k (p + 1) (drop (p + 1) es)
names_next k p es l =
    let e : drop p es ≡ get_or es p no_event ∷ drop (p + 1) es = rw (add-one, drop-cons es p no_event) refl in
    ap (names_from k p) e ∙ ap (λ n. Own k p ∷ names_from k n (drop (p + 1) es)) (let g : suc p ≡ p + 1 = omega arith in g)

-- WHICH

pub own : (k l p q : ℕ) → k ≡ l → p ≡ q → Own k p ≡ Own l q
own k l p q e f = cc

initial_own : (x k p : ℕ) → Initial x ≡ Own k p → ⊥
initial_own x k p e = cc

same_thread : (k p l q : ℕ) → Own k p ≡ Own l q → k ≡ l
same_thread k p l q e = cc

same_place : (k p l q : ℕ) → Own k p ≡ Own l q → p ≡ q
same_place k p l q e = cc

same_location : (x y : ℕ) → Initial x ≡ Initial y → x ≡ y
same_location x y e = cc

-- an initial write of one of n locations
abbrev OfLocation : ℕ → EventId → Type 0
OfLocation n w = (x : ℕ) × (x < n) × (w ≡ Initial x)

initial_listed : (n : ℕ) → Lists (OfLocation n) (tabulate n Initial)
initial_listed n = listed {X = EventId} {P = OfLocation n} {n = n} {f = Initial} (record {
  only = λ i l. (i, l, refl);
  all = λ w h. (h.0, h.1, sym h.2);
  once = λ i j li lj e. same_location i j e;
})

-- w is the event p + q of thread k, where q is a place of these events
abbrev OfThread : ℕ → ℕ → List Event → EventId → Type 0
OfThread k p es w = (q : ℕ) × (q < length es) × (w ≡ Own k (p + q))

in_names : (k p : ℕ) (es : List Event) (w : EventId) → IsIn w (names_from k p es) → OfThread k p es w
in_names k p [] w h = absurd h
in_names k p (e ∷ es) w h = elim h [
  | inl f ↦ (0, omega arith, f ∙ ap (λ n. Own k n) (let g : p ≡ p + 0 = omega arith in g))
  | inr m ↦ (let f = in_names k (suc p) es w m in
      (suc f.0, omega (arith, f.1), f.2 ∙ ap (λ n. Own k n) (let g : suc p + f.0 ≡ p + suc f.0 = omega arith in g)))
]

names_in : (k p : ℕ) (es : List Event) (q : ℕ) → q < length es → IsIn (Own k (p + q)) (names_from k p es)
names_in k p [] q l = absurd (omega (arith, l))
names_in k p (e ∷ es) zero l = inl (ap (λ n. Own k n) (let g : p + 0 ≡ p = omega arith in g))
names_in k p (e ∷ es) (suc q) l =
    let Q : ℕ → Type 0 = λ n. IsIn (Own k n) (names_from k (suc p) es) in
    inr (subst Q (let g : suc p + q ≡ p + suc q = omega arith in g) (names_in k (suc p) es q (omega (arith, l))))

once_names : (k p : ℕ) (es : List Event) → NoRepeats (names_from k p es)
once_names k p [] = tt
once_names k p (e ∷ es) = (
  λ h. (let f = in_names k (suc p) es (Own k p) h in
      let g : p ≡ suc p + f.0 = same_place k p k (suc p + f.0) f.2 in
      absurd (omega (arith, g))),
  once_names k (suc p) es,
)

-- w is the event q of thread k + j, where the run at place j of runs has an event at place q
abbrev OfThreads : ℕ → List ThreadRun → EventId → Type 0
OfThreads k runs w = (j : ℕ) × (q : ℕ) × (j < length runs) × (q < length (get_or runs j empty_run).events) × (w ≡ Own (k + j) q)

in_threads : (k : ℕ) (runs : List ThreadRun) (w : EventId) → IsIn w (thread_names k runs) → OfThreads k runs w
in_threads k [] w h = absurd h
in_threads k (run ∷ runs) w h = elim (in_append (names_from k 0 run.events) (thread_names (suc k) runs) w h) [
  | inl a ↦ (let f = in_names k 0 run.events w a in
      (0, f.0, omega arith, f.1, f.2 ∙ own k (k + 0) (0 + f.0) f.0 (omega arith) (omega arith)))
  | inr b ↦ (let f = in_threads (suc k) runs w b in
      (suc f.0, f.1, omega (arith, f.2), f.3, f.4 ∙ ap (λ n. Own n f.1) (let g : suc k + f.0 ≡ k + suc f.0 = omega arith in g)))
]

threads_in : (k : ℕ) (runs : List ThreadRun) (j q : ℕ) → j < length runs → q < length (get_or runs j empty_run).events → IsIn (Own (k + j) q) (thread_names k runs)
threads_in k [] j q l m = absurd (omega (arith, l))
threads_in k (run ∷ runs) zero q l m =
    let P : EventId → Type 0 = λ w. IsIn w (thread_names k (run ∷ runs)) in
    subst P (own k (k + 0) (0 + q) q (omega arith) (omega arith))
    (in_left (names_from k 0 run.events) (thread_names (suc k) runs) (Own k (0 + q)) (names_in k 0 run.events q m))
threads_in k (run ∷ runs) (suc j) q l m =
    let P : EventId → Type 0 = λ w. IsIn w (thread_names k (run ∷ runs)) in
    subst P (own (suc k + j) (k + suc j) q q (omega arith) refl)
    (in_right (names_from k 0 run.events) (thread_names (suc k) runs) (Own (suc k + j) q) (threads_in (suc k) runs j q (omega (arith, l)) m))

once_threads : (k : ℕ) (runs : List ThreadRun) → NoRepeats (thread_names k runs)
once_threads k [] = tt
once_threads k (run ∷ runs) =
    once_append (names_from k 0 run.events) (thread_names (suc k) runs) (once_names k 0 run.events) (once_threads (suc k) runs)
    (λ w a b.
    let f = in_names k 0 run.events w a in
    let g = in_threads (suc k) runs w b in
    let e : k ≡ suc k + g.0 = same_thread k (0 + f.0) (suc k + g.0) g.1 (sym f.2 ∙ g.4) in
    absurd (omega (arith, e)))

only_named : (g : GraphValue) (w : EventId) → IsIn w (tabulate (length g.init) Initial) ⊎ IsIn w (thread_names 0 g.runs) → IsNamed g.init g.runs w
only_named g w (inl a) =
    let f = (initial_listed (length g.init)).only w a in
    let P : EventId → Type 0 = IsNamed g.init g.runs in
    subst P (sym f.2) f.1
only_named g w (inr b) =
    let f = in_threads 0 g.runs w b in
    let P : EventId → Type 0 = IsNamed g.init g.runs in
    subst P (sym (f.4 ∙ own (0 + f.0) f.0 f.1 f.1 (omega arith) refl)) (f.2, f.3)

all_named : (g : GraphValue) (w : EventId) → IsNamed g.init g.runs w → IsIn w (tabulate (length g.init) Initial) ⊎ IsIn w (thread_names 0 g.runs)
all_named g (Initial x) h = inl ((initial_listed (length g.init)).all (Initial x) (x, h, refl))
all_named g (Own k p) h =
    let P : EventId → Type 0 = λ w. IsIn w (thread_names 0 g.runs) in
    inr (subst P (own (0 + k) k p p (omega arith) refl) (threads_in 0 g.runs k p h.0 h.1))

pub names_listed : (g : GraphValue) → Lists (IsNamed g.init g.runs) (event_names g)
unfolding event_names
names_listed g =
    let initial = tabulate (length g.init) Initial in
    let own_events = thread_names 0 g.runs in
    record {
      once = once_append initial own_events (initial_listed (length g.init)).once (once_threads 0 g.runs)
          (λ w a b. (let f = (initial_listed (length g.init)).only w a in
          let h = in_threads 0 g.runs w b in
          initial_own f.0 (0 + h.0) h.1 (sym f.2 ∙ h.4)));
      only = λ w h. only_named g w (in_append initial own_events w h);
      all = λ w h. elim (all_named g w h) [ inl a ↦ in_left initial own_events w a | inr b ↦ in_right initial own_events w b ];
    }
