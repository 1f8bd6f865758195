-- At which number an event stands.
use Rattle.std.proofs.Common.{◌≡◌, ℕ, zero, suc, ◌+◌, ◌<◌, List, [], ◌∷◌, ◌++◌, length, get_or, drop, refl, sym, ◌∙◌, ap, subst, arith}
use Rattle.std.specs.Prelude.{sum_by}
use Rattle.std.proofs.lemmas.List.Sums.{sum_by-cons}
use Rattle.listings.specs.Lists.{IsIn, StandsAt, tabulate}
use Rattle.listings.proofs.Listings.{in_get_or}
use Rattle.events.specs.declared.event.Event.{Event}
use Rattle.events.specs.declared.event.EventId.{EventId}
use Rattle.events.specs.declared.event.EventId.TheVariants.{Initial, Own}
use Rattle.events.specs.Executions.{GraphValue, ThreadRun, IsNamed, empty_run}
use Rattle.events.specs.Named.{names_from, thread_names, event_names}
use Rattle.events.proofs.Adding.{has_number, one_number}
use Rattle.events.proofs.Numbers.{count_names, count_initial, own, names_listed}
use Rattle.events.proofs.Standing.{stands_below, stands_get, stands_read}

in_front : {X : Type 0} (xs ys : List X) (i : ℕ) (x : X) → StandsAt xs i x → StandsAt (xs ++ ys) i x
in_front [] ys i x s = absurd s
in_front (y ∷ xs) ys zero x s = s
in_front (y ∷ xs) ys (suc i) x s = in_front xs ys i x s

behind : {X : Type 0} (xs ys : List X) (i : ℕ) (x : X) → StandsAt ys i x → StandsAt (xs ++ ys) (length xs + i) x
behind [] ys i x s = (let e : i ≡ 0 + i = omega arith in let P : ℕ → Type 0 = λ n. StandsAt ys n x in subst P e s)
behind (y ∷ xs) ys i x s =
    let P : ℕ → Type 0 = λ n. StandsAt (y ∷ xs ++ ys) n x in
    subst P (let e : suc (length xs + i) ≡ suc (length xs) + i = omega arith in e) (behind xs ys i x s)

initial_at : {X : Type 0} (n : ℕ) (f : ℕ → X) (i : ℕ) → i < n → StandsAt (tabulate n f) i (f i)
initial_at zero f i l = absurd (omega (arith, l))
initial_at (suc n) f zero l = refl
initial_at (suc n) f (suc i) l = initial_at n (λ i. f (suc i)) i (omega (arith, l))

names_at : (k p : ℕ) (es : List Event) (q : ℕ) → q < length es → StandsAt (names_from k p es) q (Own k (p + q))
names_at k p [] q l = absurd (omega (arith, l))
names_at k p (e ∷ es) zero l = ap (λ n. Own k n) (let g : p + 0 ≡ p = omega arith in g)
names_at k p (e ∷ es) (suc q) l =
    let P : ℕ → Type 0 = λ n. StandsAt (names_from k (suc p) es) q (Own k n) in
    subst P (let g : suc p + q ≡ p + suc q = omega arith in g) (names_at k (suc p) es q (omega (arith, l)))

abbrev pub events_in : List ThreadRun → ℕ
events_in runs = sum_by (λ run. length run.events) runs

-- event q of thread k + j stands behind the events of the threads before
threads_at : (k : ℕ) (runs : List ThreadRun) (j q : ℕ) → j < length runs → q < length (get_or runs j empty_run).events →
    (i : ℕ) × StandsAt (thread_names k runs) i (Own (k + j) q) × (i + events_in (drop j runs) ≡ q + events_in runs)
threads_at k [] j q l m = absurd (omega (arith, l))
threads_at k (run ∷ runs) zero q l m =
    let P : EventId → Type 0 = λ w. StandsAt (thread_names k (run ∷ runs)) q w in (
      q,
      subst P (own k (k + 0) (0 + q) q (omega arith) (omega arith))
          (in_front (names_from k 0 run.events) (thread_names (suc k) runs) q (Own k (0 + q)) (names_at k 0 run.events q m)),
      refl,
    )
threads_at k (run ∷ runs) (suc j) q l m =
    let P : EventId → Type 0 = λ w. StandsAt (thread_names k (run ∷ runs)) (length (names_from k 0 run.events) + (threads_at (suc k) runs j q (omega (arith, l)) m).0) w in
    let f = threads_at (suc k) runs j q (omega (arith, l)) m in
    let n : length (names_from k 0 run.events) ≡ length run.events = count_names k 0 run.events in
    let s : events_in (run ∷ runs) ≡ length run.events + events_in runs = sum_by-cons (λ (r : ThreadRun). length r.events) run runs in (
      length (names_from k 0 run.events) + f.0,
      subst P (own (suc k + j) (k + suc j) q q (omega arith) refl)
          (behind (names_from k 0 run.events) (thread_names (suc k) runs) f.0 (Own (suc k + j) q) f.1),
      omega (arith, f.2, n, s),
    )

pub named_at : (g : GraphValue) (e : EventId) (i : ℕ) → StandsAt (event_names g) i e → IsNamed g.init g.runs e
named_at g e i s =
    let names = event_names g in
    let P : EventId → Type 0 = λ w. IsIn w names in
    (names_listed g).only e (subst P (stands_get names i e e s) (in_get_or names i e (stands_below names i e s)))

-- an initial write has the number of its location
pub number_of_initial : (g : GraphValue) (x i : ℕ) → StandsAt (event_names g) i (Initial x) → x ≡ i
unfolding event_names
number_of_initial g x i s =
    let l : x < length g.init = named_at g (Initial x) i s in
    one_number g (Initial x) x i (in_front (tabulate (length g.init) Initial) (thread_names 0 g.runs) x (Initial x) (initial_at (length g.init) Initial x l)) s

-- an event of a thread has the number of the thread's first, and its place behind it
pub number_of_own : (g : GraphValue) (k p first i : ℕ) → (k < length g.runs → first + events_in (drop k g.runs) ≡ length g.init + events_in g.runs) → StandsAt (event_names g) i (Own k p) → first + p ≡ i
unfolding event_names
number_of_own g k p first i h s =
    let named : (k < length g.runs) × (p < length (get_or g.runs k empty_run).events) = named_at g (Own k p) i s in
    let f = threads_at 0 g.runs k p named.0 named.1 in
    let initial = tabulate (length g.init) Initial in
    let P : EventId → Type 0 = λ w. StandsAt (event_names g) (length initial + f.0) w in
    let at : StandsAt (event_names g) (length initial + f.0) (Own k p) =
    subst P (own (0 + k) k p p (omega arith) refl) (behind initial (thread_names 0 g.runs) f.0 (Own (0 + k) p) f.1) in
    omega (arith, one_number g (Own k p) (length initial + f.0) i at s, count_initial (length g.init) Initial, f.2, h named.0)

-- an initial write has a number
pub initial_number : (g : GraphValue) (x : ℕ) → x < length g.init → StandsAt (event_names g) x (Initial x)
initial_number g x l =
    let f = has_number g (Initial x) l in
    let P : ℕ → Type 0 = λ i. StandsAt (event_names g) i (Initial x) in
    subst P (sym (number_of_initial g x f.0 f.1)) f.1

-- so has an event of a thread
pub own_number : (g : GraphValue) (k p first : ℕ) → first + events_in (drop k g.runs) ≡ length g.init + events_in g.runs → k < length g.runs → p < length (get_or g.runs k empty_run).events →
    StandsAt (event_names g) (first + p) (Own k p)
own_number g k p first h l m =
    let f = has_number g (Own k p) (l, m) in
    let P : ℕ → Type 0 = λ i. StandsAt (event_names g) i (Own k p) in
    subst P (sym (number_of_own g k p first f.0 (λ n. h) f.1)) f.1

-- how many events the run has that is read at a thread's place
pub run_at : (g : GraphValue) (runs : List ThreadRun) (k : ℕ) (run : ThreadRun) (events : List Event) → runs ≡ g.runs → k < length runs → run ≡ get_or runs k run → events ≡ run.events →
    length (get_or g.runs k empty_run).events ≡ length events
run_at g runs k run events e l h f =
    let a : get_or g.runs k empty_run ≡ run = stands_get g.runs k empty_run run (stands_read runs g.runs k run e l h) in
    ap (λ (r : ThreadRun). length r.events) a ∙ ap length (sym f)
