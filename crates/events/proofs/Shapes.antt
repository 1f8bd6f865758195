-- What executions of one structure have in common, whatever their values are.
use Rattle.std.proofs.Common.{◌≡◌, ℕ, zero, suc, ◌+◌, ◌<◌, List, [], ◌∷◌, ◌++◌, length, map, get_or, drop, Bool, refl, sym, ap, ◌∙◌}
use Rattle.std.specs.Prelude.{sum_by, cond}
use Rattle.std.specs.List.{filter}
use Rattle.std.proofs.Math.ListN.{get_or-map}
use Rattle.std.proofs.lemmas.List as lists
use Rattle.std.proofs.lemmas.List.{length-map}
use Rattle.std.proofs.lemmas.List.Sums.{sum_by-cons}
use Rattle.listings.specs.Lists.{tabulate}
use Rattle.events.specs.declared.event.Event.{Event}
use Rattle.events.specs.declared.event.EventId.{EventId}
use Rattle.events.specs.declared.event.EventId.TheVariants.{Initial, Own}
use Rattle.events.specs.Executions.{GraphValue, ThreadRun, is_read, empty_run}
use Rattle.events.specs.Named.{names_from, thread_names, event_names, event_count, event_at, no_event, access_of, location_of, order_of, data_of, control_of, read_names}
use Rattle.events.specs.Structures.{Structure, unvalued, unvalued_run, nought, structure_of, bare}

-- AN EXECUTION AND ITS STRUCTURE

names_unvalued : (k p : ℕ) (es : List Event) → names_from k p (map unvalued es) ≡ names_from k p es
names_unvalued k p [] = refl
names_unvalued k p (e ∷ es) = ap (λ names. Own k p ∷ names) (names_unvalued k (suc p) es)

threads_unvalued : (k : ℕ) (runs : List ThreadRun) → thread_names k (map unvalued_run runs) ≡ thread_names k runs
threads_unvalued k [] = refl
threads_unvalued k (run ∷ runs) =
    ap (λ names. names ++ thread_names (suc k) (map unvalued_run runs)) (names_unvalued k 0 run.events)
    ∙ ap (λ names. names_from k 0 run.events ++ names) (threads_unvalued (suc k) runs)

own_names : (g : GraphValue) → event_names (bare (structure_of g)) ≡ event_names g
unfolding event_names
own_names g =
    ap (λ n. tabulate n Initial ++ thread_names 0 (map unvalued_run g.runs)) (length-map g.init nought)
    ∙ ap (λ names. tabulate (length g.init) Initial ++ names) (threads_unvalued 0 g.runs)

sums_unvalued : (runs : List ThreadRun) → sum_by (λ run. length run.events) (map unvalued_run runs) ≡ sum_by (λ run. length run.events) runs
sums_unvalued [] = refl
sums_unvalued (run ∷ runs) =
    let f : ThreadRun → ℕ = λ run. length run.events in
    sum_by-cons f (unvalued_run run) (map unvalued_run runs)
    ∙ ap (λ n. n + sum_by f (map unvalued_run runs)) (length-map run.events unvalued)
    ∙ ap (λ n. length run.events + n) (sums_unvalued runs)
    ∙ sym (sum_by-cons f run runs)

rest_unvalued : (k : ℕ) (runs : List ThreadRun) → sum_by (λ run. length run.events) (drop k (map unvalued_run runs)) ≡ sum_by (λ run. length run.events) (drop k runs)
rest_unvalued zero runs = sums_unvalued runs
rest_unvalued (suc k) [] = refl
rest_unvalued (suc k) (run ∷ runs) = rest_unvalued k runs

own_count : (g : GraphValue) → event_count (bare (structure_of g)) ≡ event_count g
own_count g =
    ap (λ n. n + sum_by (λ run. length run.events) (map unvalued_run g.runs)) (length-map g.init nought)
    ∙ ap (λ n. length g.init + n) (sums_unvalued g.runs)

own_event : (g : GraphValue) (k p : ℕ) → event_at (bare (structure_of g)) k p ≡ unvalued (event_at g k p)
unfolding event_at
own_event g k p =
    ap (λ (run : ThreadRun). get_or run.events p no_event) (get_or-map unvalued_run g.runs k empty_run)
    ∙ get_or-map unvalued (get_or g.runs k empty_run).events p no_event

-- TWO EXECUTIONS OF ONE STRUCTURE

pub names_same : (g h : GraphValue) → structure_of g ≡ structure_of h → event_names g ≡ event_names h
names_same g h e = sym (own_names g) ∙ ap (λ s. event_names (bare s)) e ∙ own_names h

pub count_same : (g h : GraphValue) → structure_of g ≡ structure_of h → event_count g ≡ event_count h
count_same g h e = sym (own_count g) ∙ ap (λ s. event_count (bare s)) e ∙ own_count h

pub threads_same : (g h : GraphValue) → structure_of g ≡ structure_of h → length g.runs ≡ length h.runs
threads_same g h e = sym (length-map g.runs unvalued_run) ∙ ap (λ (s : Structure). length s.runs) e ∙ length-map h.runs unvalued_run

-- as many events are left behind a thread
pub rest_same : (g h : GraphValue) → structure_of g ≡ structure_of h → (k : ℕ) → sum_by (λ run. length run.events) (drop k g.runs) ≡ sum_by (λ run. length run.events) (drop k h.runs)
rest_same g h e k = sym (rest_unvalued k g.runs) ∙ ap (λ (s : Structure). sum_by (λ run. length run.events) (drop k s.runs)) e ∙ rest_unvalued k h.runs

event_same : (g h : GraphValue) → structure_of g ≡ structure_of h → (k p : ℕ) → unvalued (event_at g k p) ≡ unvalued (event_at h k p)
event_same g h e k p = sym (own_event g k p) ∙ ap (λ s. event_at (bare s) k p) e ∙ own_event h k p

pub access_same : (g h : GraphValue) → structure_of g ≡ structure_of h → (d : EventId) → access_of g d ≡ access_of h d
access_same g h e (Initial x) = refl
access_same g h e (Own k p) = ap (λ (d : Event). d.access) (event_same g h e k p)

pub location_same : (g h : GraphValue) → structure_of g ≡ structure_of h → (d : EventId) → location_of g d ≡ location_of h d
location_same g h e (Initial x) = refl
location_same g h e (Own k p) = ap (λ (d : Event). d.loc) (event_same g h e k p)

pub order_same : (g h : GraphValue) → structure_of g ≡ structure_of h → (d : EventId) → order_of g d ≡ order_of h d
order_same g h e (Initial x) = refl
order_same g h e (Own k p) = ap (λ (d : Event). d.order) (event_same g h e k p)

pub data_same : (g h : GraphValue) → structure_of g ≡ structure_of h → (d : EventId) → data_of g d ≡ data_of h d
data_same g h e (Initial x) = refl
data_same g h e (Own k p) = ap (λ (d : Event). d.data_from) (event_same g h e k p)

pub control_same : (g h : GraphValue) → structure_of g ≡ structure_of h → (d : EventId) → control_of g d ≡ control_of h d
control_same g h e (Initial x) = refl
control_same g h e (Own k p) = ap (λ (d : Event). d.ctrl_from) (event_same g h e k p)

filter_same : (f f2 : EventId → Bool) → ((d : EventId) → f d ≡ f2 d) → (ds : List EventId) → filter f ds ≡ filter f2 ds
filter_same f f2 e [] = refl
filter_same f f2 e (d ∷ ds) =
    ap (λ b. cond b (d ∷ filter f ds) (filter f ds)) (e d)
    ∙ ap (λ rest. cond (f2 d) (d ∷ rest) rest) (filter_same f f2 e ds)

pub reads_same : (g h : GraphValue) → structure_of g ≡ structure_of h → read_names g ≡ read_names h
unfolding read_names
reads_same g h e =
    filter_same (λ d. is_read (access_of g d)) (λ d. is_read (access_of h d)) (λ d. ap is_read (access_same g h e d)) (event_names g)
    ∙ ap (λ ds. filter (λ d. is_read (access_of h d)) ds) (names_same g h e)

-- what is read at one place of two lists that a function makes the same, it makes the same
pub mapped_here : {X Y : Type 0} (f : X → Y) (xs ys : List X) (i : ℕ) (x y : X) → i < length xs → i < length ys → x ≡ get_or xs i x → y ≡ get_or ys i y → map f xs ≡ map f ys → f x ≡ f y
mapped_here f xs ys i x y l m p q e =
    ap f p ∙ sym (lists.get_or-map f xs i x (f y) l) ∙ ap (λ zs. get_or zs i (f y)) e ∙ lists.get_or-map f ys i y (f y) m ∙ sym (ap f q)
