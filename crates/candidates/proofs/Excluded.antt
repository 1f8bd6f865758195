-- Choices with a read of a value that nothing writes are in no execution.
use Rattle.std.proofs.Common.{◌≡◌, ℕ, zero, suc, ◌+◌, ◌-◌, ◌<◌, ◌≤◌, List, [], ◌∷◌, length, map, take, get_or, filter, refl, sym, ◌∙◌, ap, subst, inl, inr, arith, Bool, true, false, not, ◌==◌, None, ◌++◌, drop, bit_and, bit_or, bit_xor}
use Rattle.std.specs.Int.{bit_at}
use Rattle.std.specs.Prelude.{slice_index_or}
use Rattle.std.proofs.lemmas.List.{get_or_default, get_or-take}
use Rattle.std.proofs.lemmas.Bool.{and_parts, cases_Bool, cases_lt, eqb-true, eq-eqb, false≢true}
use Rattle.events.specs.declared.event.Event.{Event}
use Rattle.events.specs.declared.event.EventId.{EventId}
use Rattle.events.specs.declared.event.EventId.TheVariants.{Initial, Own}
use Rattle.events.specs.Executions.{ThreadRun, is_read, is_write, empty_run}
use Rattle.listings.specs.Lists.{IsIn, StandsAt, ForEach, sum_of}
use Rattle.listings.proofs.Listings.{flat_map_in, in_append, in_flat_map, in_left, in_map, in_right}
use Rattle.candidates.specs.declared.impossible.Needs.{Needs}
use Rattle.candidates.specs.declared.impossible.Store.{Store}
use Rattle.candidates.specs.declared.impossible.ThreadNeeds.{ThreadNeeds}
use Rattle.candidates.specs.Executions.{Writes, reads, block}
use Rattle.candidates.specs.Candidates.{Choices, choices, candidate, candidate_at, is_consistent, graph_at, size_of}
use Rattle.candidates.specs.Impossible.{number_of, is_refused, is_wanting, AreAllNeeds, AreGivenBy, AreImpossible, AreNeeds, HasNeeds, IsImpossible, IsPassed, IsUnwritten}
use Rattle.candidates.specs.declared.counts.Counts.{Counts}
use Rattle.candidates.specs.Groups.{sizes_of}
use Rattle.candidates.specs.Walks.{NoneFrom}
use Rattle.candidates.proofs.Law.{IsFrom, only_choices, agreeing, block_numbered, hidden}
use Rattle.candidates.proofs.Adding.{take_on}
use Rattle.candidates.specs.Parts.{behind}
use Rattle.candidates.proofs.Needed.{each_at, each_many, either_bit, lacking, left_bit, right_bit}
use Rattle.candidates.proofs.Steps.{in_block, part_end}
use Rattle.candidates.proofs.Grouping.{events_more, events_of, tallies_of}
use Rattle.candidates.proofs.Descent.{IsDown, sizes_total, get_mapped}
use Rattle.candidates.proofs.Kept.{short_take, within_take}
use Rattle.candidates.proofs.Passed.{IsMarked, passed_at}

filter_in : (p : Event → Bool) (es : List Event) (e : Event) → IsIn e es → p e ≡ true → IsIn e (filter p es)
filter_in p [] e m t = absurd m
filter_in p (f ∷ es) e m t = elim (cases_Bool (p f)) [
  | inl y ↦ (let P : List Event → Type 0 = λ xs. IsIn e xs in
      let s : filter p (f ∷ es) ≡ f ∷ filter p es = rw y refl in
      subst P (sym s) (elim m [ inl i ↦ inl i | inr n ↦ inr (filter_in p es e n t) ]))
  | inr n ↦ (let P : List Event → Type 0 = λ xs. IsIn e xs in
      let s : filter p (f ∷ es) ≡ filter p es = rw n refl in
      subst P (sym s) (elim m [
        | inl i ↦ absurd (false≢true (sym (ap p i ∙ n) ∙ t))
        | inr k ↦ filter_in p es e k t
      ]))
]

each_in : {A X : Type 0} (R : A → X → Type 0) (as' : List A) (xs : List X) (a : A) → ForEach R as' xs → IsIn a as' → (x : X) × R a x
each_in R [] xs a f m = absurd m
each_in R (b ∷ as') [] a f m = absurd f
each_in {X = X} R (b ∷ as') (x ∷ xs) a f m = elim m [
  | inl e ↦ (let P : _ → Type 0 = λ c. R c x in (x, subst P (sym e) f.0))
  | inr n ↦ each_in R as' xs a f.1 n
]

-- No candidate with such runs is an execution.
none_with : (init : List ℕ) (c : List ThreadRun) (j : ℕ) → IsImpossible init c → j < block (length init) c → is_consistent (candidate init c j) ≡ false
none_with init c j h l = elim (cases_Bool (is_consistent (candidate init c j))) [
  | inr f ↦ f
  | inl t ↦ (let x = candidate init c j in
      let k = (block_numbered init c).only j l in
      let w = agreeing init c (reads c) x.rf k.rf t in
      let read = flat_map_in (λ (u : ThreadRun). filter (λ e. is_read e.access) u.events) c h.0 h.1 h.2 (filter_in (λ e. is_read e.access) h.0.events h.1 h.3 h.4) in
      let g = each_in (λ (e : Event) (v : EventId). Writes init c v e.loc e.value) (reads c) x.rf h.1 w read in
      absurd (h.5 g.0 g.1))
]

stands_member : {X : Type 0} (xs : List X) (i : ℕ) (x : X) → StandsAt xs i x → IsIn x xs
stands_member [] i x h = absurd h
stands_member (y ∷ xs) zero x h = inl h
stands_member (y ∷ xs) (suc i) x h = inr (stands_member xs i x h)

of_threads : (threads : List (List ThreadRun)) (c : List ThreadRun) (run : ThreadRun) → ForEach IsFrom threads c → IsIn run c → (runs : List ThreadRun) × IsIn runs threads × IsIn run runs
of_threads [] [] run f m = absurd m
of_threads [] (r ∷ c) run f m = absurd f
of_threads (runs ∷ threads) [] run f m = absurd f
of_threads (runs ∷ threads) (r ∷ c) run f m = elim m [
  | inl e ↦ (let P : ThreadRun → Type 0 = λ u. IsIn u runs in (runs, inl refl, subst P (sym e) f.0))
  | inr n ↦ (let g = of_threads threads c run f.1 n in (g.0, inr g.1, g.2))
]

not_true : (b : Bool) → not b ≡ true → b ≡ true → ⊥
not_true true h e = false≢true h
not_true false h e = false≢true e

-- What the chosen runs, this one and any behind them write has the number of a bit of the word.
all_given : (init : List ℕ) (stores : List Store) (chosen : List ThreadRun) (run : ThreadRun) (threads : List (List ThreadRun)) (before own : Needs) (later : ℕ) (d : List ThreadRun) (u : ThreadRun) (e : Event) → AreNeeds init stores (events_of chosen) before → AreNeeds init stores run.events own → AreGivenBy stores threads later → IsIn d (choices threads) → IsIn u ((chosen ++ run ∷ []) ++ d) → IsIn e u.events → is_write e.access ≡ true → bit_at (bit_or (bit_or before.gives later) own.gives) (number_of stores e.loc e.value) ≡ 1
all_given init stores chosen run threads before own later d u e h k given m i n w =
    let j = number_of stores e.loc e.value in
    let front = bit_or before.gives later in
    elim (in_append (chosen ++ run ∷ []) d u i) [
      | inl a ↦ elim (in_append chosen (run ∷ []) u a) [
        | inl b ↦ left_bit front own.gives j (left_bit before.gives later j (h.gives e (flat_map_in (λ (r : ThreadRun). r.events) chosen u e b n) w))
        | inr b ↦ elim b [
          | inl is ↦ (let P : ThreadRun → Type 0 = λ r. IsIn e r.events in right_bit front own.gives j (k.gives e (subst P is n) w))
          | inr none ↦ absurd none
        ]
      ]
      | inr a ↦ (let t = of_threads threads d u (only_choices threads d m) a in
          left_bit front own.gives j (right_bit before.gives later j (given t.0 u t.1 t.2 e n w)))
    ]

not_zero : (w : ℕ) → not (w == 0) ≡ true → 0 < w
not_zero zero h = absurd (not_true (zero == 0) h refl)
not_zero (suc w) h = omega arith

-- The read that wants a number, among the events of the chosen runs and of this one.
who_wants : (init : List ℕ) (stores : List Store) (chosen : List ThreadRun) (run : ThreadRun) (before own : Needs) (j : ℕ) → AreNeeds init stores (events_of chosen) before → AreNeeds init stores run.events own → bit_at (bit_or before.wants own.wants) j ≡ 1 → (u : ThreadRun) × (e : Event) × IsIn u (chosen ++ run ∷ []) × IsIn e u.events × (is_wanting init e ≡ true) × (number_of stores e.loc e.value ≡ j)
who_wants init stores chosen run before own j h k b = elim (either_bit before.wants own.wants j b) [
  | inl a ↦ (let r = h.wants j a in
      let at = in_flat_map (λ (u : ThreadRun). u.events) chosen r.0 r.1 in
      (at.0, r.0, in_left chosen (run ∷ []) at.0 at.1, at.2, r.2, r.3))
  | inr a ↦ (let r = k.wants j a in
      (run, r.0, in_right chosen (run ∷ []) run (inl refl), r.1, r.2, r.3))
]

-- A run that is refused behind the chosen ones makes all choices that begin with them and it impossible.
pub impossible : (init : List ℕ) (stores : List Store) (chosen : List ThreadRun) (run : ThreadRun) (threads : List (List ThreadRun)) (before own : Needs) (later : ℕ) → AreNeeds init stores (events_of chosen) before → AreNeeds init stores run.events own → AreGivenBy stores threads later → is_refused before later own ≡ true → AreImpossible init (chosen ++ run ∷ []) threads
impossible init stores chosen run threads before own later h k given refused = λ c m.
    let front = chosen ++ run ∷ [] in
    let wants = bit_or before.wants own.wants in
    let gives = bit_or (bit_or before.gives later) own.gives in
    let b = lacking wants gives (not_zero (bit_and wants (bit_xor wants gives)) refused) in
    let r = who_wants init stores chosen run before own b.0 h k b.1 in
    let e = r.1 in
    let p = and_parts (is_read e.access) (not (slice_index_or init e.loc 0 == e.value)) r.4 in
    let tail = in_map (λ (d : List ThreadRun). front ++ d) (choices threads) c m in
    let d = tail.0 in
    let P : List ThreadRun → Type 0 = λ runs. IsImpossible init runs in
    let unwritten : IsUnwritten init (front ++ d) e.loc e.value = λ w. unwritten_by init (front ++ d) e.loc e.value (λ u f i n t x v. (
    let bit = all_given init stores chosen run threads before own later d u f h k given tail.1 i n t in
    let same : number_of stores f.loc f.value ≡ b.0 = ap (λ y. number_of stores y f.value) x ∙ ap (λ y. number_of stores e.loc y) v ∙ r.5 in
    let one = ap (bit_at gives) (sym same) ∙ bit in
    absurd (omega (arith, one, b.2)))) p.1 w in
    subst P tail.2 (r.0, e, in_left front d r.0 r.2, r.3, p.0, unwritten)
  where
    unwritten_by : (init : List ℕ) (c : List ThreadRun) (x v : ℕ) → ((u : ThreadRun) (f : Event) → IsIn u c → IsIn f u.events → is_write f.access ≡ true → f.loc ≡ x → f.value ≡ v → ⊥) → not (slice_index_or init x 0 == v) ≡ true → IsUnwritten init c x v
    unwritten_by init c x v none a (Initial y) w = not_true (slice_index_or init x 0 == v) a (eq-eqb (slice_index_or init x 0) v (sym w.1))
    unwritten_by init c x v none a (Own k p) w =
        let u = w.0 in
        let f = w.1 in
        let parts = and_parts (is_write f.access) (f.loc == x) w.4 in
        none u f (stands_member c k u w.2) (stands_member u.events p f w.3) parts.0 (eqb-true f.loc x parts.1) (sym w.5)

-- All runs of a thread that are marked are such.
abbrev pub AreRefused : List ℕ → List ThreadRun → List ThreadRun → List (List ThreadRun) → List Bool → Type 0
AreRefused init chosen runs more marks = (i : ℕ) → i < length runs → get_or marks i false ≡ true → AreImpossible init (chosen ++ get_or runs i empty_run ∷ []) more

pub refused : (init : List ℕ) (stores : List Store) (chosen : List ThreadRun) (threads : List (List ThreadRun)) (k : ℕ) (before : Needs) (t : ThreadNeeds) (marks : List Bool) → AreNeeds init stores (events_of chosen) before → HasNeeds init stores threads k t → marks ≡ map (is_refused before t.behind) t.needs.items → AreRefused init chosen (get_or threads k []) (drop (k + 1) threads) marks
refused init stores chosen threads k before t marks h has are = λ i l marked.
    let runs = get_or threads k [] in
    let none : Needs = record { wants = 0; gives = 0 } in
    let R : ThreadRun → Needs → Type 0 = λ run n. AreNeeds init stores run.events n in
    let own = get_or t.needs.items i none in
    let inside : i < length t.needs.items = omega (arith, l, each_many R runs t.needs.items has.runs) in
    let is : is_refused before t.behind own ≡ true = sym (get_mapped (is_refused before t.behind) t.needs.items i none false inside) ∙ ap (λ bs. get_or bs i false) (sym are) ∙ marked in
    impossible init stores chosen (get_or runs i empty_run) (drop (k + 1) threads) before own t.behind h (each_at R runs t.needs.items i empty_run none has.runs l) has.later is

-- No execution stands at the number of a choice with a marked run.
none_marked : (s : Choices) (chosen runs : List ThreadRun) (more : List (List ThreadRun)) (marks : List Bool) (m : ℕ) → AreRefused s.init chosen runs more marks → IsMarked (length s.init) (choices s.threads) chosen runs more marks m → graph_at s m ≡ None
none_marked s chosen runs more marks m are h =
    let c = h.choice in
    let j : ℕ = m - c.first in
    let l : j < block (length s.init) c.runs = omega (arith, c.from, c.below) in
    let is : m ≡ c.first + j = omega (arith, c.from) in
    let at : candidate_at s m ≡ candidate s.init c.runs j = ap (candidate_at s) is ∙ in_block s.init (choices s.threads) c.first c.runs c.here j l in
    hidden s m (ap is_consistent at ∙ none_with s.init c.runs j (are h.place h.within h.marked c.runs c.member) l)

take_upto : (sizes : List ℕ) (d e : ℕ) → d ≤ e → sum_of (λ k. k) (take d sizes) ≤ sum_of (λ k. k) (take e sizes)
take_upto [] zero zero l = omega arith
take_upto [] zero (suc e) l = omega arith
take_upto [] (suc d) zero l = absurd (omega (arith, l))
take_upto [] (suc d) (suc e) l = omega arith
take_upto (x ∷ xs) zero e l = omega arith
take_upto (x ∷ xs) (suc d) zero l = absurd (omega (arith, l))
take_upto (x ∷ xs) (suc d) (suc e) l = omega (arith, take_upto xs d e (omega (arith, l)))

pub take_whole : (sizes : List ℕ) (e : ℕ) → sum_of (λ k. k) (take e sizes) ≤ sum_of (λ k. k) sizes
take_whole [] zero = omega arith
take_whole [] (suc e) = omega arith
take_whole (x ∷ xs) zero = omega arith
take_whole (x ∷ xs) (suc e) = omega (arith, take_whole xs e)

-- What is passed over is some, and ends within the row.
pub passed_some : (marks : List Bool) (sizes : List ℕ) (d k left : ℕ) → IsPassed marks sizes d k → d < length sizes → left < get_or sizes d 0 → 0 < k → left < k
passed_some marks sizes d k left p l b some = elim (cases_lt d p.end) [
  | inl h ↦ omega (arith, p.sum, b, take_on sizes d l, take_upto sizes (d + 1) p.end (omega (arith, h)))
  | inr h ↦ (let same : d ≡ p.end = omega (arith, h, p.order) in
      let s = ap (λ i. sum_of (λ n. n) (take i sizes)) same in
      absurd (omega (arith, s, p.sum, some)))
]

pub passed_within : (n : ℕ) (row : List (List ThreadRun)) (number rest left : ℕ) (tally : List Counts) (chosen runs : List ThreadRun) (more : List (List ThreadRun)) (sizes : List ℕ) (marks : List Bool) (d k : ℕ) → IsDown n row number rest tally chosen (runs ∷ more) → sizes ≡ sizes_of tally (tallies_of n runs) (map (tallies_of n) more) → rest ≡ sum_of (λ i. i) (take d sizes) + left → IsPassed marks sizes d k → number - left + k ≤ sum_of (block n) row
passed_within n row number rest left tally chosen runs more sizes marks d k h e s p =
    omega (arith, h.order, s, p.sum, take_whole sizes p.end, sizes_total n row number rest tally chosen runs more sizes h e, part_end n row (number - rest) (behind chosen (runs ∷ more)) h.part)

pub passed_over : (s : Choices) (number rest left : ℕ) (tally : List Counts) (chosen runs : List ThreadRun) (more : List (List ThreadRun)) (sizes : List ℕ) (marks : List Bool) (d k : ℕ) → AreRefused s.init chosen runs more marks → IsDown (length s.init) (choices s.threads) number rest tally chosen (runs ∷ more) → sizes ≡ sizes_of tally (tallies_of (length s.init) runs) (map (tallies_of (length s.init)) more) → rest ≡ sum_of (λ i. i) (take d sizes) + left → IsPassed marks sizes d k → d < length sizes → left < get_or sizes d 0 → 0 < k → (number < number - left + k) × (number - left + k ≤ size_of s) × NoneFrom s number (number - left + k)
passed_over s number rest left tally chosen runs more sizes marks d k are h e is p l b some = (
  omega (arith, passed_some marks sizes d k left p l b some, is, h.order),
  passed_within (length s.init) (choices s.threads) number rest left tally chosen runs more sizes marks d k h e is p,
  λ m a c. none_marked s chosen runs more marks m are (passed_at (length s.init) (choices s.threads) number rest left tally chosen runs more sizes marks d k m h e is p a c),
)

-- What is at hand of the threads may be cut off.
pub needs_cut : (init : List ℕ) (threads : List (List ThreadRun)) (all some : List ThreadNeeds) (m : ℕ) → AreAllNeeds init threads all → some ≡ take m all → AreAllNeeds init threads some
needs_cut init threads all some m h is =
    let long = ap (λ (ts : List ThreadNeeds). length ts) is in
    record {
      stores = h.stores;
      few = omega (arith, long, within_take m all, h.few);
      are = λ k t l e. (let short : k < m = omega (arith, l, long, short_take m all) in
          h.are k t (omega (arith, l, long, within_take m all)) (e ∙ ap (λ ts. get_or ts k t) is ∙ get_or-take m all k t short));
    }

-- What the runs of a thread need.
pub needs_here : (init : List ℕ) (threads : List (List ThreadRun)) (all : List ThreadNeeds) (k : ℕ) (e : ThreadNeeds) (h : AreAllNeeds init threads all) → k < length all → HasNeeds init h.stores threads k (get_or all k e)
needs_here init threads all k e h l = h.are k (get_or all k e) l (get_or_default all k e (get_or all k e) l)

pub as_many_needs : (init : List ℕ) (stores : List Store) (threads : List (List ThreadRun)) (k : ℕ) (t : ThreadNeeds) → HasNeeds init stores threads k t → length t.needs.items ≡ length (get_or threads k [])
as_many_needs init stores threads k t has =
    let R : ThreadRun → Needs → Type 0 = λ run n. AreNeeds init stores run.events n in
    each_many R (get_or threads k []) t.needs.items has.runs

-- One run more is chosen.
pub needed_on : (init : List ℕ) (threads : List (List ThreadRun)) (all : List ThreadNeeds) (k : ℕ) (e : ThreadNeeds) (before own both : Needs) (chosen longer : List ThreadRun) (d : ℕ) (h : AreAllNeeds init threads all) → k < length all → d < length (get_or threads k []) → own ≡ get_or (get_or all k e).needs.items d own → AreNeeds init h.stores (events_of chosen) before → longer ≡ chosen ++ get_or (get_or threads k []) d empty_run ∷ []
    → (AreNeeds init h.stores (events_of chosen) before → AreNeeds init h.stores (get_or (get_or threads k []) d empty_run).events own → AreNeeds init h.stores (events_of chosen ++ (get_or (get_or threads k []) d empty_run).events) both) → AreNeeds init h.stores (events_of longer) both
needed_on init threads all k e before own both chosen longer d h l m o front more with =
    let t = get_or all k e in
    let R : ThreadRun → Needs → Type 0 = λ run n. AreNeeds init h.stores run.events n in
    let run = get_or (get_or threads k []) d empty_run in
    let has = needs_here init threads all k e h l in
    let P : Needs → Type 0 = λ n. R run n in
    let here : R run own = subst P (sym o) (each_at R (get_or threads k []) t.needs.items d empty_run own has.runs m) in
    let Q : List Event → Type 0 = λ es. AreNeeds init h.stores es both in
    subst Q (sym (ap events_of more ∙ events_more chosen run)) (with front here)
