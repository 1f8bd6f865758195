-- A candidate names its own events alone.
use Rattle.std.proofs.Common.{◌≡◌, ℕ, zero, suc, ◌/◌, ◌%◌, ◌∙◌, ap, ◌<◌, List, [], ◌∷◌, length, filter, refl, sym, subst, inl, inr, arith, true, false}
use Rattle.std.specs.List.{All}
use Rattle.events.specs.declared.event.Event.{Event}
use Rattle.events.specs.declared.event.EventId.{EventId}
use Rattle.events.specs.declared.event.EventId.TheVariants.{Initial, Own}
use Rattle.events.specs.Executions.{ThreadRun, GraphValue, is_read, IsNamed, IsGraph, empty_run}
use Rattle.listings.specs.Lists.{IsIn, StandsAt, ForEach, tabulate}
use Rattle.listings.specs.Numbered.{digits}
use Rattle.listings.proofs.Listings.{in_get_or}
use Rattle.c11_threads.specs.Bounds.{IsPlaced}
use Rattle.candidates.specs.Executions.{Writes, IsCoherence, reads, upto, block}
use Rattle.candidates.specs.Candidates.{candidate, count_co, count_orders, order_at, rf_at, write_value}
use Rattle.candidates.specs.Bounds.{AreWithin}
use Rattle.std.proofs.lemmas.List.Elements.{All-nil, All-cons, All-head, All-tail, All-append}
use Rattle.std.proofs.lemmas.Bool.{cases_Bool}
use Rattle.candidates.proofs.ByLocation.{placed_read}
use Rattle.candidates.proofs.Law.{CanRead, block_numbered}
use Rattle.candidates.proofs.Writing.{in_sources, stands_get}

stands_below : {X : Type 0} (xs : List X) (i : ℕ) (x : X) → StandsAt xs i x → i < length xs
stands_below [] i x s = absurd s
stands_below (y ∷ xs) zero x s = omega arith
stands_below (y ∷ xs) (suc i) x s = omega (arith, stands_below xs i x s)

named : (init : List ℕ) (runs : List ThreadRun) (w : EventId) (x v : ℕ) → x < length init → Writes init runs w x v → IsNamed init runs w
named init runs (Initial y) x v l h = omega (arith, l, h.0)
named init runs (Own k p) x v l h =
    let P : ThreadRun → Type 0 = λ run. p < length run.events in
    (stands_below runs k h.0 h.2, subst P (sym (stands_get runs k empty_run h.0 h.2)) (stands_below h.0.events p h.1 h.3))

each : {X : Type 0} (P : X → Type 0) (xs : List X) → ((x : X) → IsIn x xs → P x) → All P xs
each P xs h k d l = h _ (in_get_or xs k d l)

pub filter_yes : (e : Event) (es : List Event) → is_read e.access ≡ true → e ∷ filter (λ e. is_read e.access) es ≡ filter (λ e. is_read e.access) (e ∷ es)
filter_yes e es h = rw h refl

pub filter_no : (e : Event) (es : List Event) → is_read e.access ≡ false → filter (λ e. is_read e.access) es ≡ filter (λ e. is_read e.access) (e ∷ es)
filter_no e es h = rw h refl

abbrev pub IsAt : ℕ → Event → Type 0
IsAt n e = e.loc < n

some_at : (n : ℕ) (es : List Event) → All (IsPlaced n) es → All (IsAt n) (filter (λ e. is_read e.access) es)
some_at n [] h = All-nil (IsAt n)
some_at n (e ∷ es) h =
    let P : List Event → Type 0 = All (IsAt n) in
    let rest = some_at n es (All-tail (IsPlaced n) e es h) in
    elim (cases_Bool (is_read e.access)) [
      | inl t ↦ subst P (filter_yes e es t) (All-cons (IsAt n) e (filter (λ e. is_read e.access) es) (placed_read n e (All-head (IsPlaced n) e es h) t) rest)
      | inr t ↦ subst P (filter_no e es t) rest
    ]

pub reads_at_locations : (n : ℕ) (runs : List ThreadRun) → All (λ run. All (IsPlaced n) run.events) runs → All (IsAt n) (reads runs)
reads_at_locations n [] h = All-nil (IsAt n)
reads_at_locations n (run ∷ runs) h =
    let P : ThreadRun → Type 0 = λ run. All (IsPlaced n) run.events in
    All-append (IsAt n) (filter (λ e. is_read e.access) run.events) (reads runs) (some_at n run.events (All-head P run runs h)) (reads_at_locations n runs (All-tail P run runs h))

rf_named : (init : List ℕ) (runs : List ThreadRun) (rs : List Event) (ws : List EventId) → All (IsAt (length init)) rs → ForEach (CanRead runs) rs ws → All (IsNamed init runs) ws
rf_named init runs [] [] h f = All-nil (IsNamed init runs)
rf_named init runs [] (w ∷ ws) h f = absurd f
rf_named init runs (r ∷ rs) [] h f = absurd f
rf_named init runs (r ∷ rs) (w ∷ ws) h f =
    All-cons (IsNamed init runs) w ws (named init runs w r.loc (write_value init runs w) (All-head (IsAt (length init)) r rs h) (in_sources init runs w r.loc f.0))
    (rf_named init runs rs ws (All-tail (IsAt (length init)) r rs h) f.1)

co_named : (init : List ℕ) (runs : List ThreadRun) (n : ℕ) (g : ℕ → ℕ) (co : List (List EventId)) → ((i : ℕ) → i < n → g i < length init) → ForEach (IsCoherence init runs) (tabulate n g) co → All (All (IsNamed init runs)) co
co_named init runs zero g [] h f = All-nil (All (IsNamed init runs))
co_named init runs zero g (o ∷ co) h f = absurd f
co_named init runs (suc n) g [] h f = absurd f
co_named init runs (suc n) g (o ∷ co) h f =
    All-cons (All (IsNamed init runs)) o co
    (each (IsNamed init runs) o (λ w m. let v = f.0.writes.only w m in named init runs w (g 0) v.0 (h 0 (omega arith)) v.1))
    (co_named init runs n (λ i. g (suc i)) co (λ i l. h (suc i) (omega (arith, l))) f.1)

pub is_graph : (init : List ℕ) (runs : List ThreadRun) (i : ℕ) → AreWithin (length init) runs → i < block (length init) runs → IsGraph (candidate init runs i)
is_graph init runs i w l =
    let c = (block_numbered init runs).only i l in
    record {
      few = w.few;
      rf = rf_named init runs (reads runs) (candidate init runs i).rf (reads_at_locations (length init) runs w.places) c.rf;
      co = co_named init runs (length init) (λ k. k) (candidate init runs i).co (λ k m. m) c.co;
    }

-- A candidate by its parts.
pub is_candidate : (init : List ℕ) (runs : List ThreadRun) (orders number : ℕ) (vs : List ℕ) (rs : List ThreadRun) (rf : List EventId) (co : List (List EventId)) → vs ≡ init → rs ≡ runs → orders ≡ count_co (length init) runs → rf ≡ rf_at runs (number / orders) → co ≡ digits (count_orders runs) (order_at runs) (upto (length init)) (number % orders) → (let x : GraphValue = record { init = vs; runs = rs; rf = rf; co = co } in x) ≡ candidate init runs number
is_candidate init runs orders number vs rs rf co a b o f c =
    let X : List ℕ → List ThreadRun → List EventId → List (List EventId) → GraphValue = λ v r w k. record { init = v; runs = r; rf = w; co = k } in
    ap (λ v. X v rs rf co) a ∙ ap (λ r. X init r rf co) b
    ∙ ap (λ w. X init runs w co) (f ∙ ap (λ n. rf_at runs (number / n)) o)
    ∙ ap (λ k. X init runs (rf_at runs (number / count_co (length init) runs)) k) (c ∙ ap (λ n. digits (count_orders runs) (order_at runs) (upto (length init)) (number % n)) o)
