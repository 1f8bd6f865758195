-- What rests on what the events of runs do, whatever their values are.
use Rattle.std.proofs.Common.{◌≡◌, ℕ, zero, suc, ◌+◌, ◌-◌, ◌*◌, ◌/◌, ◌%◌, ◌<◌, ◌≤◌, List, [], ◌∷◌, ◌++◌, length, map, drop, get_or, set, nat_lt, Bool, true, false, cond, if◌then◌else◌, refl, sym, ◌∙◌, ap, subst, arith}
use Rattle.std.specs.Prelude.{filter}
use Rattle.std.proofs.lemmas.List.{length-map, map-append}
use Rattle.events.specs.declared.event.Event.{Event}
use Rattle.events.specs.declared.event.EventId.{EventId}
use Rattle.events.specs.declared.event.EventId.TheVariants.{Initial, Own}
use Rattle.events.specs.Executions.{ThreadRun, is_read, writes_to}
use Rattle.listings.specs.Lists.{factorial, product_by}
use Rattle.listings.specs.Numbered.{arrange, digits}
use Rattle.candidates.specs.declared.depths.Depth.{Depth}
use Rattle.candidates.specs.declared.depths.Known.{Known}
use Rattle.candidates.specs.declared.depths.Known.TheVariants.{Sources, Orders}
use Rattle.candidates.specs.declared.page.Page.{Page}
use Rattle.candidates.specs.Blocks.{IsDepth, Fits, placings, size_by, ways_of_orders}
use Rattle.candidates.specs.Candidates.{count_co, count_orders, count_sources, order_at, orders_by}
use Rattle.candidates.specs.Depths.{before_reads, by_locations, by_places, depth_of, depths_of, is_open, known_at_depths}
use Rattle.candidates.specs.Executions.{reads, later_writes, upto, writes_from, writes_from_thread}
use Rattle.candidates.specs.Outlines.{IsOfRuns, outline, outlines, shown_run, written}
use Rattle.candidates.proofs.ByLocation.{product_same}
use Rattle.candidates.proofs.Descent.{drop_mapped}

writes_by_outline : (x k p : ℕ) (es : List Event) → writes_from x k p es ≡ writes_from x k p (map outline es)
writes_by_outline x k p [] = refl
writes_by_outline x k p (e ∷ es) = ap (λ (ws : List EventId). if writes_to x e then Own k p ∷ ws else ws) (writes_by_outline x k (suc p) es)

thread_by_outline : (x k : ℕ) (runs : List ThreadRun) → writes_from_thread x k runs ≡ writes_from_thread x k (outlines runs)
thread_by_outline x k [] = refl
thread_by_outline x k (run ∷ runs) =
    ap (λ (ws : List EventId). ws ++ writes_from_thread x (suc k) runs) (writes_by_outline x k 0 run.events)
    ∙ ap (λ (ws : List EventId). writes_from x k 0 (map outline run.events) ++ ws) (thread_by_outline x (suc k) runs)

pub later_same : (as' bs : List ThreadRun) → outlines as' ≡ outlines bs → (x : ℕ) → later_writes as' x ≡ later_writes bs x
later_same as' bs e x = thread_by_outline x 0 as' ∙ ap (λ (rs : List ThreadRun). later_writes rs x) e ∙ sym (thread_by_outline x 0 bs)

maps_alike : {A B : Type 0} (f g : A → B) → ((a : A) → f a ≡ g a) → (xs : List A) → map f xs ≡ map g xs
maps_alike f g e [] = refl
maps_alike {B = B} f g e (x ∷ xs) = ap (λ (y : B). y ∷ map f xs) (e x) ∙ ap (λ (ys : List B). g x ∷ ys) (maps_alike f g e xs)

filters_alike : {A : Type 0} (p q : A → Bool) → ((a : A) → p a ≡ q a) → (xs : List A) → filter p xs ≡ filter q xs
filters_alike p q e [] = refl
filters_alike {A = A} p q e (x ∷ xs) = ap (λ b. cond b (x ∷ filter p xs) (filter p xs)) (e x) ∙ ap (λ (ys : List A). cond (q x) (x ∷ ys) ys) (filters_alike p q e xs)

kept_by_outline : (b : Bool) (e : Event) (fs : List Event) → map outline (cond b (e ∷ fs) fs) ≡ cond b (outline e ∷ map outline fs) (map outline fs)
kept_by_outline true e fs = refl
kept_by_outline false e fs = refl

filter_by_outline : (es : List Event) → map outline (filter (λ e. is_read e.access) es) ≡ filter (λ e. is_read e.access) (map outline es)
filter_by_outline [] = refl
filter_by_outline (e ∷ es) =
    kept_by_outline (is_read e.access) e (filter (λ e. is_read e.access) es)
    ∙ ap (λ (fs : List Event). cond (is_read e.access) (outline e ∷ fs) fs) (filter_by_outline es)

reads_by_outline : (runs : List ThreadRun) → map outline (reads runs) ≡ reads (outlines runs)
reads_by_outline [] = refl
reads_by_outline (run ∷ runs) =
    map-append outline (filter (λ e. is_read e.access) run.events) (reads runs)
    ∙ ap (λ (es : List Event). es ++ map outline (reads runs)) (filter_by_outline run.events)
    ∙ ap (λ (es : List Event). filter (λ e. is_read e.access) (map outline run.events) ++ es) (reads_by_outline runs)

pub reads_alike : (as' bs : List ThreadRun) → outlines as' ≡ outlines bs → map outline (reads as') ≡ map outline (reads bs)
reads_alike as' bs e = reads_by_outline as' ∙ ap reads e ∙ sym (reads_by_outline bs)

pub as_many_reads : (as' bs : List ThreadRun) → outlines as' ≡ outlines bs → length (reads as') ≡ length (reads bs)
as_many_reads as' bs e = sym (length-map (reads as') outline) ∙ ap (λ (es : List Event). length es) (reads_alike as' bs e) ∙ length-map (reads bs) outline

-- in how many ways reads can read
pub sources_by_outline : (runs : List ThreadRun) (es : List Event) → product_by (count_sources runs) es ≡ product_by (count_sources runs) (map outline es)
sources_by_outline runs [] = refl
sources_by_outline runs (e ∷ es) = ap (λ n. count_sources runs e * n) (sources_by_outline runs es)

sources_same : (as' bs : List ThreadRun) → outlines as' ≡ outlines bs → (es fs : List Event) → map outline es ≡ map outline fs → product_by (count_sources as') es ≡ product_by (count_sources bs) fs
sources_same as' bs e es fs f =
    product_same (count_sources as') (count_sources bs) (λ (r : Event). ap (λ (ws : List EventId). suc (length ws)) (later_same as' bs e r.loc)) es
    ∙ sources_by_outline bs es ∙ ap (product_by (count_sources bs)) f ∙ sym (sources_by_outline bs fs)

pub co_same : (as' bs : List ThreadRun) → outlines as' ≡ outlines bs → (n : ℕ) → count_co n as' ≡ count_co n bs
co_same as' bs e n = product_same (count_orders as') (count_orders bs) (λ x. ap (λ (ws : List EventId). factorial (length ws)) (later_same as' bs e x)) (upto n)

digits_alike : (as' bs : List ThreadRun) → outlines as' ≡ outlines bs → (xs : List ℕ) (k : ℕ) → digits (count_orders as') (order_at as') xs k ≡ digits (count_orders bs) (order_at bs) xs k
digits_alike as' bs e [] k = refl
digits_alike as' bs e (x ∷ xs) k =
    ap (λ (ws : List EventId). (Initial x ∷ arrange ws (k % factorial (length ws))) ∷ digits (count_orders as') (order_at as') xs (k / factorial (length ws))) (later_same as' bs e x)
    ∙ ap (λ (os : List (List EventId)). order_at bs x (k % count_orders bs x) ∷ os) (digits_alike as' bs e xs (k / count_orders bs x))

-- The orders with a number are those of all runs that do the same.
pub orders_alike : (as' bs : List ThreadRun) → outlines as' ≡ outlines bs → (n k : ℕ) → orders_by n as' k ≡ orders_by n bs k
orders_alike as' bs e n k = digits_alike as' bs e (upto n) k

-- blocks
orders_same : (as' bs : List ThreadRun) → outlines as' ≡ outlines bs → (free k : ℕ) (xs : List ℕ) → ways_of_orders as' free k xs ≡ ways_of_orders bs free k xs
orders_same as' bs e free k [] = refl
orders_same as' bs e zero k (x ∷ xs) = ap (λ (ws : List EventId). placings (length ws) k) (later_same as' bs e x)
orders_same as' bs e (suc free) k (x ∷ xs) =
    ap (λ (ws : List EventId). factorial (length ws) * ways_of_orders as' free k xs) (later_same as' bs e x)
    ∙ ap (λ n. count_orders bs x * n) (orders_same as' bs e free k xs)

drop_alike : (es fs : List Event) (m : ℕ) → map outline es ≡ map outline fs → map outline (drop m es) ≡ map outline (drop m fs)
drop_alike es fs m e = sym (drop_mapped outline es m) ∙ ap (drop m) e ∙ drop_mapped outline fs m

size_same : (n : ℕ) (as' bs : List ThreadRun) → outlines as' ≡ outlines bs → (k : Known) → size_by n as' k ≡ size_by n bs k
size_same n as' bs e (Sources m) =
    ap (λ c. c * product_by (count_sources as') (drop m (reads as'))) (co_same as' bs e n)
    ∙ ap (λ c. count_co n bs * c) (sources_same as' bs e (drop m (reads as')) (drop m (reads bs)) (drop_alike (reads as') (reads bs) m (reads_alike as' bs e)))
size_same n as' bs e (Orders o) = orders_same as' bs e o.locations o.writes (upto n)

fits_same : (n : ℕ) (as' bs : List ThreadRun) → outlines as' ≡ outlines bs → (k : Known) → Fits n as' k → Fits n bs k
fits_same n as' bs e (Sources m) h = h
fits_same n as' bs e (Orders o) h = (h.0, let P : List EventId → Type 0 = λ ws. o.writes ≤ length ws in subst P (later_same as' bs e o.locations) h.1)

depth_same : (n : ℕ) (as' bs : List ThreadRun) → outlines as' ≡ outlines bs → (d : Depth) → IsDepth n as' d → IsDepth n bs d
depth_same n as' bs e d h = record { size = h.size ∙ size_same n as' bs e d.known; some = h.some; fits = fits_same n as' bs e d.known h.fits }

-- the depths of blocks
before_by_outline : (runs : List ThreadRun) (m : ℕ) (es : List Event) → before_reads runs m es ≡ before_reads runs m (map outline es)
before_by_outline runs m [] = refl
before_by_outline runs m (e ∷ es) = ap (λ (ks : List Known). if nat_lt 0 (length (later_writes runs e.loc)) then Sources m ∷ ks else ks) (before_by_outline runs (m + 1) es)

before_same : (as' bs : List ThreadRun) → outlines as' ≡ outlines bs → (m : ℕ) (es : List Event) → before_reads as' m es ≡ before_reads bs m es
before_same as' bs e m [] = refl
before_same as' bs e m (r ∷ rs) =
    ap (λ (ws : List EventId). if nat_lt 0 (length ws) then Sources m ∷ before_reads as' (m + 1) rs else before_reads as' (m + 1) rs) (later_same as' bs e r.loc)
    ∙ ap (λ (ks : List Known). if nat_lt 0 (length (later_writes bs r.loc)) then Sources m ∷ ks else ks) (before_same as' bs e (m + 1) rs)

places_same : (as' bs : List ThreadRun) → outlines as' ≡ outlines bs → (x : ℕ) → by_locations as' x ≡ by_locations bs x
places_same as' bs e zero = refl
places_same as' bs e (suc x) =
    ap (λ (ws : List EventId). by_places x (length ws - 1) ++ by_locations as' x) (later_same as' bs e x)
    ∙ ap (λ (ks : List Known). by_places x (length (later_writes bs x) - 1) ++ ks) (places_same as' bs e x)

known_same : (n : ℕ) (as' bs : List ThreadRun) → outlines as' ≡ outlines bs → known_at_depths n as' ≡ known_at_depths n bs
known_same n as' bs e =
    let f = reads_alike as' bs e in
    let many = as_many_reads as' bs e in
    let ks : List Known = Sources (length (reads as')) ∷ by_locations as' n in
    ap (λ (ls : List Known). ls ++ filter (is_open n as') ks) (before_same as' bs e 0 (reads as') ∙ before_by_outline bs 0 (reads as') ∙ ap (before_reads bs 0) f ∙ sym (before_by_outline bs 0 (reads bs)))
    ∙ ap (λ (ls : List Known). before_reads bs 0 (reads bs) ++ ls) (
    filters_alike (is_open n as') (is_open n bs) (λ k. ap (nat_lt 1) (size_same n as' bs e k)) ks
    ∙ ap (λ m. filter (is_open n bs) (Sources m ∷ by_locations as' n)) many
    ∙ ap (λ (ls : List Known). filter (is_open n bs) (Sources (length (reads bs)) ∷ ls)) (places_same as' bs e n)
    )

depths_same : (n : ℕ) (as' bs : List ThreadRun) → outlines as' ≡ outlines bs → depths_of n as' ≡ depths_of n bs
depths_same n as' bs e =
    maps_alike (depth_of n as') (depth_of n bs) (λ k. let D : ℕ → Depth = λ s. record { size = s; known = k } in ap D (size_same n as' bs e k)) (known_at_depths n as')
    ∙ ap (map (depth_of n bs)) (known_same n as' bs e)

-- What the page keeps of runs is that of others whose events do the same.
pub of_runs_like : (n : ℕ) (as' bs : List ThreadRun) (p : Page) → outlines as' ≡ outlines bs → IsOfRuns n as' p → IsOfRuns n bs p
of_runs_like n as' bs p e h = record {
  writes_are = h.writes_are ∙ maps_alike (later_writes as') (later_writes bs) (later_same as' bs e) (upto n);
  ways = h.ways ∙ sources_same as' bs e (reads as') (reads bs) (reads_alike as' bs e);
  orders = h.orders ∙ co_same as' bs e n;
  depths = λ i d l. depth_same n as' bs e (get_or p.depths.items i d) (h.depths i d l);
  depths_are = h.depths_are ∙ depths_same n as' bs e;
}

-- A run in the place of another whose events are the same in what f shows of them.
pub put_like : (f : Event → Event) (runs : List ThreadRun) (i : ℕ) (old new : ThreadRun) → i < length runs → old ≡ get_or runs i old → map f old.events ≡ map f new.events → map (shown_run f) (set runs i new) ≡ map (shown_run f) runs
put_like f [] i old new l is e = refl
put_like f (r ∷ runs) zero old new l is e =
    let R : List Event → ThreadRun = λ es. record { events = es; registers = [] } in
    ap (λ (es : List Event). R es ∷ map (shown_run f) runs) (sym e) ∙ ap (λ (x : ThreadRun). shown_run f x ∷ map (shown_run f) runs) is
put_like f (r ∷ runs) (suc i) old new l is e = ap (λ (rs : List ThreadRun). shown_run f r ∷ rs) (put_like f runs i old new (omega (arith, l)) is e)

outlines_written : (es : List Event) → map outline (map written es) ≡ map outline es
outlines_written [] = refl
outlines_written (e ∷ es) = ap (λ (fs : List Event). outline e ∷ fs) (outlines_written es)

-- Events that write the same do the same.
pub like_written : (es fs : List Event) → map written es ≡ map written fs → map outline es ≡ map outline fs
like_written es fs e = sym (outlines_written es) ∙ ap (λ (xs : List Event). map outline xs) e ∙ outlines_written fs

pub as_many : (f : Event → Event) (as' bs : List ThreadRun) → map (shown_run f) as' ≡ map (shown_run f) bs → length as' ≡ length bs
as_many f as' bs e = sym (length-map as' (shown_run f)) ∙ ap (λ (rs : List ThreadRun). length rs) e ∙ length-map bs (shown_run f)
