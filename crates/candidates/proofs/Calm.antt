-- What the reads fit, where other runs write the same.
use Rattle.std.proofs.Common.{◌≡◌, ℕ, suc, ◌+◌, ◌<◌, List, [], ◌∷◌, ◌++◌, length, get_or, take, drop, drop-cons, append_assoc, refl, sym, ◌∙◌, ap, subst, arith, true, ◌==◌}
use Rattle.std.specs.Prelude.{filter}
use Rattle.std.proofs.Math.ListN.{get_or-map}
use Rattle.std.proofs.Math.Seq.{take-append_seam}
use Rattle.std.proofs.lemmas.Bool.{and_parts}
use Rattle.std.proofs.lemmas.List.{get_or_append_left, length-append, take-append-drop}
use Rattle.events.specs.declared.event.Event.{Event}
use Rattle.events.specs.declared.event.EventId.{EventId}
use Rattle.events.specs.declared.event.EventId.TheVariants.{Initial, Own}
use Rattle.events.specs.Executions.{ThreadRun, empty_run, is_read, is_write}
use Rattle.events.specs.Named.{no_event}
use Rattle.listings.proofs.Listings.{in_get_or}
use Rattle.candidates.specs.Candidates.{count_sources, source_at, sources, write_value}
use Rattle.candidates.specs.Executions.{Writes, reads}
use Rattle.candidates.specs.Outlines.{outlines, shown_run, writings, written}
use Rattle.candidates.specs.Readings.{AreSuitable, HaveSuitable}
use Rattle.candidates.specs.declared.reading.Suitable.{Suitable}
use Rattle.candidates.proofs.Outlining.{later_same}
use Rattle.candidates.proofs.Writing.{in_sources, stands_get}

abbrev event_in : List ThreadRun → ℕ → ℕ → Event
event_in runs k p = get_or (get_or runs k empty_run).events p no_event

abbrev written_in : List ThreadRun → ℕ → ℕ → Event
written_in runs k p = get_or (get_or runs k (shown_run written empty_run)).events p (written no_event)

written_there : (runs : List ThreadRun) (k p : ℕ) → written_in (writings runs) k p ≡ written (event_in runs k p)
written_there runs k p =
    ap (λ (r : ThreadRun). get_or r.events p (written no_event)) (get_or-map (shown_run written) runs k empty_run)
    ∙ get_or-map written (get_or runs k empty_run).events p no_event

same_written : (as' bs : List ThreadRun) → writings as' ≡ writings bs → (k p : ℕ) → written (event_in as' k p) ≡ written (event_in bs k p)
same_written as' bs e k p = sym (written_there as' k p) ∙ ap (λ (ws : List ThreadRun). written_in ws k p) e ∙ written_there bs k p

value_written : (e : Event) → is_write e.access ≡ true → (written e).value ≡ e.value
value_written e h = rw h refl

-- A write that is listed has the same value in both.
value_alike : (init : List ℕ) (as' bs : List ThreadRun) (w : EventId) (x v : ℕ) → writings as' ≡ writings bs → Writes init as' w x v → write_value init as' w ≡ write_value init bs w
value_alike init as' bs (Initial y) x v e h = refl
value_alike init as' bs (Own k p) x v e h =
    let same = same_written as' bs e k p in
    let there : h.1 ≡ event_in as' k p = sym (ap (λ (r : ThreadRun). get_or r.events p no_event) (stands_get as' k empty_run h.0 h.2) ∙ stands_get h.0.events p no_event h.1 h.3) in
    let writes : is_write (event_in as' k p).access ≡ true = ap (λ (f : Event). is_write f.access) (sym there) ∙ (and_parts _ _ h.4).0 in
    let writes_too : is_write (event_in bs k p).access ≡ true = ap (λ (f : Event). is_write f.access) (sym same) ∙ writes in
    sym (value_written (event_in as' k p) writes) ∙ ap (λ (f : Event). f.value) same ∙ value_written (event_in bs k p) writes_too

source_alike : (init : List ℕ) (as' bs : List ThreadRun) (r : Event) (d : ℕ) → outlines as' ≡ outlines bs → writings as' ≡ writings bs → d < count_sources as' r
    → write_value init as' (source_at as' r d) ≡ write_value init bs (source_at bs r d)
source_alike init as' bs r d o e l =
    let w = source_at as' r d in
    let listed = in_sources init as' w r.loc (in_get_or (sources as' r.loc) d (Initial 0) l) in
    value_alike init as' bs w r.loc (write_value init as' w) e listed
    ∙ ap (λ (ws : List EventId). write_value init bs (get_or (Initial r.loc ∷ ws) d (Initial 0))) (later_same as' bs o r.loc)

suitable_alike : (init : List ℕ) (as' bs : List ThreadRun) (r : Event) (f : Suitable) → outlines as' ≡ outlines bs → writings as' ≡ writings bs → AreSuitable init as' r f → AreSuitable init bs r f
suitable_alike init as' bs r f o e h =
    let n : count_sources as' r ≡ count_sources bs r = ap (λ (ws : List EventId). suc (length ws)) (later_same as' bs o r.loc) in
    record {
      within = omega (arith, h.within, n);
      none = λ d a b. ap (λ v. v == r.value) (sym (source_alike init as' bs r d o e (omega (arith, b, h.within)))) ∙ h.none d a b;
      found = λ l. (let m : f.first < count_sources as' r = omega (arith, l, n) in sym (source_alike init as' bs r f.first o e m) ∙ h.found m);
      later = λ l. h.later (omega (arith, l, n));
      most = omega (arith, h.most, n);
      between = λ d a b. ap (λ v. v == r.value) (sym (source_alike init as' bs r d o e (omega (arith, b, h.most)))) ∙ h.between d a b;
    }

reads_joined : (as' bs : List ThreadRun) → reads (as' ++ bs) ≡ reads as' ++ reads bs
reads_joined [] bs = refl
reads_joined (run ∷ as') bs =
    let first = filter (λ e. is_read e.access) run.events in
    ap (λ (es : List Event). first ++ es) (reads_joined as' bs) ∙ sym (append_assoc first (reads as') (reads bs))

-- the reads of the first runs and of the others
pub reads_split : (runs : List ThreadRun) (k : ℕ) → reads (take k runs) ++ reads (drop k runs) ≡ reads runs
reads_split runs k = sym (reads_joined (take k runs) (drop k runs)) ∙ ap reads (take-append-drop k runs)

pub reads_counted : (runs : List ThreadRun) (k : ℕ) → length (reads (take k runs)) + length (reads (drop k runs)) ≡ length (reads runs)
reads_counted runs k = sym (length-append (reads (take k runs)) (reads (drop k runs))) ∙ ap (λ (es : List Event). length es) (reads_split runs k)

-- the reads of the run at place i, and of those behind it
pub reads_dropped : (runs : List ThreadRun) (i : ℕ) (run : ThreadRun) → i < length runs → run ≡ get_or runs i run → length (reads (drop i runs)) ≡ length (filter (λ e. is_read e.access) run.events) + length (reads (drop (i + 1) runs))
reads_dropped runs i run l is =
    ap (λ (rs : List ThreadRun). length (reads rs)) (drop-cons runs i run l ∙ ap (λ (x : ThreadRun). x ∷ drop (suc i) runs) (sym is))
    ∙ length-append (filter (λ e. is_read e.access) run.events) (reads (drop (suc i) runs))
    ∙ ap (λ n. length (filter (λ e. is_read e.access) run.events) + length (reads (drop n runs))) (let s : suc i ≡ i + 1 = omega arith in s)

read_first : (runs : List ThreadRun) (k i : ℕ) (r : Event) → i < length (reads (take k runs)) → get_or (reads runs) i r ≡ get_or (reads (take k runs)) i r
read_first runs k i r l = ap (λ (es : List Event). get_or es i r) (sym (reads_split runs k)) ∙ get_or_append_left (reads (take k runs)) (reads (drop k runs)) r i l

-- Where the first runs stay, their reads are the first that were there.
pub reads_stay : (before runs : List ThreadRun) (k n : ℕ) → take k runs ≡ take k before → n ≡ length (reads (take k runs)) → take n (reads before) ≡ reads (take k runs)
reads_stay before runs k n same is =
    let first = reads (take k before) in
    ap (λ m. take m (reads before)) (is ∙ ap (λ (rs : List ThreadRun). length (reads rs)) same)
    ∙ ap (take (length first)) (sym (reads_split before k)) ∙ take-append_seam first (reads (drop k before)) ∙ ap reads (sym same)

-- What no read fits is known.
pub suited_none : (init : List ℕ) (runs : List ThreadRun) (rs : List Event) (fs : List Suitable) → HaveSuitable init runs rs fs 0
suited_none init runs rs fs = record { reads = omega arith; fits = omega arith; are = λ i r f l. absurd (omega (arith, l)) }

-- What the reads of the first runs fit stays.
pub suited_alike : (init : List ℕ) (before runs : List ThreadRun) (fs : List Suitable) (k known : ℕ) → outlines runs ≡ outlines before → writings runs ≡ writings before → take k runs ≡ take k before → known ≡ length (reads (take k runs))
    → HaveSuitable init before (reads before) fs (length (reads before)) → HaveSuitable init runs (reads runs) fs known
suited_alike init before runs fs k known o e same is h =
    let was : known ≡ length (reads (take k before)) = is ∙ ap (λ (rs : List ThreadRun). length (reads rs)) same in
    let few = reads_counted before k in
    record {
      reads = (let n = reads_counted runs k in omega (arith, is, n));
      fits = omega (arith, was, few, h.fits);
      are = λ i r f l. (let read : get_or (reads before) i r ≡ get_or (reads runs) i r =
          read_first before k i r (omega (arith, l, was)) ∙ ap (λ (rs : List ThreadRun). get_or (reads rs) i r) (sym same) ∙ sym (read_first runs k i r (omega (arith, l, is))) in
          let P : Event → Type 0 = λ x. AreSuitable init runs x (get_or fs i f) in
          subst P read (suitable_alike init before runs (get_or (reads before) i r) (get_or fs i f) (sym o) (sym e) (h.are i r f (omega (arith, l, was, few)))));
    }
