-- The later writes of each location, in a list.
use Rattle.std.proofs.Common.{◌≡◌, ℕ, zero, suc, ◌+◌, ◌*◌, ◌<◌, ◌≤◌, ◌/◌, ◌%◌, List, [], ◌∷◌, ◌++◌, length, map, get_or, drop, append_assoc, append-nil, refl, sym, ◌∙◌, ap, subst, arith}
use Rattle.std.proofs.lemmas.List.{drop_all, get_or_default, length-map}
use Rattle.std.proofs.lemmas.List.Elements.{All-head, All-tail}
use Rattle.std.specs.List.{All}
use Rattle.events.specs.declared.event.Event.{Event}
use Rattle.events.specs.declared.event.EventId.{EventId}
use Rattle.events.specs.declared.event.EventId.TheVariants.{Initial}
use Rattle.events.specs.Executions.{ThreadRun}
use Rattle.listings.specs.Lists.{product_by}
use Rattle.candidates.specs.Executions.{later_writes, reads, upto}
use Rattle.candidates.specs.Candidates.{count_co, count_orders, count_sources, source_at}
use Rattle.candidates.specs.Bounds.{AreWithin}
use Rattle.candidates.specs.Readings.{IsPage, orders_among, sources_among}
use Rattle.candidates.specs.declared.page.Page.{Page}
use Rattle.candidates.proofs.Caps.{drop_upto, length_tabulate, get_or_tabulate, below_upto}
use Rattle.candidates.proofs.Graphs.{IsAt, reads_at_locations}

-- One value more of those of the numbers below n, and all of them.
pub next_of : {X : Type 0} (f : ℕ → X) (n i : ℕ) (done more : List X) (x : X) (all : List X) → i < n → x ≡ f i → more ≡ done ++ x ∷ [] → done ++ map f (drop i (upto n)) ≡ all → more ++ map f (drop (i + 1) (upto n)) ≡ all
next_of {X} f n i done more x all l e grown whole =
    let rest = map f (drop (i + 1) (upto n)) in
    ap (λ (ls : List X). ls ++ rest) grown ∙ append_assoc done (x ∷ []) rest
    ∙ ap (λ (y : X). done ++ y ∷ rest) e
    ∙ ap (λ ks. done ++ map f ks) (sym (drop_upto n i l)) ∙ whole

pub all_of : {X : Type 0} (f : ℕ → X) (n i : ℕ) (done : List X) → n ≤ i → done ++ map f (drop i (upto n)) ≡ map f (upto n) → done ≡ map f (upto n)
all_of f n i done l e =
    let m : length (upto n) ≤ i = rw (length_tabulate n (λ k. k)) l in
    sym (append-nil done) ∙ ap (λ ks. done ++ map f ks) (sym (drop_all i (upto n) m)) ∙ e

get_map : {A X : Type 0} (f : A → X) (as' : List A) (i : ℕ) (d : A) (e : X) → i < length as' → get_or (map f as') i e ≡ f (get_or as' i d)
get_map f [] i d e l = absurd (omega (arith, l))
get_map f (a ∷ rest) zero d e l = refl
get_map f (a ∷ rest) (suc i) d e l = get_map f rest i d e (omega (arith, l))

-- The list at a location's place is that of its later writes.
pub written_at : (runs : List ThreadRun) (n x : ℕ) (lists : List (List EventId)) → lists ≡ map (later_writes runs) (upto n) → x < n → (x < length lists) × (get_or lists x [] ≡ later_writes runs x)
written_at runs n x lists e l =
    let P : List (List EventId) → Type 0 = λ ls. (x < length ls) × (get_or ls x [] ≡ later_writes runs x) in
    let b : x < length (upto n) = below_upto x n l in
    subst P (sym e) (
      omega (arith, b, length-map (upto n) (later_writes runs)),
      get_map (later_writes runs) (upto n) x 0 [] b ∙ ap (later_writes runs) (get_or_tabulate n (λ k. k) x 0 l),
    )

-- A read is at one of the locations.
pub placed : (n : ℕ) (runs : List ThreadRun) (rs : List Event) (i : ℕ) (r : Event) → AreWithin n runs → rs ≡ reads runs → i < length rs → r ≡ get_or rs i r → r.loc < n
placed n runs rs i r w e l is =
    let P : List Event → Type 0 = All (IsAt n) in
    let h : All (IsAt n) rs = subst P (sym e) (reads_at_locations n runs w.places) in
    let Q : Event → Type 0 = IsAt n in
    subst Q (sym is) (h i r l)

-- What a read picks from its location's later writes is what it picks from the runs.
pub picked : (runs : List ThreadRun) (r : Event) (later : List EventId) (number ways : ℕ) (w : EventId) (rest below : ℕ) → later ≡ later_writes runs r.loc → w ≡ get_or (Initial r.loc ∷ later) (number / (ways / suc (length later))) (Initial 0) → rest ≡ number % (ways / suc (length later)) → below ≡ ways / suc (length later) → (w ≡ source_at runs r (number / (ways / count_sources runs r))) × (rest ≡ number % (ways / count_sources runs r)) × (below ≡ ways / count_sources runs r)
picked runs r later number ways w rest below e a b c =
    let P : List EventId → Type 0 = λ l. (w ≡ get_or (Initial r.loc ∷ l) (number / (ways / suc (length l))) (Initial 0)) × (rest ≡ number % (ways / suc (length l))) × (below ≡ ways / suc (length l)) in
    subst P e (a, b, c)

pub pickable : (runs : List ThreadRun) (r : Event) (later : List EventId) (number ways : ℕ) → later ≡ later_writes runs r.loc → (1 ≤ ways / count_sources runs r) × (number / (ways / count_sources runs r) < count_sources runs r) → (1 ≤ ways / suc (length later)) × (number / (ways / suc (length later)) < suc (length later))
pickable runs r later number ways e h =
    let P : List EventId → Type 0 = λ l. (1 ≤ ways / suc (length l)) × (number / (ways / suc (length l)) < suc (length l)) in
    subst P (sym e) h

-- The page of some locations has a list of writes for each.
pub by_writes : (n : ℕ) (p : Page) → IsPage n p → IsPage (length p.writes.items) p
by_writes n p h =
    let e : length p.writes.items ≡ n = ap (λ (ls : List (List EventId)). length ls) h.writes_are ∙ length-map (upto n) (later_writes p.runs.items) ∙ length_tabulate n (λ i. i) in
    let P : ℕ → Type 0 = λ m. IsPage m p in
    subst P (sym e) h

-- A read may read from one write more than its location has later ones.
pub sources_there : (writes : List (List EventId)) (rs : List Event) (i : ℕ) (r : Event) (listed later : List EventId) → All (λ r. r.loc < length writes) rs → i < length rs → r ≡ get_or rs i r → listed ≡ get_or writes r.loc listed → later ≡ listed → length later + 1 ≡ sources_among writes (get_or rs i r)
sources_there writes rs i r listed later w l is at e =
    let P : Event → Type 0 = λ r. r.loc < length writes in
    let m : r.loc < length writes = subst P (sym is) (w i r l) in
    let d = ap (λ (ws : List EventId). length ws) (e ∙ at ∙ get_or_default writes r.loc listed [] m) in
    let f : length later + 1 ≡ sources_among writes r = omega (arith, d) in
    f ∙ ap (sources_among writes) is

-- The lists stand for all locations of the reads, and count the ways to read and the orders of the runs.
pub reads_listed : (n : ℕ) (runs : List ThreadRun) (rs : List Event) (writes : List (List EventId)) → AreWithin n runs → rs ≡ reads runs → writes ≡ map (later_writes runs) (upto n) → All (λ r. r.loc < length writes) rs
reads_listed n runs rs writes w e f =
    let many : n ≡ length writes = sym (ap (λ (ls : List (List EventId)). length ls) f ∙ length-map (upto n) (later_writes runs) ∙ length_tabulate n (λ i. i)) in
    let P : List Event → Type 0 = All (IsAt n) in
    let Q : ℕ → Type 0 = λ m. All (IsAt m) rs in
    subst Q many (subst P (sym e) (reads_at_locations n runs w.places))

each_source : (n : ℕ) (runs : List ThreadRun) (rs : List Event) (writes : List (List EventId)) → writes ≡ map (later_writes runs) (upto n) → All (IsAt n) rs → product_by (sources_among writes) rs ≡ product_by (count_sources runs) rs
each_source n runs [] writes f h = refl
each_source n runs (r ∷ rs) writes f h =
    ap (λ (later : List EventId). suc (length later) * product_by (sources_among writes) rs) (written_at runs n r.loc writes f (All-head (IsAt n) r rs h)).1
    ∙ ap (λ k. count_sources runs r * k) (each_source n runs rs writes f (All-tail (IsAt n) r rs h))

pub ways_listed : (n : ℕ) (runs : List ThreadRun) (rs : List Event) (writes : List (List EventId)) → AreWithin n runs → rs ≡ reads runs → writes ≡ map (later_writes runs) (upto n) → product_by (sources_among writes) rs ≡ product_by (count_sources runs) (reads runs)
ways_listed n runs rs writes w e f = ap (product_by (sources_among writes)) e ∙ each_source n runs (reads runs) writes f (reads_at_locations n runs w.places)

each_order : (runs : List ThreadRun) (xs : List ℕ) → product_by orders_among (map (later_writes runs) xs) ≡ product_by (count_orders runs) xs
each_order runs [] = refl
each_order runs (x ∷ xs) = ap (λ k. count_orders runs x * k) (each_order runs xs)

pub orders_listed : (n : ℕ) (runs : List ThreadRun) (writes : List (List EventId)) → writes ≡ map (later_writes runs) (upto n) → product_by orders_among writes ≡ count_co n runs
orders_listed n runs writes f = ap (product_by orders_among) f ∙ each_order runs (upto n)
