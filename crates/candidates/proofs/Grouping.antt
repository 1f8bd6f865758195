-- The candidates are counted by how often the runs read and write each location.
use Rattle.std.proofs.Common.{◌≡◌, ℕ, zero, suc, ◌+◌, ◌-◌, ◌*◌, ◌^◌, ◌<◌, ◌≤◌, List, [], ◌∷◌, ◌++◌, append-nil, map, length, take, drop, get_or, refl, sym, ◌∙◌, ap, subst, inl, inr, arith, Bool, cond}
use Rattle.std.specs.List.{flat_map, sum_by, count_by, All}
use Rattle.std.proofs.lemmas.List.{map-append, take_all}
use Rattle.std.proofs.lemmas.List.Concat.{flat_map-append}
use Rattle.std.proofs.lemmas.List.Sums.{sum_by-append, sum_by-cons, count_by-le-length}
use Rattle.std.proofs.lemmas.List.Elements.{All-nil, All-cons, All-head, All-tail, All-push}
use Rattle.std.proofs.lemmas.Bool.{cases_lt}
use Rattle.events.specs.declared.event.Event.{Event}
use Rattle.events.specs.Executions.{ThreadRun, writes_to, empty_run}
use Rattle.listings.specs.Lists.{IsIn, product_by, sum_of, tabulate, factorial}
use Rattle.listings.proofs.Listings.{in_get_or, place_of, in_left, in_right, in_map, map_in, flat_map_in}
use Rattle.candidates.specs.declared.counts.Counts.{Counts}
use Rattle.candidates.specs.Executions.{block, upto}
use Rattle.candidates.specs.Bounds.{reads_from, AreWithin}
use Rattle.candidates.specs.Groups.{counts_of, tally_of, plus, sum_tally, ways_of, size_by, sizes_of, IsSmall, HasRoom, spread, ArePlaces}
use Rattle.candidates.specs.Parts.{behind, AreAllWithin, AreShort}
use Rattle.candidates.proofs.ByLocation.{writes_at, ways_at, by_location, product_same}
use Rattle.candidates.proofs.Steps.{sum_flat, behind_step, behind_end}
use Rattle.candidates.proofs.Adding.{row_next}

-- the events of some runs
abbrev pub events_of : List ThreadRun → List Event
events_of runs = flat_map (λ run. run.events) runs

abbrev pub tallies_of : ℕ → List ThreadRun → List (List Counts)
tallies_of n runs = map (λ run. tally_of n run.events) runs

sum_counts : (n : ℕ) (f g h : ℕ → Counts) → ((x : ℕ) → h x ≡ plus (f x) (g x)) → tabulate n h ≡ sum_tally (tabulate n f) (tabulate n g)
sum_counts zero f g h e = refl
sum_counts (suc n) f g h e =
    ap (λ (c : Counts). c ∷ tabulate n (λ i. h (suc i))) (e 0)
    ∙ ap (λ (cs : List Counts). plus (f 0) (g 0) ∷ cs) (sum_counts n (λ i. f (suc i)) (λ i. g (suc i)) (λ i. h (suc i)) (λ x. e (suc x)))

counts_append : (es fs : List Event) (x : ℕ) → counts_of (es ++ fs) x ≡ plus (counts_of es x) (counts_of fs x)
counts_append es fs x =
    let C : ℕ → ℕ → Counts = λ r w. record { reads = r; writes = w } in
    ap (λ r. C r (count_by (writes_to x) (es ++ fs))) (sum_by-append (λ e. cond (reads_from x e) 1 0) es fs)
    ∙ ap (λ w. C (count_by (reads_from x) es + count_by (reads_from x) fs) w) (sum_by-append (λ e. cond (writes_to x e) 1 0) es fs)

pub tally_append : (n : ℕ) (es fs : List Event) → tally_of n (es ++ fs) ≡ sum_tally (tally_of n es) (tally_of n fs)
tally_append n es fs = sum_counts n (counts_of es) (counts_of fs) (counts_of (es ++ fs)) (counts_append es fs)

pub events_more : (chosen : List ThreadRun) (run : ThreadRun) → events_of (chosen ++ run ∷ []) ≡ events_of chosen ++ run.events
events_more chosen run = flat_map-append (λ (r : ThreadRun). r.events) chosen (run ∷ []) ∙ ap (λ (es : List Event). events_of chosen ++ es) (append-nil run.events)

pub tally_more : (n : ℕ) (chosen : List ThreadRun) (run : ThreadRun) → sum_tally (tally_of n (events_of chosen)) (tally_of n run.events) ≡ tally_of n (events_of (chosen ++ run ∷ []))
tally_more n chosen run = sym (ap (tally_of n) (events_more chosen run) ∙ tally_append n (events_of chosen) run.events)

count_flat : (p : Event → Bool) (runs : List ThreadRun) → count_by p (events_of runs) ≡ sum_by (λ run. count_by p run.events) runs
count_flat p [] = refl
count_flat p (run ∷ runs) =
    sum_by-append (λ e. cond (p e) 1 0) run.events (events_of runs)
    ∙ ap (λ n. count_by p run.events + n) (count_flat p runs)
    ∙ sym (sum_by-cons (λ (r : ThreadRun). count_by p r.events) run runs)

ways_are : (runs : List ThreadRun) (x : ℕ) → ways_of (counts_of (events_of runs) x) ≡ ways_at runs x
ways_are runs x =
    ap (λ w. (w + 1) ^ count_by (reads_from x) (events_of runs) * factorial w) (count_flat (writes_to x) runs)
    ∙ ap (λ r. (writes_at runs x + 1) ^ r * factorial (writes_at runs x)) (count_flat (reads_from x) runs)

product_tabulate : {X : Type 0} (f : X → ℕ) (c : ℕ → X) (n : ℕ) (g : ℕ → ℕ) → product_by f (tabulate n (λ i. c (g i))) ≡ product_by (λ x. f (c x)) (tabulate n g)
product_tabulate f c zero g = refl
product_tabulate f c (suc n) g = ap (λ k. f (c (g 0)) * k) (product_tabulate f c n (λ i. g (suc i)))

pub block_by : (n : ℕ) (runs : List ThreadRun) → AreWithin n runs → product_by ways_of (tally_of n (events_of runs)) ≡ block n runs
block_by n runs w =
    product_tabulate ways_of (counts_of (events_of runs)) n (λ i. i)
    ∙ product_same (λ x. ways_of (counts_of (events_of runs) x)) (ways_at runs) (ways_are runs) (upto n)
    ∙ sym (by_location n runs w.places)

pub sum_map : {A B : Type 0} (f : B → ℕ) (g : A → B) (xs : List A) → sum_of f (map g xs) ≡ sum_of (λ x. f (g x)) xs
sum_map f g [] = refl
sum_map f g (x ∷ xs) = ap (λ n. f (g x) + n) (sum_map f g xs)

sum_each : {A : Type 0} (f g : A → ℕ) (xs : List A) → ((x : A) → IsIn x xs → f x ≡ g x) → sum_of f xs ≡ sum_of g xs
sum_each f g [] e = refl
sum_each f g (x ∷ xs) e = ap (λ n. n + sum_of f xs) (e x (inl refl)) ∙ ap (λ n. g x + n) (sum_each f g xs (λ y h. e y (inr h)))

pub within_run : (n : ℕ) (chosen runs : List ThreadRun) (rest : List (List ThreadRun)) (run : ThreadRun) → IsIn run runs → AreAllWithin n (behind chosen (runs ∷ rest)) → AreAllWithin n (behind (chosen ++ run ∷ []) rest)
within_run n chosen runs rest run m w c h =
    let P : List (List ThreadRun) → Type 0 = λ row. IsIn c row in
    w c (subst P (sym (behind_step chosen runs rest)) (flat_map_in (λ r. behind (chosen ++ r ∷ []) rest) runs run c m h))

-- What is counted by the tallies are the candidates behind the chosen runs.
pub counted : (n : ℕ) (threads : List (List ThreadRun)) (chosen : List ThreadRun) → AreAllWithin n (behind chosen threads) → size_by (tally_of n (events_of chosen)) (map (tallies_of n) threads) ≡ sum_of (block n) (behind chosen threads)
counted n [] chosen w =
    let P : List (List ThreadRun) → Type 0 = λ row. IsIn chosen row in
    block_by n chosen (w chosen (subst P (sym (behind_end chosen)) (inl refl)))
    ∙ (let e : block n chosen ≡ sum_of (block n) (chosen ∷ []) = omega arith in e)
    ∙ ap (sum_of (block n)) (sym (behind_end chosen))
counted n (runs ∷ rest) chosen w =
    sum_map (λ t. size_by (sum_tally (tally_of n (events_of chosen)) t) (map (tallies_of n) rest)) (λ (run : ThreadRun). tally_of n run.events) runs
    ∙ sum_each (λ (run : ThreadRun). size_by (sum_tally (tally_of n (events_of chosen)) (tally_of n run.events)) (map (tallies_of n) rest)) (λ run. sum_of (block n) (behind (chosen ++ run ∷ []) rest)) runs
    (λ run m. ap (λ t. size_by t (map (tallies_of n) rest)) (tally_more n chosen run) ∙ counted n rest (chosen ++ run ∷ []) (within_run n chosen runs rest run m w))
    ∙ sym (sum_flat (block n) (λ run. behind (chosen ++ run ∷ []) rest) runs)
    ∙ ap (sum_of (block n)) (sym (behind_step chosen runs rest))

-- at most so many reads and writes of each location
abbrev pub IsBelow : ℕ → Counts → Type 0
IsBelow m c = (c.reads ≤ m) × (c.writes ≤ m)

each_small : (m : ℕ) (tally : List Counts) → m ≤ 512 → All (IsBelow m) tally → IsSmall tally
each_small m tally l h k d b = (let p = h k d b in (omega (arith, p.0, l), omega (arith, p.1, l)))

below_tabulate : (m n : ℕ) (f : ℕ → Counts) → ((x : ℕ) → IsBelow m (f x)) → All (IsBelow m) (tabulate n f)
below_tabulate m zero f h = All-nil (IsBelow m)
below_tabulate m (suc n) f h = All-cons (IsBelow m) (f 0) (tabulate n (λ i. f (suc i))) (h 0) (below_tabulate m n (λ i. f (suc i)) (λ x. h (suc x)))

below_length : (m n : ℕ) (es : List Event) → length es ≤ m → All (IsBelow m) (tally_of n es)
below_length m n es l = below_tabulate m n (counts_of es) (λ x. (omega (arith, l, count_by-le-length (reads_from x) es), omega (arith, l, count_by-le-length (writes_to x) es)))

below_sum : (m k : ℕ) (as' bs : List Counts) → All (IsBelow m) as' → All (IsBelow k) bs → All (IsBelow (m + k)) (sum_tally as' bs)
below_sum m k [] bs p q = All-nil (IsBelow (m + k))
below_sum m k (a ∷ as') [] p q = All-nil (IsBelow (m + k))
below_sum m k (a ∷ as') (b ∷ bs) p q =
    let l = All-head (IsBelow m) a as' p in
    let r = All-head (IsBelow k) b bs q in
    All-cons (IsBelow (m + k)) (plus a b) (sum_tally as' bs) (omega (arith, l.0, r.0), omega (arith, l.1, r.1)) (below_sum m k as' bs (All-tail (IsBelow m) a as' p) (All-tail (IsBelow k) b bs q))

room_behind : (n m : ℕ) (threads : List (List ThreadRun)) (tally : List Counts) → m + 64 * length threads ≤ 512 → ((runs : List ThreadRun) (run : ThreadRun) → IsIn runs threads → IsIn run runs → length run.events ≤ 64) → All (IsBelow m) tally → HasRoom tally (map (tallies_of n) threads)
room_behind n m [] tally l short h = each_small m tally (omega (arith, l)) h
room_behind n m (runs ∷ rest) tally l short h = (
  each_small m tally (omega (arith, l)) h,
  λ t i. (let f = in_map (λ (run : ThreadRun). tally_of n run.events) runs t i in
      let P : List Counts → Type 0 = λ u. HasRoom (sum_tally tally u) (map (tallies_of n) rest) in
      subst P f.2 (room_behind n (m + 64) rest (sum_tally tally (tally_of n f.0.events)) (omega (arith, l)) (λ rs r p q. short rs r (inr p) q)
      (below_sum m 64 tally (tally_of n f.0.events) h (below_length 64 n f.0.events (short runs f.0 (inl refl) f.1))))),
)

pub has_room : (n : ℕ) (threads : List (List ThreadRun)) → AreShort threads → HasRoom (tally_of n []) (map (tallies_of n) threads)
has_room n threads h = room_behind n 0 threads (tally_of n []) (omega (arith, h.few)) h.short (below_length 0 n [] (omega arith))

-- Groups and the places of the runs in them.
get_more : (tallies : List (List Counts)) (t : List Counts) (p : ℕ) → p < length tallies → get_or (tallies ++ t ∷ []) p [] ≡ get_or tallies p []
get_more [] t p l = absurd (omega (arith, l))
get_more (u ∷ us) t zero l = refl
get_more (u ∷ us) t (suc p) l = get_more us t p (omega (arith, l))

get_last : (tallies : List (List Counts)) (t : List Counts) → get_or (tallies ++ t ∷ []) (length tallies) [] ≡ t
get_last [] t = refl
get_last (u ∷ us) t = get_last us t

length_more : (tallies : List (List Counts)) (t : List Counts) → length (tallies ++ t ∷ []) ≡ length tallies + 1
length_more [] t = omega arith
length_more (u ∷ us) t = omega (arith, length_more us t)

abbrev pub IsPlace : List (List Counts) → ℕ → Type 0
IsPlace tallies p = p < length tallies

spread_more : (tallies : List (List Counts)) (t : List Counts) (places : List ℕ) → All (IsPlace tallies) places → spread (tallies ++ t ∷ []) places ≡ spread tallies places
spread_more tallies t [] h = refl
spread_more tallies t (p ∷ ps) h =
    ap (λ (u : List Counts). u ∷ spread (tallies ++ t ∷ []) ps) (get_more tallies t p (All-head (IsPlace tallies) p ps h))
    ∙ ap (λ (us : List (List Counts)). get_or tallies p [] ∷ us) (spread_more tallies t ps (All-tail (IsPlace tallies) p ps h))

-- one run more, of a group that is there
pub known_group : (tallies : List (List Counts)) (places more : List ℕ) (p : ℕ) (t : List Counts) → ArePlaces tallies places → p < length tallies → get_or tallies p [] ≡ t → more ≡ places ++ p ∷ [] → ArePlaces tallies more × (spread tallies more ≡ spread tallies places ++ t ∷ [])
known_group tallies places more p t h l e is =
    let P : List ℕ → Type 0 = λ ps. ArePlaces tallies ps × (spread tallies ps ≡ spread tallies places ++ t ∷ []) in
    subst P (sym is) (
      record { within = All-push (IsPlace tallies) places p h.within l; used = λ q m. in_left places (p ∷ []) q (h.used q m) },
      map-append (λ q. get_or tallies q []) places (p ∷ []) ∙ ap (λ (u : List Counts). spread tallies places ++ u ∷ []) e,
    )

-- one run more, the first of its group
pub fresh_group : (tallies grown : List (List Counts)) (places more : List ℕ) (p : ℕ) (t : List Counts) → ArePlaces tallies places → p ≡ length tallies → grown ≡ tallies ++ t ∷ [] → more ≡ places ++ p ∷ [] → ArePlaces grown more × (spread grown more ≡ spread tallies places ++ t ∷ [])
fresh_group tallies grown places more p t h l g is =
    let n = length tallies in
    let ts = tallies ++ t ∷ [] in
    let P : List (List Counts) → List ℕ → Type 0 = λ us ps. ArePlaces us ps × (spread us ps ≡ spread tallies places ++ t ∷ []) in
    let Q : List ℕ → Type 0 = P grown in
    let R : List (List Counts) → Type 0 = λ us. P us (places ++ n ∷ []) in
    let same : places ++ n ∷ [] ≡ more = ap (λ (q : ℕ). places ++ q ∷ []) (sym l) ∙ sym is in
    subst Q same (subst R (sym g) (
      record {
        within = All-push (IsPlace ts) places n (λ k d b. omega (arith, h.within k d b, length_more tallies t)) (omega (arith, length_more tallies t));
        used = λ q m. elim (cases_lt q n) [
          | inl b ↦ in_left places (n ∷ []) q (h.used q b)
          | inr b ↦ in_right places (n ∷ []) q (inl (let e : q ≡ n = omega (arith, m, b, length_more tallies t) in e))
        ];
      },
      map-append (λ q. get_or ts q []) places (n ∷ []) ∙ ap (λ us. us ++ get_or ts n [] ∷ []) (spread_more tallies t places h.within) ∙ ap (λ (u : List Counts). spread tallies places ++ u ∷ []) (get_last tallies t),
    ))

get_map : (f : List Counts → ℕ) (ts : List (List Counts)) (p : ℕ) → p < length ts → get_or (map f ts) p 0 ≡ f (get_or ts p [])
get_map f [] p l = absurd (omega (arith, l))
get_map f (t ∷ ts) zero l = refl
get_map f (t ∷ ts) (suc p) l = get_map f ts p (omega (arith, l))

spread_sizes : (f : List Counts → ℕ) (tallies : List (List Counts)) (places : List ℕ) → All (IsPlace tallies) places → map (λ p. get_or (map f tallies) p 0) places ≡ map f (spread tallies places)
spread_sizes f tallies [] h = refl
spread_sizes f tallies (p ∷ ps) h =
    ap (λ (k : ℕ). k ∷ map (λ q. get_or (map f tallies) q 0) ps) (get_map f tallies p (All-head (IsPlace tallies) p ps h))
    ∙ ap (λ (ks : List ℕ). f (get_or tallies p []) ∷ ks) (spread_sizes f tallies ps (All-tail (IsPlace tallies) p ps h))

pub placed_sizes : (tally : List Counts) (tallies ts : List (List Counts)) (places sizes : List ℕ) (rest : List (List (List Counts))) (all : List ℕ) → ArePlaces tallies places → spread tallies places ≡ ts → sizes ≡ sizes_of tally tallies rest → all ≡ map (λ p. get_or sizes p 0) places → all ≡ sizes_of tally ts rest
placed_sizes tally tallies ts places sizes rest all h s e a =
    a ∙ ap (λ (ks : List ℕ). map (λ p. get_or ks p 0) places) e
    ∙ spread_sizes (λ t. size_by (sum_tally tally t) rest) tallies places h.within
    ∙ ap (λ us. sizes_of tally us rest) s

pub length_mapped : {A B : Type 0} (f : A → B) (xs : List A) → length (map f xs) ≡ length xs
length_mapped f [] = refl
length_mapped f (x ∷ xs) = ap (λ n. suc n) (length_mapped f xs)

-- The places are those of the sizes.
pub placed_within : (tally : List Counts) (tallies : List (List Counts)) (places sizes : List ℕ) (rest : List (List (List Counts))) → ArePlaces tallies places → sizes ≡ sizes_of tally tallies rest → All (λ p. p < length sizes) places
placed_within tally tallies places sizes rest h e k d b =
    let l = ap (λ (ks : List ℕ). length ks) e ∙ length_mapped (λ t. size_by (sum_tally tally t) rest) tallies in
    omega (arith, h.within k d b, l)

member_sum : {A : Type 0} (f : A → ℕ) (xs : List A) (x : A) → IsIn x xs → f x ≤ sum_of f xs
member_sum f [] x h = absurd h
member_sum f (y ∷ ys) x h = elim h [
  | inl e ↦ (let g = ap f e in omega (arith, g))
  | inr m ↦ omega (arith, member_sum f ys x m)
]

in_spread : (tallies : List (List Counts)) (places : List ℕ) (t : List Counts) → ArePlaces tallies places → IsIn t tallies → IsIn t (spread tallies places)
in_spread tallies places t h m =
    let q = place_of tallies [] t m in
    let P : List Counts → Type 0 = λ u. IsIn u (spread tallies places) in
    subst P q.2 (map_in (λ p. get_or tallies p []) places q.0 (h.used q.0 q.1))

pub in_row : {A : Type 0} (xs : List A) (i : ℕ) (x : A) → i < length xs → x ≡ get_or xs i x → IsIn x xs
in_row {A = A} xs i x l e =
    let P : A → Type 0 = λ y. IsIn y xs in
    subst P (sym e) (in_get_or xs i x l)

pub front_rest : {A : Type 0} (xs : List A) (x : A) → 1 ≤ length xs → x ≡ get_or xs 0 x → x ∷ take (length xs - 1) (drop 1 xs) ≡ xs
front_rest [] x l e = absurd (omega (arith, l))
front_rest {A = A} (y ∷ ys) x l e =
    let h : x ≡ y = e in
    ap (λ (z : A). z ∷ take (length (y ∷ ys) - 1) ys) h ∙ ap (λ (zs : List A). y ∷ zs) (take_all (length (y ∷ ys) - 1) ys (omega arith))

-- Where a group has too many, the runs have.
pub one_above : (tally : List Counts) (tallies ts : List (List Counts)) (places : List ℕ) (rest : List (List (List Counts))) (limit : ℕ) → ArePlaces tallies places → spread tallies places ≡ ts → (t : List Counts) × IsIn t tallies × (limit < size_by (sum_tally tally t) rest) → limit < size_by tally (ts ∷ rest)
one_above tally tallies ts places rest limit h s o =
    let P : List (List Counts) → Type 0 = λ us. limit < size_by tally (us ∷ rest) in
    let g : limit < sum_of (λ t. size_by (sum_tally tally t) rest) (spread tallies places) =
    omega (arith, o.2, member_sum (λ t. size_by (sum_tally tally t) rest) (spread tallies places) o.0 (in_spread tallies places o.0 h o.1)) in
    subst P s g

pub room_of_groups : (tally : List Counts) (tallies ts : List (List Counts)) (places : List ℕ) (rest : List (List (List Counts))) → ArePlaces tallies places → spread tallies places ≡ ts → ((t : List Counts) → IsIn t ts → HasRoom (sum_tally tally t) rest) → (t : List Counts) → IsIn t tallies → HasRoom (sum_tally tally t) rest
room_of_groups tally tallies ts places rest h s room t m =
    let P : List (List Counts) → Type 0 = λ us. IsIn t us in
    room t (subst P s (in_spread tallies places t h m))

pub room_small : (tally : List Counts) (rest : List (List (List Counts))) → HasRoom tally rest → IsSmall tally
room_small tally [] h = h
room_small tally (ts ∷ rest) h = h.0

pub sum_sizes : (tally : List Counts) (ts : List (List Counts)) (rest : List (List (List Counts))) (sizes : List ℕ) → sizes ≡ sizes_of tally ts rest → sum_of (λ n. n) sizes ≡ size_by tally (ts ∷ rest)
sum_sizes tally ts rest sizes e = ap (sum_of (λ n. n)) e ∙ sum_map (λ n. n) (λ t. size_by (sum_tally tally t) rest) ts

-- One run more is in its group.
pub grouped_on : (n : ℕ) (runs : List ThreadRun) (i : ℕ) (tallies grown : List (List Counts)) (places more : List ℕ) (t : List Counts) → i < length runs → t ≡ tally_of n (get_or runs i empty_run).events → ArePlaces grown more × (spread grown more ≡ spread tallies places ++ t ∷ []) → spread tallies places ++ map (λ run. tally_of n run.events) (drop i runs) ≡ map (λ run. tally_of n run.events) runs → ArePlaces grown more × (spread grown more ++ map (λ run. tally_of n run.events) (drop (i + 1) runs) ≡ map (λ run. tally_of n run.events) runs)
grouped_on n runs i tallies grown places more t l e k h =
    (k.0, row_next (λ (run : ThreadRun). tally_of n run.events) runs i empty_run (spread tallies places) (spread grown more) t l e k.1 h)
