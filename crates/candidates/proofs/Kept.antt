-- What is kept of the threads on the way down.
use Rattle.std.proofs.Common.{◌≡◌, ◌≢◌, ℕ, zero, suc, ◌+◌, ◌<◌, ◌≤◌, List, [], ◌∷◌, ◌++◌, take, drop, length, map, get_or, set, refl, sym, ◌∙◌, ap, subst, inl, inr, arith}
use Rattle.std.proofs.lemmas.Bool.{cases_lt}
use Rattle.std.proofs.lemmas.List.{get_or_default, get_or-take, get_or-set_same, get_or-set_other, get_or_append_left, map-set, map-append, take-map, length-map, length-set, get_or-map}
use Rattle.std.proofs.Math.Seq.{get_or-append_seam}
use Rattle.events.specs.Executions.{ThreadRun, empty_run}
use Rattle.listings.specs.Lists.{sum_of}
use Rattle.candidates.specs.declared.counts.Counts.{Counts}
use Rattle.candidates.specs.declared.levels.Level.{Level}
use Rattle.candidates.specs.Groups.{sum_tally, sizes_of}
use Rattle.candidates.specs.Levels.{AreLevels, IsLevel, Stands, places_of, tally_to}
use Rattle.candidates.proofs.Descent.{get_mapped}
use Rattle.candidates.proofs.Grouping.{length_mapped}

pub short_take : {X : Type 0} (m : ℕ) (xs : List X) → length (take m xs) ≤ m
short_take zero xs = omega arith
short_take (suc m) [] = omega arith
short_take (suc m) (x ∷ xs) = omega (arith, short_take m xs)

pub within_take : {X : Type 0} (m : ℕ) (xs : List X) → length (take m xs) ≤ length xs
within_take zero xs = omega arith
within_take (suc m) [] = omega arith
within_take (suc m) (x ∷ xs) = omega (arith, within_take m xs)

long_take : {X : Type 0} (m : ℕ) (xs : List X) (k : ℕ) → k < m → k < length xs → k < length (take m xs)
long_take zero xs k l h = absurd (omega (arith, l))
long_take (suc m) [] k l h = absurd (omega (arith, h))
long_take (suc m) (x ∷ xs) zero l h = omega arith
long_take (suc m) (x ∷ xs) (suc k) l h = omega (arith, long_take m xs k (omega (arith, l)) (omega (arith, h)))

pub not_none : (n : ℕ) → (n ≡ 0 → ⊥) → 1 ≤ n
not_none zero h = absurd (h refl)
not_none (suc n) h = omega arith

pub some_part : (xs : List ℕ) → 1 ≤ sum_of (λ n. n) xs → 0 < length xs
some_part [] l = absurd (omega (arith, l))
some_part (x ∷ xs) l = omega arith

longer : {X : Type 0} (xs : List X) (x : X) → length (xs ++ x ∷ []) ≡ length xs + 1
longer [] x = refl
longer (y ∷ xs) x = let h = longer xs x in omega (arith, h)

pub split_sum : (xs : List ℕ) (i : ℕ) → sum_of (λ n. n) (take i xs) + sum_of (λ n. n) (drop i xs) ≡ sum_of (λ n. n) xs
split_sum xs zero = omega arith
split_sum [] (suc i) = refl
split_sum (x ∷ xs) (suc i) = omega (arith, split_sum xs i)

-- the tally of the run that stands at the place p of the thread j
abbrev pub tally_by : List (List (List Counts)) → (j p : ℕ) → List Counts
tally_by groups j p = get_or (get_or groups j []) p []

-- Places at which the runs have the same tallies make the same of the first threads.
pub same_to : (n : ℕ) (groups : List (List (List Counts))) (ps qs : List ℕ) (k : ℕ) → ((j : ℕ) → j < k → tally_by groups j (get_or ps j 0) ≡ tally_by groups j (get_or qs j 0)) → tally_to n groups ps k ≡ tally_to n groups qs k
same_to n groups ps qs zero h = refl
same_to n groups ps qs (suc k) h =
    ap (λ t. sum_tally t (tally_by groups k (get_or ps k 0))) (same_to n groups ps qs k (λ j l. h j (omega (arith, l))))
    ∙ ap (λ u. sum_tally (tally_to n groups qs k) u) (h k (omega arith))

level_by : (n : ℕ) (groups : List (List (List Counts))) (ps qs : List ℕ) (k : ℕ) (l : Level) → IsLevel n groups ps k l → tally_to n groups ps k ≡ tally_to n groups qs k → IsLevel n groups qs k l
level_by n groups ps qs k l h e = record { tally = h.tally ∙ e; sizes = h.sizes; stands = h.stands }

-- One level stands elsewhere, and some of those behind it may be gone.
abbrev pub IsMoved : (levels new : List Level) (k m : ℕ) → Level → Type 0
IsMoved levels new k m level = (k < length levels) × (k < m) × (new ≡ take m (set levels k level))

moved_at : (levels new : List Level) (k m : ℕ) (level : Level) → IsMoved levels new k m level → (j : ℕ) → j < m → get_or (places_of new) j 0 ≡ get_or (set (places_of levels) k level.place) j 0
moved_at levels new k m level h j l =
    let F : Level → ℕ = λ l. l.place in
    ap (λ ls. get_or (places_of ls) j 0) h.2 ∙ ap (λ ps. get_or ps j 0) (sym (take-map F m (set levels k level)))
    ∙ get_or-take m (places_of (set levels k level)) j 0 l ∙ ap (λ ps. get_or ps j 0) (map-set F levels k level)

-- The place of the level that is moved.
pub moved_here : (levels new : List Level) (k m : ℕ) (level : Level) → IsMoved levels new k m level → get_or (places_of new) k 0 ≡ level.place
moved_here levels new k m level h =
    let F : Level → ℕ = λ l. l.place in
    moved_at levels new k m level h k h.1 ∙ get_or-set_same (places_of levels) k level.place 0 (omega (arith, h.0, length-map levels F))

moved_other : (levels new : List Level) (k m : ℕ) (level : Level) → IsMoved levels new k m level → (j : ℕ) → j < m → j ≢ k → get_or (places_of new) j 0 ≡ get_or (places_of levels) j 0
moved_other levels new k m level h j l d = moved_at levels new k m level h j l ∙ get_or-set_other (places_of levels) k j level.place 0 d

pub moved_length : (levels new : List Level) (k m : ℕ) (level : Level) → IsMoved levels new k m level → k < length new
moved_length levels new k m level h = omega (arith, h.0, h.1, ap (λ (ls : List Level). length ls) h.2, long_take m (set levels k level) k h.1 (omega (arith, h.0, length-set levels k level)))

-- What goes before a thread is as it was, up to the one that is moved, and behind it where that has the same tally.
pub moved_to : (n : ℕ) (groups : List (List (List Counts))) (levels new : List Level) (k m : ℕ) (level : Level) → IsMoved levels new k m level → (i : ℕ) → i ≤ m → (k < i → tally_by groups k level.place ≡ tally_by groups k (get_or (places_of levels) k 0)) → tally_to n groups (places_of new) i ≡ tally_to n groups (places_of levels) i
moved_to n groups levels new k m level h i most same =
    same_to n groups (places_of new) (places_of levels) i (λ j l. elim (cases_lt j k) [
      | inl less ↦ ap (tally_by groups j) (moved_other levels new k m level h j (omega (arith, l, most)) (λ e. omega (arith, e, less)))
      | inr more ↦ elim (cases_lt k j) [
        | inl less ↦ ap (tally_by groups j) (moved_other levels new k m level h j (omega (arith, l, most)) (λ e. omega (arith, e, less)))
        | inr least ↦ (let e : j ≡ k = omega (arith, more, least) in
            let P : ℕ → Type 0 = λ x. tally_by groups x (get_or (places_of new) x 0) ≡ tally_by groups x (get_or (places_of levels) x 0) in
            subst P (sym e) (ap (tally_by groups k) (moved_here levels new k m level h) ∙ same (omega (arith, l, e))))
      ]
    ])

pub levels_moved : (n : ℕ) (groups : List (List (List Counts))) (levels new : List Level) (k m : ℕ) (old level : Level) → AreLevels n groups levels → IsMoved levels new k m level → old ≡ get_or levels k old → level.tally ≡ old.tally → level.sizes.items ≡ old.sizes.items → Stands level → (k + 1 < m → tally_by groups k level.place ≡ tally_by groups k old.place) → AreLevels n groups new
levels_moved n groups levels new k m old level are h o t s stands same i l inside at =
    let F : Level → ℕ = λ l. l.place in
    let short : length new ≤ m = omega (arith, ap (λ (ls : List Level). length ls) h.2, short_take m (set levels k level)) in
    let whole : length new ≤ length levels = omega (arith, ap (λ (ls : List Level). length ls) h.2, within_take m (set levels k level), length-set levels k level) in
    let there : old.place ≡ get_or (places_of levels) k 0 = ap F o ∙ sym (get_or-map F levels k old 0 h.0) in
    let to : tally_to n groups (places_of new) i ≡ tally_to n groups (places_of levels) i =
    moved_to n groups levels new k m level h i (omega (arith, inside, short)) (λ b. same (omega (arith, b, inside, short)) ∙ ap (tally_by groups k) there) in
    let here : l ≡ get_or (set levels k level) i l = at ∙ ap (λ ls. get_or ls i l) h.2 ∙ get_or-take m (set levels k level) i l (omega (arith, inside, short)) in
    let other : i ≢ k → IsLevel n groups (places_of new) i l = λ d.
    level_by n groups (places_of levels) (places_of new) i l (are i l (omega (arith, inside, whole)) (here ∙ get_or-set_other levels k i level l d)) (sym to) in
    elim (cases_lt i k) [
      | inl less ↦ other (λ e. omega (arith, e, less))
      | inr more ↦ elim (cases_lt k i) [
        | inl less ↦ other (λ e. omega (arith, e, less))
        | inr least ↦ (let e : i ≡ k = omega (arith, more, least) in
            let is : l ≡ level = here ∙ ap (λ x. get_or (set levels k level) x l) e ∙ get_or-set_same levels k level l h.0 in
            let was = are k old h.0 o in
            let P : Level → Type 0 = λ x. IsLevel n groups (places_of new) i x in
            let Q : ℕ → Type 0 = λ x. tally_to n groups (places_of new) i ≡ tally_to n groups (places_of levels) x in
            subst P (sym is) (record {
              tally = t ∙ was.tally ∙ sym (subst Q e to);
              sizes = s ∙ was.sizes ∙ ap (λ u. sizes_of u (get_or groups k []) (drop (k + 1) groups)) (sym t) ∙ ap (λ x. sizes_of level.tally (get_or groups x []) (drop (x + 1) groups)) (sym e);
              stands = stands;
            }))
      ]
    ]

-- One level more.
abbrev pub IsAdded : (levels new : List Level) → Level → Type 0
IsAdded levels new level = new ≡ levels ++ level ∷ []

pub added_to : (n : ℕ) (groups : List (List (List Counts))) (levels new : List Level) (level : Level) → IsAdded levels new level → (i : ℕ) → i ≤ length levels → tally_to n groups (places_of new) i ≡ tally_to n groups (places_of levels) i
added_to n groups levels new level h i most =
    let F : Level → ℕ = λ l. l.place in
    same_to n groups (places_of new) (places_of levels) i (λ j l. ap (tally_by groups j) (
    ap (λ ls. get_or (places_of ls) j 0) h ∙ ap (λ ps. get_or ps j 0) (map-append F levels (level ∷ []))
    ∙ get_or_append_left (places_of levels) (level.place ∷ []) 0 j (omega (arith, l, most, length-map levels F))))

pub levels_added : (n : ℕ) (groups : List (List (List Counts))) (levels new : List Level) (level : Level) → AreLevels n groups levels → IsAdded levels new level → IsLevel n groups (places_of levels) (length levels) level → AreLevels n groups new
levels_added n groups levels new level are h is i l inside at =
    let long : length new ≡ length levels + 1 = ap (λ (ls : List Level). length ls) h ∙ longer levels level in
    let to = added_to n groups levels new level h i (omega (arith, inside, long)) in
    let here : l ≡ get_or (levels ++ level ∷ []) i l = at ∙ ap (λ ls. get_or ls i l) h in
    elim (cases_lt i (length levels)) [
      | inl less ↦ level_by n groups (places_of levels) (places_of new) i l (are i l less (here ∙ get_or_append_left levels (level ∷ []) l i less)) (sym to)
      | inr more ↦ (let e : i ≡ length levels = omega (arith, more, inside, long) in
          let same : l ≡ level = here ∙ ap (λ x. get_or (levels ++ level ∷ []) x l) e ∙ get_or-append_seam levels level [] l in
          let P : Level → Type 0 = λ x. IsLevel n groups (places_of new) i x in
          let Q : ℕ → Type 0 = λ x. IsLevel n groups (places_of levels) x level in
          subst P (sym same) (level_by n groups (places_of levels) (places_of new) i level (subst Q (sym e) is) (sym to)))
    ]

-- The sizes of a thread's level.
pub sizes_here : (n : ℕ) (groups : List (List (List Counts))) (levels : List Level) (k : ℕ) (level : Level) (tally : List Counts) → AreLevels n groups levels → k < length levels → level ≡ get_or levels k level → tally_to n groups (places_of levels) k ≡ tally → level.sizes.items ≡ sizes_of tally (get_or groups k []) (drop (k + 1) groups)
sizes_here n groups levels k level tally are inside at is =
    let h = are k level inside at in
    h.sizes ∙ ap (λ t. sizes_of t (get_or groups k []) (drop (k + 1) groups)) (h.tally ∙ is)

pub place_here : (levels : List Level) (k : ℕ) (level : Level) → k < length levels → level ≡ get_or levels k level → get_or (places_of levels) k 0 ≡ level.place
place_here levels k level inside at =
    let F : Level → ℕ = λ l. l.place in
    get_or-map F levels k level 0 inside ∙ ap F (sym at)

-- The tally behind a thread.
pub to_more : (n : ℕ) (groups : List (List (List Counts))) (places : List ℕ) (k p : ℕ) (tally : List Counts) → tally_to n groups places k ≡ tally → get_or places k 0 ≡ p → tally_to n groups places (k + 1) ≡ sum_tally tally (tally_by groups k p)
to_more n groups places k p tally is at =
    let e : k + 1 ≡ suc k = omega arith in
    ap (tally_to n groups places) e ∙ ap (λ t. sum_tally t (tally_by groups k (get_or places k 0))) is ∙ ap (λ x. sum_tally tally (tally_by groups k x)) at

-- The thread behind those whose levels are there.
pub to_next : (n : ℕ) (groups : List (List (List Counts))) (slice levels : List Level) (thread : ℕ) → slice ≡ levels → thread ≡ length levels → tally_to n groups (places_of slice) (length slice) ≡ tally_to n groups (places_of levels) thread
to_next n groups slice levels thread is last = ap (λ ls. tally_to n groups (places_of ls) (length ls)) is ∙ ap (tally_to n groups (places_of levels)) (sym last)

-- The tally behind the levels that are there.
pub to_last : (n : ℕ) (groups : List (List (List Counts))) (levels : List Level) (k : ℕ) (level : Level) → AreLevels n groups levels → k + 1 ≡ length levels → level ≡ get_or levels k level → sum_tally level.tally (tally_by groups k level.place) ≡ tally_to n groups (places_of levels) (length levels)
to_last n groups levels k level are last at =
    let F : Level → ℕ = λ l. l.place in
    let there : level.place ≡ get_or (places_of levels) k 0 = ap F at ∙ sym (get_or-map F levels k level 0 (omega (arith, last))) in
    let e : suc k ≡ length levels = omega (arith, last) in
    ap (λ t. sum_tally t (tally_by groups k level.place)) (are k level (omega (arith, last)) at).tally
    ∙ ap (λ p. sum_tally (tally_to n groups (places_of levels) k) (tally_by groups k p)) there
    ∙ ap (tally_to n groups (places_of levels)) e

-- The run at a place has the tally at that place.
pub tally_there : (f : ThreadRun → List Counts) (groups : List (List (List Counts))) (threads : List (List ThreadRun)) (i d : ℕ) (here : List (List Counts)) (tally : List Counts) (run : ThreadRun) → groups ≡ map (λ runs. map f runs) threads → i < length threads → here ≡ get_or groups i here → d < length (get_or threads i []) → tally ≡ get_or here d [] → run ≡ get_or (get_or threads i []) d empty_run → tally ≡ f run
tally_there f groups threads i d here tally run g l h m t r =
    t ∙ ap (λ ts. get_or ts d []) (h ∙ ap (λ gs. get_or gs i here) g ∙ get_mapped (λ runs. map f runs) threads i [] here l)
    ∙ get_mapped f (get_or threads i []) d empty_run [] m ∙ ap f (sym r)

pub same_default : (groups : List (List (List Counts))) (i : ℕ) → i < length groups → get_or groups i [] ≡ get_or groups i (get_or groups i [])
same_default groups i l = get_or_default groups i [] (get_or groups i []) l

pub as_many_groups : (f : List ThreadRun → List (List Counts)) (groups : List (List (List Counts))) (threads : List (List ThreadRun)) (i : ℕ) → groups ≡ map f threads → i < length threads → i < length groups
as_many_groups f groups threads i g l = omega (arith, l, ap (λ gs. length gs) g, length_mapped f threads)
