-- Down the threads to the choice that a number is in.
use Rattle.std.proofs.Common.{◌≡◌, ℕ, zero, suc, ◌+◌, ◌-◌, ◌<◌, ◌≤◌, List, [], ◌∷◌, ◌++◌, append_assoc, map, length, take, drop, get_or, drop-cons, add-one, refl, sym, ◌∙◌, ap, subst, inl, inr, arith}
use Rattle.std.specs.List.{flat_map}
use Rattle.events.specs.Executions.{ThreadRun, empty_run}
use Rattle.listings.specs.Lists.{IsIn, sum_of}
use Rattle.listings.proofs.Listings.{in_get_or, map_in}
use Rattle.candidates.specs.declared.counts.Counts.{Counts}
use Rattle.candidates.specs.Executions.{block}
use Rattle.candidates.specs.Candidates.{choices}
use Rattle.candidates.specs.Groups.{tally_of, sum_tally, size_by, sizes_of, HasRoom}
use Rattle.candidates.specs.Parts.{behind, IsPart, AreAllWithin}
use Rattle.candidates.proofs.Steps.{sum_flat, behind_step, behind_end, behind_all, whole_part, part_of_part, part_end}
use Rattle.candidates.proofs.Grouping.{events_of, tallies_of, tally_more, counted, within_run, length_mapped, sum_map}

-- The chosen runs are those of the number's choice as far as they go, and `rest` is its number behind them.
pub record IsDown (n : ℕ) (row : List (List ThreadRun)) (number rest : ℕ) (tally : List Counts) (chosen : List ThreadRun) (left : List (List ThreadRun)) : Type 0 where
  pub tally_is : tally ≡ tally_of n (events_of chosen)
  pub room : HasRoom tally (map (tallies_of n) left)
  pub part : IsPart n row (number - rest) (behind chosen left)
  pub below : rest < sum_of (block n) (behind chosen left)
  pub order : rest ≤ number
  pub within : AreAllWithin n (behind chosen left)

pub down_first : (n : ℕ) (threads : List (List ThreadRun)) (groups : List (List (List Counts))) (number : ℕ) (tally : List Counts) → groups ≡ map (tallies_of n) threads → HasRoom (tally_of n []) groups → AreAllWithin n (choices threads) → number < sum_of (block n) (choices threads) → tally ≡ tally_of n [] → IsDown n (choices threads) number number tally [] threads
down_first n threads groups number tally is room within l t =
    let R : List (List ThreadRun) → Type 0 = λ row. (number < sum_of (block n) row) × AreAllWithin n row × IsPart n (choices threads) (number - number) row in
    let z : 0 ≡ number - number = omega arith in
    let Z : ℕ → Type 0 = λ k. IsPart n (choices threads) k (choices threads) in
    let r = subst R (sym (behind_all threads)) (l, within, subst Z z (whole_part n (choices threads))) in
    let H : List Counts → List (List (List Counts)) → Type 0 = λ u gs. HasRoom u gs in
    let G : List (List (List Counts)) → Type 0 = H tally in
    let U : List Counts → Type 0 = λ u. HasRoom u groups in
    record { tally_is = t; room = subst G is (subst U (sym t) room); part = r.2; below = r.0; order = omega arith; within = r.1 }

map_twice : {A B C : Type 0} (f : B → C) (g : A → B) (xs : List A) → map f (map g xs) ≡ map (λ x. f (g x)) xs
map_twice f g [] = refl
map_twice {C = C} f g (x ∷ xs) = ap (λ (ys : List C). f (g x) ∷ ys) (map_twice f g xs)

map_each : {A : Type 0} (f g : A → ℕ) (xs : List A) → ((x : A) → IsIn x xs → f x ≡ g x) → map f xs ≡ map g xs
map_each f g [] e = refl
map_each f g (x ∷ xs) e = ap (λ (k : ℕ). k ∷ map f xs) (e x (inl refl)) ∙ ap (λ (ks : List ℕ). g x ∷ ks) (map_each f g xs (λ y h. e y (inr h)))

-- how many candidates go on with this run
abbrev pub going_on : ℕ → List ThreadRun → List (List ThreadRun) → ThreadRun → ℕ
going_on n chosen more run = sum_of (block n) (behind (chosen ++ run ∷ []) more)

sizes_are : (n : ℕ) (tally : List Counts) (chosen runs : List ThreadRun) (more : List (List ThreadRun)) → tally ≡ tally_of n (events_of chosen) → AreAllWithin n (behind chosen (runs ∷ more)) → sizes_of tally (tallies_of n runs) (map (tallies_of n) more) ≡ map (going_on n chosen more) runs
sizes_are n tally chosen runs more t w =
    map_twice (λ u. size_by (sum_tally tally u) (map (tallies_of n) more)) (λ (run : ThreadRun). tally_of n run.events) runs
    ∙ map_each (λ (run : ThreadRun). size_by (sum_tally tally (tally_of n run.events)) (map (tallies_of n) more)) (going_on n chosen more) runs
    (λ run m. ap (λ (u : List Counts). size_by (sum_tally u (tally_of n run.events)) (map (tallies_of n) more)) t
    ∙ ap (λ u. size_by u (map (tallies_of n) more)) (tally_more n chosen run) ∙ counted n more (chosen ++ run ∷ []) (within_run n chosen runs more run m w))

sum_ids : {A : Type 0} (f : A → ℕ) (xs : List A) → sum_of (λ n. n) (map f xs) ≡ sum_of f xs
sum_ids f xs = sum_map (λ n. n) f xs

take_ids : {A : Type 0} (f : A → ℕ) (xs : List A) (d : ℕ) → sum_of (λ n. n) (take d (map f xs)) ≡ sum_of f (take d xs)
take_ids f [] zero = refl
take_ids f [] (suc d) = refl
take_ids f (x ∷ xs) zero = refl
take_ids f (x ∷ xs) (suc d) = ap (λ n. f x + n) (take_ids f xs d)

get_ids : {A : Type 0} (f : A → ℕ) (xs : List A) (d : ℕ) (e : A) → d < length xs → get_or (map f xs) d 0 ≡ f (get_or xs d e)
get_ids f [] d e l = absurd (omega (arith, l))
get_ids f (x ∷ xs) zero e l = refl
get_ids f (x ∷ xs) (suc d) e l = get_ids f xs d e (omega (arith, l))

-- The sizes are those of the candidates with each of the runs.
pub sizes_total : (n : ℕ) (row : List (List ThreadRun)) (number rest : ℕ) (tally : List Counts) (chosen runs : List ThreadRun) (more : List (List ThreadRun)) (sizes : List ℕ) → IsDown n row number rest tally chosen (runs ∷ more) → sizes ≡ sizes_of tally (tallies_of n runs) (map (tallies_of n) more) → sum_of (λ k. k) sizes ≡ sum_of (block n) (behind chosen (runs ∷ more))
sizes_total n row number rest tally chosen runs more sizes h e =
    ap (sum_of (λ k. k)) (e ∙ sizes_are n tally chosen runs more h.tally_is h.within) ∙ sum_ids (going_on n chosen more) runs
    ∙ sym (sum_flat (block n) (λ run. behind (chosen ++ run ∷ []) more) runs) ∙ ap (sum_of (block n)) (sym (behind_step chosen runs more))

pub sizes_by : (tally : List Counts) (here : List (List Counts)) (after : List (List (List Counts))) (sizes : List ℕ) → sizes ≡ sizes_of tally here after → sum_of (λ k. k) sizes ≡ size_by tally (here ∷ after)
sizes_by tally here after sizes e = ap (sum_of (λ k. k)) e ∙ sum_ids (λ t. size_by (sum_tally tally t) after) here

pub sizes_length : (n : ℕ) (tally : List Counts) (runs : List ThreadRun) (rest : List (List (List Counts))) (sizes : List ℕ) → sizes ≡ sizes_of tally (tallies_of n runs) rest → length sizes ≡ length runs
sizes_length n tally runs rest sizes e =
    ap (λ (ks : List ℕ). length ks) e ∙ length_mapped (λ t. size_by (sum_tally tally t) rest) (tallies_of n runs) ∙ length_mapped (λ (run : ThreadRun). tally_of n run.events) runs

split_row : {A B : Type 0} (f : A → List B) (xs : List A) (d : ℕ) (e : A) → d < length xs → flat_map f xs ≡ flat_map f (take d xs) ++ (f (get_or xs d e) ++ flat_map f (drop (suc d) xs))
split_row f [] d e l = absurd (omega (arith, l))
split_row f (x ∷ xs) zero e l = refl
split_row {B = B} f (x ∷ xs) (suc d) e l =
    ap (λ (ys : List B). f x ++ ys) (split_row f xs d e (omega (arith, l)))
    ∙ sym (append_assoc (f x) (flat_map f (take d xs)) (f (get_or xs d e) ++ flat_map f (drop (suc d) xs)))

pub room_at : (n : ℕ) (tally : List Counts) (runs : List ThreadRun) (more : List (List ThreadRun)) (d : ℕ) → HasRoom tally (map (tallies_of n) (runs ∷ more)) → d < length runs → HasRoom (sum_tally tally (tally_of n (get_or runs d empty_run).events)) (map (tallies_of n) more)
room_at n tally runs more d h l =
    h.1 (tally_of n (get_or runs d empty_run).events) (map_in (λ (run : ThreadRun). tally_of n run.events) runs (get_or runs d empty_run) (in_get_or runs d empty_run l))

-- One run more is chosen.
pub down_on : (n : ℕ) (row : List (List ThreadRun)) (number rest left : ℕ) (tally : List Counts) (chosen runs : List ThreadRun) (more : List (List ThreadRun)) (sizes : List ℕ) (d : ℕ) → IsDown n row number rest tally chosen (runs ∷ more) → sizes ≡ sizes_of tally (tallies_of n runs) (map (tallies_of n) more) → d < length sizes → left < get_or sizes d 0 → rest ≡ sum_of (λ k. k) (take d sizes) + left → IsDown n row number left (sum_tally tally (tally_of n (get_or runs d empty_run).events)) (chosen ++ get_or runs d empty_run ∷ []) more
down_on n row number rest left tally chosen runs more sizes d h e l b s =
    let run = get_or runs d empty_run in
    let F : ThreadRun → List (List ThreadRun) = λ r. behind (chosen ++ r ∷ []) more in
    let m : d < length runs = omega (arith, l, sizes_length n tally runs (map (tallies_of n) more) sizes e) in
    let same = e ∙ sizes_are n tally chosen runs more h.tally_is h.within in
    let before : sum_of (λ k. k) (take d sizes) ≡ sum_of (block n) (flat_map F (take d runs)) =
    ap (λ (ks : List ℕ). sum_of (λ k. k) (take d ks)) same ∙ take_ids (going_on n chosen more) runs d ∙ sym (sum_flat (block n) F (take d runs)) in
    let here : get_or sizes d 0 ≡ going_on n chosen more run = ap (λ (ks : List ℕ). get_or ks d 0) same ∙ get_ids (going_on n chosen more) runs d empty_run m in
    let P : List (List ThreadRun) → Type 0 = IsPart n row (number - rest) in
    let part = part_of_part n row (flat_map F (take d runs)) (F run) (flat_map F (drop (suc d) runs)) (number - rest) (subst P (behind_step chosen runs more ∙ split_row F runs d empty_run m) h.part) in
    let first : number - rest + sum_of (block n) (flat_map F (take d runs)) ≡ number - left = omega (arith, s, before, h.order) in
    let Q : ℕ → Type 0 = λ k. IsPart n row k (F run) in
    record {
      tally_is = ap (λ (u : List Counts). sum_tally u (tally_of n run.events)) h.tally_is ∙ tally_more n chosen run;
      room = room_at n tally runs more d h.room m;
      part = subst Q first part;
      below = omega (arith, b, here);
      order = omega (arith, s, h.order);
      within = within_run n chosen runs more run (in_get_or runs d empty_run m) h.within;
    }

-- All runs are chosen.
pub down_end : (n : ℕ) (row : List (List ThreadRun)) (number rest : ℕ) (tally : List Counts) (chosen : List ThreadRun) (left : List (List ThreadRun)) → left ≡ [] → IsDown n row number rest tally chosen left → (rest ≤ number) × (rest < block n chosen) × IsPart n row (number - rest) (chosen ∷ [])
down_end n row number rest tally chosen left e h =
    let P : List (List ThreadRun) → Type 0 = λ r. (rest < sum_of (block n) r) × IsPart n row (number - rest) r in
    let L : List (List ThreadRun) → Type 0 = IsDown n row number rest tally chosen in
    let g = subst L e h in
    let p = subst P (behind_end chosen) (g.below, g.part) in
    (h.order, omega (arith, p.0), p.1)

pub drop_mapped : {A B : Type 0} (f : A → B) (xs : List A) (i : ℕ) → drop i (map f xs) ≡ map f (drop i xs)
drop_mapped f [] zero = refl
drop_mapped f [] (suc i) = refl
drop_mapped f (x ∷ xs) zero = refl
drop_mapped f (x ∷ xs) (suc i) = drop_mapped f xs i

pub get_mapped : {A B : Type 0} (f : A → B) (xs : List A) (i : ℕ) (a : A) (b : B) → i < length xs → get_or (map f xs) i b ≡ f (get_or xs i a)
get_mapped f [] i a b l = absurd (omega (arith, l))
get_mapped f (x ∷ xs) zero a b l = refl
get_mapped f (x ∷ xs) (suc i) a b l = get_mapped f xs i a b (omega (arith, l))

pub drop_next : (threads : List (List ThreadRun)) (i : ℕ) → i < length threads → drop i threads ≡ get_or threads i [] ∷ drop (i + 1) threads
drop_next threads i l = rw (add-one, drop-cons threads i []) refl

-- The tallies of the runs of a thread, and of those of the threads behind it.
pub tallies_here : (n : ℕ) (threads : List (List ThreadRun)) (groups : List (List (List Counts))) (i : ℕ) (here : List (List Counts)) → groups ≡ map (tallies_of n) threads → i < length threads → here ≡ get_or groups i here → here ≡ tallies_of n (get_or threads i [])
tallies_here n threads groups i here g l h = h ∙ ap (λ gs. get_or gs i here) g ∙ get_mapped (tallies_of n) threads i [] here l

pub tallies_after : (n : ℕ) (threads : List (List ThreadRun)) (groups after : List (List (List Counts))) (i : ℕ) → groups ≡ map (tallies_of n) threads → after ≡ drop (i + 1) groups → after ≡ map (tallies_of n) (drop (i + 1) threads)
tallies_after n threads groups after i g a = a ∙ ap (λ gs. drop (i + 1) gs) g ∙ drop_mapped (tallies_of n) threads (i + 1)

-- The thread that is next, and those behind it.
pub down_at : (n : ℕ) (row : List (List ThreadRun)) (number rest : ℕ) (tally : List Counts) (chosen : List ThreadRun) (threads : List (List ThreadRun)) (i : ℕ) → i < length threads → IsDown n row number rest tally chosen (drop i threads) → IsDown n row number rest tally chosen (get_or threads i [] ∷ drop (i + 1) threads)
down_at n row number rest tally chosen threads i l h =
    let P : List (List ThreadRun) → Type 0 = IsDown n row number rest tally chosen in
    subst P (drop_next threads i l) h

pub room_on : (n : ℕ) (row : List (List ThreadRun)) (number rest : ℕ) (tally : List Counts) (chosen runs : List ThreadRun) (more : List (List ThreadRun)) (here : List (List Counts)) (after : List (List (List Counts))) → IsDown n row number rest tally chosen (runs ∷ more) → here ≡ tallies_of n runs → after ≡ map (tallies_of n) more → HasRoom tally (here ∷ after)
room_on n row number rest tally chosen runs more here after h e f =
    let P : List (List Counts) → Type 0 = λ us. HasRoom tally (us ∷ map (tallies_of n) more) in
    let Q : List (List (List Counts)) → Type 0 = λ gs. HasRoom tally (here ∷ gs) in
    subst Q (sym f) (subst P (sym e) h.room)

pub sizes_on : (n : ℕ) (tally : List Counts) (runs : List ThreadRun) (more : List (List ThreadRun)) (here : List (List Counts)) (after : List (List (List Counts))) (sizes : List ℕ) → here ≡ tallies_of n runs → after ≡ map (tallies_of n) more → sizes ≡ sizes_of tally here after → sizes ≡ sizes_of tally (tallies_of n runs) (map (tallies_of n) more)
sizes_on n tally runs more here after sizes e f s = s ∙ ap (λ us. sizes_of tally us after) e ∙ ap (λ gs. sizes_of tally (tallies_of n runs) gs) f

-- What is counted by the tallies are the candidates with the chosen runs.
pub counted_on : (n : ℕ) (row : List (List ThreadRun)) (number rest : ℕ) (tally : List Counts) (chosen runs : List ThreadRun) (more : List (List ThreadRun)) (here : List (List Counts)) (after : List (List (List Counts))) → IsDown n row number rest tally chosen (runs ∷ more) → here ≡ tallies_of n runs → after ≡ map (tallies_of n) more → size_by tally (here ∷ after) ≡ sum_of (block n) (behind chosen (runs ∷ more))
counted_on n row number rest tally chosen runs more here after h e f =
    let sizes = sizes_of tally here after in
    sym (sizes_by tally here after sizes refl) ∙ sizes_total n row number rest tally chosen runs more sizes h (sizes_on n tally runs more here after sizes e f refl)

pub below_on : (n : ℕ) (row : List (List ThreadRun)) (number rest : ℕ) (tally : List Counts) (chosen runs : List ThreadRun) (more : List (List ThreadRun)) (here : List (List Counts)) (after : List (List (List Counts))) → IsDown n row number rest tally chosen (runs ∷ more) → here ≡ tallies_of n runs → after ≡ map (tallies_of n) more → rest < size_by tally (here ∷ after)
below_on n row number rest tally chosen runs more here after h e f = omega (arith, counted_on n row number rest tally chosen runs more here after h e f, h.below)

pub most_on : (n : ℕ) (row : List (List ThreadRun)) (number rest : ℕ) (tally : List Counts) (chosen runs : List ThreadRun) (more : List (List ThreadRun)) (here : List (List Counts)) (after : List (List (List Counts))) → IsDown n row number rest tally chosen (runs ∷ more) → here ≡ tallies_of n runs → after ≡ map (tallies_of n) more → size_by tally (here ∷ after) ≤ sum_of (block n) row
most_on n row number rest tally chosen runs more here after h e f =
    omega (arith, counted_on n row number rest tally chosen runs more here after h e f, part_end n row (number - rest) (behind chosen (runs ∷ more)) h.part)

-- A thread on the way down: the candidates with the chosen runs go on with its runs, and these are the sizes of what goes on with each.
pub record IsEntered (n : ℕ) (row : List (List ThreadRun)) (number rest : ℕ) (tally : List Counts) (chosen : List ThreadRun) (threads : List (List ThreadRun)) (i : ℕ) (sizes : List ℕ) : Type 0 where
  pub down : IsDown n row number rest tally chosen (get_or threads i [] ∷ drop (i + 1) threads)
  pub are : sizes ≡ sizes_of tally (tallies_of n (get_or threads i [])) (map (tallies_of n) (drop (i + 1) threads))

pub enter : (n : ℕ) (row : List (List ThreadRun)) (number rest : ℕ) (tally : List Counts) (chosen : List ThreadRun) (threads : List (List ThreadRun)) (groups : List (List (List Counts))) (i : ℕ) (here : List (List Counts)) (after : List (List (List Counts))) (sizes : List ℕ) → groups ≡ map (tallies_of n) threads → i < length threads → here ≡ get_or groups i here → after ≡ drop (i + 1) groups → IsDown n row number rest tally chosen (drop i threads) → sizes ≡ sizes_of tally here after → IsEntered n row number rest tally chosen threads i sizes
enter n row number rest tally chosen threads groups i here after sizes g l h a d s = record {
  down = down_at n row number rest tally chosen threads i l d;
  are = sizes_on n tally (get_or threads i []) (drop (i + 1) threads) here after sizes (tallies_here n threads groups i here g l h) (tallies_after n threads groups after i g a) s;
}

-- The place of a size is that of a run.
pub run_within : (n : ℕ) (row : List (List ThreadRun)) (number rest : ℕ) (tally : List Counts) (chosen : List ThreadRun) (threads : List (List ThreadRun)) (i : ℕ) (sizes : List ℕ) (d : ℕ) → IsEntered n row number rest tally chosen threads i sizes → d < length sizes → d < length (get_or threads i [])
run_within n row number rest tally chosen threads i sizes d e l = omega (arith, l, sizes_length n tally (get_or threads i []) (map (tallies_of n) (drop (i + 1) threads)) sizes e.are)

pub down_next : (n : ℕ) (row : List (List ThreadRun)) (number rest left : ℕ) (tally here grown : List Counts) (chosen longer runs : List ThreadRun) (more : List (List ThreadRun)) (sizes : List ℕ) (d : ℕ) (run : ThreadRun) → IsDown n row number rest tally chosen (runs ∷ more) → sizes ≡ sizes_of tally (tallies_of n runs) (map (tallies_of n) more) → d < length sizes → left < get_or sizes d 0 → rest ≡ sum_of (λ k. k) (take d sizes) + left → run ≡ get_or runs d empty_run → here ≡ tally_of n run.events → grown ≡ sum_tally tally here → longer ≡ chosen ++ run ∷ [] → IsDown n row number left grown longer more
down_next n row number rest left tally here grown chosen longer runs more sizes d run h e l b s r t g c =
    let T : List Counts → List ThreadRun → Type 0 = λ u rs. IsDown n row number left u rs more in
    let at = get_or runs d empty_run in
    let same : sum_tally tally (tally_of n at.events) ≡ grown = sym (g ∙ ap (λ u. sum_tally tally u) (t ∙ ap (λ (x : ThreadRun). tally_of n x.events) r)) in
    let long : chosen ++ at ∷ [] ≡ longer = sym (c ∙ ap (λ (x : ThreadRun). chosen ++ x ∷ []) r) in
    let P : List Counts → Type 0 = λ u. T u (chosen ++ at ∷ []) in
    let Q : List ThreadRun → Type 0 = T grown in
    subst Q long (subst P same (down_on n row number rest left tally chosen runs more sizes d h e l b s))
