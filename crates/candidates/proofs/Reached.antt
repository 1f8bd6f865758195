-- The next thread on the way down to the choice that a number is in.
use Rattle.std.proofs.Common.{◌≡◌, ℕ, ◌+◌, ◌-◌, ◌<◌, ◌≤◌, List, [], ◌∷◌, drop, length, map, get_or, refl, sym, ◌∙◌, ap, arith}
use Rattle.events.specs.Executions.{ThreadRun}
use Rattle.listings.specs.Lists.{sum_of}
use Rattle.candidates.specs.declared.counts.Counts.{Counts}
use Rattle.candidates.specs.declared.fault.TheConstants.{MOST_CANDIDATES}
use Rattle.candidates.specs.declared.impossible.ThreadNeeds.{ThreadNeeds}
use Rattle.candidates.specs.declared.levels.Level.{Level}
use Rattle.candidates.specs.declared.threads.Threads.{Threads}
use Rattle.candidates.specs.Candidates.{choices}
use Rattle.candidates.specs.Groups.{size_by, sizes_of, HasRoom}
use Rattle.candidates.specs.Levels.{places_of, tally_to}
use Rattle.candidates.specs.Located.{AreThreads}
use Rattle.candidates.specs.Parts.{behind}
use Rattle.candidates.proofs.Descent.{IsDown, IsEntered, below_on, down_at, enter, most_on, room_on, run_within, sizes_length, sizes_total, tallies_after, tallies_here}
use Rattle.candidates.proofs.Excluded.{as_many_needs, needs_here}
use Rattle.candidates.proofs.Grouping.{tallies_of}
use Rattle.candidates.proofs.Kept.{as_many_groups, same_default}
use Rattle.candidates.proofs.Steps.{part_end}

-- the tally of the runs at which the first k threads stand, and the sizes of what goes on behind them with each run of the next
abbrev pub tally_at : Threads → List Level → ℕ → List Counts
tally_at t levels k = tally_to (length t.init.now) t.groups.now (places_of levels) k

abbrev pub sizes_at : Threads → List Level → ℕ → List ℕ
sizes_at t levels k = sizes_of (tally_at t levels k) (get_or t.groups.now k []) (drop (k + 1) t.groups.now)

-- The chosen runs of the first k threads are those of the number's choice.
abbrev pub IsDownTo : Threads → List Level → (number k rest : ℕ) → List ThreadRun → Type 0
IsDownTo t levels number k rest chosen = IsDown (length t.init.now) (choices t.runs.now) number rest (tally_at t levels k) chosen (drop k t.runs.now)

pub here_default : (t : Threads) (k : ℕ) → AreThreads t → k < length t.runs.now → get_or t.groups.now k [] ≡ get_or t.groups.now k (get_or t.groups.now k [])
here_default t k h l = same_default t.groups.now k (as_many_groups (tallies_of (length t.init.now)) t.groups.now t.runs.now k h.tallied l)

pub reached : (t : Threads) (levels : List Level) (number k rest : ℕ) (chosen : List ThreadRun) → AreThreads t → k < length t.runs.now → IsDownTo t levels number k rest chosen → IsEntered (length t.init.now) (choices t.runs.now) number rest (tally_at t levels k) chosen t.runs.now k (sizes_at t levels k)
reached t levels number k rest chosen h l down =
    enter (length t.init.now) (choices t.runs.now) number rest (tally_at t levels k) chosen t.runs.now t.groups.now k (get_or t.groups.now k []) (drop (k + 1) t.groups.now) (sizes_at t levels k) h.tallied l (here_default t k h l) refl down refl

-- The groups of the thread and of those behind it have room, and are as many as is said.
pub room_here : (t : Threads) (levels : List Level) (number k rest : ℕ) (chosen : List ThreadRun) → AreThreads t → k < length t.runs.now → IsDownTo t levels number k rest chosen → HasRoom (tally_at t levels k) (get_or t.groups.now k [] ∷ drop (k + 1) t.groups.now)
room_here t levels number k rest chosen h l down =
    let n = length t.init.now in
    let here = get_or t.groups.now k [] in
    let after = drop (k + 1) t.groups.now in
    room_on n (choices t.runs.now) number rest (tally_at t levels k) chosen (get_or t.runs.now k []) (drop (k + 1) t.runs.now) here after (down_at n (choices t.runs.now) number rest (tally_at t levels k) chosen t.runs.now k l down)
    (tallies_here n t.runs.now t.groups.now k here h.tallied l (here_default t k h l)) (tallies_after n t.runs.now t.groups.now after k h.tallied refl)

pub size_here : (t : Threads) (levels : List Level) (number k rest : ℕ) (chosen : List ThreadRun) → AreThreads t → k < length t.runs.now → IsDownTo t levels number k rest chosen → (size_by (tally_at t levels k) (get_or t.groups.now k [] ∷ drop (k + 1) t.groups.now) ≤ MOST_CANDIDATES) × (rest < size_by (tally_at t levels k) (get_or t.groups.now k [] ∷ drop (k + 1) t.groups.now))
size_here t levels number k rest chosen h l down =
    let n = length t.init.now in
    let here = get_or t.groups.now k [] in
    let after = drop (k + 1) t.groups.now in
    let runs = get_or t.runs.now k [] in
    let more = drop (k + 1) t.runs.now in
    let d = down_at n (choices t.runs.now) number rest (tally_at t levels k) chosen t.runs.now k l down in
    let e = tallies_here n t.runs.now t.groups.now k here h.tallied l (here_default t k h l) in
    let a = tallies_after n t.runs.now t.groups.now after k h.tallied refl in (
      omega (arith, most_on n (choices t.runs.now) number rest (tally_at t levels k) chosen runs more here after d e a, h.most),
      below_on n (choices t.runs.now) number rest (tally_at t levels k) chosen runs more here after d e a,
    )

-- The place of a size is that of a run.
pub place_here_within : (t : Threads) (levels : List Level) (number k rest p : ℕ) (chosen : List ThreadRun) → AreThreads t → k < length t.runs.now → IsDownTo t levels number k rest chosen → p < length (sizes_at t levels k) → p < length (get_or t.runs.now k [])
place_here_within t levels number k rest p chosen h l down m =
    run_within (length t.init.now) (choices t.runs.now) number rest (tally_at t levels k) chosen t.runs.now k (sizes_at t levels k) p (reached t levels number k rest chosen h l down) m

-- There are as many needs as sizes, and these are within the limit.
pub needs_fit : (t : Threads) (levels : List Level) (number k rest : ℕ) (chosen : List ThreadRun) (e : ThreadNeeds) (sizes : List ℕ) → AreThreads t → k < length t.runs.now → k < length t.needs.now → IsDownTo t levels number k rest chosen → sizes ≡ sizes_at t levels k → (length (get_or t.needs.now k e).needs.items ≡ length sizes) × (sum_of (λ i. i) sizes ≤ MOST_CANDIDATES)
needs_fit t levels number k rest chosen e sizes h l m down is =
    let n = length t.init.now in
    let runs = get_or t.runs.now k [] in
    let more = drop (k + 1) t.runs.now in
    let at = reached t levels number k rest chosen h l down in
    let has = needs_here t.init.now t.runs.now t.needs.now k e h.needs m in (
      as_many_needs t.init.now h.needs.stores t.runs.now k (get_or t.needs.now k e) has ∙ sym (ap (λ (ss : List ℕ). length ss) is ∙ sizes_length n (tally_at t levels k) runs (map (tallies_of n) more) (sizes_at t levels k) at.are),
      omega (arith, ap (sum_of (λ i. i)) is, sizes_total n (choices t.runs.now) number rest (tally_at t levels k) chosen runs more (sizes_at t levels k) at.down at.are, part_end n (choices t.runs.now) (number - rest) (behind chosen (runs ∷ more)) at.down.part, h.most),
    )
