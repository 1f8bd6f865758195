use Rattle.std.proofs.Common.{◌≡◌, ◌∙◌, ◌<◌, List, [], ◌∷◌, ◌++◌, ℕ, length, refl, sym, ap, subst, arith, append-nil, ◌-◌, take, drop}
use Rattle.std.specs.List.{All}
use Rattle.listings.specs.Lists.{IsIn}
use Rattle.candidates.specs.declared.counts.Counts.{Counts}
use Rattle.candidates.specs.declared.fault.TheConstants.{MOST_CANDIDATES}
use Rattle.candidates.specs.Candidates.{IsCapped}
use Rattle.candidates.specs.Groups.{sum_tally, size_by, sizes_of, HasRoom}
use Rattle.candidates.proofs.Gathered.{gathered_on}
use Rattle.candidates.proofs.Grouping.{placed_sizes, placed_within, one_above, room_of_groups, room_small, sum_sizes, in_row, front_rest}
use Rattle.std.proofs.lemmas.Result.{IfOk-from_err}
use Rattle.std.proofs.lemmas.List.{at_drop_all, nil_from_length}
use Rattle.candidates.proofs.groups.+counting.Goals as goal

pub Groups::sizes-group_sizes-requires : goal.Groups::sizes-group_sizes-requires
Groups::sizes-group_sizes-requires t c =
    let tally = c.args.tally.now in
    let r = room_of_groups tally c.self.inside.tallies.items c.args.self.now c.self.inside.places.items c.args.rest.now c.self.invariant c.self.view_is c.requires.room in
    let P : List (List Counts) → Type 0 = λ us. (u : List Counts) → IsIn u us → HasRoom (sum_tally tally u) c.args.rest.now in
    (omega (arith, c.decreases), subst P (sym c.deref.ensures.value) r)

pub Groups::sizes-returns-in_ok-at_places-in-Some : goal.Groups::sizes-returns-in_ok-at_places-in-Some
Groups::sizes-returns-in_ok-at_places-in-Some t c =
    placed_sizes c.args.tally.now c.self.inside.tallies.items c.args.self.now c.self.inside.places.items c.in-Some.sizes.items c.args.rest.now c.in_ok-at_places-in-Some.field-0.items c.self.invariant c.self.view_is
    (rw (c.in-Some.is, c.deref.ensures.value) at c.in_ok-sizes.ensures)
    (rw (c.deref-in-Some.ensures.value, c.deref-in-Some-2.ensures.value) at c.in_ok-at_places-in-Some.ensures)

pub Groups::sizes-returns-in-None : goal.Groups::sizes-returns-in-None
Groups::sizes-returns-in-None t c =
    one_above c.args.tally.now c.self.inside.tallies.items c.args.self.now c.self.inside.places.items c.args.rest.now MOST_CANDIDATES c.self.invariant c.self.view_is
    (rw (c.in-None.is, c.deref.ensures.value) at c.in_ok-sizes.ensures)

pub count-returns-in-Some : goal.count-returns-in-Some
count-returns-in-Some t c =
    let s = sum_sizes c.args.tally.now _ _ c.deref.result.now (c.deref.ensures.value ∙ (rw c.in-Some.is at c.in_ok-sizes-in-len1-up.ensures)) in
    let P : ℕ → Type 0 = λ n. IsCapped MOST_CANDIDATES n c.capped_sum.result in
    subst P (s ∙ ap (size_by c.args.tally.now) (front_rest c.args.threads.now c.first-item.result c.in-len1-up.len_at_least c.first-item.is)) c.capped_sum.ensures

pub group_sizes-plus-requires : goal.group_sizes-plus-requires
group_sizes-plus-requires t c =
    let g = c.group-item.result in
    let m = in_row c.args.tallies.now c.loop-group.group-index g c.loop-group-test.true c.group-item.is in
    record { small = room_small (sum_tally c.args.tally.now g) c.args.rest.now (c.requires.room g m) }

pub group_sizes-count-requires : goal.group_sizes-count-requires
group_sizes-count-requires t c =
    let g = c.group-item.result in
    let m = in_row c.args.tallies.now c.loop-group.group-index g c.loop-group-test.true c.group-item.is in
    let P : List Counts → Type 0 = λ u. HasRoom u c.args.rest.now in
    (omega (arith, c.decreases), subst P (sym c.in_ok-more.ensures) (c.requires.room g m))

pub group_sizes-returns-in_default : goal.group_sizes-returns-in_default
group_sizes-returns-in_default t c =
    let g = c.group-item.result in
    let m = in_row c.args.tallies.now c.loop-group.group-index g c.loop-group-test.true c.group-item.is in
    (g, m, rw (c.in_default.is, c.in_ok-more.ensures) at c.in_ok-size.ensures)

pub Groups::sizes-at_places-requires : goal.Groups::sizes-at_places-requires
Groups::sizes-at_places-requires t c =
    let sizes = c.deref-in-Some.result.now in
    let e = c.deref-in-Some.ensures.value ∙ (rw (c.in-Some.is, c.deref.ensures.value) at c.in_ok-sizes.ensures) in
    let P : List ℕ → Type 0 = All (λ p. p < length sizes) in
    subst P (sym c.deref-in-Some-2.ensures.value) (placed_within c.args.tally.now c.self.inside.tallies.items c.self.inside.places.items sizes c.args.rest.now c.self.invariant e)

pub count-returns-in-None : goal.count-returns-in-None
count-returns-in-None t c =
    let P : List (List (List Counts)) → Type 0 = λ ts. MOST_CANDIDATES < size_by c.args.tally.now ts in
    subst P (front_rest c.args.threads.now c.first-item.result c.in-len1-up.len_at_least c.first-item.is) (rw c.in-None.is at c.in_ok-sizes-in-len1-up.ensures)

pub group_sizes-loop-group-preserved : goal.group_sizes-loop-group-preserved
group_sizes-loop-group-preserved t c =
    let tally = c.args.tally.now in
    let rest = c.args.rest.now in
    let at = c.loop-group in
    let g = c.group-item.result in
    let F : List (List Counts) → List ℕ = λ ts. sizes_of tally ts rest in
    let size : c.in-Some.size ≡ size_by (sum_tally tally g) rest = (rw c.in-Some.is at c.in_ok-size.ensures).0 ∙ ap (λ (u : List Counts). size_by u rest) c.in_ok-more.ensures in
    gathered_on F F c.args.tallies.now at.group-index g (size_by (sum_tally tally g) rest ∷ []) at.sizes.items c.push.new.self.items _ c.loop-group-test.true c.group-item.is refl
    (c.in_ok-push.ensures.items ∙ ap (λ (n : ℕ). at.sizes.items ++ n ∷ []) size) at.invariant

pub Groups::sizes-returns-in_err-sizes : goal.Groups::sizes-returns-in_err-sizes
Groups::sizes-returns-in_err-sizes t c = IfOk-from_err c.from_residual.result _ c.from_residual.ensures.0

pub Groups::sizes-returns-in_err-at_places-in-Some : goal.Groups::sizes-returns-in_err-at_places-in-Some
Groups::sizes-returns-in_err-at_places-in-Some t c = IfOk-from_err c.from_residual-in_err-at_places-in-Some.result _ c.from_residual-in_err-at_places-in-Some.ensures.0

pub count-returns-in_err-sizes-in-len1-up : goal.count-returns-in_err-sizes-in-len1-up
count-returns-in_err-sizes-in-len1-up t c = IfOk-from_err c.from_residual.result _ c.from_residual.ensures.0

pub group_sizes-returns-in_err-more : goal.group_sizes-returns-in_err-more
group_sizes-returns-in_err-more t c = IfOk-from_err c.from_residual.result _ c.from_residual.ensures.0

pub group_sizes-returns-in_err-size : goal.group_sizes-returns-in_err-size
group_sizes-returns-in_err-size t c = IfOk-from_err c.from_residual-in_err-size.result _ c.from_residual-in_err-size.ensures.0

pub group_sizes-returns-in_err-push : goal.group_sizes-returns-in_err-push
group_sizes-returns-in_err-push t c = IfOk-from_err c.from_residual-in_err-push.result _ c.from_residual-in_err-push.ensures.0

pub group_sizes-returns : goal.group_sizes-returns
group_sizes-returns t c =
    let done = c.loop-group.sizes.items in
    sym (append-nil done) ∙ ap (λ (ns : List ℕ). done ++ ns) (sym (at_drop_all (λ (ts : List (List Counts)). sizes_of c.args.tally.now ts c.args.rest.now) c.args.tallies.now c.loop-group.group-index c.loop-group-test.false)) ∙ c.loop-group.invariant

pub count-returns-in-empty : goal.count-returns-in-empty
count-returns-in-empty t c =
    let P : List (List (List Counts)) → Type 0 = λ ts. IsCapped MOST_CANDIDATES (size_by c.args.tally.now ts) c.size.result in
    subst P (sym (nil_from_length c.args.threads.now (omega (arith, c.in-empty.len_below)))) c.size.ensures

pub count-size-requires : goal.count-size-requires
count-size-requires t c = record { small = room_small c.args.tally.now c.args.threads.now c.requires.room }

pub count-sizes-requires : goal.count-sizes-requires
count-sizes-requires t c =
    let threads = c.args.threads.now in
    let e = front_rest threads c.first-item.result c.in-len1-up.len_at_least c.first-item.is in
    let room : HasRoom c.args.tally.now (c.first-item.result ∷ take (length threads - 1) (drop 1 threads)) = subst (HasRoom c.args.tally.now) (sym e) c.requires.room in
    (omega (arith, c.decreases, ap (λ (ts : List (List (List Counts))). length ts) e), room.1)
