use Rattle.std.proofs.Common.{◌≡◌, ℕ, suc, ◌+◌, ◌≤◌, ◌^◌, ◌∷◌, [], List, drop, ap, ◌∙◌, ◌++◌, append-nil, subst, sym}
use Rattle.std.proofs.Math.Seq.{drop-cons}
use Rattle.listings.specs.Lists.{product_by}
use Rattle.events.specs.declared.event.EventId.{EventId}
use Rattle.events.specs.declared.event.EventId.TheVariants.{Initial}
use Rattle.candidates.proofs.Gathered.{gathered_on}
use Rattle.slices.specs.Ways.{WaysValue, is_seen, shown_way, shown_ways, size_of_ways}
use Rattle.slices.proofs.Chosen.{way_fits}
use Rattle.slices.proofs.Shown.{way_added}
use Rattle.std.proofs.lemmas.List.{at_drop_all}
use Rattle.slices.proofs.ways.ways_of.Goals as goal

pub of-requires : goal.of-requires
of-requires c =
    let at = c.loop-location in
    let range = c.args.range.unplaced in
    let seen = is_seen c.args.slots.now in
    let orders = c.co-orders.result.now in
    let order = c.index-orders-location.result in
    let F : ℕ → List (List EventId) → List WaysValue = λ x. shown_ways Initial seen range.locations range.writes x in
    let P : List WaysValue → Type 0 = λ ws. product_by size_of_ways ws ≤ 2 ^ 32 in
    let few = subst (λ (co : List (List EventId)). P (F 0 co)) (sym c.co-orders.ensures) c.requires in
    let here : drop at.location orders ≡ order ∷ drop (suc at.location) orders = drop-cons orders at.location order c.loop-location-test.true ∙ ap (λ o. o ∷ drop (suc at.location) orders) (sym c.index-orders-location.is) in
    let all : P (at.ways.items ++ F at.location (order ∷ drop (suc at.location) orders)) = subst (λ os. P (at.ways.items ++ F at.location os)) here (subst P (sym at.invariant) few) in
    let fits = way_fits at.ways.items (shown_way Initial seen range.locations range.writes at.location order) (F (suc at.location) (drop (suc at.location) orders)) (2 ^ 32) all in
    subst (λ (o : List EventId). size_of_ways (shown_way Initial seen range.locations range.writes at.location o) ≤ 2 ^ 32) (sym c.writes.ensures) fits

pub loop-location-preserved : goal.loop-location-preserved
loop-location-preserved c =
    let at = c.loop-location in
    let range = c.args.range.unplaced in
    let seen = is_seen c.args.slots.now in
    let orders = c.co-orders.result.now in
    let way = c.of.result in
    let F : ℕ → List (List EventId) → List WaysValue = λ x. shown_ways Initial seen range.locations range.writes x in
    gathered_on (F at.location) (F (at.location + 1)) orders at.location c.index-orders-location.result (way ∷ []) at.ways.items c.push.new.self.items _ c.loop-location-test.true c.index-orders-location.is
    (way_added seen c.is_seen-seen.result range.locations range.writes at.location c.index-orders-location.result (drop (at.location + 1) orders) way c.is_seen-seen.ensures (c.of.ensures ∙ ap (λ (o : List EventId). shown_way Initial (λ _. c.is_seen-seen.result) range.locations range.writes at.location o) c.writes.ensures))
    c.in_ok-push.ensures.items at.invariant

pub returns : goal.returns
returns c =
    let at = c.loop-location in
    let range = c.args.range.unplaced in
    let done = at.ways.items in
    let F : ℕ → List (List EventId) → List WaysValue = λ x. shown_ways Initial (is_seen c.args.slots.now) range.locations range.writes x in
    sym (append-nil done) ∙ ap (λ (ws : List WaysValue). done ++ ws) (sym (at_drop_all (F at.location) c.co-orders.result.now at.location c.loop-location-test.false)) ∙ at.invariant ∙ ap (F 0) c.co-orders.ensures
