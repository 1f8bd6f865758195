use Rattle.std.proofs.Common.{◌≡◌, ◌∙◌, List, [], ◌∷◌, ◌++◌, ap, arith, length}
use Rattle.events.specs.declared.event.EventId.{EventId}
use Rattle.events.specs.declared.event.EventId.TheVariants.{Initial}
use Rattle.listings.specs.Numbered.{arrange}
use Rattle.candidates.proofs.Moves.{first_order}
use Rattle.candidates.proofs.ordering.order_in.Goals as goal

pub returns : goal.returns
returns c =
    let later = c.args.later.now in
    c.turn_order.ensures (Initial c.args.location) later (
    c.new-order.ensures ∙ c.in_ok-extend_from_slice.ensures.items
    ∙ ap (λ (ws : List EventId). ws ++ later) (c.in_ok-push.ensures.items ∙ ap (λ (ws : List EventId). ws ++ Initial c.args.location ∷ []) c.requires)
    ∙ ap (λ (ws : List EventId). Initial c.args.location ∷ ws) (first_order later)
    )

pub returns-then-number-eq0 : goal.returns-then-number-eq0
returns-then-number-eq0 c =
    let later = c.args.later.now in
    let zero : 0 ≡ c.args.number = omega (arith, c.if-number-eq0.true) in
    c.new-order.ensures ∙ c.in_ok-extend_from_slice.ensures.items
    ∙ ap (λ (ws : List EventId). ws ++ later) (c.in_ok-push.ensures.items ∙ ap (λ (ws : List EventId). ws ++ Initial c.args.location ∷ []) c.requires)
    ∙ ap (λ (ws : List EventId). Initial c.args.location ∷ ws) (first_order later ∙ ap (λ n. arrange later n) zero)

pub turn_order-requires : goal.turn_order-requires
turn_order-requires c = omega (arith, ap (λ es. length es) c.new-order.ensures, c.in_ok-extend_from_slice.ensures.len, c.in_ok-push.ensures.len)
