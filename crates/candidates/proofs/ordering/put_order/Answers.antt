use Rattle.std.proofs.Common.{◌∙◌, [], ◌∷◌, ◌++◌, List, set, ap, refl, arith}
use Rattle.events.specs.declared.event.EventId.{EventId}
use Rattle.candidates.proofs.Puts.{put_behind, put_back}
use Rattle.candidates.proofs.ordering.put_order.Goals as goal

pub returns-then-location-len : goal.returns-then-location-len
returns-then-location-len c =
    put_behind c.args.co.now.items c.push.new.self.items c.args.location _ c.requires (omega (arith, c.if-location-len.true, c.len.ensures))
    (c.in_ok-push.ensures.items ∙ ap (λ (o : List EventId). c.args.co.now.items ++ o ∷ []) c.in_ok-order_of.ensures)

pub returns : goal.returns
returns c =
    let taken = set c.args.co.now.items c.args.location c.replace.new.dest in
    put_back c.args.co.now.items taken _ c.args.location c.replace.new.dest _ (omega (arith, c.if-location-len.false, c.len.ensures)) refl (ap (λ (o : List EventId). set taken c.args.location o) c.in_ok-co.ensures)
