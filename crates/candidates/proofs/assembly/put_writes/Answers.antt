use Rattle.std.proofs.Common.{◌∙◌, [], ◌∷◌, ◌++◌, List, set, ap, refl, arith}
use Rattle.events.specs.declared.event.EventId.{EventId}
use Rattle.candidates.proofs.Puts.{put_behind, put_back}
use Rattle.candidates.proofs.assembly.put_writes.Goals as goal

pub returns-then-location-len : goal.returns-then-location-len
returns-then-location-len c =
    put_behind c.args.all.now.items c.push.new.self.items c.args.location _ c.requires.place (omega (arith, c.if-location-len.true, c.len.ensures))
    (c.in_ok-push.ensures.items ∙ ap (λ (ws : List EventId). c.args.all.now.items ++ ws ∷ []) (c.new-then-location-len.ensures ∙ c.in_ok-later_writes.ensures))

pub returns : goal.returns
returns c =
    let taken = set c.args.all.now.items c.args.location c.replace.new.dest in
    put_back c.args.all.now.items taken _ c.args.location c.replace.new.dest _ (omega (arith, c.if-location-len.false, c.len.ensures)) refl (ap (λ (ws : List EventId). set taken c.args.location ws) (c.new-2.ensures ∙ c.in_ok-later_writes-2.ensures))
