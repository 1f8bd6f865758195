use Rattle.std.proofs.Common.{List, [], ◌∷◌, ◌+◌, map, get_or, drop, ap, refl}
use Rattle.std.specs.Prelude.{zip}
use Rattle.events.specs.declared.event.EventId.{EventId}
use Rattle.events.specs.declared.event.EventId.TheVariants.{Initial}
use Rattle.drawing.specs.Arrows.{arrow}
use Rattle.drawing.proofs.Adding.{added, all_added}
use Rattle.drawing.proofs.Zipped.{none_left}
use Rattle.drawing.proofs.arrows.zipped.Goals as goal

pub returns-in-None : goal.returns-in-None
returns-in-None c = none_left _ _ _ _ c.in-None.ensures.cases c.loop-write.invariant

pub loop-write-preserved : goal.loop-write-preserved
loop-write-preserved c =
    let ws = c.args.writes.now in
    let i = c.loop-write.write-index in
    let F = λ (left vs : List EventId). map (λ p. arrow p.0 p.1) (zip vs left) in
    let w = get_or ws i (Initial 0) in
    added (F c.loop-write.left.now) (F c.in-Some.others.now) ws i (Initial 0) (arrow w c.in-Some.read.now ∷ []) c.loop-write.arrows.items c.push.new.self.items _ c.loop-write-test.true
    (ap (λ left. F left (w ∷ drop (i + 1) ws)) c.in-Some.ensures.cases.0) c.in_ok-push-in-Some.ensures.items c.loop-write.invariant

pub returns : goal.returns
returns c =
    let F = λ (ws : List EventId). map (λ p. arrow p.0 p.1) (zip ws c.loop-write.left.now) in
    all_added F c.args.writes.now c.loop-write.write-index c.loop-write.arrows.items _ c.loop-write-test.false refl c.loop-write.invariant
