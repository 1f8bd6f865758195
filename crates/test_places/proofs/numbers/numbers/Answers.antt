use Rattle.std.proofs.Common.{◌∙◌, List, [], ◌∷◌, ◌++◌, append_assoc, ap, sym}
use Rattle.test_places.specs.declared.mark.Mark.{Mark}
use Rattle.test_places.specs.Numbers.{counted, holds, numbers_from}
use Rattle.test_places.proofs.numbers.numbers.Goals as goal

pub loop-mark-preserved : goal.loop-mark-preserved
loop-mark-preserved c =
    let done = c.loop-mark.numbers.items in
    let before = c.loop-mark.held in
    let mark = c.in-Some.mark.now in
    let held = holds mark c.in-Some.behind.now before in
    rw (c.in_ok-push.ensures.items, c.counted.ensures, c.holds-held.ensures)
    (append_assoc done (counted held mark ∷ []) (numbers_from held c.in-Some.behind.now) ∙ ap (λ (ms : List Mark). done ++ numbers_from before ms) (sym c.in-Some.ensures.cases.0) ∙ c.loop-mark.invariant)
