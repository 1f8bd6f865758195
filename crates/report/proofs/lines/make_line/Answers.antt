use Rattle.std.proofs.Common.{◌∙◌, ◌++◌, ◌≤◌, min, length, sym, ap, append-nil, arith}
use Rattle.std.proofs.lemmas.Grind.{common_steps}
use Rattle.report.proofs.Pages.{none_left}
use Rattle.report.proofs.lines.make_line.Goals as goal

pub returns : goal.returns
returns c =
    let le : min (length c.args.labels.now) (length c.args.values.now) ≤ c.loop-place.place = grind (arith, common_steps) in
    let rest = none_left (λ x. x.items) c.loop-place.place c.args.labels.now c.args.values.now le in
    let whole = sym (append-nil c.loop-place.line.items) ∙ ap (λ l. c.loop-place.line.items ++ l) (sym rest) ∙ c.loop-place.invariant in
    rw whole at c.try_extend_from_slice.ensures.ok
