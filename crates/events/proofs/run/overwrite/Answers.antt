use Rattle.std.proofs.Common.{◌∙◌, ◌++◌, ◌∷◌, [], take, ap, sym, arith}
use Rattle.std.proofs.lemmas.List.{take_more, take_more_set}
use Rattle.std.proofs.Math.ListN.{length-set}
use Rattle.events.proofs.run.overwrite.Goals as goal

pub loop-place-preserved : goal.loop-place-preserved
loop-place-preserved c =
    let at = c.loop-place in
    let events = c.args.events.now in (
      length-set at.list.items at.place c.copy.result ∙ at.invariant.0,
      take_more_set at.list.items at.place c.copy.result (omega (arith, c.loop-place-test.true, at.invariant.0))
          ∙ ap (λ es. es ++ c.copy.result ∷ []) at.invariant.1 ∙ ap (λ e. take at.place events ++ e ∷ []) (c.copy.ensures ∙ c.index-events-place.is)
          ∙ sym (take_more events at.place c.index-events-place.result c.loop-place-test.true),
    )
