use Rattle.std.proofs.Common.{ap, sym, ◌∙◌, ◌+◌, drop, map}
use Rattle.litmus_value.specs.Gathering.{all_noted, gathered}
use Rattle.std.proofs.lemmas.Result.{err_from_is_err_and}
use Rattle.litmus_value.specs.Values.{literal}
use Rattle.litmus_value.proofs.Noted.{next_with, full_whole}
use Rattle.litmus_value.proofs.values.numbers.Numbers.note_initial.Goals as goal

pub returns-in_err-note-clause-fault : goal.returns-in_err-note-clause-fault
returns-in_err-note-clause-fault c =
    let p = err_from_is_err_and c.from_residual.result c.from_residual.ensures.1 in
    let after = next_with (λ b. literal b.value) c.binding-item.result c.args.bindings.now c.loop-binding.binding-index (gathered c.loop-binding.self) c.loop-binding-test.true c.binding-item.is in
    rw (p.1, p.2) (full_whole _ _ (map (λ b. literal b.value) (drop (c.loop-binding.binding-index + 1) c.args.bindings.now)) _ (sym after ∙ c.loop-binding.invariant.rest) c.in_err-note.ensures.fault)

pub loop-binding-preserved : goal.loop-binding-preserved
loop-binding-preserved c =
    let rest = map (λ b. literal b.value) (drop (c.loop-binding.binding-index + 1) c.args.bindings.now) in
    let after = next_with (λ b. literal b.value) c.binding-item.result c.args.bindings.now c.loop-binding.binding-index (gathered c.loop-binding.self) c.loop-binding-test.true c.binding-item.is in
    record { rest = ap (λ g. all_noted g rest) c.in_ok-note.ensures.done ∙ sym after ∙ c.loop-binding.invariant.rest; within = c.in_ok-note.ensures.within }
