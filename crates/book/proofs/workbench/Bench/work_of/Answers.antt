use Rattle.std.proofs.Common.{◌∙◌, ap, subst}
use Rattle.litmus_tree.specs.Tree.{Litmus}
use Rattle.candidates.specs.Faults.{IsSpaceFault}
use Rattle.slices.specs.Works.{WorkValue}
use Rattle.book.proofs.workbench.Bench.work_of.Goals as goal

pub returns-in-Err-new-clause-fault : goal.returns-in-Err-new-clause-fault
returns-in-Err-new-clause-fault c = let P : Litmus → Type 0 = λ t. IsSpaceFault t c.in-Err-new.fault in subst P c.in_ok-copy-in-Ok-None.ensures c.in-Err-new.ensures.fault

pub returns-in_ok-new-in-Ok-clause-work : goal.returns-in_ok-new-in-Ok-clause-work
returns-in_ok-new-in-Ok-clause-work c =
    let under : Litmus → WorkValue = λ t. record { test = t; model = c.args.model } in
    c.in_ok-new-in-Ok.ensures ∙ c.in-Ok.ensures.work ∙ ap under c.in_ok-copy-in-Ok-None.ensures

pub returns-in_ok-new-in-Ok-clause-admitted : goal.returns-in_ok-new-in-Ok-clause-admitted
returns-in_ok-new-in-Ok-clause-admitted c = rw c.in_ok-new-in-Ok.ensures c.in-Ok.ensures.admitted
