use Rattle.std.proofs.Common.{ℕ, List, map, length, ap, sym, ◌∙◌, arith}
use Rattle.events.specs.Executions.{ThreadRun}
use Rattle.events.specs.Structures.{Structure, unvalued_run}
use Rattle.events.proofs.Structures.{one_init, one_structured}
use Rattle.events.proofs.view.structure.EventStructure.is_of.Goals as goal

pub returns-then-len-init : goal.returns-then-len-init
returns-then-len-init c =
    let e = ap (λ (rs : List ThreadRun). map unvalued_run rs) c.deref.ensures.value in
    let f = ap (λ (rs : List ThreadRun). map unvalued_run rs) c.runs.ensures.value in
    let n = ap (λ (vs : List ℕ). length vs) c.init.ensures in (
      λ t. sym c.self.view_is ∙ one_structured _ _ _ _ (one_init _ _ (omega (arith, c.if-len-init.true, c.len.ensures, n))) (sym e ∙ c.are_like_runs.ensures.0 t ∙ f),
      λ h. c.are_like_runs.ensures.1 (e ∙ ap (λ (s : Structure). s.runs) (c.self.view_is ∙ h) ∙ sym f),
    )
