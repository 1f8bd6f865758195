use Rattle.std.proofs.Common.{◌∙◌, sym, ap, subst, IsTrue}
use Rattle.std.specs.Cmp.Lexicographic.{pointwise_decides}
use Rattle.events.proofs.Exact.{name_exact}
use Rattle.events.proofs.view.sourced.SourcedStructure.has_sources.Goals as goal

pub returns : goal.returns
returns c =
    let d = pointwise_decides name_exact c.as_slice.result.now c.args.sources.now in
    let e = c.as_slice.ensures.value ∙ ap (λ s. s.rf) c.self.view_is in (
      λ t. sym e ∙ d.0 (subst IsTrue c.eq.ensures t),
      λ h. subst IsTrue (sym c.eq.ensures) (d.1 (e ∙ h)),
    )
