use Rattle.std.proofs.Common.{[], sym, subst, List, ap}
use Rattle.slices.specs.Findings.{FindingValue}
use Rattle.slices.specs.Verdicts.{Tells}
use Rattle.slices.specs.Works.{WorkValue}
use Rattle.slices.proofs.Together.{tally_none}
use Rattle.slices.specs.declared.span.Span.{Span}
use Rattle.slices.specs.Tallies.{TallyValue}
use Rattle.slices.proofs.tally.Tally.new.Goals as goal

pub invariant_of-result : goal.invariant_of-result
invariant_of-result c =
    let w = c.args.work in
    let T : WorkValue → Type 0 = λ z. Tells z.test w.model.items [] c.in_ok-finding.finding in
    let F : FindingValue → Type 0 = Tells w.test w.model.items [] in
    tally_none w.test w.model.items c.new-2.result.items c.in_ok-found.found c.new-2.ensures.items (subst F (sym c.in_ok-found.ensures) (subst T c.in_ok-share.ensures (c.in_ok-finding.ensures w.model.items)))

pub returns : goal.returns
returns c =
    let T : List Span → TallyValue = λ spans. record { work = c.args.work; spans = spans } in
    ap T c.new-2.ensures.items
