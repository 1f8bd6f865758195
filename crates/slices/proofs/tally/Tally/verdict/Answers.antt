use Rattle.std.proofs.Common.{sym, subst, ◌∙◌, ap}
use Rattle.slices.specs.Parts.{test_size}
use Rattle.slices.specs.Tallies.{IsCover, TallyValue}
use Rattle.slices.proofs.Together.{tally_verdict}
use Rattle.slices.specs.Verdicts.{IsVerdict}
use Rattle.slices.specs.VerdictValues.{VerdictValue}
use Rattle.slices.proofs.tally.Tally.verdict.Goals as goal

pub new-requires : goal.new-requires
new-requires c =
    let w = c.self.inside.work in
    let C : TallyValue → Type 0 = λ x. IsCover (test_size x.work.test) x.spans in
    rw (c.in_ok-share.ensures, c.in_ok-share-2.ensures) (tally_verdict w.test w.model.items c.self.inside.spans.items c.self.inside.found (subst C (sym c.self.view_is) c.requires) c.self.invariant)

pub returns-clause-right : goal.returns-clause-right
returns-clause-right c =
    let w = c.self.inside.work in
    let C : TallyValue → Type 0 = λ x. IsCover (test_size x.work.test) x.spans in
    let V : VerdictValue → Type 0 = λ v. IsVerdict v.work.test v.work.model.items v.finding in
    subst V (sym c.new.ensures) (rw (c.in_ok-share.ensures, c.in_ok-share-2.ensures) (tally_verdict w.test w.model.items c.self.inside.spans.items c.self.inside.found (subst C (sym c.self.view_is) c.requires) c.self.invariant))

pub returns-clause-work : goal.returns-clause-work
returns-clause-work c = ap (λ (v : VerdictValue). v.work) c.new.ensures ∙ c.in_ok-share.ensures ∙ ap (λ (t : TallyValue). t.work) c.self.view_is
