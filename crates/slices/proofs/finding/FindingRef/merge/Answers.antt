use Rattle.std.proofs.Common.{◌∙◌, ap, sym, subst}
use Rattle.std.specs.Prelude.{OnOk}
use Rattle.slices.specs.Findings.{FindingValue}
use Rattle.slices.specs.Sums.{IsSum}
use Rattle.slices.proofs.Told.{adds_nothing, adds_up, nothing_adds, on_ok}
use Rattle.slices.proofs.finding.FindingRef.merge.Goals as goal

pub returns-then-is_nothing-clause-merged : goal.returns-then-is_nothing-clause-merged
returns-then-is_nothing-clause-merged c =
    let same = c.deref.ensures ∙ c.self.view_is in
    let z = c.is_nothing.ensures c.if-is_nothing.true in
    rw (c.drop.view_is, c.in_ok-self-inside.ensures) (nothing_adds c.args.self.now c.args.other.now (sym (ap (λ (v : FindingValue). v.positive) same) ∙ z.0) (sym (ap (λ (v : FindingValue). v.negative) same) ∙ z.1))

pub returns-then-is_nothing-2-clause-merged : goal.returns-then-is_nothing-2-clause-merged
returns-then-is_nothing-2-clause-merged c =
    let same = c.deref-2.ensures ∙ c.other.view_is in
    let z = c.is_nothing-2.ensures c.if-is_nothing-2.true in
    adds_nothing c.args.self.now c.args.other.now (sym (ap (λ (v : FindingValue). v.positive) same) ∙ z.0) (sym (ap (λ (v : FindingValue). v.negative) same) ∙ z.1)

pub returns-in-Some-clause-merged : goal.returns-in-Some-clause-merged
returns-in-Some-clause-merged c =
    let own = c.in-Some.ensures.value ∙ c.self.view_is in
    let other = c.deref-in-Some.ensures ∙ c.other.view_is in
    let V : FindingValue → Type 0 = λ v. OnOk c.merge.result (IsSum v c.deref-in-Some.result.now c.merge.new.self) in
    let W : FindingValue → Type 0 = λ w. OnOk c.merge.result (IsSum c.args.self.now w c.merge.new.self) in
    on_ok c.merge.result (adds_up c.args.self.now c.args.other.now c.merge.new.self) (subst W other (subst V own c.merge.ensures.merged))

pub returns-in_ok-self-inside-in-None-clause-merged : goal.returns-in_ok-self-inside-in-None-clause-merged
returns-in_ok-self-inside-in-None-clause-merged c =
    let own = c.deref-in-None.ensures ∙ c.self.view_is in
    let other = c.deref-in-None-2.ensures ∙ c.other.view_is in
    let V : FindingValue → Type 0 = λ v. IsSum v c.deref-in-None-2.result.now c.in_ok-merged-in-None.field-0 in
    let W : FindingValue → Type 0 = λ w. IsSum c.args.self.now w c.in_ok-merged-in-None.field-0 in
    rw (c.drop-in-None.view_is, c.in_ok-self-inside-in-None.ensures) (adds_up c.args.self.now c.args.other.now c.in_ok-merged-in-None.field-0 (subst W other (subst V own c.in_ok-merged-in-None.ensures)))
