use Rattle.std.proofs.Common.{◌≡◌, [], ap, sym, subst, arith}
use Rattle.conditions.specs.States.{AreObserved}
use Rattle.slices.specs.Findings.{FindingValue}
use Rattle.slices.specs.Verdicts.{Tells}
use Rattle.slices.specs.Works.{WorkValue}
use Rattle.slices.proofs.Told.{sum_again}
use Rattle.slices.proofs.finding.Finding.merged.Goals as goal

pub merge-requires-clause-few : goal.merge-requires-clause-few
merge-requires-clause-few c =
    let told = c.in_ok-both.ensures [] in
    let p : c.in_ok-both.both.positive ≡ 0 = told.positive in
    let n : c.in_ok-both.both.negative ≡ 0 = told.negative in
    let few = c.requires.few in
    let a = few.0 in
    let b = few.1 in
    (omega (arith, p, a), omega (arith, n, b))

pub merge-requires-clause-sorted : goal.merge-requires-clause-sorted
merge-requires-clause-sorted c = (c.in_ok-both.ensures []).sorted

pub merge-requires-2-clause-few : goal.merge-requires-2-clause-few
merge-requires-2-clause-few c =
    let told = c.in_ok-both.ensures [] in
    let p : c.in_ok-both.both.positive ≡ 0 = told.positive in
    let n : c.in_ok-both.both.negative ≡ 0 = told.negative in
    let few = c.requires.few in
    let a = few.0 in
    let b = few.1 in
    let s = c.in_ok-merge.ensures.merged in
    let sp = s.positive in
    let sn = s.negative in
    (omega (arith, p, a, sp), omega (arith, n, b, sn))

pub merge-requires-2-clause-sorted : goal.merge-requires-2-clause-sorted
merge-requires-2-clause-sorted c = c.in_ok-merge.ensures.merged.states.sorted (c.in_ok-both.ensures []).sorted

pub returns : goal.returns
returns c =
    let w = c.self.inside.work in
    let T : WorkValue → Type 0 = λ z. Tells z.test [] [] c.in_ok-both.both in
    let told = subst T c.in_ok-share.ensures (c.in_ok-both.ensures []) in
    let P : FindingValue → Type 0 = λ v. AreObserved w.test.condition w.test.listed v.places in
    let same = c.self.view_is in
    sum_again w.test c.in_ok-both.both c.args.self.now c.args.other.now c.merge.new.self c.merge-2.new.self told (sym (ap (λ (v : FindingValue). v.name) same)) (sym (ap (λ (v : FindingValue). v.kind) same)) (sym (ap (λ (v : FindingValue). v.formula) same)) (subst P same c.self.invariant) c.in_ok-merge.ensures.merged c.in_ok-merge-2.ensures.merged
