use Rattle.std.proofs.Common.{◌≡◌, ◌∙◌, ℕ, ap, sym, subst}
use Rattle.slices.specs.Parts.{IsAdmitted, test_size}
use Rattle.slices.specs.Tallies.{TallyValue}
use Rattle.slices.specs.Works.{WorkValue}
use Rattle.book.specs.Results.{IsTied}
use Rattle.book.specs.Step.{IsCut}
use Rattle.book.proofs.Results.{fresh_tied, none_returned}
use Rattle.book.proofs.jobs.Job.new.Goals as goal

pub invariant_of-result : goal.invariant_of-result
invariant_of-result c =
    let A : WorkValue → Type 0 = λ w. IsAdmitted w.test in
    let size : c.size.result ≡ test_size c.args.work.test = c.size.ensures.size ∙ ap (λ (w : WorkValue). test_size w.test) c.work.ensures in
    let C : ℕ → Type 0 = λ n. IsCut n c.in_ok-slices.slices.items in
    let P : TallyValue → Type 0 = λ r. IsTied r c.in_ok-slices.slices.items in
    record {
      tied = subst P (sym c.in_ok-tally.ensures) (fresh_tied c.args.work c.in_ok-slices.slices.items (subst C size c.in_ok-slices.ensures) c.requires (subst A c.work.ensures c.size.ensures.admitted));
      counted = none_returned c.in_ok-slices.slices.items (subst C size c.in_ok-slices.ensures).fresh;
      kept = tt;
    }

pub returns-clause-cut : goal.returns-clause-cut
returns-clause-cut c =
    let size : c.size.result ≡ test_size c.args.work.test = c.size.ensures.size ∙ ap (λ (w : WorkValue). test_size w.test) c.work.ensures in
    let C : ℕ → Type 0 = λ n. IsCut n c.in_ok-slices.slices.items in
    subst C size c.in_ok-slices.ensures
