use Rattle.std.proofs.Common.{ℕ, ◌+◌, ◌∙◌, ap, sym}
use Rattle.slices.specs.Works.{WorkValue}
use Rattle.slices.specs.Parts.{test_size, PieceValue}
use Rattle.slices.specs.Tallies.{cut}
use Rattle.slices.proofs.Cuts.{slice_range}
use Rattle.std.proofs.lemmas.Result.{IfOk-weaker}
use Rattle.suite.specs.Together.{IsSlice}
use Rattle.suite.proofs.together.evaluate_slice.Goals as goal

pub new-requires : goal.new-requires
new-requires c =
    let size = c.size-size.ensures.size ∙ ap (λ (w : WorkValue). test_size w.test) (c.work.ensures ∙ sym c.in_ok-share.ensures) in
    slice_range c.in_ok-share.field-0.test _ c.args.total c.args.slice _ _ size c.requires c.cut-from.ensures c.cut-to.ensures

pub returns : goal.returns
returns c =
    let size = c.size-size.ensures.size ∙ ap (λ (w : WorkValue). test_size w.test) c.work.ensures in
    IfOk-weaker c.evaluate.result _ (IsSlice c.args.work.now c.args.total c.args.slice)
    (λ r is. (
      ap (λ (p : PieceValue). p.work) (is ∙ c.new.ensures) ∙ c.in_ok-share.ensures,
      ap (λ (p : PieceValue). p.from) (is ∙ c.new.ensures) ∙ c.cut-from.ensures ∙ ap (λ (n : ℕ). cut n c.args.total c.args.slice) size,
      ap (λ (p : PieceValue). p.to) (is ∙ c.new.ensures) ∙ c.cut-to.ensures ∙ ap (λ (n : ℕ). cut n c.args.total (c.args.slice + 1)) size,
    ))
    c.evaluate.ensures
