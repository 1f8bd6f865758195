use Rattle.std.proofs.Common.{◌≡◌, ◌+◌, ◌∙◌, ap, sym}
use Rattle.slices.specs.Parts.{PieceValue, test_size}
use Rattle.slices.specs.Tallies.{cut}
use Rattle.slices.specs.Works.{WorkValue}
use Rattle.slices.proofs.Cuts.{slice_range}
use Rattle.slices.proofs.tally.slice_of.Goals as goal

pub new-requires : goal.new-requires
new-requires c =
    let size : c.size-size.result ≡ test_size c.in_ok-share.field-0.test = c.size-size.ensures.size ∙ ap (λ (w : WorkValue). test_size w.test) (c.work.ensures ∙ sym c.in_ok-share.ensures) in
    slice_range c.in_ok-share.field-0.test c.size-size.result c.args.total c.args.slice c.cut-from.result c.cut-to.result size c.requires c.cut-from.ensures c.cut-to.ensures

pub returns-clause-work : goal.returns-clause-work
returns-clause-work c = ap (λ (p : PieceValue). p.work) c.new.ensures ∙ c.in_ok-share.ensures

pub returns-clause-from : goal.returns-clause-from
returns-clause-from c =
    let size : c.size-size.result ≡ test_size c.args.work.now.test = c.size-size.ensures.size ∙ ap (λ (w : WorkValue). test_size w.test) c.work.ensures in
    ap (λ (p : PieceValue). p.from) c.new.ensures ∙ c.cut-from.ensures ∙ ap (λ n. cut n c.args.total c.args.slice) size

pub returns-clause-to : goal.returns-clause-to
returns-clause-to c =
    let size : c.size-size.result ≡ test_size c.args.work.now.test = c.size-size.ensures.size ∙ ap (λ (w : WorkValue). test_size w.test) c.work.ensures in
    ap (λ (p : PieceValue). p.to) c.new.ensures ∙ c.cut-to.ensures ∙ ap (λ n. cut n c.args.total (c.args.slice + 1)) size
