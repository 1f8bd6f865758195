use Rattle.std.proofs.Common.{◌∙◌, length, ap, sym, subst, arith}
use Rattle.std.specs.Prelude.{slice_get}
use Rattle.slices.specs.Parts.{IsRange, PieceValue}
use Rattle.slices.specs.Works.{WorkValue}
use Rattle.book.specs.Jobs.{Job}
use Rattle.book.specs.Step.{HasRange}
use Rattle.book.proofs.Results.{get_here, has_range, is_range}
use Rattle.book.proofs.jobs.Job.piece.Goals as goal

pub new-requires : goal.new-requires
new-requires c =
    let slices = c.self.inside.slices.items in
    let x = c.index-range.result.now in
    let at = get_here slices c.args.slice x (omega (arith, c.requires, ap (λ (j : Job). length j.slices) c.self.view_is)) c.index-range.ensures in
    let work = c.in_ok-work.ensures ∙ c.work.ensures.work ∙ sym (ap (λ (j : Job). j.work) c.self.view_is) in
    let R : WorkValue → Type 0 = λ w. IsRange w.test x.from x.to in
    subst R (sym work) (is_range c.self.inside.tally slices c.args.slice x c.self.invariant.tied at)

pub returns-clause-range : goal.returns-clause-range
returns-clause-range c =
    let slices = c.self.inside.slices.items in
    let x = c.index-range.result.now in
    let at = get_here slices c.args.slice x (omega (arith, c.requires, ap (λ (j : Job). length j.slices) c.self.view_is)) c.index-range.ensures in
    let R : Job → Type 0 = λ j. HasRange (slice_get j.slices c.args.slice) x.from x.to in
    let P : PieceValue → Type 0 = λ p. HasRange (slice_get c.args.self.now.slices c.args.slice) p.from p.to in
    subst P (sym c.new.ensures) (subst R c.self.view_is (has_range slices c.args.slice x at))

pub returns-clause-work : goal.returns-clause-work
returns-clause-work c = ap (λ (p : PieceValue). p.work) c.new.ensures ∙ c.in_ok-work.ensures ∙ c.work.ensures.work
