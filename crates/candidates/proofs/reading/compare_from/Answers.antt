use Rattle.std.proofs.Common.{◌≡◌, ◌∙◌, ℕ, List, subst, arith}
use Rattle.events.specs.declared.event.Event.{Event}
use Rattle.candidates.specs.Executions.{reads}
use Rattle.candidates.specs.Readings.{IsFit}
use Rattle.candidates.proofs.reading.compare_from.Goals as goal

pub returns : goal.returns
returns c =
    let init = c.args.init.now in
    let page = c.args.page.now in
    let P : ℕ → Type 0 = λ n. IsFit init page.runs.items (reads page.runs.items) n c.compare_kept.result in
    let Q : List Event → Type 0 = λ es. IsFit init page.runs.items es 0 c.compare_kept.result in
    subst P (let e : 0 ≡ c.args.number = omega (arith, c.if-number-gt0.false) in e) (subst Q (c.deref-2.ensures.value ∙ c.requires.page.reads_are) (c.compare_kept.ensures init c.requires.fits))
