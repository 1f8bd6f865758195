use Rattle.std.proofs.Common.{subst}
use Rattle.conditions.specs.States.{AreObserved}
use Rattle.slices.specs.Works.{WorkValue}
use Rattle.slices.proofs.Told.{nothing_told}
use Rattle.slices.proofs.finding.Finding.nothing.Goals as goal

pub returns : goal.returns
returns c =
    nothing_told c.args.work.test c.in_ok-places.places.value.items c.new.result.keys c.new-2.result.items
    (let O : WorkValue → Type 0 = λ w. AreObserved w.test.condition w.test.listed c.in_ok-places.places.value.items in subst O c.work.ensures c.in_ok-places.ensures)
    c.new.ensures.empty c.new-2.ensures.items
