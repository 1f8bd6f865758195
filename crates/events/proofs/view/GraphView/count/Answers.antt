use Rattle.std.proofs.Common.{◌∙◌, ◌≤◌, ℕ, subst}
use Rattle.events.proofs.Shapes.{count_same}
use Rattle.events.proofs.view.GraphView.count.Goals as goal

pub returns-clause-is : goal.returns-clause-is
returns-clause-is c = c.count.ensures.is ∙ count_same c.numbered.result c.args.self.now c.numbered.ensures

pub returns-clause-few : goal.returns-clause-few
returns-clause-few c = let P : ℕ → Type 0 = λ n. n ≤ 64 in subst P (count_same c.numbered.result c.args.self.now c.numbered.ensures) c.count.ensures.few
