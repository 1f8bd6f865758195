use Rattle.std.proofs.lemmas.Bool.{false≢true}
use Rattle.events.proofs.Places.{no_control}
use Rattle.events.proofs.graph.Graph.is_control_dependency.Goals as goal

pub returns-in-None : goal.returns-in-None
returns-in-None c = (
  λ t. absurd (false≢true t),
  λ h. absurd (no_control c.args.self.now c.args.first c.args.second c.in-Own.thread c.in-Own.place c.in-Own.is c.in-None.ensures h),
)

pub returns-in-Some : goal.returns-in-Some
returns-in-Some c = rw c.in-Own.is (rw c.in-Some.ensures at c.is_dependency.ensures)
