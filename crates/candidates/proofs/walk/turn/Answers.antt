use Rattle.std.proofs.Common.{ℕ, List, length, subst, sym, ap, ◌∙◌}
use Rattle.candidates.specs.Readings.{IsPage}
use Rattle.events.specs.Executions.{GraphValue}
use Rattle.candidates.proofs.walk.turn.Goals as goal

pub turned-requires-clause-page : goal.turned-requires-clause-page
turned-requires-clause-page c = let P : List ℕ → Type 0 = λ is. IsPage (length is) c.args.scene.now.stretch.page in subst P (sym (ap (λ (x : GraphValue). x.init) (c.replace-graph.ensures.value ∙ c.requires.seen.0))) c.requires.page
