use Rattle.std.proofs.Common.{[], ◌∷◌, ◌∙◌, Some, ap}
use Rattle.litmus_tree.specs.Tree.{term_of}
use Rattle.c11_threads.specs.Runs.{Progress}
use Rattle.c11_threads.specs.Unrolled.{giving, given_at}
use Rattle.c11_threads.specs.Ways.{Ways, led}
use Rattle.c11_threads.proofs.Turns.{in_each}
use Rattle.c11_threads.proofs.ways.Ways.giving.Goals as goal

pub returns : goal.returns
returns c =
    let give : Progress → Progress = λ p. giving (Some c.args.register) (given_at c.args.setting.now p (term_of c.args.expression.now)) p in
    let starts : Ways = record { ends = c.self.inside.ends.items; waiting = c.self.inside.waiting; thread = c.self.inside.thread } in
    in_each give starts c.give_each.result.items c.give_each.ensures ∙ ap (led (λ p. give p ∷ [])) c.self.view_is
