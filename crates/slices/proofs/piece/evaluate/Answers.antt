use Rattle.candidates.specs.Candidates.{choices_of}
use Rattle.slices.proofs.piece.evaluate.Goals as goal

pub evaluate_in-requires-clause-known : goal.evaluate_in-requires-clause-known
evaluate_in-requires-clause-known c =
    let w = c.args.piece.now.work in
    c.new-pruner.ensures.known (choices_of w.test) w.model.items
