use Rattle.std.proofs.lemmas.Result.{IfOk-weaker}
use Rattle.slices.proofs.Refuting.{pair_named}
use Rattle.slices.proofs.pair.Pair.is_misplaced.Goals as goal

pub is_refuted-requires-clause-named : goal.is_refuted-requires-clause-named
is_refuted-requires-clause-named c = pair_named c.args.graph.now c.args.self c.runs.ensures.graph c.requires.pair

pub returns-clause-misplaced : goal.returns-clause-misplaced
returns-clause-misplaced c =
    IfOk-weaker c.is_refuted.result _ _ (λ known r t x same has. r t x same (λ k w s. absurd s) has) c.is_refuted.ensures.refuted
