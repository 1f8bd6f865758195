use Rattle.std.proofs.lemmas.Result.{IfOk-weaker}
use Rattle.slices.proofs.Refuting.{refuted_by}
use Rattle.slices.proofs.excerpts.is_refuted.Goals as goal

pub returns-clause-refuted : goal.returns-clause-refuted
returns-clause-refuted c =
    IfOk-weaker c.refutes.result _ _
    (λ known r t. refuted_by c.args.evaluator.now.items c.args.graph.now c.args.sources.now c.args.order.now c.runs.ensures.graph c.requires.named (r t) c.values_apart.ensures) c.refutes.ensures.refuted
