use Rattle.cat_eval.specs.Machine.{HasMade}
use Rattle.cat_eval.proofs.Refuted.{Standing}
use Rattle.cat_eval.proofs.machine.Machine.refutes.Given as goal

abbrev pub invariant-loop-number : goal.invariant-loop-number
invariant-loop-number l = record {
  machine : HasMade l.self l.values l.made;
  standing : Standing l.self.view.now l.self.code.steps.now l.self.code.items.now l.growths l.values l.number;
}
