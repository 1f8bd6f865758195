use Rattle.cat_eval.proofs.Held.{holds_more}
use Rattle.cat_eval.proofs.Running.{ran_none}
use Rattle.cat_eval.proofs.refuting.refutes_by.Goals as goal

pub refutes-refuted-requires : goal.refutes-refuted-requires
refutes-refuted-requires c = record {
  code = c.requires.code;
  absent = c.requires.absent;
  grown = c.requires.grown;
  count = c.requires.count;
  machine = record { graded = c.requires.code.graded; keeps = c.requires.kept; ran = ran_none c.args.view.now c.args.code.now.steps.now c.args.values.now };
}

pub returns-clause-kept : goal.returns-clause-kept
returns-clause-kept c =
    let m = c.refutes-refuted.ensures.machine in
    record {
      long = m.keeps.long;
      holds = holds_more c.args.view.now c.args.code.now.steps.now c.args.code.now.bases.now c.args.kept.now c.with.result c.refutes-refuted.new.values c.refutes-refuted.new.made c.with.ensures.order c.with.ensures.runs c.with.ensures.sources m.ran m.keeps.holds;
    }

pub returns-clause-refuted : goal.returns-clause-refuted
returns-clause-refuted c = c.refutes-refuted.ensures.refuted
