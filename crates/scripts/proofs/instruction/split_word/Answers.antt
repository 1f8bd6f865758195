use Rattle.scripts.proofs.Found.{front, nowhere}
use Rattle.scripts.proofs.instruction.split_word.Goals as goal

pub returns-in-None-clause-word : goal.returns-in-None-clause-word
returns-in-None-clause-word c = nowhere 32 c.args.line.now c.in-None.ensures

pub returns-in-Some-clause-word : goal.returns-in-Some-clause-word
returns-in-Some-clause-word c = front 32 c.args.line.now c.in-Some.place c.in-Some.ensures.0
