use Rattle.std.proofs.Common.{List, ℕ}
use Rattle.scripts.specs.Spelled.{Begins, IsBad}
use Rattle.scripts.specs.declared.instruction.Instruction.{Instruction}
use Rattle.scripts.specs.declared.instruction.Instruction.TheVariants.{Call, Work}
use Rattle.scripts.proofs.laws.bad_lines.Goals as goal

none : (line : List ℕ) (instruction : Instruction) → IsBad line → ¬ Begins line instruction
none line (Call seat request) bad begins = bad.1 seat begins.0 begins.3 begins.4 begins.1
none line Work bad begins = bad.0 begins

pub returns : goal.returns
returns c line instruction bad begins = none line instruction bad begins
