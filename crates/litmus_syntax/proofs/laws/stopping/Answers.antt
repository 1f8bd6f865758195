use Rattle.litmus_syntax.proofs.AlikeTests.{is_stuck}
use Rattle.litmus_syntax.proofs.laws.stopping.Goals as goal

pub returns : goal.returns
returns c = is_stuck
