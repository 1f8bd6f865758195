use Rattle.std.proofs.Common.{◌≡◌, length}
use Rattle.cat_eval.specs.Growth.{AreGoing, IsLonger}
use Rattle.cat_eval.proofs.Grown.{RoundsGo}
use Rattle.cat_eval.proofs.growing.grow_steps.Given as goal

abbrev pub invariant-loop-place : goal.invariant-loop-place
invariant-loop-place l = record {
  long : length l.growths.items ≡ l.place;
  going : AreGoing l.change l.steps l.growths.items;
  longer : IsLonger l.fn.growths.items l.growths.items;
  rounds : RoundsGo l.steps l.growths.items (length l.fn.growths.items) l.place l.rounds;
}
