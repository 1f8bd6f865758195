use Rattle.std.proofs.Common.{◌≡◌, ◌++◌, take, ℕ, List}
use Rattle.cat_model.specs.Weights.{AreWithin}
use Rattle.cat_model.proofs.weights.wait_within.Given as goal

abbrev pub invariant-loop-time : goal.invariant-loop-time
invariant-loop-time l = (ps : List ℕ) × (l.waiting.items ≡ l.fn.waiting.items ++ ps) × AreWithin l.measure l.weight ps (take l.time-index l.times)
