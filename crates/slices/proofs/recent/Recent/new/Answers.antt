use Rattle.std.proofs.Common.{ap}
use Rattle.slices.specs.declared.recent.Known.{Known}
use Rattle.slices.proofs.Recently.{none_known, same_of}
use Rattle.slices.proofs.recent.Recent.new.Goals as goal

pub returns : goal.returns
returns c v base room k p = none_known v base k room (ap (λ (j : Known). j.number) (same_of 8 _ k p))
