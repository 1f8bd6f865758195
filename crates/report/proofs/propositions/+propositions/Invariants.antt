use Rattle.std.proofs.Common.{◌≡◌, map, take}
use Rattle.std.specs.Io.KnownBytes.{Appends}
use Rattle.conditions.specs.Conditions.{growth_of}
use Rattle.report.specs.declared.propositions.Root.TheVariants.{Simple}
use Rattle.report.specs.Chains.{root_after}
use Rattle.report.proofs.Printing.{backs_to}
use Rattle.report.proofs.propositions.+propositions.Given as goal

-- what is written is what the links so far put behind
abbrev pub invariant-write_backs-loop-link : goal.invariant-write_backs-loop-link
invariant-write_backs-loop-link g l =
    (l.root ≡ root_after Simple (map growth_of (take l.link-index l.links.items))) × Appends (g.W.Sink.held l.fn.writer) (g.W.Sink.held l.writer) (backs_to Simple l.links.items l.link-index)
