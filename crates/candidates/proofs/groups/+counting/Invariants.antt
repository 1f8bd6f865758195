use Rattle.std.proofs.Common.{◌≡◌, ◌++◌, ◌+◌, ◌*◌, drop, length}
use Rattle.candidates.specs.Groups.{sizes_of}
use Rattle.candidates.proofs.groups.+counting.Given as goal

abbrev pub decreases-group_sizes : goal.decreases-group_sizes
decreases-group_sizes l = 3 * length l.rest.now + 1

abbrev pub decreases-count : goal.decreases-count
decreases-count l = 3 * length l.threads.now

abbrev pub decreases-Groups::sizes : goal.decreases-Groups::sizes
decreases-Groups::sizes l = 3 * length l.rest.now + 2

abbrev pub invariant-group_sizes-loop-group : goal.invariant-group_sizes-loop-group
invariant-group_sizes-loop-group l = l.sizes.items ++ sizes_of l.tally (drop l.group-index l.tallies) l.rest ≡ sizes_of l.tally l.tallies l.rest
