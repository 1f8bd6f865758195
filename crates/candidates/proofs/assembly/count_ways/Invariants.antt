use Rattle.std.proofs.Common.{◌≡◌, ◌*◌, drop}
use Rattle.listings.specs.Lists.{product_by}
use Rattle.candidates.specs.Readings.{sources_among}
use Rattle.candidates.proofs.assembly.count_ways.Given as goal

abbrev pub invariant-loop-read : goal.invariant-loop-read
invariant-loop-read l = l.product * product_by (sources_among l.writes) (drop l.read-index l.reads) ≡ product_by (sources_among l.writes) l.reads
