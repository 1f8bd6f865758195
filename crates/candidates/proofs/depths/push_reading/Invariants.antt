use Rattle.std.proofs.Common.{◌≡◌, ◌*◌, ◌++◌, drop}
use Rattle.std.specs.List.{All}
use Rattle.listings.specs.Lists.{product_by}
use Rattle.candidates.specs.Blocks.{IsDepth}
use Rattle.candidates.specs.Candidates.{count_co, count_sources}
use Rattle.candidates.specs.Depths.{before_reads, known_of}
use Rattle.candidates.proofs.depths.push_reading.Given as goal

abbrev pub invariant-loop-place : goal.invariant-loop-place
invariant-loop-place l = record {
  size : l.size ≡ count_co l.locations l.page.runs.items * product_by (count_sources l.page.runs.items) (drop l.place l.reads);
  depths : All (IsDepth l.locations l.page.runs.items) l.depths.items;
  known : known_of l.depths.items ++ before_reads l.page.runs.items l.place (drop l.place l.reads) ≡ known_of l.fn.depths.items ++ before_reads l.page.runs.items 0 l.reads;
}
