use Rattle.std.proofs.Common.{take}
use Rattle.std.specs.Io.KnownBytes.{Appends}
use Rattle.std.specs.List.{flat_map}
use Rattle.report.specs.Listings.{job_text}
use Rattle.report.proofs.listing.write_jobs.Given as goal

abbrev pub invariant-loop-job : goal.invariant-loop-job
invariant-loop-job g l = Appends (g.W.Sink.held l.initial.writer) (g.W.Sink.held l.writer) (flat_map job_text (take l.job-index l.jobs))
