use Rattle.std.proofs.Common.{◌≡◌, drop, filter, map}
use Rattle.c11_threads.specs.Unrolled.{may_read, having_read, read_runs}
use Rattle.c11_threads.specs.Ways.{extended}
use Rattle.c11_threads.proofs.setting.Setting.read_each.Given as goal

abbrev pub invariant-loop-value : goal.invariant-loop-value
invariant-loop-value l = extended (map (having_read l.reading l.from) (filter (may_read l.self.values l.reading.behind) (drop l.value-index l.self.values))) l.ends ≡ extended (read_runs l.self l.reading l.from) l.fn.ends
