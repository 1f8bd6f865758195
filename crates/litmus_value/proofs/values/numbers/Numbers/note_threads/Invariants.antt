use Rattle.std.proofs.Common.{◌≡◌, drop}
use Rattle.litmus_value.specs.Gathering.{gathered, all_noted, AreFew}
use Rattle.litmus_value.specs.Values.{numerals_among}
use Rattle.litmus_value.proofs.values.numbers.Numbers.note_threads.Given as goal

-- what is left to note gives what all of it gives
abbrev pub invariant-loop-thread : goal.invariant-loop-thread
invariant-loop-thread l = record {
  rest : all_noted (gathered l.self) (numerals_among (drop l.thread-index l.threads)) ≡ all_noted (gathered l.fn.self) (numerals_among l.threads);
  within : AreFew l.self.values.items;
}
