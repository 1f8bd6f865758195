use Rattle.std.proofs.Common.{◌≡◌, ◌++◌, ℕ, List}
use Rattle.std.specs.Io.KnownBytes.{Appends}
use Rattle.std.specs.List.{flat_map}
use Rattle.report.specs.Texts.{state_line}
use Rattle.report.proofs.states.write_held.Given as goal

-- the lines of some states are written or held back, and the other states are left
abbrev pub invariant-loop-state : goal.invariant-loop-state
invariant-loop-state g l =
    (done : List (List ℕ)) × (sent : List ℕ) × (done ++ l.state-iterator ≡ l.states.keys) × Appends (g.W.Sink.held l.initial.writer) (g.W.Sink.held l.writer) sent × (sent ++ l.page.items ≡ flat_map (state_line l.places) done)
