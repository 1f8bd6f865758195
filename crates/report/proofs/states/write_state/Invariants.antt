use Rattle.std.proofs.Common.{◌≡◌, ◌++◌, ℕ, List, map}
use Rattle.std.specs.Io.KnownBytes.{Appends}
use Rattle.std.specs.List.{join_with_byte, zip}
use Rattle.report.specs.Texts.{binding_text}
use Rattle.report.proofs.Bindings.{left}
use Rattle.report.proofs.states.write_state.Given as goal

abbrev pub invariant-loop-place : goal.invariant-loop-place
invariant-loop-place g l =
    (front : List ℕ) × Appends (g.W.Sink.held l.initial.writer) (g.W.Sink.held l.writer) front × (join_with_byte 32 (map binding_text (zip l.places l.values)) ≡ front ++ left l.separator (zip l.place-iterator.a.rest.now l.place-iterator.b.rest.now))
