-- The code of passes, by which the prover tells values apart. No contract rests on it.
use Rattle.std.specs.Prelude.{refl, ℕ, List}
use Rattle.std.specs.Coded.{Coded, code_by, coded×, coded_list, coded_ℕ}
use Rattle.journal.specs.LineCodes.{coded_line}
use Rattle.journal.specs.Lines.{Line}
use Rattle.sessions.specs.Views.{PassView}
use Rattle.sessions.specs.contracts.passes.Counts.{the_row as counts_row}
use Rattle.sessions.specs.declared.passes.Counts.{Counts}

abbrev pub coded_pass : Coded PassView
coded_pass =
    code_by (ℕ × (List Line × (Counts × ℕ))) (coded× coded_ℕ (coded× (coded_list coded_line) (coded× counts_row.coded coded_ℕ)))
    (λ p. (p.seat, (p.receipts, (p.counts, p.parts)))) (λ q. record { seat = q.0; receipts = q.1.0; counts = q.1.1.0; parts = q.1.1.1 }) (λ _. refl)
