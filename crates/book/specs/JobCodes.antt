-- Codes of jobs and workbenches, by which the prover tells values apart. No contract rests on them.
use Rattle.std.specs.Prelude.{refl, ℕ, List}
use Rattle.std.specs.Coded.{Coded, code_by, coded×, coded_list, coded_ℕ}
use Rattle.slices.specs.Codes.{coded_work}
use Rattle.book.specs.Jobs.{Job}
use Rattle.book.specs.contracts.slice.Slice.{the_row as slice_row}
use Rattle.book.specs.declared.slice.Slice.{Slice}
use Rattle.slices.specs.Works.{WorkValue}

abbrev pub coded_job : Coded Job
coded_job =
    code_by (ℕ × (ℕ × (WorkValue × List Slice))) (coded× coded_ℕ (coded× coded_ℕ (coded× coded_work (coded_list slice_row.coded))))
    (λ j. (j.number, (j.version, (j.work, j.slices)))) (λ p. record { number = p.0; version = p.1.0; work = p.1.1.0; slices = p.1.1.1 }) (λ _. refl)
