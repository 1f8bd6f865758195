-- The code of listings, by which the prover tells values apart. No contract rests on it.
use Rattle.std.specs.Prelude.{refl, List}
use Rattle.std.specs.Coded.{Coded, code_by, coded×, coded_list}
use Rattle.journal.specs.Listed.{Catalogue}
use Rattle.journal.specs.contracts.listing.Loaded.{the_row as loaded_row}
use Rattle.journal.specs.contracts.listing.JobRow.{the_row as job_row}
use Rattle.journal.specs.declared.listing.Loaded.{Loaded}
use Rattle.journal.specs.declared.listing.JobRow.{JobRow}

abbrev pub coded_catalogue : Coded Catalogue
coded_catalogue =
    code_by (List Loaded × (List Loaded × List JobRow)) (coded× (coded_list loaded_row.coded) (coded× (coded_list loaded_row.coded) (coded_list job_row.coded)))
    (λ l. (l.tests, (l.cats, l.jobs))) (λ p. record { tests = p.0; cats = p.1.0; jobs = p.1.1 }) (λ _. refl)
