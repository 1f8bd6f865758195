-- The code of a list of entries, by which the prover tells values of a modelled type apart. No contract rests on it.
use Rattle.std.specs.Prelude.{List}
use Rattle.std.specs.Coded.{Coded, coded_list}
use Rattle.cat_model.specs.contracts.files.Entry.{the_row as entry_row}
use Rattle.cat_model.specs.declared.files.Entry.{Entry}

abbrev pub coded_entries : Coded (List Entry)
coded_entries = coded_list entry_row.coded
