-- The code of named tests, by which the prover tells values apart. No contract rests on it.
use Rattle.std.specs.Prelude.{List}
use Rattle.std.specs.Coded.{Coded, coded×, coded_list, coded_ℕ}
use Rattle.litmus_tree.specs.Tree.{Word}
use Rattle.book.specs.contracts.names.TestSlot.{the_row as test_row}
use Rattle.book.specs.declared.names.TestSlot.{TestSlot}

abbrev pub coded_tests : Coded (List (Word × TestSlot))
coded_tests = coded_list (coded× (coded_list coded_ℕ) test_row.coded)
