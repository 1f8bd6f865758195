-- The code of live claims, by which the prover tells values apart. No contract rests on it.
use Rattle.std.specs.Prelude.{ℕ, List}
use Rattle.std.specs.Coded.{Coded, coded×, coded_list, coded_ℕ}
use Rattle.book.specs.contracts.live.Live.{the_row as live_row}
use Rattle.book.specs.declared.live.Live.{Live}

abbrev pub coded_live : Coded (List Live × ℕ)
coded_live = coded× (coded_list live_row.coded) coded_ℕ
