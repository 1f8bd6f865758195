-- Codes of commands and replies, by which the prover tells values apart. No contract rests on them.
use Rattle.std.specs.Coded.{Coded}
use Rattle.journal.specs.contracts.records.Command.{the_row as command_row}
use Rattle.journal.specs.contracts.records.Refusal.{the_row as refusal_row}
use Rattle.journal.specs.contracts.records.Replacement.{the_row as replacement_row}
use Rattle.journal.specs.contracts.records.Reply.{the_row as reply_row}
use Rattle.journal.specs.contracts.records.Returned.{the_row as returned_row}
use Rattle.journal.specs.contracts.records.Said.{the_row as said_row}
use Rattle.journal.specs.declared.records.Returned.{Returned}

abbrev pub coded_returned : Coded Returned
coded_returned = returned_row.coded
