-- The tests that the derived `==` makes.
use Rattle.std.specs.Prelude.{Bool}
use Rattle.journal.specs.contracts.records.ReturnedPartialEq.TheImpl.{ghosts as returned_equality}
use Rattle.journal.specs.contracts.records.CommandPartialEq.TheImpl.{ghosts as command_equality}
use Rattle.journal.specs.contracts.records.SaidPartialEq.TheImpl.{ghosts as said_equality}
use Rattle.journal.specs.contracts.records.ReplacementPartialEq.TheImpl.{ghosts as replacement_equality}
use Rattle.journal.specs.contracts.records.RefusalPartialEq.TheImpl.{ghosts as refusal_equality}
use Rattle.journal.specs.contracts.listing.LoadedPartialEq.TheImpl.{ghosts as loaded_equality}
use Rattle.journal.specs.contracts.listing.JobRowPartialEq.TheImpl.{ghosts as row_equality}
use Rattle.journal.specs.contracts.records.ReplyPartialEq.TheImpl.{ghosts as reply_equality}
use Rattle.journal.specs.declared.records.Returned.{Returned}
use Rattle.journal.specs.declared.records.Command.{Command}
use Rattle.journal.specs.declared.records.Said.{Said}
use Rattle.journal.specs.declared.records.Replacement.{Replacement}
use Rattle.journal.specs.declared.records.Refusal.{Refusal}
use Rattle.journal.specs.declared.listing.Loaded.{Loaded}
use Rattle.journal.specs.declared.listing.JobRow.{JobRow}
use Rattle.journal.specs.declared.records.Reply.{Reply}

abbrev pub same_returned : Returned → Returned → Bool
same_returned = returned_equality.eq

abbrev pub same_command : Command → Command → Bool
same_command = command_equality.eq

abbrev pub same_said : Said → Said → Bool
same_said = said_equality.eq

abbrev pub same_replacement : Replacement → Replacement → Bool
same_replacement = replacement_equality.eq

abbrev pub same_refusal : Refusal → Refusal → Bool
same_refusal = refusal_equality.eq

abbrev pub same_loaded : Loaded → Loaded → Bool
same_loaded = loaded_equality.eq

abbrev pub same_row : JobRow → JobRow → Bool
same_row = row_equality.eq

abbrev pub same_reply : Reply → Reply → Bool
same_reply = reply_equality.eq
