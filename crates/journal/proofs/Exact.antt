-- The derived `==` is true exactly of equal values.
use Rattle.std.proofs.Common.{rules}
use Rattle.std.specs.Prelude.{◌≡◌}
use Rattle.std.specs.Bool.{Decides}
use Rattle.slices.specs.Codes.{coded_work, coded_piece, coded_piece_result, coded_verdict}
use Rattle.slices.specs.Same.{same_exact}
use Rattle.journal.specs.Equality.{same_returned, same_command, same_said, same_replacement, same_refusal, same_loaded, same_row, same_reply}
use Rattle.journal.specs.ListCodes.{coded_catalogue}
use Rattle.journal.specs.declared.records.Returned.{Returned}
use Rattle.journal.specs.declared.records.Command.{Command}
use Rattle.journal.specs.declared.records.Said.{Said}
use Rattle.journal.specs.declared.records.Replacement.{Replacement}
use Rattle.journal.specs.declared.records.Refusal.{Refusal}
use Rattle.journal.specs.declared.listing.Loaded.{Loaded}
use Rattle.journal.specs.declared.listing.JobRow.{JobRow}
use Rattle.journal.specs.declared.records.Reply.{Reply}

pub returned_exact : (a b : Returned) → Decides (same_returned a b) (a ≡ b)
returned_exact a b = search (rules, same_exact coded_work)

pub command_exact : (a b : Command) → Decides (same_command a b) (a ≡ b)
command_exact a b = search (rules, same_exact coded_piece_result)

pub said_exact : (a b : Said) → Decides (same_said a b) (a ≡ b)
said_exact a b = search (rules, returned_exact)

pub replacement_exact : (a b : Replacement) → Decides (same_replacement a b) (a ≡ b)
replacement_exact a b = search rules

pub refusal_exact : (a b : Refusal) → Decides (same_refusal a b) (a ≡ b)
refusal_exact a b = search (rules, replacement_exact)

pub loaded_exact : (a b : Loaded) → Decides (same_loaded a b) (a ≡ b)
loaded_exact a b = search rules

pub row_exact : (a b : JobRow) → Decides (same_row a b) (a ≡ b)
row_exact a b = search rules

pub reply_exact : (a b : Reply) → Decides (same_reply a b) (a ≡ b)
reply_exact a b = search (rules, refusal_exact, same_exact coded_piece, same_exact coded_verdict, same_exact coded_catalogue)
