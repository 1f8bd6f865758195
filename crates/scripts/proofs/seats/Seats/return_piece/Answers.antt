use Rattle.std.proofs.Common.{◌≡◌, refl, rules, take}
use Rattle.journal.specs.Lines.{seen, shown}
use Rattle.journal.specs.declared.records.Command.TheVariants as commands
use Rattle.journal.specs.declared.records.Said.TheVariants as said_of
use Rattle.book.specs.declared.kept.Refused.TheVariants.{NoMemory}
use Rattle.scripts.specs.declared.instruction.Request.TheVariants.{Return}
use Rattle.scripts.specs.Answers.{Asks}
use Rattle.scripts.specs.Passes.{session_receipts}
use Rattle.scripts.proofs.Pieces.{none_in_all, some_in_all}
use Rattle.scripts.proofs.Seated.{answered_with, not_taken, returns_piece}
use Rattle.scripts.proofs.seats.Seats.return_piece.Goals as goal

pub returns-in-Ok-clause-call : goal.returns-in-Ok-clause-call
returns-in-Ok-clause-call g c =
    let passes = c.args.self.now.passes.items in
    let given = some_in_all c.args.claim c.in-Some.piece.now (take 8 passes) (search rules) in
    answered_with c.args.seat passes _ _ (λ said. said ≡ seen (commands.Return c.in-Ok.part)) (Asks (session_receipts passes) (Return c.args.claim))
    (λ said e. returns_piece (session_receipts passes) c.args.claim c.in-Some.piece.now c.in-Ok.part.piece said given (search rules) e) c.apply.ensures.call

pub returns-in-Err-clause-call : goal.returns-in-Err-clause-call
returns-in-Err-clause-call g c =
    let passes = c.args.self.now.passes.items in
    let piece = c.in-Some.piece.now in
    let given = some_in_all c.args.claim piece (take 8 passes) (search rules) in
    not_taken c.args.seat NoMemory passes _ (Asks (session_receipts passes) (Return c.args.claim)) (said_of.Return (shown piece)) (piece, given, refl) refl

pub returns-in-None-clause-none : goal.returns-in-None-clause-none
returns-in-None-clause-none g c = none_in_all c.args.claim (take 8 c.args.self.now.passes.items) (search rules)
