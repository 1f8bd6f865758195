use Rattle.std.proofs.Common.{◌-◌, subst, sym}
use Rattle.std.specs.Prelude.{IfOk}
use Rattle.scripts.specs.Spelled.{IsSeated}
use Rattle.scripts.specs.Answers.{Answers}
use Rattle.scripts.specs.Passes.{IsAnswered, session_receipts}
use Rattle.scripts.proofs.Seated.{no_piece_to_return, ok_instruction_answered}
use Rattle.scripts.proofs.seats.Seats.call.Goals as goal

pub returns-in-Call-clause-answered : goal.returns-in-Call-clause-answered
returns-in-Call-clause-answered g c =
    let before = c.args.self.now.passes.items in
    let seated = subst IsSeated c.in-Call.is c.requires.seated in
    subst (λ instruction. IfOk c.ask.result (λ outcome. IsAnswered before c.ask.new.self.passes.items outcome (Answers (c.args.self.now.desk - 8) (session_receipts before) instruction))) (sym c.in-Call.is)
    (ok_instruction_answered (c.args.self.now.desk - 8) c.in-Call.seat (session_receipts before) c.in-Call.request before c.ask.new.self.passes.items c.ask.result seated c.ask.ensures.call)

pub returns-in-Call-clause-none : goal.returns-in-Call-clause-none
returns-in-Call-clause-none g c =
    no_piece_to_return c.in-Call.seat (session_receipts c.args.self.now.passes.items) c.args.instruction c.in-Call.request c.ask.result c.in-Call.is c.ask.ensures.none
