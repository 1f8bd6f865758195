use Rattle.std.proofs.Common.{◌≡◌, subst, sym}
use Rattle.std.specs.Prelude.{IfOk}
use Rattle.journal.specs.Lines.{seen}
use Rattle.scripts.specs.Answers.{Asks}
use Rattle.scripts.specs.Passes.{IsAnswered, IsCall, session_receipts}
use Rattle.scripts.proofs.Seated.{answered_with}
use Rattle.scripts.proofs.seats.Seats.ask.Goals as goal

pub returns-in-Ok-clause-call : goal.returns-in-Ok-clause-call
returns-in-Ok-clause-call g c =
    let receipts = session_receipts c.args.self.now.passes.items in
    answered_with c.args.seat c.args.self.now.passes.items _ _ (λ said. said ≡ seen c.in-Ok.command) (Asks receipts c.args.request)
    (λ said e. subst (Asks receipts c.args.request) (sym e) (c.in-Ok.ensures.asks receipts)) c.apply.ensures.call

pub returns-in-Err-clause-call : goal.returns-in-Err-clause-call
returns-in-Err-clause-call g c =
    let before = c.args.self.now.passes.items in
    subst (λ r. IfOk c.return_piece.result (λ outcome. IsAnswered before c.return_piece.new.self.passes.items outcome (IsCall c.args.seat (Asks (session_receipts before) r)))) (sym c.in-Err.ensures.returns) c.return_piece.ensures.call
