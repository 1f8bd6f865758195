use Rattle.std.proofs.Common.{rules}
use Rattle.scripts.proofs.Pieces.{given, none_of_all, none_of_none, shorter, whole_front}
use Rattle.scripts.proofs.seats.piece_among.Goals as goal

pub loop-last-init : goal.loop-last-init
loop-last-init c = (λ all. all, whole_front c.args.receipts.now)

pub loop-last-preserved : goal.loop-last-preserved
loop-last-preserved c = (
  λ others. c.loop-last.invariant.0 (none_of_all c.args.claim c.loop-last.rest.now c.in-Some.before.now c.in-Some.last.now (search rules) (search rules) others),
  shorter _ c.loop-last.rest.now c.in-Some.before.now c.in-Some.last.now (search rules) c.loop-last.invariant.1,
)

pub returns-in-Some-piece_of : goal.returns-in-Some-piece_of
returns-in-Some-piece_of c =
    given c.args.claim c.in-Some-piece_of.piece.now _ c.loop-last.rest.now c.in-Some.before.now c.in-Some.last.now (search rules) c.loop-last.invariant.1 (search rules) (search rules)

pub returns : goal.returns
returns c = c.loop-last.invariant.0 (none_of_none c.args.claim c.loop-last.rest.now c.in_default.ensures.cases)
