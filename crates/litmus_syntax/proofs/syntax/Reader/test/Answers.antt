use Rattle.litmus_syntax.specs.Reading.{test_at}
use Rattle.litmus_syntax.proofs.Stops.{stopped, ended}
use Rattle.litmus_syntax.proofs.syntax.Reader.test.Goals as goal

-- what a part refuses

pub returns-in_err-entries : goal.returns-in_err-entries
unfolding test_at
returns-in_err-entries c = rw (c.in_ok-language.ensures, c.in_ok-word.ensures) (stopped _ _ _ _ _ _ _ c.in_err-entries.ensures c.from_residual-in_err-entries.ensures.1)

pub returns-in_err-bodies : goal.returns-in_err-bodies
unfolding test_at
returns-in_err-bodies c = rw (c.in_ok-language.ensures, c.in_ok-word.ensures, c.in_ok-entries.ensures) (stopped _ _ _ _ _ _ _ c.in_err-bodies.ensures c.from_residual-in_err-bodies.ensures.1)

pub returns-in_err-listed : goal.returns-in_err-listed
unfolding test_at
returns-in_err-listed c = rw (c.in_ok-language.ensures, c.in_ok-word.ensures, c.in_ok-entries.ensures, c.in_ok-bodies.ensures) (stopped _ _ _ _ _ _ _ c.in_err-listed.ensures c.from_residual-in_err-listed.ensures.1)

pub returns-in_err-condition : goal.returns-in_err-condition
unfolding test_at
returns-in_err-condition c = rw (c.in_ok-language.ensures, c.in_ok-word.ensures, c.in_ok-entries.ensures, c.in_ok-bodies.ensures, c.in_ok-listed.ensures) (stopped _ _ _ _ _ _ _ c.in_err-condition.ensures c.from_residual-in_err-condition.ensures.1)

pub returns : goal.returns
unfolding test_at
returns c = rw (c.in_ok-language.ensures, c.in_ok-word.ensures, c.in_ok-entries.ensures, c.in_ok-bodies.ensures, c.in_ok-listed.ensures, c.in_ok-condition.ensures, ← c.in_ok-name.ensures, c.and.ensures) (ended _ c.end.result _ _ _ c.end.ensures)
