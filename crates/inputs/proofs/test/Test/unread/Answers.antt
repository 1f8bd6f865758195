use Rattle.inputs.proofs.test.Test.unread.Goals as goal

pub returns-clause-read : goal.returns-clause-read
returns-clause-read c = (
  record { lines = c.new-told.ensures.lines; why = c.new-told.ensures.why; dot = c.new-told.ensures.dot; rows = c.new-told.ensures.rows; differs = c.new-told.ensures.differs },
  (c.as_str-why.result.now, c.in_ok-told.ensures.ok),
)
