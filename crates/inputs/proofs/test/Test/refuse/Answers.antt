use Rattle.std.proofs.Common.{refl}
use Rattle.inputs.proofs.test.Test.refuse.Goals as goal

pub returns-clause-told : goal.returns-clause-told
returns-clause-told c =
    let told = c.in_ok-refuse.ensures in
    record {
      wanted = c.wanted.result;
      as_asked = c.wanted.ensures;
      tested = record { path = c.args.self.now.path; text = c.deref.result; cases = c.deref-2.result; milliseconds = c.args.milliseconds };
      same_test = record { path_is = refl; text_is = c.deref.ensures.value; cases_are = rw c.deref-2.ensures.value c.in_ok-cases.ensures };
      time_is = refl;
      lines = told.lines;
      rows = told.rows;
      message = rw (← c.deref.ensures.value) told.message;
      differs = told.differs;
      why = (told.why, told.dot);
    }
