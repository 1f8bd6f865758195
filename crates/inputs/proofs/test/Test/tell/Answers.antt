use Rattle.std.proofs.Common.{ap, sym, refl, subst, ◌∙◌, map}
use Rattle.std.specs.List.{zip}
use Rattle.outcome.specs.Reasons.{AreExplained}
use Rattle.outcome.specs.Rows.{texts_of}
use Rattle.inputs.specs.Telling.{IsWhyAdded}
use Rattle.inputs.proofs.test.Test.tell.Goals as goal

pub returns-then-asked-clause-told : goal.returns-then-asked-clause-told
returns-then-asked-clause-told c =
    let told = c.in_ok-tell.ensures in
    let explained = c.in_ok-explain.ensures in
    let new = c.explain.new.self in
    let pairs = zip c.deref-2.result.now c.args.verdicts.now in
    let why = subst (λ w. AreExplained w.items c.tell.new.self.dot.items pairs new.why.items new.dot.items) told.why explained.why in
    let both = subst (λ d. AreExplained c.args.self.now.told.why.items d.items pairs new.why.items new.dot.items) told.dot why in
    record {
      wanted = c.wanted.result;
      as_asked = c.wanted.ensures;
      tested = record { path = c.args.self.now.path; text = c.deref.result; cases = c.deref-2.result; milliseconds = c.args.milliseconds };
      same_test = record { path_is = refl; text_is = c.deref.ensures.value; cases_are = rw c.deref-2.ensures.value c.in_ok-cases.ensures };
      time_is = refl;
      lines = ap (λ v. v.items) explained.lines ∙ told.lines;
      rows = ap (λ v. map texts_of v.items) explained.rows ∙ told.rows;
      differs = explained.differs ∙ told.differs;
      why = subst (λ e. IsWhyAdded e c.args.self.now.told new c.deref-2.result.now c.args.verdicts.now) (sym c.if-asked.true) both;
      message = explained.message ∙ told.message;
    }

pub returns-clause-told : goal.returns-clause-told
returns-clause-told c =
    let told = c.in_ok-tell.ensures in
    record {
      wanted = c.wanted.result;
      as_asked = c.wanted.ensures;
      tested = record { path = c.args.self.now.path; text = c.deref.result; cases = c.deref-2.result; milliseconds = c.args.milliseconds };
      same_test = record { path_is = refl; text_is = c.deref.ensures.value; cases_are = rw c.deref-2.ensures.value c.in_ok-cases.ensures };
      time_is = refl;
      lines = told.lines;
      rows = told.rows;
      differs = told.differs;
      why = subst (λ e. IsWhyAdded e c.args.self.now.told c.tell.new.self c.deref-2.result.now c.args.verdicts.now) (sym c.if-asked.false) (told.why, told.dot);
      message = told.message;
    }
