use Rattle.litmus_syntax.proofs.Unspelled.{draft_found, draft_only, draft_cause}
use Rattle.litmus_syntax.proofs.syntax.read_draft.Goals as goal

pub returns-clause-found : goal.returns-clause-found
returns-clause-found c = draft_found c.args.symbols.now c.test.new.self.rest.now c.test.result c.test.ensures

pub returns-clause-only : goal.returns-clause-only
returns-clause-only c = draft_only c.args.symbols.now c.test.new.self.rest.now c.test.result c.test.ensures

pub returns-clause-cause : goal.returns-clause-cause
returns-clause-cause c = draft_cause c.args.symbols.now c.test.new.self.rest.now c.test.result c.test.ensures
