use Rattle.std.proofs.Common.{Ok, Err, subst, arith}
use Rattle.cat_syntax.specs.Reading.{Gives, file_at}
use Rattle.cat_tree.specs.Tree.{File}
use Rattle.cat_syntax.proofs.Whole.{found_of, only_of, small_of}
use Rattle.cat_syntax.proofs.Refusals.{no_excess}
use Rattle.cat_syntax.proofs.reading.read_symbols.Goals as goal

pub returns-in-Some-clause-only : goal.returns-in-Some-clause-only
returns-in-Some-clause-only c = λ f d h. absurd (omega (arith, small_of c.args.symbols.now f d h, c.in-Some.ensures.weight))

pub returns-in-Ok-clause-found : goal.returns-in-Ok-clause-found
returns-in-Ok-clause-found c =
    found_of c.args.symbols.now c.file.new.self.rest.now (Ok c.in-Ok.file) c.in_default.ensures.weight
    (subst (λ r. Gives {X = File} {A = File} (λ f. f) r c.file.new.self.rest.now (file_at c.args.symbols.now)) c.in-Ok.is c.file.ensures)

pub returns-in-Ok-clause-only : goal.returns-in-Ok-clause-only
returns-in-Ok-clause-only c = λ f d h.
    only_of c.args.symbols.now c.file.new.self.rest.now (Ok c.in-Ok.file) f d
    (subst (λ r. Gives {X = File} {A = File} (λ f. f) r c.file.new.self.rest.now (file_at c.args.symbols.now)) c.in-Ok.is c.file.ensures)

pub returns-in-Err-clause-only : goal.returns-in-Err-clause-only
returns-in-Err-clause-only c = λ f d h.
    c.refusal.ensures.memory
    (only_of c.args.symbols.now c.file.new.self.rest.now (Err c.in-Err.fault) f d
    (subst (λ r. Gives {X = File} {A = File} (λ f. f) r c.file.new.self.rest.now (file_at c.args.symbols.now)) c.in-Err.is c.file.ensures))

pub refusal-requires-clause-first : goal.refusal-requires-clause-first
refusal-requires-clause-first c = λ n e. no_excess c.args.symbols.now c.saturating_sub-place.result n c.in_default.ensures.weight e
