use Rattle.std.proofs.Common.{◌≡◌, ◌++◌, ◌-◌, List, length, take, drop, arith, subst, sym}
use Rattle.sessions.specs.Views.{PassView}
use Rattle.scripts.specs.declared.instruction.Instruction.TheVariants.{Work}
use Rattle.scripts.specs.declared.outcome.Outcome.TheVariants.{Worked}
use Rattle.scripts.specs.Answers.{Answers}
use Rattle.scripts.specs.Passes.{IsAnswered, IsTable, session_receipts}
use Rattle.scripts.proofs.Seated.{written_back}
use Rattle.scripts.proofs.seats.Seats.work.Goals as goal

pub returns-clause-table : goal.returns-clause-table
returns-clause-table g c =
    let old = c.args.self.now.passes.items in
    let new = c.work_behind.new.passes in
    let before = c.requires.number in
    let after = c.work_behind.ensures.table.number in
    let e : take c.args.self.now.passes.len (new ++ drop (length new) old) ≡ new = written_back c.args.self.now.passes.len new (drop (length new) old) (omega (arith, before, after, c.deref_mut.ensures.value, c.deref_mut.ensures.len)) in
    let P : List PassView → Type 0 = λ passes. IsTable c.args.self.now.desk passes in
    subst P (sym e) c.work_behind.ensures.table

pub returns-clause-worked : goal.returns-clause-worked
returns-clause-worked g c =
    let old = c.args.self.now.passes.items in
    let new = c.work_behind.new.passes in
    let before = c.requires.number in
    let after = c.work_behind.ensures.table.number in
    let e : take c.args.self.now.passes.len (new ++ drop (length new) old) ≡ new = written_back c.args.self.now.passes.len new (drop (length new) old) (omega (arith, before, after, c.deref_mut.ensures.value, c.deref_mut.ensures.len)) in
    let P : List PassView → List PassView → Type 0 = λ was is. IsAnswered was is (Worked c.work_behind.result) (Answers (c.args.self.now.desk - 8) (session_receipts was) Work) in
    subst (P old) (sym e) (subst (λ was. P was new) c.deref_mut.ensures.value c.work_behind.ensures.worked)
