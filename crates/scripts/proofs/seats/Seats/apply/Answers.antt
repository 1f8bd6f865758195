use Rattle.std.proofs.Common.{◌≡◌, ◌∙◌, ap, refl, subst, sym}
use Rattle.std.specs.Prelude.{slice_set}
use Rattle.journal.specs.Lines.{Line, seen}
use Rattle.scripts.specs.Answers.{IsRight}
use Rattle.scripts.proofs.Seated.{call_answered, called, called_table, has_share, last_within, not_taken, of_err, of_ok, pass_at, same_last, same_table, unchanged}
use Rattle.scripts.proofs.seats.Seats.apply.Goals as goal

pub call-answer-requires : goal.call-answer-requires
call-answer-requires g c = has_share c.args.self.now.desk c.args.seat c.args.self.now.passes.items c.index_mut.result.now c.requires.table c.index_mut.ensures.value c.requires.seat

pub prove_eq-unreachable-requires : goal.prove_eq-unreachable-requires
prove_eq-unreachable-requires g c =
    let before = c.args.self.now.passes.items in
    let after = slice_set before c.args.seat c.call-answer.new.pass in
    let adds = of_ok c.call-answer.result tt c.call-answer.ensures.receipt c.in-None.ensures.made in
    let is = called c.args.self.now.desk c.args.seat before after c.index_mut.result.now c.call-answer.new.pass (seen c.args.command) c.requires.table c.requires.seat c.index_mut.ensures.value refl adds in
    let there = pass_at after c.args.seat c.index.result.now c.index.ensures (last_within c.args.seat after is.line is.last) in
    let same = same_last c.args.seat after c.index.result.now is.line c.last_entry.result.now is.last there c.last_entry.ensures.last in
    c.if-prove_eq.true (c.seat.ensures ∙ ap (λ (l : Line). l.seat) (sym same) ∙ is.at)

pub returns-in-None-clause-table : goal.returns-in-None-clause-table
returns-in-None-clause-table g c =
    let before = c.args.self.now.passes.items in
    let after = slice_set before c.args.seat c.call-answer.new.pass in
    let adds = of_ok c.call-answer.result tt c.call-answer.ensures.receipt c.in-None.ensures.made in
    let is = called c.args.self.now.desk c.args.seat before after c.index_mut.result.now c.call-answer.new.pass (seen c.args.command) c.requires.table c.requires.seat c.index_mut.ensures.value refl adds in
    called_table c.args.self.now.desk c.args.seat (seen c.args.command) before after c.requires.table is

pub returns-in-None-clause-call : goal.returns-in-None-clause-call
returns-in-None-clause-call g c =
    let before = c.args.self.now.passes.items in
    let after = slice_set before c.args.seat c.call-answer.new.pass in
    let adds = of_ok c.call-answer.result tt c.call-answer.ensures.receipt c.in-None.ensures.made in
    let is = called c.args.self.now.desk c.args.seat before after c.index_mut.result.now c.call-answer.new.pass (seen c.args.command) c.requires.table c.requires.seat c.index_mut.ensures.value refl adds in
    let entry = c.last_entry.result.now in
    let there = pass_at after c.args.seat c.index.result.now c.index.ensures (last_within c.args.seat after is.line is.last) in
    let same = same_last c.args.seat after c.index.result.now is.line entry is.last there c.last_entry.ensures.last in
    call_answered c.args.seat (seen c.args.command) before after (λ said. said ≡ seen c.args.command) is (subst (λ (l : Line). IsRight l.reply) (sym same) c.last_entry.ensures.right) refl

pub returns-in-Some-clause-table : goal.returns-in-Some-clause-table
returns-in-Some-clause-table g c =
    let before = c.args.self.now.passes.items in
    let after = slice_set before c.args.seat c.call-answer.new.pass in
    let same = of_err c.call-answer.result c.call-answer.ensures.same c.in-Some.ensures.refused in
    same_table c.args.self.now.desk before after c.requires.table (unchanged c.args.seat before after c.index_mut.result.now c.call-answer.new.pass c.index_mut.ensures.value refl same)

pub returns-in-Some-clause-call : goal.returns-in-Some-clause-call
returns-in-Some-clause-call g c =
    let before = c.args.self.now.passes.items in
    let after = slice_set before c.args.seat c.call-answer.new.pass in
    let same = of_err c.call-answer.result c.call-answer.ensures.same c.in-Some.ensures.refused in
    not_taken c.args.seat c.in-Some.why before after (λ said. said ≡ seen c.args.command) (seen c.args.command) refl (unchanged c.args.seat before after c.index_mut.result.now c.call-answer.new.pass c.index_mut.ensures.value refl same)
