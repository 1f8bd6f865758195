use Rattle.std.proofs.Common.{◌∙◌, ap}
use Rattle.journal.specs.Lines.{Line}
use Rattle.journal.specs.declared.records.Said.{Said}
use Rattle.book.proofs.kept.shared_entry.Goals as goal

pub returns-clause-entry : goal.returns-clause-entry
returns-clause-entry c =
    let line : Said → Line = λ said. record { place = c.args.place; seat = c.args.seat; said = said; reply = c.args.reply } in
    c.in_ok-entry.ensures.ok ∙ c.new.ensures ∙ ap line c.in_ok-seen.ensures
