use Rattle.std.proofs.Common.{◌≡◌, ◌∙◌, [], Some, subst, sym, inl, inr, ap, refl, true, false, codes}
use Rattle.std.specs.Option.{IsSome}
use Rattle.std.specs.Prelude.{unwrap_or}
use Rattle.clap.specs.Faults.{fault_of, is_simple_and_free}
use Rattle.program.proofs.FlagReads.{alone_is}
use Rattle.program.proofs.OptionReads.{journal_number, text_is, workers_number}
use Rattle.program.specs.Words.{SaysNumber, text_for, texts_of}
use Rattle.program.proofs.command_line.read_task.Goals as goal

pub returns-then-get_flag-clause-task : goal.returns-then-get_flag-clause-task
returns-then-get_flag-clause-task c = elim (alone_is (texts_of c.args.words.now)) [
  | inl given ↦ given
  | inr not_given ↦
      let read = text_is c.in_ok-command.field-0 c.in_ok-matches.matches _ (codes "alone") c.in_ok-command.ensures c.in_ok-matches.ensures.matches in
      let no : c.get_flag.result ≡ false = c.get_flag.ensures.other (read ∙ not_given) in
      let yes = c.if-get_flag.true in
      cc
]

pub returns-then-get_flag-clause-kinds : goal.returns-then-get_flag-clause-kinds
returns-then-get_flag-clause-kinds c = subst (λ a. is_simple_and_free a ≡ true → fault_of a (texts_of c.args.words.now) ≡ []) c.in_ok-command.ensures c.in_ok-matches.ensures.kinds refl

pub unwrap-journal-requires : goal.unwrap-journal-requires
unwrap-journal-requires c =
    let read = journal_number c.in_ok-command.field-0 c.in_ok-matches.matches _ c.get_one.result c.in_ok-command.ensures c.in_ok-matches.ensures.parsed c.in_ok-matches.ensures.matches c.get_one.ensures.value in
    subst IsSome (sym read.is) refl

pub unwrap-workers-requires : goal.unwrap-workers-requires
unwrap-workers-requires c =
    let read = workers_number c.in_ok-command.field-0 c.in_ok-matches.matches _ c.get_one-2.result c.in_ok-command.ensures c.in_ok-matches.ensures.parsed c.in_ok-matches.ensures.matches c.get_one-2.ensures.value in
    subst IsSome (sym read.is) refl

pub returns-clause-task : goal.returns-clause-task
returns-clause-task c =
    let flag : text_for (codes "alone") (texts_of c.args.words.now) ≡ Some (codes "false") = elim (alone_is (texts_of c.args.words.now)) [
      | inl given ↦
          let read = text_is c.in_ok-command.field-0 c.in_ok-matches.matches _ (codes "alone") c.in_ok-command.ensures c.in_ok-matches.ensures.matches in
          let yes : c.get_flag.result ≡ true = c.get_flag.ensures.value (read ∙ given) in
          let no = c.if-get_flag.false in
          cc
      | inr not_given ↦ not_given
    ] in
    let journal = journal_number c.in_ok-command.field-0 c.in_ok-matches.matches _ c.get_one.result c.in_ok-command.ensures c.in_ok-matches.ensures.parsed c.in_ok-matches.ensures.matches c.get_one.ensures.value in
    let workers = workers_number c.in_ok-command.field-0 c.in_ok-matches.matches _ c.get_one-2.result c.in_ok-command.ensures c.in_ok-matches.ensures.parsed c.in_ok-matches.ensures.matches c.get_one-2.ensures.value in
    let entries : c.unwrap-journal.result ≡ journal.n = ap (λ o. unwrap_or o 0) (sym c.unwrap-journal.ensures ∙ journal.is) in
    let threads : c.unwrap-workers.result ≡ workers.n = ap (λ o. unwrap_or o 0) (sym c.unwrap-workers.ensures ∙ workers.is) in (
      flag,
      subst (SaysNumber 32 (codes "journal") (texts_of c.args.words.now)) (sym entries) journal.says,
      subst (SaysNumber 8 (codes "workers") (texts_of c.args.words.now)) (sym threads) workers.says,
    )

pub returns-clause-range : goal.returns-clause-range
returns-clause-range c =
    let journal = journal_number c.in_ok-command.field-0 c.in_ok-matches.matches _ c.get_one.result c.in_ok-command.ensures c.in_ok-matches.ensures.parsed c.in_ok-matches.ensures.matches c.get_one.ensures.value in
    let workers = workers_number c.in_ok-command.field-0 c.in_ok-matches.matches _ c.get_one-2.result c.in_ok-command.ensures c.in_ok-matches.ensures.parsed c.in_ok-matches.ensures.matches c.get_one-2.ensures.value in
    let entries : c.unwrap-journal.result ≡ journal.n = ap (λ o. unwrap_or o 0) (sym c.unwrap-journal.ensures ∙ journal.is) in
    let threads : c.unwrap-workers.result ≡ workers.n = ap (λ o. unwrap_or o 0) (sym c.unwrap-workers.ensures ∙ workers.is) in
    rw (entries, threads) (journal.least, journal.most, workers.most)

pub returns-clause-kinds : goal.returns-clause-kinds
returns-clause-kinds c = subst (λ a. is_simple_and_free a ≡ true → fault_of a (texts_of c.args.words.now) ≡ []) c.in_ok-command.ensures c.in_ok-matches.ensures.kinds refl
