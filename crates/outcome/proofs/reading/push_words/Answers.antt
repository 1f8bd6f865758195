use Rattle.std.proofs.Common.{ap, sym, ◌∙◌, ◌+◌, map, drop}
use Rattle.std.specs.Prelude.{fold}
use Rattle.outcome.specs.Reading.{with_word}
use Rattle.outcome.proofs.Added.{turn, all_done}
use Rattle.outcome.proofs.reading.push_words.Goals as goal

pub loop-word-preserved : goal.loop-word-preserved
loop-word-preserved c =
    let words = c.args.words.now in
    let i = c.loop-word.word-index in
    ap (λ t. fold with_word t (map (λ w. w.now) (drop (i + 1) words))) c.in_ok-push_word.ensures
    ∙ sym (turn words i _ (λ ws. fold with_word c.loop-word.text.items (map (λ w. w.now) ws)) c.loop-word-test.true) ∙ c.loop-word.invariant

pub returns : goal.returns
returns c =
    sym (all_done c.args.words.now c.loop-word.word-index (λ ws. fold with_word c.loop-word.text.items (map (λ w. w.now) ws)) c.loop-word-test.false) ∙ c.loop-word.invariant
