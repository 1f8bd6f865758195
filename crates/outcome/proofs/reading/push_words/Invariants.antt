use Rattle.std.proofs.Common.{◌≡◌, map, drop}
use Rattle.std.specs.Prelude.{fold}
use Rattle.outcome.specs.Reading.{with_word}
use Rattle.outcome.proofs.reading.push_words.Given as goal

abbrev pub invariant-loop-word : goal.invariant-loop-word
invariant-loop-word l = fold with_word l.text.items (map (λ w. w.now) (drop l.word-index l.words)) ≡ fold with_word l.initial.text.items (map (λ w. w.now) l.words)
