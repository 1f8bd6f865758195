use Rattle.std.proofs.Common.{◌==◌, length, drop, sym, ap, ◌∙◌, arith}
use Rattle.std.proofs.lemmas.List.{drop_all}
use Rattle.std.proofs.lemmas.List.Sums.{position_or_len_is}
use Rattle.wb_text.proofs.Texts.{not_true, range_is}
use Rattle.wb_text.proofs.gap.from_line_end.Goals as goal

pub returns-in-Some : goal.returns-in-Some
returns-in-Some c =
    let line = c.args.line.now in
    let found = c.in-Some.ensures in
    let place = position_or_len_is (λ b. b == 10) line c.in-Some.feed 0 (omega (arith, found.0.high)) (λ k h. not_true _ (found.0.before k (omega arith) h)) (λ _. found.1) in
    range_is c.in-Some.feed line ∙ ap (λ n. drop n line) (sym place)

pub returns-in-None : goal.returns-in-None
returns-in-None c =
    let line = c.args.line.now in
    let place = position_or_len_is (λ b. b == 10) line (length line) 0 (omega arith) (λ k h. not_true _ (c.in-None.ensures k (omega arith) h)) (λ h. absurd (omega arith)) in
    sym (ap (λ n. drop n line) place ∙ drop_all (length line) line (omega arith))
