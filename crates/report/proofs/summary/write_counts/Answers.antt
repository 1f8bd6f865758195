use Rattle.std.proofs.Common.{ap, ◌≡◌, ℕ, List, ◌++◌, codes, decimal, append_assoc}
use Rattle.report.proofs.Written.{same}
use Rattle.report.proofs.summary.write_counts.Goals as goal

regroup : (p q : List ℕ) → p ++ (codes " Negative: " ++ (q ++ codes "\n")) ≡ p ++ codes " Negative: " ++ q ++ codes "\n"
regroup p q = simp append_assoc

pub returns : goal.returns
returns g c =
    let positive : c.as_bytes-positive.result.now ≡ decimal c.args.finding.now.positive = cc in
    let negative : c.as_bytes-negative.result.now ≡ decimal c.args.finding.now.negative = cc in
    same _ _ _ _ _ _ (rw (positive, negative) (ap (λ l. codes "Positive: " ++ l) (regroup (decimal c.args.finding.now.positive) (decimal c.args.finding.now.negative)))) c.write_parts.ensures
