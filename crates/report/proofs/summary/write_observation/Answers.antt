use Rattle.std.proofs.Common.{ap, ◌≡◌, ℕ, List, ◌++◌, codes, decimal, append_assoc}
use Rattle.slices.specs.Findings.{word}
use Rattle.report.proofs.Written.{same}
use Rattle.report.proofs.summary.write_observation.Goals as goal

regroup : (n w p q : List ℕ) → n ++ (codes " " ++ (w ++ (codes " " ++ (p ++ (codes " " ++ (q ++ codes "\n")))))) ≡ n ++ codes " " ++ w ++ codes " " ++ p ++ codes " " ++ q ++ codes "\n"
regroup n w p q = simp append_assoc

pub returns : goal.returns
returns g c =
    let name : c.bytes-name.result.now ≡ c.args.finding.now.name = cc in
    let shown : c.as_bytes-word.result.now ≡ word c.args.finding.now = cc in
    let positive : c.as_bytes-positive.result.now ≡ decimal c.args.finding.now.positive = cc in
    let negative : c.as_bytes-negative.result.now ≡ decimal c.args.finding.now.negative = cc in
    same _ _ _ _ _ _ (rw (name, shown, positive, negative) (ap (λ l. codes "Observation " ++ l) (regroup c.args.finding.now.name (word c.args.finding.now) (decimal c.args.finding.now.positive) (decimal c.args.finding.now.negative)))) c.write_parts.ensures
