use Rattle.std.proofs.Common.{◌≡◌, ◌∙◌, ◌==◌, ap, ℕ, List, count_by, rules}
use Rattle.std.specs.Map.{values_of}
use Rattle.book.specs.Step.{is_of}
use Rattle.book.specs.declared.live.Held.{Held}
use Rattle.book.specs.declared.live.Live.{Live}
use Rattle.book.proofs.Held.{count_seen}
use Rattle.book.proofs.live.LiveClaims.of_job.Goals as goal

pub returns : goal.returns
returns c =
    let n = c.args.number in
    let es = c.self.inside.claims.entries in
    let counted : c.count.result ≡ count_by (λ (x : Held). x.job == n) (values_of es) = search rules in
    counted ∙ count_seen es n ∙ ap (λ (v : List Live × ℕ). count_by (is_of n) v.0) c.self.view_is
