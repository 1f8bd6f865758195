use Rattle.std.proofs.Common.{◌∙◌, ◌==◌, not, ap, ℕ, List, rules}
use Rattle.std.proofs.lemmas.Fn.{filter_same}
use Rattle.std.proofs.lemmas.Map.Made.{filter_same_pairs}
use Rattle.book.specs.Held.{live_of}
use Rattle.book.specs.Step.{elsewhere, is_of}
use Rattle.book.specs.declared.live.Live.{Live}
use Rattle.book.specs.declared.live.Place.{Place}
use Rattle.book.proofs.Held.{held_elsewhere, elsewhere_seen}
use Rattle.book.proofs.live.LiveClaims.end_of_job.Goals as goal

pub invariant_of-self : goal.invariant_of-self
invariant_of-self c =
    let n = c.args.number in
    held_elsewhere _ _ _ _ _ n c.self.invariant (filter_same_pairs _ (λ e. not (is_of n (live_of e))) _ (λ k v b w f t. search rules) _ _ c.retain.ensures.filtered)
    (filter_same _ (λ (p : Place). not (p.job == n)) _ (λ x b f k. search rules) _ _ c.retain-2.ensures.filtered)

pub returns : goal.returns
returns c =
    let n = c.args.number in
    ap (λ live. (live, c.self.inside.last)) (elsewhere_seen _ _ n (filter_same_pairs _ (λ e. not (is_of n (live_of e))) _ (λ k v b w f t. search rules) _ _ c.retain.ensures.filtered))
    ∙ ap (λ (v : List Live × ℕ). (elsewhere n v.0, v.1)) c.self.view_is
