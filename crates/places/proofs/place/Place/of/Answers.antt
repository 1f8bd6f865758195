use Rattle.std.proofs.Common.{◌≡◌, ◌∙◌, ◌+◌, ◌-◌, ℕ, ap, refl, subst, take, rules}
use Rattle.std.specs.List.{count_by}
use Rattle.places.specs.Lines.{is_feed, reached, IsLineAt}
use Rattle.places.proofs.Places.{line_at}
use Rattle.places.proofs.place.Place.of.Goals as goal

pub returns : goal.returns
returns c =
    let text = c.args.text.now in
    let from = c.line_start-from.result in
    let to = c.min-offset.result + c.line_end.result in
    let at : c.min-offset.result ≡ reached text c.args.offset = search rules in
    let start = c.line_start-from.ensures in
    let end = c.line_end.ensures in
    let split = c.split_at.ensures in
    let line = line_at text c.split_at.result.0.now c.split_at.result.1.now c.min-offset.result from c.line_end.result split.front split.back split.front_len split.back_len start.within start.first start.unbroken end.within end.last end.unbroken in
    record {
      from = from;
      to = to;
      is_line = subst (λ (n : ℕ). IsLineAt text n from to) at line;
      line = ap (λ (n : ℕ). n + 1) (c.feeds.ensures ∙ ap (count_by is_feed) split.front ∙ ap (λ (n : ℕ). count_by is_feed (take n text)) at);
      column = ap (λ (n : ℕ). n - from + 1) at;
      source = refl;
    }
