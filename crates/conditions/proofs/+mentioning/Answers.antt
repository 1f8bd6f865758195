use Rattle.std.proofs.Common.{List, drop, ◌+◌, ◌∙◌, ◌++◌, ap, map, sym}
use Rattle.std.proofs.lemmas.List.{drop_all, append-nil, append_assoc}
use Rattle.conditions.specs.declared.place.Place.{Place}
use Rattle.conditions.specs.declared.prop.Link.{Link}
use Rattle.conditions.specs.Chains.{mentioned_by, all_mentioned, mentioned_along}
use Rattle.conditions.proofs.Left.{drop_first}
use Rattle.conditions.specs.Conditions.{atomic, growth_of}
use Rattle.conditions.specs.States.{mentioned}
use Rattle.conditions.proofs.+mentioning.Goals as goal

pub observing::push_mentioned-loop-link-init : goal.observing::push_mentioned-loop-link-init
observing::push_mentioned-loop-link-init t c =
    let first = mentioned (atomic c.args.prop.now.first) in
    let rest = map growth_of c.args.prop.now.rest.items in
    ap (λ ps. ps ++ all_mentioned rest) c.in_ok-push_mentioned.ensures ∙ append_assoc c.args.places.now.items first (all_mentioned rest) ∙
    ap (λ ps. c.args.places.now.items ++ ps) (sym (mentioned_along (atomic c.args.prop.now.first) rest))

pub observing::push_mentioned-loop-link-preserved : goal.observing::push_mentioned-loop-link-preserved
observing::push_mentioned-loop-link-preserved t c =
    let links = c.args.prop.now.rest.items in
    let at = c.loop-link.link-index in
    let here = rw c.deref-link-items.ensures.value at c.loop-link-test.true in
    let is = rw c.deref-link-items.ensures.value at c.link-item.is in
    let done = c.loop-link.places.items in
    let rest = all_mentioned (map growth_of (drop (at + 1) links)) in
    ap (λ (ps : List Place). ps ++ rest) c.in_ok-push_mentioned-2.ensures ∙ append_assoc done (mentioned_by (growth_of c.link-item.result)) rest
    ∙ sym (ap (λ (ls : List Link). done ++ all_mentioned (map growth_of ls)) (drop_first c.link-item.result links at here is)) ∙ c.loop-link.invariant

pub observing::push_mentioned-returns : goal.observing::push_mentioned-returns
observing::push_mentioned-returns t c =
    let done = c.loop-link.places.items in
    let end = rw c.deref-link-items.ensures.value at c.loop-link-test.false in
    sym (append-nil done) ∙ sym (ap (λ (ls : List Link). done ++ all_mentioned (map growth_of ls)) (drop_all c.loop-link.link-index c.args.prop.now.rest.items end)) ∙ c.loop-link.invariant
