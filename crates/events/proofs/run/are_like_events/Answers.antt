use Rattle.std.proofs.Common.{◌≡◌, rules, arith, ◌∙◌, ap, map, length, sym, refl}
use Rattle.events.specs.Structures.{unvalued}
use Rattle.events.proofs.Shapes.{mapped_here}
use Rattle.std.proofs.lemmas.List.{take_all, length-map}
use Rattle.std.proofs.lemmas.Bool.{false≢true}
use Rattle.events.proofs.run.are_like_events.Goals as goal

pub returns-then-not-is_like : goal.returns-then-not-is_like
returns-then-not-is_like c =
    let l = c.loop-place-test.true in
    let m = c.if-first-second.false in (
      λ t. absurd (false≢true t),
      λ h. (let e = c.is_like.ensures.1 (mapped_here unvalued c.args.first.now c.args.second.now c.loop-place.place c.index-first-place.result c.index-second-place.result (omega (arith, l)) (omega (arith, l, m)) c.index-first-place.is c.index-second-place.is h) in search (rules, e, c.if-not-is_like.true)),
    )

pub returns : goal.returns
returns c =
    let at = c.loop-place.place in
    let first = take_all at c.args.first.now c.loop-place-test.false in
    let second = take_all at c.args.second.now (omega (arith, c.loop-place-test.false, c.if-first-second.false)) in
    (λ h. ap (map unvalued) (sym first) ∙ c.loop-place.invariant ∙ ap (map unvalued) second, λ h. refl)

pub returns-then-first-second : goal.returns-then-first-second
returns-then-first-second c =
    let lengths = λ (h : map unvalued c.args.first.now ≡ map unvalued c.args.second.now). sym (length-map c.args.first.now unvalued) ∙ ap (λ es. length es) h ∙ length-map c.args.second.now unvalued in
    (λ h. absurd (false≢true h), λ h. absurd (c.if-first-second.true (lengths h)))
