use Rattle.std.proofs.Common.{◌≡◌, rules, arith, ◌∙◌, ap, map, length, sym, refl}
use Rattle.events.specs.Structures.{unvalued_run}
use Rattle.events.proofs.Shapes.{mapped_here}
use Rattle.std.proofs.lemmas.List.{take_all, length-map}
use Rattle.std.proofs.lemmas.Bool.{false≢true}
use Rattle.events.proofs.run.are_like_runs.Goals as goal

pub returns-then-not-is_like : goal.returns-then-not-is_like
returns-then-not-is_like c =
    let l = c.loop-thread-test.true in
    let m = c.if-first-second.false in (
      λ t. absurd (false≢true t),
      λ h. (let e = c.is_like.ensures.1 (mapped_here unvalued_run c.args.first.now c.args.second.now c.loop-thread.thread c.index-first-thread.result c.index-second-thread.result (omega (arith, l)) (omega (arith, l, m)) c.index-first-thread.is c.index-second-thread.is h) in search (rules, e, c.if-not-is_like.true)),
    )

pub returns : goal.returns
returns c =
    let at = c.loop-thread.thread in
    let first = take_all at c.args.first.now c.loop-thread-test.false in
    let second = take_all at c.args.second.now (omega (arith, c.loop-thread-test.false, c.if-first-second.false)) in
    (λ h. ap (map unvalued_run) (sym first) ∙ c.loop-thread.invariant ∙ ap (map unvalued_run) second, λ h. refl)

pub returns-then-first-second : goal.returns-then-first-second
returns-then-first-second c =
    let lengths = λ (h : map unvalued_run c.args.first.now ≡ map unvalued_run c.args.second.now). sym (length-map c.args.first.now unvalued_run) ∙ ap (λ es. length es) h ∙ length-map c.args.second.now unvalued_run in
    (λ h. absurd (false≢true h), λ h. absurd (c.if-first-second.true (lengths h)))
