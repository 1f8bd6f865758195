use Rattle.std.proofs.Common.{◌≡◌, [], codes, ◌++◌, ◌∙◌, append-nil, ap}
use Rattle.std.specs.List.{zip}
use Rattle.std.proofs.KnownBytes.{Appends-nil, Appends-trans}
use Rattle.std.proofs.lemmas.Slice.Zip.{Zip-more, either_empty_from_Zip}
use Rattle.report.specs.Texts.{binding_text}
use Rattle.report.proofs.Written.{exit, after}
use Rattle.report.proofs.Bindings.{left, all_left, left-more, left-none, regroup, further}
use Rattle.report.proofs.states.write_state.Goals as goal

pub loop-place-init : goal.loop-place-init
loop-place-init g c =
    let first : c.into_iter-place-iterator.result.a.rest.now ≡ c.args.places.now = cc in
    let second : c.into_iter-place-iterator.result.b.rest.now ≡ c.args.values.now = cc (c.zip-place-items.ensures.second.0) in
    ([], Appends-nil _, rw (first, second) (all_left (zip c.args.places.now c.args.values.now)))

pub returns-in_err-write_binding : goal.returns-in_err-write_binding
returns-in_err-write_binding g c =
    let step = Zip-more c.loop-place.place-iterator c.next.new.self _ _ c.in-Some.is c.next.ensures.steps in
    let next = left-more c.loop-place.separator.now _ _ _ _ _ _ step.0 step.1 in
    let text = c.loop-place.separator.now ++ binding_text (c.in-Some.place.now, c.in-Some.value.now) in
    let rest = left (codes " ") (zip c.next.new.self.a.rest.now c.next.new.self.b.rest.now) in
    exit _ _ _ _ c.from_residual.result _ _ (rest ++ codes "\n") _ c.from_residual.ensures.0 c.loop-place.invariant.1 c.in_err-write_binding.ensures
    (regroup _ c.loop-place.invariant.0 text _ rest (codes "\n") c.loop-place.invariant.2 next)

pub loop-place-preserved : goal.loop-place-preserved
loop-place-preserved g c =
    let step = Zip-more c.loop-place.place-iterator c.next.new.self _ _ c.in-Some.is c.next.ensures.steps in
    let next = left-more c.loop-place.separator.now _ _ _ _ _ _ step.0 step.1 in
    (_, Appends-trans _ _ _ _ _ c.loop-place.invariant.1 c.in_ok-write_binding.ensures, further _ c.loop-place.invariant.0 _ _ _ c.loop-place.invariant.2 next)

pub returns : goal.returns
returns g c =
    let done = left-none c.loop-place.separator.now _ _ (either_empty_from_Zip c.loop-place.place-iterator c.next.new.self _ c.in-None.is c.next.ensures.steps) in
    let whole = c.loop-place.invariant.2 ∙ ap (λ l. c.loop-place.invariant.0 ++ l) done ∙ append-nil c.loop-place.invariant.0 in
    after _ _ _ _ _ _ _ _ c.loop-place.invariant.1 c.write_bytes.ensures (ap (λ l. l ++ codes "\n") whole)
