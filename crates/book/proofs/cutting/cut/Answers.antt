use Rattle.std.proofs.Common.{◌≡◌, ℕ, subst, arith}
use Rattle.book.specs.Cuts.{IsBegun}
use Rattle.book.proofs.Cuts.{one_more, whole}
use Rattle.book.proofs.cutting.cut.Goals as goal

pub returns : goal.returns
returns c =
    let total = c.slice_count-total.result in
    let done : c.loop-place.place ≡ total = omega arith in
    let P : ℕ → Type 0 = λ n. IsBegun c.args.size total n c.loop-place.slices.items in
    whole c.args.size total c.loop-place.slices.items c.cuts.ensures c.slice_count-total.ensures.some c.slice_count-total.ensures.few (subst P done c.loop-place.invariant)

pub loop-place-preserved : goal.loop-place-preserved
loop-place-preserved c = rw (c.in_ok-push.ensures.items, c.slice_at.ensures) (one_more c.args.size c.slice_count-total.result c.loop-place.place c.loop-place.slices.items c.cuts.ensures c.loop-place-test.true c.loop-place.invariant)
