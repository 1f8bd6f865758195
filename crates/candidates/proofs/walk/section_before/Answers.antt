use Rattle.std.proofs.Common.{refl, arith}
use Rattle.candidates.proofs.Spanning.{block_ends, section_is, depth_is, depth_there}
use Rattle.candidates.proofs.walk.section_before.Goals as goal

pub overflow_add-end : goal.overflow_add-end
overflow_add-end c =
    let s = c.requires.0 in
    let b = c.args.stretch.now in
    let p = c.in_ok-place.place in
    let d = c.in_ok-depth.depth.now in
    let l = c.in_ok-place.ensures in
    let h = c.requires.1.whole (omega (arith, l.0)) in
    let k = depth_is s b h c.deref.result.now c.deref.ensures.value c.args.depth d c.in_ok-depth.ensures.lookup.0 c.in_ok-depth.ensures.lookup.1 in
    let r = block_ends s b h d k p l.0 in
    omega (arith, l.1, r.0, r.1, h.small)

pub returns-clause-section : goal.returns-clause-section
returns-clause-section c s m =
    let b = c.args.stretch.now in
    let p = c.in_ok-place.place in
    let d = c.in_ok-depth.depth.now in
    let l = c.in_ok-place.ensures in
    let h = m.whole (omega (arith, l.0)) in
    let k = depth_is s b h c.deref.result.now c.deref.ensures.value c.args.depth d c.in_ok-depth.ensures.lookup.0 c.in_ok-depth.ensures.lookup.1 in
    let t = depth_there c.deref.result.now b.page.depths.items c.args.depth d c.deref.ensures.value c.in_ok-depth.ensures.lookup.0 c.in_ok-depth.ensures.lookup.1 in
    section_is s b h d k p c.args.next _ l.0 l.1 refl c.args.depth t.0 t.1

pub returns-in_err-place-clause-none : goal.returns-in_err-place-clause-none
returns-in_err-place-clause-none c = rw c.from_residual.ensures (c.in_err-place.ensures c.args.depth)
