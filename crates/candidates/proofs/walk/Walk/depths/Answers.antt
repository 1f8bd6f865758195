use Rattle.std.proofs.Common.{◌≡◌, List, length, ap, subst, arith}
use Rattle.candidates.specs.declared.depths.Depth.{Depth}
use Rattle.candidates.specs.Walks.{Walking, depths_around}
use Rattle.candidates.proofs.walk.Walk.depths.Goals as goal

pub returns : goal.returns
returns c =
    let w = c.self.inside in
    let e = ap (λ (ds : List Depth). length ds) c.self.invariant.scene.depths in
    let P : Walking → Type 0 = λ v. c.len.result ≡ length (depths_around v) in
    subst P c.self.view_is (omega (arith, c.len.ensures, e))
