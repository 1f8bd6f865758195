use Rattle.std.proofs.Common.{◌≡◌, ◌-◌, subst}
use Rattle.candidates.specs.Depths.{end_at}
use Rattle.candidates.specs.Walks.{IsJustFound, Walking, depths_around}
use Rattle.candidates.proofs.Around.{block_end, alone_end}
use Rattle.candidates.proofs.walk.Walk.end_of.Goals as goal

pub returns-in-Some-clause-end : goal.returns-in-Some-clause-end
returns-in-Some-clause-end c =
    let w = c.self.inside in
    let s = w.space.now in
    let k = c.in-Some.ensures.section s c.self.invariant.scene.stretch in
    let P : Walking → Type 0 = λ v. IsJustFound v → c.in-Some.section.end ≡ end_at v.space (depths_around v) c.args.depth (v.next - 1) in
    subst P c.self.view_is (λ f. block_end s w.scene w.next c.args.depth c.in-Some.section c.self.invariant.scene k)

pub returns-in-None-clause-end : goal.returns-in-None-clause-end
returns-in-None-clause-end c =
    let w = c.self.inside in
    let s = w.space.now in
    let none = c.in-None.ensures.none in
    let P : Walking → Type 0 = λ v. IsJustFound v → w.next ≡ end_at v.space (depths_around v) c.args.depth (v.next - 1) in
    subst P c.self.view_is (λ f. alone_end s w.scene w.next w.to c.args.depth c.self.invariant.scene none f)
