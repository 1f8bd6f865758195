use Rattle.std.proofs.Common.{◌≡◌, ◌∙◌, ◌-◌, ◌≤◌, ℕ, List, length, ap, subst, sym, arith}
use Rattle.events.specs.Cuts.{cut_down}
use Rattle.events.specs.Executions.{GraphValue}
use Rattle.candidates.specs.Blocks.{AllExtend, AllHaveWrites}
use Rattle.candidates.specs.Depths.{cut_at, end_at}
use Rattle.candidates.specs.Walks.{IsJustFound, Walking, depths_around}
use Rattle.candidates.proofs.Around.{block_cut, block_end, block_extends, block_writes, few_around, just_found, parts_shown}
use Rattle.candidates.proofs.walk.Walk.block.Goals as goal

pub returns-in_err-section-clause-cut : goal.returns-in_err-section-clause-cut
returns-in_err-section-clause-cut c =
    let w = c.self.inside in
    let P : Walking → Type 0 = λ v. IsJustFound v → length (depths_around v) ≤ c.args.depth in
    rw c.from_residual.ensures (subst P c.self.view_is (λ f. few_around w.space.now w.scene w.next w.to c.args.depth c.self.invariant.scene c.in_err-section.ensures.none f))

pub returns-then-section-scene-clause-cut : goal.returns-then-section-scene-clause-cut
returns-then-section-scene-clause-cut c =
    let w = c.self.inside in
    let s = w.space.now in
    let k = c.in_ok-section.ensures.section s c.self.invariant.scene.stretch in
    let P : Walking → Type 0 = λ v. IsJustFound v → length (depths_around v) ≤ c.args.depth in
    subst P c.self.view_is (λ f. absurd (c.if-section-scene.true (let e = just_found s w.scene w.next w.to c.self.invariant.scene f (omega (arith, k.within)) in omega (arith, e, k.place))))

pub returns-clause-extend : goal.returns-clause-extend
returns-clause-extend c =
    let w = c.self.inside in
    let s = w.space.now in
    let r = c.in_ok-section.section in
    let k = c.in_ok-section.ensures.section s c.self.invariant.scene.stretch in
    let p = parts_shown s w.scene c.self.invariant.scene (omega (arith, k.within)) in
    let cut = c.cut_to-cut.ensures.cut w.scene.graph (p.0 ∙ sym (ap (λ (is : List ℕ). length is) c.init-locations.ensures)) p.1 in
    let P : Walking → Type 0 = λ v. AllExtend v.space (v.next - 1) r.end (cut_down v.shown c.cut_to-cut.result) in
    let Q : GraphValue → Type 0 = λ g. AllExtend s (w.next - 1) r.end g in
    subst P c.self.view_is (subst Q (sym cut) (block_extends s w.scene w.next c.args.depth r c.self.invariant.scene k c.if-section-scene.false))

pub returns-clause-writes : goal.returns-clause-writes
returns-clause-writes c =
    let w = c.self.inside in
    let s = w.space.now in
    let r = c.in_ok-section.section in
    let k = c.in_ok-section.ensures.section s c.self.invariant.scene.stretch in
    let P : Walking → Type 0 = λ v. AllHaveWrites v.space (v.next - 1) r.end v.shown in
    subst P c.self.view_is (block_writes s w.scene w.next c.args.depth r c.self.invariant.scene k)

pub returns-clause-end : goal.returns-clause-end
returns-clause-end c =
    let w = c.self.inside in
    let s = w.space.now in
    let r = c.in_ok-section.section in
    let k = c.in_ok-section.ensures.section s c.self.invariant.scene.stretch in
    let P : Walking → Type 0 = λ v. r.end ≡ end_at v.space (depths_around v) c.args.depth (v.next - 1) in
    subst P c.self.view_is (block_end s w.scene w.next c.args.depth r c.self.invariant.scene k)

pub returns-clause-cut : goal.returns-clause-cut
returns-clause-cut c =
    let w = c.self.inside in
    let s = w.space.now in
    let r = c.in_ok-section.section in
    let k = c.in_ok-section.ensures.section s c.self.invariant.scene.stretch in
    let p = parts_shown s w.scene c.self.invariant.scene (omega (arith, k.within)) in
    let cut = c.cut_to-cut.ensures.cut w.scene.graph (p.0 ∙ sym (ap (λ (is : List ℕ). length is) c.init-locations.ensures)) p.1 in
    let P : Walking → Type 0 = λ v. cut_down v.shown c.cut_to-cut.result ≡ cut_at v.shown (depths_around v) c.args.depth in
    subst P c.self.view_is (cut ∙ block_cut s w.scene w.next c.args.depth r c.self.invariant.scene k)
