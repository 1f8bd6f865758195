use Rattle.std.proofs.Common.{◌≡◌, ◌∙◌, ◌+◌, ◌-◌, ℕ, List, length, ap, subst, sym, arith}
use Rattle.events.specs.Cuts.{cut_down}
use Rattle.events.specs.Opened.{opened}
use Rattle.candidates.specs.Alike.{AllWithin, AreAlike, IsOpen, Opens}
use Rattle.candidates.specs.Blocks.{free_of}
use Rattle.candidates.specs.Depths.{cut_at, end_at}
use Rattle.candidates.specs.Walks.{IsBegun, IsJustFound, Walking, depths_around}
use Rattle.candidates.proofs.Around.{cut_there, few_around, just_found, parts_shown}
use Rattle.candidates.proofs.Within.{IsOpenAt, not_begun, open_alike, open_inside, open_end}
use Rattle.candidates.proofs.Spanning.{depth_there}
use Rattle.candidates.proofs.walk.Walk.open_block.Goals as goal

open_here : (c : goal.After-cut_to-cut) → IsOpenAt c.self.inside.space.now c.self.inside.scene c.self.inside.next c.in_ok-place.place c.in_ok-at.at.now c.in_ok-orders.orders
open_here c =
    let runs = c.self.inside.scene.stretch.page.runs.items in
    let o = c.in_ok-orders.orders in
    let P : List ℕ → Type 0 = λ vs. IsOpen (length vs) runs o in
    let Q : List ℕ → Type 0 = λ vs. Opens (length vs) runs c.in_ok-at.at.now o in
    record {
      scene = c.self.invariant.scene;
      at = c.in_ok-place.ensures;
      there = c.if-place-self.false;
      opens = subst P c.init-locations.ensures c.in_ok-orders.ensures.open;
      known = subst Q c.init-locations.ensures c.in_ok-orders.ensures.known;
      first = c.in_ok-orders.ensures.first;
    }

pub returns-clause-alike : goal.returns-clause-alike
returns-clause-alike c =
    let w = c.self.inside in
    let o = c.in_ok-orders.orders in
    let P : Walking → Type 0 = λ v. AreAlike v.space (v.next - 1) o in
    subst P c.self.view_is (open_alike w.space.now w.scene w.next c.in_ok-place.place c.in_ok-at.at.now o (open_here c))

pub returns-clause-inside : goal.returns-clause-inside
returns-clause-inside c =
    let w = c.self.inside in
    let s = w.space.now in
    let d = c.in_ok-at.at.now in
    let o = c.in_ok-orders.orders in
    let cut = c.cut_to-cut.result in
    let free = c.cut_to-cut.ensures.parts.0 ∙ ap (λ (vs : List ℕ). free_of (length vs) d.known) c.init-locations.ensures in
    let P : Walking → Type 0 = λ v. AllWithin v.space (v.next - 1) (v.next - 1 + o.size) (opened v.shown cut) in
    subst P c.self.view_is (open_inside s w.scene w.next c.in_ok-place.place d o (open_here c) cut free c.cut_to-cut.ensures.parts.1)

pub returns-clause-cut : goal.returns-clause-cut
returns-clause-cut c =
    let w = c.self.inside in
    let d = c.in_ok-at.at.now in
    let cut = c.cut_to-cut.result in
    let t = depth_there c.deref.result.now w.scene.stretch.page.depths.items c.args.depth d c.deref.ensures.value c.in_ok-at.ensures.lookup.0 c.in_ok-at.ensures.lookup.1 in
    let p = parts_shown w.space.now w.scene c.self.invariant.scene (let l = c.in_ok-place.ensures.0 in omega (arith, l)) in
    let is = c.cut_to-cut.ensures.cut w.scene.graph (p.0 ∙ sym (ap (λ (vs : List ℕ). length vs) c.init-locations.ensures)) p.1 in
    let P : Walking → Type 0 = λ v. cut_down v.shown cut ≡ cut_at v.shown (depths_around v) c.args.depth in
    subst P c.self.view_is (is ∙ sym (cut_there w.scene.graph w.scene.stretch.page.depths.items c.args.depth d t.0 t.1) ∙ ap (λ ds. cut_at w.scene.graph ds c.args.depth) c.self.invariant.scene.depths)

pub returns-clause-end : goal.returns-clause-end
returns-clause-end c =
    let w = c.self.inside in
    let s = w.space.now in
    let d = c.in_ok-at.at.now in
    let o = c.in_ok-orders.orders in
    let t = depth_there c.deref.result.now w.scene.stretch.page.depths.items c.args.depth d c.deref.ensures.value c.in_ok-at.ensures.lookup.0 c.in_ok-at.ensures.lookup.1 in
    let P : Walking → Type 0 = λ v. v.next - 1 + o.size ≡ end_at v.space (depths_around v) c.args.depth (v.next - 1) in
    subst P c.self.view_is (open_end s w.scene w.next c.in_ok-place.place d o (open_here c) c.args.depth t.0 t.1)

pub returns-in_err-place-clause-none : goal.returns-in_err-place-clause-none
returns-in_err-place-clause-none c =
    let w = c.self.inside in
    let P : Walking → Type 0 = λ v. IsJustFound v → IsBegun v c.args.depth → ⊥ in
    rw c.from_residual.ensures (subst P c.self.view_is (λ f h. let l = few_around w.space.now w.scene w.next w.to c.args.depth c.self.invariant.scene (c.in_err-place.ensures c.args.depth) f in let m = h.inside in omega (arith, l, m)))

pub returns-then-place-self-clause-none : goal.returns-then-place-self-clause-none
returns-then-place-self-clause-none c =
    let w = c.self.inside in
    let at = c.in_ok-place.ensures in
    let P : Walking → Type 0 = λ v. IsJustFound v → IsBegun v c.args.depth → ⊥ in
    subst P c.self.view_is (λ f h. absurd (c.if-place-self.true (let e = just_found w.space.now w.scene w.next w.to c.self.invariant.scene f (omega (arith, at.0)) in omega (arith, e, at.1))))

pub returns-in_err-orders-clause-none : goal.returns-in_err-orders-clause-none
returns-in_err-orders-clause-none c =
    let w = c.self.inside in
    let d = c.in_ok-at.at.now in
    let t = depth_there c.deref.result.now w.scene.stretch.page.depths.items c.args.depth d c.deref.ensures.value c.in_ok-at.ensures.lookup.0 c.in_ok-at.ensures.lookup.1 in
    let P : Walking → Type 0 = λ v. IsJustFound v → IsBegun v c.args.depth → ⊥ in
    rw c.from_residual-in_err-orders.ensures (subst P c.self.view_is (λ f h. not_begun w.space.now w.scene w.next w.to c.in_ok-place.place c.count_from.result c.args.depth d c.self.invariant.scene c.in_ok-place.ensures c.count_from.ensures t.0 t.1 c.in_err-orders.ensures.none h))
