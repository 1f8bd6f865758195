use Rattle.std.proofs.Common.{◌≡◌, ℕ, ◌-◌, List, Some, length, subst, arith, sym}
use Rattle.events.specs.Executions.{GraphValue}
use Rattle.candidates.specs.Alike.{AreAlike, IsOpen}
use Rattle.candidates.specs.Candidates.{graph_at}
use Rattle.candidates.specs.Walks.{Walking}
use Rattle.candidates.proofs.Like.{alike}
use Rattle.candidates.specs.Readings.{IsPage}
use Rattle.candidates.proofs.walk.Walk.open_orders.Goals as goal

pub returns-clause-alike : goal.returns-clause-alike
returns-clause-alike c =
    let s = c.self.inside.space.now in
    let b = c.self.inside.scene.stretch in
    let o = c.open_orders.result in
    let l = c.in_ok-place.ensures in
    let P : Walking → Type 0 = λ w. (x : GraphValue) → graph_at w.space (w.next - 1) ≡ Some x → AreAlike w.space (w.next - 1) o in
    let Q : List ℕ → Type 0 = λ vs. IsOpen (length vs) b.page.runs.items o in
    subst P c.self.view_is (λ x at.
    alike s b (c.self.invariant.scene.stretch.whole (omega (arith, l.0))) o (subst Q c.init-locations.ensures c.open_orders.ensures.open) c.in_ok-place.place (c.self.inside.next - 1) l.0 c.open_orders.ensures.first (omega (arith, l.1)) x at)

pub open_orders-requires-clause-page : goal.open_orders-requires-clause-page
open_orders-requires-clause-page c = let P : List ℕ → Type 0 = λ is. IsPage (length is) c.self.inside.scene.stretch.page in subst P (sym c.init-locations.ensures) (c.self.invariant.scene.stretch.whole (omega (arith, c.in_ok-place.ensures.0))).page
