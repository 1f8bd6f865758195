use Rattle.std.proofs.Common.{◌≡◌, ◌∙◌, ◌<◌, ap, arith, get_or, length, subst}
use Rattle.events.specs.declared.event.EventId.TheVariants.{Own}
use Rattle.events.specs.Executions.{GraphValue, empty_run}
use Rattle.events.specs.Rows.{AreFirsts}
use Rattle.events.proofs.Direct.{named_at, own_number, run_at}
use Rattle.events.proofs.view.numbered.Numbered.number_of_own.Goals as goal

pub returns-then-thread-runs : goal.returns-then-thread-runs
returns-then-thread-runs c = λ i s. (let g = c.args.self.now in
    let e : length c.runs-runs.result.now ≡ length g.runs = ap length (c.runs-runs.ensures.value ∙ ap (λ g. g.runs) c.self.view_is) in
    let n : (c.args.thread < length g.runs) × (c.args.place < length (get_or g.runs c.args.thread empty_run).events) = named_at g (Own c.args.thread c.args.place) i s in
    absurd (omega (arith, e, n.0, c.if-thread-runs.true)))

pub returns-then-place-events : goal.returns-then-place-events
returns-then-place-events c = λ i s. (let g = c.args.self.now in
    let runs = c.runs-runs.result.now in
    let e = c.runs-runs.ensures.value ∙ ap (λ g. g.runs) c.self.view_is in
    let m : length (get_or g.runs c.args.thread empty_run).events ≡ length c.events.result.now =
    run_at g runs c.args.thread c.index-runs-thread.result c.events.result.now e (omega (arith, c.if-thread-runs.false)) c.index-runs-thread.is c.events.ensures in
    let n : (c.args.thread < length g.runs) × (c.args.place < length (get_or g.runs c.args.thread empty_run).events) = named_at g (Own c.args.thread c.args.place) i s in
    absurd (omega (arith, m, n.1, c.if-place-events.true)))

pub returns : goal.returns
returns c =
    let g = c.args.self.now in
    let k = c.args.thread in
    let runs = c.runs-runs.result.now in
    let e = c.runs-runs.ensures.value ∙ ap (λ g. g.runs) c.self.view_is in
    let m : length (get_or g.runs k empty_run).events ≡ length c.events.result.now =
    run_at g runs k c.index-runs-thread.result c.events.result.now e (omega (arith, c.if-thread-runs.false)) c.index-runs-thread.is c.events.ensures in
    let l : k < length g.runs = omega (arith, c.if-thread-runs.false, ap length e) in
    let P : GraphValue → Type 0 = λ g. AreFirsts g c.self.inside.firsts.now in
    let a : AreFirsts g c.self.inside.firsts.now = subst P c.self.view_is c.self.invariant.firsts in
    own_number g k c.args.place (get_or c.self.inside.firsts.now k 0) (a.first k l) l (omega (arith, m, c.if-place-events.false))
