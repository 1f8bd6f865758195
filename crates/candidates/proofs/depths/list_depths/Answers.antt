use Rattle.std.proofs.Common.{◌≡◌, ◌∙◌, ◌++◌, List, length, ap, arith, ltb}
use Rattle.std.proofs.lemmas.Result.{IfOk-from_err}
use Rattle.events.specs.declared.event.Event.{Event}
use Rattle.candidates.specs.declared.depths.Depth.{Depth}
use Rattle.candidates.specs.declared.depths.Known.TheVariants.{Sources}
use Rattle.candidates.specs.Depths.{before_reads, known_of}
use Rattle.candidates.proofs.Deeper.{all_depths, last_depth, depths_more}
use Rattle.candidates.proofs.depths.list_depths.Goals as goal

pub returns-clause-are : goal.returns-clause-are
returns-clause-are c =
    let page = c.args.page.now in
    let runs = page.runs.items in
    let n = c.args.locations in
    let rs = c.deref.result.now in
    let many : c.len.result ≡ length rs = (let l = ap (λ (es : List Event). length es) c.deref.ensures.value in omega (arith, c.len.ensures, l)) in
    let d : Depth = record { size = page.orders; known = Sources c.len.result } in
    let is = c.deref.ensures.value ∙ c.requires.reads_are in
    let first : known_of c.push_reading.new.depths.items ≡ before_reads runs 0 rs = c.in_ok-push_reading.ensures.known ∙ ap (λ (ds : List Depth). known_of ds ++ before_reads runs 0 rs) c.clear.ensures.items in
    all_depths n runs rs c.push_reading.new.depths.items c.push_depth.new.depths.items c.push_orders.new.depths.items d is first
    (last_depth n runs rs page.orders c.len.result is c.requires.orders many) (ap (λ k. Sources k) many) c.in_ok-push_depth.ensures c.in_ok-push_orders.ensures.known c.in_ok-push_orders.ensures.depths

pub push_reading-requires-clause-page : goal.push_reading-requires-clause-page
push_reading-requires-clause-page c = c.requires

pub push_reading-requires-clause-reads : goal.push_reading-requires-clause-reads
push_reading-requires-clause-reads c = c.deref.ensures.value

pub push_orders-requires-clause-page : goal.push_orders-requires-clause-page
push_orders-requires-clause-page c = c.requires

pub returns-clause-depths : goal.returns-clause-depths
returns-clause-depths c = c.in_ok-push_orders.ensures.depths

pub returns-in_err-push_reading-clause-depths : goal.returns-in_err-push_reading-clause-depths
returns-in_err-push_reading-clause-depths c = IfOk-from_err c.from_residual.result _ c.from_residual.ensures.0

pub returns-in_err-push_reading-clause-are : goal.returns-in_err-push_reading-clause-are
returns-in_err-push_reading-clause-are c = IfOk-from_err c.from_residual.result _ c.from_residual.ensures.0

pub returns-in_err-push_depth-clause-depths : goal.returns-in_err-push_depth-clause-depths
returns-in_err-push_depth-clause-depths c = IfOk-from_err c.from_residual-in_err-push_depth.result _ c.from_residual-in_err-push_depth.ensures.0

pub returns-in_err-push_depth-clause-are : goal.returns-in_err-push_depth-clause-are
returns-in_err-push_depth-clause-are c = IfOk-from_err c.from_residual-in_err-push_depth.result _ c.from_residual-in_err-push_depth.ensures.0

pub returns-in_err-push_orders-clause-depths : goal.returns-in_err-push_orders-clause-depths
returns-in_err-push_orders-clause-depths c = IfOk-from_err c.from_residual-in_err-push_orders.result _ c.from_residual-in_err-push_orders.ensures.0

pub returns-in_err-push_orders-clause-are : goal.returns-in_err-push_orders-clause-are
returns-in_err-push_orders-clause-are c = IfOk-from_err c.from_residual-in_err-push_orders.result _ c.from_residual-in_err-push_orders.ensures.0

pub push_orders-requires-clause-depths : goal.push_orders-requires-clause-depths
push_orders-requires-clause-depths c =
    let runs = c.args.page.now.runs.items in
    let rs = c.deref.result.now in
    let many : c.len.result ≡ length rs = omega (arith, c.len.ensures, ap (λ (es : List Event). length es) c.deref.ensures.value) in
    let d : Depth = record { size = c.args.page.now.orders; known = Sources c.len.result } in
    depths_more c.args.locations runs c.push_reading.new.depths.items c.push_depth.new.depths.items d (ltb 1 d.size) c.in_ok-push_depth.ensures
    (last_depth c.args.locations runs rs d.size c.len.result (c.deref.ensures.value ∙ c.requires.reads_are) c.requires.orders many) c.in_ok-push_reading.ensures.depths

pub push_reading-requires-clause-depths : goal.push_reading-requires-clause-depths
push_reading-requires-clause-depths c = λ k d l. absurd (omega (arith, l, ap (λ ds. length ds) c.clear.ensures.items))
