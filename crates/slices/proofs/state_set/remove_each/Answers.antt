use Rattle.std.proofs.Common.{◌≡◌, ◌∙◌, ◌<◌, ◌≤◌, length, map, get_or, ap, sym, arith}
use Rattle.std.proofs.lemmas.Grind.{common_steps}
use Rattle.std.proofs.lemmas.List.{get_or-map, length-map}
use Rattle.slices.proofs.Sets.{without_all, without_more, without_none}
use Rattle.slices.proofs.state_set.remove_each.Goals as goal

pub loop-row-init : goal.loop-row-init
loop-row-init c = without_none c.args.set.now.keys c.requires

pub loop-row-preserved : goal.loop-row-preserved
loop-row-preserved c =
    let all = c.args.rows.now in
    let rows = map (λ row. row.now) all in
    let row = c.row-item.result in
    let lt : c.loop-row.row-index < length all = grind (arith, common_steps) in
    let many : length rows ≡ length all = length-map all _ in
    let at : row.now ≡ get_or rows c.loop-row.row-index row.now = ap (λ r. r.now) c.row-item.is ∙ sym (get_or-map (λ r. r.now) all c.loop-row.row-index row row.now lt) in
    without_more c.args.set.now.keys rows c.loop-row.set.keys c.remove.new.self.keys c.loop-row.row-index row.now (omega (arith, lt, many)) at c.loop-row.invariant c.remove.ensures.keys c.remove.ensures.ordered

pub returns : goal.returns
returns c =
    let all = c.args.rows.now in
    let rows = map (λ row. row.now) all in
    let many : length rows ≡ length all = length-map all _ in
    let le : length all ≤ c.loop-row.row-index = grind (arith, common_steps) in
    without_all c.args.set.now.keys rows c.loop-row.set.keys c.loop-row.row-index (omega (arith, le, many)) c.loop-row.invariant
