use Rattle.std.proofs.Common.{ℕ, ◌+◌, ◌++◌, List, drop, ap, refl, sym}
use Rattle.std.specs.Prelude.{codes, flat_map}
use Rattle.drawing.proofs.Adding.{added, all_added}
use Rattle.drawing.proofs.lines.push_others.Goals as goal

pub loop-name-preserved : goal.loop-name-preserved
loop-name-preserved c =
    let ns = c.args.names.now in
    let i = c.loop-name.name-index in
    let f = λ (m : List ℕ). codes "," ++ m in
    let F = flat_map f in
    added F F ns i c.name-item.result _ c.loop-name.out.items c.push_other.new.out.items _ c.loop-name-test.true (ap (λ (m : List ℕ). f m ++ F (drop (i + 1) ns)) (sym c.name-item.is)) c.in_ok-push_other.ensures c.loop-name.invariant

pub returns : goal.returns
returns c =
    let f = λ (m : List ℕ). codes "," ++ m in
    all_added (flat_map f) c.args.names.now c.loop-name.name-index c.loop-name.out.items _ c.loop-name-test.false refl c.loop-name.invariant
