use Rattle.std.proofs.Common.{◌≡◌, ◌+◌, ◌∙◌, ℕ, List, length, map, take, ap, sym, subst}
use Rattle.std.proofs.lemmas.List.{length-map}
use Rattle.cat_tree.specs.Tree as trees
use Rattle.cat_tree.specs.Tree.{bound_of}
use Rattle.cat_eval.specs.Code.{at}
use Rattle.cat_eval.proofs.Accounts.{entries_long, entries_next, map_next, take_length}
use Rattle.cat_eval.proofs.valuing.group_entries.Goals as goal

pub loop-number-preserved : goal.loop-number-preserved
loop-number-preserved c =
    let i : ℕ = c.loop-number.number in
    let b = c.index-bindings-number.result in
    let vs = c.args.values.now in
    let bs = c.args.bindings.now in
    let before : List trees.Bound = map bound_of (take i bs) in
    let next = map_next bound_of bs i b c.loop-number-test.true c.index-bindings-number.is in
    let inv = c.loop-number.invariant in
    let es = c.loop-number.entries.items in
    let V : ℕ → Type 0 = λ n. c.in_ok-entry.field-0.value ≡ at vs (c.args.from + n) in
    let long : i ≡ length es = sym (ap length inv ∙ entries_long before c.args.from vs ∙ length-map (take i bs) bound_of ∙ take_length bs i c.loop-number-test.true) in
    entries_next before (map bound_of (take (i + 1) bs)) (bound_of b) c.args.from vs es c.push.new.self.items c.in_ok-entry.field-0 next inv c.in_ok-push.ensures.items c.in_ok-entry.ensures.name (subst V long c.in_ok-entry.ensures.value)
