use Rattle.std.proofs.Common.{◌≡◌, ◌+◌, ◌∙◌, ap, sym, refl, true, false, arith, get_or}
use Rattle.cat_syntax.specs.Counting.{cost, announces_node, context_after, depth_after}
use Rattle.cat_syntax.specs.declared.counting.Context.TheVariants.{Naming}
use Rattle.cat_syntax.proofs.Weights.{weight_next, front_next, excess_here}
use Rattle.cat_syntax.proofs.counting.excess.Goals as goal

pub returns-then-announces-clause-place : goal.returns-then-announces-clause-place
returns-then-announces-clause-place c =
    let symbol = c.index-symbols-i.result in
    let counted : c.cost.result ≡ cost c.loop-i.context c.loop-i.depth (get_or c.args.symbols.now c.loop-i.i symbol) = c.cost.ensures.value ∙ ap (cost c.loop-i.context c.loop-i.depth) c.index-symbols-i.is in
    let reported : announces_node (get_or c.args.symbols.now c.loop-i.i symbol) ≡ true = sym (ap announces_node c.index-symbols-i.is) ∙ (sym c.announces.ensures ∙ c.if-announces.true) in (
      omega (arith, c.loop-i-test.true),
      excess_here c.loop-i.context c.loop-i.depth c.args.symbols.now c.loop-i.i c.loop-i.nodes (c.loop-i.i + 1) symbol c.loop-i-test.true c.loop-i.invariant.3 c.loop-i.invariant.1
          (omega (arith, c.if-nodes-gt-MOST_NODES.true, counted)) (rw reported refl),
    )

pub returns-else-announces-clause-place : goal.returns-else-announces-clause-place
returns-else-announces-clause-place c =
    let symbol = c.index-symbols-i.result in
    let counted : c.cost.result ≡ cost c.loop-i.context c.loop-i.depth (get_or c.args.symbols.now c.loop-i.i symbol) = c.cost.ensures.value ∙ ap (cost c.loop-i.context c.loop-i.depth) c.index-symbols-i.is in
    let reported : announces_node (get_or c.args.symbols.now c.loop-i.i symbol) ≡ false = sym (ap announces_node c.index-symbols-i.is) ∙ (sym c.announces.ensures ∙ c.if-announces.false) in (
      omega (arith, c.loop-i-test.true),
      excess_here c.loop-i.context c.loop-i.depth c.args.symbols.now c.loop-i.i c.loop-i.nodes c.loop-i.i symbol c.loop-i-test.true c.loop-i.invariant.3 c.loop-i.invariant.1
          (omega (arith, c.if-nodes-gt-MOST_NODES.true, counted)) (rw reported refl),
    )

pub loop-i-preserved : goal.loop-i-preserved
loop-i-preserved c =
    let symbol = c.index-symbols-i.result in
    let counted : c.cost.result ≡ cost c.loop-i.context c.loop-i.depth (get_or c.args.symbols.now c.loop-i.i symbol) = c.cost.ensures.value ∙ ap (cost c.loop-i.context c.loop-i.depth) c.index-symbols-i.is in
    let behind : c.following-context.result ≡ context_after c.loop-i.context (get_or c.args.symbols.now c.loop-i.i symbol) = c.following-context.ensures ∙ ap (context_after c.loop-i.context) c.index-symbols-i.is in
    let nested : c.depth_behind-depth.result ≡ depth_after c.loop-i.depth (get_or c.args.symbols.now c.loop-i.i symbol) = c.depth_behind-depth.ensures.value ∙ ap (depth_after c.loop-i.depth) c.index-symbols-i.is in
    let rest = weight_next c.loop-i.context c.loop-i.depth c.args.symbols.now c.loop-i.i symbol c.loop-i-test.true in
    let few = front_next Naming c.loop-i.context c.loop-i.depth c.args.symbols.now c.loop-i.i c.loop-i.nodes symbol c.loop-i-test.true c.loop-i.invariant.3 in (
      rw (counted, behind, nested) (omega (arith, rest, c.loop-i.invariant.0)),
      omega (arith, c.if-nodes-gt-MOST_NODES.false),
      omega (arith, c.cost.ensures.small, c.loop-i.invariant.2),
      rw (counted, behind, nested) few,
      omega (arith, c.depth_behind-depth.ensures.most, c.loop-i.invariant.4),
    )

pub returns-then-announces-clause-weight : goal.returns-then-announces-clause-weight
returns-then-announces-clause-weight c =
    let symbol = c.index-symbols-i.result in
    let counted : c.cost.result ≡ cost c.loop-i.context c.loop-i.depth (get_or c.args.symbols.now c.loop-i.i symbol) = c.cost.ensures.value ∙ ap (cost c.loop-i.context c.loop-i.depth) c.index-symbols-i.is in
    omega (arith, counted, c.if-nodes-gt-MOST_NODES.true, c.loop-i.invariant.0, weight_next c.loop-i.context c.loop-i.depth c.args.symbols.now c.loop-i.i symbol c.loop-i-test.true)

pub returns-else-announces-clause-weight : goal.returns-else-announces-clause-weight
returns-else-announces-clause-weight c =
    let symbol = c.index-symbols-i.result in
    let counted : c.cost.result ≡ cost c.loop-i.context c.loop-i.depth (get_or c.args.symbols.now c.loop-i.i symbol) = c.cost.ensures.value ∙ ap (cost c.loop-i.context c.loop-i.depth) c.index-symbols-i.is in
    omega (arith, counted, c.if-nodes-gt-MOST_NODES.true, c.loop-i.invariant.0, weight_next c.loop-i.context c.loop-i.depth c.args.symbols.now c.loop-i.i symbol c.loop-i-test.true)
