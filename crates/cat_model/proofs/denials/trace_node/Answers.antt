use Rattle.std.proofs.Common.{map, arith}
use Rattle.std.specs.Prelude.{reverse}
use Rattle.cat_model.proofs.Members.{ok_if}
use Rattle.cat_model.proofs.Tracing.{trace_leaves, trace_signs, trace_operators, call_items, rest_items}
use Rattle.cat_model.proofs.denials.trace_node.Goals as goal

pub returns-in-Leaf : goal.returns-in-Leaf
returns-in-Leaf c =
    ok_if c.trace_leaf.result _ _
    (λ v t ts h. trace_leaves c.args.scope.now.names.items (map (λ x. x.now) c.args.tracked.now) c.args.node.now c.in-Leaf.leaf v.items (reverse (map (λ a. a.items) c.args.waiting.now.items)) ts c.in-Leaf.is t h) c.trace_leaf.ensures

pub returns-in-Sign : goal.returns-in-Sign
returns-in-Sign c = λ ts h.
    trace_signs c.args.scope.now.names.items (map (λ x. x.now) c.args.tracked.now) c.args.node.now c.in-Sign.sign c.trace_sign.result.items c.latest-operand.result.items (reverse (map (λ a. a.items) c.args.waiting.now.items))
    (reverse (map (λ a. a.items) c.latest-operand.new.waiting.items)) ts c.in-Sign.is c.latest-operand.ensures.value c.latest-operand.ensures.rest c.trace_sign.ensures h

pub returns-in-Infix : goal.returns-in-Infix
returns-in-Infix c =
    ok_if c.trace_infix.result _ _
    (λ v t ts h. trace_operators c.args.scope.now.names.items (map (λ x. x.now) c.args.tracked.now) c.args.node.now c.in-Infix.operator v.items c.latest-left.result.items c.latest-right.result.items (reverse (map (λ a. a.items) c.args.waiting.now.items))
    (reverse (map (λ a. a.items) c.latest-right.new.waiting.items)) (reverse (map (λ a. a.items) c.latest-left.new.waiting.items)) ts c.in-Infix.is c.latest-right.ensures.value c.latest-right.ensures.rest c.latest-left.ensures.value c.latest-left.ensures.rest t h)
    c.trace_infix.ensures

pub returns-in_ok-traces-in-Call : goal.returns-in_ok-traces-in-Call
returns-in_ok-traces-in-Call c = λ ts h.
    call_items c.args.scope.now.names.items (map (λ x. x.now) c.args.tracked.now) c.args.node.now c.in-Call.name c.in-Call.count c.saturating_sub-from.result c.in_ok-traces-in-Call.traces.items c.args.waiting.now.items _ c.truncate.new.self.items ts
    c.in-Call.is (omega (arith, c.saturating_sub-from.ensures, c.len.ensures)) (rest_items c.deref.result.now c.args.waiting.now.items c.saturating_sub-from.result c.deref.ensures.value) c.truncate.ensures.items c.in_ok-traces-in-Call.ensures h
