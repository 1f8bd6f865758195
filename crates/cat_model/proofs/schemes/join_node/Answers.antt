use Rattle.std.proofs.Common.{map, arith}
use Rattle.std.specs.Prelude.{reverse}
use Rattle.cat_model.proofs.Standing.{kept_leaf, kept_sign, kept_infix, kept_call, names_by}
use Rattle.cat_model.proofs.schemes.join_node.Goals as goal

pub returns-in-Leaf-clause-kept : goal.returns-in-Leaf-clause-kept
returns-in-Leaf-clause-kept c = λ ts h.
    kept_leaf c.args.scope.now.names.items (map (λ x. x.now) c.args.parameters.now) c.args.node.now c.in-Leaf.leaf c.args.classes.now c.join_leaf.new.classes (reverse c.args.waiting.now.items) c.join_leaf.result ts c.in-Leaf.is c.join_leaf.ensures.made h

pub returns-in-Sign-clause-kept : goal.returns-in-Sign-clause-kept
returns-in-Sign-clause-kept c = λ ts h.
    kept_sign c.args.scope.now.names.items (map (λ x. x.now) c.args.parameters.now) c.args.node.now c.in-Sign.sign c.args.classes.now c.join_sign.new.classes (reverse c.args.waiting.now.items) (reverse c.latest-operand.new.waiting.items)
    c.latest-operand.result c.join_sign.result ts c.in-Sign.is c.latest-operand.ensures.value c.latest-operand.ensures.rest c.join_sign.ensures.made h

pub returns-in-Infix-clause-kept : goal.returns-in-Infix-clause-kept
returns-in-Infix-clause-kept c = λ ts h.
    kept_infix c.args.scope.now.names.items (map (λ x. x.now) c.args.parameters.now) c.args.node.now c.in-Infix.operator c.args.classes.now c.join_infix.new.classes (reverse c.args.waiting.now.items) (reverse c.latest-right.new.waiting.items)
    (reverse c.latest-left.new.waiting.items) c.latest-left.result c.latest-right.result c.join_infix.result ts c.in-Infix.is c.latest-right.ensures.value c.latest-right.ensures.rest c.latest-left.ensures.value c.latest-left.ensures.rest c.join_infix.ensures.made h

pub returns-in-Call-clause-kept : goal.returns-in-Call-clause-kept
returns-in-Call-clause-kept c = λ ts h.
    kept_call c.args.scope.now.names.items (map (λ x. x.now) c.args.parameters.now) c.args.node.now c.in-Call.name c.in-Call.count c.saturating_sub-from.result c.args.classes.now c.join_name-class.new.classes c.args.waiting.now.items c.truncate.new.self.items
    c.join_name-class.result ts c.in-Call.is (omega (arith, c.saturating_sub-from.ensures, c.len.ensures)) c.truncate.ensures.items
    (names_by c.args.scope.now.names.items (map (λ x. x.now) c.args.parameters.now) c.in-Call.name c.deref.result.now c.args.waiting.now.items c.saturating_sub-from.result c.args.classes.now c.join_name-class.new.classes c.join_name-class.result c.deref.ensures.value c.join_name-class.ensures.made) h
