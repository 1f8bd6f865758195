use Rattle.std.proofs.Common.{◌≡◌, ◌∙◌, ◌∷◌, ◌++◌, ap, sym, map, length, append_assoc, append-nil, arith}
use Rattle.std.proofs.lemmas.List.{nil_from_length}
use Rattle.std.specs.Vec.Iter.{into_iter_items}
use Rattle.cat_tree.specs.Terms.{postorder, postorders, terms_of}
use Rattle.cat_tree.specs.Tree.{term_of}
use Rattle.cat_tree.proofs.expression.making.argument_nodes.Goals as goal

pub loop-argument-preserved : goal.loop-argument-preserved
loop-argument-preserved c =
    let at = c.loop-argument in
    let rest = into_iter_items c.next.new.self in
    let steps : into_iter_items at.argument-iterator ≡ c.in-Some.argument ∷ rest = c.in-Some.ensures.steps.0 in
    let behind = postorders (terms_of (map term_of rest)) in
    record {
      nodes =
          ap (λ ns. ns ++ behind) c.in_ok-append.ensures ∙ append_assoc at.nodes.items (postorder (term_of c.in-Some.argument)) behind
          ∙ ap (λ es. at.nodes.items ++ postorders (terms_of (map term_of es))) (sym steps) ∙ at.invariant.nodes;
      left = omega (arith, c.in-Some.ensures.steps.1, at.invariant.left, ap length steps);
    }

pub returns : goal.returns
returns c =
    let at = c.loop-argument in
    let none = nil_from_length (into_iter_items at.argument-iterator) (sym at.invariant.left ∙ c.in-None.ensures.steps.0) in
    sym (append-nil at.nodes.items) ∙ ap (λ es. at.nodes.items ++ postorders (terms_of (map term_of es))) (sym none) ∙ at.invariant.nodes
