use Rattle.std.proofs.Common.{◌∙◌, ◌∷◌, List, [], map, refl, ap, sym, subst}
use Rattle.std.specs.Prelude.{reverse}
use Rattle.std.proofs.lemmas.List.{length-map, reverse-append}
use Rattle.cat_tree.specs.Terms.{left_by, left_by_all}
use Rattle.cat_model.specs.Classing.{Kept}
use Rattle.cat_model.specs.declared.schemes.Class.{Class}
use Rattle.cat_model.proofs.Standing.{walk_next, walk_end, kept_first, kept_last}
use Rattle.cat_model.proofs.schemes.scheme_of.Goals as goal

pub loop-node-init : goal.loop-node-init
loop-node-init c = record {
  flat = c.in_ok-classes.ensures.flat;
  long = c.in_ok-classes.ensures.long;
  kept =
      let P : List Class → Type 0 = λ cs. Kept c.args.scope.now.names.items (map (λ x. x.now) c.args.parameters.now) c.in_ok-classes.classes cs [] in
      ([], refl, subst P (ap (λ l. reverse l) (sym c.new-waiting.ensures.items)) (kept_first c.args.scope.now.names.items (map (λ x. x.now) c.args.parameters.now) c.in_ok-classes.classes (λ js l. c.in_ok-classes.ensures.all js (l ∙ length-map c.args.parameters.now (λ x. x.now)))));
}

pub loop-node-preserved : goal.loop-node-preserved
loop-node-preserved c =
    let k = c.loop-node.invariant.kept in
    record {
      flat = c.join_node-class.ensures.flat;
      long = c.join_node-class.ensures.long ∙ c.loop-node.invariant.long;
      kept =
          let P : List Class → Type 0 = λ cs. Kept c.args.scope.now.names.items (map (λ x. x.now) c.args.parameters.now) c.join_node-class.new.classes cs (left_by c.node-item.result k.0) in (
            left_by c.node-item.result k.0,
            walk_next c.deref-node-items.result.now c.args.body.now.nodes.items c.loop-node.node-index c.node-item.result k.0 (left_by_all [] c.args.body.now.nodes.items) c.deref-node-items.ensures.value c.loop-node-test.true c.node-item.is k.1,
            subst P (sym (ap (λ l. reverse l) c.in_ok-push.ensures.items ∙ reverse-append c.join_node-class.new.waiting.items (c.join_node-class.result ∷ []))) (c.join_node-class.ensures.kept k.0 k.2),
          );
    }

pub returns : goal.returns
returns c =
    let k = c.loop-node.invariant.kept in
    kept_last c.args.scope.now.names.items (map (λ x. x.now) c.args.parameters.now) c.args.body.now.nodes.items c.loop-node.classes (reverse c.loop-node.waiting.items) (record { classes = c.loop-node.classes; result = c.latest-result.result }) k.0
    c.args.body.now.whole refl c.latest-result.ensures.value (c.loop-node.invariant.long ∙ sym (length-map c.args.parameters.now (λ x. x.now)))
    (walk_end c.deref-node-items.result.now c.args.body.now.nodes.items c.loop-node.node-index k.0 (left_by_all [] c.args.body.now.nodes.items) c.deref-node-items.ensures.value c.loop-node-test.false k.1) k.2
