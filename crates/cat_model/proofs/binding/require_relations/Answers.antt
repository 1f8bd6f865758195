use Rattle.std.proofs.Common.{◌≡◌, ◌∙◌, Some, sym, inr, ap}
use Rattle.cat_tree.specs.Tree.{bound_of}
use Rattle.cat_model.specs.Sorts.{sort}
use Rattle.cat_model.specs.declared.fault.ModelFault.TheVariants.{WrongSort}
use Rattle.cat_model.specs.declared.sort.Sort.TheVariants.{Relation}
use Rattle.cat_model.proofs.Contained.{contains_at}
use Rattle.cat_model.proofs.Listed.{all_more_map, all_end_map, clash}
use Rattle.cat_model.proofs.binding.require_relations.Goals as goal

pub returns-then-not-is_relation-clause-err : goal.returns-then-not-is_relation-clause-err
returns-then-not-is_relation-clause-err c = inr (
  bound_of c.binding-item.result,
  ap WrongSort c.in_ok-copy.ensures,
  contains_at bound_of c.args.bindings.now c.loop-binding.binding-index c.binding-item.result c.loop-binding-test.true c.binding-item.is,
  λ W f e. clash c.is_relation.result c.if-not-is_relation.true (c.is_relation.ensures.1 (c.in_ok-sort_of.ensures W.sorts f.sorts ∙ e)),
)

pub loop-binding-preserved : goal.loop-binding-preserved
loop-binding-preserved c = λ W f.
    all_more_map bound_of (λ b. sort W.sorts b.value ≡ Some Relation) c.args.bindings.now c.loop-binding.binding-index c.binding-item.result c.loop-binding-test.true c.binding-item.is (c.loop-binding.invariant W f)
    (sym (c.in_ok-sort_of.ensures W.sorts f.sorts) ∙ c.is_relation.ensures.0 c.if-not-is_relation.false)

pub returns-clause-ok : goal.returns-clause-ok
returns-clause-ok c = λ W f. all_end_map bound_of (λ b. sort W.sorts b.value ≡ Some Relation) c.args.bindings.now c.loop-binding.binding-index c.loop-binding-test.false (c.loop-binding.invariant W f)
