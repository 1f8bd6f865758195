use Rattle.std.proofs.Common.{ℕ, List, length, map, take, refl, subst, sym, ◌∙◌, ap, arith}
use Rattle.std.proofs.lemmas.List.{take_all}
use Rattle.cat_tree.specs.Tree.{Defined, defined_of, functions_in}
use Rattle.cat_eval.specs.declared.naming.BoundName.{BoundName}
use Rattle.cat_eval.specs.Lowered.{AreBound, Replace}
use Rattle.cat_tree.specs.declared.tree.Definition.{Definition}
use Rattle.cat_eval.specs.Planned.{function_of}
use Rattle.cat_eval.specs.Replacing.{Replacing, with_function_texts}
use Rattle.cat_eval.proofs.Scoped.{bound_more, more_on, functions_next, functions_both}
use Rattle.cat_eval.proofs.scoping.bind_functions.Goals as goal

pub loop-definition-preserved : goal.loop-definition-preserved
loop-definition-preserved c =
    let i : ℕ = c.loop-definition.definition-index in
    let ds = c.args.definitions.now in
    let d = c.definition-item.result in
    let done : List Defined = functions_in (map defined_of (take i ds)) in
    let fs = c.args.functions.now.items in
    let inv = c.loop-definition.invariant in
    record {
      before = c.in_ok-bind_if_function.ensures.before;
      seen = c.in_ok-bind_if_function.ensures.seen ∙ inv.seen;
      more = more_on fs c.loop-definition.functions.items c.bind_if_function.new.functions.items inv.more c.in_ok-bind_if_function.ensures.more;
      bound = c.in_ok-bind_if_function.ensures.bound;
      replace = λ B R p q.
          (let P : Replacing → Type 0 = λ S. Replace c.bind_if_function.new.functions.items c.bind_if_function.new.names.items S in
          let Q : List BoundName → Type 0 = λ ns. Replace c.loop-definition.functions.items ns B in
          subst P (sym (ap (λ es. with_function_texts B es R) (functions_next ds i d c.loop-definition-test.true c.definition-item.is) ∙ functions_both B done (function_of (defined_of d)) R))
          (c.in_ok-bind_if_function.ensures.replace B (with_function_texts B done R) (subst Q (sym inv.seen) (inv.more.stays (take c.args.before c.args.names.now.items) B c.requires.seen p)) (inv.replace B R p q)));
    }

pub loop-definition-init : goal.loop-definition-init
loop-definition-init c = record {
  before = c.requires.before;
  seen = refl;
  more = record { functions = c.requires.functions; more = omega arith; stays = λ ns R b r. r };
  bound = c.requires.bound;
  replace = λ B R p q. q;
}

pub bind_if_function-requires-clause-seen : goal.bind_if_function-requires-clause-seen
bind_if_function-requires-clause-seen c =
    let inv = c.loop-definition.invariant in
    let P : List BoundName → Type 0 = λ ns. AreBound (length c.loop-definition.functions.items) ns in
    subst P (sym inv.seen) (bound_more (length c.args.functions.now.items) (length c.loop-definition.functions.items) (take c.args.before c.args.names.now.items) inv.more.more c.requires.seen)

pub returns-clause-more : goal.returns-clause-more
returns-clause-more c = c.loop-definition.invariant.more

pub returns-clause-replace : goal.returns-clause-replace
returns-clause-replace c = λ B R p q.
    (let P : List Definition → Type 0 = λ ds. Replace c.loop-definition.functions.items c.loop-definition.names.items (with_function_texts B (functions_in (map defined_of ds)) R) in
    subst P (take_all c.loop-definition.definition-index c.args.definitions.now c.loop-definition-test.false) (c.loop-definition.invariant.replace B R p q))
