use Rattle.std.proofs.Common.{◌∙◌, ℕ, Option, inr, ap, subst}
use Rattle.cat_tree.specs.Tree.{term_of}
use Rattle.cat_model.specs.Counts.{IsCharged}
use Rattle.cat_model.specs.Scopes.{charge, word_of}
use Rattle.cat_model.specs.declared.fault.ModelFault.TheVariants.{CallsTooLarge}
use Rattle.cat_model.proofs.Charged.{count_more, few_nodes, over_here}
use Rattle.cat_model.proofs.checking.charge_check.Goals as goal

pub returns-in-Some-clause-ok : goal.returns-in-Some-clause-ok
returns-in-Some-clause-ok c = λ W cs f h.
    (let at = charge W.sizes W.depths (word_of c.args.check.now.kind) (term_of c.args.check.now.expression) in
    let P : Option ℕ → Type 0 = λ o. IsCharged o c.args.total at in
    count_more c.args.total c.in-Some.sum cs at h (subst P c.in-Some.is (c.in_ok-sum.ensures W (word_of c.args.check.now.kind) f (few_nodes c.args.total cs h))))

pub returns-in_ok-word-in-None-clause-err : goal.returns-in_ok-word-in-None-clause-err
returns-in_ok-word-in-None-clause-err c = inr (λ W cs f h.
    (let at = charge W.sizes W.depths (word_of c.args.check.now.kind) (term_of c.args.check.now.expression) in
    let P : Option ℕ → Type 0 = λ o. IsCharged o c.args.total at in
    ((word_of c.args.check.now.kind), ap CallsTooLarge (c.in_ok-word-in-None.ensures ∙ c.spelling.ensures), over_here c.args.total cs at h (subst P c.in-None.is (c.in_ok-sum.ensures W (word_of c.args.check.now.kind) f (few_nodes c.args.total cs h))))))
