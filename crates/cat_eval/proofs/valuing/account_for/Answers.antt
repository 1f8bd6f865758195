use Rattle.std.proofs.Common.{List, subst}
use Rattle.std.specs.Prelude.{◌↔◌, IfOk, IsTrue}
use Rattle.listings.specs.Lists.{Lists}
use Rattle.cat_tree.specs.Tree.{Word, Clause}
use Rattle.cat_eval.specs.Judging.{Allowed, Raised}
use Rattle.cat_eval.proofs.valuing.account_for.Goals as goal

pub returns-clause-allowed : goal.returns-clause-allowed
returns-clause-allowed c =
    let P : List Clause → Type 0 = λ items. IfOk c.account_for-2.result (λ a. IsTrue a.judgement.allowed ↔ Allowed items c.args.view.now) in
    subst P c.in_ok-of.ensures c.account_for-2.ensures.allowed

pub returns-clause-flags : goal.returns-clause-flags
returns-clause-flags c =
    let P : List Clause → Type 0 = λ items. IfOk c.account_for-2.result (λ a. Lists {X = Word} (Raised items c.args.view.now) a.judgement.flags) in
    subst P c.in_ok-of.ensures c.account_for-2.ensures.flags
