use Rattle.std.proofs.Common.{◌≡◌, List, [], ◌∷◌, ◌++◌, map, true, false, subst}
use Rattle.std.specs.Prelude.{IfOk}
use Rattle.cat_tree.specs.Tree.{Clause, clause_of}
use Rattle.cat_model.specs.Faults.{IsCause}
use Rattle.cat_model.specs.declared.fault.ModelFault.{ModelFault}
use Rattle.cat_places.specs.Blame.{alone, items_put, main}
use Rattle.cat_places.proofs.Denying.{put_last}
use Rattle.cat_places.proofs.denied.Group.is_model_with.Goals as goal

pub returns-clause-yes : goal.returns-clause-yes
returns-clause-yes c =
    let put : map clause_of c.push.new.self.items ≡ items_put c.args.self.now.files.now c.args.self.now.before.now ++ clause_of c.args.item.now ∷ [] =
    put_last c.in_ok-items.items.items c.push.new.self.items c.in_ok-copy.field-0 (items_put c.args.self.now.files.now c.args.self.now.before.now) (clause_of c.args.item.now) c.in_ok-push.ensures.items c.in_ok-items.ensures c.in_ok-copy.ensures in
    subst (λ (is : List Clause). IfOk c.is_model.result (λ b. b ≡ true → (e : ModelFault) → ¬ IsCause e (alone is) main)) put c.is_model.ensures.yes

pub returns-clause-no : goal.returns-clause-no
returns-clause-no c =
    let put : map clause_of c.push.new.self.items ≡ items_put c.args.self.now.files.now c.args.self.now.before.now ++ clause_of c.args.item.now ∷ [] =
    put_last c.in_ok-items.items.items c.push.new.self.items c.in_ok-copy.field-0 (items_put c.args.self.now.files.now c.args.self.now.before.now) (clause_of c.args.item.now) c.in_ok-push.ensures.items c.in_ok-items.ensures c.in_ok-copy.ensures in
    subst (λ (is : List Clause). IfOk c.is_model.result (λ b. b ≡ false → (e : ModelFault) × IsCause e (alone is) main)) put c.is_model.ensures.no
