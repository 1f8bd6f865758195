use Rattle.std.proofs.Common.{◌≡◌, ◌∙◌, ℕ, List, true, false, subst}
use Rattle.std.specs.Prelude.{IfOk}
use Rattle.cat_places.specs.Denied.{with_only, IsRefused}
use Rattle.cat_places.proofs.denied.Group.is_allowed.Goals as goal

pub returns-clause-yes : goal.returns-clause-yes
returns-clause-yes c =
    let text : c.deref.result.now ≡ with_only c.args.self.now.text.now c.args.self.now.uses.now c.args.token.now = c.deref.ensures.value ∙ c.in_ok-text.ensures in
    subst (λ (l : List ℕ). IfOk c.is_model_as.result (λ b. b ≡ true → ¬ IsRefused c.args.self.now.files.now c.args.self.now.before.now c.args.self.now.item l)) text c.is_model_as.ensures.yes

pub returns-clause-no : goal.returns-clause-no
returns-clause-no c =
    let text : c.deref.result.now ≡ with_only c.args.self.now.text.now c.args.self.now.uses.now c.args.token.now = c.deref.ensures.value ∙ c.in_ok-text.ensures in
    subst (λ (l : List ℕ). IfOk c.is_model_as.result (λ b. b ≡ false → IsRefused c.args.self.now.files.now c.args.self.now.before.now c.args.self.now.item l)) text c.is_model_as.ensures.no
