use Rattle.std.proofs.Common.{◌≡◌, ◌∙◌, List, All, length, ap, sym, subst}
use Rattle.std.specs.Prelude.{IfOk}
use Rattle.wb_text.specs.Tokens.{IsWithin}
use Rattle.wb_text.specs.declared.token.Token.{Token}
use Rattle.cat_places.specs.Blame.{item_of}
use Rattle.cat_places.specs.Denied.{uses_of_group, IsToldUse}
use Rattle.cat_places.specs.Own.{uses}
use Rattle.cat_places.proofs.model.Blame.denied.Goals as goal

pub told-requires : goal.told-requires
told-requires c = subst (All (IsWithin (length c.args.self.now.text.now))) (sym c.deref.ensures.value) c.in_ok-all.ensures.within

pub returns : goal.returns
returns c =
    let text = c.args.self.now.text.now in
    let own = c.args.own.now in
    let all : c.deref.result.now ≡ uses_of_group text own (item_of c.args.self.now.files.now c.args.self.now.visit) = c.deref.ensures.value ∙ c.in_ok-all.ensures.all ∙ ap (uses_of_group text own) c.item_of-item.ensures in
    let found : c.deref-2.result.now ≡ uses text c.args.name.now own = c.deref-2.ensures.value ∙ c.in_ok-found.ensures.all in
    subst (λ (us : List Token). IfOk c.told.result (IsToldUse c.args.self.now.files.now c.args.self.now.before.now c.args.self.now.visit.item text us (uses text c.args.name.now own))) all
    (subst (λ (ts : List Token). IfOk c.told.result (IsToldUse c.args.self.now.files.now c.args.self.now.before.now c.args.self.now.visit.item text c.deref.result.now ts)) found c.told.ensures)
