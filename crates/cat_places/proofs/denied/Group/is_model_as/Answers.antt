use Rattle.std.proofs.Common.{rules}
use Rattle.std.proofs.lemmas.Result.{IfOk-weaker}
use Rattle.cat_places.proofs.Denying.{not_refused, refused, no_item, no_file}
use Rattle.cat_places.proofs.denied.Group.is_model_as.Goals as goal

pub returns-in-Some-get-clause-yes : goal.returns-in-Some-get-clause-yes
returns-in-Some-get-clause-yes c =
    let there = c.in-Some-get.ensures.lookup.3 in
    IfOk-weaker c.is_model_with.result _ _
    (λ b h e. not_refused c.args.self.now.files.now c.args.self.now.before.now c.args.self.now.item c.args.text.now c.in_ok-file.field-0 c.in-Some.file c.items.result.now c.in-Some-get.item.now c.in-Some.is c.in_ok-file.ensures c.items.ensures there.0 (there.1 c.in-Some-get.item.now) (h e))
    c.is_model_with.ensures.yes

pub returns-in-Some-clause-yes : goal.returns-in-Some-clause-yes
returns-in-Some-clause-yes c = λ _.
    no_item c.args.self.now.files.now c.args.self.now.before.now c.args.self.now.item c.args.text.now c.in_ok-file.field-0 c.in-Some.file c.items.result.now c.in-Some.is c.in_ok-file.ensures c.items.ensures (search rules)

pub returns-clause-yes : goal.returns-clause-yes
returns-clause-yes c = λ _. no_file c.args.self.now.files.now c.args.self.now.before.now c.args.self.now.item c.args.text.now c.in_ok-file.field-0 c.in-None.is c.in_ok-file.ensures

pub returns-in-Some-get-clause-no : goal.returns-in-Some-get-clause-no
returns-in-Some-get-clause-no c =
    let there = c.in-Some-get.ensures.lookup.3 in
    IfOk-weaker c.is_model_with.result _ _
    (λ b h e. refused c.args.self.now.files.now c.args.self.now.before.now c.args.self.now.item c.args.text.now c.in_ok-file.field-0 c.in-Some.file c.items.result.now c.in-Some-get.item.now c.in-Some.is c.in_ok-file.ensures c.items.ensures there.0 (there.1 c.in-Some-get.item.now) (h e))
    c.is_model_with.ensures.no

pub returns-in-Some-clause-no : goal.returns-in-Some-clause-no
returns-in-Some-clause-no c = λ e. absurd (cc)

pub returns-clause-no : goal.returns-clause-no
returns-clause-no c = λ e. absurd (cc)
