use Rattle.std.proofs.Common.{ℕ, ◌∙◌, List, map, ap}
use Rattle.std.proofs.lemmas.List.{take_all}
use Rattle.serde_json.specs.Data.{string}
use Rattle.serde_json.specs.View.{view}
use Rattle.suite.proofs.Pushed.{seen_on}
use Rattle.suite.proofs.json.texts_of.Goals as goal

pub loop-name-preserved : goal.loop-name-preserved
loop-name-preserved c =
    seen_on view string c.args.names.now c.loop-name.name-index c.name-item.result c.loop-name.values.items c.push.new.self.items c.in_ok-try_from_str.field-0
    c.loop-name-test.true c.name-item.is c.in_ok-push.ensures.items (c.in_ok-try_from_str.ensures ∙ ap string c.text_of.ensures) c.loop-name.invariant

pub returns : goal.returns
returns c = c.loop-name.invariant ∙ ap (λ (xs : List (List ℕ)). map string xs) (take_all c.loop-name.name-index c.args.names.now c.loop-name-test.false)
