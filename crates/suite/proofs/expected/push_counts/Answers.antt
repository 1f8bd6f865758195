use Rattle.std.proofs.Common.{◌∙◌, ◌++◌, List, ℕ, ap}
use Rattle.std.specs.Prelude.{codes}
use Rattle.std.proofs.lemmas.Result.{on_ok_weaker}
use Rattle.suite.proofs.Pushed.{five}
use Rattle.suite.proofs.expected.push_counts.Goals as goal

pub returns : goal.returns
returns c =
    let told : List ℕ → List ℕ → List ℕ = λ was is. c.args.text.now.items ++ (codes ", was in " ++ was ++ codes " states, is in " ++ is ++ codes " states\n") in
    on_ok_weaker c.push_parts.result
    (λ e. e ∙ five c.args.text.now.items (codes ", was in ") c.deref.result.now (codes " states, is in ") c.deref-2.result.now (codes " states\n")
    ∙ ap (λ was. told was c.deref-2.result.now) c.deref.ensures.value ∙ ap (told c.args.old.now.states.items) c.deref-2.ensures.value)
    c.push_parts.ensures
