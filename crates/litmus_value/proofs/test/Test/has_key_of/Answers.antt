use Rattle.std.proofs.Common.{◌≡◌, ◌∙◌, ap, sym}
use Rattle.conditions.specs.Exact.{by_parts}
use Rattle.litmus_value.specs.Tests.{key_of}
use Rattle.litmus_value.specs.declared.test.Parts.{Parts}
use Rattle.litmus_value.proofs.Keys.{told_by_key}
use Rattle.litmus_value.proofs.test.Test.has_key_of.Goals as goal

pub returns : goal.returns
returns c =
    let here : c.deref.result.now.key ≡ key_of c.args.self.now = ap (λ (p : Parts). p.key) c.deref.ensures ∙ c.self.invariant.key ∙ ap key_of c.self.view_is in
    let there : c.deref-2.result.now.key ≡ key_of c.args.other.now = ap (λ (p : Parts). p.key) c.deref-2.ensures ∙ c.other.invariant.key ∙ ap key_of c.other.view_is in
    told_by_key c.args.self.now c.args.other.now c.eq.result (by_parts c.eq.result c.eq.ensures.exact (λ e. sym here ∙ e ∙ there) (λ e. here ∙ e ∙ sym there))
