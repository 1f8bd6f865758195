use Rattle.std.proofs.Common.{◌∙◌, sym, ap}
use Rattle.conditions.specs.Conditions.{formula_of}
use Rattle.conditions.specs.States.{bindings, holds_in}
use Rattle.slices.specs.Findings.{FindingValue}
use Rattle.slices.proofs.Again.{found_now}
use Rattle.slices.proofs.Unions.{union_one}
use Rattle.slices.proofs.finding.Finding.add.Goals as goal

pub returns-clause-sum : goal.returns-clause-sum
returns-clause-sum c =
    let places = c.self.inside.places.value.items in
    let formula = formula_of c.prop.result.now in
    let told = c.holds-has.ensures ∙ ap (λ s. holds_in s formula) (c.new.ensures ∙ ap (λ ps. bindings ps c.values.result.now) (c.places.ensures ∙ sym (ap (λ (v : FindingValue). v.places) c.self.view_is)) ∙ ap (bindings places) c.values.ensures) ∙ ap (holds_in (bindings places c.args.state)) (c.prop.ensures ∙ sym (ap (λ (v : FindingValue). v.formula) c.self.view_is)) in
    rw (← c.self.view_is) (found_now _ c.count.new.self c.insert.new.self.keys c.args.state c.holds-has.result c.args.times (union_one c.self.inside.states.keys c.insert.new.self.keys c.args.state c.in_ok-insert.ensures.keys) told c.count.ensures)
