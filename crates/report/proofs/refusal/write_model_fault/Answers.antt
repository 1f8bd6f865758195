use Rattle.std.proofs.Common.{◌≡◌}
use Rattle.cat_model.specs.Labels.{model_label}
use Rattle.report.proofs.refusal.write_model_fault.Goals as goal

pub returns-in-NoInclude : goal.returns-in-NoInclude
returns-in-NoInclude g c =
    let label : c.as_bytes-label.result.now ≡ model_label c.args.fault.now = cc in
    let name : c.bytes-in-NoInclude.result.now ≡ c.in-NoInclude.name = cc in
    rw c.in-NoInclude.is (rw (label, name, c.in-NoInclude.is) at c.write_field-in-NoInclude.ensures)

pub returns-in-IncludeCycle : goal.returns-in-IncludeCycle
returns-in-IncludeCycle g c =
    let label : c.as_bytes-label.result.now ≡ model_label c.args.fault.now = cc in
    let name : c.bytes-in-IncludeCycle.result.now ≡ c.in-IncludeCycle.name = cc in
    rw c.in-IncludeCycle.is (rw (label, name, c.in-IncludeCycle.is) at c.write_field-in-IncludeCycle.ensures)

pub returns-in-WrongSort : goal.returns-in-WrongSort
returns-in-WrongSort g c =
    let label : c.as_bytes-label.result.now ≡ model_label c.args.fault.now = cc in
    let name : c.bytes-in-WrongSort.result.now ≡ c.in-WrongSort.name = cc in
    rw c.in-WrongSort.is (rw (label, name, c.in-WrongSort.is) at c.write_field-in-WrongSort.ensures)

pub returns-in-NotMonotone : goal.returns-in-NotMonotone
returns-in-NotMonotone g c =
    let label : c.as_bytes-label.result.now ≡ model_label c.args.fault.now = cc in
    let name : c.bytes-in-NotMonotone.result.now ≡ c.in-NotMonotone.name = cc in
    rw c.in-NotMonotone.is (rw (label, name, c.in-NotMonotone.is) at c.write_field-in-NotMonotone.ensures)

pub returns-in-CallsTooLarge : goal.returns-in-CallsTooLarge
returns-in-CallsTooLarge g c =
    let label : c.as_bytes-label.result.now ≡ model_label c.args.fault.now = cc in
    let name : c.bytes-in-CallsTooLarge.result.now ≡ c.in-CallsTooLarge.name = cc in
    rw c.in-CallsTooLarge.is (rw (label, name, c.in-CallsTooLarge.is) at c.write_field-in-CallsTooLarge.ensures)
