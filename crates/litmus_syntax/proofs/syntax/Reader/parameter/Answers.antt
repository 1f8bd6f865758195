use Rattle.std.proofs.Common.{◌≡◌, false, refl, rules}
use Rattle.litmus_syntax.specs.Drafts.{is_parameter}
use Rattle.litmus_syntax.specs.Reading.{parameter_behind}
use Rattle.litmus_syntax.proofs.ParameterNames.{is_new, added_last}
use Rattle.litmus_syntax.proofs.Stops.{stopped, without_memory}
use Rattle.litmus_syntax.proofs.syntax.Reader.parameter.Goals as goal

-- what a part refuses

pub returns-in_err-name-clause-gives : goal.returns-in_err-name-clause-gives
unfolding parameter_behind
returns-in_err-name-clause-gives c ps named = rw (← c.skip_volatile.ensures, c.in_ok-kind.ensures, c.in_ok-expect.ensures) (stopped _ _ _ _ _ _ _ c.in_err-name.ensures c.from_residual-in_err-name.ensures.1)

pub returns-in_err-copy-clause-gives : goal.returns-in_err-copy-clause-gives
returns-in_err-copy-clause-gives c ps named = without_memory _ _ _ _ c.from_residual-in_err-copy.ensures.1

pub returns-in_err-insert-clause-gives : goal.returns-in_err-insert-clause-gives
returns-in_err-insert-clause-gives c ps named = without_memory _ _ _ _ c.from_residual-in_err-insert.ensures.1

pub returns-in_err-copy-2-clause-gives : goal.returns-in_err-copy-2-clause-gives
returns-in_err-copy-2-clause-gives c ps named = without_memory _ _ _ _ c.from_residual-in_err-copy-2.ensures.1

-- a name that none of the earlier ones has

pub returns-clause-gives : goal.returns-clause-gives
unfolding parameter_behind
returns-clause-gives c ps named =
    let new = is_new ps c.args.names.now.keys c.in_ok-name.name.now c.in_ok-copy.field-0 c.in_ok-insert.field-0 named c.in_ok-copy.ensures c.in_ok-insert.ensures.added in
    let found : is_parameter ps c.in_ok-name.name.now ≡ false = search (rules, new) in
    rw (← c.skip_volatile.ensures, c.in_ok-kind.ensures, c.in_ok-expect.ensures, c.in_ok-name.ensures, c.in_ok-copy-2.ensures, found) refl

pub returns-clause-names : goal.returns-clause-names
returns-clause-names c =
    let last = added_last c.args.names.now.keys c.insert.new.self.keys c.in_ok-name.name.now c.in_ok-copy.field-0 c.in_ok-copy-2.field-0 c.in_ok-insert.field-0 c.in_ok-copy.ensures c.in_ok-copy-2.ensures c.in_ok-insert.ensures.added c.in_ok-insert.ensures.keys in
    search (rules, last)
