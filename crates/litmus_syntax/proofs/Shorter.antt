-- Each part takes a symbol; entries and statements may take none.
use Rattle.std.proofs.Common.{ℕ, ◌<◌, List, length, arith}
use Rattle.conditions.specs.declared.place.Binding.{Binding}
use Rattle.litmus_syntax.specs.declared.symbol.Symbol.{Symbol}
use Rattle.litmus_tree.specs.declared.tree.Parameter.{Parameter}
use Rattle.litmus_syntax.specs.Drafts.{Listing}
use Rattle.litmus_syntax.specs.Grammar.{IsUntyped, untyped_zero, untyped_value, IsEntry, entry_untyped, entry_typed, IsParameter, parameter_typed, parameter_volatile, IsParameters, parameters_one, parameters_more, IsParameterList, list_none, list_some, IsThread, thread_body}
use Rattle.litmus_syntax.proofs.Places.{location_shorter, place_shorter}
use Rattle.litmus_syntax.proofs.Statements.{steps_shorter}

untyped_shorter : {ts rest : List Symbol} {b : Binding} → IsUntyped ts rest b → length rest < length ts
untyped_shorter (untyped_zero d) = location_shorter d
untyped_shorter (untyped_value d) = omega (arith, place_shorter d)

pub entry_shorter : {ts rest : List Symbol} {b : Binding} → IsEntry ts rest b → length rest < length ts
entry_shorter (entry_untyped d) = untyped_shorter d
entry_shorter (entry_typed t d) = omega (arith, untyped_shorter d)

pub parameter_shorter : {ts rest : List Symbol} {p : Parameter} → IsParameter ts rest p → length rest < length ts
parameter_shorter (parameter_typed d) = omega arith
parameter_shorter (parameter_volatile d) = omega arith

parameters_shorter : {ts rest : List Symbol} {ps : List Parameter} → IsParameters ts rest ps → length rest < length ts
parameters_shorter (parameters_one d) = parameter_shorter d
parameters_shorter (parameters_more d e new) = omega (arith, parameters_shorter d, parameter_shorter e)

parameter_list_shorter : {n : ℕ} {ts rest : List Symbol} {ps : List Parameter} → IsParameterList n ts rest ps → length rest < length ts
parameter_list_shorter list_none = omega arith
parameter_list_shorter (list_some d) = omega (arith, parameters_shorter d)

pub thread_shorter : {n k : ℕ} {ts rest : List Symbol} {b : Listing} → IsThread n k ts rest b → length rest < length ts
thread_shorter (thread_body d e) = omega (arith, parameter_list_shorter d, steps_shorter e)
