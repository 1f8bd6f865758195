use Rattle.std.proofs.Common.{◌∙◌, ap, arith, rules, Err}
use Rattle.std.proofs.lemmas.List.Elements.{All-from_recursion}
use Rattle.wb_text.specs.Names.{IsName, IsPrintable}
use Rattle.program.specs.Inputs.{main_name}
use Rattle.program.proofs.main_file.root_name.Goals as goal

main_is_name : IsName main_name
main_is_name = record { nonempty = omega arith; at_most = omega arith; printable = All-from_recursion IsPrintable main_name (search rules) }

pub unreachable-requires : goal.unreachable-requires
unreachable-requires c = c.new.ensures.bad.0 (c.in-Err-BadName.is ∙ ap Err c.in-Err-BadName.field-0-is) main_is_name
