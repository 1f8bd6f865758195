use Rattle.std.proofs.Common.{◌∙◌, ap, arith, codes, rules, Err, List, ℕ}
use Rattle.std.proofs.lemmas.List.Elements.{All-from_recursion}
use Rattle.wb_text.specs.Names.{IsName, IsPrintable}
use Rattle.inputs.proofs.models.main_name.Goals as goal

abbrev main : List ℕ
main = codes "main.cat"

main_is_name : IsName main
main_is_name = record { nonempty = omega arith; at_most = omega arith; printable = All-from_recursion IsPrintable main (search rules) }

pub unreachable-requires : goal.unreachable-requires
unreachable-requires c = c.new.ensures.bad.0 (c.in-Err-BadName.is ∙ ap Err c.in-Err-BadName.field-0-is) main_is_name
