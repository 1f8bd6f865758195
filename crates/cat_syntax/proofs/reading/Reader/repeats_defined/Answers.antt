use Rattle.std.proofs.Common.{◌∙◌, ap, sym, map}
use Rattle.std.specs.Prelude.{option_map}
use Rattle.cat_tree.specs.Tree.{defined_of}
use Rattle.cat_syntax.specs.Items.{names_defined}
use Rattle.cat_syntax.proofs.Once.{defined_view, repeated_name}
use Rattle.cat_syntax.proofs.reading.Reader.repeats_defined.Goals as goal

pub returns-in-Some : goal.returns-in-Some
returns-in-Some c =
    repeated_name (names_defined (map defined_of c.args.definitions.now)) _ c.in-Some.name.now c.is_defined.result (sym c.next_name.ensures ∙ ap (λ o. option_map (λ x. x.now) o) c.in-Some.is) (c.is_defined.ensures ∙ defined_view c.args.definitions.now c.in-Some.name.now)
