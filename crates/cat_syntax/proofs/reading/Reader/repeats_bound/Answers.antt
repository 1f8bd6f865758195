use Rattle.std.proofs.Common.{◌∙◌, ap, sym, map}
use Rattle.std.specs.Prelude.{option_map}
use Rattle.cat_tree.specs.Tree.{bound_of}
use Rattle.cat_syntax.specs.Items.{names_bound}
use Rattle.cat_syntax.proofs.Once.{bound_view, repeated_name}
use Rattle.cat_syntax.proofs.reading.Reader.repeats_bound.Goals as goal

pub returns-in-Some : goal.returns-in-Some
returns-in-Some c =
    repeated_name (names_bound (map bound_of c.args.bindings.now)) _ c.in-Some.name.now c.is_bound.result (sym c.next_name.ensures ∙ ap (λ o. option_map (λ x. x.now) o) c.in-Some.is) (c.is_bound.ensures ∙ bound_view c.args.bindings.now c.in-Some.name.now)
