use Rattle.std.proofs.Common.{◌∙◌, ap, sym}
use Rattle.std.specs.Prelude.{option_map}
use Rattle.cat_model.specs.declared.sort.Sort.TheVariants.{Set}
use Rattle.cat_model.proofs.Standing.{outer_none}
use Rattle.cat_model.proofs.schemes.join_outer.Goals as goal

pub returns-in-None-of-clause-made : goal.returns-in-None-of-clause-made
returns-in-None-of-clause-made c = outer_none _ c.args.name.now c.args.arguments.now c.args.classes.now c.refuse.new.classes Set (sym c.held.ensures ∙ ap (option_map (λ h. h.now)) c.in-None.is) (sym c.of.ensures ∙ c.in-None-of.is) c.refuse.ensures.never
