use Rattle.std.proofs.Common.{◌∙◌, map, sym}
use Rattle.cat_model.proofs.Standing.{named_parameter, named_outer}
use Rattle.cat_model.proofs.schemes.join_name.Goals as goal

pub returns-in-Some-clause-made : goal.returns-in-Some-clause-made
returns-in-Some-clause-made c =
    named_parameter c.args.scope.now.names.items (map (λ x. x.now) c.args.parameters.now) c.args.name.now c.args.arguments.now c.args.classes.now c.join_value.new.classes c.join_value.result c.in-Some.place (sym c.place_of.ensures ∙ c.in-Some.is) c.join_value.ensures.made

pub returns-in-None-clause-made : goal.returns-in-None-clause-made
returns-in-None-clause-made c =
    named_outer c.args.scope.now.names.items (map (λ x. x.now) c.args.parameters.now) c.args.name.now c.args.arguments.now c.args.classes.now c.join_outer.new.classes c.join_outer.result (sym c.place_of.ensures ∙ c.in-None.is) c.join_outer.ensures.made
