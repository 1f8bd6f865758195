use Rattle.std.proofs.Common.{◌∙◌, sym}
use Rattle.cat_model.proofs.Making.{made_alike, made_infix}
use Rattle.cat_model.proofs.schemes.join_infix.Goals as goal

pub returns-in-None-clause-made : goal.returns-in-None-clause-made
returns-in-None-clause-made c = made_alike c.args.classes.now c.join.new.classes c.args.operator c.args.left c.args.right (sym c.wanted_of_both.ensures ∙ c.in-None.is) c.join.ensures.joined

pub returns-in-Some-clause-made : goal.returns-in-Some-clause-made
returns-in-Some-clause-made c =
    made_infix c.args.classes.now c.join.new.classes c.join-in-Some.new.classes c.args.operator c.args.left c.args.right c.in-Some.wanted c.in-Some.made (sym c.wanted_of_both.ensures ∙ c.in-Some.is) c.join.ensures.joined c.join-in-Some.ensures.joined
