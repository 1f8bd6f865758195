use Rattle.std.proofs.Common.{◌∙◌, sym}
use Rattle.cat_model.proofs.Making.{made_sign}
use Rattle.cat_model.proofs.schemes.join_sign.Goals as goal

pub returns-in-Some-clause-made : goal.returns-in-Some-clause-made
returns-in-Some-clause-made c = made_sign c.args.classes.now c.join.new.classes c.args.sign c.args.operand c.in-Some.wanted c.in-Some.made (sym c.wanted_by.ensures ∙ c.in-Some.is) c.join.ensures.joined
