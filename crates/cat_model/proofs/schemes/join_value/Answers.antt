use Rattle.std.proofs.Common.{rules}
use Rattle.cat_model.proofs.Making.{made_no_value}
use Rattle.cat_model.proofs.schemes.join_value.Goals as goal

pub returns-then-not-is_empty-clause-made : goal.returns-then-not-is_empty-clause-made
returns-then-not-is_empty-clause-made c = made_no_value c.args.classes.now c.refuse.new.classes c.args.class c.args.arguments.now (λ e. search rules) c.refuse.ensures.never
