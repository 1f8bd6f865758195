use Rattle.std.proofs.Common.{◌≡◌, ◌↔◌, List, arith, length, subst, rules}
use Rattle.cat_model.specs.Classing.{Agree, AreTaken}
use Rattle.cat_model.specs.declared.schemes.Class.{Class}
use Rattle.cat_model.specs.declared.sort.Sort.{Sort}
use Rattle.cat_model.proofs.Making.{made_call, made_no_call, made_wrong_call}
use Rattle.cat_model.proofs.schemes.join_call.Goals as goal

pub returns-then-not-scheme-clause-made : goal.returns-then-not-scheme-clause-made
returns-then-not-scheme-clause-made c = λ js. made_no_call c.args.classes.now c.refuse.new.classes c.args.scheme.now c.args.arguments.now _ (search rules) c.refuse.ensures.never js

pub returns-then-len-arguments-clause-made : goal.returns-then-len-arguments-clause-made
returns-then-len-arguments-clause-made c = λ js.
    made_wrong_call c.args.classes.now c.refuse-then-len-arguments.new.classes c.args.scheme.now c.args.arguments.now _ (λ e. (let t = c.if-len-arguments.true in let l = c.len.ensures in t (omega (arith, e, l)))) c.refuse-then-len-arguments.ensures.never js

pub returns-clause-made : goal.returns-clause-made
returns-clause-made c =
    let l : length c.args.scheme.now.classes.items.items ≡ length c.args.arguments.now = omega (arith, c.len.ensures, c.if-len-arguments.false) in
    let P : List Class → Type 0 = λ ws. (js : List Sort) → Agree c.join_arguments.new.classes js ↔ (Agree c.args.classes.now js × AreTaken js ws c.args.arguments.now (length c.args.arguments.now)) in
    made_call c.args.classes.now c.join_arguments.new.classes c.args.scheme.now c.args.arguments.now c.class_of.result (search rules) l c.class_of.ensures (subst P c.deref.ensures.value c.join_arguments.ensures.joined)
