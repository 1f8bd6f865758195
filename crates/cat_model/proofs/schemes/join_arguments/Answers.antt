use Rattle.std.proofs.Common.{◌≡◌, ◌↔◌, ◌∙◌, ℕ, List, arith, length, refl, subst}
use Rattle.std.specs.Prelude.{get_or}
use Rattle.cat_model.specs.Classing.{Agree, AreTaken}
use Rattle.cat_model.specs.declared.schemes.Class.TheVariants.{Known}
use Rattle.cat_model.specs.declared.sort.Sort.{Sort}
use Rattle.cat_model.specs.declared.sort.Sort.TheVariants.{Set}
use Rattle.cat_model.proofs.Making.{joined_next}
use Rattle.cat_model.proofs.schemes.join_arguments.Goals as goal

pub loop-place-preserved : goal.loop-place-preserved
loop-place-preserved c = record {
  flat = c.join.ensures.flat;
  long = c.join.ensures.long ∙ c.loop-place.invariant.long;
  joined = joined_next c.args.classes.now c.loop-place.classes c.join.new.classes c.args.wanted.now c.args.arguments.now c.loop-place.place (get_or c.args.arguments.now c.loop-place.place (Known Set)) c.class_of-class.result refl c.class_of-class.ensures
      c.loop-place.invariant.joined c.join.ensures.joined;
}

pub returns-clause-joined : goal.returns-clause-joined
returns-clause-joined c =
    let e : c.loop-place.place ≡ length c.args.arguments.now = omega (arith, c.loop-place-test.false, c.loop-place.auto.place-end) in
    let P : ℕ → Type 0 = λ n. (js : List Sort) → Agree c.loop-place.classes js ↔ (Agree c.args.classes.now js × AreTaken js c.args.wanted.now c.args.arguments.now n) in
    subst P e c.loop-place.invariant.joined
