use Rattle.std.proofs.Common.{ap, sym, ◌∙◌, arith}
use Rattle.std.specs.Prelude.{not, None}
use Rattle.test_places.specs.declared.mark.Part.TheVariants.{Initial}
use Rattle.test_places.specs.declared.mark.Role.TheVariants.{Nothing}
use Rattle.test_places.proofs.Firsts.{first_at, none_first}
use Rattle.test_places.specs.Rules.{breaks}
use Rattle.test_places.proofs.rules.first_breach.Goals as goal

pub returns-then-not-keeps : goal.returns-then-not-keeps
returns-then-not-keeps c =
    let marks = c.args.marks.now in
    first_at (breaks c.args.rule marks) marks c.loop-place.place c.index-marks-place.result c.index-marks-place.result (omega arith) c.index-marks-place.is c.loop-place.invariant (ap not (sym c.keeps.ensures ∙ c.if-not-keeps.true))

pub returns : goal.returns
returns c =
    let marks = c.args.marks.now in
    none_first (breaks c.args.rule marks) marks c.loop-place.place (record { part = Initial; role = Nothing; name = None }) (omega arith) (omega arith) c.loop-place.invariant
