use Rattle.std.proofs.Common.{◌∙◌, [], sym, subst}
use Rattle.slices.specs.Findings.{FindingValue}
use Rattle.slices.specs.Parts.{IsPart, PieceValue}
use Rattle.slices.specs.Verdicts.{Tells}
use Rattle.slices.specs.Works.{WorkValue}
use Rattle.slices.proofs.PassedOver.{none_found}
use Rattle.slices.proofs.kept_space.Made.refuted.Goals as goal

pub new-requires : goal.new-requires
new-requires c =
    let p = c.args.piece.now in
    let T : WorkValue → Type 0 = λ w. Tells w.test p.work.model.items [] c.self.inside.nothing in
    let told = subst T (c.self.view_is ∙ c.requires.same) (c.self.invariant.nothing p.work.model.items) in
    let F : FindingValue → Type 0 = λ v. IsPart p.work.test p.work.model.items p.from p.to v in
    let P : PieceValue → Type 0 = λ q. IsPart q.work.test q.work.model.items q.from q.to c.in_ok-nothing.nothing in
    subst P (sym c.in_ok-piece.ensures) (subst F (sym c.in_ok-nothing.ensures) (none_found p.work.test p.work.model.items p.from p.to c.self.inside.nothing c.requires.none told))
