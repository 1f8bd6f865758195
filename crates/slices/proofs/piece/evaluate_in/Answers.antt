use Rattle.std.proofs.Common.{ℕ, ap, sym, subst, ◌∙◌}
use Rattle.candidates.specs.Candidates.{choices_of}
use Rattle.slices.specs.Findings.{FindingValue}
use Rattle.slices.specs.Parts.{IsPart, PieceValue, PieceResultValue}
use Rattle.slices.specs.Passing.{Knows}
use Rattle.slices.specs.Works.{WorkValue}
use Rattle.slices.proofs.piece.evaluate_in.Goals as goal

pub new-requires-2 : goal.new-requires-2
new-requires-2 c =
    let p : PieceValue = c.in_ok-piece.piece in
    let w = c.args.walk.now in
    let W : WorkValue → Type 0 = λ v. IsPart v.test v.model.items w.next w.to c.in_ok-finding.finding in
    let A : ℕ → Type 0 = λ n. IsPart p.work.test p.work.model.items n w.to c.in_ok-finding.finding in
    let B : ℕ → Type 0 = λ n. IsPart p.work.test p.work.model.items p.from n c.in_ok-finding.finding in
    let F : FindingValue → Type 0 = IsPart p.work.test p.work.model.items p.from p.to in
    let from = c.requires.from ∙ ap (λ (q : PieceValue). q.from) (sym c.in_ok-piece.ensures) in
    let to = c.requires.to ∙ ap (λ (q : PieceValue). q.to) (sym c.in_ok-piece.ensures) in
    subst F (sym c.in_ok-found.ensures) (subst B to (subst A from (subst W (ap (λ (q : PieceValue). q.work) c.piece.view_is) c.in_ok-finding.ensures.part)))

pub returns-clause-piece : goal.returns-clause-piece
returns-clause-piece c = ap (λ (r : PieceResultValue). r.piece) c.new-2.ensures ∙ c.in_ok-piece.ensures

pub returns-clause-known : goal.returns-clause-known
returns-clause-known c =
    let K : WorkValue → Type 0 = λ w. Knows (choices_of w.test) w.model.items c.count.new.pruner in
    subst K (ap (λ (q : PieceValue). q.work) (c.piece.view_is ∙ c.in_ok-piece.ensures)) c.in_ok-finding.ensures.known

pub count-requires-clause-known : goal.count-requires-clause-known
count-requires-clause-known c =
    let K : WorkValue → Type 0 = λ w. Knows (choices_of w.test) w.model.items c.args.pruner.now in
    subst K (sym (ap (λ (q : PieceValue). q.work) (c.piece.view_is ∙ c.in_ok-piece.ensures))) c.requires.known
