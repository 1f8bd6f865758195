use Rattle.std.proofs.Common.{◌≡◌, ◌<◌, ◌≤◌, ◌+◌, ◌∙◌, arith, ap}
use Rattle.std.proofs.lemmas.Grind.{common_steps}
use Rattle.book.specs.Workbench.{Workbench}
use Rattle.book.proofs.Claims.{nothing, claims_spent, given}
use Rattle.book.proofs.Frees.{first_ready, slice_inside}
use Rattle.book.proofs.workbench.Bench.decide_claim.Goals as goal

pub returns-in_default-clause-step : goal.returns-in_default-clause-step
returns-in_default-clause-step c = rw c.keep.ensures (nothing c.args.self.now c.args.seat c.requires c.in_default.ensures)

pub returns-then-last-self-clause-step : goal.returns-then-last-self-clause-step
returns-then-last-self-clause-step c =
    let spent : c.args.self.now.limits.claims ≤ c.args.self.now.last_claim = grind (arith, common_steps) in
    rw c.refuse.ensures (claims_spent c.args.self.now c.args.seat c.in-Some.free.job.now c.in-Some.free.slice c.requires c.in-Some.ensures.free spent)

pub returns-clause-step : goal.returns-clause-step
returns-clause-step c =
    let room : c.args.self.now.last_claim < c.args.self.now.limits.claims = grind (arith, common_steps) in
    let next : c.last-last.result + 1 ≡ c.args.self.now.last_claim + 1 = ap (λ n. n + 1) c.last-last.ensures ∙ ap (λ (s : Workbench). s.last_claim + 1) c.self.view_is in
    let piece = c.in_ok-piece.ensures in
    rw c.number.ensures (given c.args.self.now c.args.seat (c.last-last.result + 1) c.in-Some.free.slice c.in-Some.free.job.now c.in_ok-piece.field-0 c.requires c.in-Some.ensures.free room next piece.claim piece.job piece.slice piece.range piece.work)

pub returns-clause-ready : goal.returns-clause-ready
returns-clause-ready c =
    let next : c.last-last.result + 1 ≡ c.args.self.now.last_claim + 1 = ap (λ n. n + 1) c.last-last.ensures ∙ ap (λ (s : Workbench). s.last_claim + 1) c.self.view_is in
    rw c.number.ensures (first_ready c.args.self.now c.in-Some.free.job.now c.in-Some.free.place c.in-Some.free.slice (c.last-last.result + 1) c.in-Some.ensures next)

pub piece-requires : goal.piece-requires
piece-requires c = slice_inside c.args.self.now c.in-Some.free.job.now c.in-Some.free.place c.in-Some.free.slice c.in-Some.ensures
