use Rattle.std.proofs.Common.{◌∙◌, ap}
use Rattle.book.specs.Workbench.{Workbench, claim_of}
use Rattle.book.proofs.Search.{match_same}
use Rattle.book.proofs.workbench.Bench.claim.Goals as goal

pub returns : goal.returns
returns c = match_same _ _ (c.find.ensures ∙ ap (λ (s : Workbench). claim_of s.live c.args.number c.args.seat) c.self.view_is)
