use Rattle.std.proofs.Common.{sym, subst}
use Rattle.book.specs.Frees.{IsPassed}
use Rattle.book.specs.Workbench.{Workbench}
use Rattle.book.proofs.Frees.{still_passed}
use Rattle.book.proofs.workbench.Bench.hold.Goals as goal

pub invariant_of-self-2 : goal.invariant_of-self-2
invariant_of-self-2 c =
    let P : Workbench → Type 0 = λ s. IsPassed s c.args.mark.job c.args.mark.slice in
    rw c.in_ok-hold.ensures.ok (record { passed = still_passed _ c.args.claim.number c.args.claim _ _ (subst P (sym c.self.view_is) c.requires.passed); numbered = c.self.invariant.numbered })
