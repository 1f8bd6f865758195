use Rattle.std.proofs.Common.{ap, sym, subst}
use Rattle.book.specs.Changes.{HoldsSlice}
use Rattle.book.specs.Workbench.{Workbench, claim_of}
use Rattle.book.proofs.Frees.{result_passed}
use Rattle.book.proofs.Numbers.{numbered_marked}
use Rattle.book.proofs.workbench.Bench.take.Goals as goal

pub invariant_of-self-2 : goal.invariant_of-self-2
invariant_of-self-2 c =
    let number = c.args.number in
    let seat = c.args.seat in
    let slice = c.args.part.piece.slice in
    let H : Workbench → Type 0 = λ s. HoldsSlice (claim_of s.live number seat) c.args.job slice in
    let holds : HoldsSlice (claim_of c.self.inside.live.0 number seat) c.args.job slice = subst H (sym c.self.view_is) c.requires.holds in
    rw (c.in_ok-take_in.ensures.ok, c.end.ensures.ended) (record {
      passed = result_passed _ number seat c.args.job slice _ _ c.end.new.self.0 _ holds c.end.ensures.stay (ap (λ v. v.0) c.end.ensures.ended) c.self.invariant.numbered.rising c.self.invariant.passed;
      numbered = numbered_marked c.self.inside.jobs.items c.args.job slice _ c.self.invariant.numbered;
    })
