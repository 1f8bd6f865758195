use Rattle.suite.proofs.Pushed.{pushed_at, all_pushed}
use denote.Bor.{Bor}
use Rattle.std.proofs.Common.{List, ℕ}
use Rattle.suite.proofs.text.push_parts.Goals as goal

pub loop-part-preserved : goal.loop-part-preserved
loop-part-preserved c = pushed_at (λ (p : Bor (List ℕ)). p.now) _ c.args.parts.now c.loop-part.part-index c.loop-part.text.items c.extend_from_slice.new.self.items _ c.loop-part-test.true c.in_ok-extend_from_slice.ensures.items c.loop-part.invariant

pub returns : goal.returns
returns c = all_pushed (λ (p : Bor (List ℕ)). p.now) c.args.parts.now c.loop-part.part-index c.loop-part.text.items _ c.loop-part-test.false c.loop-part.invariant
