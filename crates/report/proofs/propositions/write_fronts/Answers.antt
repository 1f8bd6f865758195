use Rattle.std.proofs.Common.{ℕ, List, sym, subst, arith}
use Rattle.std.specs.Io.KnownBytes.{Appends}
use Rattle.std.proofs.KnownBytes.{Appends-trans}
use Rattle.report.proofs.Printing.{fronts_more, fronts_rest}
use Rattle.report.proofs.Written.{exit}
use Rattle.report.proofs.propositions.write_fronts.Goals as goal

pub returns-in_err-write_bytes : goal.returns-in_err-write_bytes
returns-in_err-write_bytes g c =
    exit _ _ _ _ c.from_residual.result _ _ _ _ c.from_residual.ensures.0 c.loop-left.invariant.1 (rw (c.front.ensures, c.root_before.ensures) at c.in_err-write_bytes.ensures)
    (fronts_rest c.args.links.now.items c.loop-left.left c.index.result.now c.loop-left-test.true c.loop-left.invariant.0 c.index.ensures)

pub loop-left-preserved : goal.loop-left-preserved
loop-left-preserved g c =
    let P : List ℕ → Type 0 = λ l. Appends (g.W.Sink.held c.args.writer.now) (g.W.Sink.held c.write_bytes.new.writer) l in (
      omega (arith, c.loop-left.invariant.0),
      subst P (sym (fronts_more c.args.links.now.items c.loop-left.left c.index.result.now c.loop-left-test.true c.loop-left.invariant.0 c.index.ensures))
          (Appends-trans _ _ _ _ _ c.loop-left.invariant.1 (rw (c.front.ensures, c.root_before.ensures) at c.in_ok-write_bytes.ensures)),
    )
