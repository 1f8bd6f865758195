use Rattle.std.proofs.Common.{ℕ, ◌≤◌, length, take, map, sym, ◌∙◌, subst, arith}
use Rattle.std.proofs.lemmas.List.{length-map}
use Rattle.std.specs.List.{Contains}
use Rattle.wb_text.proofs.Signs.{ref_takes, ref_skips, longest_all}
use Rattle.wb_text.proofs.sign.sign_len.Goals as goal
use Rattle.wb_text.proofs.sign.sign_len.Goals.{then-starts_with, else-starts_with}

pub loop-sign-preserved : goal.loop-sign-preserved
loop-sign-preserved c =
    elim c.if-starts_with.branch [
      | then-starts_with w ↦ ref_takes c.signs-sign-items.result.now _ _ c.args.text.now _ _ c.loop-sign.invariant c.loop-sign-test.true (sym c.starts_with.ensures.value ∙ w.if-starts_with.true) (w.longest-is ∙ w.max-longest.ensures)
      | else-starts_with w ↦ ref_skips c.signs-sign-items.result.now _ _ c.args.text.now _ _ c.loop-sign.invariant c.loop-sign-test.true (sym c.starts_with.ensures.value ∙ w.if-starts_with.false) w.longest-is
    ]

pub returns-clause-longest : goal.returns-clause-longest
returns-clause-longest c =
    let table = map (λ s. s.now) c.signs-sign-items.result.now in
    subst (λ t. (m : ℕ) → m ≤ length c.args.text.now → Contains t (take m c.args.text.now) → m ≤ c.loop-sign.longest) c.signs-sign-items.ensures (longest_all table c.loop-sign.sign-index c.args.text.now c.loop-sign.longest c.loop-sign.invariant (omega (arith, length-map c.signs-sign-items.result.now (λ s. s.now))))
