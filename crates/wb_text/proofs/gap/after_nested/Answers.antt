use Rattle.std.proofs.Common.{refl, sym, ◌∙◌, arith}
use Rattle.std.specs.Prelude.{codes}
use Rattle.wb_text.proofs.Texts.{begins_length, range_length, nonempty}
use Rattle.std.proofs.lemmas.Bool.{eqb-true}
use Rattle.wb_text.proofs.Nesting.{agrees_never, opened_range, closed_range, other_range}
use Rattle.wb_text.proofs.gap.after_nested.Goals as goal

pub loop-depth-preserved-then-starts_with : goal.loop-depth-preserved-then-starts_with
loop-depth-preserved-then-starts_with c =
    let rest = c.loop-depth.rest.now in
    let begins = sym c.starts_with.ensures.value ∙ c.if-starts_with.true in
    record {
      small = omega (arith, range_length 2 rest, begins_length (codes "(*") rest begins);
      agrees = opened_range c.loop-depth.depth rest c.args.inside.now c.loop-depth-test.true c.loop-depth.invariant.agrees begins;
    }

pub loop-depth-preserved-then-starts_with-2 : goal.loop-depth-preserved-then-starts_with-2
loop-depth-preserved-then-starts_with-2 c =
    let rest = c.loop-depth.rest.now in
    let begins = sym c.starts_with-else-starts_with.ensures.value ∙ c.if-starts_with-2.true in
    record {
      small = omega (arith, range_length 2 rest);
      agrees = closed_range c.loop-depth.depth rest c.args.inside.now c.loop-depth-test.true c.loop-depth.invariant.agrees begins;
    }

pub returns-then-is_empty : goal.returns-then-is_empty
returns-then-is_empty c =
    (refl, agrees_never c.loop-depth.depth c.loop-depth.rest.now c.args.inside.now c.loop-depth-test.true c.loop-depth.invariant.agrees (eqb-true _ 0 (sym c.is_empty.ensures ∙ c.if-is_empty.true)))

pub loop-depth-preserved : goal.loop-depth-preserved
loop-depth-preserved c =
    let rest = c.loop-depth.rest.now in
    record {
      small = omega (arith, range_length 1 rest);
      agrees = other_range c.loop-depth.depth rest c.args.inside.now c.loop-depth-test.true c.loop-depth.invariant.agrees (nonempty _ (sym c.is_empty.ensures ∙ c.if-is_empty.false)) (sym c.starts_with.ensures.value ∙ c.if-starts_with.false) (sym c.starts_with-else-starts_with.ensures.value ∙ c.if-starts_with-2.false);
    }
