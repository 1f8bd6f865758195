use Rattle.std.proofs.Common.{ℕ, List, [], ◌∙◌, map, sym, subst, refl, append_assoc}
use Rattle.std.specs.Io.KnownBytes.{Appends}
use Rattle.std.proofs.KnownBytes.{Appends-nil, Appends-trans}
use Rattle.conditions.specs.Conditions.{growth_of, formula_of}
use Rattle.report.specs.Chains.{root, is_bare_left, is_bare_right, sign}
use Rattle.report.specs.Texts.{opening, closing, operand, formula_text}
use Rattle.report.proofs.Printing.{text_is, text_parts, root_more, backs_more, backs_rest}
use Rattle.report.proofs.Written.{exit, after}
use Rattle.report.proofs.propositions.+propositions.Goals as goal

pub write_prop-returns-in_err-write_fronts : goal.write_prop-returns-in_err-write_fronts
write_prop-returns-in_err-write_fronts g t c =
    exit _ _ _ _ c.from_residual.result [] _ _ _ c.from_residual.ensures.0 (Appends-nil _) c.in_err-write_fronts.ensures (text_parts c.args.prop.now.first (map growth_of c.args.prop.now.rest.items))

pub write_prop-returns-in_err-write_first : goal.write_prop-returns-in_err-write_first
write_prop-returns-in_err-write_first g t c =
    exit _ _ _ _ c.from_residual-in_err-write_first.result _ _ _ _ c.from_residual-in_err-write_first.ensures.0 c.in_ok-write_fronts.ensures c.in_err-write_first.ensures (text_parts c.args.prop.now.first (map growth_of c.args.prop.now.rest.items))

pub write_prop-returns : goal.write_prop-returns
write_prop-returns g t c =
    after _ _ _ _ _ _ _ _ (Appends-trans _ _ _ _ _ c.in_ok-write_fronts.ensures c.in_ok-write_first.ensures) c.write_backs.ensures (text_is c.args.prop.now.first (map growth_of c.args.prop.now.rest.items))

pub write_backs-returns-in_err-write_back : goal.write_backs-returns-in_err-write_back
write_backs-returns-in_err-write_back g t c =
    exit _ _ _ _ c.from_residual.result _ _ _ _ c.from_residual.ensures.0 c.loop-link.invariant.1 (rw c.loop-link.invariant.0 at c.in_err-write_back.ensures)
    (backs_rest c.args.links.now.items c.loop-link.link-index c.link-item.result (rw c.deref-link-items.ensures.value at c.loop-link-test.true) (rw c.deref-link-items.ensures.value at c.link-item.is))

pub write_backs-loop-link-preserved : goal.write_backs-loop-link-preserved
write_backs-loop-link-preserved g t c =
    let P : List ℕ → Type 0 = λ l. Appends (g.W.Sink.held c.args.writer.now) (g.W.Sink.held c.write_back.new.writer) l in (
      c.root_by-root.ensures ∙ root_more c.args.links.now.items c.loop-link.link-index c.link-item.result (rw c.deref-link-items.ensures.value at c.loop-link-test.true) (rw c.deref-link-items.ensures.value at c.link-item.is),
      subst P (sym (backs_more c.args.links.now.items c.loop-link.link-index c.link-item.result (rw c.deref-link-items.ensures.value at c.loop-link-test.true) (rw c.deref-link-items.ensures.value at c.link-item.is)))
          (Appends-trans _ _ _ _ _ c.loop-link.invariant.1 (rw c.loop-link.invariant.0 at c.in_ok-write_back.ensures)),
    )

pub write_joined-returns-in_err-write_closing : goal.write_joined-returns-in_err-write_closing
write_joined-returns-in_err-write_closing g t c =
    let o = c.args.connective in
    let b = formula_of c.args.operand.now in
    exit _ _ _ _ c.from_residual.result [] _ _ _ c.from_residual.ensures.0 (Appends-nil _) c.in_err-write_closing.ensures
    (append_assoc (closing (is_bare_left o c.args.root)) (sign o) (operand (is_bare_right o (root b)) (formula_text b)))

pub write_joined-returns-in_err-write_bytes : goal.write_joined-returns-in_err-write_bytes
write_joined-returns-in_err-write_bytes g t c =
    let o = c.args.connective in
    let b = formula_of c.args.operand.now in
    exit _ _ _ _ c.from_residual-in_err-write_bytes.result _ _ _ _ c.from_residual-in_err-write_bytes.ensures.0 c.in_ok-write_closing.ensures (rw c.sign.ensures at c.in_err-write_bytes.ensures)
    (append_assoc (closing (is_bare_left o c.args.root)) (sign o) (operand (is_bare_right o (root b)) (formula_text b)))

pub write_joined-returns : goal.write_joined-returns
write_joined-returns g t c =
    after _ _ _ _ _ _ _ _ (Appends-trans _ _ _ _ _ c.in_ok-write_closing.ensures (rw c.sign.ensures at c.in_ok-write_bytes.ensures)) (rw (c.is_bare_right.ensures, c.root_of.ensures) at c.write_operand.ensures) refl

pub write_operand-returns-in_err-write_bytes : goal.write_operand-returns-in_err-write_bytes
write_operand-returns-in_err-write_bytes g t c =
    exit _ _ _ _ c.from_residual.result [] _ _ _ c.from_residual.ensures.0 (Appends-nil _) (rw c.opening.ensures at c.in_err-write_bytes.ensures)
    (append_assoc (opening c.args.bare) (formula_text (formula_of c.args.prop.now)) (closing c.args.bare))

pub write_operand-returns-in_err-write_prop : goal.write_operand-returns-in_err-write_prop
write_operand-returns-in_err-write_prop g t c =
    exit _ _ _ _ c.from_residual-in_err-write_prop.result _ _ _ _ c.from_residual-in_err-write_prop.ensures.0 (rw c.opening.ensures at c.in_ok-write_bytes.ensures) c.in_err-write_prop.ensures
    (append_assoc (opening c.args.bare) (formula_text (formula_of c.args.prop.now)) (closing c.args.bare))

pub write_operand-returns : goal.write_operand-returns
write_operand-returns g t c =
    after _ _ _ _ _ _ _ _ (Appends-trans _ _ _ _ _ (rw c.opening.ensures at c.in_ok-write_bytes.ensures) c.in_ok-write_prop.ensures) (rw c.closing.ensures at c.write_bytes-2.ensures) refl
