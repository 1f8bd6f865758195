use Rattle.std.proofs.Common.{◌≡◌, ℕ, List, [], ◌++◌, codes, append_assoc, sym, ◌∙◌}
use Rattle.std.proofs.KnownBytes.{Appends-nil, Appends-trans}
use Rattle.report.specs.Texts.{formula_text, quantifier_text}
use Rattle.report.proofs.Written.{exit, after}
use Rattle.report.proofs.summary.write_condition.Goals as goal

-- the line, cut where the parts end
head : (q f : List ℕ) → codes "Condition " ++ q ++ codes " (" ++ f ++ codes ")" ++ codes "\n" ≡ (codes "Condition " ++ (q ++ codes " (")) ++ (f ++ codes ")\n")
head q f = simp append_assoc

pub returns-in_err-write_parts : goal.returns-in_err-write_parts
returns-in_err-write_parts g c =
    let kind = quantifier_text c.args.finding.now.kind in
    let formula = formula_text c.args.finding.now.formula in
    exit _ _ _ _ c.from_residual.result [] _ (formula ++ codes ")\n") _ c.from_residual.ensures.0 (Appends-nil _) (rw (c.quantifier_text.ensures, c.kind.ensures) at c.in_err-write_parts.ensures) (head kind formula)

pub returns-in_err-write_prop : goal.returns-in_err-write_prop
returns-in_err-write_prop g c =
    let kind = quantifier_text c.args.finding.now.kind in
    let formula = formula_text c.args.finding.now.formula in
    exit _ _ _ _ c.from_residual-in_err-write_prop.result _ _ (codes ")\n") _ c.from_residual-in_err-write_prop.ensures.0 (rw (c.quantifier_text.ensures, c.kind.ensures) at c.in_ok-write_parts.ensures) (rw c.prop.ensures at c.in_err-write_prop.ensures) (head kind formula)

pub returns : goal.returns
returns g c =
    let kind = quantifier_text c.args.finding.now.kind in
    let formula = formula_text c.args.finding.now.formula in
    after _ _ _ _ _ _ _ _ (Appends-trans _ _ _ _ _ (rw (c.quantifier_text.ensures, c.kind.ensures) at c.in_ok-write_parts.ensures) (rw c.prop.ensures at c.in_ok-write_prop.ensures)) c.write_bytes.ensures
    (head kind formula ∙ sym (append_assoc (codes "Condition " ++ (kind ++ codes " (")) formula (codes ")\n")))
