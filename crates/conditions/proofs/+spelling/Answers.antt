use Rattle.std.proofs.Common.{◌∙◌, map, ap, sym}
use Rattle.conditions.specs.Chains.{run}
use Rattle.conditions.specs.Conditions.{atomic, growth_of}
use Rattle.conditions.specs.Spellings.{growth_over}
use Rattle.conditions.proofs.Spelled.{formula_along}
use Rattle.conditions.proofs.+spelling.Goals as goal

pub spelling::spell_prop-loop-link-init : goal.spelling::spell_prop-loop-link-init
spelling::spell_prop-loop-link-init t c =
    let rest = map growth_of c.args.prop.now.rest.items in
    ap (λ s. run growth_over s rest) c.in_ok-spell.ensures ∙ sym (formula_along c.args.key.now (atomic c.args.prop.now.first) rest)
