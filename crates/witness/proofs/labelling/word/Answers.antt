use Rattle.std.proofs.Common.{Err, sym, ap, subst, ◌∙◌}
use Rattle.wb_text.specs.Names.{IsName}
use Rattle.witness.proofs.Related.{spelling_is_name}
use Rattle.witness.proofs.labelling.word.Goals as goal

pub unreachable-requires : goal.unreachable-requires
unreachable-requires c = c.new.ensures.bad.0 (c.in-Err-BadName.is ∙ ap Err c.in-Err-BadName.field-0-is) (subst IsName (sym c.spelling.ensures) (spelling_is_name c.args.relation))
