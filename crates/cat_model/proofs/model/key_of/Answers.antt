use Rattle.std.proofs.Common.{◌∙◌, [], ap}
use Rattle.keys.specs.Spelling.{list_over}
use Rattle.cat_tree.proofs.Spelled.{list_meant}
use Rattle.cat_tree.specs.Spellings.{spelled_clause}
use Rattle.cat_tree.specs.Tree.{clause_of}
use Rattle.cat_model.specs.Spellings.{spelled_version, key_bytes}
use Rattle.cat_model.proofs.model.key_of.Goals as goal

pub returns : goal.returns
unfolding key_bytes
returns c =
    let items = c.in_ok-spell_all.ensures ∙ ap (list_over _ c.args.items.now) c.new-key.ensures ∙ list_meant clause_of spelled_clause.over c.args.items.now [] in
    c.trimmed.ensures ∙ c.in_ok-spell_all-2.ensures ∙ ap (list_over spelled_version.over c.args.files.now) items
