use Rattle.std.proofs.Common.{◌∙◌, map, sym}
use Rattle.conditions.specs.Chains.{same_behind, differ_behind}
use Rattle.conditions.specs.Conditions.{growth_of}
use Rattle.conditions.proofs.prop.+comparing.Goals as goal

pub Prop::has_links_of-returns-then-is_atom : goal.Prop::has_links_of-returns-then-is_atom
Prop::has_links_of-returns-then-is_atom t c =
    c.are_same_links.ensures ∙
    same_behind c.args.self.now.first c.args.other.now.first (map growth_of c.args.self.now.rest.items) (map growth_of c.args.other.now.rest.items)
    (sym c.is_atom.ensures ∙ c.if-is_atom.true)

pub Prop::has_links_of-returns-else-is_atom : goal.Prop::has_links_of-returns-else-is_atom
Prop::has_links_of-returns-else-is_atom t c =
    c.if-is_atom.false ∙
    differ_behind c.args.self.now.first c.args.other.now.first (map growth_of c.args.self.now.rest.items) (map growth_of c.args.other.now.rest.items)
    (sym c.is_atom.ensures ∙ c.if-is_atom.false)
