use Rattle.std.proofs.Common.{◌∙◌, rules}
use Rattle.cat_tree.specs.Spellings.{spelled_defined, spelled_bound, spelled_shown}
use Rattle.cat_tree.specs.Tree.{defined_of, bound_of, shown_of}
use Rattle.cat_tree.proofs.Spelled.{list_meant}
use Rattle.cat_tree.proofs.spelling.ItemSpell.spell.Goals as goal

pub returns-in_ok-spell_all-in-Let : goal.returns-in_ok-spell_all-in-Let
returns-in_ok-spell_all-in-Let c =
    let told = rw c.deref.ensures.value at c.in_ok-spell_all-in-Let.ensures ∙ list_meant defined_of spelled_defined.over c.in-Let.definitions.items c.args.key.now in
    search (rules, told)

pub returns-in_ok-spell_all-in-LetRec : goal.returns-in_ok-spell_all-in-LetRec
returns-in_ok-spell_all-in-LetRec c =
    let told = rw c.deref-in-LetRec.ensures.value at c.in_ok-spell_all-in-LetRec.ensures ∙ list_meant bound_of spelled_bound.over c.in-LetRec.bindings.items c.args.key.now in
    search (rules, told)

pub returns-in_ok-spell_all-in-Show : goal.returns-in_ok-spell_all-in-Show
returns-in_ok-spell_all-in-Show c =
    let told = rw c.deref-in-Show.ensures.value at c.in_ok-spell_all-in-Show.ensures ∙ list_meant shown_of spelled_shown.over c.in-Show.elements.items c.args.key.now in
    search (rules, told)
