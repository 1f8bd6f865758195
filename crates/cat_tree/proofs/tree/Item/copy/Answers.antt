use Rattle.std.proofs.Common.{◌∙◌, ap, sym}
use Rattle.cat_tree.specs.Tree.{clause_of, bind, include, show, unshow}
use Rattle.cat_tree.proofs.tree.Item.copy.Goals as goal

pub returns-in_ok-names_copy-in-Unshow : goal.returns-in_ok-names_copy-in-Unshow
returns-in_ok-names_copy-in-Unshow c = ap unshow c.in_ok-names_copy-in-Unshow.ensures ∙ ap clause_of (sym c.in-Unshow.is)

pub returns-in_ok-elements_copy-in-Show : goal.returns-in_ok-elements_copy-in-Show
returns-in_ok-elements_copy-in-Show c = ap show c.in_ok-elements_copy-in-Show.ensures ∙ ap clause_of (sym c.in-Show.is)

pub returns-in_ok-copy-in-Check : goal.returns-in_ok-copy-in-Check
returns-in_ok-copy-in-Check c = c.in_ok-copy-in-Check.ensures ∙ ap clause_of (sym c.in-Check.is)

pub returns-in_ok-definitions_copy-in-Let : goal.returns-in_ok-definitions_copy-in-Let
returns-in_ok-definitions_copy-in-Let c = ap bind c.in_ok-definitions_copy-in-Let.ensures ∙ ap clause_of (sym c.in-Let.is)

pub returns-in_ok-copy-in-Include : goal.returns-in_ok-copy-in-Include
returns-in_ok-copy-in-Include c = ap include c.in_ok-copy-in-Include.ensures ∙ ap clause_of (sym c.in-Include.is)
