use Rattle.std.proofs.Common.{◌≡◌, List, ◌∙◌, ap, sym}
use Rattle.std.proofs.lemmas.List.{drop_all}
use Rattle.litmus_tree.specs.Spellings.{each_over}
use Rattle.litmus_tree.specs.Tree.{steps_of}
use Rattle.litmus_tree.specs.declared.tree.Statement.{Statement}
use Rattle.litmus_tree.proofs.Spelled.{count_is}
use Rattle.litmus_tree.proofs.tree.+spelling.Goals as goal

pub spelling::spell_statements-returns : goal.spelling::spell_statements-returns
spelling::spell_statements-returns t c =
    let statements = c.args.statements.now in
    let key = c.loop-statement.key in
    let none = drop_all c.loop-statement.statement-index statements c.loop-statement-test.false in
    let all : key ≡ each_over (steps_of statements) c.args.key.now = sym (ap (λ (xs : List Statement). each_over (steps_of xs) key) none) ∙ c.loop-statement.invariant in
    rw (count_is statements, sym all) c.push_number.ensures
