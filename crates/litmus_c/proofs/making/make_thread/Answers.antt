use Rattle.std.proofs.Common.{◌∙◌, List, ap}
use Rattle.litmus_tree.specs.declared.tree.Statement.{Statement}
use Rattle.litmus_tree.specs.Tree.{Word, Program, steps_of}
use Rattle.litmus_c.specs.Rules.{registers_of}
use Rattle.litmus_c.proofs.making.make_thread.Goals as goal

pub returns : goal.returns
returns c =
    let made : List Word → Program = λ names. record { parameters = c.args.body.parameters.items; steps = steps_of c.args.body.statements.items; registers = names } in
    c.new.ensures ∙ ap made (c.in_ok-registers.ensures ∙ ap (λ (ss : List Statement). registers_of c.args.number c.args.entries.now (steps_of ss)) c.as_slice.ensures.value)
