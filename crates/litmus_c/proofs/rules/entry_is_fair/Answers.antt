use Rattle.std.proofs.Common.{◌∙◌, List, ap, sym}
use Rattle.std.specs.Prelude.{not}
use Rattle.litmus_tree.specs.declared.tree.Parameter.{Parameter}
use Rattle.litmus_tree.specs.Tree.{Program}
use Rattle.litmus_syntax.specs.Drafts.{is_parameter}
use Rattle.litmus_c.specs.Rules.{passes, entry_is_fair}
use Rattle.litmus_c.proofs.Left.{none_there, some_there}
use Rattle.litmus_c.proofs.rules.entry_is_fair.Goals as goal

pub returns-in-None : goal.returns-in-None
returns-in-None c = sym (ap (entry_is_fair c.args.threads.now) c.in-Reg.is ∙ ap (passes (λ (p : Program). not (is_parameter p.parameters c.in-Reg.name))) (none_there c.args.threads.now c.in-Reg.number c.in-None.ensures.lookup.0))

pub returns-in-Some : goal.returns-in-Some
returns-in-Some c =
    let x = c.in-Reg.name in
    ap not (c.is_parameter.ensures ∙ ap (λ (ps : List Parameter). is_parameter ps x) c.parameters.ensures)
    ∙ sym (ap (entry_is_fair c.args.threads.now) c.in-Reg.is ∙ ap (passes (λ (p : Program). not (is_parameter p.parameters x))) (some_there c.args.threads.now c.in-Reg.number c.in-Some.thread.now c.in-Some.ensures.lookup.0 c.in-Some.ensures.lookup.1))
