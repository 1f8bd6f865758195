use Rattle.std.proofs.Common.{◌∙◌, ap, sym}
use Rattle.litmus_tree.specs.Tree.{Program}
use Rattle.litmus_tree.specs.Names.{is_one_of}
use Rattle.litmus_c.specs.Rules.{passes, place_is_there}
use Rattle.litmus_c.proofs.Left.{none_there, some_there}
use Rattle.litmus_c.proofs.rules.place_is_there.Goals as goal

pub returns-in-None : goal.returns-in-None
returns-in-None c = sym (ap (place_is_there c.args.threads.now c.args.locations.now) c.in-Reg.is ∙ ap (passes (λ (p : Program). is_one_of p.registers c.in-Reg.name)) (none_there c.args.threads.now c.in-Reg.number c.in-None.ensures.lookup.0))

pub returns-in-Some : goal.returns-in-Some
returns-in-Some c = c.has_register.ensures ∙ sym (ap (place_is_there c.args.threads.now c.args.locations.now) c.in-Reg.is ∙ ap (passes (λ (p : Program). is_one_of p.registers c.in-Reg.name)) (some_there c.args.threads.now c.in-Reg.number c.in-Some.thread.now c.in-Some.ensures.lookup.0 c.in-Some.ensures.lookup.1))
