use Rattle.std.proofs.Common.{◌∙◌, ap, length}
use Rattle.events.proofs.Numbers.{counted}
use Rattle.events.proofs.view.numbered.Numbered.new.Goals as goal

pub invariant_of-result : goal.invariant_of-result
invariant_of-result c = record {
  events = c.requires.events;
  reads = c.requires.reads;
  firsts = c.requires.firsts;
  count = ap length c.requires.events ∙ counted c.args.graph.now;
  few = c.requires.few;
}
