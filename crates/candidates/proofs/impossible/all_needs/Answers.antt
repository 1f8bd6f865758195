use Rattle.candidates.proofs.Excluded.{needs_cut}
use Rattle.candidates.proofs.impossible.all_needs.Goals as goal

pub returns : goal.returns
returns c = needs_cut c.args.init.now c.args.threads.now c.in_ok-needs.needs.items c.truncate.new.self.items c.count_asked.result c.in_ok-needs.ensures c.truncate.ensures.items
