use Rattle.cat_eval.proofs.Once.{kept, more, once_more}
use Rattle.cat_eval.proofs.flags.add.Goals as goal

pub returns-then-has-clause-added : goal.returns-then-has-clause-added
returns-then-has-clause-added c = kept c.deref.result.now c.args.names.now.items c.args.name.now c.has.result c.deref.ensures.value c.has.ensures c.if-has.true

pub returns-clause-once : goal.returns-clause-once
returns-clause-once c =
    once_more c.deref.result.now c.args.names.now.items c.push.new.self.items c.args.name.now c.in_ok-copy.copy c.has.result c.deref.ensures.value c.has.ensures c.if-has.false c.requires
    c.in_ok-push.ensures.items c.in_ok-copy.ensures

pub returns-clause-added : goal.returns-clause-added
returns-clause-added c = more c.args.names.now.items c.push.new.self.items c.args.name.now c.in_ok-copy.copy c.in_ok-push.ensures.items c.in_ok-copy.ensures
