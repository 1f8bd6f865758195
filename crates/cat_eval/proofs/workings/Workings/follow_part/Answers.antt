use Rattle.events.specs.Cuts.{part_of}
use Rattle.cat_eval.proofs.Worked.{works_followed}
use Rattle.cat_eval.proofs.workings.Workings.follow_part.Goals as goal

pub returns-clause-works : goal.returns-clause-works
returns-clause-works c = λ items h. works_followed items c.args.self.now c.follow_part.new.sourced c.without-self.result (part_of c.args.graph.now c.args.part.now) c.in_ok-changed.changed
    (record { counts = c.bases.ensures.counts; like = c.bases.ensures.plain; sets = c.bases.ensures.sets; runs = c.bases.ensures.runs; sources = c.bases.ensures.sources })
    c.in_ok-changed.ensures.done c.in_ok-changed.ensures.runs c.in_ok-changed.ensures.all c.without-self.ensures.runs c.without-self.ensures.sources c.without-self.ensures.orders h
