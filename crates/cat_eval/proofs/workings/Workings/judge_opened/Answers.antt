use Rattle.std.proofs.Common.{map}
use Rattle.cat_eval.specs.Code.{planned_clause}
use Rattle.events.specs.Opened.{opened}
use Rattle.cat_eval.proofs.Within.{said_within, allowed_of_all, flags_of_all}
use Rattle.cat_eval.proofs.workings.Workings.judge_opened.Goals as goal

pub returns-clause-allowed : goal.returns-clause-allowed
returns-clause-allowed c =
    let w = c.args.self.now in
    allowed_of_all c.if_allowed.result c.in_ok-judgement.judgement (map planned_clause c.args.items.now) (opened c.args.graph.now c.args.cut) c.if_allowed.ensures c.in_ok-judgement.ensures.allowed
    (said_within
    (record {
      within = c.opening.ensures.within;
      sourced = c.opening.ensures.sourced;
      decided_sets = c.opening.ensures.sets;
      decided = c.opening.ensures.relations;
      bases = record { counts = c.bases.ensures.counts; like = c.bases.ensures.plain; sets = c.bases.ensures.sets; runs = c.bases.ensures.runs; sources = c.bases.ensures.sources };
    })
    w.absent.items w.steps.items c.args.items.now c.requires.works.speaks c.requires.works.runs (c.requires.works.steady c.if-not-self.false) (opened c.args.graph.now c.args.cut) c.requires.absent)

pub returns-clause-flags : goal.returns-clause-flags
returns-clause-flags c =
    let w = c.args.self.now in
    flags_of_all c.if_allowed.result c.in_ok-judgement.judgement (map planned_clause c.args.items.now) (opened c.args.graph.now c.args.cut) c.if_allowed.ensures c.in_ok-judgement.ensures.allowed c.in_ok-judgement.ensures.flags
    (said_within
    (record {
      within = c.opening.ensures.within;
      sourced = c.opening.ensures.sourced;
      decided_sets = c.opening.ensures.sets;
      decided = c.opening.ensures.relations;
      bases = record { counts = c.bases.ensures.counts; like = c.bases.ensures.plain; sets = c.bases.ensures.sets; runs = c.bases.ensures.runs; sources = c.bases.ensures.sources };
    })
    w.absent.items w.steps.items c.args.items.now c.requires.works.speaks c.requires.works.runs (c.requires.works.steady c.if-not-self.false) (opened c.args.graph.now c.args.cut) c.requires.absent)
