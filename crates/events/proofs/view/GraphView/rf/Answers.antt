use Rattle.std.proofs.Common.{◌∙◌}
use Rattle.events.specs.Structures.{plain}
use Rattle.events.proofs.Structures.{moved_rf, like_plain}
use Rattle.events.proofs.view.GraphView.rf.Goals as goal

pub returns : goal.returns
returns c =
    let s = c.kept.inside in
    moved_rf (plain (record { structure = s.structure; rf = s.sources.items })) c.args.self.now s.rf (like_plain _ c.args.self.now (c.kept.view_is ∙ c.sourced-kept.ensures)) c.kept.invariant.rf
