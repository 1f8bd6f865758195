use Rattle.std.proofs.Common.{◌∙◌}
use Rattle.events.specs.Structures.{plain}
use Rattle.events.proofs.Structures.{moved_turned, like_plain}
use Rattle.events.proofs.view.GraphView.turned.Goals as goal

pub returns : goal.returns
returns c =
    let s = c.kept.inside in
    moved_turned (plain (record { structure = s.structure; rf = s.sources.items })) c.args.self.now s.turned (like_plain _ c.args.self.now (c.kept.view_is ∙ c.sourced-kept.ensures)) c.kept.invariant.turned
