use Rattle.std.proofs.Common.{◌∙◌, refl}
use Rattle.events.specs.declared.named.RelName.TheVariants as names
use Rattle.events.specs.Structures.{bare}
use Rattle.events.proofs.Structures.{moved}
use Rattle.events.proofs.view.GraphView.loc.Goals as goal

pub returns : goal.returns
returns c =
    let s = c.kept.inside in
    moved (bare (record { init = s.init.items; runs = s.runs.items })) c.args.self.now names.Loc s.loc refl (c.kept.view_is ∙ c.structure-kept.ensures) c.kept.invariant.loc
