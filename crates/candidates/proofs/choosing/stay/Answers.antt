use Rattle.std.proofs.Common.{◌∙◌, refl, arith}
use Rattle.std.proofs.lemmas.List.{get_or_default}
use Rattle.candidates.proofs.choosing.stay.Goals as goal

pub returns : goal.returns
returns c =
    let level = c.args.level.now in
    let size = c.index.ensures ∙ get_or_default level.sizes.items level.place c.index.result.now 0 c.requires.stands.0 in (
      refl,
      record {
        place = c.requires.stands.0;
        within = omega (arith, c.if-rest-index.false, size);
        sum = omega (arith, c.requires.stands.1, c.if-number-level.false);
      },
    )
