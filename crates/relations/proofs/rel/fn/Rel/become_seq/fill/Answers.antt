use Rattle.relations.specs.Relation.{In}
use Rattle.relations.proofs.Words.{of_and_bit}
use Rattle.relations.proofs.Relations.{through_row}
use Rattle.relations.proofs.rel.fn.Rel.become_seq.fill.Goals as goal

pub image-requires : goal.image-requires
image-requires c = λ m h. c.requires.inside m (of_and_bit c.row.result c.captures.mask m h).1

pub returns : goal.returns
returns c =
    through_row c.captures.left.now.count c.captures.right.now.count c.args.i c.row.result c.captures.mask c.image.result (In c.captures.left.now) (In c.captures.right.now) c.requires.counts c.requires.mask c.row.ensures c.image.ensures
