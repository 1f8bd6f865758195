-- The trees that literals of the program's text stand for.
use Rattle.std.specs.Prelude.{[], ◌∷◌, Some, true, false}
use Rattle.cat_tree.specs.Tree.{Term, union, sequence, difference, intersection, product, plus, star, optional, inverse, identity, name, universe, Clause, bind, check}
use Rattle.cat_model.specs.declared.sketch.Sketch.{Sketch, Name, Universe, Union', Sequence', Difference', Intersection', Product', Plus', Star', Optional', Inverse', Identity'}
use Rattle.cat_model.specs.declared.sketch.Line.{Line}
use Rattle.cat_model.specs.declared.sketch.Line.TheVariants as lines

abbrev pub sketched : Sketch → Term
sketched (Name x) = name x.now
sketched Universe = universe
sketched (Union' p a q b) = union (sketched a) (sketched b)
sketched (Sequence' p a q b) = sequence (sketched a) (sketched b)
sketched (Difference' p a q b) = difference (sketched a) (sketched b)
sketched (Intersection' p a q b) = intersection (sketched a) (sketched b)
sketched (Product' p a q b) = product (sketched a) (sketched b)
sketched (Plus' p a) = plus (sketched a)
sketched (Star' p a) = star (sketched a)
sketched (Optional' p a) = optional (sketched a)
sketched (Inverse' p a) = inverse (sketched a)
sketched (Identity' p a) = identity (sketched a)

abbrev pub line_of : Line → Clause
line_of (lines.Let x a) = bind (record { name = x.now; parameters = []; value = sketched a } ∷ [])
line_of (lines.Check k a x) = check false false k (sketched a) (Some x.now)
line_of (lines.FlagNot k a x) = check true true k (sketched a) (Some x.now)
