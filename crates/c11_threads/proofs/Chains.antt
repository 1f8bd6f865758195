-- What an expression gives, link by link.
use Rattle.std.proofs.Common.{◌≡◌, List, refl}
use Rattle.c11_threads.specs.declared.content.Content.{Content}
use Rattle.c11_threads.specs.Contents.{content_in, passed}
use Rattle.litmus_tree.specs.Chains.{run, along_is}
use Rattle.litmus_tree.specs.declared.expression.Operator.TheVariants.{Equal, Unequal, Both, Either}
use Rattle.litmus_tree.specs.Tree.{Word, Term, Growth, denies, joins, grown, along}

passes : (names : List Word) (registers : List Content) (a : Term) (s : Growth) → content_in names registers (grown a s) ≡ passed names registers (content_in names registers a) s
passes names registers a denies = refl
passes names registers a (joins Equal b) = refl
passes names registers a (joins Unequal b) = refl
passes names registers a (joins Both b) = refl
passes names registers a (joins Either b) = refl

pub content_along : (names : List Word) (registers : List Content) (a : Term) (ss : List Growth) → content_in names registers (along a ss) ≡ run (passed names registers) (content_in names registers a) ss
content_along names registers = along_is (content_in names registers) (passed names registers) (passes names registers)
