use Rattle.book.proofs.Listed.{CatsListed}
use Rattle.book.proofs.workbench.listed.loaded_cats.Given as goal

abbrev pub invariant-loop-place : goal.invariant-loop-place
invariant-loop-place l = CatsListed l.cats l.place l.listed.items
