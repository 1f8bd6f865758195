use Rattle.std.proofs.Common.{◌≡◌, drop}
use Rattle.book.specs.Workbench.{replaced_file}
use Rattle.book.proofs.workbench.replacing.replaced_file.Given as goal

abbrev pub invariant-loop-file : goal.invariant-loop-file
invariant-loop-file l = replaced_file l.cats l.files ≡ replaced_file l.cats (drop l.file-index l.files)
