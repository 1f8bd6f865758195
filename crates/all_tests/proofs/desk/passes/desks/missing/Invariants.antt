use Rattle.all_tests.proofs.desk.passes.desks.missing.Given as goal

abbrev pub ghosts-run_missing : goal.ghosts-run_missing
ghosts-run_missing g a = record { name = a.blank.name; parts = a.blank.parts }
