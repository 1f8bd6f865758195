use Rattle.all_tests.proofs.desk.passes.desks.alone.Given as goal

abbrev pub ghosts-run_alone : goal.ghosts-run_alone
ghosts-run_alone g a = record { name = a.blank.name; parts = a.blank.parts }
