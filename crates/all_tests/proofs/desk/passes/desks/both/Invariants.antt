use Rattle.all_tests.proofs.desk.passes.desks.both.Given as goal

abbrev pub ghosts-run_both : goal.ghosts-run_both
ghosts-run_both g a = record { name = a.blank.name; parts = a.blank.parts }
