use Rattle.all_tests.proofs.desk.working.running.goes_well.Given as goal

abbrev pub ghosts-run : goal.ghosts-run
ghosts-run g a = record { name = a.blank.name; parts = a.blank.parts }
