use Rattle.all_tests.proofs.desk.working.refusals.done_under.Given as goal

abbrev pub ghosts-run_refused : goal.ghosts-run_refused
ghosts-run_refused g a = record { name = a.blank.name; parts = a.blank.parts }
