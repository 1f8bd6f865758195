use Rattle.scripts.proofs.run.serve.Given as goal

abbrev pub ghosts-serve_at : goal.ghosts-serve_at
ghosts-serve_at g a = record { name = a.blank.name; parts = a.blank.parts }
