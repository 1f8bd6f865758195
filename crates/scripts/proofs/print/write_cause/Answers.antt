use Rattle.scripts.proofs.print.write_cause.Goals as goal

pub returns-in-MissingPass : goal.returns-in-MissingPass
returns-in-MissingPass g c = rw c.in-MissingPass.is c.write_number.ensures

pub returns-in-Mismatch : goal.returns-in-Mismatch
returns-in-Mismatch g c = rw c.in-Mismatch.is c.write_number-in-Mismatch.ensures
