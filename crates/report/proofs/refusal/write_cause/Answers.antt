use Rattle.std.proofs.Common.{◌≡◌}
use Rattle.report.proofs.refusal.write_cause.Goals as goal

pub returns-in-ReadingTest : goal.returns-in-ReadingTest
returns-in-ReadingTest g c = rw c.in-ReadingTest.is c.write_reading_test.ensures

pub returns-in-ReadingCat : goal.returns-in-ReadingCat
returns-in-ReadingCat g c = rw c.in-ReadingCat.is c.write_reading_cat.ensures

pub returns-in-Model : goal.returns-in-Model
returns-in-Model g c = rw c.in-Model.is c.write_model.ensures

pub returns-in-JobsFull : goal.returns-in-JobsFull
returns-in-JobsFull g c = rw c.in-JobsFull.is c.write_bytes-in-JobsFull.ensures

pub returns-in-NoClaim : goal.returns-in-NoClaim
returns-in-NoClaim g c = rw c.in-NoClaim.is c.write_numbered-in-NoClaim.ensures

pub returns-in-Replaced : goal.returns-in-Replaced
returns-in-Replaced g c = rw c.in-Replaced.is c.write_replacement.ensures

pub returns-in-Stranger : goal.returns-in-Stranger
returns-in-Stranger g c = rw c.in-Stranger.is c.write_numbered-in-Stranger.ensures

pub returns-in-VersionsSpent : goal.returns-in-VersionsSpent
returns-in-VersionsSpent g c =
    let name : c.bytes-in-VersionsSpent.result.now ≡ c.in-VersionsSpent.name = cc in
    rw c.in-VersionsSpent.is (rw name at c.write_field-in-VersionsSpent.ensures)

pub returns-in-ClaimsSpent : goal.returns-in-ClaimsSpent
returns-in-ClaimsSpent g c = rw c.in-ClaimsSpent.is c.write_bytes-in-ClaimsSpent.ensures
