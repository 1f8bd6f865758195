use Rattle.std.proofs.Common.{◌≡◌, ℕ, List, [], ◌++◌, codes, refl, append_assoc}
use Rattle.std.specs.List.{flat_map}
use Rattle.std.proofs.KnownBytes.{Appends-nil, Appends-trans}
use Rattle.report.proofs.Written.{exit, after}
use Rattle.report.specs.Listings.{loaded_text, job_text}
use Rattle.report.proofs.listing.write_listing.Goals as goal

cut_first : (a b c d : List ℕ) → a ++ b ++ c ++ d ≡ a ++ (b ++ (c ++ d))
cut_first a b c d = simp append_assoc

cut_third : (a b c d : List ℕ) → a ++ b ++ c ++ d ≡ (a ++ b) ++ (c ++ d)
cut_third a b c d = simp append_assoc

pub returns-in_err-write_all_loaded : goal.returns-in_err-write_all_loaded
returns-in_err-write_all_loaded g c =
    let l = c.args.listing.now in
    let tests = flat_map (loaded_text (codes "test ")) l.tests in
    let cats = flat_map (loaded_text (codes "cat ")) l.cats in
    let jobs = flat_map job_text l.jobs in
    let written = rw c.tests.ensures at c.in_err-write_all_loaded.ensures in
    exit _ _ _ _ c.from_residual.result [] tests (cats ++ (jobs ++ codes "end\n")) _ c.from_residual.ensures.0 (Appends-nil _) written
    (cut_first tests cats jobs (codes "end\n"))

pub returns-in_err-write_all_loaded-2 : goal.returns-in_err-write_all_loaded-2
returns-in_err-write_all_loaded-2 g c =
    let l = c.args.listing.now in
    let tests = flat_map (loaded_text (codes "test ")) l.tests in
    let cats = flat_map (loaded_text (codes "cat ")) l.cats in
    let jobs = flat_map job_text l.jobs in
    let before = rw c.tests.ensures at c.in_ok-write_all_loaded.ensures in
    let written = rw c.cats.ensures at c.in_err-write_all_loaded-2.ensures in
    exit _ _ _ _ c.from_residual-in_err-write_all_loaded-2.result tests cats (jobs ++ codes "end\n") _ c.from_residual-in_err-write_all_loaded-2.ensures.0 before written
    (cut_first tests cats jobs (codes "end\n"))

pub returns-in_err-write_jobs : goal.returns-in_err-write_jobs
returns-in_err-write_jobs g c =
    let l = c.args.listing.now in
    let tests = flat_map (loaded_text (codes "test ")) l.tests in
    let cats = flat_map (loaded_text (codes "cat ")) l.cats in
    let jobs = flat_map job_text l.jobs in
    let first = rw c.tests.ensures at c.in_ok-write_all_loaded.ensures in
    let second = rw c.cats.ensures at c.in_ok-write_all_loaded-2.ensures in
    let written = rw c.jobs.ensures at c.in_err-write_jobs.ensures in
    exit _ _ _ _ c.from_residual-in_err-write_jobs.result (tests ++ cats) jobs (codes "end\n") _ c.from_residual-in_err-write_jobs.ensures.0 (Appends-trans _ _ _ _ _ first second) written
    (cut_third tests cats jobs (codes "end\n"))

pub returns : goal.returns
returns g c =
    let l = c.args.listing.now in
    let tests = flat_map (loaded_text (codes "test ")) l.tests in
    let cats = flat_map (loaded_text (codes "cat ")) l.cats in
    let jobs = flat_map job_text l.jobs in
    let first = rw c.tests.ensures at c.in_ok-write_all_loaded.ensures in
    let second = rw c.cats.ensures at c.in_ok-write_all_loaded-2.ensures in
    let third = rw c.jobs.ensures at c.in_ok-write_jobs.ensures in
    after _ _ _ _ _ (tests ++ cats ++ jobs) (codes "end\n") _ (Appends-trans _ _ _ _ _ (Appends-trans _ _ _ _ _ first second) third) c.write_bytes.ensures refl
