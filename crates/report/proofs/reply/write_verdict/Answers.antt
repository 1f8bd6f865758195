use Rattle.std.proofs.Common.{◌≡◌, ℕ, List, [], ◌++◌, codes, append_assoc, refl}
use Rattle.std.proofs.KnownBytes.{Appends-nil, Appends-trans}
use Rattle.std.specs.List.{flat_map}
use Rattle.report.proofs.Written.{exit, after}
use Rattle.report.specs.Replies.{heading_text, file_text, finding_text}
use Rattle.report.proofs.reply.write_verdict.Goals as goal

-- four parts, cut before the first and second, and before the third
cut_first : (a b c d : List ℕ) → a ++ b ++ c ++ d ≡ a ++ (b ++ (c ++ d))
cut_first a b c d = simp append_assoc

cut_third : (a b c d : List ℕ) → a ++ b ++ c ++ d ≡ (a ++ b) ++ (c ++ d)
cut_third a b c d = simp append_assoc

pub returns-in_err-write_heading : goal.returns-in_err-write_heading
returns-in_err-write_heading g c =
    let v = c.args.verdict.now in
    let files = flat_map file_text v.work.model.files in
    exit _ _ _ _ c.from_residual.result [] (heading_text v) (files ++ (codes "\n" ++ finding_text v)) _ c.from_residual.ensures.0 (Appends-nil _) c.in_err-write_heading.ensures
    (cut_first (heading_text v) files (codes "\n") (finding_text v))

pub returns-in_err-write_files : goal.returns-in_err-write_files
returns-in_err-write_files g c =
    let v = c.args.verdict.now in
    let files = flat_map file_text v.work.model.files in
    let written = rw c.versions.ensures at c.in_err-write_files.ensures in
    exit _ _ _ _ c.from_residual-in_err-write_files.result (heading_text v) files (codes "\n" ++ finding_text v) _ c.from_residual-in_err-write_files.ensures.0 c.in_ok-write_heading.ensures written
    (cut_first (heading_text v) files (codes "\n") (finding_text v))

pub returns-in_err-give_all : goal.returns-in_err-give_all
returns-in_err-give_all g c =
    let v = c.args.verdict.now in
    let files = flat_map file_text v.work.model.files in
    let written = rw c.versions.ensures at c.in_ok-write_files.ensures in
    exit _ _ _ _ c.from_residual-in_err-give_all.result (heading_text v ++ files) (codes "\n") (finding_text v) _ c.from_residual-in_err-give_all.ensures.0 (Appends-trans _ _ _ _ _ c.in_ok-write_heading.ensures written)
    (c.in_err-give_all.ensures.partly, c.in_err-give_all.ensures.marked)
    (cut_third (heading_text v) files (codes "\n") (finding_text v))

pub returns : goal.returns
returns g c =
    let v = c.args.verdict.now in
    let files = flat_map file_text v.work.model.files in
    let written = rw c.versions.ensures at c.in_ok-write_files.ensures in
    after _ _ _ _ _ (heading_text v ++ files ++ codes "\n") (finding_text v) _
    (Appends-trans _ _ _ _ _ (Appends-trans _ _ _ _ _ c.in_ok-write_heading.ensures written) c.in_ok-give_all.ensures.given) c.write_outcome.ensures refl
