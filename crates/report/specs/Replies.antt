-- The printed replies of a book.
use Rattle.std.specs.Prelude.{ℕ, List, ◌++◌, codes, decimal}
use Rattle.std.specs.List.{flat_map}
use Rattle.cat_model.specs.declared.model.FileVersion.{FileVersion}
use Rattle.litmus_tree.specs.Tree.{Word}
use Rattle.slices.specs.VerdictValues.{VerdictValue}
use Rattle.slices.specs.Parts.{PieceValue}
use Rattle.report.specs.Texts as summaries
use Rattle.journal.specs.declared.records.Reply.{Reply}
use Rattle.journal.specs.declared.records.Reply.TheVariants.{Version, Job, Pending, Verdict, Piece, Nothing, Taken, Freed, Listed, Done, Refused}
use Rattle.report.specs.Listings.{listing_text}
use Rattle.report.specs.Refusals.{refusal_text}

abbrev pub version_text : Word → ℕ → List ℕ
version_text name n = codes "version " ++ name ++ codes " " ++ decimal n ++ codes "\n"

abbrev pub job_text : ℕ → List ℕ
job_text job = codes "job " ++ decimal job ++ codes "\n"

-- how many slices of how many are done, behind a word
abbrev pub counts_text : List ℕ → ℕ → ℕ → List ℕ
counts_text word done total = word ++ decimal done ++ codes " " ++ decimal total ++ codes "\n"

-- how many claims ended
abbrev pub freed_text : ℕ → List ℕ
freed_text claims = codes "freed " ++ decimal claims ++ codes "\n"

-- a piece: its claim, job and slice, and its numbers

abbrev pub claim_text : PieceValue → List ℕ
claim_text p = codes "piece " ++ decimal p.claim ++ codes " job " ++ decimal p.job ++ codes " slice " ++ decimal p.slice

abbrev pub range_text : PieceValue → List ℕ
range_text p = codes " from " ++ decimal p.from ++ codes " to " ++ decimal p.to ++ codes "\n"

abbrev pub piece_text : PieceValue → List ℕ
piece_text p = claim_text p ++ range_text p

-- a verdict: the test and the files with their versions on one line, and then the summary

abbrev pub heading_text : VerdictValue → List ℕ
heading_text v = codes "verdict " ++ v.work.test.name ++ codes " " ++ decimal v.version

abbrev pub file_text : FileVersion → List ℕ
file_text f = codes " " ++ f.name ++ codes " " ++ decimal f.version

abbrev pub finding_text : VerdictValue → List ℕ
finding_text v = summaries.Text v.finding

abbrev pub verdict_text : VerdictValue → List ℕ
verdict_text v = heading_text v ++ flat_map file_text v.work.model.files ++ codes "\n" ++ finding_text v

-- The text of a reply.
abbrev pub reply_text : Reply → List ℕ
reply_text (Version name n) = version_text name n
reply_text (Job job) = job_text job
reply_text (Pending done total) = counts_text (codes "pending ") done total
reply_text (Verdict v) = verdict_text v
reply_text (Piece p) = piece_text p
reply_text Nothing = codes "nothing\n"
reply_text (Taken done total) = counts_text (codes "taken ") done total
reply_text (Freed claims) = freed_text claims
reply_text (Listed l) = listing_text l
reply_text Done = codes "done\n"
reply_text (Refused e) = refusal_text e
