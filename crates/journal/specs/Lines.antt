-- An entry of the journal, as contracts see it, and which replies go with which command.
use Rattle.std.specs.Prelude.{ℕ, Bool, true, false}
use Rattle.slices.specs.Parts.{PieceResultValue, PieceValue}
use Rattle.journal.specs.declared.records.Command.{Command}
use Rattle.journal.specs.declared.records.Command.TheVariants as commands
use Rattle.journal.specs.declared.records.Returned.{Returned}
use Rattle.journal.specs.declared.records.Said.{Said}
use Rattle.journal.specs.declared.records.Said.TheVariants.{PutCat, PutTest, DropCat, DropTest, Ask, Poll, Forget, Release, List, Claim, Return, GiveBack, Close}
use Rattle.journal.specs.declared.records.Refusal.{Refusal}
use Rattle.journal.specs.declared.records.Refusal.TheVariants.{Closed, ReadingTest, ReadingCat, NoTest, Model, Space, JobsFull, NoJob, NoClaim, Replaced, Stranger, VersionsSpent, ClaimsSpent}
use Rattle.journal.specs.declared.records.Reply.{Reply}
use Rattle.journal.specs.declared.records.Reply.TheVariants.{Version, Job, Pending, Verdict, Piece, Nothing, Taken, Freed, Listed, Done, Refused}

-- An entry: its place in the journal, the seat of the session, the command as it was seen, and the reply.
pub record Line : Type 0 where
  pub place : ℕ
  pub seat : ℕ
  pub said : Said
  pub reply : Reply

-- what is seen of a result: its claim, slice, range and work
abbrev pub shown : PieceValue → Returned
shown p = record { claim = p.claim; slice = p.slice; from = p.from; to = p.to; work = p.work }

abbrev pub returned : PieceResultValue → Returned
returned r = shown r.piece

-- what is seen of a command
abbrev pub seen : Command → Said
seen (commands.PutCat name text) = PutCat name text
seen (commands.PutTest text) = PutTest text
seen (commands.DropCat name) = DropCat name
seen (commands.DropTest name) = DropTest name
seen (commands.Ask test cat) = Ask test cat
seen (commands.Poll job) = Poll job
seen (commands.Forget job) = Forget job
seen (commands.Release job) = Release job
seen commands.List = List
seen commands.Claim = Claim
seen (commands.Return r) = Return (returned r)
seen (commands.GiveBack claim) = GiveBack claim
seen commands.Close = Close

-- the refusals that a command can have
abbrev pub may_refuse : Said → Refusal → Bool
may_refuse said Closed = true
may_refuse (PutCat name text) (ReadingCat f) = true
may_refuse (PutCat name text) (VersionsSpent n) = true
may_refuse (PutTest text) (ReadingTest f) = true
may_refuse (PutTest text) (VersionsSpent n) = true
may_refuse (DropCat name) (Model f) = true
may_refuse (DropCat name) (VersionsSpent n) = true
may_refuse (DropTest name) (NoTest n) = true
may_refuse (DropTest name) (VersionsSpent n) = true
may_refuse (Ask test cat) (NoTest n) = true
may_refuse (Ask test cat) (Model f) = true
may_refuse (Ask test cat) (Space f) = true
may_refuse (Ask test cat) JobsFull = true
may_refuse (Poll job) (NoJob n) = true
may_refuse (Poll job) (Replaced r) = true
may_refuse (Forget job) (NoJob n) = true
may_refuse (Release job) (NoJob n) = true
may_refuse Claim ClaimsSpent = true
may_refuse (Return r) (NoClaim n) = true
may_refuse (Return r) (Replaced x) = true
may_refuse (Return r) (Stranger n) = true
may_refuse (GiveBack claim) (NoClaim n) = true
may_refuse _ _ = false

-- the replies that a command can have
abbrev pub answers : Said → Reply → Bool
answers said (Refused e) = may_refuse said e
answers (PutCat name text) (Version n v) = true
answers (PutTest text) (Version n v) = true
answers (DropCat name) (Version n v) = true
answers (DropTest name) (Version n v) = true
answers (Ask test cat) (Job id) = true
answers (Poll job) (Pending d t) = true
answers (Poll job) (Verdict v) = true
answers (Forget job) Done = true
answers (Release job) (Freed n) = true
answers List (Listed l) = true
answers Claim (Piece p) = true
answers Claim Nothing = true
answers (Return r) (Taken d t) = true
answers (GiveBack claim) Done = true
answers Close Done = true
answers _ _ = false
