-- What a task comes to, and the status that the program then ends with: 0 where it is done, 2 where a line of the script or the
-- test is bad, and 1 where reading, writing or memory fails.
use Rattle.std.specs.Prelude.{◌≡◌, ◌⊎◌, ℕ, List, [], Bool, true, Option, Result, Ok, Err, IfSome}
use Rattle.std.specs.Io.KnownBytes.{Appends, Keeps}
use Rattle.wb_text.specs.Memory.{AppendsPrefix}
use Rattle.program.specs.Inputs.{IsFaultOf, IsOfTexts, Summarizes, SummarizesPartly, text_of}
use Rattle.program.specs.Refusals.{refusal_text}
use Rattle.program.specs.declared.summary.OneFault.{OneFault}
use Rattle.program.specs.declared.command_line.Task.{Task}
use Rattle.program.specs.declared.command_line.Task.TheVariants.{Alone, Script}
use Rattle.scripts.specs.Answers.{worker_count}
use Rattle.scripts.specs.Serving.{IsServed}
use Rattle.scripts.specs.declared.fault.ServeFault.{ServeFault}
use Rattle.scripts.specs.declared.fault.ServeFault.TheVariants as serving
use Rattle.scripts.specs.declared.options.Options.{Options}

-- the options are those that the task says
abbrev pub IsUnder : Task → Options → Type 0
IsUnder Alone options = ⊥
IsUnder (Script journal workers) options = (options.workers ≡ workers) × (options.limits.journal ≡ journal)

-- the status of a script that ends so
abbrev pub script_status : Result (Unit {0}) ServeFault → ℕ
script_status (Ok done) = 0
script_status (Err (serving.BadLine line)) = 2
script_status (Err fault) = 1

-- The input was served as a script by so many workers, and writing failed only where the writer has its mark.
abbrev pub Serves : ℕ → Option (List ℕ) → Option (List ℕ) → Option (List ℕ) → Bool → ℕ → Type 0
Serves workers input old new failed status = (result : Result (Unit {0}) ServeFault) × IsServed (worker_count workers) input old new result × (result ≡ Err serving.Write → failed ≡ true)
    × (status ≡ script_status result)

-- The line of a refusal was written; or a prefix of it, where the writer has its mark.
abbrev pub IsTold : OneFault → Option (List ℕ) → Option (List ℕ) → Bool → ℕ → Type 0
IsTold fault old new failed status = ((status ≡ 2) × Appends old new (refusal_text fault)) ⊎ ((status ≡ 1) × (failed ≡ true) × AppendsPrefix old new (refusal_text fault))

-- The input was evaluated as one test, under the model that has no checks. Its summary was written; or it has a fault, and the line of
-- its refusal was; or only a prefix of the summary or of that line was, where the writer has its mark; or nothing was, where the
-- reader or memory failed.
pub data Evaluates (input old new : Option (List ℕ)) (failed : Bool) (status : ℕ) : Type 0 where
  summarized : status ≡ 0 → IfSome input (λ bytes. Summarizes (text_of bytes) [] old new) → Evaluates input old new failed status
  refused : (fault : OneFault) → IsOfTexts fault → IfSome input (λ bytes. IsFaultOf (text_of bytes) [] fault) → IsTold fault old new failed status → Evaluates input old new failed status
  cut_off : status ≡ 1 → failed ≡ true → IfSome input (λ bytes. SummarizesPartly (text_of bytes) [] old new) → Evaluates input old new failed status
  unanswered : status ≡ 1 → Keeps old new → Evaluates input old new failed status

-- The task was done: a script served by the workers that it says, or one test evaluated.
abbrev pub Does : Task → Option (List ℕ) → Option (List ℕ) → Option (List ℕ) → Bool → ℕ → Type 0
Does Alone input old new failed status = Evaluates input old new failed status
Does (Script journal workers) input old new failed status = Serves workers input old new failed status
