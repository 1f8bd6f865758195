use Rattle.std.proofs.Common.{◌<◌, ℕ, List, Result, Ok, Err}
use Rattle.std.specs.Prelude.{◌≢◌, IfErr, All, decimal, codes, ◌++◌}
use Rattle.scripts.specs.Spelled.{Requests, HasNumber, IsSound}
use Rattle.scripts.specs.declared.instruction.LineFault.{LineFault}
use Rattle.scripts.specs.declared.instruction.Request.{Request}
use Rattle.scripts.proofs.Words.{no_such_number, no_such_request}
use Rattle.scripts.proofs.instruction.read_numbered.Goals as goal

none_at_fault : {A : Type 0} (r : Result A LineFault) (word rest : List ℕ) → ((n : ℕ) → n < 4294967296 → rest ≢ decimal n)
    → IfErr r (λ _. (request : Request) → HasNumber request → IsSound request → All (λ byte. byte ≢ 32) word → ¬ Requests (word ++ (codes " " ++ rest)) request)
none_at_fault (Ok x) word rest other = tt
none_at_fault (Err f) word rest other = λ request some sound h. no_such_number word rest request other some sound h

pub returns-in_err-number-clause-bad : goal.returns-in_err-number-clause-bad
returns-in_err-number-clause-bad c = none_at_fault c.from_residual.result c.args.word.now c.args.rest.now c.in_err-number.ensures.bad

pub returns-in-None-clause-bad : goal.returns-in-None-clause-bad
returns-in-None-clause-bad c request some sound h = no_such_request c.args.word.now c.args.rest.now request c.in-None.ensures some sound h
