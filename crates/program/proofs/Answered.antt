-- What is answered to one test.
use Rattle.std.proofs.Common.{◌≡◌, ℕ, List, [], Bool, Option, inl, inr}
use Rattle.std.specs.Prelude.{IfSome}
use Rattle.std.specs.Io.KnownBytes.{Appends, Keeps}
use Rattle.std.proofs.KnownBytes.{Appends-kept, Appends-nil, Appends-trans}
use Rattle.wb_text.specs.Memory.{AppendsPrefix}
use Rattle.program.specs.Inputs.{IsFaultOf, IsOfTexts, text_of}
use Rattle.program.specs.Refusals.{refusal_text}
use Rattle.program.specs.declared.summary.OneFault.{OneFault}
use Rattle.program.specs.declared.summary.OneFault.TheVariants.{Read, Test, Cat, Model, Space, Write, NoMemory}
use Rattle.program.specs.Tasks.{Evaluates, IsTold, refused}

-- bytes that come behind none

appends_behind : (old mid new : Option (List ℕ)) (bytes : List ℕ) → Keeps old mid → Appends mid new bytes → Appends old new bytes
appends_behind old mid new bytes kept more = Appends-trans old mid new [] bytes (Appends-kept old old mid [] (Appends-nil old) kept) more

prefix_behind : (old mid new : Option (List ℕ)) (bytes : List ℕ) → Keeps old mid → AppendsPrefix mid new bytes → AppendsPrefix old new bytes
prefix_behind old mid new bytes kept part =
    (part.0, record { given = part.1.given; split = part.1.split; grown = appends_behind old mid new part.1.given kept part.1.grown })

told_behind : (old mid new : Option (List ℕ)) (fault : OneFault) (failed : Bool) (status : ℕ) → Keeps old mid → IsTold fault mid new failed status → IsTold fault old new failed status
told_behind old mid new fault failed status kept (inl w) = inl (w.0, appends_behind old mid new (refusal_text fault) kept w.1)
told_behind old mid new fault failed status kept (inr w) = inr (w.0, w.1, prefix_behind old mid new (refusal_text fault) kept w.2)

-- a fault of the texts, whose refusal is written
pub of_texts : (input old mid new : Option (List ℕ)) (fault : OneFault) (failed : Bool) (status : ℕ) → IsOfTexts fault → (¬ (fault ≡ Write) → Keeps old mid)
    → IfSome input (λ bytes. IsFaultOf (text_of bytes) [] fault) → IsTold fault mid new failed status → Evaluates input old new failed status
of_texts input old mid new Read failed status texts kept cause told = absurd texts
of_texts input old mid new (Test f) failed status texts kept cause told = refused (Test f) texts cause (told_behind old mid new (Test f) failed status (kept (λ e. cc)) told)
of_texts input old mid new (Cat f) failed status texts kept cause told = refused (Cat f) texts cause (told_behind old mid new (Cat f) failed status (kept (λ e. cc)) told)
of_texts input old mid new (Model f) failed status texts kept cause told = refused (Model f) texts cause (told_behind old mid new (Model f) failed status (kept (λ e. cc)) told)
of_texts input old mid new (Space f) failed status texts kept cause told = refused (Space f) texts cause (told_behind old mid new (Space f) failed status (kept (λ e. cc)) told)
of_texts input old mid new Write failed status texts kept cause told = absurd texts
of_texts input old mid new NoMemory failed status texts kept cause told = absurd texts
