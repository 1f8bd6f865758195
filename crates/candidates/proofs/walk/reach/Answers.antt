use Rattle.std.proofs.Common.{List, length, sym, subst, ◌<◌}
use Rattle.candidates.specs.Candidates.{Choices, size_of}
use Rattle.candidates.specs.declared.counts.Counts.{Counts}
use Rattle.candidates.specs.Levels.{AreLevels}
use Rattle.std.specs.Prelude.{IfOk}
use Rattle.candidates.specs.Readings.{MayBeStretch}
use Rattle.candidates.specs.Walks.{IsReached}
use Rattle.candidates.proofs.walk.reach.Goals as goal

pub go_to-requires-clause-levels : goal.go_to-requires-clause-levels
go_to-requires-clause-levels c =
    let P : Choices → List (List (List Counts)) → Type 0 = λ s gs. AreLevels (length s.init) gs c.args.ahead.now.levels.items in
    let Q : Choices → Type 0 = λ s. P s c.threads.result.groups.now in
    let R : List (List (List Counts)) → Type 0 = P c.args.space.now in
    subst Q (sym c.threads.ensures.choices) (subst R (sym c.threads.ensures.groups) c.requires.ahead.levels)

pub go_to-requires-clause-number : goal.go_to-requires-clause-number
go_to-requires-clause-number c =
    let P : Choices → Type 0 = λ s. c.args.number < size_of s in
    subst P (sym c.threads.ensures.choices) c.requires.number

pub returns-clause-ahead : goal.returns-clause-ahead
returns-clause-ahead c =
    let P : Choices → Type 0 = λ s. MayBeStretch s c.go_to.new.stretch in
    let L : Choices → List (List (List Counts)) → Type 0 = λ s gs. AreLevels (length s.init) gs c.go_to.new.levels.items in
    let Q : Choices → Type 0 = λ s. L s c.threads.result.groups.now in
    let R : List (List (List Counts)) → Type 0 = L c.args.space.now in
    record { stretch = subst P c.threads.ensures.choices c.go_to.ensures.stretch; levels = subst R c.threads.ensures.groups (subst Q c.threads.ensures.choices c.go_to.ensures.levels) }

pub returns-clause-reached : goal.returns-clause-reached
returns-clause-reached c =
    let P : Choices → Type 0 = λ s. IfOk c.go_to.result (IsReached s c.args.number c.go_to.new.stretch) in
    subst P c.threads.ensures.choices c.go_to.ensures.reached

pub go_to-requires-clause-stretch : goal.go_to-requires-clause-stretch
go_to-requires-clause-stretch c =
    let P : Choices → Type 0 = λ s. MayBeStretch s c.args.ahead.now.stretch in
    subst P (sym c.threads.ensures.choices) c.requires.ahead.stretch
