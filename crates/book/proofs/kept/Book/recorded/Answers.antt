use Rattle.std.proofs.Common.{◌≡◌, ◌∙◌, ◌++◌, ◌∷◌, [], ◌<◌, ◌≤◌, ◌+◌, length, ap, arith}
use Rattle.std.proofs.lemmas.Grind.{common_steps}
use Rattle.std.proofs.lemmas.List.{map-append}
use Rattle.std.specs.Arc.{arc_value}
use Rattle.wb_text.proofs.Moves.{on_any_err}
use Rattle.journal.specs.Lines.{Line}
use Rattle.book.specs.Workbench.{Workbench}
use Rattle.book.specs.Step.{Step}
use Rattle.book.specs.Kept.{Kept, lines}
use Rattle.book.proofs.Runs.{kept-push, changed-limits, changed-last_job}
use Rattle.book.proofs.kept.Book.recorded.Goals as goal

pub invariant_of-self-2 : goal.invariant_of-self-2
invariant_of-self-2 c =
    let journal = lines c.self.inside.journal.items in
    let entry = arc_value c.in_ok-entry.copy in
    let is = c.in_ok-entry.ensures.both ∙ c.in_ok-entry.ensures.entry in
    let now : lines c.push.new.self.items ≡ journal ++ entry ∷ [] = grind (arith, common_steps) in
    let at : entry.place ≡ length journal = grind (arith, common_steps) in
    let room : length journal < c.self.inside.limits.journal = grind (arith, common_steps) in
    let step : Step c.self.inside.bench entry.seat entry.said entry.reply c.commit.new.self =
    rw (is, c.in_ok-commit.ensures.ok) c.in_ok-reply.ensures.step in
    let last : c.commit.new.self.last_job ≤ c.self.inside.bench.last_job + 1 = rw c.in_ok-commit.ensures.ok (changed-last_job c.self.inside.bench c.in_ok-reply.field-0.change c.in_ok-reply.ensures.ready) in
    kept-push c.self.inside.limits journal _ c.self.inside.bench c.commit.new.self entry c.self.invariant now at room step
    (ap (λ (s : Workbench). s.limits) c.in_ok-commit.ensures.ok ∙ changed-limits _ _) last

pub invariant_of-self-in_err-commit : goal.invariant_of-self-in_err-commit
invariant_of-self-in_err-commit c = rw (c.in_ok-try_reserve.ensures.items, c.in_err-commit.ensures.err) c.self.invariant

pub invariant_of-self-in_err-entry : goal.invariant_of-self-in_err-entry
invariant_of-self-in_err-entry c = rw c.in_ok-try_reserve.ensures.items c.self.invariant

pub invariant_of-self-in_err-reply : goal.invariant_of-self-in_err-reply
invariant_of-self-in_err-reply c = rw c.in_ok-try_reserve.ensures.items c.self.invariant

pub returns-in_err-commit-clause-same : goal.returns-in_err-commit-clause-same
returns-in_err-commit-clause-same c = on_any_err c.from_residual-in_err-commit.result (rw (c.in_ok-try_reserve.ensures.items, c.in_err-commit.ensures.err) c.self.view_is)

pub returns-clause-journal : goal.returns-clause-journal
returns-clause-journal c =
    rw (c.in-Ok.ensures.items, c.in_ok-try_reserve.ensures.items, map-append arc_value c.self.inside.journal.items (c.in_ok-entry.copy ∷ []), c.in_ok-entry.ensures.both)
    (ap (λ (k : Kept). k.journal ++ arc_value c.in_ok-entry.entry ∷ []) c.self.view_is)

pub returns-clause-entry : goal.returns-clause-entry
returns-clause-entry c =
    let is = c.in_ok-entry.ensures.entry in
    (ap (λ (l : Line). l.place) is, ap (λ (l : Line). l.seat) is, ap (λ (l : Line). l.said) is)

pub returns-clause-step : goal.returns-clause-step
returns-clause-step c = rw (← ap (λ (k : Kept). k.state) c.self.view_is, c.in_ok-entry.ensures.entry, c.in_ok-commit.ensures.ok) c.in_ok-reply.ensures.step

pub returns-clause-limits : goal.returns-clause-limits
returns-clause-limits c = ap (λ (k : Kept). k.limits) c.self.view_is
