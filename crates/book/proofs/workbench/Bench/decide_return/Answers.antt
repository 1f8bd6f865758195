use Rattle.std.proofs.Common.{◌≡◌, ◌∙◌, ℕ, None, Some, ap, refl, sym, subst}
use Rattle.std.proofs.lemmas.Bool.{false≢true}
use Rattle.slices.specs.Parts.{PieceValue, PieceResultValue}
use Rattle.journal.specs.Lines.{returned, shown}
use Rattle.journal.specs.declared.records.Refusal.TheVariants.{Replaced, Stranger}
use Rattle.journal.specs.declared.records.Reply.TheVariants.{Refused, Taken}
use Rattle.journal.specs.declared.records.Said.TheVariants.{Return}
use Rattle.book.specs.Changes.{FitsJob, HoldsSlice}
use Rattle.book.specs.Jobs.{done, marked}
use Rattle.book.specs.Step.{Step, IsOwn, ended, taken}
use Rattle.book.specs.Workbench.{claim_of, job_of, replaced}
use Rattle.book.proofs.Steps.{return_replaced, return_stranger, return_taken, take_ready}
use Rattle.book.proofs.workbench.Bench.decide_return.Goals as goal

pub returns-clause-step : goal.returns-clause-step
returns-clause-step c =
    let s = c.args.self.now in
    let seat = c.args.seat in
    let r = returned c.args.part.now in
    let claim = c.in-Some.claim in
    let job = c.in-Some-job.job.now in
    let number : c.claim-number.result ≡ r.claim = c.claim-number.ensures ∙ ap (λ (p : PieceValue). p.claim) c.piece.ensures in
    let C : ℕ → Type 0 = λ n. claim_of s.live n seat ≡ Some claim in
    let none : replaced s job ≡ None = sym c.in_ok-replacement.ensures ∙ c.in_default-2.is in
    let O : PieceValue → Type 0 = λ p. IsOwn claim job (shown p) in
    let own = subst O c.piece-2.ensures (c.if-not-is_own.ensures.0 refl) in
    let slice : c.slice.result ≡ r.slice = c.slice.ensures ∙ ap (λ (p : PieceValue). p.slice) c.piece-3.ensures in
    let count : c.done_with-done.result ≡ done (marked r.slice job) = c.done_with-done.ensures ∙ ap (λ i. done (marked i job)) slice in
    let A : ℕ → Type 0 = λ n. Step s seat (Return r) (Taken c.done_with-done.result c.total.result) (taken s n seat claim.job r.slice) in
    let B : PieceResultValue → Type 0 = λ q. Step s seat (Return r) (Taken c.done_with-done.result c.total.result) (taken s c.claim-number.result seat claim.job q.piece.slice) in
    subst B (sym c.in_ok-share.ensures) (subst A (sym number) (return_taken s seat c.done_with-done.result c.total.result r claim job c.requires (subst C number c.in-Some.ensures) c.in-Some-job.ensures none own count c.total.ensures))

pub returns-clause-ready : goal.returns-clause-ready
returns-clause-ready c =
    let s = c.args.self.now in
    let seat = c.args.seat in
    let claim = c.in-Some.claim in
    let job = c.in-Some-job.job.now in
    let O : PieceValue → Type 0 = λ p. IsOwn claim job (shown p) in
    let own = subst O c.piece-2.ensures (c.if-not-is_own.ensures.0 refl) in
    let R : PieceResultValue → Type 0 = λ q. FitsJob (job_of s.jobs claim.job) q × HoldsSlice (claim_of s.live c.claim-number.result seat) claim.job q.piece.slice in
    subst R (sym c.in_ok-share.ensures) (take_ready s c.claim-number.result seat claim job c.args.part.now c.in-Some.ensures c.in-Some-job.ensures own)

pub returns-then-not-is_own-clause-step : goal.returns-then-not-is_own-clause-step
returns-then-not-is_own-clause-step c =
    let s = c.args.self.now in
    let seat = c.args.seat in
    let r = returned c.args.part.now in
    let claim = c.in-Some.claim in
    let job = c.in-Some-job.job.now in
    let number : c.claim-number.result ≡ r.claim = c.claim-number.ensures ∙ ap (λ (p : PieceValue). p.claim) c.piece.ensures in
    let C : ℕ → Type 0 = λ n. claim_of s.live n seat ≡ Some claim in
    let none : replaced s job ≡ None = sym c.in_ok-replacement.ensures ∙ c.in_default-2.is in
    let O : PieceValue → Type 0 = λ p. IsOwn claim job (shown p) in
    let N : ℕ → Type 0 = λ n. Step s seat (Return r) (Refused (Stranger n)) s in
    rw c.refuse-then-not-is_own.ensures (subst N (sym number) (return_stranger s seat r claim job c.requires (subst C number c.in-Some.ensures) c.in-Some-job.ensures none (λ own. absurd (false≢true (c.if-not-is_own.ensures.1 (subst O (sym c.piece-2.ensures) own))))))

pub returns-then-not-is_own-clause-ready : goal.returns-then-not-is_own-clause-ready
returns-then-not-is_own-clause-ready c = rw c.refuse-then-not-is_own.ensures tt

pub returns-in-Some-2-clause-step : goal.returns-in-Some-2-clause-step
returns-in-Some-2-clause-step c =
    let s = c.args.self.now in
    let seat = c.args.seat in
    let r = returned c.args.part.now in
    let claim = c.in-Some.claim in
    let job = c.in-Some-job.job.now in
    let number : c.claim-number.result ≡ r.claim = c.claim-number.ensures ∙ ap (λ (p : PieceValue). p.claim) c.piece.ensures in
    let C : ℕ → Type 0 = λ n. claim_of s.live n seat ≡ Some claim in
    let other : replaced s job ≡ Some c.in-Some-2.replacement = sym c.in_ok-replacement.ensures ∙ c.in-Some-2.is in
    let E : ℕ → Type 0 = λ n. Step s seat (Return r) (Refused (Replaced c.in-Some-2.replacement)) (ended s n seat) in
    subst E (sym number) (return_replaced s seat r claim job c.in-Some-2.replacement c.requires (subst C number c.in-Some.ensures) c.in-Some-job.ensures other)
