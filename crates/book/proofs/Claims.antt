-- Free slices, and steps of an open book that claim.
use Rattle.std.proofs.Common.{◌≡◌, ℕ, zero, suc, ◌+◌, ◌<◌, ◌≤◌, ◌||◌, ◌∷◌, ◌++◌, Bool, true, false, List, [], Option, Some, refl, sym, ap, ◌∙◌, subst, inr, arith}
use Rattle.std.specs.Prelude.{slice_get}
use Rattle.slices.specs.Parts.{PieceValue}
use Rattle.slices.specs.Works.{WorkValue}
use Rattle.book.specs.Frees.{IsFreeAt, IsFreeIn}
use Rattle.book.specs.Jobs as jobs
use Rattle.book.specs.Step.{Step, HasRange}
use Rattle.book.specs.Workbench.{Workbench, is_free, free_among, has_free, any_free}
use Rattle.book.specs.declared.slice.Slice.{Slice}
use Rattle.journal.specs.declared.records.Refusal.TheVariants.{ClaimsSpent}
use Rattle.journal.specs.declared.records.Reply.TheVariants.{Piece, Nothing, Refused}
use Rattle.journal.specs.declared.records.Said.TheVariants.{Claim}
use Rattle.book.proofs.Search.{any_is}

or_true : (b : Bool) → (b || true) ≡ true
or_true true = refl
or_true false = refl

-- a free slice of a job

free_among_at : (s : Workbench) (job : jobs.Job) (k : ℕ) (xs : List Slice) (i : ℕ) (x : Slice) → slice_get xs i ≡ Some x → is_free s job (k + i) x ≡ true → free_among s job k xs ≡ true
free_among_at s job k [] i x e is = cc
free_among_at s job k (y ∷ ys) zero x e is =
    let same : y ≡ x = cc in
    let place : k + 0 ≡ k = omega arith in
    let first : is_free s job k y ≡ true = ap (is_free s job k) same ∙ ap (λ n. is_free s job n x) (sym place) ∙ is in
    ap (λ b. b || free_among s job (k + 1) ys) first
free_among_at s job k (y ∷ ys) (suc i) x e is =
    let place : k + suc i ≡ k + 1 + i = omega arith in
    let rest : free_among s job (k + 1) ys ≡ true = free_among_at s job (k + 1) ys i x e (ap (λ n. is_free s job n x) (sym place) ∙ is) in
    ap (λ b. is_free s job k y || b) rest ∙ or_true (is_free s job k y)

pub free_has : (s : Workbench) (job : jobs.Job) (i : ℕ) → IsFreeAt s job i → has_free s job ≡ true
free_has s job i h =
    let place : 0 + i ≡ i = omega arith in
    free_among_at s job 0 job.slices i h.0 h.1 (ap (λ n. is_free s job n h.0) place ∙ h.2)

-- of some job

pub any_in : (s : Workbench) (job : jobs.Job) (i : ℕ) → IsFreeIn s job i → any_free s ≡ true
any_in s job i h = any_is (has_free s) s.jobs job h.0 (free_has s job i h.1)

-- claiming

pub nothing : (s : Workbench) (seat : ℕ) → s.closed ≡ false → any_free s ≡ false → Step s seat Claim Nothing s
nothing s seat open' e = inr (open', (e, refl))

pub claims_spent : (s : Workbench) (seat : ℕ) (job : jobs.Job) (i : ℕ) → s.closed ≡ false → IsFreeIn s job i → s.limits.claims ≤ s.last_claim → Step s seat Claim (Refused ClaimsSpent) s
claims_spent s seat job i open' free spent = inr (open', (any_in s job i free, spent, refl))

abbrev portion : ℕ → ℕ → ℕ → ℕ → ℕ → WorkValue → PieceValue
portion claim job slice from to work = record { claim = claim; job = job; slice = slice; from = from; to = to; work = work }

abbrev holding : Workbench → ℕ → ℕ → ℕ → ℕ → Workbench
holding s seat number job slice = record s { last_claim = number; live = s.live ++ record { number = number; seat = seat; job = job; slice = slice } ∷ [] }

pub given : (s : Workbench) (seat number slice : ℕ) (job : jobs.Job) (p : PieceValue) → s.closed ≡ false → IsFreeIn s job slice → s.last_claim < s.limits.claims → number ≡ s.last_claim + 1
    → p.claim ≡ number → p.job ≡ job.number → p.slice ≡ slice → HasRange (slice_get job.slices slice) p.from p.to → p.work ≡ job.work
    → Step s seat Claim (Piece p) (holding s seat number job.number slice)
given s seat number slice job p open' free room n ec ej es range ew =
    let x = free.1.0 in
    let P : Option Slice → Type 0 = λ o. HasRange o p.from p.to in
    let ends = subst P free.1.1 range in
    let at : slice_get job.slices p.slice ≡ Some x = ap (slice_get job.slices) es ∙ free.1.1 in
    let is : is_free s job p.slice x ≡ true = ap (λ i. is_free s job i x) es ∙ free.1.2 in
    let same : p ≡ portion (s.last_claim + 1) job.number p.slice x.from x.to job.work =
    ap (λ v. portion v p.job p.slice p.from p.to p.work) (ec ∙ n) ∙ ap (λ v. portion (s.last_claim + 1) v p.slice p.from p.to p.work) ej
    ∙ ap (λ v. portion (s.last_claim + 1) job.number p.slice v p.to p.work) (sym ends.0) ∙ ap (λ v. portion (s.last_claim + 1) job.number p.slice x.from v p.work) (sym ends.1)
    ∙ ap (portion (s.last_claim + 1) job.number p.slice x.from x.to) ew in
    let after : holding s seat number job.number slice ≡ holding s seat p.claim p.job p.slice =
    ap (λ v. holding s seat v job.number slice) (sym ec) ∙ ap (λ v. holding s seat p.claim v slice) (sym ej) ∙ ap (holding s seat p.claim p.job) (sym es) in
    inr (open', (room, (job, free.0, (x, at, is, same)), after))
