-- What follows for slices and works.
use Rattle.std.proofs.Common.{◌≡◌, ℕ, Option, Some, None, refl, subst, inl, inr}
use Rattle.book.specs.Jobs.{Job}
use Rattle.book.specs.Step.{ReturnsTo, Returns, Step}
use Rattle.book.specs.Workbench.{Workbench, job_of, claim_of}
use Rattle.book.specs.declared.live.Live.{Live}
use Rattle.journal.specs.Lines.{Line}
use Rattle.journal.specs.declared.records.Returned.{Returned}
use Rattle.journal.specs.declared.records.Said.{Said}
use Rattle.journal.specs.declared.records.Said.TheVariants.{Return}
use Rattle.journal.specs.declared.records.Refusal.TheVariants.{Closed}
use Rattle.journal.specs.declared.records.Reply.{Reply}
use Rattle.journal.specs.declared.records.Reply.TheVariants.{Taken, Refused}
use Rattle.world.specs.Histories.{CountedOnce, IsOwed, OwnWork}
use Rattle.world.proofs.Worlds.{world}

pub counted_once : CountedOnce
counted_once limits es w h = (world limits es w h).exact.once

-- a taken result

to_job : (s s' : Workbench) (seat d n : ℕ) (r : Returned) (c : Live) (o : Option Job) → claim_of s.live r.claim seat ≡ Some c → job_of s.jobs c.job ≡ o → ReturnsTo s seat r c o (Taken d n) s' → IsOwed s seat r
to_job s s' seat d n r c None ec ej h = absurd h
to_job s s' seat d n r c (Some job) ec ej h = (c, job, ec, ej, h.0, h.1)

to_claim : (s s' : Workbench) (seat d n : ℕ) (r : Returned) (o : Option Live) → claim_of s.live r.claim seat ≡ o → Returns s seat r o (Taken d n) s' → IsOwed s seat r
to_claim s s' seat d n r None ec h = absurd h
to_claim s s' seat d n r (Some c) ec h = to_job s s' seat d n r c (job_of s.jobs c.job) ec refl h

not_closed : (d n : ℕ) → Taken d n ≡ Refused Closed → ⊥
not_closed d n e = cc

owed : (s s' : Workbench) (seat d n : ℕ) (r : Returned) → Step s seat (Return r) (Taken d n) s' → IsOwed s seat r
owed s s' seat d n r (inl h) = absurd (not_closed d n h.1)
owed s s' seat d n r (inr h) = to_claim s s' seat d n r (claim_of s.live r.claim seat) refl h.1

owed_by : (s s' : Workbench) (e : Line) (d n : ℕ) (r : Returned) → e.said ≡ Return r → e.reply ≡ Taken d n → Step s e.seat e.said e.reply s' → IsOwed s e.seat r
owed_by s s' e d n r a b h =
    let P : Said → Type 0 = λ x. Step s e.seat x e.reply s' in
    let Q : Reply → Type 0 = λ x. Step s e.seat (Return r) x s' in
    owed s s' e.seat d n r (subst Q b (subst P a h))

pub own_work : OwnWork
own_work limits before after e r d n s u start leads a b = owed_by s leads.1.0 e d n r a b leads.1.1
