-- What a step does to the live claims.
use Rattle.std.proofs.Common.{◌≡◌, ℕ, ◌+◌, [], ◌∷◌, ◌++◌, filter, Bool, true, not, Option, Some, None, refl, sym, ap, subst, inl, inr}
use Rattle.std.specs.Prelude.{slice_get}
use Rattle.listings.specs.Lists.{IsIn}
use Rattle.cat_model.specs.Models.{Assembly}
use Rattle.litmus_tree.specs.Tree.{Word, Litmus}
use Rattle.slices.specs.Parts.{PieceValue}
use Rattle.slices.specs.Works.{IsModelOf}
use Rattle.book.specs.Jobs as jobs
use Rattle.book.specs.Jobs.{marked}
use Rattle.book.specs.Step.{PutsCat, PutsTest, DropsCat, DropsTest, AsksFor, Asks, Polls, is_of, elsewhere, Forgets, Releases, Claims, others, ReturnsTo, Returns, GivesBack, ListsAll, Closes, OpenStep, Step}
use Rattle.book.specs.Workbench.{Workbench, job_of, claim_of, is_claim, is_free, test_of}
use Rattle.book.specs.declared.live.Live.{Live}
use Rattle.book.specs.declared.slice.Slice.{Slice}
use Rattle.journal.specs.declared.records.Returned.{Returned}
use Rattle.journal.specs.declared.records.Said.{Said}
use Rattle.journal.specs.declared.records.Said.TheVariants.{PutCat, PutTest, DropCat, DropTest, Ask, Poll, Forget, Release, List as ListAll, Claim, Return, GiveBack, Close}
use Rattle.journal.specs.declared.records.Refusal.TheVariants.{ReadingTest, ReadingCat, NoTest, Model, Space, JobsFull, NoJob, NoClaim, Replaced, Stranger, VersionsSpent, ClaimsSpent}
use Rattle.journal.specs.declared.records.Reply.{Reply}
use Rattle.journal.specs.declared.records.Reply.TheVariants.{Version, Job, Pending, Verdict, Piece, Nothing, Taken, Freed, Listed, Done, Refused}

-- it is of a slice that was free
abbrev pub IsOfFree : Workbench → Live → Type 0
IsOfFree s c = (job : jobs.Job) × IsIn job s.jobs × (c.job ≡ job.number) × ((x : Slice) × (slice_get job.slices c.slice ≡ Some x) × (is_free s job c.slice x ≡ true))

pub data Lives (s s' : Workbench) : Type 0 where
  same_live : s'.live ≡ s.live → s'.last_claim ≡ s.last_claim → Lives s s'
  fewer : (p : Live → Bool) → s'.live ≡ filter p s.live → s'.last_claim ≡ s.last_claim → Lives s s'
  one_more : (c : Live) → c.number ≡ s.last_claim + 1 → IsOfFree s c → s'.live ≡ s.live ++ c ∷ [] → s'.last_claim ≡ s.last_claim + 1 → Lives s s'

still : (s s' : Workbench) → s' ≡ s → Lives s s'
still s s' e = subst (Lives s) (sym e) (same_live refl refl)

become : (s s' v : Workbench) → s' ≡ v → Lives s v → Lives s s'
become s s' v e m = subst (Lives s) (sym e) m

puts_cat : (s : Workbench) (name text : Word) (reply : Reply) (s' : Workbench) → PutsCat s name text reply s' → Lives s s'
puts_cat s name text (Refused (ReadingCat fault)) s' h = still s s' h.3
puts_cat s name text (Refused (VersionsSpent n)) s' h = still s s' h.4
puts_cat s name text (Version n v) s' h = become s s' _ h.5 (same_live refl refl)
puts_cat s name text reply s' h = absurd h

puts_test : (s : Workbench) (text : Word) (reply : Reply) (s' : Workbench) → PutsTest s text reply s' → Lives s s'
puts_test s text (Refused (ReadingTest fault)) s' h = still s s' h.3
puts_test s text (Refused (VersionsSpent n)) s' h = still s s' h.4
puts_test s text (Version n v) s' h =
    become s s' _ h.5 (same_live refl refl)
puts_test s text reply s' h = absurd h

asks_for : (s : Workbench) (test cat : Word) (t : Litmus) (m : Assembly) (reply : Reply) (s' : Workbench) → test_of s.tests test ≡ Some t → IsModelOf s.cats cat m → AsksFor s test t m reply s' → Lives s s'
asks_for s test cat t m (Refused (Space fault)) s' e model h = still s s' h.2
asks_for s test cat t m (Refused JobsFull) s' e model h = still s s' h.2
asks_for s test cat t m (Job id) s' e model h =
    become s s' _ h.3.2 (same_live refl refl)
asks_for s test cat t m reply s' e model h = absurd h

asks : (s : Workbench) (test cat : Word) (o : Option Litmus) (reply : Reply) (s' : Workbench) → test_of s.tests test ≡ o → Asks s test cat o reply s' → Lives s s'
asks s test cat None (Refused (NoTest n)) s' e h = still s s' h.1
asks s test cat None reply s' e h = absurd h
asks s test cat (Some t) (Refused (Model fault)) s' e h = still s s' h.1
asks s test cat (Some t) reply s' e h = asks_for s test cat t h.0 reply s' e h.1 h.2

polls : (s : Workbench) (id : ℕ) (o : Option jobs.Job) (reply : Reply) (s' : Workbench) → Polls s id o reply s' → Lives s s'
polls s id None (Refused (NoJob n)) s' h = still s s' h.1
polls s id (Some job) (Verdict v) s' h = still s s' h.4
polls s id (Some job) (Refused (Replaced r)) s' h = still s s' h.2
polls s id (Some job) (Pending d n) s' h = still s s' h.4
polls s id o reply s' h = absurd h

claims : (s : Workbench) (seat : ℕ) (reply : Reply) (s' : Workbench) → Claims s seat reply s' → Lives s s'
claims s seat Nothing s' h = still s s' h.1
claims s seat (Refused ClaimsSpent) s' h = still s s' h.2
claims s seat (Piece p) s' h =
    let number : p.claim ≡ s.last_claim + 1 = ap (λ (q : PieceValue). q.claim) h.1.2.3 in
    become s s' _ h.2 (one_more (record { number = p.claim; seat = seat; job = p.job; slice = p.slice }) number (h.1.0, h.1.1, ap (λ (q : PieceValue). q.job) h.1.2.3, (h.1.2.0, h.1.2.1, h.1.2.2)) refl number)
claims s seat reply s' h = absurd h

returns_to : (s : Workbench) (seat : ℕ) (r : Returned) (c : Live) (o : Option jobs.Job) (reply : Reply) (s' : Workbench) → ReturnsTo s seat r c o reply s' → Lives s s'
unfolding others
returns_to s seat r c None (Refused (NoClaim n)) s' h = still s s' h.1
returns_to s seat r c (Some job) (Refused (Replaced x)) s' h = become s s' _ h.1 (fewer (λ d. not (is_claim r.claim seat d)) refl refl)
returns_to s seat r c (Some job) (Refused (Stranger n)) s' h = still s s' h.3
returns_to s seat r c (Some job) (Taken d n) s' h = become s s' _ h.2 (fewer (λ d. not (is_claim r.claim seat d)) refl refl)
returns_to s seat r c o reply s' h = absurd h

returned_to : (s : Workbench) (seat : ℕ) (r : Returned) (o : Option Live) (reply : Reply) (s' : Workbench) → Returns s seat r o reply s' → Lives s s'
returned_to s seat r None (Refused (NoClaim n)) s' h = still s s' h.1
returned_to s seat r None reply s' h = absurd h
returned_to s seat r (Some c) reply s' h = returns_to s seat r c (job_of s.jobs c.job) reply s' h

drops_cat : (s : Workbench) (name : Word) (reply : Reply) (s' : Workbench) → DropsCat s name reply s' → Lives s s'
drops_cat s name (Refused (Model fault)) s' h = still s s' h.2
drops_cat s name (Refused (VersionsSpent n)) s' h = still s s' h.3
drops_cat s name (Version n v) s' h = become s s' _ h.4 (same_live refl refl)
drops_cat s name reply s' h = absurd h

drops_test : (s : Workbench) (name : Word) (reply : Reply) (s' : Workbench) → DropsTest s name reply s' → Lives s s'
drops_test s name (Refused (NoTest n)) s' h = still s s' h.2
drops_test s name (Refused (VersionsSpent n)) s' h = still s s' h.3
drops_test s name (Version n v) s' h =
    become s s' _ h.4 (same_live refl refl)
drops_test s name reply s' h = absurd h

forgets : (s : Workbench) (id : ℕ) (reply : Reply) (s' : Workbench) → Forgets s id reply s' → Lives s s'
unfolding elsewhere
forgets s id (Refused (NoJob n)) s' h = still s s' h.2
forgets s id Done s' h = become s s' _ h.1 (fewer (λ c. not (is_of id c)) refl refl)
forgets s id reply s' h = absurd h

releases : (s : Workbench) (id : ℕ) (reply : Reply) (s' : Workbench) → Releases s id reply s' → Lives s s'
unfolding elsewhere
releases s id (Refused (NoJob n)) s' h = still s s' h.2
releases s id (Freed n) s' h = become s s' _ h.2 (fewer (λ c. not (is_of id c)) refl refl)
releases s id reply s' h = absurd h

gives_back : (s : Workbench) (seat claim : ℕ) (reply : Reply) (s' : Workbench) → GivesBack s seat claim reply s' → Lives s s'
unfolding others
gives_back s seat claim (Refused (NoClaim n)) s' h = still s s' h.2
gives_back s seat claim Done s' h = become s s' _ h.1 (fewer (λ d. not (is_claim claim seat d)) refl refl)
gives_back s seat claim reply s' h = absurd h

lists_all : (s : Workbench) (reply : Reply) (s' : Workbench) → ListsAll s reply s' → Lives s s'
lists_all s (Listed l) s' h = still s s' h.1
lists_all s reply s' h = absurd h

closes : (s : Workbench) (reply : Reply) (s' : Workbench) → Closes s reply s' → Lives s s'
closes s Done s' h = become s s' _ h (same_live refl refl)
closes s reply s' h = absurd h

open_lives : (s : Workbench) (seat : ℕ) (said : Said) (reply : Reply) (s' : Workbench) → OpenStep s seat said reply s' → Lives s s'
open_lives s seat (PutCat name text) reply s' h = puts_cat s name text reply s' h
open_lives s seat (PutTest text) reply s' h = puts_test s text reply s' h
open_lives s seat (Ask test cat) reply s' h = asks s test cat (test_of s.tests test) reply s' refl h
open_lives s seat (Poll id) reply s' h = polls s id (job_of s.jobs id) reply s' h
open_lives s seat Claim reply s' h = claims s seat reply s' h
open_lives s seat (Return r) reply s' h = returned_to s seat r (claim_of s.live r.claim seat) reply s' h
open_lives s seat (DropCat name) reply s' h = drops_cat s name reply s' h
open_lives s seat (DropTest name) reply s' h = drops_test s name reply s' h
open_lives s seat (Forget id) reply s' h = forgets s id reply s' h
open_lives s seat (Release id) reply s' h = releases s id reply s' h
open_lives s seat (GiveBack claim) reply s' h = gives_back s seat claim reply s' h
open_lives s seat ListAll reply s' h = lists_all s reply s' h
open_lives s seat Close reply s' h = closes s reply s' h

pub step_lives : (s : Workbench) (seat : ℕ) (said : Said) (reply : Reply) (s' : Workbench) → Step s seat said reply s' → Lives s s'
step_lives s seat said reply s' (inl h) = still s s' h.2
step_lives s seat said reply s' (inr h) = open_lives s seat said reply s' h.1
