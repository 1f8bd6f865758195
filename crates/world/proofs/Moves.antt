-- What a step does to the jobs and to the tests and files.
use Rattle.std.proofs.Common.{◌≡◌, ℕ, ◌+◌, ◌<◌, List, [], ◌∷◌, ◌++◌, map, zero, suc, Bool, true, false, not, Option, Some, None, refl, sym, ap, ◌∙◌, subst, inl, inr, arith}
use Rattle.std.specs.Prelude.{slice_get, ◌==◌, if◌then◌else◌}
use Rattle.std.specs.Str.{bytes_eq}
use Rattle.indexmap.specs.IndexMap.{insert_entry}
use Rattle.listings.specs.Lists.{IsIn, NoRepeats}
use Rattle.cat_model.specs.Files.{version_of, store}
use Rattle.cat_model.specs.declared.files.Entry.{Entry}
use Rattle.cat_model.specs.Models.{Assembly}
use Rattle.litmus_tree.specs.Tree.{Word, Litmus}
use Rattle.slices.specs.Works.{IsModelOf}
use Rattle.book.specs.Jobs as jobs
use Rattle.book.specs.Jobs.{mark, marked}
use Rattle.book.specs.Step.{PutsCat, PutsTest, DropsCat, DropsTest, AsksFor, Asks, Polls, without, Forgets, Releases, Claims, ReturnsTo, Returns, GivesBack, ListsAll, Closes, OpenStep, Step}
use Rattle.book.specs.Workbench.{Workbench, job_of, claim_of, test_of, test_version, marked_in}
use Rattle.book.specs.declared.live.Live.{Live}
use Rattle.book.specs.declared.names.TestSlot.{TestSlot}
use Rattle.book.specs.declared.slice.Slice.{Slice}
use Rattle.journal.specs.declared.records.Returned.{Returned}
use Rattle.journal.specs.declared.records.Said.{Said}
use Rattle.journal.specs.declared.records.Said.TheVariants.{PutCat, PutTest, DropCat, DropTest, Ask, Poll, Forget, Release, List as ListAll, Claim, Return, GiveBack, Close}
use Rattle.journal.specs.declared.records.Refusal.TheVariants.{ReadingTest, ReadingCat, NoTest, Model, Space, JobsFull, NoJob, NoClaim, Replaced, Stranger, VersionsSpent, ClaimsSpent}
use Rattle.journal.specs.declared.records.Reply.{Reply}
use Rattle.journal.specs.declared.records.Reply.TheVariants.{Version, Job, Pending, Verdict, Piece, Nothing, Taken, Freed, Listed, Done, Refused}
use Rattle.world.proofs.ByNumber.{number, filter_in, once_filter, marked_numbers}

-- what was returned stays so
abbrev pub Keeps : List Slice → List Slice → Type 0
Keeps old now = (k : ℕ) (x : Slice) → slice_get now k ≡ Some x → (y : Slice) × (slice_get old k ≡ Some y) × (y.returned ≡ true → x.returned ≡ true)

-- a job that was there, but for its marks
abbrev pub Was : Workbench → jobs.Job → Type 0
Was s j = (i : jobs.Job) × IsIn i s.jobs × (i.number ≡ j.number) × (i.version ≡ j.version) × (i.work ≡ j.work) × Keeps i.slices j.slices

pub data Moves (s s' : Workbench) : Type 0 where
  quiet : ((j : jobs.Job) → IsIn j s'.jobs → Was s j) → (NoRepeats (map number s.jobs) → NoRepeats (map number s'.jobs)) → s'.last_job ≡ s.last_job → s'.tests ≡ s.tests → s'.cats ≡ s.cats → Moves s s'
  asked : (new : jobs.Job) (test cat : Word) → new.number ≡ s.last_job + 1 → test_of s.tests test ≡ Some new.work.test → new.version ≡ test_version s.tests test → IsModelOf s.cats cat new.work.model
      → s'.jobs ≡ s.jobs ++ new ∷ [] → s'.last_job ≡ s.last_job + 1 → s'.tests ≡ s.tests → s'.cats ≡ s.cats → Moves s s'
  test_put : (name : Word) (slot : TestSlot) → test_version s.tests name < slot.version → ((t : Litmus) → slot.tree ≡ Some t → t.name ≡ name)
      → s'.jobs ≡ s.jobs → s'.last_job ≡ s.last_job → s'.tests ≡ insert_entry bytes_eq s.tests name slot → s'.cats ≡ s.cats → Moves s s'
  cat_put : (e : Entry) → version_of e.name s.cats < e.version
      → s'.jobs ≡ s.jobs → s'.last_job ≡ s.last_job → s'.tests ≡ s.tests → s'.cats ≡ store e s.cats → Moves s s'

pub was : (s : Workbench) (j : jobs.Job) → IsIn j s.jobs → Was s j
was s j p = (j, p, refl, refl, refl, λ k x e. (x, e, λ h. h))

pub still : (s s' : Workbench) → s' ≡ s → Moves s s'
still s s' e = subst (Moves s) (sym e) (quiet (was s) (λ h. h) refl refl refl)

become : (s s' v : Workbench) → s' ≡ v → Moves s v → Moves s s'
become s s' v e m = subst (Moves s) (sym e) m

raised : (m n : ℕ) → n ≡ m + 1 → m < n
raised m n e = omega (arith, e)

same_name : (name : Word) (t u : Litmus) → Some t ≡ Some u → name ≡ t.name → u.name ≡ name
same_name name t u e n = let same : t ≡ u = cc in ap (λ (x : Litmus). x.name) (sym same) ∙ sym n

puts_cat : (s : Workbench) (name text : Word) (reply : Reply) (s' : Workbench) → PutsCat s name text reply s' → Moves s s'
puts_cat s name text (Refused (ReadingCat fault)) s' h = still s s' h.3
puts_cat s name text (Refused (VersionsSpent n)) s' h = still s s' h.4
puts_cat s name text (Version n v) s' h = become s s' _ h.5 (cat_put (record { name = name; version = v; file = Some h.0 }) (raised _ v h.4) refl refl refl refl)
puts_cat s name text reply s' h = absurd h

puts_test : (s : Workbench) (text : Word) (reply : Reply) (s' : Workbench) → PutsTest s text reply s' → Moves s s'
puts_test s text (Refused (ReadingTest fault)) s' h = still s s' h.3
puts_test s text (Refused (VersionsSpent n)) s' h = still s s' h.4
puts_test s text (Version n v) s' h =
    become s s' _ h.5 (test_put n (record { version = v; tree = Some h.0 }) (raised _ v (h.4 ∙ ap (λ m. test_version s.tests m + 1) (sym h.3))) (λ u e. same_name n h.0 u e h.3) refl refl refl refl)
puts_test s text reply s' h = absurd h

asks_for : (s : Workbench) (test cat : Word) (t : Litmus) (m : Assembly) (reply : Reply) (s' : Workbench) → test_of s.tests test ≡ Some t → IsModelOf s.cats cat m → AsksFor s test t m reply s' → Moves s s'
asks_for s test cat t m (Refused (Space fault)) s' e model h = still s s' h.2
asks_for s test cat t m (Refused JobsFull) s' e model h = still s s' h.2
asks_for s test cat t m (Job id) s' e model h =
    let new : jobs.Job = record { number = id; version = test_version s.tests test; work = record { test = t; model = m }; slices = h.3.0 } in
    become s s' _ h.3.2 (asked new test cat h.2 e refl model refl h.2 refl refl)
asks_for s test cat t m reply s' e model h = absurd h

asks : (s : Workbench) (test cat : Word) (o : Option Litmus) (reply : Reply) (s' : Workbench) → test_of s.tests test ≡ o → Asks s test cat o reply s' → Moves s s'
asks s test cat None (Refused (NoTest n)) s' e h = still s s' h.1
asks s test cat None reply s' e h = absurd h
asks s test cat (Some t) (Refused (Model fault)) s' e h = still s s' h.1
asks s test cat (Some t) reply s' e h = asks_for s test cat t h.0 reply s' e h.1 h.2

polls : (s : Workbench) (id : ℕ) (o : Option jobs.Job) (reply : Reply) (s' : Workbench) → Polls s id o reply s' → Moves s s'
polls s id None (Refused (NoJob n)) s' h = still s s' h.1
polls s id (Some job) (Verdict v) s' h = still s s' h.4
polls s id (Some job) (Refused (Replaced r)) s' h = still s s' h.2
polls s id (Some job) (Pending d n) s' h = still s s' h.4
polls s id o reply s' h = absurd h

claims : (s : Workbench) (seat : ℕ) (reply : Reply) (s' : Workbench) → Claims s seat reply s' → Moves s s'
claims s seat Nothing s' h = still s s' h.1
claims s seat (Refused ClaimsSpent) s' h = still s s' h.2
claims s seat (Piece p) s' h = become s s' _ h.2 (quiet (was s) (λ h. h) refl refl refl)
claims s seat reply s' h = absurd h

mark_keeps : (xs : List Slice) (i : ℕ) → Keeps xs (mark i xs)
mark_keeps [] i k x e = (x, e, λ h. h)
mark_keeps (z ∷ zs) zero zero x e = (z, refl, λ h. (let same : record z { returned = true } ≡ x = cc in ap (λ (y : Slice). y.returned) (sym same)))
mark_keeps (z ∷ zs) zero (suc k) x e = (x, e, λ h. h)
mark_keeps (z ∷ zs) (suc i) zero x e = (x, e, λ h. h)
mark_keeps (z ∷ zs) (suc i) (suc k) x e = mark_keeps zs i k x e

marked_was : (js : List jobs.Job) (n i : ℕ) (j : jobs.Job) → IsIn j (marked_in js n i) → (k : jobs.Job) × IsIn k js × (k.number ≡ j.number) × (k.version ≡ j.version) × (k.work ≡ j.work) × Keeps k.slices j.slices
marked_was [] n i j p = absurd p
marked_was (k ∷ ks) n i j p =
    let Goal : Type 0 = (l : jobs.Job) × IsIn l (k ∷ ks) × (l.number ≡ j.number) × (l.version ≡ j.version) × (l.work ≡ j.work) × Keeps l.slices j.slices in
    let same : Keeps j.slices j.slices = λ m x h. (x, h, λ t. t) in
    let at : (b : Bool) → IsIn j (if b then marked i k ∷ ks else k ∷ marked_in ks n i) → Goal = elim [
      | true ↦ λ q. elim q [
        | inl e ↦ (k, inl refl, ap (λ (x : jobs.Job). x.number) (sym e), ap (λ (x : jobs.Job). x.version) (sym e), ap (λ (x : jobs.Job). x.work) (sym e), (let P : jobs.Job → Type 0 = λ z. Keeps k.slices z.slices in subst P (sym e) (mark_keeps k.slices i)))
        | inr r ↦ (j, inr r, refl, refl, refl, same)
      ]
      | false ↦ λ q. elim q [
        | inl e ↦ (j, inl e, refl, refl, refl, same)
        | inr r ↦ (let f = marked_was ks n i j r in (f.0, inr f.1, f.2, f.3, f.4, f.5))
      ]
    ] in
    at (k.number == n) p

returns_to : (s : Workbench) (seat : ℕ) (r : Returned) (c : Live) (o : Option jobs.Job) (reply : Reply) (s' : Workbench) → ReturnsTo s seat r c o reply s' → Moves s s'
returns_to s seat r c None (Refused (NoClaim n)) s' h = still s s' h.1
returns_to s seat r c (Some job) (Refused (Replaced x)) s' h = become s s' _ h.1 (quiet (was s) (λ h. h) refl refl refl)
returns_to s seat r c (Some job) (Refused (Stranger n)) s' h = still s s' h.3
returns_to s seat r c (Some job) (Taken d n) s' h = become s s' _ h.2 (quiet (λ j p. marked_was s.jobs c.job r.slice j p) (λ h. (let P : List ℕ → Type 0 = λ l. NoRepeats l in subst P (sym (marked_numbers s.jobs c.job r.slice)) h)) refl refl refl)
returns_to s seat r c o reply s' h = absurd h

returned_to : (s : Workbench) (seat : ℕ) (r : Returned) (o : Option Live) (reply : Reply) (s' : Workbench) → Returns s seat r o reply s' → Moves s s'
returned_to s seat r None (Refused (NoClaim n)) s' h = still s s' h.1
returned_to s seat r None reply s' h = absurd h
returned_to s seat r (Some c) reply s' h = returns_to s seat r c (job_of s.jobs c.job) reply s' h

drops_cat : (s : Workbench) (name : Word) (reply : Reply) (s' : Workbench) → DropsCat s name reply s' → Moves s s'
drops_cat s name (Refused (Model fault)) s' h = still s s' h.2
drops_cat s name (Refused (VersionsSpent n)) s' h = still s s' h.3
drops_cat s name (Version n v) s' h = become s s' _ h.4 (cat_put (record { name = name; version = v; file = None }) (raised _ v h.3) refl refl refl refl)
drops_cat s name reply s' h = absurd h

nothing_there : (name : Word) (t : Litmus) (o : Option Litmus) → o ≡ None → o ≡ Some t → t.name ≡ name
nothing_there name t o n e = let f : None ≡ Some t = sym n ∙ e in cc

drops_test : (s : Workbench) (name : Word) (reply : Reply) (s' : Workbench) → DropsTest s name reply s' → Moves s s'
drops_test s name (Refused (NoTest n)) s' h = still s s' h.2
drops_test s name (Refused (VersionsSpent n)) s' h = still s s' h.3
drops_test s name (Version n v) s' h = become s s' _ h.4 (test_put name (record { version = v; tree = None }) (raised _ v h.3) (λ t e. nothing_there name t None refl e) refl refl refl refl)
drops_test s name reply s' h = absurd h

forgets : (s : Workbench) (id : ℕ) (reply : Reply) (s' : Workbench) → Forgets s id reply s' → Moves s s'
unfolding without
forgets s id (Refused (NoJob n)) s' h = still s s' h.2
forgets s id Done s' h = become s s' _ h.1 (quiet (λ j p. was s j (filter_in (λ (x : jobs.Job). not (x.number == id)) s.jobs j p).0) (λ h. once_filter number (λ (x : jobs.Job). not (x.number == id)) s.jobs h) refl refl refl)
forgets s id reply s' h = absurd h

releases : (s : Workbench) (id : ℕ) (reply : Reply) (s' : Workbench) → Releases s id reply s' → Moves s s'
releases s id (Refused (NoJob n)) s' h = still s s' h.2
releases s id (Freed n) s' h = become s s' _ h.2 (quiet (was s) (λ h. h) refl refl refl)
releases s id reply s' h = absurd h

gives_back : (s : Workbench) (seat claim : ℕ) (reply : Reply) (s' : Workbench) → GivesBack s seat claim reply s' → Moves s s'
gives_back s seat claim (Refused (NoClaim n)) s' h = still s s' h.2
gives_back s seat claim Done s' h = become s s' _ h.1 (quiet (was s) (λ h. h) refl refl refl)
gives_back s seat claim reply s' h = absurd h

lists_all : (s : Workbench) (reply : Reply) (s' : Workbench) → ListsAll s reply s' → Moves s s'
lists_all s (Listed l) s' h = still s s' h.1
lists_all s reply s' h = absurd h

closes : (s : Workbench) (reply : Reply) (s' : Workbench) → Closes s reply s' → Moves s s'
closes s Done s' h = become s s' _ h (quiet (was s) (λ h. h) refl refl refl)
closes s reply s' h = absurd h

open_moves : (s : Workbench) (seat : ℕ) (said : Said) (reply : Reply) (s' : Workbench) → OpenStep s seat said reply s' → Moves s s'
open_moves s seat (PutCat name text) reply s' h = puts_cat s name text reply s' h
open_moves s seat (PutTest text) reply s' h = puts_test s text reply s' h
open_moves s seat (Ask test cat) reply s' h = asks s test cat (test_of s.tests test) reply s' refl h
open_moves s seat (Poll id) reply s' h = polls s id (job_of s.jobs id) reply s' h
open_moves s seat Claim reply s' h = claims s seat reply s' h
open_moves s seat (Return r) reply s' h = returned_to s seat r (claim_of s.live r.claim seat) reply s' h
open_moves s seat (DropCat name) reply s' h = drops_cat s name reply s' h
open_moves s seat (DropTest name) reply s' h = drops_test s name reply s' h
open_moves s seat (Forget id) reply s' h = forgets s id reply s' h
open_moves s seat (Release id) reply s' h = releases s id reply s' h
open_moves s seat (GiveBack claim) reply s' h = gives_back s seat claim reply s' h
open_moves s seat ListAll reply s' h = lists_all s reply s' h
open_moves s seat Close reply s' h = closes s reply s' h

pub step_moves : (s : Workbench) (seat : ℕ) (said : Said) (reply : Reply) (s' : Workbench) → Step s seat said reply s' → Moves s s'
step_moves s seat said reply s' (inl h) = still s s' h.2
step_moves s seat said reply s' (inr h) = open_moves s seat said reply s' h.1
