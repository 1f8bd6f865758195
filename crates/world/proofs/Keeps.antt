-- Each step of the book keeps what holds.
use Rattle.std.proofs.Common.{◌≡◌, ℕ, ◌+◌, List, [], ◌∷◌, ◌++◌, length, not, Option, Some, None, refl, sym, ap, ◌∙◌, subst, inl, inr, arith}
use Rattle.std.specs.Option.{option_map_or}
use Rattle.litmus_tree.specs.Tree.{Word, Litmus}
use Rattle.cat_model.specs.Models.{Assembly}
use Rattle.slices.specs.VerdictValues.{VerdictValue}
use Rattle.slices.specs.Parts.{PieceResultValue, PieceValue}
use Rattle.slices.specs.Verdicts.{IsVerdict}
use Rattle.book.specs.Jobs as jobs
use Rattle.book.specs.Step.{PutsCat, PutsTest, DropsCat, DropsTest, AsksFor, Asks, Polls, is_of, elsewhere, without, Forgets, Releases, Claims, others, ReturnsTo, Returns, GivesBack, ListsAll, Closes, OpenStep, Step, LeadsFrom}
use Rattle.book.specs.Workbench.{Workbench, job_of, claim_of, is_claim, test_of, test_version}
use Rattle.book.specs.declared.live.Live.{Live}
use Rattle.journal.specs.Lines.{Line, returned}
use Rattle.journal.specs.declared.records.Returned.{Returned}
use Rattle.journal.specs.declared.records.Said.{Said}
use Rattle.journal.specs.declared.records.Said.TheVariants.{PutCat, PutTest, DropCat, DropTest, Ask, Poll, Forget, Release, List as ListAll, Claim, Return, GiveBack, Close}
use Rattle.journal.specs.declared.records.Refusal.TheVariants.{Closed, ReadingTest, ReadingCat, NoTest, Model, Space, JobsFull, NoJob, NoClaim, Replaced, Stranger, VersionsSpent, ClaimsSpent}
use Rattle.journal.specs.declared.records.Reply.{Reply}
use Rattle.journal.specs.declared.records.Reply.TheVariants.{Version, Job, Pending, Verdict, Piece, Nothing, Taken, Freed, Listed, Done, Refused}
use Rattle.world.specs.World.{Result, KeptBook, IsPutTogether, OpenKept, KeptStep, left, with_taken, claimed_job, IsNoReturn, IsRight, SaysRight}
use Rattle.world.proofs.Holds.{Holds, ends, gives, opens, forgets, takes}
use Rattle.world.proofs.Answering.{verdict_right}

abbrev pub Stands : Workbench → List Result → Type 0
Stands s rs = Holds s.jobs s.live s.last_job rs

moved : (s' v : Workbench) (rs : List Result) → s' ≡ v → Stands v rs → Stands s' rs
moved s' v rs e k = let P : Workbench → Type 0 = λ u. Stands u rs in subst P (sym e) k

puts_cat : (s : Workbench) (name text : Word) (reply : Reply) (s' : Workbench) (rs : List Result) → PutsCat s name text reply s' → Stands s rs → Stands s' rs
puts_cat s name text (Refused (ReadingCat fault)) s' rs h k = moved s' s rs h.3 k
puts_cat s name text (Refused (VersionsSpent n)) s' rs h k = moved s' s rs h.4 k
puts_cat s name text (Version n v) s' rs h k = moved s' _ rs h.5 k
puts_cat s name text reply s' rs h k = absurd h

puts_test : (s : Workbench) (text : Word) (reply : Reply) (s' : Workbench) (rs : List Result) → PutsTest s text reply s' → Stands s rs → Stands s' rs
puts_test s text (Refused (ReadingTest fault)) s' rs h k = moved s' s rs h.3 k
puts_test s text (Refused (VersionsSpent n)) s' rs h k = moved s' s rs h.4 k
puts_test s text (Version n v) s' rs h k = moved s' _ rs h.5 k
puts_test s text reply s' rs h k = absurd h

asks_for : (s : Workbench) (test : Word) (t : Litmus) (m : Assembly) (reply : Reply) (s' : Workbench) (rs : List Result) → AsksFor s test t m reply s' → Stands s rs → Stands s' rs
asks_for s test t m (Refused (Space fault)) s' rs h k = moved s' s rs h.2 k
asks_for s test t m (Refused JobsFull) s' rs h k = moved s' s rs h.2 k
asks_for s test t m (Job id) s' rs h k =
    let new : jobs.Job = record { number = id; version = test_version s.tests test; work = record { test = t; model = m }; slices = h.3.0 } in
    let P : ℕ → Type 0 = λ n. Holds (s.jobs ++ new ∷ []) s.live n rs in
    moved s' _ rs h.3.2 (subst P (sym h.2) (opens s.jobs s.live s.last_job rs new h.2 h.3.1 k))
asks_for s test t m reply s' rs h k = absurd h

asks : (s : Workbench) (test cat : Word) (o : Option Litmus) (reply : Reply) (s' : Workbench) (rs : List Result) → Asks s test cat o reply s' → Stands s rs → Stands s' rs
asks s test cat None (Refused (NoTest n)) s' rs h k = moved s' s rs h.1 k
asks s test cat None reply s' rs h k = absurd h
asks s test cat (Some t) (Refused (Model fault)) s' rs h k = moved s' s rs h.1 k
asks s test cat (Some t) reply s' rs h k = asks_for s test t h.0 reply s' rs h.2 k

polls : (s : Workbench) (id : ℕ) (o : Option jobs.Job) (reply : Reply) (s' : Workbench) (rs : List Result) → Polls s id o reply s' → Stands s rs → Stands s' rs
polls s id None (Refused (NoJob n)) s' rs h k = moved s' s rs h.1 k
polls s id (Some job) (Verdict v) s' rs h k = moved s' s rs h.4 k
polls s id (Some job) (Refused (Replaced r)) s' rs h k = moved s' s rs h.2 k
polls s id (Some job) (Pending d n) s' rs h k = moved s' s rs h.4 k
polls s id o reply s' rs h k = absurd h

claims : (s : Workbench) (seat : ℕ) (reply : Reply) (s' : Workbench) (rs : List Result) → Claims s seat reply s' → Stands s rs → Stands s' rs
claims s seat Nothing s' rs h k = moved s' s rs h.1 k
claims s seat (Refused ClaimsSpent) s' rs h k = moved s' s rs h.2 k
claims s seat (Piece p) s' rs h k =
    let c : Live = record { number = p.claim; seat = seat; job = p.job; slice = p.slice } in
    moved s' _ rs h.2 (gives s.jobs s.live s.last_job rs s c h.1.0 h.1.2.0 refl refl h.1.1 (ap (λ (q : PieceValue). q.job) h.1.2.3) h.1.2.1 h.1.2.2 k)
claims s seat reply s' rs h k = absurd h

returns_to : (s : Workbench) (seat : ℕ) (part : PieceResultValue) (c : Live) (o : Option jobs.Job) (reply : Reply) (s' : Workbench) (rs : List Result) → claim_of s.live part.piece.claim seat ≡ Some c → job_of s.jobs c.job ≡ o → IsRight part → ReturnsTo s seat (returned part) c o reply s' → Stands s rs → Stands s' (with_taken reply c.job part rs)
unfolding others
returns_to s seat part c None (Refused (NoClaim n)) s' rs ec ej right h k = moved s' s rs h.1 k
returns_to s seat part c (Some job) (Refused (Replaced x)) s' rs ec ej right h k = moved s' _ rs h.1 (ends (λ d. not (is_claim part.piece.claim seat d)) s.jobs s.live s.last_job rs k)
returns_to s seat part c (Some job) (Refused (Stranger n)) s' rs ec ej right h k = moved s' s rs h.3 k
returns_to s seat part c (Some job) (Taken d n) s' rs ec ej right h k =
    moved s' _ (record { job = c.job; part = part } ∷ rs) h.2 (takes s.jobs s.live s.last_job rs c part.piece.claim seat job part ec ej h.1.0 h.1.2 h.1.1 right k)
returns_to s seat part c o reply s' rs ec ej right h k = absurd h

returned_to : (s : Workbench) (seat : ℕ) (part : PieceResultValue) (o : Option Live) (reply : Reply) (s' : Workbench) (rs : List Result) → claim_of s.live part.piece.claim seat ≡ o → IsRight part → Returns s seat (returned part) o reply s' → Stands s rs → Stands s' (with_taken reply (option_map_or (λ c. c.job) o 0) part rs)
returned_to s seat part None (Refused (NoClaim n)) s' rs ec right h k = moved s' s rs h.1 k
returned_to s seat part None reply s' rs ec right h k = absurd h
returned_to s seat part (Some c) reply s' rs ec right h k = returns_to s seat part c (job_of s.jobs c.job) reply s' rs ec refl right h k

refused_closed : (s : Workbench) (reply : Reply) (s' : Workbench) (rs : List Result) (after : Reply → List Result) → after (Refused Closed) ≡ rs → reply ≡ Refused Closed → s' ≡ s → Stands s rs → Stands s' (after reply)
refused_closed s reply s' rs after none e same k =
    let P : List Result → Type 0 = λ l. Stands s' l in
    subst P (sym (ap after e ∙ none)) (moved s' s rs same k)

pub return_keeps : (s : Workbench) (seat : ℕ) (part : PieceResultValue) (reply : Reply) (s' : Workbench) (rs : List Result) → IsRight part → Step s seat (Return (returned part)) reply s' → Stands s rs → Stands s' (with_taken reply (claimed_job s part.piece.claim seat) part rs)
return_keeps s seat part reply s' rs right (inl h) k = refused_closed s reply s' rs (λ a. with_taken a (claimed_job s part.piece.claim seat) part rs) refl h.1 h.2 k
return_keeps s seat part reply s' rs right (inr h) k = returned_to s seat part (claim_of s.live part.piece.claim seat) reply s' rs refl right h.1 k

-- any other call

drops_cat : (s : Workbench) (name : Word) (reply : Reply) (s' : Workbench) (rs : List Result) → DropsCat s name reply s' → Stands s rs → Stands s' rs
drops_cat s name (Refused (Model fault)) s' rs h k = moved s' s rs h.2 k
drops_cat s name (Refused (VersionsSpent n)) s' rs h k = moved s' s rs h.3 k
drops_cat s name (Version n v) s' rs h k = moved s' _ rs h.4 k
drops_cat s name reply s' rs h k = absurd h

drops_test : (s : Workbench) (name : Word) (reply : Reply) (s' : Workbench) (rs : List Result) → DropsTest s name reply s' → Stands s rs → Stands s' rs
drops_test s name (Refused (NoTest n)) s' rs h k = moved s' s rs h.2 k
drops_test s name (Refused (VersionsSpent n)) s' rs h k = moved s' s rs h.3 k
drops_test s name (Version n v) s' rs h k = moved s' _ rs h.4 k
drops_test s name reply s' rs h k = absurd h

forgets_keeps : (s : Workbench) (id : ℕ) (reply : Reply) (s' : Workbench) (rs : List Result) → Forgets s id reply s' → Stands s rs → Stands s' (left (Forget id) reply rs)
unfolding elsewhere without
forgets_keeps s id (Refused (NoJob n)) s' rs h k = moved s' s rs h.2 k
forgets_keeps s id Done s' rs h k = moved s' _ (left (Forget id) Done rs) h.1 (forgets id s.jobs s.live s.last_job rs k)
forgets_keeps s id reply s' rs h k = absurd h

releases_keeps : (s : Workbench) (id : ℕ) (reply : Reply) (s' : Workbench) (rs : List Result) → Releases s id reply s' → Stands s rs → Stands s' rs
unfolding elsewhere
releases_keeps s id (Refused (NoJob n)) s' rs h k = moved s' s rs h.2 k
releases_keeps s id (Freed n) s' rs h k = moved s' _ rs h.2 (ends (λ c. not (is_of id c)) s.jobs s.live s.last_job rs k)
releases_keeps s id reply s' rs h k = absurd h

gives_back : (s : Workbench) (seat claim : ℕ) (reply : Reply) (s' : Workbench) (rs : List Result) → GivesBack s seat claim reply s' → Stands s rs → Stands s' rs
unfolding others
gives_back s seat claim (Refused (NoClaim n)) s' rs h k = moved s' s rs h.2 k
gives_back s seat claim Done s' rs h k = moved s' _ rs h.1 (ends (λ d. not (is_claim claim seat d)) s.jobs s.live s.last_job rs k)
gives_back s seat claim reply s' rs h k = absurd h

lists_all : (s : Workbench) (reply : Reply) (s' : Workbench) (rs : List Result) → ListsAll s reply s' → Stands s rs → Stands s' rs
lists_all s (Listed l) s' rs h k = moved s' s rs h.1 k
lists_all s reply s' rs h k = absurd h

closes : (s : Workbench) (reply : Reply) (s' : Workbench) (rs : List Result) → Closes s reply s' → Stands s rs → Stands s' rs
closes s Done s' rs h k = moved s' _ rs h k
closes s reply s' rs h k = absurd h

open_keeps : (s : Workbench) (seat : ℕ) (said : Said) (reply : Reply) (s' : Workbench) (rs : List Result) → IsNoReturn said → OpenStep s seat said reply s' → Stands s rs → Stands s' (left said reply rs)
open_keeps s seat (PutCat name text) reply s' rs n h k = puts_cat s name text reply s' rs h k
open_keeps s seat (PutTest text) reply s' rs n h k = puts_test s text reply s' rs h k
open_keeps s seat (Ask test cat) reply s' rs n h k = asks s test cat (test_of s.tests test) reply s' rs h k
open_keeps s seat (Poll id) reply s' rs n h k = polls s id (job_of s.jobs id) reply s' rs h k
open_keeps s seat Claim reply s' rs n h k = claims s seat reply s' rs h k
open_keeps s seat (Return r) reply s' rs n h k = absurd n
open_keeps s seat (DropCat name) reply s' rs n h k = drops_cat s name reply s' rs h k
open_keeps s seat (DropTest name) reply s' rs n h k = drops_test s name reply s' rs h k
open_keeps s seat (Forget id) reply s' rs n h k = forgets_keeps s id reply s' rs h k
open_keeps s seat (Release id) reply s' rs n h k = releases_keeps s id reply s' rs h k
open_keeps s seat (GiveBack claim) reply s' rs n h k = gives_back s seat claim reply s' rs h k
open_keeps s seat ListAll reply s' rs n h k = lists_all s reply s' rs h k
open_keeps s seat Close reply s' rs n h k = closes s reply s' rs h k

left_closed : (said : Said) (rs : List Result) → left said (Refused Closed) rs ≡ rs
left_closed (Forget id) rs = refl
left_closed said rs = refl

pub call_keeps : (s : Workbench) (seat : ℕ) (said : Said) (reply : Reply) (s' : Workbench) (rs : List Result) → IsNoReturn said → Step s seat said reply s' → Stands s rs → Stands s' (left said reply rs)
call_keeps s seat said reply s' rs n (inl h) k = refused_closed s reply s' rs (λ a. left said a rs) (left_closed said rs) h.1 h.2 k
call_keeps s seat said reply s' rs n (inr h) k = open_keeps s seat said reply s' rs n h.1 k

-- what the kept book does is a step of its workbench

put_together : (k : KeptBook) (id : ℕ) (v : VerdictValue) (s' : Workbench) (o : Option jobs.Job) → job_of k.state.jobs id ≡ o → Stands k.state k.results → IsPutTogether k.results id v o → s' ≡ k.state → Polls k.state id o (Verdict v) s'
put_together k id v s' None e st h same = absurd h
put_together k id v s' (Some job) e st h same = (h.0, h.1, h.2, verdict_right k.state.jobs k.state.live k.state.last_job k.results id v job st e h, same)

open_full : (k : KeptBook) (seat : ℕ) (said : Said) (reply : Reply) (s' : Workbench) → Stands k.state k.results → OpenKept k seat said reply s' → OpenStep k.state seat said reply s'
open_full k seat (Poll id) (Verdict v) s' st h = put_together k id v s' (job_of k.state.jobs id) refl st h.0 h.1
open_full k seat said reply s' st h = h

pub kept_full : (k : KeptBook) (seat : ℕ) (said : Said) (reply : Reply) (s' : Workbench) → Stands k.state k.results → KeptStep k seat said reply s' → Step k.state seat said reply s'
kept_full k seat said reply s' st (inl h) = inl h
kept_full k seat said reply s' st (inr h) = inr (h.0, open_full k seat said reply s' st h.1)

-- a verdict is right

ask_says : (s : Workbench) (test cat : Word) (o : Option Litmus) (v : VerdictValue) (s' : Workbench) → Asks s test cat o (Verdict v) s' → ⊥
ask_says s test cat None v s' h = h
ask_says s test cat (Some t) v s' h = h.2

poll_says : (s : Workbench) (id : ℕ) (o : Option jobs.Job) (v : VerdictValue) (s' : Workbench) → Polls s id o (Verdict v) s' → IsVerdict v.work.test v.work.model.items v.finding
poll_says s id None v s' h = absurd h
poll_says s id (Some job) v s' h = h.3

return_to_says : (s : Workbench) (seat : ℕ) (r : Returned) (c : Live) (o : Option jobs.Job) (v : VerdictValue) (s' : Workbench) → ReturnsTo s seat r c o (Verdict v) s' → ⊥
return_to_says s seat r c None v s' h = h
return_to_says s seat r c (Some job) v s' h = h

return_says : (s : Workbench) (seat : ℕ) (r : Returned) (o : Option Live) (v : VerdictValue) (s' : Workbench) → Returns s seat r o (Verdict v) s' → ⊥
return_says s seat r None v s' h = h
return_says s seat r (Some c) v s' h = return_to_says s seat r c (job_of s.jobs c.job) v s' h

open_says : (s : Workbench) (seat : ℕ) (said : Said) (v : VerdictValue) (s' : Workbench) → OpenStep s seat said (Verdict v) s' → IsVerdict v.work.test v.work.model.items v.finding
open_says s seat (PutCat name text) v s' h = absurd h
open_says s seat (PutTest text) v s' h = absurd h
open_says s seat (Ask test cat) v s' h = absurd (ask_says s test cat (test_of s.tests test) v s' h)
open_says s seat (Poll id) v s' h = poll_says s id (job_of s.jobs id) v s' h
open_says s seat Claim v s' h = absurd h
open_says s seat (Return r) v s' h = absurd (return_says s seat r (claim_of s.live r.claim seat) v s' h)
open_says s seat (DropCat name) v s' h = absurd h
open_says s seat (DropTest name) v s' h = absurd h
open_says s seat (Forget id) v s' h = absurd h
open_says s seat (Release id) v s' h = absurd h
open_says s seat (GiveBack claim) v s' h = absurd h
open_says s seat ListAll v s' h = absurd h
open_says s seat Close v s' h = absurd h

says : (s : Workbench) (seat : ℕ) (said : Said) (reply : Reply) (s' : Workbench) → OpenStep s seat said reply s' → SaysRight reply
says s seat said (Verdict v) s' h = open_says s seat said v s' h
says s seat said reply s' h = tt

pub step_says : (s : Workbench) (seat : ℕ) (said : Said) (reply : Reply) (s' : Workbench) → Step s seat said reply s' → SaysRight reply
step_says s seat said reply s' (inl h) = subst SaysRight (sym h.1) tt
step_says s seat said reply s' (inr h) = says s seat said reply s' h.1

-- one entry more
pub leads_push : (place : ℕ) (s mid s' : Workbench) (journal : List Line) (e : Line) → LeadsFrom place s journal mid → e.place ≡ place + length journal → Step mid e.seat e.said e.reply s' → LeadsFrom place s (journal ++ e ∷ []) s'
leads_push place s mid s' [] e leads at step = (at ∙ omega arith, (s', subst (λ (v : Workbench). Step v e.seat e.said e.reply s') leads step, refl))
leads_push place s mid s' (x ∷ xs) e leads at step = (leads.0, (leads.1.0, leads.1.1, leads_push (place + 1) leads.1.0 mid s' xs e leads.1.2 (at ∙ omega arith) step))
