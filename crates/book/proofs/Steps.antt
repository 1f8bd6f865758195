-- Steps of an open book, from what was looked up.
use Rattle.std.proofs.Common.{◌≡◌, ℕ, ◌+◌, ◌<◌, ◌≤◌, length, true, false, List, [], ◌∷◌, ◌++◌, Option, None, Some, refl, sym, ap, ◌∙◌, subst, inr, ◌≢◌}
use Rattle.std.specs.Str.{bytes_eq}
use Rattle.indexmap.specs.IndexMap.{insert_entry}
use Rattle.cat_model.specs.Faults.{IsCause}
use Rattle.cat_model.specs.Files.{version_of, store}
use Rattle.cat_model.specs.declared.files.Entry.{Entry}
use Rattle.cat_model.specs.Models.{Assembly}
use Rattle.cat_model.specs.declared.fault.ModelFault.{ModelFault}
use Rattle.cat_syntax.specs.Reads.{Reads as ReadsCat, IsRefused as IsRefusedCat}
use Rattle.cat_tree.specs.Tree.{File}
use Rattle.cat_syntax.specs.declared.fault.CatFault.{CatFault}
use Rattle.cat_syntax.specs.declared.fault.CatFault.TheVariants as of_cat
use Rattle.litmus_c.specs.Reads.{Reads, IsRefused}
use Rattle.litmus_tree.specs.Tree.{Word, Litmus}
use Rattle.litmus_c.specs.declared.fault.TestFault.{TestFault}
use Rattle.litmus_c.specs.declared.fault.TestFault.TheVariants as of_test
use Rattle.candidates.specs.Faults.{IsSpaceFault}
use Rattle.candidates.specs.declared.fault.SpaceFault.{SpaceFault}
use Rattle.candidates.specs.declared.fault.SpaceFault.TheVariants as of_space
use Rattle.book.specs.Changes.{FitsJob, FitsVerdict, HoldsSlice}
use Rattle.book.specs.Jobs as jobs
use Rattle.book.specs.Jobs.{done, is_done, marked}
use Rattle.book.specs.Results.{HasRoot}
use Rattle.slices.specs.VerdictValues.{VerdictValue}
use Rattle.journal.specs.Lines.{returned}
use Rattle.slices.specs.Parts.{IsAdmitted, test_size, PieceResultValue}
use Rattle.book.specs.Step.{Step, Asks, Polls, Returns, ReturnsTo, IsCut, IsOwn, ended, taken}
use Rattle.slices.specs.Works.{IsModelOf}
use Rattle.slices.specs.Verdicts.{IsVerdict}
use Rattle.book.specs.Workbench.{Workbench, test_of, test_version, job_of, claim_of, replaced}
use Rattle.slices.specs.Works.{WorkValue}
use Rattle.book.specs.declared.live.Live.{Live}
use Rattle.journal.specs.declared.records.Replacement.{Replacement}
use Rattle.journal.specs.declared.records.Refusal.TheVariants.{ReadingTest, ReadingCat, VersionsSpent, NoTest, Model, Space, JobsFull, NoJob, NoClaim, Replaced, Stranger}
use Rattle.journal.specs.declared.records.Reply.{Reply}
use Rattle.journal.specs.declared.records.Reply.TheVariants.{Version, Job, Pending, Verdict, Taken, Refused}
use Rattle.journal.specs.declared.records.Returned.{Returned}
use Rattle.journal.specs.declared.records.Said.TheVariants.{PutCat, PutTest, Ask, Poll, Return}

-- putting

pub cat_unread : (s : Workbench) (seat : ℕ) (name : Word) (text : List ℕ) (fault : CatFault) → s.closed ≡ false → ((f : File) → ReadsCat text f → fault ≡ of_cat.NoMemory) → IsRefusedCat text fault → fault ≢ of_cat.NoMemory → Step s seat (PutCat name text) (Refused (ReadingCat fault)) s
cat_unread s seat name text fault open' only cause not = inr (open', ((λ f reads. not (only f reads)), not, cause, refl))

pub cat_spent : (s : Workbench) (seat : ℕ) (name n : Word) (text : List ℕ) (f : File) (version : ℕ) → s.closed ≡ false → ReadsCat text f → version ≡ version_of name s.cats → s.limits.versions ≤ version → n ≡ name → Step s seat (PutCat name text) (Refused (VersionsSpent n)) s
cat_spent s seat name n text f version open' reads v spent e = let P : ℕ → Type 0 = λ k. s.limits.versions ≤ k in inr (open', (f, reads, subst P v spent, e, refl))

pub cat_put : (s : Workbench) (seat : ℕ) (name n m : Word) (text : List ℕ) (f g : File) (version : ℕ) → s.closed ≡ false → ReadsCat text f → version ≡ version_of name s.cats → version < s.limits.versions → n ≡ name → m ≡ name → g ≡ f
    → Step s seat (PutCat name text) (Version n (version + 1)) (record s { cats = store (record { name = m; version = version + 1; file = Some g }) s.cats })
cat_put s seat name n m text f g version open' reads v room e h same =
    let P : ℕ → Type 0 = λ k. k < s.limits.versions in
    let after : Word → File → Workbench = λ x y. record s { cats = store (record { name = x; version = version + 1; file = Some y }) s.cats } in
    inr (open', (f, reads, subst P v room, e, ap (λ k. k + 1) v, ap (λ x. after x g) h ∙ ap (after name) same))

pub test_unread : (s : Workbench) (seat : ℕ) (text : List ℕ) (fault : TestFault) → s.closed ≡ false → ((t : Litmus) → Reads text t → fault ≡ of_test.NoMemory) → IsRefused text fault → fault ≢ of_test.NoMemory → Step s seat (PutTest text) (Refused (ReadingTest fault)) s
test_unread s seat text fault open' only cause not = inr (open', ((λ t reads. not (only t reads)), not, cause, refl))

pub test_spent : (s : Workbench) (seat : ℕ) (text : List ℕ) (t : Litmus) (n : Word) (version : ℕ) → s.closed ≡ false → Reads text t → n ≡ t.name → version ≡ test_version s.tests n → s.limits.versions ≤ version → Step s seat (PutTest text) (Refused (VersionsSpent n)) s
test_spent s seat text t n version open' reads e v spent =
    let P : ℕ → Type 0 = λ k. s.limits.versions ≤ k in
    inr (open', (t, reads, subst P (v ∙ ap (test_version s.tests) e) spent, e, refl))

pub test_put : (s : Workbench) (seat : ℕ) (text : List ℕ) (t u : Litmus) (n m : Word) (version : ℕ) → s.closed ≡ false → Reads text t → m ≡ t.name → n ≡ m → version ≡ test_version s.tests m → version < s.limits.versions → u ≡ t
    → Step s seat (PutTest text) (Version n (version + 1)) (record s { tests = insert_entry bytes_eq s.tests m (record { version = version + 1; tree = Some u }) })
test_put s seat text t u n m version open' reads e f v room same =
    let P : ℕ → Type 0 = λ k. k < s.limits.versions in
    let w = v ∙ ap (test_version s.tests) e in
    let after : Word → Litmus → Workbench = λ x y. record s { tests = insert_entry bytes_eq s.tests x (record { version = version + 1; tree = Some y }) } in
    inr (open', (t, reads, subst P w room, f ∙ e, ap (λ k. k + 1) w, ap (λ x. after x u) (sym f) ∙ ap (after n) same))

-- asking

pub asks_by : (s : Workbench) (seat : ℕ) (test cat : Word) (o : Option Litmus) (reply : Reply) (s' : Workbench) → s.closed ≡ false → test_of s.tests test ≡ o → Asks s test cat o reply s' → Step s seat (Ask test cat) reply s'
asks_by s seat test cat o reply s' open' e step = let P : Option Litmus → Type 0 = λ x. Asks s test cat x reply s' in inr (open', subst P (sym e) step)

pub no_test : (s : Workbench) (seat : ℕ) (test cat : Word) → s.closed ≡ false → test_of s.tests test ≡ None → Step s seat (Ask test cat) (Refused (NoTest test)) s
no_test s seat test cat open' e = asks_by s seat test cat None _ s open' e (refl, refl)

pub no_model : (s : Workbench) (seat : ℕ) (test cat : Word) (t : Litmus) (fault : ModelFault) → s.closed ≡ false → test_of s.tests test ≡ Some t → IsCause fault s.cats cat → Step s seat (Ask test cat) (Refused (Model fault)) s
no_model s seat test cat t fault open' e cause = asks_by s seat test cat (Some t) _ s open' e (cause, refl)

pub no_space : (s : Workbench) (seat : ℕ) (test cat : Word) (t u : Litmus) (m : Assembly) (fault : SpaceFault) → s.closed ≡ false → test_of s.tests test ≡ Some t → IsModelOf s.cats cat m → u ≡ t → IsSpaceFault u fault → fault ≢ of_space.NoMemory → Step s seat (Ask test cat) (Refused (Space fault)) s
no_space s seat test cat t u m fault open' e model same cause not = asks_by s seat test cat (Some t) _ s open' e (m, model, ((let P : Litmus → Type 0 = λ v. IsSpaceFault v fault in subst P same cause), not, refl))

pub jobs_full : (s : Workbench) (seat : ℕ) (test cat : Word) (t u : Litmus) (m : Assembly) (work : WorkValue) → s.closed ≡ false → test_of s.tests test ≡ Some t → IsModelOf s.cats cat m → u ≡ t → work ≡ record { test = u; model = m } → IsAdmitted work.test → 256 ≤ length s.jobs → Step s seat (Ask test cat) (Refused JobsFull) s
jobs_full s seat test cat t u m work open' e model same made admitted full =
    let is : work.test ≡ t = ap (λ (w : WorkValue). w.test) made ∙ same in
    asks_by s seat test cat (Some t) _ s open' e (m, model, ((let P : Litmus → Type 0 = λ v. IsAdmitted v in subst P is admitted), full, refl))

-- polling

polls_by : (s : Workbench) (seat id : ℕ) (o : Option jobs.Job) (reply : Reply) (s' : Workbench) → s.closed ≡ false → job_of s.jobs id ≡ o → Polls s id o reply s' → Step s seat (Poll id) reply s'
polls_by s seat id o reply s' open' e step = let P : Option jobs.Job → Type 0 = λ x. Polls s id x reply s' in inr (open', subst P (sym e) step)

pub no_job : (s : Workbench) (seat id : ℕ) → s.closed ≡ false → job_of s.jobs id ≡ None → Step s seat (Poll id) (Refused (NoJob id)) s
no_job s seat id open' e = polls_by s seat id None _ s open' e (refl, refl)

pub judged : (s : Workbench) (seat id : ℕ) (job : jobs.Job) (v : VerdictValue) → s.closed ≡ false → job_of s.jobs id ≡ Some job → is_done job ≡ true → v.work ≡ job.work → v.version ≡ job.version → IsVerdict v.work.test v.work.model.items v.finding → Step s seat (Poll id) (Verdict v) s
judged s seat id job v open' e whole w n right = polls_by s seat id (Some job) _ s open' e (whole, w, n, right, refl)

-- the same verdict, kept once more
pub judged_again : (s : Workbench) (seat id : ℕ) (job : jobs.Job) (v w : VerdictValue) → w ≡ v → s.closed ≡ false → job_of s.jobs id ≡ Some job → is_done job ≡ true → v.work ≡ job.work → v.version ≡ job.version → IsVerdict v.work.test v.work.model.items v.finding → Step s seat (Poll id) (Verdict w) s
judged_again s seat id job v w same open' e whole k n right = let P : VerdictValue → Type 0 = λ x. Step s seat (Poll id) (Verdict x) s in subst P (sym same) (judged s seat id job v open' e whole k n right)

pub verdict_fits : (s : Workbench) (id : ℕ) (job : jobs.Job) (v : VerdictValue) → job_of s.jobs id ≡ Some job → v.work ≡ job.work → v.version ≡ job.version → IsVerdict v.work.test v.work.model.items v.finding → FitsVerdict (job_of s.jobs id) v
verdict_fits s id job v e w n right = let P : Option jobs.Job → Type 0 = λ o. FitsVerdict o v in subst P (sym e) (w, n, right)

pub poll_replaced : (s : Workbench) (seat id : ℕ) (job : jobs.Job) (r : Replacement) → s.closed ≡ false → job_of s.jobs id ≡ Some job → is_done job ≡ false → replaced s job ≡ Some r → Step s seat (Poll id) (Refused (Replaced r)) s
poll_replaced s seat id job r open' e part f = polls_by s seat id (Some job) _ s open' e (part, f, refl)

pub pending : (s : Workbench) (seat id d n : ℕ) (job : jobs.Job) → s.closed ≡ false → job_of s.jobs id ≡ Some job → is_done job ≡ false → replaced s job ≡ None → d ≡ done job → n ≡ length job.slices → Step s seat (Poll id) (Pending d n) s
pending s seat id d n job open' e part f count total = polls_by s seat id (Some job) _ s open' e (part, f, count, total, refl)

-- returning

returns_by : (s : Workbench) (seat : ℕ) (r : Returned) (o : Option Live) (reply : Reply) (s' : Workbench) → s.closed ≡ false → claim_of s.live r.claim seat ≡ o → Returns s seat r o reply s' → Step s seat (Return r) reply s'
returns_by s seat r o reply s' open' e step = let P : Option Live → Type 0 = λ x. Returns s seat r x reply s' in inr (open', subst P (sym e) step)

pub no_claim : (s : Workbench) (seat : ℕ) (r : Returned) → s.closed ≡ false → claim_of s.live r.claim seat ≡ None → Step s seat (Return r) (Refused (NoClaim r.claim)) s
no_claim s seat r open' e = returns_by s seat r None _ s open' e (refl, refl)

returns_to : (s : Workbench) (seat : ℕ) (r : Returned) (c : Live) (o : Option jobs.Job) (reply : Reply) (s' : Workbench) → s.closed ≡ false → claim_of s.live r.claim seat ≡ Some c → job_of s.jobs c.job ≡ o → ReturnsTo s seat r c o reply s' → Step s seat (Return r) reply s'
returns_to s seat r c o reply s' open' e f step = returns_by s seat r (Some c) reply s' open' e (let P : Option jobs.Job → Type 0 = λ x. ReturnsTo s seat r c x reply s' in subst P (sym f) step)

pub claim_of_no_job : (s : Workbench) (seat : ℕ) (r : Returned) (c : Live) → s.closed ≡ false → claim_of s.live r.claim seat ≡ Some c → job_of s.jobs c.job ≡ None → Step s seat (Return r) (Refused (NoClaim r.claim)) s
claim_of_no_job s seat r c open' e f = returns_to s seat r c None _ s open' e f (refl, refl)

pub return_replaced : (s : Workbench) (seat : ℕ) (r : Returned) (c : Live) (job : jobs.Job) (x : Replacement) → s.closed ≡ false → claim_of s.live r.claim seat ≡ Some c → job_of s.jobs c.job ≡ Some job → replaced s job ≡ Some x → Step s seat (Return r) (Refused (Replaced x)) (ended s r.claim seat)
return_replaced s seat r c job x open' e f h = returns_to s seat r c (Some job) _ _ open' e f (h, refl)

pub return_stranger : (s : Workbench) (seat : ℕ) (r : Returned) (c : Live) (job : jobs.Job) → s.closed ≡ false → claim_of s.live r.claim seat ≡ Some c → job_of s.jobs c.job ≡ Some job → replaced s job ≡ None → ¬ IsOwn c job r → Step s seat (Return r) (Refused (Stranger r.claim)) s
return_stranger s seat r c job open' e f h not = returns_to s seat r c (Some job) _ _ open' e f (h, not, refl, refl)

pub return_taken : (s : Workbench) (seat d n : ℕ) (r : Returned) (c : Live) (job : jobs.Job) → s.closed ≡ false → claim_of s.live r.claim seat ≡ Some c → job_of s.jobs c.job ≡ Some job → replaced s job ≡ None → IsOwn c job r → d ≡ done (marked r.slice job) → n ≡ length job.slices → Step s seat (Return r) (Taken d n) (taken s r.claim seat c.job r.slice)
return_taken s seat d n r c job open' e f h own count total = returns_to s seat r c (Some job) _ _ open' e f (h, own, refl, count, total)

fits_job : (s : Workbench) (number : ℕ) (c : Live) (job : jobs.Job) (r : PieceResultValue) → job_of s.jobs number ≡ Some job → IsOwn c job (returned r) → FitsJob (job_of s.jobs number) r
fits_job s number c job r e own = let P : Option jobs.Job → Type 0 = λ o. FitsJob o r in subst P (sym e) (record { work = own.2; range = own.1 })

pub take_ready : (s : Workbench) (number seat : ℕ) (c : Live) (job : jobs.Job) (r : PieceResultValue) → claim_of s.live number seat ≡ Some c → job_of s.jobs c.job ≡ Some job → IsOwn c job (returned r) → FitsJob (job_of s.jobs c.job) r × HoldsSlice (claim_of s.live number seat) c.job r.piece.slice
take_ready s number seat c job r e f own =
    let P : Option Live → Type 0 = λ o. HoldsSlice o c.job r.piece.slice in
    (fits_job s c.job c job r f own, subst P (sym e) (refl, sym own.0))

pub opened_job : (s : Workbench) (seat : ℕ) (test cat : Word) (t u : Litmus) (m : Assembly) (number version : ℕ) (work w : WorkValue) (job : jobs.Job) → s.closed ≡ false → test_of s.tests test ≡ Some t → IsModelOf s.cats cat m → u ≡ t → work ≡ record { test = u; model = m } → IsAdmitted work.test → length s.jobs < 256 → number ≡ s.last_job + 1 → version ≡ test_version s.tests test → w ≡ work
    → job.number ≡ number → job.version ≡ version → job.work ≡ w → IsCut (test_size w.test) job.slices
    → Step s seat (Ask test cat) (Job number) (record s { last_job = job.number; jobs = s.jobs ++ job ∷ [] })
opened_job s seat test cat t u m number version work w job open' e model same made admitted room n v kept jn jv jw cut =
    let P : Litmus → Type 0 = λ x. work ≡ record { test = x; model = m } in
    let made' : work ≡ record { test = t; model = m } = subst P same made in
    let is : w ≡ record { test = t; model = m } = kept ∙ made' in
    let A : WorkValue → Type 0 = λ x. IsAdmitted x.test in
    let C : WorkValue → Type 0 = λ x. IsCut (test_size x.test) job.slices in
    let after : ℕ → ℕ → WorkValue → Workbench = λ i k x. record s { last_job = i; jobs = s.jobs ++ record { number = i; version = k; work = x; slices = job.slices } ∷ [] } in
    let same_state : after job.number job.version job.work ≡ after number (test_version s.tests test) (record { test = t; model = m }) =
    ap (λ i. after i job.version job.work) jn ∙ ap (λ k. after number k job.work) (jv ∙ v) ∙ ap (after number (test_version s.tests test)) (jw ∙ is) in
    asks_by s seat test cat (Some t) _ _ open' e (m, model, (subst A made' admitted, room, n, (job.slices, subst C is cut, same_state)))

-- the files of a model begin with its root
pub has_root : (cats : List Entry) (root : Word) (m : Assembly) → IsModelOf cats root m → HasRoot m.files
has_root cats root m h = subst HasRoot (sym h.closure.files_are) tt

pub work_root : (cats : List Entry) (root : Word) (u : Litmus) (m : Assembly) (work w : WorkValue) → IsModelOf cats root m → work ≡ record { test = u; model = m } → w ≡ work → HasRoot w.model.files
work_root cats root u m work w h made kept =
    let P : WorkValue → Type 0 = λ x. HasRoot x.model.files in
    subst P (sym (kept ∙ made)) (has_root cats root m h)
