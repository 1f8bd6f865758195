-- Steps of an open book that drop, release, forget, list and give back.
use Rattle.std.proofs.Common.{◌≡◌, ℕ, ◌+◌, ◌<◌, ◌≤◌, true, false, Option, None, Some, refl, ap, subst, inr}
use Rattle.std.specs.Prelude.{is_some, count_by}
use Rattle.std.specs.Str.{bytes_eq}
use Rattle.indexmap.specs.IndexMap.{insert_entry}
use Rattle.cat_model.specs.Files.{version_of, loaded, store}
use Rattle.cat_model.specs.declared.fault.ModelFault.TheVariants as of_model
use Rattle.litmus_tree.specs.Tree.{Word}
use Rattle.book.specs.Jobs as jobs
use Rattle.book.specs.Listings.{listing, is_test}
use Rattle.book.specs.Step.{Step, is_of, ended, released, forgotten}
use Rattle.book.specs.Workbench.{Workbench, test_of, test_version, job_of, claim_of}
use Rattle.book.specs.declared.live.Live.{Live}
use Rattle.journal.specs.Listed.{Catalogue}
use Rattle.journal.specs.declared.records.Refusal.TheVariants.{VersionsSpent, NoTest, Model, NoJob, NoClaim}
use Rattle.journal.specs.declared.records.Reply.TheVariants.{Version, Freed, Listed, Done, Refused}
use Rattle.journal.specs.declared.records.Said.TheVariants.{DropCat, DropTest, Forget, Release, List as ListAll, GiveBack}

not_there : {X : Type 0} (o : Option X) → is_some o ≡ false → o ≡ None
not_there None e = refl
not_there (Some x) e = cc

there : {X : Type 0} (o : Option X) (x : X) → o ≡ Some x → is_some o ≡ true
there o x e = ap is_some e

-- cat files

pub cat_away : (s : Workbench) (seat : ℕ) (name n : Word) → s.closed ≡ false → is_some (loaded name s.cats) ≡ false → n ≡ name → Step s seat (DropCat name) (Refused (Model (of_model.NoCat n))) s
cat_away s seat name n open' away e = inr (open', (not_there (loaded name s.cats) away, ap of_model.NoCat e, refl))

pub cat_drop_spent : (s : Workbench) (seat : ℕ) (name n : Word) (version : ℕ) → s.closed ≡ false → is_some (loaded name s.cats) ≡ true → version ≡ version_of name s.cats → s.limits.versions ≤ version → n ≡ name → Step s seat (DropCat name) (Refused (VersionsSpent n)) s
cat_drop_spent s seat name n version open' is v spent e = let P : ℕ → Type 0 = λ k. s.limits.versions ≤ k in inr (open', (is, subst P v spent, e, refl))

pub cat_dropped : (s : Workbench) (seat : ℕ) (name n m : Word) (version : ℕ) → s.closed ≡ false → is_some (loaded name s.cats) ≡ true → version ≡ version_of name s.cats → version < s.limits.versions → n ≡ name → m ≡ name
    → Step s seat (DropCat name) (Version n (version + 1)) (record s { cats = store (record { name = m; version = version + 1; file = None }) s.cats })
cat_dropped s seat name n m version open' is v room e h =
    let P : ℕ → Type 0 = λ k. k < s.limits.versions in
    let after : Word → Workbench = λ x. record s { cats = store (record { name = x; version = version + 1; file = None }) s.cats } in
    inr (open', (is, subst P v room, e, ap (λ k. k + 1) v, ap after h))

-- tests

pub test_away : (s : Workbench) (seat : ℕ) (name n : Word) → s.closed ≡ false → is_test s.tests name ≡ false → n ≡ name → Step s seat (DropTest name) (Refused (NoTest n)) s
test_away s seat name n open' away e = inr (open', (not_there (test_of s.tests name) away, e, refl))

pub test_drop_spent : (s : Workbench) (seat : ℕ) (name n : Word) (version : ℕ) → s.closed ≡ false → is_test s.tests name ≡ true → version ≡ test_version s.tests name → s.limits.versions ≤ version → n ≡ name → Step s seat (DropTest name) (Refused (VersionsSpent n)) s
test_drop_spent s seat name n version open' is v spent e = let P : ℕ → Type 0 = λ k. s.limits.versions ≤ k in inr (open', (is, subst P v spent, e, refl))

pub test_dropped : (s : Workbench) (seat : ℕ) (name n m : Word) (version : ℕ) → s.closed ≡ false → is_test s.tests name ≡ true → version ≡ test_version s.tests name → version < s.limits.versions → n ≡ name → m ≡ name
    → Step s seat (DropTest name) (Version n (version + 1)) (record s { tests = insert_entry bytes_eq s.tests m (record { version = version + 1; tree = None }) })
test_dropped s seat name n m version open' is v room e h =
    let P : ℕ → Type 0 = λ k. k < s.limits.versions in
    let after : Word → Workbench = λ x. record s { tests = insert_entry bytes_eq s.tests x (record { version = version + 1; tree = None }) } in
    inr (open', (is, subst P v room, e, ap (λ k. k + 1) v, ap after h))

-- jobs

pub forget_no_job : (s : Workbench) (seat id : ℕ) → s.closed ≡ false → job_of s.jobs id ≡ None → Step s seat (Forget id) (Refused (NoJob id)) s
forget_no_job s seat id open' e = inr (open', (e, refl, refl))

pub forgot : (s : Workbench) (seat id : ℕ) (job : jobs.Job) → s.closed ≡ false → job_of s.jobs id ≡ Some job → Step s seat (Forget id) Done (forgotten s id)
forgot s seat id job open' e = inr (open', (there (job_of s.jobs id) job e, refl))

pub release_no_job : (s : Workbench) (seat id : ℕ) → s.closed ≡ false → job_of s.jobs id ≡ None → Step s seat (Release id) (Refused (NoJob id)) s
release_no_job s seat id open' e = inr (open', (e, refl, refl))

pub freed : (s : Workbench) (seat id n : ℕ) (job : jobs.Job) → s.closed ≡ false → job_of s.jobs id ≡ Some job → n ≡ count_by (is_of id) s.live → Step s seat (Release id) (Freed n) (released s id)
freed s seat id n job open' e count = inr (open', (there (job_of s.jobs id) job e, count, refl))

pub listed : (s : Workbench) (seat : ℕ) (l : Catalogue) → s.closed ≡ false → l ≡ listing s → Step s seat ListAll (Listed l) s
listed s seat l open' e = inr (open', (e, refl))

-- claims

pub give_back_no_claim : (s : Workbench) (seat claim : ℕ) → s.closed ≡ false → claim_of s.live claim seat ≡ None → Step s seat (GiveBack claim) (Refused (NoClaim claim)) s
give_back_no_claim s seat claim open' e = inr (open', (e, refl, refl))

pub gave_back : (s : Workbench) (seat claim : ℕ) (c : Live) → s.closed ≡ false → claim_of s.live claim seat ≡ Some c → Step s seat (GiveBack claim) Done (ended s claim seat)
gave_back s seat claim c open' e = inr (open', (there (claim_of s.live claim seat) c e, refl))
