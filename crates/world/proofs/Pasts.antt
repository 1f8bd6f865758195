-- What is known of the works that were asked for, and of the verdicts that were replied.
use Rattle.std.proofs.Common.{◌≡◌, ◌≢◌, ℕ, ◌+◌, ◌<◌, ◌≤◌, ◌⊎◌, List, [], ◌∷◌, ◌++◌, Option, Some, None, refl, sym, ap, ◌∙◌, subst, inl, inr, arith, append-nil}
use Rattle.std.specs.Option.{option_map_or}
use Rattle.std.specs.Str.{bytes_eq}
use Rattle.indexmap.specs.IndexMap.{insert_entry}
use Rattle.listings.specs.Lists.{IsIn}
use Rattle.listings.proofs.Listings.{in_append}
use Rattle.cat_model.specs.Closure.{IsClosure}
use Rattle.cat_model.specs.Files.{version_of, store}
use Rattle.cat_model.specs.Models.{Assembly}
use Rattle.cat_model.specs.declared.files.Entry.{Entry}
use Rattle.cat_model.specs.declared.model.FileVersion.{FileVersion}
use Rattle.cat_model.proofs.Ordered.{closure_one}
use Rattle.cat_tree.specs.Tree.{Clause}
use Rattle.litmus_tree.specs.Tree.{Word, Litmus}
use Rattle.slices.specs.VerdictValues.{VerdictValue}
use Rattle.slices.specs.Findings.{FindingValue}
use Rattle.slices.specs.Verdicts.{IsVerdict}
use Rattle.slices.specs.Works.{WorkValue, IsModelOf}
use Rattle.book.specs.Jobs as jobs
use Rattle.book.specs.Step.{Polls, Step, LeadsFrom}
use Rattle.book.specs.Workbench.{Workbench, empty, job_of, test_of, test_version}
use Rattle.book.specs.declared.limits.Limits.{Limits}
use Rattle.book.specs.declared.names.TestSlot.{TestSlot}
use Rattle.journal.specs.Lines.{Line}
use Rattle.journal.specs.declared.records.Said.{Said}
use Rattle.journal.specs.declared.records.Said.TheVariants.{Poll}
use Rattle.journal.specs.declared.records.Reply.{Reply}
use Rattle.journal.specs.declared.records.Refusal.TheVariants.{Closed}
use Rattle.journal.specs.declared.records.Reply.TheVariants.{Verdict, Refused}
use Rattle.world.specs.Histories.{Replied, VerdictsStay, VersionsTell}
use Rattle.world.proofs.ByNumber.{job_number}
use Rattle.world.proofs.Moves.{Was, Moves, quiet, asked, test_put, cat_put, was, step_moves}
use Rattle.world.proofs.Sources.{word_tells, lookup_same, lookup_other, version_same, version_other, closure_moved, root_of, root_is, current}
use Rattle.world.proofs.Told.{one_verdict}

-- a work, and the version of its test

abbrev Asked : Type 0
Asked = WorkValue × ℕ

abbrev IsCurrent : List Entry → List FileVersion → Type 0
IsCurrent cats files = (f : FileVersion) → IsIn f files → f.version ≡ version_of f.name cats

record Works (tests : List (Word × TestSlot)) (cats : List Entry) (past : List Asked) : Type 0 where
  tests_of : (k : Asked) → IsIn k past → (k.1 ≤ test_version tests k.0.test.name) × (k.1 ≡ test_version tests k.0.test.name → test_of tests k.0.test.name ≡ Some k.0.test)
  named : (name : Word) (t : Litmus) → test_of tests name ≡ Some t → t.name ≡ name
  files_of : (k : Asked) → IsIn k past → (f : FileVersion) → IsIn f k.0.model.files → f.version ≤ version_of f.name cats
  closed : (k : Asked) → IsIn k past → IsCurrent cats k.0.model.files → IsClosure cats (root_of k.0.model.files) k.0.model.items k.0.model.files
  one_test : (k l : Asked) → IsIn k past → IsIn l past → k.0.test.name ≡ l.0.test.name → k.1 ≡ l.1 → k.0.test ≡ l.0.test
  one_model : (k l : Asked) → IsIn k past → IsIn l past → k.0.model.files ≡ l.0.model.files → k.0.model.items ≡ l.0.model.items

no_works : Works [] [] []
no_works = record {
  tests_of = λ k p. absurd p;
  named = λ name t e. cc;
  files_of = λ k p. absurd p;
  closed = λ k p. absurd p;
  one_test = λ k l p. absurd p;
  one_model = λ k l p. absurd p;
}

version_put : (tests : List (Word × TestSlot)) (name x : Word) (slot : TestSlot) → x ≡ name → test_version (insert_entry bytes_eq tests name slot) x ≡ slot.version
version_put tests name x slot e = ap (test_version (insert_entry bytes_eq tests name slot)) e ∙ ap (λ o. option_map_or (λ (y : TestSlot). y.version) o 0) (lookup_same tests name slot)

version_kept : (tests : List (Word × TestSlot)) (name x : Word) (slot : TestSlot) → x ≢ name → test_version (insert_entry bytes_eq tests name slot) x ≡ test_version tests x
version_kept tests name x slot d = ap (λ o. option_map_or (λ (y : TestSlot). y.version) o 0) (lookup_other tests name x slot d)

test_kept : (tests : List (Word × TestSlot)) (name x : Word) (slot : TestSlot) → x ≢ name → test_of (insert_entry bytes_eq tests name slot) x ≡ test_of tests x
test_kept tests name x slot d = ap (λ o. option_map_or (λ (y : TestSlot). y.tree) o None) (lookup_other tests name x slot d)

test_now : (tests : List (Word × TestSlot)) (name x : Word) (slot : TestSlot) → x ≡ name → test_of (insert_entry bytes_eq tests name slot) x ≡ slot.tree
test_now tests name x slot e = ap (test_of (insert_entry bytes_eq tests name slot)) e ∙ ap (λ o. option_map_or (λ (y : TestSlot). y.tree) o None) (lookup_same tests name slot)

works_test : (tests : List (Word × TestSlot)) (cats : List Entry) (past : List Asked) (name : Word) (slot : TestSlot) → test_version tests name < slot.version → ((t : Litmus) → slot.tree ≡ Some t → t.name ≡ name) → Works tests cats past → Works (insert_entry bytes_eq tests name slot) cats past
works_test tests cats past name slot lt call h = record {
  tests_of = λ k p. (let old = h.tests_of k p in
      elim (word_tells k.0.test.name name) [
        | inl e ↦ (let now = version_put tests name k.0.test.name slot e.1 in
            let before : test_version tests k.0.test.name ≡ test_version tests name = ap (test_version tests) e.1 in
            let below : k.1 < test_version (insert_entry bytes_eq tests name slot) k.0.test.name = omega (arith, now, before, lt, old.0) in
            (omega (arith, below), λ same. absurd (omega (arith, below, same))))
        | inr d ↦ (let now = version_kept tests name k.0.test.name slot d.1 in (omega (arith, now, old.0), λ same. test_kept tests name k.0.test.name slot d.1 ∙ old.1 (same ∙ now)))
      ]);
  named = λ x t e. elim (word_tells x name) [
    | inl q ↦ call t (sym (test_now tests name x slot q.1) ∙ e) ∙ sym q.1
    | inr q ↦ h.named x t (sym (test_kept tests name x slot q.1) ∙ e)
  ];
  files_of = h.files_of;
  closed = h.closed;
  one_test = h.one_test;
  one_model = h.one_model;
}

works_cat : (tests : List (Word × TestSlot)) (cats : List Entry) (past : List Asked) (e : Entry) → version_of e.name cats < e.version → Works tests cats past → Works tests (store e cats) past
works_cat tests cats past e lt h =
    let grown : (x : Word) → version_of x cats ≤ version_of x (store e cats) = λ x. elim (word_tells x e.name) [
      | inl q ↦ (let now : version_of x (store e cats) ≡ e.version = ap (λ y. version_of y (store e cats)) q.1 ∙ version_same cats e in
          let before : version_of x cats ≡ version_of e.name cats = ap (λ y. version_of y cats) q.1 in
          omega (arith, now, before, lt))
      | inr q ↦ (let now = version_other cats e x q.1 in omega (arith, now))
    ] in
    let untouched : (k : Asked) → IsIn k past → IsCurrent (store e cats) k.0.model.files → (f : FileVersion) → IsIn f k.0.model.files → f.name ≢ e.name = λ k p c f q same. (
    let le = h.files_of k p f q in
    let is = c f q in
    let now : version_of f.name (store e cats) ≡ e.version = ap (λ y. version_of y (store e cats)) same ∙ version_same cats e in
    let before : version_of f.name cats ≡ version_of e.name cats = ap (λ y. version_of y cats) same in
    absurd (omega (arith, le, is, now, before, lt))) in
    record {
      tests_of = h.tests_of;
      named = h.named;
      files_of = λ k p f q. (let le = h.files_of k p f q in let up = grown f.name in omega (arith, le, up));
      closed = λ k p c. closure_moved cats e (root_of k.0.model.files) k.0.model.items k.0.model.files
          (h.closed k p (λ f q. c f q ∙ version_other cats e f.name (untouched k p c f q)))
          (untouched k p c);
      one_test = h.one_test;
      one_model = h.one_model;
    }

first_closure : (cats : List Entry) (root : Word) (m : Assembly) → IsClosure cats root m.items m.files → IsClosure cats (root_of m.files) m.items m.files
first_closure cats root m c = let P : Word → Type 0 = λ x. IsClosure cats x m.items m.files in subst P (sym (root_is cats root m.items m.files c)) c

some_same : (t u : Litmus) → Some t ≡ Some u → t ≡ u
some_same t u e = cc

works_asked : (tests : List (Word × TestSlot)) (cats : List Entry) (past : List Asked) (new : Asked) (test cat : Word) → test_of tests test ≡ Some new.0.test → new.1 ≡ test_version tests test → IsModelOf cats cat new.0.model → Works tests cats past → Works tests cats (new ∷ past)
works_asked tests cats past new test cat found version model h =
    let name : new.0.test.name ≡ test = h.named test new.0.test found in
    let now : new.1 ≡ test_version tests new.0.test.name = version ∙ ap (test_version tests) (sym name) in
    let there : test_of tests new.0.test.name ≡ Some new.0.test = ap (test_of tests) name ∙ found in
    let is_current : IsCurrent cats new.0.model.files = current cats cat new.0.model.items new.0.model.files model.closure in
    let same_test : (l : Asked) → IsIn l past → new.0.test.name ≡ l.0.test.name → new.1 ≡ l.1 → new.0.test ≡ l.0.test = λ l p n v. (
    let old = (h.tests_of l p).1 (sym v ∙ now ∙ ap (test_version tests) n) in
    let both : Some new.0.test ≡ Some l.0.test = sym there ∙ ap (test_of tests) n ∙ old in
    some_same new.0.test l.0.test both) in
    let same_model : (l : Asked) → IsIn l past → new.0.model.files ≡ l.0.model.files → new.0.model.items ≡ l.0.model.items = λ l p e. (
    let P : List FileVersion → Type 0 = λ fs. IsCurrent cats fs in
    let R : Word → Type 0 = λ x. IsClosure cats x l.0.model.items l.0.model.files in
    let old = subst R (sym (ap root_of e)) (h.closed l p (subst P e is_current)) in
    (closure_one cats (root_of new.0.model.files) new.0.model.items l.0.model.items new.0.model.files l.0.model.files (first_closure cats cat new.0.model model.closure) old).0) in
    record {
      tests_of = λ k p. elim p [
        | inl e ↦ (let P : Asked → Type 0 = λ z. (z.1 ≤ test_version tests z.0.test.name) × (z.1 ≡ test_version tests z.0.test.name → test_of tests z.0.test.name ≡ Some z.0.test) in
            subst P (sym e) (omega (arith, now), λ same. there))
        | inr q ↦ h.tests_of k q
      ];
      named = h.named;
      files_of = λ k p. elim p [
        | inl e ↦ (let P : Asked → Type 0 = λ z. (f : FileVersion) → IsIn f z.0.model.files → f.version ≤ version_of f.name cats in
            subst P (sym e) (λ f q. (let is = is_current f q in omega (arith, is))))
        | inr q ↦ h.files_of k q
      ];
      closed = λ k p. elim p [
        | inl e ↦ (let P : Asked → Type 0 = λ z. IsCurrent cats z.0.model.files → IsClosure cats (root_of z.0.model.files) z.0.model.items z.0.model.files in
            subst P (sym e) (λ c. first_closure cats cat new.0.model model.closure))
        | inr q ↦ h.closed k q
      ];
      one_test = λ k l p q. elim p [
        | inl e ↦ (let P : Asked → Type 0 = λ z. z.0.test.name ≡ l.0.test.name → z.1 ≡ l.1 → z.0.test ≡ l.0.test in
            subst P (sym e) (elim q [
              | inl f ↦ (let Q : Asked → Type 0 = λ z. new.0.test.name ≡ z.0.test.name → new.1 ≡ z.1 → new.0.test ≡ z.0.test in subst Q (sym f) (λ n v. refl))
              | inr r ↦ same_test l r
            ]))
        | inr p' ↦ elim q [
          | inl f ↦ (let Q : Asked → Type 0 = λ z. k.0.test.name ≡ z.0.test.name → k.1 ≡ z.1 → k.0.test ≡ z.0.test in subst Q (sym f) (λ n v. sym (same_test k p' (sym n) (sym v))))
          | inr r ↦ h.one_test k l p' r
        ]
      ];
      one_model = λ k l p q. elim p [
        | inl e ↦ (let P : Asked → Type 0 = λ z. z.0.model.files ≡ l.0.model.files → z.0.model.items ≡ l.0.model.items in
            subst P (sym e) (elim q [
              | inl f ↦ (let Q : Asked → Type 0 = λ z. new.0.model.files ≡ z.0.model.files → new.0.model.items ≡ z.0.model.items in subst Q (sym f) (λ n. refl))
              | inr r ↦ same_model l r
            ]))
        | inr p' ↦ elim q [
          | inl f ↦ (let Q : Asked → Type 0 = λ z. k.0.model.files ≡ z.0.model.files → k.0.model.items ≡ z.0.model.items in subst Q (sym f) (λ n. sym (same_model k p' (sym n))))
          | inr r ↦ h.one_model k l p' r
        ]
      ];
    }

-- the jobs that come and stay

record Next (s s' : Workbench) (past past' : List Asked) : Type 0 where
  later : s.last_job ≤ s'.last_job
  each : (j : jobs.Job) → IsIn j s'.jobs → Was s j ⊎ ((j.number ≡ s.last_job + 1) × (s'.last_job ≡ s.last_job + 1) × (s'.jobs ≡ s.jobs ++ j ∷ []))
  known : (j : jobs.Job) → IsIn j s'.jobs → IsIn (j.work, j.version) past'
  grows : (k : Asked) → IsIn k past → IsIn k past'
  works : Works s'.tests s'.cats past'

abbrev Known : Workbench → List Asked → Type 0
Known s past = (j : jobs.Job) → IsIn j s.jobs → IsIn (j.work, j.version) past

known_was : (s : Workbench) (past : List Asked) (j : jobs.Job) → Known s past → Was s j → IsIn (j.work, j.version) past
known_was s past j known w =
    let P : Asked → Type 0 = λ k. IsIn k past in
    let same : (w.0.work, w.0.version) ≡ (j.work, j.version) = ap (λ x. (x, w.0.version)) w.4 ∙ ap (λ n. (j.work, n)) w.3 in
    subst P same (known w.0 w.1)

works_same : (s s' : Workbench) (past : List Asked) → s'.tests ≡ s.tests → s'.cats ≡ s.cats → Works s.tests s.cats past → Works s'.tests s'.cats past
works_same s s' past t c h =
    let P : List (Word × TestSlot) → Type 0 = λ ts. Works ts s'.cats past in
    let Q : List Entry → Type 0 = λ cs. Works s.tests cs past in
    subst P (sym t) (subst Q (sym c) h)

jobs_same : (s s' : Workbench) → s'.jobs ≡ s.jobs → (j : jobs.Job) → IsIn j s'.jobs → Was s j
jobs_same s s' e j p = let P : List jobs.Job → Type 0 = λ l. IsIn j l in was s j (subst P e p)

old_next : (s s' : Workbench) (past : List Asked) → s'.last_job ≡ s.last_job → ((j : jobs.Job) → IsIn j s'.jobs → Was s j) → Known s past → Works s'.tests s'.cats past → Next s s' past past
old_next s s' past last old known works = record {
  later = omega (arith, last);
  each = λ j p. inl (old j p);
  known = λ j p. known_was s past j known (old j p);
  grows = λ k p. p;
  works = works;
}

next : (s s' : Workbench) (past : List Asked) → Moves s s' → Known s past → Works s.tests s.cats past → (past' : List Asked) × Next s s' past past'
next s s' past (quiet old once last t c) known works = (past, old_next s s' past last old known (works_same s s' past t c works))
next s s' past (asked new test cat number found version model js last t c) known works = (
  (new.work, new.version) ∷ past,
  record {
    later = omega (arith, last);
    each = λ j p. (let P : List jobs.Job → Type 0 = λ l. IsIn j l in
        elim (in_append s.jobs (new ∷ []) j (subst P js p)) [
          | inl a ↦ inl (was s j a)
          | inr b ↦ elim b [ inl e ↦ (let Q : jobs.Job → Type 0 = λ z. (z.number ≡ s.last_job + 1) × (s'.last_job ≡ s.last_job + 1) × (s'.jobs ≡ s.jobs ++ z ∷ []) in inr (subst Q (sym e) (number, last, js))) | inr out ↦ absurd out ]
        ]);
    known = λ j p. (let P : List jobs.Job → Type 0 = λ l. IsIn j l in
        elim (in_append s.jobs (new ∷ []) j (subst P js p)) [
          | inl a ↦ inr (known j a)
          | inr b ↦ elim b [ inl e ↦ inl (ap (λ (z : jobs.Job). (z.work, z.version)) e) | inr out ↦ absurd out ]
        ]);
    grows = λ k p. inr p;
    works = works_same s s' ((new.work, new.version) ∷ past) t c (works_asked s.tests s.cats past (new.work, new.version) test cat found version model works);
  },
)
next s s' past (test_put name slot lt call js last t c) known works = (
  past,
  old_next s s' past last (jobs_same s s' js) known (
      let P : List (Word × TestSlot) → Type 0 = λ ts. Works ts s'.cats past in
      let Q : List Entry → Type 0 = λ cs. Works (insert_entry bytes_eq s.tests name slot) cs past in
      subst P (sym t) (subst Q (sym c) (works_test s.tests s.cats past name slot lt call works))),
)
next s s' past (cat_put e lt js last t c) known works = (
  past,
  old_next s s' past last (jobs_same s s' js) known (
      let P : List (Word × TestSlot) → Type 0 = λ ts. Works ts s'.cats past in
      let Q : List Entry → Type 0 = λ cs. Works s.tests cs past in
      subst P (sym t) (subst Q (sym c) (works_cat s.tests s.cats past e lt works))),
)

-- the verdicts

record Past (s : Workbench) (es : List Line) (past : List Asked) : Type 0 where
  numbers : (j : jobs.Job) → IsIn j s.jobs → j.number ≤ s.last_job
  one_job : (i j : jobs.Job) → IsIn i s.jobs → IsIn j s.jobs → i.number ≡ j.number → (i.work ≡ j.work) × (i.version ≡ j.version)
  known : Known s past
  ids : (id : ℕ) (v : VerdictValue) → Replied id v es → id ≤ s.last_job
  of_job : (id : ℕ) (v : VerdictValue) → Replied id v es → (j : jobs.Job) → IsIn j s.jobs → j.number ≡ id → (v.work ≡ j.work) × (v.version ≡ j.version)
  one : (id : ℕ) (v w : VerdictValue) → Replied id v es → Replied id w es → v ≡ w
  right : (id : ℕ) (v : VerdictValue) → Replied id v es → IsVerdict v.work.test v.work.model.items v.finding
  verdicts : (id : ℕ) (v : VerdictValue) → Replied id v es → IsIn (v.work, v.version) past
  works : Works s.tests s.cats past

abbrev judged : WorkValue → ℕ → FindingValue → VerdictValue
judged work version finding = record { work = work; version = version; finding = finding }

same_judged : (v w : VerdictValue) → v.work ≡ w.work → v.version ≡ w.version → IsVerdict v.work.test v.work.model.items v.finding → IsVerdict w.work.test w.work.model.items w.finding → v ≡ w
same_judged v w work version p q =
    let P : WorkValue → Type 0 = λ t. IsVerdict t.test t.model.items v.finding in
    let finding : v.finding ≡ w.finding = one_verdict w.work.test w.work.model.items v.finding w.finding (subst P work p) q in
    ap (λ t. judged t v.version v.finding) work ∙ ap (λ n. judged w.work n v.finding) version ∙ ap (judged w.work w.version) finding

-- what a reply of a verdict tells
record Polled (s s' : Workbench) (id : ℕ) (v : VerdictValue) : Type 0 where
  job : jobs.Job
  found : job_of s.jobs id ≡ Some job
  work : v.work ≡ job.work
  version : v.version ≡ job.version
  right : IsVerdict v.work.test v.work.model.items v.finding

polled_by : (s s' : Workbench) (id : ℕ) (v : VerdictValue) (o : Option jobs.Job) → job_of s.jobs id ≡ o → Polls s id o (Verdict v) s' → Polled s s' id v
polled_by s s' id v None e h = absurd h
polled_by s s' id v (Some job) e h = record { job = job; found = e; work = h.1; version = h.2; right = h.3 }

not_closed : (v : VerdictValue) → Verdict v ≡ Refused Closed → ⊥
not_closed v e = cc

polled_step : (s s' : Workbench) (seat id : ℕ) (v : VerdictValue) → Step s seat (Poll id) (Verdict v) s' → Polled s s' id v
polled_step s s' seat id v (inl h) = absurd (not_closed v h.1)
polled_step s s' seat id v (inr h) = polled_by s s' id v (job_of s.jobs id) refl h.1

polled : (s s' : Workbench) (e : Line) (id : ℕ) (v : VerdictValue) → Step s e.seat e.said e.reply s' → e.said ≡ Poll id → e.reply ≡ Verdict v → Polled s s' id v
polled s s' e id v h a b =
    let P : Said → Type 0 = λ o. Step s e.seat o e.reply s' in
    let Q : Reply → Type 0 = λ x. Step s e.seat (Poll id) x s' in
    polled_step s s' e.seat id v (subst Q b (subst P a h))

replied_push : (es : List Line) (e : Line) (id : ℕ) (v : VerdictValue) → Replied id v (es ++ e ∷ []) → Replied id v es ⊎ ((e.said ≡ Poll id) × (e.reply ≡ Verdict v))
replied_push es e id v r = elim (in_append es (e ∷ []) r.0 r.1) [
  | inl a ↦ inl (r.0, a, r.2, r.3)
  | inr b ↦ elim b [
    | inl k ↦ (let P : Line → Type 0 = λ x. (x.said ≡ Poll id) × (x.reply ≡ Verdict v) in inr (subst P k (r.2, r.3)))
    | inr out ↦ absurd out
  ]
]

last_same : (xs : List jobs.Job) (j k : jobs.Job) → xs ++ j ∷ [] ≡ xs ++ k ∷ [] → j ≡ k
last_same [] j k e = cc
last_same (x ∷ xs) j k e = last_same xs j k (let f : xs ++ j ∷ [] ≡ xs ++ k ∷ [] = cc in f)

past_step : (s s' : Workbench) (es : List Line) (e : Line) (past : List Asked) → Step s e.seat e.said e.reply s' → Past s es past → (past' : List Asked) × Past s' (es ++ e ∷ []) past'
past_step s s' es e past step h =
    let n = next s s' past (step_moves s e.seat e.said e.reply s' step) h.known h.works in
    let m = n.1 in
    let tell : (id : ℕ) (v : VerdictValue) → (e.said ≡ Poll id) × (e.reply ≡ Verdict v) → Polled s s' id v = λ id v r. polled s s' e id v step r.0 r.1 in
    let ids : (id : ℕ) (v : VerdictValue) → Replied id v (es ++ e ∷ []) → id ≤ s.last_job = λ id v r. elim (replied_push es e id v r) [
      | inl a ↦ h.ids id v a
      | inr b ↦ (let q = tell id v b in
          let f = job_number s.jobs id q.job q.found in
          let le = h.numbers q.job f.0 in
          omega (arith, le, f.1))
    ] in
    let of_old : (id : ℕ) (v : VerdictValue) → Replied id v (es ++ e ∷ []) → (i : jobs.Job) → IsIn i s.jobs → i.number ≡ id → (v.work ≡ i.work) × (v.version ≡ i.version) = λ id v r i p k. elim (replied_push es e id v r) [
      | inl a ↦ h.of_job id v a i p k
      | inr b ↦ (let q = tell id v b in
          let f = job_number s.jobs id q.job q.found in
          let o = h.one_job q.job i f.0 p (f.1 ∙ sym k) in
          (q.work ∙ o.0, q.version ∙ o.1))
    ] in
    let right : (id : ℕ) (v : VerdictValue) → Replied id v (es ++ e ∷ []) → IsVerdict v.work.test v.work.model.items v.finding = λ id v r. elim (replied_push es e id v r) [
      | inl a ↦ h.right id v a
      | inr b ↦ (tell id v b).right
    ] in (
      n.0,
      record {
        numbers = λ j p. elim (m.each j p) [
          | inl w ↦ (let le = h.numbers w.0 w.1 in omega (arith, le, w.2, m.later))
          | inr x ↦ omega (arith, x.0, x.1)
        ];
        one_job = λ i j p q k. elim (m.each i p) [
          | inl v ↦ elim (m.each j q) [
            | inl w ↦ (let o = h.one_job v.0 w.0 v.1 w.1 (v.2 ∙ k ∙ sym w.2) in (sym v.4 ∙ o.0 ∙ w.4, sym v.3 ∙ o.1 ∙ w.3))
            | inr y ↦ (let le = h.numbers v.0 v.1 in absurd (omega (arith, le, v.2, k, y.0)))
          ]
          | inr x ↦ elim (m.each j q) [
            | inl w ↦ (let le = h.numbers w.0 w.1 in absurd (omega (arith, le, w.2, k, x.0)))
            | inr y ↦ (let same = last_same s.jobs i j (sym x.2 ∙ y.2) in (ap (λ (z : jobs.Job). z.work) same, ap (λ (z : jobs.Job). z.version) same))
          ]
        ];
        known = m.known;
        ids = λ id v r. (let le = ids id v r in let up = m.later in omega (arith, le, up));
        of_job = λ id v r j p k. elim (m.each j p) [
          | inl w ↦ (let o = of_old id v r w.0 w.1 (w.2 ∙ k) in (o.0 ∙ w.4, o.1 ∙ w.3))
          | inr x ↦ (let le = ids id v r in absurd (omega (arith, le, x.0, k)))
        ];
        one = λ id v w a b. elim (replied_push es e id v a) [
          | inl a' ↦ elim (replied_push es e id w b) [
            | inl b' ↦ h.one id v w a' b'
            | inr b' ↦ (let q = tell id w b' in
                let f = job_number s.jobs id q.job q.found in
                let o = of_old id v a q.job f.0 f.1 in
                same_judged v w (o.0 ∙ sym q.work) (o.1 ∙ sym q.version) (right id v a) (right id w b))
          ]
          | inr a' ↦ (let q = tell id v a' in
              let f = job_number s.jobs id q.job q.found in
              let o = of_old id w b q.job f.0 f.1 in
              same_judged v w (q.work ∙ sym o.0) (q.version ∙ sym o.1) (right id v a) (right id w b))
        ];
        right = right;
        verdicts = λ id v r. elim (replied_push es e id v r) [
          | inl a ↦ m.grows (v.work, v.version) (h.verdicts id v a)
          | inr b ↦ (let q = tell id v b in
              let f = job_number s.jobs id q.job q.found in
              let P : Asked → Type 0 = λ k. IsIn k past in
              let same : (v.work, v.version) ≡ (q.job.work, q.job.version) = ap (λ x. (x, v.version)) q.work ∙ ap (λ k. (q.job.work, k)) q.version in
              m.grows (v.work, v.version) (subst P (sym same) (h.known q.job f.0)))
        ];
        works = m.works;
      },
    )

append_one : (es : List Line) (e : Line) (fs : List Line) → (es ++ e ∷ []) ++ fs ≡ es ++ e ∷ fs
append_one [] e fs = refl
append_one (x ∷ es) e fs = ap (λ l. x ∷ l) (append_one es e fs)

past_all : (place : ℕ) (s s' : Workbench) (es fs : List Line) (past : List Asked) → LeadsFrom place s fs s' → Past s es past → (past' : List Asked) × Past s' (es ++ fs) past'
past_all place s s' es [] past leads h =
    let P : Workbench → Type 0 = λ v. Past v (es ++ []) past in
    let Q : List Line → Type 0 = λ l. Past s l past in
    (past, subst P (sym leads) (subst Q (sym (append-nil es)) h))
past_all place s s' es (f ∷ fs) past leads h =
    let first = past_step s leads.1.0 es f past leads.1.1 h in
    let rest = past_all (place + 1) leads.1.0 s' (es ++ f ∷ []) fs first.0 leads.1.2 first.1 in
    let P : List Line → Type 0 = λ l. Past s' l rest.0 in
    (rest.0, subst P (append_one es f fs) rest.1)

no_past : (limits : Limits) → Past (empty limits) [] []
no_past limits = record {
  numbers = λ j p. absurd p;
  one_job = λ i j p. absurd p;
  known = λ j p. absurd p;
  ids = λ id v r. absurd r.1;
  of_job = λ id v r. absurd r.1;
  one = λ id v w r. absurd r.1;
  right = λ id v r. absurd r.1;
  verdicts = λ id v r. absurd r.1;
  works = no_works;
}

pub verdicts_stay : VerdictsStay
verdicts_stay limits journal legal id v w a b = let h = past_all 0 (empty limits) legal.0 [] journal [] legal.1 (no_past limits) in h.1.one id v w a b

same_work : (v w : WorkValue) → v.test ≡ w.test → v.model.items ≡ w.model.items → v.model.files ≡ w.model.files → v ≡ w
same_work v w t i f =
    let made : Litmus → List Clause → List FileVersion → WorkValue = λ x is fs. record { test = x; model = record { items = is; files = fs } } in
    ap (λ x. made x v.model.items v.model.files) t ∙ ap (λ is. made w.test is v.model.files) i ∙ ap (λ fs. made w.test w.model.items fs) f

pub versions_tell : VersionsTell
versions_tell limits journal legal i j v w a b name version files =
    let h = (past_all 0 (empty limits) legal.0 [] journal [] legal.1 (no_past limits)).1 in
    let p = h.verdicts i v a in
    let q = h.verdicts j w b in
    let test = h.works.one_test (v.work, v.version) (w.work, w.version) p q name version in
    let items = h.works.one_model (v.work, v.version) (w.work, w.version) p q files in
    same_judged v w (same_work v.work w.work test items files) version (h.right i v a) (h.right j w b)
