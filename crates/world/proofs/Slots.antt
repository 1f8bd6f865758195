-- A slice of a job is taken once.
use Rattle.std.proofs.Common.{◌≡◌, ◌≢◌, ℕ, zero, suc, ◌+◌, ◌≤◌, ◌⊎◌, List, [], ◌∷◌, ◌++◌, map, Bool, true, false, not, Option, Some, None, refl, sym, ap, ◌∙◌, subst, inl, inr, arith}
use Rattle.std.specs.Prelude.{slice_get, ◌&&◌, ◌==◌, if◌then◌else◌}
use Rattle.std.proofs.lemmas.Bool.Decides.{eqb_tells}
use Rattle.listings.specs.Lists.{IsIn, NoRepeats}
use Rattle.listings.proofs.Listings.{in_append, in_map, map_in}
use Rattle.book.specs.Jobs.{Job, mark, marked}
use Rattle.book.specs.Step.{ReturnsTo, Returns, others, Step, LeadsFrom, taken}
use Rattle.book.specs.Workbench.{Workbench, empty, job_of, claim_of, is_claim, is_claimed, is_replaced, marked_in}
use Rattle.book.specs.declared.limits.Limits.{Limits}
use Rattle.book.specs.declared.live.Live.{Live}
use Rattle.book.specs.declared.slice.Slice.{Slice}
use Rattle.book.proofs.Counts.{and_left, and_right}
use Rattle.journal.specs.Lines.{Line}
use Rattle.journal.specs.declared.records.Returned.{Returned}
use Rattle.journal.specs.declared.records.Said.{Said}
use Rattle.journal.specs.declared.records.Said.TheVariants.{Return}
use Rattle.journal.specs.declared.records.Refusal.TheVariants.{Closed}
use Rattle.journal.specs.declared.records.Reply.{Reply}
use Rattle.journal.specs.declared.records.Reply.TheVariants.{Taken, Refused}
use Rattle.world.specs.Histories.{Takes, SlicesOnce}
use Rattle.world.proofs.ByNumber.{number, filter_in, once_filter, not_false, job_number}
use Rattle.world.proofs.Found.{find_is}
use Rattle.world.proofs.Holds.{place, once_push, distinct_pushed, unclaimed, same_place}
use Rattle.world.proofs.Lives.{Lives, IsOfFree, same_live, fewer, one_more, step_lives}
use Rattle.world.proofs.Moves.{Was, Moves, quiet, asked, test_put, cat_put, was, step_moves}

-- numbers are given once, and no slice is claimed twice
record Apart (s : Workbench) : Type 0 where
  within : (j : Job) → IsIn j s.jobs → j.number ≤ s.last_job
  numbers : NoRepeats (map number s.jobs)
  places : NoRepeats (map place s.live)

-- the slice will be given no more: it is returned wherever its job still is, and nobody holds it
record Shut (job slice : ℕ) (s : Workbench) : Type 0 where
  given : job ≤ s.last_job
  unheld : (c : Live) → IsIn c s.live → place c ≢ (job, slice)
  returned : (j : Job) → IsIn j s.jobs → j.number ≡ job → (x : Slice) → slice_get j.slices slice ≡ Some x → x.returned ≡ true

-- a step keeps numbers and places apart

not_claimed : (s : Workbench) (c : Live) → IsOfFree s c → is_claimed s.live c.job c.slice ≡ false
not_claimed s c free =
    let job = free.0 in
    let x = free.3.0 in
    let both = and_left (not x.returned && not (is_claimed s.live job.number c.slice)) (not (is_replaced s job)) free.3.2 in
    let C : ℕ → Type 0 = λ n. is_claimed s.live n c.slice ≡ false in
    subst C (sym free.2) (not_false _ (and_right (not x.returned) _ both))

not_returned : (s : Workbench) (c : Live) (free : IsOfFree s c) → free.3.0.returned ≡ false
not_returned s c free =
    let job = free.0 in
    let x = free.3.0 in
    not_false x.returned (and_left (not x.returned) (not (is_claimed s.live job.number c.slice)) (and_left (not x.returned && not (is_claimed s.live job.number c.slice)) (not (is_replaced s job)) free.3.2))

places_kept : (s s' : Workbench) → Lives s s' → NoRepeats (map place s.live) → NoRepeats (map place s'.live)
places_kept s s' (same_live l n) h = let P : List Live → Type 0 = λ v. NoRepeats (map place v) in subst P (sym l) h
places_kept s s' (fewer p l n) h = let P : List Live → Type 0 = λ v. NoRepeats (map place v) in subst P (sym l) (once_filter place p s.live h)
places_kept s s' (one_more c e free l n) h =
    let P : List Live → Type 0 = λ v. NoRepeats (map place v) in subst P (sym l) (once_push s.live c h (unclaimed s.live c.job c.slice (not_claimed s c free)))

in_jobs : (s s' : Workbench) (j : Job) → s'.jobs ≡ s.jobs → IsIn j s'.jobs → IsIn j s.jobs
in_jobs s s' j e p = let P : List Job → Type 0 = λ l. IsIn j l in subst P e p

pushed : (s s' : Workbench) (new j : Job) → s'.jobs ≡ s.jobs ++ new ∷ [] → IsIn j s'.jobs → IsIn j s.jobs ⊎ (j ≡ new)
pushed s s' new j e p =
    let P : List Job → Type 0 = λ l. IsIn j l in
    elim (in_append s.jobs (new ∷ []) j (subst P e p)) [ inl a ↦ inl a | inr b ↦ elim b [ inl k ↦ inr k | inr out ↦ absurd out ] ]

within_kept : (s s' : Workbench) → Moves s s' → ((j : Job) → IsIn j s.jobs → j.number ≤ s.last_job) → (j : Job) → IsIn j s'.jobs → j.number ≤ s'.last_job
within_kept s s' (quiet old once last t c) h j p =
    let w = old j p in
    let le = h w.0 w.1 in
    let e : w.0.number ≡ j.number = w.2 in
    omega (arith, le, e, last)
within_kept s s' (asked new test cat n found version model js last t c) h j p = elim (pushed s s' new j js p) [
  | inl a ↦ (let le = h j a in omega (arith, le, last))
  | inr e ↦ (let k : j.number ≡ new.number = ap number e in omega (arith, k, n, last))
]
within_kept s s' (test_put name slot v named js last t c) h j p = (let le = h j (in_jobs s s' j js p) in omega (arith, le, last))
within_kept s s' (cat_put e v js last t c) h j p = (let le = h j (in_jobs s s' j js p) in omega (arith, le, last))

numbers_kept : (s s' : Workbench) → Moves s s' → Apart s → NoRepeats (map number s'.jobs)
numbers_kept s s' (quiet old once last t c) h = once h.numbers
numbers_kept s s' (asked new test cat n found version model js last t c) h =
    let P : List Job → Type 0 = λ l. NoRepeats (map number l) in
    subst P (sym js) (distinct_pushed s.jobs new h.numbers (λ p. (let r = in_map number s.jobs new.number p in let le = h.within r.0 r.1 in let e : r.0.number ≡ new.number = r.2 in omega (arith, le, e, n))))
numbers_kept s s' (test_put name slot v named js last t c) h = let P : List Job → Type 0 = λ l. NoRepeats (map number l) in subst P (sym js) h.numbers
numbers_kept s s' (cat_put e v js last t c) h = let P : List Job → Type 0 = λ l. NoRepeats (map number l) in subst P (sym js) h.numbers

apart_next : (s s' : Workbench) (seat : ℕ) (said : Said) (reply : Reply) → Step s seat said reply s' → Apart s → Apart s'
apart_next s s' seat said reply step h = record {
  within = within_kept s s' (step_moves s seat said reply s' step) h.within;
  numbers = numbers_kept s s' (step_moves s seat said reply s' step) h;
  places = places_kept s s' (step_lives s seat said reply s' step) h.places;
}

apart_all : (at : ℕ) (s s' : Workbench) (lines : List Line) → LeadsFrom at s lines s' → Apart s → Apart s'
apart_all at s s' [] leads h = subst Apart (sym leads) h
apart_all at s s' (x ∷ xs) leads h = apart_all (at + 1) leads.1.0 s' xs leads.1.2 (apart_next s leads.1.0 x.seat x.said x.reply leads.1.1 h)

apart_empty : (limits : Limits) → Apart (empty limits)
apart_empty limits = record { within = λ j p. absurd p; numbers = tt; places = tt }

-- and what is shut shut

later : (s s' : Workbench) → Moves s s' → s.last_job ≤ s'.last_job
later s s' (quiet old once last t c) = omega (arith, last)
later s s' (asked new test cat n found version model js last t c) = omega (arith, last)
later s s' (test_put name slot v named js last t c) = omega (arith, last)
later s s' (cat_put e v js last t c) = omega (arith, last)

given_again : (job slice : ℕ) (s : Workbench) (c : Live) → IsOfFree s c → Shut job slice s → place c ≢ (job, slice)
given_again job slice s c free h e =
    let x = free.3.0 in
    let G : ℕ → Type 0 = λ k. slice_get free.0.slices k ≡ Some x in
    let yes = h.returned free.0 free.1 (sym free.2 ∙ ap (λ k. k.0) e) x (subst G (ap (λ k. k.1) e) free.3.1) in
    let no = not_returned s c free in
    cc

unheld_kept : (job slice : ℕ) (s s' : Workbench) → Lives s s' → Shut job slice s → (c : Live) → IsIn c s'.live → place c ≢ (job, slice)
unheld_kept job slice s s' (same_live l n) h c p = let P : List Live → Type 0 = λ v. IsIn c v in h.unheld c (subst P l p)
unheld_kept job slice s s' (fewer f l n) h c p = let P : List Live → Type 0 = λ v. IsIn c v in h.unheld c (filter_in f s.live c (subst P l p)).0
unheld_kept job slice s s' (one_more d e free l n) h c p =
    let P : List Live → Type 0 = λ v. IsIn c v in
    elim (in_append s.live (d ∷ []) c (subst P l p)) [
      | inl a ↦ h.unheld c a
      | inr b ↦ elim b [ inl k ↦ (let Q : Live → Type 0 = λ v. place v ≢ (job, slice) in subst Q (sym k) (given_again job slice s d free h)) | inr out ↦ absurd out ]
    ]

returned_kept : (job slice : ℕ) (s s' : Workbench) → Moves s s' → Shut job slice s → (j : Job) → IsIn j s'.jobs → j.number ≡ job → (x : Slice) → slice_get j.slices slice ≡ Some x → x.returned ≡ true
returned_kept job slice s s' (quiet old once last t c) h j p e x at =
    let w = old j p in
    let m = w.5 slice x at in
    m.2 (h.returned w.0 w.1 (w.2 ∙ e) m.0 m.1)
returned_kept job slice s s' (asked new test cat n found version model js last t c) h j p e x at = elim (pushed s s' new j js p) [
  | inl a ↦ h.returned j a e x at
  | inr k ↦ (let le = h.given in let same : j.number ≡ new.number = ap number k in absurd (omega (arith, le, same, n, e)))
]
returned_kept job slice s s' (test_put name slot v named js last t c) h j p e x at = h.returned j (in_jobs s s' j js p) e x at
returned_kept job slice s s' (cat_put f v js last t c) h j p e x at = h.returned j (in_jobs s s' j js p) e x at

shut_next : (job slice : ℕ) (s s' : Workbench) (seat : ℕ) (said : Said) (reply : Reply) → Step s seat said reply s' → Shut job slice s → Shut job slice s'
shut_next job slice s s' seat said reply step h =
    let moves = step_moves s seat said reply s' step in
    record {
      given = (let le = h.given in let more = later s s' moves in omega (arith, le, more));
      unheld = unheld_kept job slice s s' (step_lives s seat said reply s' step) h;
      returned = returned_kept job slice s s' moves h;
    }

shut_all : (job slice at : ℕ) (s s' : Workbench) (lines : List Line) → LeadsFrom at s lines s' → Shut job slice s → Shut job slice s'
shut_all job slice at s s' [] leads h = subst (Shut job slice) (sym leads) h
shut_all job slice at s s' (x ∷ xs) leads h = shut_all job slice (at + 1) leads.1.0 s' xs leads.1.2 (shut_next job slice s leads.1.0 x.seat x.said x.reply leads.1.1 h)

-- a taken result shuts its slice

mark_sets : (xs : List Slice) (i : ℕ) (x : Slice) → slice_get (mark i xs) i ≡ Some x → x.returned ≡ true
mark_sets [] i x e = cc
mark_sets (z ∷ zs) zero x e = let same : record z { returned = true } ≡ x = cc in ap (λ (y : Slice). y.returned) (sym same)
mark_sets (z ∷ zs) (suc i) x e = mark_sets zs i x e

marked_one : (js : List Job) (n i : ℕ) (j : Job) → NoRepeats (map number js) → IsIn j (marked_in js n i) → j.number ≡ n → (k : Job) × (j ≡ marked i k)
marked_one [] n i j once p e = absurd p
marked_one (k ∷ ks) n i j once p e = elim (eqb_tells k.number n) [
  | inl here ↦ (let P : Bool → Type 0 = λ b. IsIn j (if b then marked i k ∷ ks else k ∷ marked_in ks n i) in
      elim (subst P here.0 p) [
        | inl same ↦ (k, same)
        | inr rest ↦ (let Q : ℕ → Type 0 = λ m. IsIn m (map number ks) in absurd (once.0 (subst Q (e ∙ sym here.1) (map_in number ks j rest))))
      ])
  | inr past ↦ (let P : Bool → Type 0 = λ b. IsIn j (if b then marked i k ∷ ks else k ∷ marked_in ks n i) in
      elim (subst P past.0 p) [
        | inl same ↦ absurd (past.1 (ap number (sym same) ∙ e))
        | inr rest ↦ marked_one ks n i j once.1 rest e
      ])
]

-- what a taken return does
record Took (s s' : Workbench) (seat : ℕ) (r : Returned) (c : Live) : Type 0 where
  job : Job
  found : job_of s.jobs c.job ≡ Some job
  slice_is : r.slice ≡ c.slice
  now : s' ≡ taken s r.claim seat c.job r.slice

to_job : (s s' : Workbench) (seat d n : ℕ) (r : Returned) (c : Live) (o : Option Job) → job_of s.jobs c.job ≡ o → ReturnsTo s seat r c o (Taken d n) s' → Took s s' seat r c
to_job s s' seat d n r c None ej h = absurd h
to_job s s' seat d n r c (Some job) ej h = record { job = job; found = ej; slice_is = h.1.0; now = h.2 }

not_closed : (d n : ℕ) → Taken d n ≡ Refused Closed → ⊥
not_closed d n e = cc

took : (s s' : Workbench) (seat d n : ℕ) (r : Returned) (c : Live) → claim_of s.live r.claim seat ≡ Some c → Step s seat (Return r) (Taken d n) s' → Took s s' seat r c
took s s' seat d n r c ec (inl h) = absurd (not_closed d n h.1)
took s s' seat d n r c ec (inr h) = (let P : Option Live → Type 0 = λ o. Returns s seat r o (Taken d n) s' in to_job s s' seat d n r c (job_of s.jobs c.job) refl (subst P ec h.1))

took_by : (s s' : Workbench) (e : Line) (d n : ℕ) (r : Returned) (c : Live) → e.said ≡ Return r → e.reply ≡ Taken d n → claim_of s.live r.claim e.seat ≡ Some c → Step s e.seat e.said e.reply s' → Took s s' e.seat r c
took_by s s' e d n r c a b ec h =
    let P : Said → Type 0 = λ x. Step s e.seat x e.reply s' in
    let Q : Reply → Type 0 = λ x. Step s e.seat (Return r) x s' in
    took s s' e.seat d n r c ec (subst Q b (subst P a h))

shuts : (s s' : Workbench) (seat : ℕ) (r : Returned) (c : Live) → claim_of s.live r.claim seat ≡ Some c → Took s s' seat r c → Apart s → Shut c.job c.slice s'
unfolding others
shuts s s' seat r c ec t h =
    let f = find_is (is_claim r.claim seat) s.live c ec in
    let j = job_number s.jobs c.job t.job t.found in
    let now : Shut c.job c.slice (taken s r.claim seat c.job r.slice) = record {
      given = (let le = h.within t.job j.0 in let e : t.job.number ≡ c.job = j.1 in omega (arith, le, e));
      unheld = λ d p. (let g = filter_in (λ x. not (is_claim r.claim seat x)) s.live d p in
          λ e. same_place s.live (is_claim r.claim seat) c d h.places f.0 g.0 f.1 (not_false (is_claim r.claim seat d) g.1) (sym e));
      returned = λ k p e x at. (let m = marked_one s.jobs c.job r.slice k h.numbers p e in
          let A : Job → Type 0 = λ z. slice_get z.slices c.slice ≡ Some x in
          let B : ℕ → Type 0 = λ i. slice_get (mark r.slice m.0.slices) i ≡ Some x in
          mark_sets m.0.slices r.slice x (subst B (sym t.slice_is) (subst A m.1 at)));
    } in
    subst (Shut c.job c.slice) (sym t.now) now

pub slices_once : SlicesOnce
slices_once limits before mid after e f s t u job slice start first second x y =
    let apart = apart_all 0 (empty limits) s before start (apart_empty limits) in
    let c = x.5.0 in
    let took_first = took_by s first.1.0 e x.1 x.2 x.0 c x.3 x.4 x.5.1 first.1.1 in
    let shut = shuts s first.1.0 e.seat x.0 c x.5.1 took_first apart in
    let shut_later = shut_all c.job c.slice _ first.1.0 t mid first.1.2 shut in
    let d = y.5.0 in
    let g = find_is (is_claim y.0.claim f.seat) t.live d y.5.1 in
    shut_later.unheld d g.0 (ap (λ k. (k, d.slice)) (y.5.2 ∙ sym x.5.2) ∙ ap (λ k. (c.job, k)) (y.5.3 ∙ sym x.5.3))
