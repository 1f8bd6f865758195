-- What holds of jobs, claims and results, and what keeps it.
use Rattle.std.proofs.Common.{◌≡◌, ◌≢◌, ℕ, zero, suc, ◌+◌, ◌≤◌, ◌⊎◌, List, [], ◌∷◌, ◌++◌, map, filter, Bool, true, false, not, Option, Some, refl, sym, ap, ◌∙◌, subst, inl, inr, arith}
use Rattle.std.specs.Prelude.{slice_get, ◌&&◌, ◌==◌}
use Rattle.std.specs.List.{list_all}
use Rattle.std.proofs.lemmas.Bool.Decides.{eqb_tells}
use Rattle.listings.specs.Lists.{IsIn, NoRepeats, Lists}
use Rattle.listings.proofs.Listings.{in_append, in_map, map_in}
use Rattle.slices.specs.Parts.{PieceResultValue, IsPart, test_size}
use Rattle.slices.specs.Works.{WorkValue}
use Rattle.book.specs.Cuts.{IsCover}
use Rattle.book.specs.Jobs.{Job, mark, marked}
use Rattle.book.specs.Step.{HasRange, IsCut, is_of, others}
use Rattle.book.specs.Workbench.{Workbench, job_of, claim_of, is_claim, is_claimed, is_free, is_replaced, marked_in}
use Rattle.book.specs.declared.live.Live.{Live}
use Rattle.book.specs.declared.slice.Slice.{Slice}
use Rattle.book.proofs.Counts.{all_get, and_left, and_right}
use Rattle.book.proofs.Results.{mark_this, mark_other, mark_cover}
use Rattle.world.proofs.Found.{find_is}
use Rattle.world.specs.World.{Result, IsSlot, IsRight, IsRightFor, slot}
use Rattle.world.proofs.ByNumber.{number, is_equal, unequal, job_number, job_there, job_pushed, job_new, is_other, not_false, filter_in, in_filter, once_filter, job_filtered, job_gone, marked_other, marked_this, marked_numbers, none_is}
use Rattle.slices.proofs.Members.{lists_same}

-- the slice that a claim holds
abbrev pub place : Live → ℕ × ℕ
place c = (c.job, c.slice)

pub record Holds (js : List Job) (live : List Live) (last : ℕ) (rs : List Result) : Type 0 where
  pub numbers : (n : ℕ) → IsIn n (map number js) → n ≤ last
  pub distinct : NoRepeats (map number js)
  pub covers : (n : ℕ) (job : Job) → job_of js n ≡ Some job → IsCover (test_size job.work.test) job.slices
  pub claims : (c : Live) → IsIn c live → IsSlot js false (place c)
  pub apart : NoRepeats (map place live)
  pub exact : Lists (IsSlot js true) (map slot rs)
  pub right : (r : Result) → IsIn r rs → IsRightFor js r

pub nothing_holds : Holds [] [] 0 []
nothing_holds = record {
  numbers = λ n p. absurd p;
  distinct = tt;
  covers = λ n job e. cc;
  claims = λ c p. absurd p;
  apart = tt;
  exact = record { once = tt; only = λ x p. absurd p; all = λ x h. (let e = h.1 in cc) };
  right = λ r p. absurd p;
}

-- a claim on another job
abbrev pub is_elsewhere : ℕ → Live → Bool
is_elsewhere id c = not (is_of id c)

-- lists

pub once_push : (live : List Live) (c : Live) → NoRepeats (map place live) → ¬ IsIn (place c) (map place live) → NoRepeats (map place (live ++ c ∷ []))
once_push [] c once out = ((λ p. p), tt)
once_push (l ∷ ls) c once out = (
  λ h. (let r = in_map place (ls ++ c ∷ []) (place l) h in
      let P : ℕ × ℕ → Type 0 = λ k. IsIn k (map place ls) in
      elim (in_append ls (c ∷ []) r.0 r.1) [
        | inl a ↦ once.0 (subst P r.2 (map_in place ls r.0 a))
        | inr b ↦ elim b [ inl e ↦ out (inl (ap place (sym e) ∙ r.2)) | inr n ↦ absurd n ]
      ]),
  once_push ls c once.1 (λ p. out (inr p)),
)

numbers_pushed : (js : List Job) (new : Job) (n last : ℕ) → ((m : ℕ) → IsIn m (map number js) → m ≤ last) → new.number ≡ last + 1 → IsIn n (map number (js ++ new ∷ [])) → n ≤ last + 1
numbers_pushed js new n last h e p =
    let r = in_map number (js ++ new ∷ []) n p in
    elim (in_append js (new ∷ []) r.0 r.1) [
      | inl a ↦ (let le = h r.0.number (map_in number js r.0 a) in omega (arith, le, r.2))
      | inr b ↦ elim b [ inl k ↦ (let same : r.0.number ≡ new.number = ap number k in omega (arith, same, e, r.2)) | inr out ↦ absurd out ]
    ]

pub distinct_pushed : (js : List Job) (new : Job) → NoRepeats (map number js) → ¬ IsIn new.number (map number js) → NoRepeats (map number (js ++ new ∷ []))
distinct_pushed [] new once out = ((λ p. p), tt)
distinct_pushed (j ∷ js) new once out = (
  λ h. (let r = in_map number (js ++ new ∷ []) j.number h in
      let P : ℕ → Type 0 = λ k. IsIn k (map number js) in
      elim (in_append js (new ∷ []) r.0 r.1) [
        | inl a ↦ once.0 (subst P r.2 (map_in number js r.0 a))
        | inr b ↦ elim b [ inl e ↦ out (inl (ap number (sym e) ∙ r.2)) | inr n ↦ absurd n ]
      ]),
  distinct_pushed js new once.1 (λ p. out (inr p)),
)

is_this : (a b : ℕ) (k : ℕ × ℕ) → ((a, b) ≡ k) ⊎ ((a, b) ≢ k)
is_this a b k = elim (eqb_tells a k.0) [
  | inl p ↦ elim (eqb_tells b k.1) [
    | inl q ↦ inl (ap (λ m. (m, b)) p.1 ∙ ap (λ m. (k.0, m)) q.1)
    | inr q ↦ inr (λ e. q.1 (ap (λ z. z.1) e))
  ]
  | inr p ↦ inr (λ e. p.1 (ap (λ z. z.0) e))
]

has_range : (o : Option Slice) (x : Slice) (from to : ℕ) → o ≡ Some x → HasRange o from to → (x.from ≡ from) × (x.to ≡ to)
has_range o x from to e h = let P : Option Slice → Type 0 = λ p. HasRange p from to in subst P e h

to_range : (o : Option Slice) (x : Slice) (from to : ℕ) → o ≡ Some x → (x.from ≡ from) × (x.to ≡ to) → HasRange o from to
to_range o x from to e h = let P : Option Slice → Type 0 = λ p. HasRange p from to in subst P (sym e) h

marked_range : (xs : List Slice) (i : ℕ) (x : Slice) (from to : ℕ) → slice_get xs i ≡ Some x → HasRange (slice_get xs i) from to → HasRange (slice_get (mark i xs) i) from to
marked_range xs i x from to e h = to_range (slice_get (mark i xs) i) (record x { returned = true }) from to (mark_this xs i x e) (has_range (slice_get xs i) x from to e h)

other_range : (xs : List Slice) (i k from to : ℕ) → HasRange (slice_get xs k) from to → HasRange (slice_get (mark i xs) k) from to
other_range [] i k from to h = h
other_range (x ∷ xs) zero zero from to h = h
other_range (x ∷ xs) zero (suc k) from to h = h
other_range (x ∷ xs) (suc i) zero from to h = h
other_range (x ∷ xs) (suc i) (suc k) from to h = other_range xs i k from to h

right_on : (js : List Job) (n i : ℕ) (job : Job) (r : Result) → job_of js n ≡ Some job → job_of (marked_in js n i) n ≡ Some (marked i job) → IsRightFor js r → IsRightFor (marked_in js n i) r
right_on js n i job r found now g = elim (eqb_tells n r.job) [
  | inl p ↦ (let J : Some g.0 ≡ Some job = sym g.1 ∙ ap (job_of js) (sym p.1) ∙ found in
      let e : g.0 ≡ job = cc in
      let P : Job → Type 0 = λ z. (r.part.piece.work ≡ z.work) × HasRange (slice_get z.slices r.part.piece.slice) r.part.piece.from r.part.piece.to × IsPart z.work.test z.work.model.items r.part.piece.from r.part.piece.to r.part.found in
      let q = subst P e (g.2, g.3, g.4) in
      (marked i job, ap (job_of (marked_in js n i)) (sym p.1) ∙ now, q.0, other_range job.slices i r.part.piece.slice r.part.piece.from r.part.piece.to q.1, q.2))
  | inr p ↦ (g.0, marked_other js n i r.job p.1 ∙ g.1, g.2, g.3, g.4)
]

-- claims end

pub ends : (p : Live → Bool) (js : List Job) (live : List Live) (last : ℕ) (rs : List Result) → Holds js live last rs → Holds js (filter p live) last rs
ends p js live last rs h = record {
  numbers = h.numbers;
  distinct = h.distinct;
  covers = h.covers;
  claims = λ c q. h.claims c (filter_in p live c q).0;
  apart = once_filter place p live h.apart;
  exact = h.exact;
  right = h.right;
}

-- a claim is given

no_and : (a b : Bool) → (a && b) ≡ false → a ≡ true → b ≡ true → ⊥
no_and true true h x y = cc
no_and true false h x y = cc
no_and false b h x y = cc

pub unclaimed : (live : List Live) (j i : ℕ) → is_claimed live j i ≡ false → ¬ IsIn (j, i) (map place live)
unclaimed live j i e q =
    let r = in_map place live (j, i) q in
    let no = none_is (λ (c : Live). (c.job == j) && (c.slice == i)) live r.0 e r.1 in
    no_and (r.0.job == j) (r.0.slice == i) no (is_equal r.0.job j (ap (λ p. p.0) r.2)) (is_equal r.0.slice i (ap (λ p. p.1) r.2))

pub gives : (js : List Job) (live : List Live) (last : ℕ) (rs : List Result) (s : Workbench) (c : Live) (job : Job) (x : Slice) → s.jobs ≡ js → s.live ≡ live → IsIn job js → c.job ≡ job.number → slice_get job.slices c.slice ≡ Some x → is_free s job c.slice x ≡ true
    → Holds js live last rs → Holds js (live ++ c ∷ []) last rs
gives js live last rs s c job x ej el p e at free h =
    let both = and_left (not x.returned && not (is_claimed s.live job.number c.slice)) (not (is_replaced s job)) free in
    let fresh = not_false x.returned (and_left (not x.returned) (not (is_claimed s.live job.number c.slice)) both) in
    let C : ℕ → List Live → Type 0 = λ n l. is_claimed l n c.slice ≡ false in
    let open_ : is_claimed live c.job c.slice ≡ false = subst (λ n. C n live) (sym e) (subst (C job.number) el (not_false _ (and_right (not x.returned) _ both))) in
    let there : job_of js c.job ≡ Some job = ap (job_of js) e ∙ job_there js job h.distinct p in
    record {
      numbers = h.numbers;
      distinct = h.distinct;
      covers = h.covers;
      claims = λ d q. elim (in_append live (c ∷ []) d q) [
        | inl a ↦ h.claims d a
        | inr b ↦ elim b [ inl k ↦ (let P : Live → Type 0 = λ l. IsSlot js false (place l) in subst P (sym k) (job, there, (x, at, fresh))) | inr n ↦ absurd n ]
      ];
      apart = once_push live c h.apart (unclaimed live c.job c.slice open_);
      exact = h.exact;
      right = h.right;
    }

-- a job is added

no_fresh : (xs : List Slice) (i : ℕ) (x : Slice) → list_all (λ x. not x.returned) xs ≡ true → slice_get xs i ≡ Some x → x.returned ≡ true → ⊥
no_fresh xs i x all e is = let no = not_false x.returned (all_get (λ (x : Slice). not x.returned) xs i x all e) in cc

pub opens : (js : List Job) (live : List Live) (last : ℕ) (rs : List Result) (new : Job) → new.number ≡ last + 1 → IsCut (test_size new.work.test) new.slices → Holds js live last rs → Holds (js ++ new ∷ []) live (last + 1) rs
opens js live last rs new e cut h =
    let out : ¬ IsIn new.number (map number js) = λ p. (let le = h.numbers new.number p in omega (arith, le, e)) in
    let other : (n : ℕ) (job : Job) → job_of js n ≡ Some job → new.number ≢ n = λ n job q k. (let f = job_number js n job q in
    let P : ℕ → Type 0 = λ m. IsIn m (map number js) in
    out (subst P (f.1 ∙ sym k) (map_in number js job f.0))) in
    let keeps : (n : ℕ) (job : Job) → job_of js n ≡ Some job → job_of (js ++ new ∷ []) n ≡ Some job = λ n job q. job_pushed js new n (other n job q) ∙ q in
    let cases : (n : ℕ) (job : Job) → job_of (js ++ new ∷ []) n ≡ Some job → (job_of js n ≡ Some job) ⊎ (new ≡ job) = λ n job q. elim (eqb_tells new.number n) [
      | inl p ↦ (let found : Some new ≡ Some job = sym (job_new js new out) ∙ ap (job_of (js ++ new ∷ [])) p.1 ∙ q in inr (let k : new ≡ job = cc in k))
      | inr p ↦ inl (sym (job_pushed js new n p.1) ∙ q)
    ] in
    record {
      numbers = λ n p. numbers_pushed js new n last h.numbers e p;
      distinct = distinct_pushed js new h.distinct out;
      covers = λ n job q. elim (cases n job q) [
        | inl k ↦ h.covers n job k
        | inr k ↦ (let P : Job → Type 0 = λ j. IsCover (test_size j.work.test) j.slices in subst P k (record { within = cut.within; once = cut.once }))
      ];
      claims = λ c p. (let r = h.claims c p in (r.0, keeps c.job r.0 r.1, r.2));
      apart = h.apart;
      exact = lists_same
          (λ at p. (p.0, keeps at.0 p.0 p.1, p.2))
          (λ at p. elim (cases at.0 p.0 p.1) [
            | inl k ↦ (p.0, k, p.2)
            | inr k ↦ (let S : Job → Type 0 = λ j. list_all (λ x. not x.returned) j.slices ≡ true in absurd (no_fresh p.0.slices at.1 p.2.0 (subst S k cut.fresh) p.2.1 p.2.2))
          ])
          h.exact;
      right = λ r p. (let f = h.right r p in (f.0, keeps r.job f.0 f.1, f.2, f.3, f.4));
    }

-- a job is taken away

elsewhere : (id : ℕ) (c : Live) → is_elsewhere id c ≡ true → c.job ≢ id
elsewhere id c h e = let no = not_false (c.job == id) h in let yes = is_equal c.job id e in cc

abbrev pub of_other : ℕ → Result → Bool
of_other id r = not (r.job == id)

apart_from : (id : ℕ) (r : Result) → of_other id r ≡ true → r.job ≢ id
apart_from id r h e = let no = not_false (r.job == id) h in let yes = is_equal r.job id e in cc

from_other : (id : ℕ) (r : Result) → r.job ≢ id → of_other id r ≡ true
from_other id r h = ap not (unequal r.job id h)

pub forgets : (id : ℕ) (js : List Job) (live : List Live) (last : ℕ) (rs : List Result) → Holds js live last rs → Holds (filter (is_other id) js) (filter (is_elsewhere id) live) last (filter (of_other id) rs)
forgets id js live last rs h =
    let keeps : (n : ℕ) (job : Job) → n ≢ id → job_of js n ≡ Some job → job_of (filter (is_other id) js) n ≡ Some job = λ n job d q. job_filtered js id n d ∙ q in
    let differs : (n : ℕ) (job : Job) → job_of (filter (is_other id) js) n ≡ Some job → n ≢ id = λ n job q e. (let P : ℕ → Type 0 = λ m. job_of (filter (is_other id) js) m ≡ Some job in job_gone js id job (subst P e q)) in
    let back : (n : ℕ) (job : Job) → job_of (filter (is_other id) js) n ≡ Some job → job_of js n ≡ Some job = λ n job q. sym (job_filtered js id n (differs n job q)) ∙ q in
    record {
      numbers = λ n p. (let r = in_map number (filter (is_other id) js) n p in
          let P : ℕ → Type 0 = λ m. IsIn m (map number js) in
          h.numbers n (subst P r.2 (map_in number js r.0 (filter_in (is_other id) js r.0 r.1).0)));
      distinct = once_filter number (is_other id) js h.distinct;
      covers = λ n job q. h.covers n job (back n job q);
      claims = λ c p. (let f = filter_in (is_elsewhere id) live c p in
          let r = h.claims c f.0 in
          (r.0, keeps c.job r.0 (elsewhere id c f.1) r.1, r.2));
      apart = once_filter place (is_elsewhere id) live h.apart;
      exact = record {
        once = once_filter slot (of_other id) rs h.exact.once;
        only = λ at p. (let r = in_map slot (filter (of_other id) rs) at p in
            let f = filter_in (of_other id) rs r.0 r.1 in
            let P : ℕ × ℕ → Type 0 = λ k. IsIn k (map slot rs) in
            let s = h.exact.only at (subst P r.2 (map_in slot rs r.0 f.0)) in
            (s.0, keeps at.0 s.0 (λ e. apart_from id r.0 f.1 (ap (λ k. k.0) r.2 ∙ e)) s.1, s.2));
        all = λ at p. (let q = in_map slot rs at (h.exact.all at (p.0, back at.0 p.0 p.1, p.2)) in
            let P : ℕ × ℕ → Type 0 = λ k. IsIn k (map slot (filter (of_other id) rs)) in
            subst P q.2 (map_in slot (filter (of_other id) rs) q.0 (in_filter (of_other id) rs q.0 q.1 (from_other id q.0 (λ e. differs at.0 p.0 p.1 (sym (ap (λ k. k.0) q.2) ∙ e))))));
      };
      right = λ r p. (let f = filter_in (of_other id) rs r p in
          let g = h.right r f.0 in
          (g.0, keeps r.job g.0 (apart_from id r f.1) g.1, g.2, g.3, g.4));
    }

-- a result is taken

pub same_place : (live : List Live) (p : Live → Bool) (c d : Live) → NoRepeats (map place live) → IsIn c live → IsIn d live → p c ≡ true → p d ≡ false → place c ≢ place d
same_place [] p c d once pc pd py pn e = absurd pc
same_place (l ∷ ls) p c d once (inl a) (inl b) py pn e = let k : c ≡ d = a ∙ sym b in let same : p c ≡ p d = ap p k in cc
same_place (l ∷ ls) p c d once (inl a) (inr b) py pn e = let P : ℕ × ℕ → Type 0 = λ k. IsIn k (map place ls) in once.0 (subst P (sym e ∙ ap place a) (map_in place ls d b))
same_place (l ∷ ls) p c d once (inr a) (inl b) py pn e = let P : ℕ × ℕ → Type 0 = λ k. IsIn k (map place ls) in once.0 (subst P (e ∙ ap place b) (map_in place ls c a))
same_place (l ∷ ls) p c d once (inr a) (inr b) py pn e = same_place ls p c d once.1 a b py pn e

pub takes : (js : List Job) (live : List Live) (last : ℕ) (rs : List Result) (c : Live) (n seat : ℕ) (job : Job) (part : PieceResultValue) → claim_of live n seat ≡ Some c → job_of js c.job ≡ Some job → part.piece.slice ≡ c.slice → part.piece.work ≡ job.work
    → HasRange (slice_get job.slices part.piece.slice) part.piece.from part.piece.to → IsRight part → Holds js live last rs
    → Holds (marked_in js c.job part.piece.slice) (others n seat live) last (record { job = c.job; part = part } ∷ rs)
unfolding others
takes js live last rs c n seat job part claim found slice work range right h =
    let i = part.piece.slice in
    let js' = marked_in js c.job i in
    let f = find_is (is_claim n seat) live c claim in
    let was = h.claims c f.0 in
    let first : Some was.0 ≡ Some job = sym was.1 ∙ found in
    let same : was.0 ≡ job = cc in
    let S : Job → Type 0 = λ j. slice_get j.slices c.slice ≡ Some was.2.0 in
    let x = was.2.0 in
    let at : slice_get job.slices i ≡ Some x = ap (slice_get job.slices) slice ∙ subst S same was.2.1 in
    let now = marked_this js c.job i job found in
    let after = mark_this job.slices i x at in
    -- any other slice is as it was
    let keeps : (k : ℕ × ℕ) (b : Bool) → (c.job, i) ≢ k → IsSlot js b k → IsSlot js' b k = λ k b d s. elim (eqb_tells c.job k.0) [
      | inl p ↦ (let J : Some s.0 ≡ Some job = sym s.1 ∙ ap (job_of js) (sym p.1) ∙ found in
          let j : s.0 ≡ job = cc in
          let G : Job → Type 0 = λ z. slice_get z.slices k.1 ≡ Some s.2.0 in
          let apart : i ≢ k.1 = λ e. d (ap (λ m. (m, i)) p.1 ∙ ap (λ m. (k.0, m)) e) in
          (marked i job, ap (job_of js') (sym p.1) ∙ now, (s.2.0, mark_other job.slices i k.1 apart ∙ subst G j s.2.1, s.2.2)))
      | inr q ↦ (s.0, marked_other js c.job i k.0 q.1 ∙ s.1, s.2)
    ] in
    let back : (k : ℕ × ℕ) (b : Bool) → (c.job, i) ≢ k → IsSlot js' b k → IsSlot js b k = λ k b d s. elim (eqb_tells c.job k.0) [
      | inl p ↦ (let J : Some s.0 ≡ Some (marked i job) = sym s.1 ∙ ap (job_of js') (sym p.1) ∙ now in
          let j : s.0 ≡ marked i job = cc in
          let G : Job → Type 0 = λ z. slice_get z.slices k.1 ≡ Some s.2.0 in
          let apart : i ≢ k.1 = λ e. d (ap (λ m. (m, i)) p.1 ∙ ap (λ m. (k.0, m)) e) in
          (job, ap (job_of js) (sym p.1) ∙ found, (s.2.0, sym (mark_other job.slices i k.1 apart) ∙ subst G j s.2.1, s.2.2)))
      | inr q ↦ (s.0, sym (marked_other js c.job i k.0 q.1) ∙ s.1, s.2)
    ] in
    let unreturned : ¬ IsSlot js true (c.job, i) = λ s. (let J : Some s.0 ≡ Some job = sym s.1 ∙ found in
    let j : s.0 ≡ job = cc in
    let G : Job → Type 0 = λ z. slice_get z.slices i ≡ Some s.2.0 in
    let X : Some x ≡ Some s.2.0 = sym at ∙ subst G j s.2.1 in
    let z : x ≡ s.2.0 = cc in
    let no : x.returned ≡ false = was.2.2 in
    let R : Slice → Type 0 = λ y. y.returned ≡ false in
    let no' = subst R z no in
    let yes = s.2.2 in
    cc) in
    let fresh : ¬ IsIn (c.job, i) (map slot rs) = λ p. unreturned (h.exact.only (c.job, i) p) in
    record {
      numbers = λ m p. (let P : List ℕ → Type 0 = λ l. IsIn m l in h.numbers m (subst P (marked_numbers js c.job i) p));
      distinct = (let P : List ℕ → Type 0 = λ l. NoRepeats l in subst P (sym (marked_numbers js c.job i)) h.distinct);
      covers = λ m j q. elim (eqb_tells c.job m) [
        | inl p ↦ (let J : Some j ≡ Some (marked i job) = sym q ∙ ap (job_of js') (sym p.1) ∙ now in
            let e : j ≡ marked i job = cc in
            let P : Job → Type 0 = λ z. IsCover (test_size z.work.test) z.slices in
            subst P (sym e) (mark_cover (test_size job.work.test) i job.slices (h.covers c.job job found)))
        | inr p ↦ h.covers m j (sym (marked_other js c.job i m p.1) ∙ q)
      ];
      claims = λ d q. (let g = filter_in (λ l. not (is_claim n seat l)) live d q in
          let apart = same_place live (is_claim n seat) c d h.apart f.0 g.0 f.1 (not_false (is_claim n seat d) g.1) in
          keeps (place d) false (λ e. apart (ap (λ m. (c.job, m)) (sym slice) ∙ e)) (h.claims d g.0));
      apart = once_filter place (λ l. not (is_claim n seat l)) live h.apart;
      exact = record {
        once = (fresh, h.exact.once);
        only = λ k p. elim p [
          | inl e ↦ (let P : ℕ × ℕ → Type 0 = λ z. IsSlot js' true z in subst P (sym e) (marked i job, now, (record x { returned = true }, after, refl)))
          | inr q ↦ keeps k true (λ e. (let P : ℕ × ℕ → Type 0 = λ z. IsIn z (map slot rs) in fresh (subst P (sym e) q))) (h.exact.only k q)
        ];
        all = λ k s. elim (is_this c.job i k) [
          | inl e ↦ inl (sym e)
          | inr d ↦ inr (h.exact.all k (back k true d s))
        ];
      };
      right = λ r p. elim p [
        | inl e ↦ (let P : Result → Type 0 = λ z. IsRightFor js' z in
            subst P (sym e) (marked i job, now, work, marked_range job.slices i x part.piece.from part.piece.to at range, (let T : WorkValue → Type 0 = λ w. IsPart w.test w.model.items part.piece.from part.piece.to part.found in subst T work right)))
        | inr q ↦ right_on js c.job i job r found now (h.right r q)
      ];
    }
