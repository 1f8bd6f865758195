-- A claim is spent once.
use Rattle.std.proofs.Common.{◌≡◌, ℕ, ◌+◌, ◌≤◌, ◌⊎◌, List, [], ◌∷◌, ◌++◌, map, filter, Bool, true, not, Option, Some, None, refl, sym, ap, ◌∙◌, subst, inl, inr, arith, append-nil}
use Rattle.std.specs.Prelude.{◌==◌}
use Rattle.listings.specs.Lists.{IsIn, NoRepeats}
use Rattle.listings.proofs.Listings.{in_append, in_map, map_in, once_append}
use Rattle.book.specs.Jobs as jobs
use Rattle.book.specs.Step.{ReturnsTo, Returns, others, Step, LeadsFrom}
use Rattle.book.specs.Workbench.{Workbench, empty, job_of, claim_of, is_claim}
use Rattle.book.specs.declared.live.Live.{Live}
use Rattle.book.proofs.Counts.{and_left}
use Rattle.world.proofs.Found.{find_is}
use Rattle.journal.specs.Lines.{Line}
use Rattle.journal.specs.declared.records.Returned.{Returned}
use Rattle.journal.specs.declared.records.Said.{Said}
use Rattle.journal.specs.declared.records.Said.TheVariants.{Return}
use Rattle.journal.specs.declared.records.Reply.{Reply}
use Rattle.journal.specs.declared.records.Refusal.TheVariants.{Closed}
use Rattle.journal.specs.declared.records.Reply.TheVariants.{Taken, Refused}
use Rattle.world.specs.Histories.{claim_taken, claims_taken, TakenOnce}
use Rattle.world.proofs.ByNumber.{filter_in, once_filter, not_false, equal}
use Rattle.world.proofs.Lives.{Lives, same_live, fewer, one_more, step_lives}

abbrev claim_no : Live → ℕ
claim_no c = c.number

record Spent (live : List Live) (last : ℕ) (ns : List ℕ) : Type 0 where
  below : (n : ℕ) → IsIn n ns → n ≤ last
  ended : (n : ℕ) → IsIn n ns → ¬ IsIn n (map claim_no live)
  within : (n : ℕ) → IsIn n (map claim_no live) → n ≤ last
  apart : NoRepeats (map claim_no live)
  once : NoRepeats ns

claim_in : (p : Live → Bool) (live : List Live) (n : ℕ) → IsIn n (map claim_no (filter p live)) → IsIn n (map claim_no live)
claim_in p live n h =
    let r = in_map claim_no (filter p live) n h in
    let P : ℕ → Type 0 = λ m. IsIn m (map claim_no live) in
    subst P r.2 (map_in claim_no live r.0 (filter_in p live r.0 r.1).0)

push_in : (live : List Live) (c : Live) (n : ℕ) → IsIn n (map claim_no (live ++ c ∷ [])) → IsIn n (map claim_no live) ⊎ (n ≡ c.number)
push_in [] c n (inl e) = inr e
push_in [] c n (inr q) = absurd q
push_in (l ∷ ls) c n (inl e) = inl (inl e)
push_in (l ∷ ls) c n (inr q) = elim (push_in ls c n q) [ inl a ↦ inl (inr a) | inr b ↦ inr b ]

push_once : (live : List Live) (c : Live) → NoRepeats (map claim_no live) → ¬ IsIn c.number (map claim_no live) → NoRepeats (map claim_no (live ++ c ∷ []))
push_once [] c once out = ((λ p. p), tt)
push_once (l ∷ ls) c once out = (
  λ h. elim (push_in ls c l.number h) [ inl a ↦ once.0 a | inr e ↦ out (inl (sym e)) ],
  push_once ls c once.1 (λ p. out (inr p)),
)

moves_spent : (s s' : Workbench) (ns : List ℕ) → Lives s s' → Spent s.live s.last_claim ns → Spent s'.live s'.last_claim ns
moves_spent s s' ns (same_live l n) h =
    let P : List Live → Type 0 = λ v. Spent v s'.last_claim ns in
    let Q : ℕ → Type 0 = λ k. Spent s.live k ns in
    subst P (sym l) (subst Q (sym n) h)
moves_spent s s' ns (fewer p l n) h =
    let P : List Live → Type 0 = λ v. Spent v s'.last_claim ns in
    let Q : ℕ → Type 0 = λ k. Spent (filter p s.live) k ns in
    subst P (sym l) (subst Q (sym n) (record {
      below = h.below;
      ended = λ k q r. h.ended k q (claim_in p s.live k r);
      within = λ k q. h.within k (claim_in p s.live k q);
      apart = once_filter claim_no p s.live h.apart;
      once = h.once;
    }))
moves_spent s s' ns (one_more c e free l n) h =
    let P : List Live → Type 0 = λ v. Spent v s'.last_claim ns in
    let Q : ℕ → Type 0 = λ k. Spent (s.live ++ c ∷ []) k ns in
    subst P (sym l) (subst Q (sym n) (record {
      below = λ k q. (let le = h.below k q in omega (arith, le));
      ended = λ k q r. elim (push_in s.live c k r) [ inl a ↦ h.ended k q a | inr b ↦ (let le = h.below k q in absurd (omega (arith, le, b, e))) ];
      within = λ k q. elim (push_in s.live c k q) [ inl a ↦ (let le = h.within k a in omega (arith, le)) | inr b ↦ omega (arith, b, e) ];
      apart = push_once s.live c h.apart (λ p. (let le = h.within c.number p in omega (arith, le, e)));
      once = h.once;
    }))

-- a taken return

record Takes (s s' : Workbench) (r : Returned) (seat : ℕ) : Type 0 where
  claim : Live
  found : claim_of s.live r.claim seat ≡ Some claim
  live_is : s'.live ≡ others r.claim seat s.live

to_job : (s s' : Workbench) (seat d n : ℕ) (r : Returned) (c : Live) (o : Option jobs.Job) → claim_of s.live r.claim seat ≡ Some c → ReturnsTo s seat r c o (Taken d n) s' → Takes s s' r seat
to_job s s' seat d n r c None ec h = absurd h
to_job s s' seat d n r c (Some job) ec h = record { claim = c; found = ec; live_is = ap (λ (v : Workbench). v.live) h.2 }

to_claim : (s s' : Workbench) (seat d n : ℕ) (r : Returned) (o : Option Live) → claim_of s.live r.claim seat ≡ o → Returns s seat r o (Taken d n) s' → Takes s s' r seat
to_claim s s' seat d n r None ec h = absurd h
to_claim s s' seat d n r (Some c) ec h = to_job s s' seat d n r c (job_of s.jobs c.job) ec h

not_closed : (d n : ℕ) → Taken d n ≡ Refused Closed → ⊥
not_closed d n e = cc

takes : (s s' : Workbench) (seat d n : ℕ) (r : Returned) → Step s seat (Return r) (Taken d n) s' → Takes s s' r seat
takes s s' seat d n r (inl h) = absurd (not_closed d n h.1)
takes s s' seat d n r (inr h) = to_claim s s' seat d n r (claim_of s.live r.claim seat) refl h.1

last_job : (s s' : Workbench) (seat d n : ℕ) (r : Returned) (c : Live) (o : Option jobs.Job) → ReturnsTo s seat r c o (Taken d n) s' → s'.last_claim ≡ s.last_claim
last_job s s' seat d n r c None h = absurd h
last_job s s' seat d n r c (Some job) h = ap (λ (v : Workbench). v.last_claim) h.2

last_claim : (s s' : Workbench) (seat d n : ℕ) (r : Returned) (o : Option Live) → Returns s seat r o (Taken d n) s' → s'.last_claim ≡ s.last_claim
last_claim s s' seat d n r None h = absurd h
last_claim s s' seat d n r (Some c) h = last_job s s' seat d n r c (job_of s.jobs c.job) h

takes_last : (s s' : Workbench) (seat d n : ℕ) (r : Returned) → Step s seat (Return r) (Taken d n) s' → s'.last_claim ≡ s.last_claim
takes_last s s' seat d n r (inl h) = absurd (not_closed d n h.1)
takes_last s s' seat d n r (inr h) = last_claim s s' seat d n r (claim_of s.live r.claim seat) h.1

apart_append : (xs ys zs : List ℕ) → (xs ++ ys) ++ zs ≡ xs ++ (ys ++ zs)
apart_append [] ys zs = refl
apart_append (x ∷ xs) ys zs = ap (λ l. x ∷ l) (apart_append xs ys zs)

-- the claim's number is gone
same : (live : List Live) (c d : Live) → NoRepeats (map claim_no live) → IsIn c live → IsIn d live → d.number ≡ c.number → c ≡ d
same [] c d once p q e = absurd p
same (l ∷ ls) c d once (inl a) (inl b) e = a ∙ sym b
same (l ∷ ls) c d once (inl a) (inr b) e = let P : ℕ → Type 0 = λ n. IsIn n (map claim_no ls) in absurd (once.0 (subst P (e ∙ ap claim_no a) (map_in claim_no ls d b)))
same (l ∷ ls) c d once (inr a) (inl b) e = let P : ℕ → Type 0 = λ n. IsIn n (map claim_no ls) in absurd (once.0 (subst P (sym e ∙ ap claim_no b) (map_in claim_no ls c a)))
same (l ∷ ls) c d once (inr a) (inr b) e = same ls c d once.1 a b e

gone : (p : Live → Bool) (live : List Live) (c : Live) → NoRepeats (map claim_no live) → IsIn c live → p c ≡ true → ¬ IsIn c.number (map claim_no (filter (λ d. not (p d)) live))
gone p live c once q is h =
    let r = in_map claim_no (filter (λ d. not (p d)) live) c.number h in
    let f = filter_in (λ d. not (p d)) live r.0 r.1 in
    let no = not_false (p r.0) f.1 in
    let e : c ≡ r.0 = same live c r.0 once q f.0 r.2 in
    let P : Live → Type 0 = λ d. p d ≡ true in
    let yes = subst P e is in
    cc

taken_spent : (s s' : Workbench) (ns : List ℕ) (r : Returned) (seat : ℕ) → s'.last_claim ≡ s.last_claim → Takes s s' r seat → Spent s.live s.last_claim ns → Spent s'.live s'.last_claim ns → Spent s'.live s'.last_claim (ns ++ r.claim ∷ [])
unfolding others
taken_spent s s' ns r seat last t h k =
    let f = find_is (is_claim r.claim seat) s.live t.claim t.found in
    let number : t.claim.number ≡ r.claim = equal t.claim.number r.claim (and_left (t.claim.number == r.claim) (t.claim.seat == seat) f.1) in
    let P : ℕ → Type 0 = λ m. IsIn m (map claim_no s.live) in
    let was : IsIn r.claim (map claim_no s.live) = subst P number (map_in claim_no s.live t.claim f.0) in
    let out : ¬ IsIn r.claim (map claim_no s'.live) = λ q. (let L : List Live → Type 0 = λ l. IsIn r.claim (map claim_no l) in
    let N : ℕ → Type 0 = λ m. IsIn m (map claim_no (others r.claim seat s.live)) in
    gone (is_claim r.claim seat) s.live t.claim h.apart f.0 f.1 (subst N (sym number) (subst L t.live_is q))) in
    record {
      below = λ n q. elim (in_append ns (r.claim ∷ []) n q) [ inl a ↦ k.below n a | inr b ↦ elim b [ inl e ↦ (let le = h.within r.claim was in omega (arith, le, last, e)) | inr x ↦ absurd x ] ];
      ended = λ n q z. elim (in_append ns (r.claim ∷ []) n q) [ inl a ↦ k.ended n a z | inr b ↦ elim b [ inl e ↦ (let Q : ℕ → Type 0 = λ m. IsIn m (map claim_no s'.live) in out (subst Q e z)) | inr x ↦ absurd x ] ];
      within = k.within;
      apart = k.apart;
      once = once_append ns (r.claim ∷ []) h.once ((λ p. p), tt) (λ n a b. elim b [ inl e ↦ (let Q : ℕ → Type 0 = λ m. IsIn m (map claim_no s.live) in h.ended n a (subst Q (sym e) was)) | inr x ↦ x ]);
    }

taken_or : (said : Said) (reply : Reply) → (claim_taken said reply ≡ []) ⊎ ((r : Returned) × (d : ℕ) × (n : ℕ) × (said ≡ Return r) × (reply ≡ Taken d n))
taken_or (Return r) (Taken d n) = inr (r, d, n, refl, refl)
taken_or said reply = inl refl

taken_push : (es : List Line) (e : Line) → claims_taken (es ++ e ∷ []) ≡ claims_taken es ++ claim_taken e.said e.reply
taken_push [] e = append-nil (claim_taken e.said e.reply)
taken_push (x ∷ es) e = ap (λ l. claim_taken x.said x.reply ++ l) (taken_push es e) ∙ sym (apart_append (claim_taken x.said x.reply) (claims_taken es) (claim_taken e.said e.reply))

spent_step : (s s' : Workbench) (es : List Line) (e : Line) → Step s e.seat e.said e.reply s' → Spent s.live s.last_claim (claims_taken es) → Spent s'.live s'.last_claim (claims_taken (es ++ e ∷ []))
spent_step s s' es e step h =
    let k = moves_spent s s' (claims_taken es) (step_lives s e.seat e.said e.reply s' step) h in
    let P : List ℕ → Type 0 = λ ns. Spent s'.live s'.last_claim ns in
    subst P (sym (taken_push es e)) (elim (taken_or e.said e.reply) [
      | inl none ↦ subst P (sym (ap (λ l. claims_taken es ++ l) none ∙ append-nil (claims_taken es))) k
      | inr t ↦ (let O : Said → Type 0 = λ o. Step s e.seat o e.reply s' in
          let A : Reply → Type 0 = λ a. Step s e.seat (Return t.0) a s' in
          let taken = takes s s' e.seat t.1 t.2 t.0 (subst A t.4 (subst O t.3 step)) in
          let same : claim_taken e.said e.reply ≡ t.0.claim ∷ [] = ap (λ o. claim_taken o e.reply) t.3 ∙ ap (claim_taken (Return t.0)) t.4 in
          let last : s'.last_claim ≡ s.last_claim = takes_last s s' e.seat t.1 t.2 t.0 (subst A t.4 (subst O t.3 step)) in
          subst P (sym (ap (λ l. claims_taken es ++ l) same)) (taken_spent s s' (claims_taken es) t.0 e.seat last taken h k))
    ])

append_one : (es : List Line) (e : Line) (fs : List Line) → (es ++ e ∷ []) ++ fs ≡ es ++ e ∷ fs
append_one [] e fs = refl
append_one (x ∷ es) e fs = ap (λ l. x ∷ l) (append_one es e fs)

spent_all : (place : ℕ) (s s' : Workbench) (es fs : List Line) → LeadsFrom place s fs s' → Spent s.live s.last_claim (claims_taken es) → Spent s'.live s'.last_claim (claims_taken (es ++ fs))
spent_all place s s' es [] leads h =
    let P : Workbench → Type 0 = λ v. Spent v.live v.last_claim (claims_taken (es ++ [])) in
    let Q : List Line → Type 0 = λ l. Spent s.live s.last_claim (claims_taken l) in
    subst P (sym leads) (subst Q (sym (append-nil es)) h)
spent_all place s s' es (f ∷ fs) leads h =
    let first = spent_step s leads.1.0 es f leads.1.1 h in
    let rest = spent_all (place + 1) leads.1.0 s' (es ++ f ∷ []) fs leads.1.2 first in
    let P : List Line → Type 0 = λ l. Spent s'.live s'.last_claim (claims_taken l) in
    subst P (append_one es f fs) rest

pub taken_once : TakenOnce
taken_once limits journal legal =
    (spent_all 0 (empty limits) legal.0 [] journal legal.1 (record { below = λ n p. absurd p; ended = λ n p. absurd p; within = λ n p. absurd p; apart = tt; once = tt })).once
