-- The results of a job whose slices are all returned reply its cut.
use Rattle.std.proofs.Common.{◌≡◌, ◌≢◌, ℕ, ◌<◌, List, [], ◌∷◌, length, map, true, false, Option, Some, sym, ap, ◌∙◌, subst, inl, inr, get_or}
use Rattle.std.specs.Prelude.{slice_get, if◌then◌else◌}
use Rattle.std.proofs.lemmas.Bool.Decides.{eqb_tells}
use Rattle.std.proofs.lemmas.Option.{slice_get_within, slice_get-get_or}
use Rattle.std.specs.List.{list_all}
use Rattle.listings.specs.Lists.{IsIn, NoRepeats}
use Rattle.listings.proofs.Listings.{in_map, map_in}
use Rattle.slices.specs.VerdictValues.{VerdictValue}
use Rattle.slices.specs.Parts.{PieceResultValue, IsPart}
use Rattle.slices.specs.Verdicts.{IsVerdict}
use Rattle.slices.specs.Works.{WorkValue}
use Rattle.book.specs.Jobs.{Job, is_done}
use Rattle.book.specs.Step.{HasRange}
use Rattle.book.specs.declared.slice.Slice.{Slice}
use Rattle.book.proofs.Counts.{all_get}
use Rattle.book.specs.Workbench.{job_of}
use Rattle.book.specs.declared.live.Live.{Live}
use Rattle.world.specs.Merging.{AreAnswers}
use Rattle.world.specs.World.{Result, IsPutTogether, results_of, slot}
use Rattle.world.proofs.Holds.{Holds}
use Rattle.world.proofs.Told.{merged_verdict}

abbrev slice_no : PieceResultValue → ℕ
slice_no r = r.piece.slice

abbrev result : ℕ → PieceResultValue → Result
result id part = record { job = id; part = part }

mine : (r : Result) (rs : List Result) (id : ℕ) → r.job ≡ id → results_of (r ∷ rs) id ≡ r.part ∷ results_of rs id
mine r rs id e = elim (eqb_tells r.job id) [
  | inl p ↦ ap (λ b. if b then r.part ∷ results_of rs id else results_of rs id) p.0
  | inr q ↦ absurd (q.1 e)
]

others' : (r : Result) (rs : List Result) (id : ℕ) → r.job ≢ id → results_of (r ∷ rs) id ≡ results_of rs id
others' r rs id e = elim (eqb_tells r.job id) [
  | inl p ↦ absurd (e p.1)
  | inr q ↦ ap (λ b. if b then r.part ∷ results_of rs id else results_of rs id) q.0
]

pub in_results : (rs : List Result) (id : ℕ) (p : PieceResultValue) → IsIn p (results_of rs id) → IsIn (result id p) rs
in_results [] id p h = absurd h
in_results (r ∷ rs) id p h = elim (eqb_tells r.job id) [
  | inl e ↦ (let P : List PieceResultValue → Type 0 = λ l. IsIn p l in
      elim (subst P (mine r rs id e.1) h) [
        | inl q ↦ inl (ap (λ n. record { job = n; part = p }) (sym e.1) ∙ ap (result r.job) q)
        | inr q ↦ inr (in_results rs id p q)
      ])
  | inr e ↦ (let P : List PieceResultValue → Type 0 = λ l. IsIn p l in inr (in_results rs id p (subst P (others' r rs id e.1) h)))
]

in_slices : (rs : List Result) (id i : ℕ) → IsIn (id, i) (map slot rs) → IsIn i (map slice_no (results_of rs id))
in_slices [] id i h = absurd h
in_slices (r ∷ rs) id i h =
    let P : List PieceResultValue → Type 0 = λ l. IsIn i (map slice_no l) in
    elim (eqb_tells r.job id) [
      | inl e ↦ subst P (sym (mine r rs id e.1)) (elim h [ inl q ↦ inl (ap (λ k. k.1) q) | inr q ↦ inr (in_slices rs id i q) ])
      | inr e ↦ subst P (sym (others' r rs id e.1)) (elim h [ inl q ↦ absurd (e.1 (sym (ap (λ k. k.0) q))) | inr q ↦ in_slices rs id i q ])
    ]

slices_in : (rs : List Result) (id i : ℕ) → IsIn i (map slice_no (results_of rs id)) → IsIn (id, i) (map slot rs)
slices_in rs id i h =
    let r = in_map slice_no (results_of rs id) i h in
    let P : ℕ → Type 0 = λ n. IsIn (id, n) (map slot rs) in
    subst P r.2 (map_in slot rs (result id r.0) (in_results rs id r.0 r.1))

once_slices : (rs : List Result) (id : ℕ) → NoRepeats (map slot rs) → NoRepeats (map slice_no (results_of rs id))
once_slices [] id once = tt
once_slices (r ∷ rs) id once =
    let P : List PieceResultValue → Type 0 = λ l. NoRepeats (map slice_no l) in
    let Q : ℕ → Type 0 = λ n. IsIn (n, r.part.piece.slice) (map slot rs) in
    elim (eqb_tells r.job id) [
      | inl e ↦ subst P (sym (mine r rs id e.1)) ((λ h. once.0 (subst Q (sym e.1) (slices_in rs id r.part.piece.slice h))), once_slices rs id once.1)
      | inr e ↦ subst P (sym (others' r rs id e.1)) (once_slices rs id once.1)
    ]

same_job : (a b : Job) (o : Option Job) → o ≡ Some a → o ≡ Some b → a ≡ b
same_job a b o x y = let e : Some a ≡ Some b = sym x ∙ y in let f : a ≡ b = cc in f

nth_done : (xs : List Slice) (i : ℕ) → list_all (λ x. x.returned) xs ≡ true → i < length xs → (x : Slice) × (slice_get xs i ≡ Some x) × (x.returned ≡ true)
nth_done xs i all l =
    let d : Slice = record { from = 0; to = 0; returned = false } in
    let at = slice_get-get_or xs i d l in
    (get_or xs i d, at, all_get (λ (x : Slice). x.returned) xs i (get_or xs i d) all at)

pub answering : (js : List Job) (live : List Live) (last : ℕ) (rs : List Result) (id : ℕ) (job : Job) → Holds js live last rs → job_of js id ≡ Some job → is_done job ≡ true → AreAnswers job.work job.slices (results_of rs id)
answering js live last rs id job h e done = record {
  each = record {
    once = once_slices rs id h.exact.once;
    only = λ i p. (let s = h.exact.only (id, i) (slices_in rs id i p) in
        let G : Job → Type 0 = λ z. slice_get z.slices i ≡ Some s.2.0 in
        slice_get_within job.slices i s.2.0 (subst G (same_job s.0 job (job_of js id) s.1 e) s.2.1));
    all = λ i l. in_slices rs id i (h.exact.all (id, i) (job, e, nth_done job.slices i done l));
  };
  ranges = λ r p. (let f = h.right (result id r) (in_results rs id r p) in
      let G : Job → Type 0 = λ z. HasRange (slice_get z.slices r.piece.slice) r.piece.from r.piece.to in
      subst G (same_job f.0 job (job_of js id) f.1 e) f.3);
  right = λ r p. (let f = h.right (result id r) (in_results rs id r p) in
      let G : Job → Type 0 = λ z. IsPart z.work.test z.work.model.items r.piece.from r.piece.to r.found in
      subst G (same_job f.0 job (job_of js id) f.1 e) f.4);
}

pub verdict_right : (js : List Job) (live : List Live) (last : ℕ) (rs : List Result) (id : ℕ) (v : VerdictValue) (job : Job) → Holds js live last rs → job_of js id ≡ Some job → IsPutTogether rs id v (Some job) → IsVerdict v.work.test v.work.model.items v.finding
verdict_right js live last rs id v job h e p =
    let P : WorkValue → Type 0 = λ w. IsVerdict w.test w.model.items v.finding in
    subst P (sym p.1) (merged_verdict job.work job.slices (results_of rs id) v.finding (h.covers id job e) (answering js live last rs id job h e p.0) p.3)
