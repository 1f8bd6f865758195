-- How the results that a job has merged go with its slices.
use Rattle.std.proofs.Common.{◌≡◌, ◌≢◌, ℕ, zero, suc, ◌+◌, ◌<◌, ◌≤◌, ◌⊎◌, List, [], ◌∷◌, ◌++◌, length, get_or, set, Bool, true, false, not, Option, None, Some, refl, sym, ap, ◌∙◌, subst, inl, inr, arith}
use Rattle.std.specs.Prelude.{slice_get, nat_le, nat_lt, count_by, ◌&&◌}
use Rattle.std.specs.List.{list_all}
use Rattle.std.proofs.lemmas.Bool.{leb-true, ltb-true, lt-ltb, cases_lt}
use Rattle.std.proofs.lemmas.Bool.Decides.{eqb_tells}
use Rattle.std.proofs.lemmas.List.Sums.{count_by-le-length}
use Rattle.cat_model.specs.declared.model.FileVersion.{FileVersion}
use Rattle.listings.proofs.Listings.{in_append, in_left, in_right}
use Rattle.slices.specs.Parts.{IsAdmitted, IsRange, test_size}
use Rattle.slices.specs.Tallies as tallies
use Rattle.slices.specs.Tallies.{TallyValue, IsHeld, IsApart, holds}
use Rattle.slices.specs.Works.{WorkValue}
use Rattle.slices.specs.declared.span.Span.{Span}
use Rattle.book.specs.Cuts.{IsCover, IsWithin}
use Rattle.book.specs.Jobs.{Job, mark, marked, done}
use Rattle.book.specs.Listings.{root_of}
use Rattle.book.specs.Results.{IsReturned, IsTied, HasRoot}
use Rattle.book.specs.Step.{IsCut, HasRange, has_number}
use Rattle.book.specs.declared.slice.Slice.{Slice}
use Rattle.book.proofs.Counts.{count-cons, weight, one_counted, counted_get, all_get, and_left, and_right, numbered_in, in_numbered}

-- what stands at a place

pub get_here : (xs : List Slice) (i : ℕ) (x : Slice) → i < length xs → x ≡ get_or xs i x → slice_get xs i ≡ Some x
get_here [] i x h e = absurd (omega (arith, h))
get_here (y ∷ ys) zero x h e = ap (λ (z : Slice). Some z) (sym e)
get_here (y ∷ ys) (suc i) x h e = get_here ys i x (omega (arith, h)) e

some_inside : (o : Option Slice) (from to : ℕ) → HasRange o from to → (x : Slice) × (o ≡ Some x) × (x.from ≡ from) × (x.to ≡ to)
some_inside None from to h = absurd h
some_inside (Some x) from to h = (x, refl, h.0, h.1)

get_inside : (xs : List Slice) (i : ℕ) (x : Slice) → slice_get xs i ≡ Some x → i < length xs
get_inside [] i x e = cc
get_inside (y ∷ ys) zero x e = omega arith
get_inside (y ∷ ys) (suc i) x e = omega (arith, get_inside ys i x e)

pub inside : (xs : List Slice) (i from to : ℕ) → HasRange (slice_get xs i) from to → i < length xs
inside xs i from to h = let r = some_inside (slice_get xs i) from to h in get_inside xs i r.0 r.1

pub range_here : (xs : List Slice) (i from to : ℕ) (x : Slice) → HasRange (slice_get xs i) from to → slice_get xs i ≡ Some x → (x.from ≡ from) × (x.to ≡ to)
range_here xs i from to x h e = let P : Option Slice → Type 0 = λ o. HasRange o from to in subst P e h

pub has_range : (xs : List Slice) (i : ℕ) (x : Slice) → slice_get xs i ≡ Some x → HasRange (slice_get xs i) x.from x.to
has_range xs i x e = let P : Option Slice → Type 0 = λ o. HasRange o x.from x.to in subst P (sym e) (refl, refl)

-- with a slice marked

pub mark_this : (xs : List Slice) (i : ℕ) (x : Slice) → slice_get xs i ≡ Some x → slice_get (mark i xs) i ≡ Some (record x { returned = true })
mark_this [] i x e = cc
mark_this (y ∷ ys) zero x e =
    let same : y ≡ x = cc in
    ap (λ (z : Slice). Some (record z { returned = true })) same
mark_this (y ∷ ys) (suc i) x e = mark_this ys i x e

pub mark_other : (xs : List Slice) (i k : ℕ) → i ≢ k → slice_get (mark i xs) k ≡ slice_get xs k
mark_other [] i k e = refl
mark_other (y ∷ ys) zero zero e = absurd (e refl)
mark_other (y ∷ ys) zero (suc k) e = refl
mark_other (y ∷ ys) (suc i) zero e = refl
mark_other (y ∷ ys) (suc i) (suc k) e = mark_other ys i k (λ q. e (ap (λ n. suc n) q))

mark_count : (k i : ℕ) (xs : List Slice) → count_by (has_number k) (mark i xs) ≡ count_by (has_number k) xs
mark_count k i [] = refl
mark_count k zero (x ∷ xs) = count-cons (has_number k) (record x { returned = true }) xs ∙ sym (count-cons (has_number k) x xs)
mark_count k (suc i) (x ∷ xs) = omega (arith, count-cons (has_number k) x (mark i xs), count-cons (has_number k) x xs, mark_count k i xs)

abbrev fits : ℕ → Slice → Bool
fits n x = nat_le x.from x.to && nat_le x.to n

mark_fits : (n i : ℕ) (xs : List Slice) → list_all (fits n) (mark i xs) ≡ list_all (fits n) xs
mark_fits n i [] = refl
mark_fits n zero (x ∷ xs) = refl
mark_fits n (suc i) (x ∷ xs) = ap (λ b. fits n x && b) (mark_fits n i xs)

pub mark_cover : (n i : ℕ) (xs : List Slice) → IsCover n xs → IsCover n (mark i xs)
mark_cover n i xs c = record { within = mark_fits n i xs ∙ c.within; once = λ k l. mark_count k i xs ∙ c.once k l }

pub mark_again : (xs : List Slice) (i : ℕ) (x : Slice) → slice_get xs i ≡ Some x → x.returned ≡ true → mark i xs ≡ xs
mark_again [] i x e t = refl
mark_again (y ∷ ys) zero x e t =
    let same : x ≡ y = cc in
    let P : Slice → Type 0 = λ z. z.returned ≡ true in
    let is : y.returned ≡ true = subst P same t in
    ap (λ b. let z : Slice = record y { returned = b } in z ∷ ys) (sym is)
mark_again (y ∷ ys) (suc i) x e t = ap (λ zs. y ∷ zs) (mark_again ys i x e t)

pub mark_set : (xs : List Slice) (i : ℕ) (x : Slice) → slice_get xs i ≡ Some x → set xs i (record x { returned = true }) ≡ mark i xs
mark_set [] i x e = cc
mark_set (y ∷ ys) zero x e = let same : x ≡ y = cc in ap (λ (z : Slice). record z { returned = true } ∷ ys) same
mark_set (y ∷ ys) (suc i) x e = ap (λ zs. y ∷ zs) (mark_set ys i x e)

mark_length : (xs : List Slice) (i : ℕ) → length (mark i xs) ≡ length xs
mark_length [] i = refl
mark_length (x ∷ xs) zero = refl
mark_length (x ∷ xs) (suc i) = ap (λ n. suc n) (mark_length xs i)

pub count_marked : (xs : List Slice) (i : ℕ) (x : Slice) → slice_get xs i ≡ Some x → x.returned ≡ false → count_by (λ y. y.returned) (mark i xs) ≡ count_by (λ y. y.returned) xs + 1
count_marked [] i x e f = cc
count_marked (y ∷ ys) zero x e f =
    let same : x ≡ y = cc in
    let P : Slice → Type 0 = λ z. z.returned ≡ false in
    let is : weight y.returned ≡ 0 = ap weight (subst P same f) in
    omega (arith, is, count-cons (λ (z : Slice). z.returned) y ys, count-cons (λ (z : Slice). z.returned) (record y { returned = true }) ys)
count_marked (y ∷ ys) (suc i) x e f = omega (arith, count-cons (λ (z : Slice). z.returned) y ys, count-cons (λ (z : Slice). z.returned) y (mark i ys), count_marked ys i x e f)

pub done_then : (job : Job) (i n : ℕ) (x : Slice) → slice_get job.slices i ≡ Some x → x.returned ≡ false → n ≡ done job → n + 1 ≡ done (marked i job)
done_then job i n x e f is = ap (λ k. k + 1) is ∙ sym (count_marked job.slices i x e f)

pub done_again : (job : Job) (i n : ℕ) (x : Slice) → slice_get job.slices i ≡ Some x → x.returned ≡ true → n ≡ done job → n ≡ done (marked i job)
done_again job i n x e t is = is ∙ sym (ap (count_by (λ (y : Slice). y.returned)) (mark_again job.slices i x e t))

mark_beyond : (xs : List Slice) (i : ℕ) → slice_get xs i ≡ None → mark i xs ≡ xs
mark_beyond [] i e = refl
mark_beyond (y ∷ ys) zero e = cc
mark_beyond (y ∷ ys) (suc i) e = ap (λ zs. y ∷ zs) (mark_beyond ys i e)

pub done_beyond : (job : Job) (i n : ℕ) → slice_get job.slices i ≡ None → n ≡ done job → n ≡ done (marked i job)
done_beyond job i n e is = is ∙ sym (ap (count_by (λ (y : Slice). y.returned)) (mark_beyond job.slices i e))

-- so many more are returned once this one is
pub count_set : (xs : List Slice) (i place n : ℕ) (x : Slice) → slice_get xs i ≡ Some x → x.returned ≡ false → place ≡ i → n ≡ count_by (λ y. y.returned) xs →
    n + 1 ≡ count_by (λ y. y.returned) (set xs place (record { from = x.from; to = x.to; returned = true }))
count_set xs i place n x e f here is =
    let C : List Slice → ℕ = count_by (λ y. y.returned) in
    let y : Slice = record { from = x.from; to = x.to; returned = true } in
    ap (λ k. k + 1) is ∙ sym (count_marked xs i x e f) ∙ ap C (sym (ap (λ k. set xs k y) here ∙ mark_set xs i x e))

pub done_few : (merged : TallyValue) (slices : List Slice) → IsTied merged slices → count_by (λ x. x.returned) slices ≤ 256
done_few merged slices tie = omega (arith, count_by-le-length (λ (x : Slice). x.returned) slices, tie.few)

-- the root

pub root_first : (fs : List FileVersion) (f : FileVersion) → slice_get fs 0 ≡ Some f → f.name ≡ root_of fs
root_first [] f e = cc
root_first (g ∷ fs) f e = let same : f ≡ g = cc in ap (λ (x : FileVersion). x.name) same

pub some_root : (fs : List FileVersion) → HasRoot fs → slice_get fs 0 ≡ None → ⊥
some_root [] h e = h
some_root (f ∷ fs) h e = cc

-- the numbers of the slices

not_false : (b : Bool) → not b ≡ true → b ≡ false
not_false true h = cc
not_false false h = refl

slice_same : (xs : List Slice) (i k : ℕ) (x y : Slice) → i ≡ k → slice_get xs i ≡ Some x → slice_get xs k ≡ Some y → x ≡ y
slice_same xs i k x y e a b = let both : Some x ≡ Some y = sym a ∙ ap (slice_get xs) e ∙ b in let f : x ≡ y = cc in f

ends_within : (n : ℕ) (xs : List Slice) (i : ℕ) (x : Slice) → IsCover n xs → slice_get xs i ≡ Some x → x.to ≤ n
ends_within n xs i x cover e = leb-true x.to n (and_right (nat_le x.from x.to) _ (all_get (λ z. nat_le z.from z.to && nat_le z.to n) xs i x cover.within e))

not_both : (b : Bool) → b ≡ false → b ≡ true → ⊥
not_both b p q = cc

clear : (n : ℕ) (xs : List Slice) (i : ℕ) (x : Slice) → IsCover n xs → slice_get xs i ≡ Some x → x.returned ≡ false → (j : ℕ) → IsWithin x j → ¬ IsReturned xs j
clear n xs i x cover e fresh j w r =
    let le = ends_within n xs i x cover e in
    let once = cover.once j (omega (arith, le, w.1)) in
    let place : i ≡ r.0 = one_counted (has_number j) xs i r.0 x r.1 (omega (arith, once)) e r.2 (numbered_in x j w.0 w.1) (numbered_in r.1 j r.4.0 r.4.1) in
    let same = slice_same xs i r.0 x r.1 place e r.2 in
    let P : Slice → Type 0 = λ z. z.returned ≡ false in
    not_both r.1.returned (subst P same fresh) r.3

now_returned : (xs : List Slice) (i : ℕ) (x : Slice) → slice_get xs i ≡ Some x → (j : ℕ) → IsWithin x j ⊎ IsReturned xs j → IsReturned (mark i xs) j
now_returned xs i x e j (inl w) = (i, record x { returned = true }, mark_this xs i x e, refl, w)
now_returned xs i x e j (inr r) = elim (eqb_tells i r.0) [
  | inl p ↦ (let P : Slice → Type 0 = λ z. IsWithin z j in (i, record x { returned = true }, mark_this xs i x e, refl, subst P (sym (slice_same xs i r.0 x r.1 p.1 e r.2)) r.4))
  | inr p ↦ (r.0, r.1, mark_other xs i r.0 p.1 ∙ r.2, r.3, r.4)
]

was_returned : (xs : List Slice) (i : ℕ) (x : Slice) → slice_get xs i ≡ Some x → (j : ℕ) → IsReturned (mark i xs) j → IsWithin x j ⊎ IsReturned xs j
was_returned xs i x e j r = elim (eqb_tells i r.0) [
  | inl p ↦ (let P : Slice → Type 0 = λ z. IsWithin z j in inl (subst P (sym (slice_same (mark i xs) i r.0 (record x { returned = true }) r.1 p.1 (mark_this xs i x e) r.2)) r.4))
  | inr p ↦ inr (r.0, r.1, sym (mark_other xs i r.0 p.1) ∙ r.2, r.3, r.4)
]

-- what is merged

pub is_range : (merged : TallyValue) (slices : List Slice) (i : ℕ) (x : Slice) → IsTied merged slices → slice_get slices i ≡ Some x → IsRange merged.work.test x.from x.to
is_range merged slices i x tie e =
    let fits = all_get (λ z. nat_le z.from z.to && nat_le z.to (test_size merged.work.test)) slices i x tie.cover.within e in
    record {
      order = leb-true x.from x.to (and_left (nat_le x.from x.to) _ fits);
      within = leb-true x.to (test_size merged.work.test) (and_right (nat_le x.from x.to) _ fits);
    }

pub none_returned : (xs : List Slice) → list_all (λ x. not x.returned) xs ≡ true → 0 ≡ count_by (λ x. x.returned) xs
none_returned [] h = refl
none_returned (x ∷ xs) h =
    let is : weight x.returned ≡ 0 = ap weight (not_false x.returned (and_left (not x.returned) _ h)) in
    omega (arith, is, count-cons (λ (z : Slice). z.returned) x xs, none_returned xs (and_right (not x.returned) _ h))

pub fresh_tied : (work : WorkValue) (slices : List Slice) → IsCut (test_size work.test) slices → HasRoot work.model.files → IsAdmitted work.test → IsTied (record { work = work; spans = [] }) slices
fresh_tied work slices cut root admitted = record {
  cover = record { within = cut.within; once = cut.once };
  few = cut.few;
  tied = λ i. (
    λ r. absurd (not_both r.1.returned (not_false r.1.returned (all_get (λ (z : Slice). not z.returned) slices r.0 r.1 cut.fresh r.2)) r.3),
    λ h. absurd h.1,
  );
  root = root;
  admitted = admitted;
}

pub apart : (merged : TallyValue) (slices : List Slice) (i : ℕ) (x : Slice) (s : Span) → IsTied merged slices → slice_get slices i ≡ Some x → x.returned ≡ false → s.from ≡ x.from → s.to ≡ x.to → IsApart s merged.spans
apart merged slices i x s tie e fresh f t = λ j h held.
    clear (test_size merged.work.test) slices i x tie.cover e fresh j (omega (arith, h.0, f), omega (arith, h.1, t)) ((tie.tied j).1 held)

held_more : (spans : List Span) (s : Span) (j : ℕ) → holds s j ⊎ IsHeld spans j → IsHeld (spans ++ s ∷ []) j
held_more spans s j (inl h) = (s, in_right spans (s ∷ []) s (inl refl), h)
held_more spans s j (inr h) = (h.0, in_left spans (s ∷ []) h.0 h.1, h.2)

was_held : (spans : List Span) (s : Span) (j : ℕ) → IsHeld (spans ++ s ∷ []) j → holds s j ⊎ IsHeld spans j
was_held spans s j h = elim (in_append spans (s ∷ []) h.0 h.1) [
  | inl p ↦ inr (h.0, p, h.2)
  | inr p ↦ elim p [
    | inl q ↦ (let P : Span → Type 0 = λ z. holds z j in inl (subst P q h.2))
    | inr q ↦ absurd q
  ]
]

pub still_tied : (merged : TallyValue) (slices : List Slice) (i : ℕ) (x : Slice) (s : Span) → IsTied merged slices → slice_get slices i ≡ Some x → s.from ≡ x.from → s.to ≡ x.to → IsTied (record merged { spans = merged.spans ++ s ∷ [] }) (mark i slices)
still_tied merged slices i x s tie e f t = record {
  cover = mark_cover (test_size merged.work.test) i slices tie.cover;
  few = omega (arith, mark_length slices i, tie.few);
  tied = λ j. (
    λ r. held_more merged.spans s j (elim (was_returned slices i x e j r) [
      | inl w ↦ inl (omega (arith, w.0, f), omega (arith, w.1, t))
      | inr k ↦ inr ((tie.tied j).0 k)
    ]),
    λ h. now_returned slices i x e j (elim (was_held merged.spans s j h) [
      | inl w ↦ inl (omega (arith, w.0, f), omega (arith, w.1, t))
      | inr k ↦ inr ((tie.tied j).1 k)
    ]),
  );
  root = tie.root;
  admitted = tie.admitted;
}

pub all_covered : (merged : TallyValue) (slices : List Slice) → IsTied merged slices → list_all (λ x. x.returned) slices ≡ true → tallies.IsCover (test_size merged.work.test) merged.spans
all_covered merged slices tie all = λ i l.
    let once = tie.cover.once i l in
    let at = counted_get (has_number i) slices (omega (arith, once)) in
    (tie.tied i).0 (at.0, at.1, at.2, all_get (λ (z : Slice). z.returned) slices at.0 at.1 all at.2, in_numbered at.1 i at.3)

-- a result that is taken

pub here_range : (xs : List Slice) (i k from to : ℕ) (x : Slice) → k ≡ i → HasRange (slice_get xs i) from to → x ≡ get_or xs k x → (slice_get xs i ≡ Some x) × (x.from ≡ from) × (x.to ≡ to)
here_range xs i k from to x same range at =
    let P : ℕ → Type 0 = λ n. x ≡ get_or xs n x in
    let e = get_here xs i x (inside xs i from to range) (subst P same at) in
    let r = range_here xs i from to x range e in
    (e, r.0, r.1)

pub marked_again : (job : Job) (i : ℕ) (x : Slice) → slice_get job.slices i ≡ Some x → x.returned ≡ true → job ≡ marked i job
marked_again job i x e t = ap (λ (xs : List Slice). let j : Job = record job { slices = xs } in j) (sym (mark_again job.slices i x e t))

now_marked : (slices : List Slice) (i k : ℕ) (x : Slice) → slice_get slices i ≡ Some x → k ≡ i → set slices k (record x { returned = true }) ≡ mark i slices
now_marked slices i k x e same = ap (λ n. set slices n (record x { returned = true })) same ∙ mark_set slices i x e

pub merged_tied : (merged new : TallyValue) (slices : List Slice) (i k : ℕ) (x : Slice) (s : Span) → IsTied merged slices → slice_get slices i ≡ Some x → k ≡ i → s.from ≡ x.from → s.to ≡ x.to → new ≡ record merged { spans = merged.spans ++ s ∷ [] } → IsTied new (set slices k (record x { returned = true }))
merged_tied merged new slices i k x s tie e same f t is =
    let P : TallyValue → Type 0 = λ r. IsTied r (set slices k (record x { returned = true })) in
    let Q : List Slice → Type 0 = λ xs. IsTied (record merged { spans = merged.spans ++ s ∷ [] }) xs in
    subst P (sym is) (subst Q (sym (now_marked slices i k x e same)) (still_tied merged slices i x s tie e f t))

abbrev shown : ℕ → ℕ → WorkValue → List Slice → Job
shown number version work slices = record { number = number; version = version; work = work; slices = slices }

pub merged_shown : (number version : ℕ) (merged new : TallyValue) (slices : List Slice) (i k : ℕ) (x : Slice) (s : Span) → slice_get slices i ≡ Some x → k ≡ i → new ≡ record merged { spans = merged.spans ++ s ∷ [] }
    → shown number version new.work (set slices k (record x { returned = true })) ≡ marked i (shown number version merged.work slices)
merged_shown number version merged new slices i k x s e same is =
    ap (λ (r : TallyValue). shown number version r.work (set slices k (record x { returned = true }))) is ∙ ap (shown number version merged.work) (now_marked slices i k x e same)

-- what a look at a place tells

none_at : (xs : List Slice) (i : ℕ) → length xs ≤ i → slice_get xs i ≡ None
none_at [] zero h = refl
none_at [] (suc i) h = refl
none_at (x ∷ xs) zero h = absurd (omega (arith, h))
none_at (x ∷ xs) (suc i) h = none_at xs i (omega (arith, h))

pub none_there : (job : Job) (xs : List Slice) (i : ℕ) → xs ≡ job.slices → false ≡ nat_lt i (length xs) → slice_get job.slices i ≡ None
none_there job xs i same h =
    let P : List Slice → Type 0 = λ l. slice_get l i ≡ None in
    subst P same (elim (cases_lt i (length xs)) [
      | inl l ↦ absurd (not_both (nat_lt i (length xs)) (sym h) (lt-ltb i (length xs) l))
      | inr g ↦ none_at xs i g
    ])

pub some_there : (job : Job) (xs : List Slice) (i : ℕ) (x : Slice) → xs ≡ job.slices → true ≡ nat_lt i (length xs) → x ≡ get_or xs i x → slice_get job.slices i ≡ Some x
some_there job xs i x same h e =
    let P : List Slice → Type 0 = λ l. slice_get l i ≡ Some x in
    subst P same (get_here xs i x (ltb-true i (length xs) (sym h)) e)
