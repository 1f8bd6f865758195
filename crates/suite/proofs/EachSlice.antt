-- The results of slices, one after another.
use Rattle.std.proofs.Common.{◌≡◌, ℕ, suc, ◌+◌, ◌-◌, ◌*◌, ◌<◌, ◌≤◌, List, [], ◌∷◌, ◌++◌, length, get_or, Result, Ok, Err, IfOk, inl, inr, sym, ap, ◌∙◌, subst, arith, length-append}
use Rattle.std.specs.Prelude.{◌/◌, ◌%◌}
use Rattle.std.specs.declared.vec.Vec.{Vec}
use Rattle.std.proofs.lemmas.Bool.{cases_lt}
use Rattle.std.proofs.lemmas.List.{get_or_push, get_or_append_left}
use Rattle.std.proofs.Math.Nat.{mod-add-div', mul-le-mul_right}
use Rattle.slices.specs.Courses.{IsCourse}
use Rattle.slices.specs.Parts.{PieceResultValue}
use Rattle.slices.specs.Tallies.{TallyValue, span_of}
use Rattle.slices.specs.Works.{WorkValue}
use Rattle.slices.proofs.Coursing.{begun, stepped}
use Rattle.suite.specs.declared.together.Round.{Round}
use Rattle.suite.specs.Together.{IsSlice, HasFirst, IsFoundBy, AreFound}

-- A thread has these results of its slices of a round, and the next one is this.
pub record Turned (w : WorkValue) (r : Round) (t : ℕ) (xs : List PieceResultValue) (slice : ℕ) : Type 0 where
  pub each : (k : ℕ) (d : PieceResultValue) → k < length xs → IsSlice w r.total (r.from + (t + k * r.threads)) (get_or xs k d)
  pub next : slice ≡ r.from + (t + length xs * r.threads)

pub turned_none : (w : WorkValue) (r : Round) (t next : ℕ) (xs : List PieceResultValue) → xs ≡ [] → next ≡ r.from + t → Turned w r t xs next
turned_none w r t next xs none is =
    let P : List PieceResultValue → Type 0 = λ l. Turned w r t l next in
    subst P (sym none) (record { each = λ k d l. absurd (omega (arith, l)); next = omega (arith, is) })

one_longer : (xs more : List PieceResultValue) (x : PieceResultValue) → more ≡ xs ++ x ∷ [] → length more ≡ suc (length xs)
one_longer xs more x pushed = omega (arith, ap length pushed, length-append xs (x ∷ []))

turn_each : (w : WorkValue) (r : Round) (t next : ℕ) (xs : List PieceResultValue) (x : PieceResultValue) → Turned w r t xs next → IsSlice w r.total next x
    → (k : ℕ) (d : PieceResultValue) → k < suc (length xs) → IsSlice w r.total (r.from + (t + k * r.threads)) (get_or (xs ++ x ∷ []) k d)
turn_each w r t next xs x before here k d l =
    elim (cases_lt k (length xs)) [
      | inl less ↦
          let P : PieceResultValue → Type 0 = λ y. IsSlice w r.total (r.from + (t + k * r.threads)) y in
          subst P (sym (get_or_append_left xs (x ∷ []) d k less)) (before.each k d less)
      | inr more ↦
          let last : length xs ≡ k = omega (arith, l, more) in
          let P : PieceResultValue → Type 0 = λ y. IsSlice w r.total (r.from + (t + k * r.threads)) y in
          let Q : ℕ → Type 0 = λ n. IsSlice w r.total n x in
          subst P (sym (get_or_push xs x d k last)) (subst Q (before.next ∙ ap (λ n. r.from + (t + n * r.threads)) last) here)
    ]

-- with one slice more
pub turned_on : (w : WorkValue) (r : Round) (t next after : ℕ) (xs more : List PieceResultValue) (x : PieceResultValue) → Turned w r t xs next → IsSlice w r.total next x → more ≡ xs ++ x ∷ [] → after ≡ next + r.threads → Turned w r t more after
turned_on w r t next after xs more x before here pushed is =
    let longer = one_longer xs more x pushed in
    let rows : length more * r.threads ≡ suc (length xs) * r.threads = ap (λ n. n * r.threads) longer in
    record {
      each = λ k d l.
          let P : List PieceResultValue → Type 0 = λ ys. IsSlice w r.total (r.from + (t + k * r.threads)) (get_or ys k d) in
          subst P (sym pushed) (turn_each w r t next xs x before here k d (omega (arith, l, longer)));
      next = omega (arith, is, before.next, rows);
    }

pub turned_all : (w : WorkValue) (r : Round) (t next : ℕ) (xs : List PieceResultValue) → Turned w r t xs next → r.to ≤ next → IsFoundBy w r t xs
turned_all w r t next xs is all = record { each = is.each; all = omega (arith, is.next, all) }

-- where a slice of a round stands: what thread has it, and as which of its slices
pub standing : (r : Round) (slice : ℕ) → r.from ≤ slice → r.from + ((slice - r.from) % r.threads + (slice - r.from) / r.threads * r.threads) ≡ slice
standing r slice from = omega (arith, from, mod-add-div' (slice - r.from) r.threads)

pub turn_within : (w : WorkValue) (r : Round) (slice : ℕ) (xs : List PieceResultValue) → r.from ≤ slice → slice < r.to → IsFoundBy w r ((slice - r.from) % r.threads) xs → (slice - r.from) / r.threads < length xs
turn_within w r slice xs from less found =
    elim (cases_lt ((slice - r.from) / r.threads) (length xs)) [
      | inl inside ↦ inside
      | inr behind ↦ absurd (omega (arith, standing r slice from, found.all, less, mul-le-mul_right r.threads behind))
    ]

pub turn_is : (w : WorkValue) (r : Round) (slice : ℕ) (xs : List PieceResultValue) (x : PieceResultValue) → r.from ≤ slice → slice < r.to → IsFoundBy w r ((slice - r.from) % r.threads) xs
    → x ≡ get_or xs ((slice - r.from) / r.threads) x → IsSlice w r.total slice x
turn_is w r slice xs x from less found is =
    let n = (slice - r.from) / r.threads in
    let P : PieceResultValue → Type 0 = λ y. IsSlice w r.total (r.from + ((slice - r.from) % r.threads + n * r.threads)) y in
    let Q : ℕ → Type 0 = λ m. IsSlice w r.total m x in
    subst Q (standing r slice from) (subst P (sym is) (found.each n x (turn_within w r slice xs from less found)))

-- what the threads found has the result of each slice of the round
pub found_is : {A E : Type 0} (v w : WorkValue) (r : Round) (slice t n : ℕ) (xs : List (Result (Vec PieceResultValue A) E)) (x : Result (Vec PieceResultValue A) E) (turns : Vec PieceResultValue A) (y z : PieceResultValue) → 1 ≤ r.threads → r.from ≤ slice → slice < r.to
    → t ≡ (slice - r.from) % r.threads → n ≡ (slice - r.from) / r.threads → length xs ≡ r.threads → AreFound w r xs → x ≡ get_or xs t x → x ≡ Ok turns → y ≡ get_or turns.items n y → z ≡ y → v ≡ w → IsSlice v r.total slice z
found_is {A} {E} v w r slice t n xs x turns y z some from less thread turn all found here is at same work =
    let inside : t < length xs = omega (arith, thread, some, all) in
    let P : Result (Vec PieceResultValue A) E → Type 0 = λ q. IfOk q (λ u. IsFoundBy w r t u.items) in
    let mine : IsFoundBy w r t turns.items = subst P is (subst P (sym here) (found t x inside)) in
    let Q : ℕ → Type 0 = λ k. IsFoundBy w r k turns.items in
    let part = turn_is w r slice turns.items y from less (subst Q thread mine) (at ∙ ap (λ k. get_or turns.items k y) turn) in
    let R : PieceResultValue → Type 0 = λ p. IsSlice w r.total slice p in
    let S : WorkValue → Type 0 = λ u. IsSlice u r.total slice z in
    subst S (sym work) (subst R (sym same) part)

-- a tally under another number that is the same
pub counted : (total n m : ℕ) (t : TallyValue) → n ≡ m → HasFirst total n t → HasFirst total m t
counted total n m t is h = subst (λ k. HasFirst total k t) is h

pub both_ok : {T E : Type 0} (r : Result T E) (P Q : T → Type 0) → IfOk r P → IfOk r Q → IfOk r (λ x. P x × Q x)
both_ok (Ok x) P Q p q = (p, q)
both_ok (Err e) P Q p q = tt

-- a tally with one slice more
pub one_more : (total done : ℕ) (old new : TallyValue) (r : PieceResultValue) → HasFirst total done old → done < total → IsSlice old.work total done r
    → new ≡ record old { spans = old.spans ++ span_of r ∷ [] } → HasFirst total (done + 1) new
one_more total done old new r before less here merged =
    let C : WorkValue → Type 0 = λ w. IsCourse (record { work = w; total = total; done = done + 1 }) new in
    subst C (sym (ap (λ (x : TallyValue). x.work) merged)) (stepped _ old new r before less here.1 here.2 merged)

-- a tally with none yet
pub none_yet : (total : ℕ) (w : WorkValue) (t : TallyValue) → 1 ≤ total → t ≡ record { work = w; spans = [] } → HasFirst total 0 t
none_yet total w t some is =
    let C : WorkValue → Type 0 = λ v. IsCourse (record { work = v; total = total; done = 0 }) t in
    subst C (sym (ap (λ (x : TallyValue). x.work) is)) (begun w total t some is)

-- what is found of a work, of the same work and in the same list
pub found_for : {A E : Type 0} (v w : WorkValue) (r : Round) (xs ys : List (Result (Vec PieceResultValue A) E)) → v ≡ w → ys ≡ xs → AreFound w r xs → AreFound v r ys
found_for {A} {E} v w r xs ys same list found =
    let P : List (Result (Vec PieceResultValue A) E) → Type 0 = λ l. AreFound w r l in
    let Q : WorkValue → Type 0 = λ u. AreFound u r ys in
    subst Q (sym same) (subst P (sym list) found)
