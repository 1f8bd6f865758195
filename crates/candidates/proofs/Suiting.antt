-- The sources that the reads fit, read by read.
use Rattle.std.proofs.Common.{◌≡◌, ℕ, ◌+◌, ◌<◌, List, [], ◌∷◌, ◌++◌, length, get_or, take, refl, sym, ◌∙◌, ap, subst, inl, inr, arith}
use Rattle.std.proofs.lemmas.Bool.{cases_lt}
use Rattle.std.proofs.lemmas.List.{get_or_default, get_or-take, get_or_append_left, length-take-le}
use Rattle.std.proofs.Math.Seq.{get_or-append_seam}
use Rattle.events.specs.declared.event.Event.{Event}
use Rattle.events.specs.Executions.{ThreadRun}
use Rattle.candidates.specs.Readings.{AreSuitable, HasSuitable, HaveSuitable}
use Rattle.candidates.specs.declared.page.Page.{Page}
use Rattle.candidates.specs.declared.reading.Suitable.{Suitable}

-- What is kept of a read.
pub suitable_at : (init : List ℕ) (p : Page) (rs : List Event) (i : ℕ) (r : Event) (f : Suitable) → HasSuitable init p → rs ≡ p.reads.items → i < length rs → r ≡ get_or rs i r → f ≡ get_or p.suitable.items i f → AreSuitable init p.runs.items r f
suitable_at init p rs i r f h e l is at =
    let runs = p.runs.items in
    let many : length rs ≡ length p.reads.items = ap (λ (es : List Event). length es) e in
    let k = h.are.are i r f (omega (arith, l, many)) in
    let P : Event → Type 0 = λ x. AreSuitable init runs x f in
    let Q : Suitable → Type 0 = λ g. AreSuitable init runs (get_or p.reads.items i r) g in
    subst P (sym (is ∙ ap (λ (es : List Event). get_or es i r) e)) (subst Q (sym at) k)

-- Those of the first k reads, and no others.
abbrev pub IsSuited : List ℕ → List ThreadRun → List Event → List Suitable → ℕ → Type 0
IsSuited init runs rs fs k = (length fs ≡ k) × HaveSuitable init runs rs fs k

pub suited_cut : (init : List ℕ) (runs : List ThreadRun) (rs : List Event) (fs gs : List Suitable) (k : ℕ) → HaveSuitable init runs rs fs k → gs ≡ take k fs → IsSuited init runs rs gs k
suited_cut init runs rs fs gs k h is =
    let n : length gs ≡ k = ap (λ (xs : List Suitable). length xs) is ∙ length-take-le k fs h.fits in (
      n,
      record {
        reads = h.reads;
        fits = omega (arith, n);
        are = λ i r f l. (let Q : Suitable → Type 0 = λ g. AreSuitable init runs (get_or rs i r) g in
            subst Q (sym (ap (λ (xs : List Suitable). get_or xs i f) is ∙ get_or-take k fs i f l)) (h.are i r f l));
      },
    )

-- One read more.
pub suited_on : (init : List ℕ) (runs : List ThreadRun) (rs : List Event) (fs more : List Suitable) (k : ℕ) (r : Event) (f : Suitable) → k < length rs → r ≡ get_or rs k r → AreSuitable init runs r f → more ≡ fs ++ f ∷ [] → IsSuited init runs rs fs k → IsSuited init runs rs more (k + 1)
suited_on init runs rs fs more k r f l is new grown h = (
  n,
  record { reads = omega (arith, l); fits = omega (arith, n); are = at },
)
  where
    longer : (xs : List Suitable) → length (xs ++ f ∷ []) ≡ length xs + 1
    longer [] = refl
    longer (x ∷ xs) = let e = longer xs in omega (arith, e)

    n : length more ≡ k + 1
    n = ap (λ (xs : List Suitable). length xs) grown ∙ longer fs ∙ ap (λ m. m + 1) h.0

    Q : Event → Suitable → Type 0
    Q e g = AreSuitable init runs e g

    at : (i : ℕ) (e : Event) (g : Suitable) → i < k + 1 → AreSuitable init runs (get_or rs i e) (get_or more i g)
    at i e g b = elim (cases_lt i k) [
      | inl before ↦ subst (Q (get_or rs i e)) (sym (ap (λ (xs : List Suitable). get_or xs i g) grown ∙ get_or_append_left fs (f ∷ []) g i (omega (arith, before, h.0)))) (h.1.are i e g before)
      | inr here ↦ (let same : k ≡ i = omega (arith, here, b) in
          let len : length fs ≡ i = h.0 ∙ same in
          let last : f ≡ get_or more i g = sym (ap (λ (xs : List Suitable). get_or xs i g) grown ∙ ap (λ m. get_or (fs ++ f ∷ []) m g) (sym len) ∙ get_or-append_seam fs f [] g) in
          let read : r ≡ get_or rs i e = is ∙ ap (λ m. get_or rs m r) same ∙ get_or_default rs i r e (omega (arith, l, same)) in
          subst (Q (get_or rs i e)) last (let R : Event → Type 0 = λ x. AreSuitable init runs x f in subst R read new))
    ]
