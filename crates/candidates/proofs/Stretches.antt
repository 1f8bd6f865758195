-- What is found at the numbers of a stretch.
use Rattle.std.proofs.Common.{◌≡◌, ℕ, ◌+◌, ◌-◌, ◌*◌, ◌<◌, ◌≤◌, List, length, refl, sym, ◌∙◌, ap, subst, arith}
use Rattle.events.specs.Executions.{ThreadRun}
use Rattle.candidates.specs.declared.reading.Hit.{Hit}
use Rattle.candidates.specs.declared.reading.Look.TheVariants.{Until}
use Rattle.candidates.specs.declared.page.Page.{Page}
use Rattle.candidates.specs.declared.page.Stretch.{Stretch}
use Rattle.candidates.specs.declared.fault.TheConstants.{MOST_CANDIDATES}
use Rattle.candidates.specs.Depths.{depths_of, place_of}
use Rattle.candidates.specs.Executions.{block}
use Rattle.candidates.specs.Levels.{ArePlaced}
use Rattle.candidates.specs.Candidates.{Choices, candidate, candidate_at, is_consistent, size_of}
use Rattle.candidates.specs.Readings.{HasSuitable, IsFirst, IsLook, IsPage, IsStretch}
use Rattle.candidates.specs.Walks.{IsFound, IsPast}
use Rattle.candidates.proofs.Law.{hidden}

-- The ways to read and to order are those of a block.
pub whole_page : (n : ℕ) (p : Page) → IsPage n p → p.ways * p.orders ≡ block n p.runs.items
whole_page n p h = rw (h.ways, h.orders) refl

pub stretch_of : (s : Choices) (runs : List ThreadRun) (n first : ℕ) (b : Stretch) → n ≡ length s.init → IsPage n b.page → HasSuitable s.init b.page → b.page.runs.items ≡ runs → b.first ≡ first → b.size ≡ b.page.ways * b.page.orders → first + block (length s.init) runs ≤ size_of s → size_of s ≤ MOST_CANDIDATES → ((j : ℕ) → j < block (length s.init) runs → candidate_at s (first + j) ≡ candidate s.init runs j) → ((j : ℕ) → j < block (length s.init) runs → place_of s (first + j) ≡ j) → b.page.depths.items ≡ depths_of n b.page.runs.items → ArePlaced s.threads b.page.runs.items b.page.places.items → IsStretch s b
stretch_of s runs n first b same page fits are is size most small at place depths placed =
    let P : ℕ → Type 0 = λ m. IsPage m b.page in
    let q : IsPage (length s.init) b.page = subst P same page in
    let w : b.size ≡ block (length s.init) b.page.runs.items = size ∙ whole_page (length s.init) b.page q in
    let R : List ThreadRun → Type 0 = λ rs. (first + block (length s.init) rs ≤ size_of s) × ((j : ℕ) → j < block (length s.init) rs → candidate_at s (first + j) ≡ candidate s.init rs j) × ((j : ℕ) → j < block (length s.init) rs → place_of s (first + j) ≡ j) in
    let k = subst R (sym are) (most, at, place) in
    record {
      page = q;
      fits = fits;
      size = w;
      most = omega (arith, is, w, k.0);
      small = omega (arith, is, w, k.0, small);
      at = λ j l. ap (λ m. candidate_at s (m + j)) is ∙ k.1 j (omega (arith, l, w));
      place = λ j l. ap (λ m. place_of s (m + j)) is ∙ k.2 j (omega (arith, l, w));
      depths = depths ∙ ap (λ m. depths_of m b.page.runs.items) same;
      placed = placed;
    }

-- the candidate at a number of a stretch
at_number : (s : Choices) (b : Stretch) (n : ℕ) → IsStretch s b → b.first ≤ n → n < b.first + b.size → candidate_at s n ≡ candidate s.init b.page.runs.items (n - b.first)
at_number s b n h l m =
    let e : n ≡ b.first + (n - b.first) = omega (arith, l) in
    ap (candidate_at s) e ∙ h.at (n - b.first) (omega (arith, l, m))

pub none_here : (s : Choices) (b : Stretch) (n : ℕ) (init : List ℕ) (last : ℕ) → init ≡ s.init → IsStretch s b → b.first ≤ n → n < b.first + b.size → IsLook init b.page.runs.items (n - b.first) (Until last) → IsPast s n (b.first + last)
none_here s b n init last is h l m look =
    let P : List ℕ → Type 0 = λ vs. IsLook vs b.page.runs.items (n - b.first) (Until last) in
    let k = subst P is look in (
      omega (arith, k.0, l),
      omega (arith, k.1, h.size, h.most),
      λ x a c. hidden s x (ap is_consistent (at_number s b x h (omega (arith, a, l)) (omega (arith, c, k.1, h.size))) ∙ k.2 (x - b.first) (omega (arith, a, l)) (omega (arith, c, a, l))),
    )

-- What is first from a place of the stretch on is first from a number on.
pub found_here : (s : Choices) (b : Stretch) (n : ℕ) (init : List ℕ) (h : Hit) → init ≡ s.init → IsStretch s b → b.first ≤ n → n < b.first + b.size → IsFirst init b.page.runs.items (n - b.first) h → IsFound s n b h
found_here s b n init h is q l m look =
    let P : List ℕ → Type 0 = λ vs. IsFirst vs b.page.runs.items (n - b.first) h in
    let k = subst P is look in
    record {
      stretch = q;
      order = omega (arith, k.order, l);
      within = omega (arith, k.known.within, q.size);
      none = λ x a c. hidden s x (ap is_consistent (at_number s b x q (omega (arith, a, l)) (omega (arith, c, k.known.within, q.size))) ∙ k.none (x - b.first) (omega (arith, a, l)) (omega (arith, c, a, l)));
      known = k.known;
    }
