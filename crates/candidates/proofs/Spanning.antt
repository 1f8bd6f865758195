-- The numbers that share a quotient stand one behind another.
use Rattle.std.proofs.Common.{◌≡◌, ℕ, zero, suc, ◌+◌, ◌-◌, ◌*◌, ◌/◌, ◌%◌, ◌<◌, ◌≤◌, List, [], ◌∷◌, length, drop, Bool, true, false, nat_lt, get_or, Option, Some, None, if◌then◌else◌, refl, sym, ◌∙◌, ap, subst, inl, inr, arith}
use Rattle.std.specs.List.{All}
use Rattle.std.proofs.lemmas.Bool.{ltb-true}
use Rattle.std.proofs.Math.Nat.{mul_assoc, mul_comm, eq-zero-or-pos, div-add-mod, mod-lt, zero-mul, div-lt_iff_lt-mul, mul-le-mul_right, add-mul}
use Rattle.std.proofs.lemmas.Nat.{div-mul-add}
use Rattle.events.specs.Executions.{GraphValue, ThreadRun}
use Rattle.events.specs.Extends.{Extends}
use Rattle.listings.specs.Lists.{product_by}
use Rattle.candidates.specs.declared.depths.Depth.{Depth}
use Rattle.candidates.specs.declared.depths.Known.{Known}
use Rattle.candidates.specs.declared.depths.Known.TheVariants.{Sources, Orders}
use Rattle.candidates.specs.declared.page.Stretch.{Stretch}
use Rattle.candidates.specs.Executions.{reads, upto, block}
use Rattle.candidates.specs.Candidates.{Choices, candidate, candidate_at, graph_at, is_consistent, size_of, count_sources, count_co}
use Rattle.candidates.specs.Readings.{IsStretch}
use Rattle.candidates.specs.Blocks.{AllExtend, AllOfRuns, IsDepth, size_by, cut_of}
use Rattle.candidates.specs.Depths.{has_places, knows_places}
use Rattle.candidates.specs.Walks.{IsSection}
use Rattle.candidates.proofs.Cutting.{ways_divide, sources_split}
use Rattle.candidates.proofs.Openings.{extends_cut}

quotient_is : (m q d : ℕ) → q * d ≤ m → m < q * d + d → m / d ≡ q
quotient_is m q d l u =
    let r : ℕ = m - q * d in
    let is : m ≡ q * d + r = omega (arith, l) in
    ap (λ z. z / d) is ∙ div-mul-add q d r (omega (arith, l, u))

-- a number stands in its block
begins_before : (j d : ℕ) → (j / d) * d + j % d ≡ j
begins_before j d = let e : d * (j / d) + j % d ≡ j = div-add-mod j d in let c : (j / d) * d ≡ d * (j / d) = mul_comm (j / d) d in omega (arith, e, c)

divides_pos : (j d t n : ℕ) → n ≡ d * t → j < n → 0 < d
divides_pos j d t n e l = elim (eq-zero-or-pos d) [
  | inl z ↦ absurd (let f : d * t ≡ 0 = ap (λ c. c * t) z ∙ zero-mul t in omega (arith, e, f, l))
  | inr p ↦ p
]

-- blocks of a size that divides the whole end within it
ends_within : (j d t n : ℕ) → n ≡ d * t → j < n → (j / d) * d + d ≤ n
ends_within j d t n e l =
    let p : 0 < d = divides_pos j d t n e l in
    let c : d * t ≡ t * d = mul_comm d t in
    let f : j < t * d = omega (arith, e, l, c) in
    let q : j / d < t = (div-lt_iff_lt-mul p).1 f in
    let m : (j / d + 1) * d ≤ t * d = mul-le-mul_right d (omega (arith, q)) in
    let a : (j / d + 1) * d ≡ (j / d) * d + 1 * d = add-mul (j / d) 1 d in
    omega (arith, e, c, m, a)

some_one : (x y : GraphValue) → ◌≡◌ {A = Option GraphValue} (Some x) (Some y) → x ≡ y
some_one x y e = cc

pub none_some : (y : GraphValue) → ◌≡◌ {A = Option GraphValue} None (Some y) → ⊥
none_some y e = cc

-- what stands at a number is the candidate with it
stands : (b : Bool) (x y : GraphValue) → (if b then Some x else None) ≡ Some y → x ≡ y
stands true x y e = some_one x y e
stands false x y e = absurd (none_some y e)

-- From a number j of a stretch to the end of its block all executions are what the block's candidates are.
spans : (s : Choices) (b : Stretch) → IsStretch s b → (j d t : ℕ) (P : GraphValue → Type 0) → j < b.size → b.size ≡ d * t → ((i : ℕ) → j / d ≡ i / d → P (candidate s.init b.page.runs.items i)) →
    (m : ℕ) → b.first + j ≤ m → m < b.first + j + (d - j % d) → (x : GraphValue) → graph_at s m ≡ Some x → P x
spans s b h j d t P l e f = λ m lo hi x at. (
    let q : ℕ = j / d in
    let p : 0 < d = divides_pos j d t b.size e l in
    let below : q * d + d ≤ b.size = ends_within j d t b.size e l in
    let first : q * d + j % d ≡ j = begins_before j d in
    let rest : j % d < d = mod-lt j p in
    let i : ℕ = m - b.first in
    let is : m ≡ b.first + i = omega (arith, lo) in
    let same : j / d ≡ i / d = sym (quotient_is i q d (omega (arith, lo, first)) (omega (arith, lo, hi, first, rest))) in
    let here : candidate_at s m ≡ candidate s.init b.page.runs.items i = ap (λ z. candidate_at s z) is ∙ h.at i (omega (arith, lo, hi, below, first, rest)) in
    subst P (sym here ∙ stands (is_consistent (candidate_at s m)) (candidate_at s m) x at) (f i same))

-- The size of a depth divides the number of candidates, and those of a block extend the cut.
pub size_divides : (n : ℕ) (runs : List ThreadRun) (k : Known) → (t : ℕ) × (block n runs ≡ size_by n runs k * t)
size_divides n runs (Sources m) =
    let c : ℕ = count_co n runs in
    let r : ℕ = product_by (count_sources runs) (reads runs) in
    let p : ℕ = product_by (count_sources runs) (drop m (reads runs)) in
    let w = sources_split runs (reads runs) m in
    (w.0, mul_comm r c ∙ ap (λ z. c * z) w.1 ∙ sym (mul_assoc c p w.0))
size_divides n runs (Orders o) =
    let c : ℕ = count_co n runs in
    let r : ℕ = product_by (count_sources runs) (reads runs) in
    let w = ways_divide runs o.locations o.writes (upto n) in
    (w.0 * r, mul_comm r c ∙ ap (λ z. z * r) w.1 ∙ mul_assoc (size_by n runs (Orders o)) w.0 r)

-- A block's numbers are some of the stretch.
pub rest_within : (j d t n : ℕ) → n ≡ d * t → j < n → (j % d < d) × (j + (d - j % d) ≤ n)
rest_within j d t n e l =
    let p : 0 < d = divides_pos j d t n e l in
    let r : j % d < d = mod-lt j p in
    (r, omega (arith, r, begins_before j d, ends_within j d t n e l))

-- The block of some size around a number of a stretch.
pub block_ends : (s : Choices) (b : Stretch) → IsStretch s b → (d : Depth) → IsDepth (length s.init) b.page.runs.items d → (j : ℕ) → j < b.size → (j % d.size < d.size) × (j + (d.size - j % d.size) ≤ b.size)
block_ends s b h d k j l =
    let n : ℕ = length s.init in
    let runs : List ThreadRun = b.page.runs.items in
    let w = size_divides n runs d.known in
    rest_within j d.size w.0 b.size (h.size ∙ w.1 ∙ ap (λ z. z * w.0) (sym k.size)) l

pub section_is : (s : Choices) (b : Stretch) → IsStretch s b → (d : Depth) → IsDepth (length s.init) b.page.runs.items d → (j n e : ℕ) → j < b.size → n ≡ b.first + j + 1 → e ≡ n - 1 + (d.size - j % d.size) → (i : ℕ) → i < length b.page.depths.items → d ≡ get_or b.page.depths.items i d → IsSection s b n i (record { known = d.known; place = j; end = e })
section_is s b h d k j n e l at is i inside found =
    let init : List ℕ = s.init in
    let runs : List ThreadRun = b.page.runs.items in
    let w = size_divides (length init) runs d.known in
    let whole : b.size ≡ d.size * w.0 = h.size ∙ w.1 ∙ ap (λ z. z * w.0) (sym k.size) in
    let r = block_ends s b h d k j l in
    let most : b.first + b.size ≤ size_of s = h.most in
    let f : (i : ℕ) → j / d.size ≡ i / d.size → Extends (cut_of d.known (candidate init runs j)) (candidate init runs i) =
    (let P : ℕ → Type 0 = λ z. (i : ℕ) → j / z ≡ i / z → Extends (cut_of d.known (candidate init runs j)) (candidate init runs i) in subst P (sym k.size) (λ i q. extends_cut init runs d.known j i q)) in
    let here : n - 1 ≡ b.first + j = omega (arith, at) in
    let there : e ≡ b.first + j + (d.size - j % d.size) = omega (arith, is, here) in
    let Q : ℕ → ℕ → Type 0 = λ y z. AllExtend s y z (cut_of d.known (candidate init runs j)) in
    let Q1 : ℕ → Type 0 = λ y. Q y e in
    let Q2 : ℕ → Type 0 = λ z. Q (b.first + j) z in
    let R1 : ℕ → Type 0 = λ y. AllOfRuns s y e runs in
    let R2 : ℕ → Type 0 = λ z. AllOfRuns s (b.first + j) z runs in
    record {
      at = d;
      inside = inside;
      there = found;
      known = refl;
      ends = is;
      stretch = h;
      place = at;
      within = l;
      fits = k.fits;
      later = omega (arith, there, at, r.0);
      most = omega (arith, there, r.1, most);
      extend = subst Q1 (sym here) (subst Q2 (sym there) (spans s b h j d.size w.0 (Extends (cut_of d.known (candidate init runs j))) l whole f));
      alike = subst R1 (sym here) (subst R2 (sym there) (spans s b h j d.size w.0 (λ x. (i : ℕ) × (x ≡ candidate init runs i)) l whole (λ i q. (i, refl))));
    }

-- A depth of a stretch's page.
pub depth_is : (s : Choices) (b : Stretch) → IsStretch s b → (xs : List Depth) → xs ≡ b.page.depths.items → (i : ℕ) (d : Depth) → true ≡ nat_lt i (length xs) → d ≡ get_or xs i d → IsDepth (length s.init) b.page.runs.items d
depth_is s b h xs same i d l e =
    let P : Depth → Type 0 = IsDepth (length s.init) b.page.runs.items in
    let Q : List Depth → Type 0 = All P in
    let all : All P xs = subst Q (sym same) h.page.depths in
    subst P (sym e) (all i d (ltb-true i (length xs) (sym l)))

-- and where it stands
pub depth_there : (xs ys : List Depth) (i : ℕ) (d : Depth) → xs ≡ ys → true ≡ nat_lt i (length xs) → d ≡ get_or xs i d → (i < length ys) × (d ≡ get_or ys i d)
depth_there xs ys i d e l t = (
  (let b : i < length xs = ltb-true i (length xs) (sym l) in let k = ap (λ (ds : List Depth). length ds) e in omega (arith, b, k)),
  t ∙ ap (λ (ds : List Depth). get_or ds i d) e,
)

pub places_there : (ds : List Depth) (i : ℕ) (d : Depth) → i < length ds → d ≡ get_or ds i d → knows_places ds i ≡ has_places d.known
places_there [] i d l e = absurd (omega (arith, l))
places_there (x ∷ xs) zero d l e = ap (λ (y : Depth). has_places y.known) (sym e)
places_there (x ∷ xs) (suc i) d l e = places_there xs i d (omega (arith, l)) e

pub no_depth_there : (ds : List Depth) (i : ℕ) → length ds ≤ i → knows_places ds i ≡ true
no_depth_there [] i l = refl
no_depth_there (x ∷ xs) zero l = absurd (omega (arith, l))
no_depth_there (x ∷ xs) (suc i) l = no_depth_there xs i (omega (arith, l))
