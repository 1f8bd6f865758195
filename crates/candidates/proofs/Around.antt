-- The block around the execution that a walk shows.
use Rattle.std.proofs.Common.{◌≡◌, ℕ, zero, suc, ◌+◌, ◌-◌, ◌%◌, ◌<◌, ◌≤◌, List, [], ◌∷◌, length, get_or, Some, refl, sym, ◌∙◌, ap, inl, inr, subst, arith}
use Rattle.std.proofs.lemmas.Bool.{cases_lt}
use Rattle.events.specs.Executions.{GraphValue}
use Rattle.candidates.specs.declared.depths.Depth.{Depth}
use Rattle.candidates.specs.declared.page.Scene.{Scene}
use Rattle.candidates.specs.declared.walk.Section.{Section}
use Rattle.candidates.specs.Blocks.{AllExtend, AllHaveWrites, HasWritesOf, cut_of}
use Rattle.candidates.proofs.Writes.{same_writes}
use Rattle.candidates.specs.Candidates.{Choices, candidate, graph_at, is_consistent}
use Rattle.candidates.specs.Depths.{cut_at, depths_of, end_at, place_of}
use Rattle.candidates.specs.Walks.{HasNoSection, IsSection, IsJustFound, IsScene}
use Rattle.candidates.proofs.Law.{shown}

pub end_there : (s : Choices) (ds : List Depth) (k i : ℕ) (d : Depth) → k < length ds → d ≡ get_or ds k d → end_at s ds k i ≡ i + (d.size - place_of s i % d.size)
end_there s [] k i d l e = absurd (omega (arith, l))
end_there s (x ∷ xs) zero i d l e = ap (λ (y : Depth). i + (y.size - place_of s i % y.size)) (sym e)
end_there s (x ∷ xs) (suc k) i d l e = end_there s xs k i d (omega (arith, l)) e

end_none : (s : Choices) (ds : List Depth) (k i : ℕ) → length ds ≤ k → end_at s ds k i ≡ i + 1
end_none s [] k i l = refl
end_none s (x ∷ xs) zero i l = absurd (omega (arith, l))
end_none s (x ∷ xs) (suc k) i l = end_none s xs k i (omega (arith, l))

pub cut_there : (x : GraphValue) (ds : List Depth) (k : ℕ) (d : Depth) → k < length ds → d ≡ get_or ds k d → cut_at x ds k ≡ cut_of d.known x
cut_there x [] k d l e = absurd (omega (arith, l))
cut_there x (y ∷ ys) zero d l e = ap (λ (z : Depth). cut_of z.known x) (sym e)
cut_there x (y ∷ ys) (suc k) d l e = cut_there x ys k d (omega (arith, l)) e

-- the number before n stands so far behind the first of its runs
place_is : (s : Choices) (c : Scene) (n k : ℕ) (r : Section) → IsSection s c.stretch n k r → place_of s (n - 1) ≡ r.place
place_is s c n k r h =
    let e : n - 1 ≡ c.stretch.first + r.place = omega (arith, h.place) in
    ap (place_of s) e ∙ h.stretch.place r.place h.within

pub block_end : (s : Choices) (c : Scene) (n k : ℕ) (r : Section) → IsScene s c → IsSection s c.stretch n k r → r.end ≡ end_at s (depths_of (length s.init) c.graph.runs) k (n - 1)
block_end s c n k r v h =
    h.ends ∙ ap (λ p. n - 1 + (h.at.size - p % h.at.size)) (sym (place_is s c n k r h))
    ∙ sym (end_there s c.stretch.page.depths.items k (n - 1) h.at h.inside h.there) ∙ ap (λ ds. end_at s ds k (n - 1)) v.depths

-- what is shown has the initial values of the space, and the runs of the stretch
pub parts_shown : (s : Choices) (c : Scene) → IsScene s c → 1 ≤ c.stretch.size → (length c.graph.init ≡ length s.init) × (c.graph.runs ≡ c.stretch.page.runs.items)
parts_shown s c v l = let w = v.seen l in (ap (λ (x : GraphValue). length x.init) w.0, ap (λ (x : GraphValue). x.runs) w.0)

pub block_cut : (s : Choices) (c : Scene) (n k : ℕ) (r : Section) → IsScene s c → IsSection s c.stretch n k r → cut_of r.known c.graph ≡ cut_at c.graph (depths_of (length s.init) c.graph.runs) k
block_cut s c n k r v h =
    ap (λ z. cut_of z c.graph) h.known ∙ sym (cut_there c.graph c.stretch.page.depths.items k h.at h.inside h.there) ∙ ap (λ ds. cut_at c.graph ds k) v.depths

-- The block's executions extend what is known of the one that is shown, where that is the one at the number before n.
pub block_extends : (s : Choices) (c : Scene) (n k : ℕ) (r : Section) → IsScene s c → IsSection s c.stretch n k r → r.place ≡ c.hit.at → AllExtend s (n - 1) r.end (cut_of r.known c.graph)
block_extends s c n k r v h e =
    let seen = v.seen (omega (arith, h.within)) in
    let P : GraphValue → Type 0 = λ x. AllExtend s (n - 1) r.end (cut_of r.known x) in
    subst P (ap (candidate s.init c.stretch.page.runs.items) e ∙ sym seen.0) h.extend

-- And each has the writes of the one that is shown in its orders.
pub block_writes : (s : Choices) (c : Scene) (n k : ℕ) (r : Section) → IsScene s c → IsSection s c.stretch n k r → AllHaveWrites s (n - 1) r.end c.graph
block_writes s c n k r v h = λ m lo hi x at. (
    let seen = v.seen (omega (arith, h.within)) in
    let runs = c.stretch.page.runs.items in
    let a = h.alike m lo hi x at in
    let P : GraphValue → Type 0 = λ g. HasWritesOf g x in
    let Q : GraphValue → Type 0 = HasWritesOf (candidate s.init runs c.hit.at) in
    subst P (sym seen.0) (subst Q (sym a.1) (same_writes s.init runs c.hit.at a.0)))

-- What is shown stands at its number.
pub shown_at : (s : Choices) (c : Scene) → IsScene s c → 1 ≤ c.stretch.size → graph_at s (c.stretch.first + c.hit.at) ≡ Some c.graph
shown_at s c v some =
    let w = v.seen some in
    let at = (v.stretch.whole some).at c.hit.at (v.within some) in
    shown s (c.stretch.first + c.hit.at) (ap is_consistent at ∙ w.1) ∙ ap (λ (x : GraphValue). Some x) (at ∙ sym w.0)

-- Where the walk has just found what it shows, that is the execution at the number before n.
pub just_found : (s : Choices) (c : Scene) (n to : ℕ) → IsScene s c → IsJustFound (record { space = s; next = n; to = to; shown = c.graph }) → 1 ≤ c.stretch.size → n ≡ c.stretch.first + c.hit.at + 1
just_found s c n to v f some = let i = f.once (c.stretch.first + c.hit.at) (shown_at s c v some) in omega (arith, i, f.some)

-- Then a depth without a block is behind all that there are.
few_depths : (s : Choices) (c : Scene) (n to k : ℕ) → IsScene s c → HasNoSection c.stretch n k → IsJustFound (record { space = s; next = n; to = to; shown = c.graph }) → length c.stretch.page.depths.items ≤ k
few_depths s c n to k v h f = elim (cases_lt 0 c.stretch.size) [
  | inl l ↦ (let some : 1 ≤ c.stretch.size = omega (arith, l) in h c.hit.at (v.within some, just_found s c n to v f some))
  | inr l ↦ (let none = ap (λ (ds : List Depth). length ds) (v.none (omega (arith, l))) in omega (arith, none))
]

pub few_around : (s : Choices) (c : Scene) (n to k : ℕ) → IsScene s c → HasNoSection c.stretch n k → IsJustFound (record { space = s; next = n; to = to; shown = c.graph }) → length (depths_of (length s.init) c.graph.runs) ≤ k
few_around s c n to k v h f = let e = ap (λ (ds : List Depth). length ds) v.depths in omega (arith, e, few_depths s c n to k v h f)

pub alone_end : (s : Choices) (c : Scene) (n to k : ℕ) → IsScene s c → HasNoSection c.stretch n k → IsJustFound (record { space = s; next = n; to = to; shown = c.graph }) → n ≡ end_at s (depths_of (length s.init) c.graph.runs) k (n - 1)
alone_end s c n to k v h f =
    let e : n ≡ n - 1 + 1 = omega (arith, f.some) in
    e ∙ sym (end_none s (depths_of (length s.init) c.graph.runs) k (n - 1) (few_around s c n to k v h f))
