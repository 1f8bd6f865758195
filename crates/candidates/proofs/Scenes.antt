-- What a walk has at hand once it has found an execution.
use Rattle.std.proofs.Common.{◌≡◌, ◌∙◌, ℕ, ◌+◌, ◌/◌, ◌%◌, ◌≤◌, List, [], Option, Some, None, length, subst, sym, ap, inl, inr, arith}
use Rattle.std.proofs.lemmas.Bool.{cases_lt}
use Rattle.std.specs.Prelude.{IfSome}
use Rattle.events.specs.declared.graph.GraphParts.{GraphParts}
use Rattle.events.specs.Executions.{GraphValue, ThreadRun}
use Rattle.candidates.specs.Candidates.{Choices, candidate, count_co, orders_by, rf_at}
use Rattle.candidates.specs.Outlines.{HasNumber}
use Rattle.candidates.specs.Depths.{depths_of}
use Rattle.candidates.specs.Levels.{ArePlaced}
use Rattle.candidates.specs.Readings.{MayBeStretch}
use Rattle.candidates.specs.Walks.{IsAhead, IsFound, IsNumberOf, IsScene, NoneFrom}
use Rattle.candidates.specs.declared.page.Ahead.{Ahead}
use Rattle.candidates.specs.declared.page.Scene.{Scene}
use Rattle.candidates.specs.declared.page.Stretch.{Stretch}
use Rattle.candidates.specs.declared.reading.Hit.{Hit}
use Rattle.candidates.proofs.Placed.{placed_none}

-- none up to a number, and none behind it
pub none_on : (s : Choices) (a n b : ℕ) → NoneFrom s a n → NoneFrom s n b → NoneFrom s a b
none_on s a n b before behind m l h = elim (cases_lt m n) [
  | inl early ↦ before m l early
  | inr late ↦ behind m late h
]

-- the first from a number on, where none is before that number
pub found_on : (s : Choices) (a n : ℕ) (b : Stretch) (h : Hit) → a ≤ n → NoneFrom s a n → IsFound s n b h → IsFound s a b h
found_on s a n b h l none f = record {
  stretch = f.stretch;
  order = omega (arith, l, f.order);
  within = f.within;
  none = none_on s a n (b.first + h.at) none f.none;
  known = f.known;
}

pub ahead_kept : (s : Choices) (x a : Ahead) (b : Stretch) → x.stretch ≡ b → x.levels ≡ a.levels → MayBeStretch s b → IsAhead s a → IsAhead s x
ahead_kept s x a b same levels m h =
    let P : Stretch → Type 0 = λ c. MayBeStretch s c in
    record { stretch = subst P (sym same) m; levels = rw levels h.levels }

shown : (s : Choices) (x : Scene) (n : ℕ) → IsFound s n x.stretch x.hit → x.graph ≡ candidate s.init x.stretch.page.runs.items x.hit.at → ArePlaced s.threads x.graph.runs x.places.items → ArePlaced s.threads x.room.runs.items x.room_places.items → IsNumberOf (length s.init) x → IsAhead s x.ahead → IsScene s x
shown s x n f is placed room number ahead = record {
  stretch = record { whole = λ l. f.stretch; placed = f.stretch.placed };
  none = λ z. absurd (omega (arith, z, f.within));
  within = λ l. f.within;
  seen = λ l. (is, f.known.holds);
  known = λ l. f.known;
  depths = f.stretch.depths ∙ ap (λ (g : GraphValue). depths_of (length s.init) g.runs) (sym is);
  placed = placed;
  room = room;
  number = number;
  ahead = ahead;
}

-- The execution that is found is shown.
pub scene_shown : (s : Choices) (x : Scene) (init : List ℕ) (n : ℕ) (b : Stretch) (h : Hit) → init ≡ s.init → x.stretch ≡ b → x.hit ≡ h → x.graph ≡ candidate init b.page.runs.items h.at → IsFound s n b h → ArePlaced s.threads x.graph.runs x.places.items → ArePlaced s.threads x.room.runs.items x.room_places.items → IsNumberOf (length s.init) x → IsAhead s x.ahead → IsScene s x
scene_shown s x init n b h own same hit is f placed room number ahead =
    let P : Stretch → Type 0 = λ c. IsFound s n c h in
    let Q : Hit → Type 0 = λ k. IsFound s n x.stretch k in
    shown s x n (subst Q (sym hit) (subst P (sym same) f))
    (is ∙ ap (λ (is : List ℕ). candidate is b.page.runs.items h.at) own ∙ ap (λ (c : Stretch). candidate s.init c.page.runs.items h.at) (sym same) ∙ ap (λ (k : Hit). candidate s.init x.stretch.page.runs.items k.at) (sym hit)) placed room number ahead

-- Another execution may be looked for while the same is shown.
pub scene_kept : (s : Choices) (x y : Scene) (a : Ahead) → x.stretch ≡ y.stretch → x.ahead ≡ a → x.graph ≡ y.graph → x.hit ≡ y.hit → x.places ≡ y.places → x.room_places.items ≡ [] → x.room_number ≡ None → IsScene s y → IsAhead s a → IsScene s x
scene_kept s x y a same at graph hit places left gone h ahead = record {
  stretch = rw same h.stretch;
  none = rw same h.none;
  within = rw (same, hit) h.within;
  seen = rw (same, graph, hit) h.seen;
  known = rw (same, hit) h.known;
  depths = ap (λ (b : Stretch). b.page.depths.items) same ∙ h.depths ∙ ap (λ (g : GraphValue). depths_of (length s.init) g.runs) (sym graph);
  placed = rw (graph, places) h.placed;
  room = placed_none s.threads _ _ left;
  number = (let P : Option ℕ → Type 0 = λ o. IfSome o (HasNumber (length s.init) x.room) in subst P (sym gone) tt);
  ahead = rw at ahead;
}

-- The parts of what is shown, where its number is known.
pub number_on : (s : Choices) (y : Scene) (parts : GraphParts) (o : Option ℕ) → IsScene s y → parts.rf.items ≡ y.graph.rf → parts.co.items ≡ y.graph.co → parts.runs.items ≡ y.graph.runs → IfSome o (λ k. (1 ≤ y.stretch.size) × (k ≡ y.hit.at)) → IfSome o (HasNumber (length s.init) parts)
number_on s y parts None h f c r e = tt
number_on s y parts (Some k) h f c r e =
    let n = length s.init in
    let runs = y.stretch.page.runs.items in
    let seen = (h.seen e.0).0 in
    let same : parts.runs.items ≡ runs = r ∙ ap (λ (g : GraphValue). g.runs) seen in
    let P : List ThreadRun → Type 0 = λ rs. (parts.rf.items ≡ rf_at rs (k / count_co n rs)) × (parts.co.items ≡ orders_by n rs (k % count_co n rs)) in
    subst P (sym same) (
      f ∙ ap (λ (g : GraphValue). g.rf) seen ∙ ap (λ m. rf_at runs (m / count_co n runs)) (sym e.1),
      c ∙ ap (λ (g : GraphValue). g.co) seen ∙ ap (λ m. orders_by n runs (m % count_co n runs)) (sym e.1),
    )
