-- What is told of several lists of executions, taken together.
use Rattle.std.proofs.Common.{◌≡◌, ℕ, List, [], ◌∷◌, Bool, not, count_by, refl, sym, ap, ◌∙◌, inl, inr, arith}
use Rattle.cat_tree.specs.Tree.{Clause}
use Rattle.events.specs.Executions.{GraphValue}
use Rattle.listings.specs.Lists.{IsIn, Lists, ForEach, sum_of}
use Rattle.litmus_tree.specs.Tree.{Litmus, Word}
use Rattle.conditions.specs.Conditions.{Formula}
use Rattle.conditions.specs.States.{AreObserved}
use Rattle.conditions.specs.declared.condition.Kind.{Kind}
use Rattle.conditions.specs.declared.place.Place.{Place}
use Rattle.conditions.proofs.ObservedPlaces.{same_observed}
use Rattle.slices.specs.Finals.{obs, has}
use Rattle.slices.specs.Findings.{FindingValue}
use Rattle.slices.specs.Parts.{PieceResultValue, IsPart}
use Rattle.slices.specs.Verdicts.{Tells}
use Rattle.slices.specs.Works.{WorkValue}
use Rattle.slices.proofs.Members.{lists_same, count-append}
use Rattle.world.specs.Merging.{IsMerged, findings, MergedVerdict, OneVerdict}
use Rattle.world.proofs.Members.{joined, for_each_in, for_each_of, in_joined, joined_in, same_count}
use Rattle.world.proofs.Merged.{IsOf, answers_listed}
use Rattle.slices.proofs.Sorted.{same_sorted}

abbrev IsTold : Litmus → List Clause → FindingValue → List GraphValue → Type 0
IsTold t items v xs = Tells t items xs v

joined_count : (t : Litmus) (items : List Clause) (places : List Place) (part : FindingValue → ℕ) (p : List Place → GraphValue → Bool) → ((v : FindingValue) (xs : List GraphValue) → Tells t items xs v → part v ≡ count_by (p v.places) xs) → AreObserved t.condition t.listed places → (vs : List FindingValue) (xss : List (List GraphValue)) → ForEach (IsTold t items) vs xss → sum_of part vs ≡ count_by (p places) (joined xss)
joined_count t items places part p says observed [] [] h = refl
joined_count t items places part p says observed [] (xs ∷ xss) h = absurd h
joined_count t items places part p says observed (v ∷ vs) [] h = absurd h
joined_count t items places part p says observed (v ∷ vs) (xs ∷ xss) h =
    let rest = joined_count t items places part p says observed vs xss h.1 in
    let first = says v xs h.0 ∙ ap (λ ps. count_by (p ps) xs) (same_observed t.condition t.listed v.places places h.0.places observed) in
    omega (arith, first, rest, count-append (p places) xs (joined xss))

tells_joined : (t : Litmus) (items : List Clause) (vs : List FindingValue) (xss : List (List GraphValue)) (v : FindingValue) → ForEach (IsTold t items) vs xss → IsMerged t vs v → Tells t items (joined xss) v
tells_joined t items vs xss v h m = record {
  name = m.name;
  kind = m.kind;
  formula = m.formula;
  places = m.places;
  positive = m.positive ∙ joined_count t items v.places (λ w. w.positive) (has t) (λ w xs told. told.positive) m.places vs xss h;
  negative = m.negative ∙ joined_count t items v.places (λ w. w.negative) (λ ps x. not (has t ps x)) (λ w xs told. told.negative) m.places vs xss h;
  states = lists_same
      (λ s q. (let r = for_each_in (IsTold t items) vs xss h q.0 q.1 in
      let x = r.2.states.only s q.2 in
      (x.0, joined_in xss r.0 x.0 r.1 x.1, x.2 ∙ ap (λ ps. obs t ps x.0) (same_observed t.condition t.listed q.0.places v.places r.2.places m.places))))
      (λ s q. (let j = in_joined xss q.0 q.1 in
      let r = for_each_of (IsTold t items) vs xss h j.0 j.1 in
      (r.0, r.1, r.2.states.all s (q.0, j.2, q.2 ∙ ap (λ ps. obs t ps q.0) (same_observed t.condition t.listed v.places r.0.places m.places r.2.places)))))
      m.states;
  sorted = m.sorted;
  flags = lists_same
      (λ s q. (let r = for_each_in (IsTold t items) vs xss h q.0 q.1 in
      let x = r.2.flags.only s q.2 in
      (x.0, joined_in xss r.0 x.0 r.1 x.1, x.2)))
      (λ s q. (let j = in_joined xss q.0 q.1 in
      let r = for_each_of (IsTold t items) vs xss h j.0 j.1 in
      (r.0, r.1, r.2.flags.all s (q.0, j.2, q.2))))
      m.flags;
  in_order = m.in_order;
}

-- the lists that the parts are about
lists_of : (w : WorkValue) (parts : List PieceResultValue) → ((r : PieceResultValue) → IsIn r parts → IsPart w.test w.model.items r.piece.from r.piece.to r.found) → (xss : List (List GraphValue)) × ForEach (IsOf w) parts xss × ForEach (IsTold w.test w.model.items) (findings parts) xss
lists_of w [] right = ([], tt, tt)
lists_of w (r ∷ rs) right =
    let first = right r (inl refl) in
    let rest = lists_of w rs (λ q p. right q (inr p)) in
    (first.0 ∷ rest.0, (first.1, rest.1), (first.2, rest.2))

pub merged_verdict : MergedVerdict
merged_verdict w slices parts v cover answers m =
    let l = lists_of w parts answers.right in
    (joined l.0, answers_listed w slices parts l.0 cover answers l.1, tells_joined w.test w.model.items (findings parts) l.0 v l.2 m)

-- two findings that are told of the same executions

abbrev finding : Word → Kind → Formula → List Place → ℕ → ℕ → List (List ℕ) → List Word → FindingValue
finding x k f ps n m ss fs = record { name = x; kind = k; formula = f; places = ps; positive = n; negative = m; states = ss; flags = fs }

same_parts : (a b : FindingValue) → a.name ≡ b.name → a.kind ≡ b.kind → a.formula ≡ b.formula → a.places ≡ b.places → a.positive ≡ b.positive → a.negative ≡ b.negative → a.states ≡ b.states → a.flags ≡ b.flags → a ≡ b
same_parts a b x k f ps n m ss fs =
    ap (λ y. finding y a.kind a.formula a.places a.positive a.negative a.states a.flags) x ∙
    ap (λ y. finding b.name y a.formula a.places a.positive a.negative a.states a.flags) k ∙
    ap (λ y. finding b.name b.kind y a.places a.positive a.negative a.states a.flags) f ∙
    ap (λ y. finding b.name b.kind b.formula y a.positive a.negative a.states a.flags) ps ∙
    ap (λ y. finding b.name b.kind b.formula b.places y a.negative a.states a.flags) n ∙
    ap (λ y. finding b.name b.kind b.formula b.places b.positive y a.states a.flags) m ∙
    ap (λ y. finding b.name b.kind b.formula b.places b.positive b.negative y a.flags) ss ∙
    ap (finding b.name b.kind b.formula b.places b.positive b.negative b.states) fs

states_of : {P : GraphValue → Type 0} (t : Litmus) (items : List Clause) (v w : FindingValue) (xs ys : List GraphValue) → Lists P xs → Lists P ys → Tells t items xs v → Tells t items ys w → v.places ≡ w.places → (s : List ℕ) → IsIn s v.states → IsIn s w.states
states_of t items v w xs ys lx ly tv tw e s p = let q = tv.states.only s p in tw.states.all s (q.0, ly.all q.0 (lx.only q.0 q.1), q.2 ∙ ap (λ ps. obs t ps q.0) e)

flags_of : {P : GraphValue → Type 0} (t : Litmus) (items : List Clause) (v w : FindingValue) (xs ys : List GraphValue) → Lists P xs → Lists P ys → Tells t items xs v → Tells t items ys w → (s : Word) → IsIn s v.flags → IsIn s w.flags
flags_of t items v w xs ys lx ly tv tw s p = let q = tv.flags.only s p in tw.flags.all s (q.0, ly.all q.0 (lx.only q.0 q.1), q.2)

one_outcome : {P : GraphValue → Type 0} (t : Litmus) (items : List Clause) (v w : FindingValue) (xs ys : List GraphValue) → Lists P xs → Lists P ys → Tells t items xs v → Tells t items ys w → v ≡ w
one_outcome t items v w xs ys lx ly tv tw =
    let e : v.places ≡ w.places = same_observed t.condition t.listed v.places w.places tv.places tw.places in
    same_parts v w (tv.name ∙ sym tw.name) (tv.kind ∙ sym tw.kind) (tv.formula ∙ sym tw.formula) e
    (tv.positive ∙ ap (λ ps. count_by (has t ps) xs) e ∙ same_count (has t w.places) xs ys lx ly ∙ sym tw.positive)
    (tv.negative ∙ ap (λ ps. count_by (λ x. not (has t ps x)) xs) e ∙ same_count (λ x. not (has t w.places x)) xs ys lx ly ∙ sym tw.negative)
    (same_sorted v.states w.states tv.sorted tw.sorted (states_of t items v w xs ys lx ly tv tw e) (states_of t items w v ys xs ly lx tw tv (sym e)))
    (same_sorted v.flags w.flags tv.in_order tw.in_order (flags_of t items v w xs ys lx ly tv tw) (flags_of t items w v ys xs ly lx tw tv))

pub one_verdict : OneVerdict
one_verdict t items v w p q = one_outcome t items v w p.0 q.0 p.1 q.1 p.2 q.2
