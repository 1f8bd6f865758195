-- Named relations that are made of others.
use Rattle.std.proofs.Common.{◌≡◌, ℕ, zero, suc, ◌<◌, List, [], ◌∷◌, take, refl, sym, ◌∙◌, subst, inl, inr, arith}
use Rattle.listings.specs.Lists.{IsIn, StandsAt}
use Rattle.relations.specs.Relation.{Relation, In, IsExactly}
use Rattle.relations.specs.Algebra.{Through}
use Rattle.relations.specs.Equality.{pair_below}
use Rattle.events.specs.declared.event.EventId.{EventId}
use Rattle.events.specs.declared.named.RelName.{RelName}
use Rattle.events.specs.declared.named.RelName.TheVariants.{Rf, Co, Fr, Int, Ext, Addr, Id}
use Rattle.std.specs.List.{All}
use Rattle.std.proofs.lemmas.List.Elements.{All-head, All-tail, All-take}
use Rattle.events.specs.declared.view.held.Shown.{Shown}
use Rattle.events.specs.declared.view.held.Shown.TheVariants.{Whole, Partly, Opened}
use Rattle.events.specs.declared.cut.Part.{Part}
use Rattle.events.specs.declared.cut.Part.TheVariants as parts
use Rattle.events.specs.Cuts.{part_of, IsOfEvents}
use Rattle.events.specs.Held.{IsShowable, seen}
use Rattle.events.specs.Executions.{GraphValue, IsGraph, IsNamed}
use Rattle.events.specs.Named.{event_names, event_count, IsNumber, InRel, NamedRel, ReadsFrom, ReadsBefore, IsCoherenceBefore}
use Rattle.events.proofs.Adding.{one_number, of_number, has_number, number_below, all_at}
use Rattle.events.proofs.Cutting.{stands_in}
use Rattle.events.proofs.Standing.{one_stands}

-- in two relations by numbers, so by events
joined : (g : GraphValue) (A B : RelName) (i j : ℕ) → NamedRel g A i j → NamedRel g B i j → (d : EventId) × (e : EventId) × IsNumber g i d × IsNumber g j e × InRel g A d e × InRel g B d e
unfolding NamedRel
joined g A B i j p q =
    let d : q.0 ≡ p.0 = one_stands (event_names g) i q.0 p.0 q.2 p.2 in
    let e : q.1 ≡ p.1 = one_stands (event_names g) j q.1 p.1 q.3 p.3 in
    let P : EventId → Type 0 = λ x. InRel g B x q.1 in
    let Q : EventId → Type 0 = λ y. InRel g B p.0 y in
    (p.0, p.1, p.2, p.3, p.4, subst Q e (subst P d q.4))

pub both_named : (g : GraphValue) (A B C : RelName) (r s t : Relation) → ((d e : EventId) → InRel g A d e → InRel g B d e → InRel g C d e) → ((d e : EventId) → InRel g C d e → InRel g A d e × InRel g B d e) →
    IsExactly (event_count g) (NamedRel g A) r → IsExactly (event_count g) (NamedRel g B) s → IsExactly r.count (λ i j. In r i j × In s i j) t → IsExactly (event_count g) (NamedRel g C) t
unfolding NamedRel
both_named g A B C r s t f k h l m = record {
  count = m.count ∙ h.count;
  only = λ i j x. (let y : In r i j × In s i j = m.only i j x in
      let z = joined g A B i j (h.only i j y.0) (l.only i j y.1) in
      (z.0, z.1, z.2, z.3, f z.0 z.1 z.4 z.5));
  all = λ i j a b z. (let w : InRel g A z.0 z.1 × InRel g B z.0 z.1 = k z.0 z.1 z.4 in
      m.all i j (omega (arith, a, h.count)) (omega (arith, b, h.count)) (h.all i j a b (z.0, z.1, z.2, z.3, w.0), l.all i j a b (z.0, z.1, z.2, z.3, w.1)));
  canonical = m.canonical;
}

pub first_named : (g : GraphValue) (A B C : RelName) (r s t : Relation) → ((d e : EventId) → InRel g A d e → (¬ InRel g B d e) → InRel g C d e) →
    ((d e : EventId) → InRel g C d e → InRel g A d e × (¬ InRel g B d e)) →
    IsExactly (event_count g) (NamedRel g A) r → IsExactly (event_count g) (NamedRel g B) s → IsExactly r.count (λ i j. In r i j × (¬ In s i j)) t → IsExactly (event_count g) (NamedRel g C) t
unfolding NamedRel
first_named g A B C r s t f k h l m = record {
  count = m.count ∙ h.count;
  only = λ i j x. (let y : In r i j × (¬ In s i j) = m.only i j x in
      let z : NamedRel g A i j = h.only i j y.0 in
      let a : i < event_count g = number_below g i z.0 z.2 in
      let b : j < event_count g = number_below g j z.1 z.3 in
      (z.0, z.1, z.2, z.3, f z.0 z.1 z.4 (λ u. y.1 (l.all i j a b (z.0, z.1, z.2, z.3, u)))));
  all = λ i j a b z. (let w : InRel g A z.0 z.1 × (¬ InRel g B z.0 z.1) = k z.0 z.1 z.4 in
      m.all i j (omega (arith, a, h.count)) (omega (arith, b, h.count)) (
        h.all i j a b (z.0, z.1, z.2, z.3, w.0),
        λ u. (let v = joined g C B i j z (l.only i j u) in
            (k v.0 v.1 v.4).1 v.5),
      ));
  canonical = m.canonical;
}

pub ext_named : (g : GraphValue) (r t : Relation) → IsExactly (event_count g) (NamedRel g Int) r → IsExactly r.count (λ i j. ¬ In r i j) t → IsExactly (event_count g) (NamedRel g Ext) t
unfolding NamedRel
ext_named g r t h m = record {
  count = m.count ∙ h.count;
  only = λ i j x. (let s : (i < t.count) × (j < t.count) = pair_below t i j m.canonical x in
      let a : i < event_count g = omega (arith, s.0, m.count, h.count) in
      let b : j < event_count g = omega (arith, s.1, m.count, h.count) in
      let d : (e : EventId) × IsNumber g i e = of_number g i a in
      let e : (e : EventId) × IsNumber g j e = of_number g j b in
      (d.0, e.0, d.1, e.1, λ u. m.only i j x (h.all i j a b (d.0, e.0, d.1, e.1, u))));
  all = λ i j a b z. m.all i j (omega (arith, a, h.count)) (omega (arith, b, h.count))
      (λ u. (let v = joined g Ext Int i j z (h.only i j u) in v.4 v.5));
  canonical = m.canonical;
}

pub id_named : (g : GraphValue) (t : Relation) → IsExactly (event_count g) (λ i j. i ≡ j) t → IsExactly (event_count g) (NamedRel g Id) t
unfolding NamedRel
id_named g t m = record {
  count = m.count;
  only = λ i j x. (let s : (i < t.count) × (j < t.count) = pair_below t i j m.canonical x in
      let d : (e : EventId) × IsNumber g i e = of_number g i (omega (arith, s.0, m.count)) in
      let P : ℕ → Type 0 = λ k. IsNumber g k d.0 in
      (d.0, d.0, d.1, subst P (m.only i j x) d.1, refl));
  all = λ i j a b z. (let P : EventId → Type 0 = λ e. IsNumber g i e in m.all i j a b (one_number g z.1 i j (subst P z.4 z.2) z.3));
  canonical = m.canonical;
}

pub addr_named : (g : GraphValue) (t : Relation) → IsExactly (event_count g) (λ i j. ⊥) t → IsExactly (event_count g) (NamedRel g Addr) t
unfolding NamedRel
addr_named g t m = record { count = m.count; only = λ i j x. absurd (m.only i j x); all = λ i j a b z. absurd z.4; canonical = m.canonical }

-- from each read to the write that it reads from
pub turned_named : (g : GraphValue) (r t : Relation) → IsExactly (event_count g) (NamedRel g Rf) r → IsExactly r.count (λ i j. In r j i) t → IsExactly (event_count g) (λ i j. NamedRel g Rf j i) t
turned_named g r t h m = record {
  count = m.count ∙ h.count;
  only = λ i j x. h.only j i (m.only i j x);
  all = λ i j a b z. m.all i j (omega (arith, a, h.count)) (omega (arith, b, h.count)) (h.all j i b a z);
  canonical = m.canonical;
}

-- w is an event if it stands in an order
abbrev IsFound : GraphValue → EventId → Type 0
IsFound g w = (x : ℕ) (order : List EventId) → StandsAt g.co x order → IsIn w order → IsNamed g.init g.runs w

abbrev pub AreFound : GraphValue → Type 0
AreFound g = (k : ℕ) (w : EventId) → StandsAt g.rf k w → IsFound g w

all_in : (P : EventId → Type 0) (ws : List EventId) (w : EventId) → All P ws → IsIn w ws → P w
all_in P [] w h i = absurd i
all_in P (v ∷ ws) w h i = elim i [ inl e ↦ subst P (sym e) (All-head P v ws h) | inr j ↦ all_in P ws w (All-tail P v ws h) j ]

of_order : (P : EventId → Type 0) (order : List EventId) (w : EventId) → All P order → (x : ℕ) (o : List EventId) → StandsAt (order ∷ []) x o → IsIn w o → P w
of_order P order w h zero o s i = all_in P order w h (let Q : List EventId → Type 0 = λ z. IsIn w z in subst Q s i)
of_order P order w h (suc x) o s i = absurd s

of_part : (p : Part) (g : GraphValue) → IsGraph g → IsOfEvents g p → AreFound (part_of g p)
of_part (parts.Cut c) g h x k w s = λ y o at i. all_at (IsNamed g.init g.runs) (take c.reads g.rf) k w (All-take (IsNamed g.init g.runs) c.reads g.rf h.rf) s
of_part (parts.Excerpt e) g h x k w s = of_order (IsNamed g.init g.runs) e.order.now w x

-- what is shown of the sources of an execution are events, as far as they stand in its orders
pub seen_found : (shown : Shown) (g : GraphValue) → IsGraph g → IsShowable shown g → AreFound (seen shown g)
seen_found Whole g h x k w s = λ y o at i. all_at (IsNamed g.init g.runs) g.rf k w h.rf s
seen_found (Partly p) g h x k w s = of_part p g h x k w s
seen_found (Opened c) g h x k w s = λ y o at i. all_at (IsNamed g.init g.runs) g.rf k w h.rf s

-- what stands before another in coherence has a number
found_number : (g : GraphValue) (w e : EventId) → IsFound g w → IsCoherenceBefore g w e → (i : ℕ) × IsNumber g i w
found_number g w e f b = has_number g w (f b.0 b.1 b.2 (stands_in b.1 b.3.0 w b.3.1))

-- the row of co behind the write that a read reads from
pub fr_named : (g : GraphValue) (s t u : Relation) → AreFound g → IsExactly (event_count g) (λ i j. NamedRel g Rf j i) t → IsExactly (event_count g) (NamedRel g Co) s →
    IsExactly t.count (Through t.count (In t) (In s)) u → IsExactly (event_count g) (NamedRel g Fr) u
unfolding NamedRel
fr_named g s t u found l k m = record {
  count = m.count ∙ l.count;
  only = λ i j x. (let y : Through t.count (In t) (In s) i j = m.only i j x in
      let p : NamedRel g Rf y.0 i = l.only i y.0 y.2 in
      let q : NamedRel g Co y.0 j = k.only y.0 j y.3 in
      let P : EventId → Type 0 = λ w. IsCoherenceBefore g w q.1 in
      (p.1, q.1, p.3, q.3, (p.0, p.4, subst P (one_stands (event_names g) y.0 q.0 p.0 q.2 p.2) q.4)));
  all = λ i j a b z. (let before : ReadsBefore g z.0 z.1 = z.4 in
      let from : ReadsFrom g before.0 z.0 = before.1 in
      let w : (i : ℕ) × IsNumber g i before.0 = found_number g before.0 z.1 (found from.0 before.0 from.2) before.2 in
      let n : w.0 < event_count g = number_below g w.0 before.0 w.1 in
      m.all i j (omega (arith, a, l.count)) (omega (arith, b, l.count)) (
        w.0,
        omega (arith, n, l.count),
        l.all i w.0 a n (before.0, z.0, w.1, z.2, from),
        k.all w.0 j n b (before.0, z.1, w.1, z.3, before.2),
      ));
  canonical = m.canonical;
}
