-- Executions with the same events, the same read-from map and the same coherence orders have the same relations, whatever their values are.
use Rattle.std.proofs.Common.{◌≡◌, ℕ, List, refl, ap, subst}
use Rattle.listings.specs.Lists.{StandsAt}
use Rattle.events.specs.declared.event.EventId.{EventId}
use Rattle.events.specs.declared.named.RelName.{RelName}
use Rattle.events.specs.declared.named.RelName.TheVariants.{Po, Int, Ext, Loc, PoLoc, Rf, Co, Fr, Rfi, Coi, Fri, Rfe, Coe, Fre, Rmw, Data, Ctrl, Addr, Id}
use Rattle.events.specs.Bases.{RelationsRestOnRuns, RelationsRestOnSources}
use Rattle.events.specs.Executions.{GraphValue}
use Rattle.events.specs.Named.{InRel, IsCoherenceBefore, ReadsBefore, ReadsFrom, NamedRel}
use Rattle.events.specs.Structures.{Sourced, structure_of, sourced_of}
use Rattle.events.proofs.Shapes.{names_same, reads_same}

-- events that are related so in one execution are related so in the other
related : (g h : GraphValue) → structure_of g ≡ structure_of h → (name : RelName) → ((d e : EventId) → InRel g name d e → InRel h name d e) → (i j : ℕ) → NamedRel g name i j → NamedRel h name i j
unfolding NamedRel
related g h s name f i j k =
    let P = λ (ds : List EventId). StandsAt ds i k.0 in
    let Q = λ (ds : List EventId). StandsAt ds j k.1 in
    (k.0, k.1, subst P (names_same g h s) k.2, subst Q (names_same g h s) k.3, f k.0 k.1 k.4)

reads_alike : (g h : GraphValue) → sourced_of g ≡ sourced_of h → (d e : EventId) → ReadsFrom g d e → ReadsFrom h d e
reads_alike g h s d e x =
    let P = λ (ds : List EventId). StandsAt ds x.0 e in
    let Q = λ (ds : List EventId). StandsAt ds x.0 d in
    (x.0, subst P (reads_same g h (ap (λ (t : Sourced). t.structure) s)) x.1, subst Q (ap (λ (t : Sourced). t.rf) s) x.2)

coherence_alike : (g h : GraphValue) → g.co ≡ h.co → (d e : EventId) → IsCoherenceBefore g d e → IsCoherenceBefore h d e
coherence_alike g h c d e x = (let P = λ (orders : List (List EventId)). StandsAt orders x.0 x.1 in (x.0, x.1, subst P c x.2, x.3))

before_alike : (g h : GraphValue) → sourced_of g ≡ sourced_of h → g.co ≡ h.co → (d e : EventId) → ReadsBefore g d e → ReadsBefore h d e
before_alike g h s c d e x = (x.0, reads_alike g h s x.0 d x.1, coherence_alike g h c x.0 e x.2)

pub relations_alike : RelationsRestOnRuns → RelationsRestOnSources → (g h : GraphValue) → sourced_of g ≡ sourced_of h → g.co ≡ h.co → (name : RelName) (i j : ℕ) → NamedRel g name i j → NamedRel h name i j
relations_alike runs sources g h s c name = go name where
  t : structure_of g ≡ structure_of h
  t = ap (λ (z : Sourced). z.structure) s

  go : (name : RelName) (i j : ℕ) → NamedRel g name i j → NamedRel h name i j
  go Po = runs g h t Po refl
  go Int = runs g h t Int refl
  go Ext = runs g h t Ext refl
  go Loc = runs g h t Loc refl
  go PoLoc = runs g h t PoLoc refl
  go Rf = sources g h s Rf refl
  go Co = related g h t Co (coherence_alike g h c)
  go Fr = related g h t Fr (before_alike g h s c)
  go Rfi = sources g h s Rfi refl
  go Coi = related g h t Coi (λ d e x. (coherence_alike g h c d e x.0, x.1))
  go Fri = related g h t Fri (λ d e x. (before_alike g h s c d e x.0, x.1))
  go Rfe = sources g h s Rfe refl
  go Coe = related g h t Coe (λ d e x. (coherence_alike g h c d e x.0, x.1))
  go Fre = related g h t Fre (λ d e x. (before_alike g h s c d e x.0, x.1))
  go Rmw = runs g h t Rmw refl
  go Data = runs g h t Data refl
  go Ctrl = runs g h t Ctrl refl
  go Addr = runs g h t Addr refl
  go Id = runs g h t Id refl
