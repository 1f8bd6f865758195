-- What a set or a relation rests on decides it.
use Rattle.std.proofs.Common.{◌≡◌, ◌⊎◌, ℕ, List, refl, sym, ap, ◌∙◌, subst, inl, inr, IsTrue}
use Rattle.listings.specs.Lists.{StandsAt}
use Rattle.relations.specs.Events.{EventSet}
use Rattle.events.specs.declared.event.Access.{Access}
use Rattle.events.specs.declared.event.EventId.{EventId}
use Rattle.events.specs.declared.event.Order.{Order}
use Rattle.events.specs.declared.named.SetName.{SetName}
use Rattle.events.specs.declared.named.SetName.TheVariants.{Writes, Reads, Fences, Memory, InitialWrites, Atomic, Plain, Relaxed, Acquire, Release, AcquireRelease, SeqCst, Exchanges}
use Rattle.events.specs.declared.named.RelName.{RelName}
use Rattle.events.specs.declared.named.RelName.TheVariants.{Po, Int, Ext, Loc, PoLoc, Rf, Co, Fr, Rfi, Coi, Fri, Rfe, Coe, Fre, Rmw, Data, Ctrl, Addr, Id}
use Rattle.events.specs.declared.named.Basis.TheVariants.{Runs, Sources}
use Rattle.events.specs.Bases.{basis_of}
use Rattle.events.specs.Executions.{GraphValue, IsNamed, is_read, is_write}
use Rattle.events.specs.Extends.{IsNobody}
use Rattle.events.specs.Named.{access_of, order_of, data_of, control_of, IsRead, IsWrite, IsMemory, IsOfCall, IsAtOneLocation, IsDependency, ReadsFrom, IsCoherenceBefore, IsNumber, InSet, InRel, NamedSet, NamedRel}
use Rattle.events.specs.Structures.{Sourced, structure_of, sourced_of}
use Rattle.events.proofs.Cutting.{stands_in}
use Rattle.events.proofs.Direct.{named_at}
use Rattle.events.proofs.Shapes.{names_same, access_same, location_same, order_same, data_same, control_same, reads_same}

-- what an event does, or its memory order, is known alike of both
by_access : (g h : GraphValue) → structure_of g ≡ structure_of h → (P : Access → Type 0) (d : EventId) → P (access_of g d) → P (access_of h d)
by_access g h e P d x = subst P (access_same g h e d) x

by_order : (g h : GraphValue) → structure_of g ≡ structure_of h → (P : Order → Type 0) (d : EventId) → P (order_of g d) → P (order_of h d)
by_order g h e P d x = subst P (order_same g h e d) x

reads_alike : (g h : GraphValue) → structure_of g ≡ structure_of h → (d : EventId) → IsRead g d → IsRead h d
reads_alike g h e d x = by_access g h e (λ a. IsTrue (is_read a)) d x

writes_alike : (g h : GraphValue) → structure_of g ≡ structure_of h → (d : EventId) → IsWrite g d → IsWrite h d
writes_alike g h e d x = by_access g h e (λ a. IsTrue (is_write a)) d x

memory_alike : (g h : GraphValue) → structure_of g ≡ structure_of h → (d : EventId) → IsMemory g d → IsMemory h d
memory_alike g h e d x = elim x [ inl r ↦ inl (reads_alike g h e d r) | inr w ↦ inr (writes_alike g h e d w) ]

location_alike : (g h : GraphValue) → structure_of g ≡ structure_of h → (d f : EventId) → IsAtOneLocation g d f → IsAtOneLocation h d f
location_alike g h e d f x = (memory_alike g h e d x.0, memory_alike g h e f x.1, sym (location_same g h e d) ∙ x.2 ∙ location_same g h e f)

set_alike : (g h : GraphValue) → structure_of g ≡ structure_of h → (name : SetName) (d : EventId) → InSet g name d → InSet h name d
set_alike g h e Writes d x = writes_alike g h e d x
set_alike g h e Reads d x = reads_alike g h e d x
set_alike g h e Fences d x = sym (access_same g h e d) ∙ x
set_alike g h e Memory d x = memory_alike g h e d x
set_alike g h e InitialWrites d x = x
set_alike g h e Atomic d x = (memory_alike g h e d x.0, by_order g h e IsOfCall d x.1)
set_alike g h e Plain d x = (memory_alike g h e d x.0, sym (order_same g h e d) ∙ x.1)
set_alike g h e Relaxed d x = sym (order_same g h e d) ∙ x
set_alike g h e Acquire d x = sym (order_same g h e d) ∙ x
set_alike g h e Release d x = sym (order_same g h e d) ∙ x
set_alike g h e AcquireRelease d x = sym (order_same g h e d) ∙ x
set_alike g h e SeqCst d x = sym (order_same g h e d) ∙ x
set_alike g h e Exchanges d x = elim x [ inl r ↦ inl (sym (access_same g h e d) ∙ r) | inr w ↦ inr (sym (access_same g h e d) ∙ w) ]

pub same_sets : (g h : GraphValue) → structure_of g ≡ structure_of h → (name : SetName) (i : ℕ) → NamedSet g name i → NamedSet h name i
unfolding NamedSet
same_sets g h e name i k = (let P = λ (ds : List EventId). StandsAt ds i k.0 in (k.0, subst P (names_same g h e) k.1, set_alike g h e name k.0 k.2))

-- events that are related so in one execution are related so in the other
related : (g h : GraphValue) → structure_of g ≡ structure_of h → (name : RelName) → ((d f : EventId) → InRel g name d f → InRel h name d f) → (i j : ℕ) → NamedRel g name i j → NamedRel h name i j
unfolding NamedRel
related g h e name r i j k =
    let P = λ (ds : List EventId). StandsAt ds i k.0 in
    let Q = λ (ds : List EventId). StandsAt ds j k.1 in
    (k.0, k.1, subst P (names_same g h e) k.2, subst Q (names_same g h e) k.3, r k.0 k.1 k.4)

-- the same where one execution has them related so by their names
related_named : (g h : GraphValue) → structure_of g ≡ structure_of h → (name : RelName) → ((d f : EventId) → IsNamed g.init g.runs d → InRel g name d f → InRel h name d f) → (i j : ℕ) → NamedRel g name i j → NamedRel h name i j
unfolding NamedRel
related_named g h e name r i j k =
    let P = λ (ds : List EventId). StandsAt ds i k.0 in
    let Q = λ (ds : List EventId). StandsAt ds j k.1 in
    (k.0, k.1, subst P (names_same g h e) k.2, subst Q (names_same g h e) k.3, r k.0 k.1 (named_at g k.0 i k.2) k.4)

by_places : (d f : EventId) (ps qs : EventSet) → ps ≡ qs → IsDependency d f ps → IsDependency d f qs
by_places d f ps qs e x = subst (λ ps. IsDependency d f ps) e x

pub same_on_runs : (g h : GraphValue) → structure_of g ≡ structure_of h → (name : RelName) → basis_of name ≡ Runs → (i j : ℕ) → NamedRel g name i j → NamedRel h name i j
same_on_runs g h e Po b = related g h e Po (λ d f x. x)
same_on_runs g h e Int b = related g h e Int (λ d f x. x)
same_on_runs g h e Ext b = related g h e Ext (λ d f x. x)
same_on_runs g h e Loc b = related g h e Loc (location_alike g h e)
same_on_runs g h e PoLoc b = related g h e PoLoc (λ d f x. (x.0, location_alike g h e d f x.1))
same_on_runs g h e Rf b = absurd (let z : ⊥ = cc in z)
same_on_runs g h e Co b = absurd (let z : ⊥ = cc in z)
same_on_runs g h e Fr b = absurd (let z : ⊥ = cc in z)
same_on_runs g h e Rfi b = absurd (let z : ⊥ = cc in z)
same_on_runs g h e Coi b = absurd (let z : ⊥ = cc in z)
same_on_runs g h e Fri b = absurd (let z : ⊥ = cc in z)
same_on_runs g h e Rfe b = absurd (let z : ⊥ = cc in z)
same_on_runs g h e Coe b = absurd (let z : ⊥ = cc in z)
same_on_runs g h e Fre b = absurd (let z : ⊥ = cc in z)
same_on_runs g h e Rmw b = related g h e Rmw (λ d f x. (x.0, sym (access_same g h e d) ∙ x.1, sym (access_same g h e f) ∙ x.2))
same_on_runs g h e Data b = related g h e Data (λ d f x. by_places d f (data_of g f) (data_of h f) (data_same g h e f) x)
same_on_runs g h e Ctrl b = related g h e Ctrl (λ d f x. by_places d f (control_of g f) (control_of h f) (control_same g h e f) x)
same_on_runs g h e Addr b = related g h e Addr (λ d f x. x)
same_on_runs g h e Id b = related g h e Id (λ d f x. x)

pub sources_alike : (g h : GraphValue) → sourced_of g ≡ sourced_of h → (d f : EventId) → ReadsFrom g d f → ReadsFrom h d f
sources_alike g h e d f x =
    let P = λ (ds : List EventId). StandsAt ds x.0 f in
    let Q = λ (ds : List EventId). StandsAt ds x.0 d in
    (x.0, subst P (reads_same g h (ap (λ (s : Sourced). s.structure) e)) x.1, subst Q (ap (λ (s : Sourced). s.rf) e) x.2)

pub same_on_sources : (g h : GraphValue) → sourced_of g ≡ sourced_of h → (name : RelName) → basis_of name ≡ Sources → (i j : ℕ) → NamedRel g name i j → NamedRel h name i j
same_on_sources g h e Po b = absurd (let z : ⊥ = cc in z)
same_on_sources g h e Int b = absurd (let z : ⊥ = cc in z)
same_on_sources g h e Ext b = absurd (let z : ⊥ = cc in z)
same_on_sources g h e Loc b = absurd (let z : ⊥ = cc in z)
same_on_sources g h e PoLoc b = absurd (let z : ⊥ = cc in z)
same_on_sources g h e Rf b = related g h (ap (λ (s : Sourced). s.structure) e) Rf (sources_alike g h e)
same_on_sources g h e Co b = absurd (let z : ⊥ = cc in z)
same_on_sources g h e Fr b = absurd (let z : ⊥ = cc in z)
same_on_sources g h e Rfi b = related g h (ap (λ (s : Sourced). s.structure) e) Rfi (λ d f x. (sources_alike g h e d f x.0, x.1))
same_on_sources g h e Coi b = absurd (let z : ⊥ = cc in z)
same_on_sources g h e Fri b = absurd (let z : ⊥ = cc in z)
same_on_sources g h e Rfe b = related g h (ap (λ (s : Sourced). s.structure) e) Rfe (λ d f x. (sources_alike g h e d f x.0, x.1))
same_on_sources g h e Coe b = absurd (let z : ⊥ = cc in z)
same_on_sources g h e Fre b = absurd (let z : ⊥ = cc in z)
same_on_sources g h e Rmw b = absurd (let z : ⊥ = cc in z)
same_on_sources g h e Data b = absurd (let z : ⊥ = cc in z)
same_on_sources g h e Ctrl b = absurd (let z : ⊥ = cc in z)
same_on_sources g h e Addr b = absurd (let z : ⊥ = cc in z)
same_on_sources g h e Id b = absurd (let z : ⊥ = cc in z)

-- the same where some reads read from nobody
source_kept : (g h : GraphValue) (w r : EventId) → IsNamed g.init g.runs w → ReadsFrom h w r ⊎ IsNobody g w → ReadsFrom h w r
source_kept g h w r n x = elim x [ inl s ↦ s | inr b ↦ absurd (b.0 n) ]

placed_kept : (g h : GraphValue) (w r e : EventId) → IsCoherenceBefore g w e → ReadsFrom h w r ⊎ IsNobody g w → ReadsFrom h w r
placed_kept g h w r e c x = elim x [ inl s ↦ s | inr b ↦ absurd (b.1 c.1 (stands_in g.co c.0 c.1 c.2) (stands_in c.1 c.3.0 w c.3.1)) ]

-- Where each read of one execution reads so in the other, or from nobody, and each write stands so before another in coherence, each relation of the
-- one is within that of the other.
pub all_kept : (g h : GraphValue) → structure_of g ≡ structure_of h → ((d f : EventId) → ReadsFrom g d f → ReadsFrom h d f ⊎ IsNobody g d) → ((d f : EventId) → IsCoherenceBefore g d f → IsCoherenceBefore h d f) →
    (name : RelName) (i j : ℕ) → NamedRel g name i j → NamedRel h name i j
all_kept g h e r c Po = same_on_runs g h e Po refl
all_kept g h e r c Int = same_on_runs g h e Int refl
all_kept g h e r c Ext = same_on_runs g h e Ext refl
all_kept g h e r c Loc = same_on_runs g h e Loc refl
all_kept g h e r c PoLoc = same_on_runs g h e PoLoc refl
all_kept g h e r c Rf = related_named g h e Rf (λ d f n x. source_kept g h d f n (r d f x))
all_kept g h e r c Co = related g h e Co c
all_kept g h e r c Fr = related g h e Fr (λ d f x. (x.0, placed_kept g h x.0 d f x.2 (r x.0 d x.1), c x.0 f x.2))
all_kept g h e r c Rfi = related_named g h e Rfi (λ d f n x. (source_kept g h d f n (r d f x.0), x.1))
all_kept g h e r c Coi = related g h e Coi (λ d f x. (c d f x.0, x.1))
all_kept g h e r c Fri = related g h e Fri (λ d f x. ((x.0.0, placed_kept g h x.0.0 d f x.0.2 (r x.0.0 d x.0.1), c x.0.0 f x.0.2), x.1))
all_kept g h e r c Rfe = related_named g h e Rfe (λ d f n x. (source_kept g h d f n (r d f x.0), x.1))
all_kept g h e r c Coe = related g h e Coe (λ d f x. (c d f x.0, x.1))
all_kept g h e r c Fre = related g h e Fre (λ d f x. ((x.0.0, placed_kept g h x.0.0 d f x.0.2 (r x.0.0 d x.0.1), c x.0.0 f x.0.2), x.1))
all_kept g h e r c Rmw = same_on_runs g h e Rmw refl
all_kept g h e r c Data = same_on_runs g h e Data refl
all_kept g h e r c Ctrl = same_on_runs g h e Ctrl refl
all_kept g h e r c Addr = same_on_runs g h e Addr refl
all_kept g h e r c Id = same_on_runs g h e Id refl

-- Where each read of one execution reads so in the other, and each write stands so before another in coherence, each relation of the one is within
-- that of the other.
pub all_within : (g h : GraphValue) → structure_of g ≡ structure_of h → ((d f : EventId) → ReadsFrom g d f → ReadsFrom h d f) → ((d f : EventId) → IsCoherenceBefore g d f → IsCoherenceBefore h d f) →
    (name : RelName) (i j : ℕ) → NamedRel g name i j → NamedRel h name i j
all_within g h e r c = all_kept g h e (λ d f x. inl (r d f x)) c
