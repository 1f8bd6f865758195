-- Of each event, and of each two, it is decided whether it is in the set, or they are in the relation, of a name.
use Rattle.std.proofs.Common.{◌≡◌, ◌<◌, ◌⊎◌, ℕ, suc, List, [], ◌∷◌, length, true, false, refl, subst, inl, inr, arith}
use Rattle.std.proofs.lemmas.Bool.{cases_eq, cases_lt, false≢true}
use Rattle.listings.specs.Lists.{IsIn, StandsAt}
use Rattle.listings.proofs.Telling.{Told, told_truth, told_or, told_and, told_each, told_not, told_as, told_by, told_below, told_some, told_one, told_at}
use Rattle.relations.specs.Events.{EventSet, Has}
use Rattle.relations.specs.Tables.{place}
use Rattle.events.specs.declared.event.Access.{Access}
use Rattle.events.specs.declared.event.Access.TheVariants.{Fence, ExRead, ExWrite}
use Rattle.events.specs.declared.event.EventId.{EventId}
use Rattle.events.specs.declared.event.EventId.TheVariants.{Initial, Own}
use Rattle.events.specs.declared.event.Order.{Order}
use Rattle.events.specs.declared.event.Order.TheVariants.{NoOrder, Na, Rlx, Acq, Rel, AcqRel, Sc}
use Rattle.events.specs.declared.named.SetName.{SetName}
use Rattle.events.specs.declared.named.SetName.TheVariants.{Writes, Reads, Fences, Memory, InitialWrites, Atomic, Plain, Relaxed, Acquire, Release, AcquireRelease, SeqCst, Exchanges}
use Rattle.events.specs.declared.named.RelName.{RelName}
use Rattle.events.specs.declared.named.RelName.TheVariants.{Po, Int, Ext, Loc, PoLoc, Rf, Co, Fr, Rfi, Coi, Fri, Rfe, Coe, Fre, Rmw, Data, Ctrl, Addr, Id}
use Rattle.events.specs.Cuts.{same_event, is_among, IsBeforeInOne}
use Rattle.events.specs.Executions.{GraphValue, is_read, is_write}
use Rattle.events.specs.Named.{event_count, access_of, location_of, order_of, data_of, control_of, read_names, IsRead, IsWrite, IsMemory, IsInitial, IsOfCall, IsBefore, IsInternal, IsNext, IsAtOneLocation, IsExchange, IsDependency, ReadsFrom, ReadsBefore, IsCoherenceBefore, StandsBefore, InSet, InRel, NamedSet, NamedRel}
use Rattle.events.specs.Opened.{IsDecided}
use Rattle.events.proofs.Adding.{number_below, of_number}
use Rattle.events.proofs.Cutting.{among_in, in_among, same_is, same_self, in_stands, stands_in, before_head, before_tail, before_split, before_none}
use Rattle.events.proofs.Standing.{by_number, by_numbers, stands_below}
use Rattle.events.proofs.Told.{access_exact, order_exact}

decided : (P : Type 0) → Told P → IsDecided P
decided P (inl p) = (true, (λ e. p, λ q. refl))
decided P (inr p) = (false, (λ e. absurd (false≢true e), λ q. absurd (p q)))

-- EVENTS

told_event : (d e : EventId) → Told (d ≡ e)
told_event d e = told_by (same_event d e) (d ≡ e) (same_is d e, λ h. (let P : EventId → Type 0 = λ x. same_event d x ≡ true in subst P h (same_self d)))

told_in : (ws : List EventId) (e : EventId) → Told (IsIn e ws)
told_in ws e = told_by (is_among ws e) (IsIn e ws) (among_in ws e, in_among ws e)

told_access : (a b : Access) → Told (a ≡ b)
told_access a b = told_by _ (a ≡ b) (access_exact a b)

told_order : (a b : Order) → Told (a ≡ b)
told_order a b = told_by _ (a ≡ b) (order_exact a b)

-- SETS

told_memory : (g : GraphValue) (e : EventId) → Told (IsMemory g e)
told_memory g e = told_or (IsRead g e) (IsWrite g e) (told_truth (is_read (access_of g e))) (told_truth (is_write (access_of g e)))

told_initial : (e : EventId) → Told (IsInitial e)
told_initial (Initial x) = inl tt
told_initial (Own k p) = inr (λ h. h)

told_of_call : (o : Order) → Told (IsOfCall o)
told_of_call NoOrder = inr (λ h. h)
told_of_call Na = inr (λ h. h)
told_of_call Rlx = inl tt
told_of_call Acq = inl tt
told_of_call Rel = inl tt
told_of_call AcqRel = inl tt
told_of_call Sc = inl tt

told_set : (g : GraphValue) (name : SetName) (e : EventId) → Told (InSet g name e)
told_set g Writes e = told_truth (is_write (access_of g e))
told_set g Reads e = told_truth (is_read (access_of g e))
told_set g Fences e = told_access (access_of g e) Fence
told_set g Memory e = told_memory g e
told_set g InitialWrites e = told_initial e
told_set g Atomic e = told_and (IsMemory g e) (IsOfCall (order_of g e)) (told_memory g e) (told_of_call (order_of g e))
told_set g Plain e = told_and (IsMemory g e) (order_of g e ≡ Na) (told_memory g e) (told_order (order_of g e) Na)
told_set g Relaxed e = told_order (order_of g e) Rlx
told_set g Acquire e = told_order (order_of g e) Acq
told_set g Release e = told_order (order_of g e) Rel
told_set g AcquireRelease e = told_order (order_of g e) AcqRel
told_set g SeqCst e = told_order (order_of g e) Sc
told_set g Exchanges e = told_or (access_of g e ≡ ExRead) (access_of g e ≡ ExWrite) (told_access (access_of g e) ExRead) (told_access (access_of g e) ExWrite)

-- RELATIONS

told_before : (d e : EventId) → Told (IsBefore d e)
told_before (Initial x) e = inr (λ h. h)
told_before (Own k p) (Initial x) = inr (λ h. h)
told_before (Own k p) (Own l q) = told_and (k ≡ l) (p < q) (cases_eq k l) (told_below p q)

told_internal : (d e : EventId) → Told (IsInternal d e)
told_internal (Initial x) (Initial y) = inl tt
told_internal (Initial x) (Own l q) = inr (λ h. h)
told_internal (Own k p) (Initial y) = inr (λ h. h)
told_internal (Own k p) (Own l q) = cases_eq k l

told_location : (g : GraphValue) (d e : EventId) → Told (IsAtOneLocation g d e)
told_location g d e = told_each (IsMemory g d) (IsMemory g e) (location_of g d ≡ location_of g e) (told_memory g d) (told_memory g e) (cases_eq (location_of g d) (location_of g e))

told_next : (d e : EventId) → Told (IsNext d e)
told_next (Initial x) e = inr (λ h. h)
told_next (Own k p) (Initial y) = inr (λ h. h)
told_next (Own k p) (Own l q) = told_and (k ≡ l) (q ≡ suc p) (cases_eq k l) (cases_eq q (suc p))

told_exchange : (g : GraphValue) (d e : EventId) → Told (IsExchange g d e)
told_exchange g d e =
    told_each (IsNext d e) (access_of g d ≡ ExRead) (access_of g e ≡ ExWrite) (told_next d e) (told_access (access_of g d) ExRead) (told_access (access_of g e) ExWrite)

told_dependency : (d e : EventId) (places : EventSet) → Told (IsDependency d e places)
told_dependency (Initial x) e places = inr (λ h. h)
told_dependency (Own k p) (Initial y) places = inr (λ h. h)
told_dependency (Own k p) (Own l q) places = told_and (k ≡ l) (Has places p) (cases_eq k l) (told_truth (place places.members p))

told_reads : (g : GraphValue) (w r : EventId) → Told (ReadsFrom g w r)
told_reads g w r =
    let P : ℕ → Type 0 = λ m. StandsAt (read_names g) m r × StandsAt g.rf m w in
    told_as ((m : ℕ) × (m < length g.rf) × P m) (ReadsFrom g w r)
    (λ h. (h.0, h.2.0, h.2.1))
    (λ h. (h.0, stands_below g.rf h.0 w h.2, (h.1, h.2)))
    (told_some P (λ m. told_and (StandsAt (read_names g) m r) (StandsAt g.rf m w) (told_at told_event (read_names g) m r) (told_at told_event g.rf m w)) (length g.rf))

told_stands : (order : List EventId) (d e : EventId) → Told (StandsBefore order d e)
told_stands [] d e = inr (before_none d e)
told_stands (y ∷ ys) d e =
    told_as (((d ≡ y) × IsIn e ys) ⊎ StandsBefore ys d e) (StandsBefore (y ∷ ys) d e)
    (λ h. elim h [ inl a ↦ before_head y ys d e a | inr b ↦ before_tail y ys d e b ])
    (before_split y ys d e)
    (told_or ((d ≡ y) × IsIn e ys) (StandsBefore ys d e) (told_and (d ≡ y) (IsIn e ys) (told_event d y) (told_in ys e)) (told_stands ys d e))

told_coherence : (g : GraphValue) (d e : EventId) → Told (IsCoherenceBefore g d e)
told_coherence g d e =
    told_as (IsBeforeInOne g.co d e) (IsCoherenceBefore g d e)
    (λ h. (let k = in_stands g.co h.0 h.1 in (k.0, h.0, k.1, h.2)))
    (λ h. (h.1, stands_in g.co h.0 h.1 h.2, h.3))
    (told_one (λ order. StandsBefore order d e) (λ order. told_stands order d e) g.co)

told_from : (g : GraphValue) (r e : EventId) → Told (ReadsBefore g r e)
told_from g r e =
    let P : EventId → Type 0 = λ w. ReadsFrom g w r × IsCoherenceBefore g w e in
    told_as ((w : EventId) × IsIn w g.rf × P w) (ReadsBefore g r e)
    (λ h. (h.0, h.2.0, h.2.1))
    (λ h. (h.0, (let f : ReadsFrom g h.0 r = h.1 in stands_in g.rf f.0 h.0 f.2), (h.1, h.2)))
    (told_one P (λ w. told_and (ReadsFrom g w r) (IsCoherenceBefore g w e) (told_reads g w r) (told_coherence g w e)) g.rf)

inside : (P : Type 0) (d e : EventId) → Told P → Told (P × IsInternal d e)
inside P d e t = told_and P (IsInternal d e) t (told_internal d e)

outside : (P : Type 0) (d e : EventId) → Told P → Told (P × (¬ IsInternal d e))
outside P d e t = told_and P (¬ IsInternal d e) t (told_not (IsInternal d e) (told_internal d e))

told_rel : (g : GraphValue) (name : RelName) (d e : EventId) → Told (InRel g name d e)
told_rel g Po d e = told_before d e
told_rel g Int d e = told_internal d e
told_rel g Ext d e = told_not (IsInternal d e) (told_internal d e)
told_rel g Loc d e = told_location g d e
told_rel g PoLoc d e = told_and (IsBefore d e) (IsAtOneLocation g d e) (told_before d e) (told_location g d e)
told_rel g Rf d e = told_reads g d e
told_rel g Co d e = told_coherence g d e
told_rel g Fr d e = told_from g d e
told_rel g Rfi d e = inside (ReadsFrom g d e) d e (told_reads g d e)
told_rel g Coi d e = inside (IsCoherenceBefore g d e) d e (told_coherence g d e)
told_rel g Fri d e = inside (ReadsBefore g d e) d e (told_from g d e)
told_rel g Rfe d e = outside (ReadsFrom g d e) d e (told_reads g d e)
told_rel g Coe d e = outside (IsCoherenceBefore g d e) d e (told_coherence g d e)
told_rel g Fre d e = outside (ReadsBefore g d e) d e (told_from g d e)
told_rel g Rmw d e = told_exchange g d e
told_rel g Data d e = told_dependency d e (data_of g e)
told_rel g Ctrl d e = told_dependency d e (control_of g e)
told_rel g Addr d e = inr (λ h. h)
told_rel g Id d e = told_event d e

-- BY NUMBERS

pub decided_set : (g : GraphValue) (name : SetName) (i : ℕ) → IsDecided (NamedSet g name i)
unfolding NamedSet
decided_set g name i = elim (cases_lt i (event_count g)) [
  | inl l ↦
      (let e = of_number g i l in
      let t : IsDecided (InSet g name e.0) = decided (InSet g name e.0) (told_set g name e.0) in
      (t.0, by_number g name i e.0 t.0 e.1 t.1))
  | inr l ↦ decided (NamedSet g name i) (inr (λ n. absurd (omega (arith, l, number_below g i n.0 n.1))))
]

pub decided_rel : (g : GraphValue) (name : RelName) (i j : ℕ) → IsDecided (NamedRel g name i j)
unfolding NamedRel
decided_rel g name i j = elim (cases_lt i (event_count g)) [
  | inl l ↦ elim (cases_lt j (event_count g)) [
    | inl m ↦
        (let d = of_number g i l in
        let e = of_number g j m in
        let t : IsDecided (InRel g name d.0 e.0) = decided (InRel g name d.0 e.0) (told_rel g name d.0 e.0) in
        (t.0, by_numbers g name i j d.0 e.0 t.0 d.1 e.1 t.1))
    | inr m ↦ decided (NamedRel g name i j) (inr (λ n. absurd (omega (arith, m, number_below g j n.1 n.3))))
  ]
  | inr l ↦ decided (NamedRel g name i j) (inr (λ n. absurd (omega (arith, l, number_below g i n.0 n.2))))
]
