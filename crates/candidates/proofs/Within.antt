-- Candidates that differ in the places of open writes alone are within the one in which these writes are open.
use Rattle.std.proofs.Common.{◌≡◌, ℕ, zero, suc, ◌+◌, ◌-◌, ◌*◌, ◌/◌, ◌%◌, ◌<◌, ◌≤◌, ◌⊎◌, not, true, false, Bool, List, [], ◌∷◌, ◌++◌, filter, length, get_or, take, drop, Some, refl, sym, ◌∙◌, ap, subst, inl, inr, arith}
use Rattle.std.proofs.Math.Nat.{mul_comm}
use Rattle.std.proofs.lemmas.Nat.{div-mul-add}
use Rattle.std.proofs.lemmas.Bool.{cases_Bool, false≢true, cond-true, cond-false, not_from_false}
use Rattle.std.proofs.lemmas.List.{get_or_default}
use Rattle.events.specs.declared.cut.Cut.{Cut}
use Rattle.events.specs.declared.event.EventId.{EventId}
use Rattle.events.specs.declared.event.EventId.TheVariants.{Initial}
use Rattle.events.specs.Cuts.{is_among, placed, IsBeforeInOne}
use Rattle.events.specs.Executions.{GraphValue, ThreadRun}
use Rattle.events.specs.Named.{StandsBefore}
use Rattle.events.specs.Opened.{opened_order, opened_of, opened_from, opened_part, opened, IsWithin}
use Rattle.events.proofs.Cutting.{among_in, in_among, in_stands, stands_in, before_head, before_tail, before_split, before_none}
use Rattle.events.proofs.Extending.{part_before}
use Rattle.events.proofs.Opening.{open_free, open_next, open_none, pairs_opened}
use Rattle.listings.specs.Lists.{IsIn, NoRepeats}
use Rattle.listings.specs.Numbered.{digits, arrange}
use Rattle.listings.proofs.Arrangements.{put, insert-put}
use Rattle.listings.proofs.Listings.{in_left, in_right}
use Rattle.candidates.specs.declared.depths.Depth.{Depth}
use Rattle.candidates.specs.declared.depths.Known.TheVariants.{Orders}
use Rattle.candidates.specs.declared.depths.Unplaced.{Unplaced}
use Rattle.candidates.specs.declared.open_orders.OpenOrders.{OpenOrders}
use Rattle.candidates.specs.declared.page.Scene.{Scene}
use Rattle.candidates.specs.Alike.{AllWithin, AreAlike, IsOpen, Opens, with_orders}
use Rattle.candidates.specs.Blocks.{IsAllRead, free_of, placings, unplaced_of, ways_of_orders}
use Rattle.candidates.specs.Candidates.{Choices, count_orders, graph_at, order_at}
use Rattle.candidates.specs.Depths.{depths_of, end_at, place_of}
use Rattle.candidates.specs.Executions.{later_writes, upto}
use Rattle.candidates.specs.Walks.{IsBegun, IsPlace, IsScene}
use Rattle.candidates.proofs.Around.{end_there, parts_shown, shown_at}
use Rattle.candidates.proofs.Like.{alike}
use Rattle.candidates.proofs.Cutting.{all_placed, arrange_in, arranged_part, shared_behind, shared_over, shared_rest}
use Rattle.candidates.proofs.Openings.{AreFrom, from_tabulate, in_arrange, in_put, placed_arranged}
use Rattle.candidates.proofs.Writing.{once_later}

-- LISTS

in_filtered : (p : EventId → Bool) (xs : List EventId) (e : EventId) → p e ≡ true → IsIn e xs → IsIn e (filter p xs)
in_filtered p [] e t h = absurd h
in_filtered p (x ∷ xs) e t h =
    let P : List EventId → Type 0 = λ ys. IsIn e ys in
    elim (cases_Bool (p x)) [
      | inl a ↦ subst P (sym (cond-true (p x) (x ∷ filter p xs) (filter p xs) a)) (elim h [ inl q ↦ inl q | inr m ↦ inr (in_filtered p xs e t m) ])
      | inr a ↦ subst P (sym (cond-false (p x) (x ∷ filter p xs) (filter p xs) a)) (elim h [ inl q ↦ absurd (false≢true (sym a ∙ ap p (sym q) ∙ t)) | inr m ↦ in_filtered p xs e t m ])
    ]

before_filtered : (p : EventId → Bool) (xs : List EventId) (d e : EventId) → p d ≡ true → p e ≡ true → StandsBefore xs d e → StandsBefore (filter p xs) d e
before_filtered p [] d e s t h = absurd (before_none d e h)
before_filtered p (x ∷ xs) d e s t h =
    let P : List EventId → Type 0 = λ ys. StandsBefore ys d e in
    elim (cases_Bool (p x)) [
      | inl a ↦ subst P (sym (cond-true (p x) (x ∷ filter p xs) (filter p xs) a)) (elim (before_split x xs d e h) [
        | inl k ↦ before_head x (filter p xs) d e (k.0, in_filtered p xs e t k.1)
        | inr k ↦ before_tail x (filter p xs) d e (before_filtered p xs d e s t k)
      ])
      | inr a ↦ subst P (sym (cond-false (p x) (x ∷ filter p xs) (filter p xs) a)) (elim (before_split x xs d e h) [
        | inl k ↦ absurd (false≢true (sym a ∙ ap p (sym k.0) ∙ s))
        | inr k ↦ before_filtered p xs d e s t k
      ])
    ]

-- where nothing stands twice, nothing stands before itself
apart : (xs : List EventId) (d e : EventId) → NoRepeats xs → StandsBefore xs d e → d ≡ e → ⊥
apart [] d e o h q = before_none d e h
apart (x ∷ xs) d e o h q = elim (before_split x xs d e h) [
  | inl k ↦ (let P : EventId → Type 0 = λ z. IsIn z xs in o.0 (subst P (sym q ∙ k.0) k.1))
  | inr k ↦ apart xs d e o.1 k q
]

once_put : (w : EventId) (d : ℕ) (xs : List EventId) → NoRepeats xs → ¬ IsIn w xs → NoRepeats (put w d xs)
once_put w zero xs o f = (f, o)
once_put w (suc d) [] o f = (λ h. h, tt)
once_put w (suc d) (x ∷ xs) o f = (λ m. elim (in_put x w d xs m) [ inl q ↦ f (inl (sym q)) | inr k ↦ o.0 k ], once_put w d xs o.1 (λ m. f (inr m)))

once_arranged : (ws : List EventId) (i : ℕ) → NoRepeats ws → NoRepeats (arrange ws i)
once_arranged [] i o = tt
once_arranged (w ∷ ws) i o =
    let n : ℕ = suc (length ws) in
    let P : List EventId → Type 0 = NoRepeats in
    subst P (sym (insert-put w (i % n) (arrange ws (i / n)))) (once_put w (i % n) (arrange ws (i / n)) (once_arranged ws (i / n) o.1) (λ m. o.0 (in_arrange ws (i / n) w m)))

-- ONE ORDER

-- What two orders of the same writes have of those that aren't open is the same.
abbrev AreAtRest : (ws xs ys : List EventId) → Type 0
AreAtRest ws xs ys = (d e : EventId) → is_among ws d ≡ false → is_among ws e ≡ false → StandsBefore xs d e → StandsBefore ys d e

rearranged : (ws : List EventId) (i j : ℕ) (v : EventId) → IsIn v (arrange ws j) → IsIn v (arrange ws i)
rearranged ws i j v h = arrange_in v ws i (in_arrange ws j v h)

order_within : (x : ℕ) (later ws : List EventId) (i j : ℕ) (d e : EventId) → NoRepeats later → AreAtRest ws (arrange later j) (arrange later i) → StandsBefore (Initial x ∷ arrange later j) d e →
    IsBeforeInOne (opened_order (Initial x ∷ arrange later i) ws) d e
order_within x later ws i j d e o rest h =
    let mine : List EventId = arrange later i in
    let order : List EventId = Initial x ∷ mine in
    elim (before_split (Initial x) (arrange later j) d e h) [
      | inl k ↦ (order, inl refl, before_head (Initial x) mine d e (k.0, rearranged later i j e k.1))
      | inr k ↦
          (let first : IsIn d mine = rearranged later i j d (stands_in (arrange later j) k.0 d k.1) in
          let second : IsIn e mine = rearranged later i j e (stands_in (arrange later j) k.2.0 e k.2.2) in
          let unlike : d ≡ e → ⊥ = apart (arrange later j) d e (once_arranged later j o) k in
          elim (cases_Bool (is_among ws d)) [
            | inl t ↦ pairs_opened order ws d e (inl (among_in ws d t, second, unlike))
            | inr s ↦ elim (cases_Bool (is_among ws e)) [
              | inl t ↦ pairs_opened order ws d e (inr (first, among_in ws e t, unlike))
              | inr t ↦ (order, inl refl, before_tail (Initial x) mine d e (rest d e s t k))
            ]
          ])
    ]

-- all are open
none_at_rest : (later : List EventId) (i j : ℕ) → AreAtRest (arrange later i) (arrange later j) (arrange later i)
none_at_rest later i j d e s t h =
    absurd (false≢true (sym s ∙ in_among (arrange later i) d (rearranged later i j d (stands_in (arrange later j) h.0 d h.1))))

-- the first ones are
some_at_rest : (later : List EventId) (k i j : ℕ) → NoRepeats later → i / placings (length later) k ≡ j / placings (length later) k → AreAtRest (take k later) (arrange later j) (arrange later i)
some_at_rest later k i j o q d e s t h =
    let ws : List EventId = take k later in
    let is : placed ws (arrange later j) ≡ arrange (drop k later) (i / placings (length later) k) = placed_arranged k later j o ∙ ap (arrange (drop k later)) (sym q) in
    let P : List EventId → Type 0 = λ xs. StandsBefore xs d e in
    let rest : StandsBefore (placed ws (arrange later j)) d e = before_filtered (λ w. not (is_among ws w)) (arrange later j) d e (not_from_false (is_among ws d) s) (not_from_false (is_among ws e) t) h in
    part_before (arrange (drop k later) (i / placings (length later) k)) (arrange later i) d e (arranged_part later k i) (subst P is rest)

-- ALL ORDERS

all_open_behind : (free : ℕ) (ws : List EventId) (x : ℕ) (orders : List (List EventId)) → free < x → opened_from free ws x orders ≡ orders
all_open_behind free ws x [] l = refl
all_open_behind free ws x (order ∷ orders) l =
    ap (λ (vs : List EventId). opened_order order vs ++ opened_from free ws (suc x) orders) (open_none free ws x order l)
    ∙ ap (λ (os : List (List EventId)). order ∷ os) (all_open_behind free ws (suc x) orders (omega (arith, l)))

first_or_later : (o : List EventId) (os : List (List EventId)) (d e : EventId) → IsBeforeInOne (o ∷ os) d e → StandsBefore o d e ⊎ IsBeforeInOne os d e
first_or_later o os d e h = elim h.1 [
  | inl q ↦ (let P : List EventId → Type 0 = λ z. StandsBefore z d e in inl (subst P q h.2))
  | inr m ↦ inr (h.0, m, h.2)
]

one_of_both : (xs ys : List (List EventId)) (d e : EventId) → IsBeforeInOne xs d e ⊎ IsBeforeInOne ys d e → IsBeforeInOne (xs ++ ys) d e
one_of_both xs ys d e h = elim h [ inl k ↦ (k.0, in_left xs ys k.0 k.1, k.2) | inr k ↦ (k.0, in_right xs ys k.0 k.1, k.2) ]

-- of the location whose first k later writes are open, and of those behind it
there_within : (runs : List ThreadRun) (k x : ℕ) (xs : List ℕ) (i j : ℕ) (d e : EventId) → i / ways_of_orders runs 0 k (x ∷ xs) ≡ j / ways_of_orders runs 0 k (x ∷ xs) →
    IsBeforeInOne (digits (count_orders runs) (order_at runs) (x ∷ xs) j) d e → IsBeforeInOne (opened_from x (take k (later_writes runs x)) x (digits (count_orders runs) (order_at runs) (x ∷ xs) i)) d e
there_within runs k x xs i j d e same h =
    let c : ℕ = count_orders runs x in
    let later : List EventId = later_writes runs x in
    let ws : List EventId = take k later in
    let p : ℕ = placings (length later) k in
    let a = all_placed later k in
    let D : ℕ → List (List EventId) = λ n. digits (count_orders runs) (order_at runs) xs n in
    let Q : ℕ → Type 0 = λ m. i / m ≡ j / m in
    let R : ℕ → Type 0 = λ m. (i % m) / p ≡ (j % m) / p in
    let q : i / c ≡ j / c = subst Q (sym a) (shared_over i j p _ same) in
    let r : (i % c) / p ≡ (j % c) / p = subst R (sym a) (shared_rest i j p _ same) in
    let mine : List EventId = order_at runs x (i % c) in
    let P : List (List EventId) → Type 0 = λ os. IsBeforeInOne os d e in
    let is : opened_order mine ws ++ D (i / c) ≡ opened_from x ws x (mine ∷ D (i / c)) =
    ap (λ (os : List (List EventId)). os ++ D (i / c)) (ap (opened_order mine) (sym (open_next x ws x mine refl)))
    ∙ ap (λ (os : List (List EventId)). opened_of x ws x mine ++ os) (sym (all_open_behind x ws (suc x) (D (i / c)) (omega arith))) in
    subst P is (one_of_both (opened_order mine ws) (D (i / c)) d e (elim (first_or_later (order_at runs x (j % c)) (D (j / c)) d e h) [
      | inl b ↦ inl (order_within x later ws (i % c) (j % c) d e (once_later runs x) (some_at_rest later k (i % c) (j % c) (once_later runs x) r) b)
      | inr b ↦ inr (subst P (ap D (sym q)) b)
    ]))

-- of the locations from x on, of which so many are free
orders_within : (runs : List ThreadRun) (free k x f : ℕ) (xs : List ℕ) (i j : ℕ) (d e : EventId) → free ≡ x + f → AreFrom x xs → i / ways_of_orders runs f k xs ≡ j / ways_of_orders runs f k xs →
    IsBeforeInOne (digits (count_orders runs) (order_at runs) xs j) d e → IsBeforeInOne (opened_from free (take k (later_writes runs free)) x (digits (count_orders runs) (order_at runs) xs i)) d e
orders_within runs free k x f [] i j d e at are same h = absurd h.1
orders_within runs free k x zero (y ∷ ys) i j d e at are same h =
    let P : ℕ → ℕ → Type 0 = λ z w. IsBeforeInOne (opened_from z (take k (later_writes runs z)) w (digits (count_orders runs) (order_at runs) (y ∷ ys) i)) d e in
    let P1 : ℕ → Type 0 = λ z. P z y in
    let P2 : ℕ → Type 0 = λ w. P free w in
    subst P2 are.0 (subst P1 (are.0 ∙ (let g : x ≡ free = omega (arith, at) in g)) (there_within runs k y ys i j d e same h))
orders_within runs free k x (suc f) (y ∷ ys) i j d e at are same h =
    let c : ℕ = count_orders runs y in
    let later : List EventId = later_writes runs y in
    let ws : List EventId = take k (later_writes runs free) in
    let mine : List EventId = order_at runs y (i % c) in
    let D : ℕ → List (List EventId) = λ n. digits (count_orders runs) (order_at runs) ys n in
    let behind : List (List EventId) = opened_from free ws (suc x) (D (i / c)) in
    let P : List (List EventId) → Type 0 = λ os. IsBeforeInOne (os ++ behind) d e in
    subst P (ap (opened_order mine) (sym (open_free free ws x mine (omega (arith, at))))) (one_of_both (opened_order mine (drop 1 mine)) behind d e (elim (first_or_later (order_at runs y (j % c)) (D (j / c)) d e h) [
      | inl b ↦ inl (order_within y later (arrange later (i % c)) (i % c) (j % c) d e (once_later runs y) (none_at_rest later (i % c) (j % c)) b)
      | inr b ↦ inr (orders_within runs free k (suc x) f ys (i / c) (j / c) d e (omega (arith, at)) are.1 (shared_behind i j c (ways_of_orders runs f k ys) same) b)
    ]))

-- OF EXECUTIONS

orders_open : (init : List ℕ) (runs : List ThreadRun) (rf : List EventId) (free k i j : ℕ) → i / ways_of_orders runs free k (upto (length init)) ≡ j / ways_of_orders runs free k (upto (length init)) →
    IsWithin (with_orders init runs rf j) (opened_part (with_orders init runs rf i) free (take k (later_writes runs free)))
orders_open init runs rf free k i j same =
    let n : ℕ = length init in
    let ws : List EventId = take k (later_writes runs free) in
    let D : ℕ → List (List EventId) = λ m. digits (count_orders runs) (order_at runs) (upto n) m in
    record {
      init = refl;
      runs = refl;
      rf = refl;
      co = λ d e h.
          let b = orders_within runs free k 0 free (upto n) i j d e (omega arith) (from_tabulate n 0 (λ x. x) (λ x. let z : x ≡ 0 + x = omega arith in z)) same (h.1, stands_in (D j) h.0 h.1 h.2, h.3) in
          let at = in_stands (opened_from free ws 0 (D i)) b.0 b.1 in
          (at.0, b.0, at.1, b.2);
    }

one_some : (x y : GraphValue) → Some x ≡ Some y → x ≡ y
one_some x y e = cc

-- All that stand behind a number, and differ in their orders alone, are within what stands there.
alike_within : (s : Choices) (a : ℕ) (o : OpenOrders) (x : GraphValue) (free : ℕ) (ws : List EventId) → AreAlike s a o → graph_at s a ≡ Some x → free ≡ o.unplaced.locations →
    ws ≡ take o.unplaced.writes (later_writes x.runs o.unplaced.locations) → AllWithin s a (a + o.size) (opened_part x free ws)
alike_within s a o x free ws h at is are m l u y there =
    let X : ℕ → GraphValue = λ t. with_orders s.init h.runs h.rf (o.size * h.times + t) in
    let zero_on : a + 0 ≡ a = omega arith in
    let some = h.opens.some in
    let first : x ≡ X 0 = one_some x (X 0) (sym at ∙ ap (graph_at s) (sym zero_on) ∙ h.at 0 (omega (arith, some))) in
    let t : ℕ = m - a in
    let on : a + t ≡ m = omega (arith, l) in
    let below : t < o.size = omega (arith, l, u) in
    let mine : y ≡ X t = one_some y (X t) (sym there ∙ ap (graph_at s) (sym on) ∙ h.at t below) in
    let w : ℕ = ways_of_orders h.runs o.unplaced.locations o.unplaced.writes (upto (length s.init)) in
    let q : (r : ℕ) → r < o.size → ((o.size * h.times + r) / o.size ≡ h.times) = λ r b. ap (λ z. (z + r) / o.size) (mul_comm o.size h.times) ∙ div-mul-add h.times o.size r b in
    let P : ℕ → Type 0 = λ z. (o.size * h.times + 0) / z ≡ (o.size * h.times + t) / z in
    let same : (o.size * h.times + 0) / w ≡ (o.size * h.times + t) / w = subst P h.opens.size (q 0 (omega (arith, some)) ∙ sym (q t below)) in
    let open_writes : take o.unplaced.writes (later_writes h.runs o.unplaced.locations) ≡ ws = sym (are ∙ ap (λ (g : GraphValue). take o.unplaced.writes (later_writes g.runs o.unplaced.locations)) first) in
    let A : GraphValue → Type 0 = λ g. IsWithin g (opened_part x free ws) in
    let B : GraphValue → Type 0 = λ g. IsWithin (X t) (opened_part g free ws) in
    let C : ℕ → Type 0 = λ f. IsWithin (X t) (opened_part (X 0) f ws) in
    let E : List EventId → Type 0 = λ vs. IsWithin (X t) (opened_part (X 0) o.unplaced.locations vs) in
    subst A (sym mine) (subst B (sym first) (subst C (sym is) (subst E open_writes (orders_open s.init h.runs h.rf o.unplaced.locations o.unplaced.writes (o.size * h.times + 0) (o.size * h.times + t) same))))

-- DEPTHS

pub opens_some : (n : ℕ) (runs : List ThreadRun) (d : Depth) (u : Unplaced) → d.known ≡ Orders u → Opens n runs d (record { unplaced = u; size = d.size })
opens_some n runs d u e = record { size = refl; locations = sym (ap (free_of n) e); writes = sym (ap (unplaced_of runs) e) }

-- OF WHAT A WALK SHOWS

-- the number before n is that of the execution shown, and these orders are open from there on
pub record IsOpenAt (s : Choices) (c : Scene) (n place : ℕ) (d : Depth) (o : OpenOrders) : Type 0 where
  pub scene : IsScene s c
  pub at : IsPlace c.stretch n place
  pub there : place ≡ c.hit.at
  pub opens : IsOpen (length s.init) c.stretch.page.runs.items o
  pub known : Opens (length s.init) c.stretch.page.runs.items d o
  pub first : place % o.size ≡ 0

module _ (s : Choices) (c : Scene) (n place : ℕ) (d : Depth) (o : OpenOrders) (h : IsOpenAt s c n place d o) where
  some_numbers : 1 ≤ c.stretch.size
  some_numbers = let l = h.at.0 in omega (arith, l)

  number_is : n - 1 ≡ c.stretch.first + place
  number_is = let e = h.at.1 in omega (arith, e)

  there : graph_at s (n - 1) ≡ Some c.graph
  there = ap (graph_at s) (number_is ∙ ap (λ p. c.stretch.first + p) h.there) ∙ shown_at s c h.scene some_numbers

  pub open_alike : AreAlike s (n - 1) o
  open_alike = alike s c.stretch (h.scene.stretch.whole some_numbers) o h.opens place (n - 1) h.at.0 h.first number_is c.graph there

  pub open_inside : (cut : Cut) → cut.locations ≡ free_of (length s.init) d.known → cut.unplaced.now ≡ unplaced_of c.stretch.page.runs.items d.known → AllWithin s (n - 1) (n - 1 + o.size) (opened c.graph cut)
  open_inside cut e f =
      alike_within s (n - 1) o c.graph cut.locations cut.unplaced.now open_alike there (e ∙ sym h.known.locations)
      (f ∙ sym h.known.writes ∙ ap (λ (rs : List ThreadRun). take o.unplaced.writes (later_writes rs o.unplaced.locations)) (sym (parts_shown s c h.scene some_numbers).1))

  pub open_end : (k : ℕ) → k < length c.stretch.page.depths.items → d ≡ get_or c.stretch.page.depths.items k d → n - 1 + o.size ≡ end_at s (depths_of (length s.init) c.graph.runs) k (n - 1)
  open_end k l e =
      let ds : List Depth = c.stretch.page.depths.items in
      let at : place_of s (n - 1) ≡ place = ap (place_of s) number_is ∙ (h.scene.stretch.whole some_numbers).place place h.at.0 in
      let z : place % d.size ≡ 0 = ap (λ m. place % m) (sym h.known.size) ∙ h.first in
      ap (λ m. n - 1 + m) (h.known.size ∙ (let m : d.size ≡ d.size - 0 = omega arith in m) ∙ ap (λ r. d.size - r) (sym z))
      ∙ ap (λ p. n - 1 + (d.size - p % d.size)) (sym at) ∙ sym (end_there s ds k (n - 1) d l e) ∙ ap (λ ds. end_at s ds k (n - 1)) h.scene.depths

-- Where the orders of a depth aren't given, no block of it begins that could be.
pub not_begun : (s : Choices) (c : Scene) (n to place most k : ℕ) (d : Depth) → IsScene s c → IsPlace c.stretch n place → n + most ≡ to + 1 → k < length c.stretch.page.depths.items → d ≡ get_or c.stretch.page.depths.items k d →
    (IsAllRead c.stretch.page.runs.items d.known → d.size ≤ most → place % d.size ≡ 0 → ⊥) → IsBegun (record { space = s; next = n; to = to; shown = c.graph }) k → ⊥
not_begun s c n to place most k d v at m l e f h =
    let ds : List Depth = c.stretch.page.depths.items in
    let some : 1 ≤ c.stretch.size = (let p = at.0 in omega (arith, p)) in
    let number : n - 1 ≡ c.stretch.first + place = (let p = at.1 in omega (arith, p)) in
    let there : place_of s (n - 1) ≡ place = ap (place_of s) number ∙ (v.stretch.whole some).place place at.0 in
    let same : h.at ≡ d = h.there ∙ ap (λ xs. get_or xs k h.at) (sym v.depths) ∙ get_or_default ds k h.at d l ∙ sym e in
    let P : List ThreadRun → Type 0 = λ rs. IsAllRead rs h.at.known in
    let Q : Depth → Type 0 = λ x. IsAllRead c.stretch.page.runs.items x.known in
    let R : Depth → Type 0 = λ x. x.size ≤ most in
    let T : Depth → Type 0 = λ x. place % x.size ≡ 0 in
    let i = h.within in
    let j = at.1 in
    f (subst Q same (subst P (parts_shown s c v some).1 h.read)) (subst R same (omega (arith, i, j, m))) (subst T same (ap (λ p. p % h.at.size) (sym there) ∙ h.first))
