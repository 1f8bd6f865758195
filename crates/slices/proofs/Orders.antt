-- Executions that differ in their orders alone, counted by the writes that stand last in these.
use Rattle.std.proofs.Common.{◌≡◌, ℕ, zero, suc, ◌+◌, ◌*◌, ◌/◌, ◌%◌, ◌<◌, ◌≤◌, ◌^◌, List, [], ◌∷◌, length, map, Bool, true, false, cond, not, count_by, if◌then◌else◌, Some, refl, sym, ◌∙◌, ap, subst, inl, inr, arith}
use Rattle.std.specs.Prelude.{slice_index_or}
use Rattle.std.specs.List.{list_any}
use Rattle.std.specs.Str.{bytes_eq}
use Rattle.std.proofs.Math.Nat.{mul-zero, mul-one, mul-le-mul_left}
use Rattle.std.proofs.lemmas.Bool.{eq-eqb, or_left, or_right}
use Rattle.std.proofs.lemmas.Slice.Eq.{bytes_eq-Decides}
use Rattle.events.specs.declared.event.EventId.{EventId}
use Rattle.events.specs.declared.event.EventId.TheVariants.{Initial}
use Rattle.events.specs.Executions.{ThreadRun, GraphValue}
use Rattle.cat_eval.specs.Judging.{Allowed, JudgementValue, Raised}
use Rattle.cat_tree.specs.Tree.{Clause}
use Rattle.listings.specs.Lists.{IsIn, Lists, product_by, tabulate}
use Rattle.listings.specs.Numbered.{arrange, digits}
use Rattle.conditions.specs.States.{bindings, holds_in}
use Rattle.conditions.specs.declared.place.Place.{Place}
use Rattle.litmus_tree.specs.Tree.{Litmus, Word}
use Rattle.candidates.specs.declared.open_orders.OpenOrders.{OpenOrders}
use Rattle.candidates.specs.Alike.{AreAlike, IsOpen, with_orders}
use Rattle.candidates.specs.Blocks.{ways_of_orders as open_ways}
use Rattle.candidates.specs.Candidates.{Choices, count_orders, graph_at, order_at, write_value}
use Rattle.candidates.specs.Executions.{later_writes, upto}
use Rattle.slices.specs.declared.slot.Slot.{Slot}
use Rattle.slices.specs.declared.slot.Slot.TheVariants.{Register, Location}
use Rattle.slices.specs.Alike.{AreFew, followed, of_ways, weight_at}
use Rattle.slices.specs.Finals.{has, last_or, obs}
use Rattle.slices.specs.Findings.{FindingValue}
use Rattle.slices.specs.Judgements.{AllJudged, IsJudged}
use Rattle.slices.specs.Slots.{slot_by, slot_of, slot_value}
use Rattle.slices.specs.Sums.{IsSum, state_has}
use Rattle.slices.specs.Totals.{total}
use Rattle.slices.specs.Ways.{WaysValue, count_of_ways, is_location, is_seen, shown_ways, size_of_ways, way, ways_shown, weight_of_way}
use Rattle.slices.proofs.Counted.{row_is, turned}
use Rattle.slices.proofs.Digits.{AllSpread, all_spread, by_digits}
use Rattle.slices.proofs.Following.{AreJudgedAlike, AreSaid, GoesOn, count_followed, from_followed, goes_on, in_followed}
use Rattle.slices.proofs.Judging.{raised, shown_is}
use Rattle.slices.proofs.PassedOver.{counts_pass, not_allowed}
use Rattle.slices.proofs.Opened.{AreSound, Fits, last_by, opened_digits, opened_size, opened_sound, opened_spread, opened_values, opened_ways, ways_of_orders}
use Rattle.slices.proofs.Picked.{few_picks, one_total, some_total, weights_add, weights_some}
use Rattle.slices.proofs.Shown.{from_on, order_by, shown_opened}
use Rattle.slices.proofs.Spread.{total_same}

-- THE LOCATIONS

on_from : (x n : ℕ) (f : ℕ → ℕ) → ((i : ℕ) → f i ≡ x + i) → tabulate n f ≡ from_on x n
on_from x zero f h = refl
on_from x (suc n) f h =
    let first : f 0 ≡ x = (let e = h 0 in omega (arith, e)) in
    ap (λ y. y ∷ tabulate n (λ i. f (suc i))) first ∙ ap (λ ys. x ∷ ys) (on_from (suc x) n (λ i. f (suc i)) (λ i. (let e = h (suc i) in omega (arith, e))))

upto_from : (n : ℕ) → upto n ≡ from_on 0 n
upto_from n = on_from 0 n (λ i. i) (λ i. omega arith)

same_ways : (runs : List ThreadRun) (free k : ℕ) (xs : List ℕ) → open_ways runs free k xs ≡ ways_of_orders (later_writes runs) free k xs
same_ways runs free k [] = refl
same_ways runs zero k (x ∷ xs) = refl
same_ways runs (suc free) k (x ∷ xs) = ap (λ z. count_orders runs x * z) (same_ways runs free k xs)

fits_on : (later : ℕ → List EventId) (free k x count : ℕ) → (free < count → k ≤ length (later (x + free))) → Fits later free k (from_on x count)
fits_on later free k x zero h = tt
fits_on later zero k x (suc count) h =
    let e : x + 0 ≡ x = omega arith in
    let P : ℕ → Type 0 = λ z. k ≤ length (later z) in subst P e (h (omega arith))
fits_on later (suc free) k x (suc count) h = fits_on later free k (suc x) count (λ l. (
    let e : x + suc free ≡ suc x + free = omega arith in
    let P : ℕ → Type 0 = λ z. k ≤ length (later z) in subst P e (h (omega (arith, l)))))

-- THE FINAL STATE, BY THE WRITES THAT STAND LAST

lasts_at : (runs : List ThreadRun) (seen : ℕ → Bool) (y place x count i : ℕ) → x + place ≡ y → seen y ≡ true →
    last_or (Initial y) (slice_index_or (digits (count_orders runs) (order_at runs) (from_on x count) i) place []) ≡ slice_index_or (digits (count_orders runs) (last_by Initial (later_writes runs) seen) (from_on x count) i) place (Initial y)
lasts_at runs seen y place x zero i e s = refl
lasts_at runs seen y zero x (suc count) i e s =
    let here : y ≡ x = omega (arith, e) in
    let there : seen x ≡ true = ap seen (sym here) ∙ s in
    sym (ap (λ b. if b then last_or (Initial x) (arrange (later_writes runs x) (i % count_orders runs x)) else Initial x) there)
lasts_at runs seen y (suc place) x (suc count) i e s = lasts_at runs seen y place (suc x) count (i / count_orders runs x) (omega (arith, e)) s

seen_slot : (y : ℕ) (slots : List Slot) → IsIn (Location y) slots → is_seen slots y ≡ true
seen_slot y [] p = absurd p
seen_slot y (s ∷ ss) (inl e) =
    let own : is_location y (Location y) ≡ true = eq-eqb y y refl in
    or_left (is_location y s) (list_any (is_location y) ss) (ap (is_location y) (sym e) ∙ own)
seen_slot y (s ∷ ss) (inr p) = or_right (is_location y s) (list_any (is_location y) ss) (seen_slot y ss p)

-- the writes that stand last in the orders of number i
abbrev lasts_by : List ℕ → List ThreadRun → (ℕ → Bool) → ℕ → List EventId
lasts_by init runs seen i = digits (count_orders runs) (last_by Initial (later_writes runs) seen) (upto (length init)) i

slot_same : (init : List ℕ) (runs : List ThreadRun) (rf : List EventId) (seen : ℕ → Bool) (i j : ℕ) (s : Slot) → ((y : ℕ) → s ≡ Location y → seen y ≡ true) → slot_value (with_orders init runs rf i) s ≡ slot_by (with_orders init runs rf j) (lasts_by init runs seen i) s
slot_same init runs rf seen i j (Register k r) h = refl
slot_same init runs rf seen i j (Location y) h =
    let n : ℕ = length init in
    let V : EventId → ℕ = write_value init runs in
    ap (λ xs. V (last_or (Initial y) (slice_index_or (digits (count_orders runs) (order_at runs) xs i) y []))) (upto_from n) ∙
    ap V (lasts_at runs seen y y 0 n i (omega arith) (h y refl)) ∙
    ap (λ xs. V (slice_index_or (digits (count_orders runs) (last_by Initial (later_writes runs) seen) xs i) y (Initial y))) (sym (upto_from n))

map_same : (f g : Slot → ℕ) (ss : List Slot) → ((s : Slot) → IsIn s ss → f s ≡ g s) → map f ss ≡ map g ss
map_same f g [] h = refl
map_same f g (s ∷ ss) h = ap (λ v. v ∷ map f ss) (h s (inl refl)) ∙ ap (λ vs. g s ∷ vs) (map_same f g ss (λ r p. h r (inr p)))

-- the final state of the execution with the orders of number i
obs_is : (t : Litmus) (places : List Place) (slots : List Slot) (init : List ℕ) (runs : List ThreadRun) (rf : List EventId) (i j : ℕ) → slots ≡ map (slot_of t) places →
    obs t places (with_orders init runs rf i) ≡ map (slot_by (with_orders init runs rf j) (lasts_by init runs (is_seen slots) i)) slots
obs_is t places slots init runs rf i j e =
    let x : GraphValue = with_orders init runs rf i in
    let L : List EventId = lasts_by init runs (is_seen slots) i in
    sym (row_is t x places) ∙ ap (map (slot_value x)) (sym e) ∙
    map_same (slot_value x) (slot_by (with_orders init runs rf j) L) slots (λ s p. slot_same init runs rf (is_seen slots) i j s (λ y is. (let P : Slot → Type 0 = λ r. IsIn r slots in seen_slot y slots (subst P is p))))

-- A BLOCK OF ORDERS

abbrev ways_in : (slots : List Slot) (n : ℕ) (runs : List ThreadRun) (o : OpenOrders) (times : ℕ) → List WaysValue
ways_in slots n runs o times = opened_ways Initial (later_writes runs) (is_seen slots) o.unplaced.locations o.unplaced.writes (from_on 0 n) times

abbrev lasts_in : (slots : List Slot) (n : ℕ) (runs : List ThreadRun) (o : OpenOrders) (times : ℕ) → List (ℕ → EventId)
lasts_in slots n runs o times = opened_values (last_by Initial (later_writes runs) (is_seen slots)) (later_writes runs) o.unplaced.locations o.unplaced.writes (from_on 0 n) times

fits_in : (n : ℕ) (runs : List ThreadRun) (o : OpenOrders) → IsOpen n runs o → Fits (later_writes runs) o.unplaced.locations o.unplaced.writes (from_on 0 n)
fits_in n runs o h = fits_on (later_writes runs) o.unplaced.locations o.unplaced.writes 0 n (λ l. (
    let e : o.unplaced.locations ≡ 0 + o.unplaced.locations = omega arith in
    let P : ℕ → Type 0 = λ z. o.unplaced.writes ≤ length (later_writes runs z) in subst P e (h.fits l)))

size_is : (n : ℕ) (runs : List ThreadRun) (o : OpenOrders) → IsOpen n runs o → o.size ≡ ways_of_orders (later_writes runs) o.unplaced.locations o.unplaced.writes (from_on 0 n)
size_is n runs o h = h.size ∙ same_ways runs o.unplaced.locations o.unplaced.writes (upto n) ∙ ap (ways_of_orders (later_writes runs) o.unplaced.locations o.unplaced.writes) (upto_from n)

product_is : (slots : List Slot) (n : ℕ) (runs : List ThreadRun) (o : OpenOrders) (times : ℕ) → IsOpen n runs o → product_by size_of_ways (ways_in slots n runs o times) ≡ o.size
product_is slots n runs o times h = opened_size Initial (later_writes runs) (is_seen slots) o.unplaced.locations o.unplaced.writes (from_on 0 n) times (fits_in n runs o h) ∙ sym (size_is n runs o h)

spread_in : (slots : List Slot) (n : ℕ) (runs : List ThreadRun) (o : OpenOrders) (times : ℕ) → IsOpen n runs o → AllSpread size_of_ways count_of_ways weight_of_way way (ways_in slots n runs o times) (lasts_in slots n runs o times)
spread_in slots n runs o times h = opened_spread Initial (later_writes runs) (is_seen slots) o.unplaced.locations o.unplaced.writes (from_on 0 n) times (fits_in n runs o h)

sound_in : (slots : List Slot) (n : ℕ) (runs : List ThreadRun) (o : OpenOrders) (times : ℕ) → AreSound (ways_in slots n runs o times)
sound_in slots n runs o times = opened_sound Initial (later_writes runs) (is_seen slots) o.unplaced.locations o.unplaced.writes (from_on 0 n) times

digits_in : {Y : Type 0} (at : ℕ → ℕ → Y) (slots : List Slot) (n : ℕ) (runs : List ThreadRun) (o : OpenOrders) (times t : ℕ) → IsOpen n runs o → t < o.size →
    digits (count_orders runs) at (upto n) (o.size * times + t) ≡ by_digits size_of_ways (ways_in slots n runs o times) (opened_values at (later_writes runs) o.unplaced.locations o.unplaced.writes (from_on 0 n) times) t
digits_in at slots n runs o times t h l =
    let z = size_is n runs o h in
    ap (λ xs. digits (count_orders runs) at xs (o.size * times + t)) (upto_from n) ∙ ap (λ w. digits (count_orders runs) at (from_on 0 n) (w * times + t)) z ∙
    opened_digits at Initial (later_writes runs) (is_seen slots) o.unplaced.locations o.unplaced.writes (from_on 0 n) times t (fits_in n runs o h) (let m = z in omega (arith, l, m))

-- any sum over the writes that stand last
sums : (slots : List Slot) (init : List ℕ) (runs : List ThreadRun) (o : OpenOrders) (times : ℕ) (F : List EventId → ℕ) → IsOpen (length init) runs o →
    (let ws = ways_in slots (length init) runs o times in total o.size (λ t. F (lasts_by init runs (is_seen slots) (o.size * times + t))) ≡ total (product_by count_of_ways ws) (λ j. weight_at ws j * F (digits count_of_ways way ws j)))
sums slots init runs o times F h =
    let n : ℕ = length init in
    let ws : List WaysValue = ways_in slots n runs o times in
    let vs : List (ℕ → EventId) = lasts_in slots n runs o times in
    let G : ℕ → ℕ = λ t. F (by_digits size_of_ways ws vs t) in
    total_same o.size (λ t. F (lasts_by init runs (is_seen slots) (o.size * times + t))) G (λ t l. ap F (digits_in (last_by Initial (later_writes runs) (is_seen slots)) slots n runs o times t h l)) ∙
    ap (λ z. total z G) (sym (product_is slots n runs o times h)) ∙
    all_spread size_of_ways count_of_ways weight_of_way way ws vs F (spread_in slots n runs o times h)

-- THE SAME ROWS

-- each of the first m rows of f is one of the first n of g
abbrev AreAmong : (f g : ℕ → List ℕ) → (m n : ℕ) → Type 0
AreAmong f g m n = (i : ℕ) → i < m → (j : ℕ) × (j < n) × (f i ≡ g j)

shows : (b : Bool) → 0 < cond b 1 0 → b ≡ true
shows true l = refl
shows false l = absurd (omega (arith, l))

some_right : (w x : ℕ) → 0 < w * x → 0 < x
some_right w zero l = absurd (let e = mul-zero w in omega (arith, e, l))
some_right w (suc x) l = omega arith

same_row : (r s : List ℕ) → 0 < cond (bytes_eq r s) 1 0 → r ≡ s
same_row r s l = (bytes_eq-Decides r s).0 (shows (bytes_eq r s) l)

own_row : (r s : List ℕ) → r ≡ s → 1 ≤ cond (bytes_eq r s) 1 0
own_row r s e =
    let C : Bool → ℕ = λ b. cond b 1 0 in
    let h : C (bytes_eq r s) ≡ C true = ap C ((bytes_eq-Decides r s).1 e) in omega (arith, h)

-- Where sums of any function are the same by weights, so are the values.
picks_among : {X : Type 0} (row : X → List ℕ) (xs ys : ℕ → X) (weight : ℕ → ℕ) (m n : ℕ) → ((F : X → ℕ) → total m (λ t. F (xs t)) ≡ total n (λ j. weight j * F (ys j))) → AreAmong (λ t. row (xs t)) (λ j. row (ys j)) m n
picks_among {X} row xs ys weight m n h i l =
    let F : X → ℕ = λ x. cond (bytes_eq (row (xs i)) (row x)) 1 0 in
    let one = own_row (row (xs i)) (row (xs i)) refl in
    let most = one_total m i (λ t. F (xs t)) l in
    let same = h F in
    let r = some_total n (λ j. weight j * F (ys j)) (omega (arith, one, most, same)) in
    (r.0, r.1, same_row (row (xs i)) (row (ys r.0)) (some_right (weight r.0) (F (ys r.0)) r.2))

among_picks : {X : Type 0} (row : X → List ℕ) (xs ys : ℕ → X) (weight : ℕ → ℕ) (m n : ℕ) → ((j : ℕ) → 0 < weight j) → ((F : X → ℕ) → total m (λ t. F (xs t)) ≡ total n (λ j. weight j * F (ys j))) → AreAmong (λ j. row (ys j)) (λ t. row (xs t)) n m
among_picks {X} row xs ys weight m n some h j l =
    let F : X → ℕ = λ x. cond (bytes_eq (row (ys j)) (row x)) 1 0 in
    let one = own_row (row (ys j)) (row (ys j)) refl in
    let times : weight j * 1 ≤ weight j * F (ys j) = mul-le-mul_left (weight j) one in
    let most = one_total n j (λ k. weight k * F (ys k)) l in
    let same = h F in
    let positive = some j in
    let e = mul-one (weight j) in
    let r = some_total m (λ t. F (xs t)) (omega (arith, times, most, same, positive, e)) in
    (r.0, r.1, same_row (row (ys j)) (row (xs r.0)) r.2)

-- THE COUNT

-- what the ways of a block say is right for its executions
said : (t : Litmus) (items : List Clause) (v : FindingValue) (slots : List Slot) (init : List ℕ) (runs : List ThreadRun) (rf : List EventId) (o : OpenOrders) (times j : ℕ) (flags : List Word) → slots ≡ map (slot_of t) v.places → IsOpen (length init) runs o →
    (let f : ℕ → GraphValue = λ i. with_orders init runs rf (o.size * times + i) in AreJudgedAlike items f o.size → Lists (Raised items (f 0)) flags → AreSaid t items f o.size v (of_ways v (with_orders init runs rf j) slots (ways_in slots (length init) runs o times) flags))
said t items v slots init runs rf o times j flags e h alike raised formula =
    let ws : List WaysValue = ways_in slots (length init) runs o times in
    let g : GraphValue = with_orders init runs rf j in
    let f : ℕ → GraphValue = λ i. with_orders init runs rf (o.size * times + i) in
    let L : ℕ → List EventId = λ i. lasts_by init runs (is_seen slots) (o.size * times + i) in
    let row : List EventId → List ℕ = λ lasts. map (slot_by g lasts) slots in
    let pick : ℕ → List EventId = digits count_of_ways way ws in
    let m : ℕ = product_by count_of_ways ws in
    let seen : (i : ℕ) → obs t v.places (f i) ≡ row (L i) = λ i. obs_is t v.places slots init runs rf (o.size * times + i) j e in
    let asked : (i : ℕ) → has t v.places (f i) ≡ state_has v (row (L i)) = λ i. ap (λ r. holds_in (bindings v.places r) t.condition.formula) (seen i) ∙ ap (holds_in (bindings v.places (row (L i)))) (sym formula) in
    let P : List EventId → ℕ = λ lasts. cond (state_has v (row lasts)) 1 0 in
    let N : List EventId → ℕ = λ lasts. cond (state_has v (row lasts)) 0 1 in
    let all : (F : List EventId → ℕ) → total o.size (λ i. F (L i)) ≡ total m (λ k. weight_at ws k * F (pick k)) = λ F. sums slots init runs o times F h in
    let positive : total o.size (λ i. cond (has t v.places (f i)) 1 0) ≡ total m (λ k. weight_at ws k * P (pick k)) =
    total_same o.size (λ i. cond (has t v.places (f i)) 1 0) (λ i. P (L i)) (λ i l. ap (λ b. cond b 1 0) (asked i)) ∙ all P in
    let negative : total o.size (λ i. cond (not (has t v.places (f i))) 1 0) ≡ total m (λ k. weight_at ws k * N (pick k)) =
    total_same o.size (λ i. cond (not (has t v.places (f i))) 1 0) (λ i. N (L i)) (λ i l. turned (has t v.places (f i)) 1 0 ∙ ap (λ b. cond b 0 1) (asked i)) ∙ all N in
    let some : (k : ℕ) → 0 < weight_at ws k = λ k. weights_some ws k (sound_in slots (length init) runs o times) in
    let opened = h.some in
    record {
      positive = (let c : count_by (has t v.places) (followed [] f o.size) ≡ 0 + total o.size (λ i. cond (has t v.places (f i)) 1 0) = count_followed (has t v.places) [] f o.size in
          let e : total m (λ k. weight_at ws k * P (pick k)) ≡ count_by (has t v.places) (followed [] f o.size) = omega (arith, c, positive) in e);
      negative = (let c : count_by (λ x. not (has t v.places x)) (followed [] f o.size) ≡ 0 + total o.size (λ i. cond (not (has t v.places (f i))) 1 0) = count_followed (λ x. not (has t v.places x)) [] f o.size in
          let e : total m (λ k. weight_at ws k * N (pick k)) ≡ count_by (λ x. not (has t v.places x)) (followed [] f o.size) = omega (arith, c, negative) in e);
      states = λ s. (
        (λ p. (let k = from_followed s (λ i. row (pick i)) m p in
            let r = among_picks row L pick (weight_at ws) o.size m some all k.0 k.1 in
            (f r.0, in_followed f o.size r.0 r.1, k.2 ∙ r.2 ∙ sym (seen r.0)))),
        (λ q. (let i = from_followed q.0 f o.size q.1 in
            let r = picks_among row L pick (weight_at ws) o.size m all i.0 i.1 in
            let S : List ℕ → Type 0 = λ y. IsIn y (followed [] (λ k. row (pick k)) m) in
            subst S (sym (q.2 ∙ ap (obs t v.places) i.2 ∙ seen i.0 ∙ r.2)) (in_followed (λ k. row (pick k)) m r.0 r.1))),
      );
      flags = λ name. (
        (λ p. (f 0, in_followed f o.size 0 (omega (arith, opened)), raised.only name p)),
        (λ q. (let i = from_followed q.0 f o.size q.1 in
            let R : GraphValue → Type 0 = λ x. Raised items x name in
            raised.all name ((alike i.0 i.1).1 name (subst R i.2 q.2)))),
      );
    }

ways_are : (slots : List Slot) (s : Choices) (a : ℕ) (o : OpenOrders) (x : GraphValue) → (h : AreAlike s a o) → graph_at s a ≡ Some x →
    ways_shown slots o x ≡ ways_in slots (length s.init) h.runs o h.times
ways_are slots s a o x h at =
    let n : ℕ = length s.init in
    let free : ℕ = o.unplaced.locations in
    let k : ℕ = o.unplaced.writes in
    let l = h.opens.some in
    let e : free ≡ 0 + free = omega arith in
    ap (λ (y : GraphValue). shown_ways Initial (is_seen slots) free k 0 y.co) (shown_is s a o x h at) ∙
    ap (shown_ways Initial (is_seen slots) free k 0) (digits_in (order_at h.runs) slots n h.runs o h.times 0 h.opens (omega (arith, l))) ∙
    ap (λ z. shown_ways Initial (is_seen slots) z k 0 (by_digits size_of_ways (ways_in slots n h.runs o h.times) (opened_values (order_by Initial (later_writes h.runs)) (later_writes h.runs) free k (from_on 0 n) h.times) 0)) e ∙
    shown_opened Initial (later_writes h.runs) (is_seen slots) free k 0 n h.times

-- What the orders of an execution show is no more than there is.
pub are_few : (slots : List Slot) (s : Choices) (a : ℕ) (o : OpenOrders) (x : GraphValue) (ways : List WaysValue) → AreAlike s a o → graph_at s a ≡ Some x → ways ≡ ways_shown slots o x → o.size ≤ 2 ^ 32 →
    AreFew ways × (product_by size_of_ways ways ≡ o.size)
are_few slots s a o x ways h at is few =
    let n : ℕ = length s.init in
    let ws : List WaysValue = ways_in slots n h.runs o h.times in
    let vs = lasts_in slots n h.runs o h.times in
    let spread = spread_in slots n h.runs o h.times h.opens in
    let p = product_is slots n h.runs o h.times h.opens in
    let P : List WaysValue → Type 0 = λ w. AreFew w × (product_by size_of_ways w ≡ o.size) in
    subst P (sym (is ∙ ways_are slots s a o x h at)) (record { most = few_picks ws vs (sound_in slots n h.runs o h.times) spread; all = weights_add ws vs spread; few = omega (arith, p, few) }, p)

-- what is said of each of them
said_of : (items : List Clause) (s : Choices) (a : ℕ) (o : OpenOrders) (j : JudgementValue) → (h : AreAlike s a o) → AllJudged items s a (a + o.size) j → (i : ℕ) → i < o.size → IsJudged items j (with_orders s.init h.runs h.rf (o.size * h.times + i))
said_of items s a o j h judged i l = judged (a + i) (omega arith) (omega (arith, l)) (with_orders s.init h.runs h.rf (o.size * h.times + i)) (h.at i l)

-- A count goes on over a block whose executions are allowed.
pub block_counted : (t : Litmus) (items : List Clause) (slots : List Slot) (s : Choices) (a : ℕ) (o : OpenOrders) (x : GraphValue) (j : JudgementValue) (before after : FindingValue) → AllJudged items s a (a + o.size) j → j.allowed ≡ true → slots ≡ map (slot_of t) before.places → AreAlike s a o →
    graph_at s a ≡ Some x → IsSum before (of_ways before x slots (ways_shown slots o x) j.flags) after → GoesOn t items s a (a + o.size) before after
block_counted t items slots s a o x j before after judged holds e h at is =
    let f : ℕ → GraphValue = λ i. with_orders s.init h.runs h.rf (o.size * h.times + i) in
    let ws : List WaysValue = ways_in slots (length s.init) h.runs o h.times in
    let first : x ≡ f 0 = shown_is s a o x h at in
    let each : (i : ℕ) → i < o.size → IsJudged items j (f i) = said_of items s a o j h judged in
    let some = h.opens.some in
    let shown : IsJudged items j (f 0) = each 0 (omega (arith, some)) in
    let alike : AreJudgedAlike items f o.size = λ i l. (let told = each i l in let allowed = told.allowed.0 holds in (allowed, λ name r. (shown.flags.only name (told.flags.all name (allowed, r))).1)) in
    let W : List WaysValue → Type 0 = λ w. IsSum before (of_ways before x slots w j.flags) after in
    let G : GraphValue → Type 0 = λ y. IsSum before (of_ways before y slots ws j.flags) after in
    goes_on t items s a o.size f before (of_ways before (f 0) slots ws j.flags) after alike h.at
    (said t items before slots s.init h.runs h.rf o h.times (o.size * h.times + 0) j.flags e h.opens alike (raised items (f 0) j shown holds)) (subst G first (subst W (ways_are slots s a o x h at) is))

-- It stays over a block whose executions aren't.
pub block_forbidden : (t : Litmus) (items : List Clause) (s : Choices) (a b : ℕ) (j : JudgementValue) (v : FindingValue) → a ≤ b → AllJudged items s a b j → j.allowed ≡ false → GoesOn t items s a b v v
block_forbidden t items s a b j v order judged forbidden from l c =
    counts_pass t items s v from a b l order (λ m low up x at allowed. not_allowed j.allowed (Allowed items x) forbidden (judged m low up x at).allowed allowed) c
