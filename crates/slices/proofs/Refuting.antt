-- What refutes an excerpt, and what is forbidden for a reason.
use Rattle.std.proofs.Common.{◌≡◌, ◌≢◌, ◌⊎◌, ℕ, zero, suc, ◌+◌, ◌-◌, ◌<◌, ◌≤◌, List, [], ◌∷◌, ◌++◌, get_or, length, nat_lt, take, Bool, true, refl, sym, ◌∙◌, ap, subst, inl, inr, arith}
use Rattle.std.specs.Prelude.{Option, Some}
use Rattle.std.specs.List.{All, list_any}
use Rattle.std.proofs.lemmas.Bool.{cases_lt, ltb-true, or_cases}
use Rattle.std.proofs.lemmas.List.Elements.{All-nil, All-cons, All-head, All-push, All-tail}
use Rattle.listings.specs.Lists.{IsIn, StandsAt}
use Rattle.cat_tree.specs.Tree.{Clause}
use Rattle.cat_eval.specs.Judging.{Allowed}
use Rattle.cat_eval.specs.Laws.{ValuesDontMatter}
use Rattle.candidates.specs.Blocks.{AllExtend, AllHaveWrites, HasWritesOf}
use Rattle.candidates.specs.Candidates.{graph_at}
use Rattle.candidates.specs.Walks.{Walking}
use Rattle.events.specs.Cuts.{cut_down}
use Rattle.events.specs.declared.cut.Cut.{Cut}
use Rattle.events.specs.declared.event.EventId.{EventId}
use Rattle.events.specs.declared.event.EventId.TheVariants.{Initial}
use Rattle.events.specs.contracts.event.EventIdPartialEq.TheImpl.{ghosts as name_equality}
use Rattle.events.specs.Executions.{GraphValue, IsGraph, IsNamed}
use Rattle.events.specs.Extends.{Extends, IsNobody, IsPart, IsPartOfOne}
use Rattle.events.specs.Structures.{Structure, Sourced, structured, structure_of}
use Rattle.slices.specs.declared.pair.Pair.{Pair}
use Rattle.slices.specs.declared.rivals.Exchange.{Exchange}
use Rattle.slices.specs.declared.rivals.Rivals.{Rivals}
use Rattle.slices.specs.declared.reason.Reason.{Reason}
use Rattle.slices.specs.declared.reason.Reason.TheVariants as reasons
use Rattle.slices.specs.Passing.{IsForbidden, NoneAllowed}
use Rattle.slices.specs.Reasons.{AreApart, AreRivals, ComesLate, HasAt, HasOrder, HasPair, HasSources, HaveOneSource, IsFatal, IsKnown, IsMisplaced, IsRefuted}
use Rattle.slices.proofs.Pairing.{event_exact, part_of_one, two_part}

-- EVENTS OF LISTS

all_in : {X : Type 0} (P : X → Type 0) (xs : List X) (x : X) → All P xs → IsIn x xs → P x
all_in P [] x h i = absurd i
all_in P (y ∷ ys) x h i = elim i [ inl e ↦ subst P (sym e) (All-head P y ys h) | inr j ↦ all_in P ys x (All-tail P y ys h) j ]

pub stands_is : {X : Type 0} (xs : List X) (i : ℕ) (x d : X) → StandsAt xs i x → get_or xs i d ≡ x
stands_is [] i x d s = absurd s
stands_is (y ∷ ys) zero x d s = sym s
stands_is (y ∷ ys) (suc i) x d s = stands_is ys i x d s

pub long_pushed : {X : Type 0} (xs : List X) (y : X) → length (xs ++ y ∷ []) ≡ suc (length xs)
long_pushed [] y = refl
long_pushed (x ∷ xs) y = ap suc (long_pushed xs y)

stands_below : {X : Type 0} (xs : List X) (i : ℕ) (x : X) → StandsAt xs i x → i < length xs
stands_below [] i x s = absurd s
stands_below (y ∷ ys) zero x s = omega arith
stands_below (y ∷ ys) (suc i) x s = let l : i < length ys = stands_below ys i x s in omega (arith, l)

stands_pushed : {X : Type 0} (xs : List X) (y : X) (k : ℕ) (x : X) → StandsAt (xs ++ y ∷ []) k x → StandsAt xs k x ⊎ ((k ≡ length xs) × (x ≡ y))
stands_pushed [] y zero x s = inr (refl, s)
stands_pushed [] y (suc k) x s = absurd s
stands_pushed (z ∷ zs) y zero x s = inl s
stands_pushed (z ∷ zs) y (suc k) x s = elim (stands_pushed zs y k x s) [ inl t ↦ inl t | inr t ↦ inr (ap suc t.0, t.1) ]

-- what stands behind the others is the last one
pub last_pushed : {X : Type 0} (xs ys : List X) (y : X) (k : ℕ) (x : X) → ys ≡ xs ++ y ∷ [] → k ≡ length xs → StandsAt ys k x → x ≡ y
last_pushed {X} xs ys y k x is long s =
    let P : List X → Type 0 = λ z. StandsAt z k x in
    elim (stands_pushed xs y k x (subst P is s)) [
      | inl t ↦ absurd (let l : k < length xs = stands_below xs k x t in omega (arith, l, long))
      | inr t ↦ t.1
    ]

-- what is read at a place stands there
pub item_at : {X : Type 0} (xs : List X) (i : ℕ) (x : X) → i < length xs → x ≡ get_or xs i x → StandsAt xs i x
item_at [] i x l e = absurd (omega (arith, l))
item_at (y ∷ ys) zero x l e = e
item_at (y ∷ ys) (suc i) x l e = item_at ys i x (omega (arith, l)) e

pub item_now : {X : Type 0} (xs ys : List X) (i : ℕ) (x : X) → ys ≡ xs → nat_lt i (length ys) ≡ true → x ≡ get_or ys i x → StandsAt xs i x
item_now {X} xs ys i x same l e = let P : List X → Type 0 = λ z. StandsAt z i x in subst P same (item_at ys i x (ltb-true i (length ys) l) e)

pub all_stands : {X : Type 0} (P : X → Type 0) (xs : List X) (i : ℕ) (x : X) → All P xs → StandsAt xs i x → P x
all_stands P [] i x h s = absurd s
all_stands P (y ∷ ys) zero x h s = subst P (sym s) (All-head P y ys h)
all_stands P (y ∷ ys) (suc i) x h s = all_stands P ys i x (All-tail P y ys h) s

all_part : (P : EventId → Type 0) (xs ys : List EventId) → IsPart xs ys → All P ys → All P xs
all_part P [] ys p h = All-nil P
all_part P (x ∷ xs) [] p h = absurd p
all_part P (x ∷ xs) (y ∷ ys) p h = elim p [
  | inl a ↦ All-cons P x xs (subst P (sym a.0) (All-head P y ys h)) (all_part P xs ys a.1 (All-tail P y ys h))
  | inr a ↦ all_part P (x ∷ xs) ys a (All-tail P y ys h)
]

place_in : (xs : List EventId) (x : EventId) → IsIn x xs → (i : ℕ) × StandsAt xs i x
place_in [] x h = absurd h
place_in (y ∷ ys) x h = elim h [ inl e ↦ (0, e) | inr j ↦ (let r = place_in ys x j in (suc r.0, r.1)) ]

one_at : (xs : List EventId) (i : ℕ) (x y : EventId) → StandsAt xs i x → StandsAt xs i y → x ≡ y
one_at [] i x y s t = absurd s
one_at (z ∷ zs) zero x y s t = s ∙ sym t
one_at (z ∷ zs) (suc i) x y s t = one_at zs i x y s t

three_part : (xs : List EventId) (i j k : ℕ) (a b c : EventId) → StandsAt xs i a → StandsAt xs j b → StandsAt xs k c → i < j → j < k → IsPart (a ∷ b ∷ c ∷ []) xs
three_part [] i j k a b c s t u l m = absurd s
three_part (x ∷ xs) zero zero k a b c s t u l m = absurd (omega (arith, l))
three_part (x ∷ xs) zero (suc j) zero a b c s t u l m = absurd (omega (arith, m))
three_part (x ∷ xs) zero (suc j) (suc k) a b c s t u l m = inl (s, two_part xs j k b c t u (omega (arith, m)))
three_part (x ∷ xs) (suc i) zero k a b c s t u l m = absurd (omega (arith, l))
three_part (x ∷ xs) (suc i) (suc j) zero a b c s t u l m = absurd (omega (arith, m))
three_part (x ∷ xs) (suc i) (suc j) (suc k) a b c s t u l m = inr (three_part xs i j k a b c s t u (omega (arith, l)) (omega (arith, m)))

stands_first : (m : ℕ) (xs : List EventId) (k : ℕ) (x : EventId) → k < m → StandsAt xs k x → StandsAt (take m xs) k x
stands_first zero xs k x l s = absurd (omega (arith, l))
stands_first (suc m) [] k x l s = absurd s
stands_first (suc m) (y ∷ ys) zero x l s = s
stands_first (suc m) (y ∷ ys) (suc k) x l s = stands_first m ys k x (omega (arith, l)) s

-- what a test of equality finds is among them
pub found_in : (xs : List EventId) (x : EventId) → list_any (λ y. name_equality.eq y x) xs ≡ true → IsIn x xs
found_in [] x h = absurd (let n : ◌≡◌ {A = Bool} (list_any (λ y. name_equality.eq y x) []) true = h in cc)
found_in (y ∷ ys) x h = elim (or_cases (name_equality.eq y x) (list_any (λ z. name_equality.eq z x) ys) h) [
  | inl e ↦ inl (sym ((event_exact y x).0 e))
  | inr r ↦ inr (found_in ys x r)
]

-- SOURCES OF WHICH ONE IS KNOWN

abbrev pub AreNobody : List EventId → Type 0
AreNobody ws = All (λ w. w ≡ Initial 64) ws

pub one_more_nobody : (ws vs : List EventId) → vs ≡ ws ++ Initial 64 ∷ [] → AreNobody ws → AreNobody vs
one_more_nobody ws vs is h = let P : List EventId → Type 0 = AreNobody in subst P (sym is) (All-push (λ w. w ≡ Initial 64) ws (Initial 64) h refl)

pub one_known : (ws vs : List EventId) (read : ℕ) (write : EventId) (x : GraphValue) → vs ≡ ws ++ write ∷ [] → length ws ≡ read → AreNobody ws → StandsAt x.rf read write → HasSources vs x
one_known ws vs read write x is long h s = λ k w t. (
    let P : List EventId → Type 0 = λ z. StandsAt z k w in
    elim (stands_pushed ws write k w (subst P is t)) [
      | inl u ↦ inr (all_stands (λ v. v ≡ Initial 64) ws k w h u)
      | inr u ↦ inl (
          let Q : ℕ → Type 0 = λ i. StandsAt x.rf i w in
          let R : EventId → Type 0 = λ v. StandsAt x.rf read v in
          subst Q (sym (u.0 ∙ long)) (subst R (sym u.1) s))
    ])

-- EXCERPTS

-- location 64 is none of an execution
nobody : (g : GraphValue) (sources order : List EventId) → IsGraph g → All (IsNamed g.init g.runs) order → IsNobody (record { init = g.init; runs = g.runs; rf = sources; co = order ∷ [] }) (Initial 64)
nobody g sources order graph named =
    let unnamed : ¬ IsNamed g.init g.runs (Initial 64) = λ n. (let few = graph.few in let l : 64 < length g.init = n in omega (arith, l, few)) in (
      unnamed,
      λ o i m. elim i [
        | inl e ↦ unnamed (all_in (IsNamed g.init g.runs) order (Initial 64) named (let P : List EventId → Type 0 = λ z. IsIn (Initial 64) z in subst P e m))
        | inr j ↦ absurd j
      ],
    )

-- what refutes an excerpt forbids it in all executions of the structure
pub refuted_by : (items : List Clause) (g : GraphValue) (sources order : List EventId) → IsGraph g → All (IsNamed g.init g.runs) order →
    ((h : GraphValue) → Extends (record { init = g.init; runs = g.runs; rf = sources; co = order ∷ [] }) h → ¬ Allowed items h) → ValuesDontMatter → IsRefuted items (structure_of g) sources order
refuted_by items g sources order graph named refuted values x s has part allowed =
    let y : GraphValue = record { init = g.init; runs = g.runs; rf = x.rf; co = x.co } in
    let only : GraphValue = record { init = g.init; runs = g.runs; rf = sources; co = order ∷ [] } in
    let S : Structure → Sourced = λ t. record { structure = t; rf = x.rf } in
    let P : EventId → Type 0 = IsNobody only in
    let e : Extends only y = record {
      init = refl;
      runs = refl;
      rf = λ k w t. elim (has k w t) [ inl a ↦ inl a | inr n ↦ inr (subst P (sym n) (nobody g sources order graph named)) ];
      co = All-cons (IsPartOfOne x.co) order [] part (All-nil (IsPartOfOne x.co));
    } in
    refuted y e ((values items x y (ap S s) refl).0.0 allowed)

-- REASONS

-- the writes of a pair are events
pub pair_named : (g : GraphValue) (p : Pair) → IsGraph g → HasPair p g → All (IsNamed g.init g.runs) (p.first ∷ p.second ∷ [])
pair_named g p graph has = all_part (IsNamed g.init g.runs) (p.first ∷ p.second ∷ []) has.0 has.2 (all_stands (All (IsNamed g.init g.runs)) g.co p.location has.0 graph.co has.1)

-- so are those of rivals
pub rivals_named : (g : GraphValue) (r : Rivals) → IsGraph g → HasOrder r g → IsNamed g.init g.runs r.source × IsNamed g.init g.runs r.first.write × IsNamed g.init g.runs r.second.write
rivals_named g r graph has =
    let named : All (IsNamed g.init g.runs) has.0 = all_stands (All (IsNamed g.init g.runs)) g.co r.first.location has.0 graph.co has.1 in
    let one : (w : EventId) → IsIn w has.0 → IsNamed g.init g.runs w = λ w i. all_in (IsNamed g.init g.runs) has.0 w named i in
    (one r.source has.2, one r.first.write has.3, one r.second.write has.4)

pub three_named : (g : GraphValue) (a b c : EventId) → IsNamed g.init g.runs a → IsNamed g.init g.runs b → IsNamed g.init g.runs c → All (IsNamed g.init g.runs) (a ∷ b ∷ c ∷ [])
three_named g a b c h k l =
    let P : EventId → Type 0 = IsNamed g.init g.runs in
    All-cons P a (b ∷ c ∷ []) h (All-cons P b (c ∷ []) k (All-cons P c [] l (All-nil P)))

pub two_named : (g : GraphValue) (a b c : EventId) → All (IsNamed g.init g.runs) (a ∷ b ∷ c ∷ []) → All (IsNamed g.init g.runs) (c ∷ a ∷ [])
two_named g a b c h =
    let P : EventId → Type 0 = IsNamed g.init g.runs in
    let rest = All-tail P a (b ∷ c ∷ []) h in
    All-cons P c (a ∷ []) (All-head P c [] (All-tail P b (c ∷ []) rest)) (All-cons P a [] (All-head P a (b ∷ c ∷ []) h) (All-nil P))

-- Of three writes in an order, the later two stand behind the first in one order or the other, or one of them before it.
in_order : (o : List EventId) (w a b : EventId) → IsIn w o → IsIn a o → IsIn b o → (w ≢ a) → (w ≢ b) → (a ≢ b) →
    (IsPart (w ∷ b ∷ a ∷ []) o ⊎ IsPart (a ∷ w ∷ []) o) ⊎ (IsPart (w ∷ a ∷ b ∷ []) o ⊎ IsPart (b ∷ w ∷ []) o)
in_order o w a b hw ha hb wa wb ab =
    let i = place_in o w hw in
    let j = place_in o a ha in
    let k = place_in o b hb in
    let apart : (x y : EventId) (m n : ℕ) → StandsAt o m x → StandsAt o n y → (x ≢ y) → ¬ (m ≡ n) =
    λ x y m n s t d e. d (let P : ℕ → Type 0 = λ z. StandsAt o z x in one_at o n x y (subst P e s) t) in
    let ij = apart w a i.0 j.0 i.1 j.1 wa in
    let ik = apart w b i.0 k.0 i.1 k.1 wb in
    let jk = apart a b j.0 k.0 j.1 k.1 ab in
    elim (cases_lt j.0 i.0) [
      | inl l ↦ inl (inr (two_part o j.0 i.0 a w j.1 i.1 l))
      | inr l ↦ elim (cases_lt k.0 i.0) [
        | inl m ↦ inr (inr (two_part o k.0 i.0 b w k.1 i.1 m))
        | inr m ↦ elim (cases_lt j.0 k.0) [
          | inl n ↦ inr (inl (three_part o i.0 j.0 k.0 w a b i.1 j.1 k.1 (below i.0 j.0 ij l) n))
          | inr n ↦ inl (inl (three_part o i.0 k.0 j.0 w b a i.1 k.1 j.1 (below i.0 k.0 ik m) (below k.0 j.0 (λ e. jk (sym e)) n)))
        ]
      ]
    ] where
      below : (m n : ℕ) → ¬ (m ≡ n) → m ≤ n → m < n
      below m n d l = elim (cases_lt m n) [ inl h ↦ h | inr h ↦ absurd (d (omega (arith, l, h))) ]

-- where each order of three writes is refuted, no execution has them
pub rivals_by : (items : List Clause) (s : Structure) (r : Rivals) → AreApart r →
    ComesLate items s r.first r.source r.second.write → ComesLate items s r.second r.source r.first.write → AreRivals items s r
rivals_by items s r apart one other x same has =
    let o : HasOrder r x = has.2 in
    elim (in_order o.0 r.source r.first.write r.second.write o.2 o.3 o.4 apart.0 apart.1 apart.2) [
      | inl h ↦ elim h [
        | inl p ↦ one.0 x same has.0 (r.first.location, o.0, o.1, p)
        | inr p ↦ one.1 x same has.0 (r.first.location, o.0, o.1, p)
      ]
      | inr h ↦ elim h [
        | inl p ↦ other.0 x same has.1 (r.first.location, o.0, o.1, p)
        | inr p ↦ other.1 x same has.1 (r.first.location, o.0, o.1, p)
      ]
    ]

-- what is read from in what is known of a graph is read from in what goes on from it
source_carried : (g x : GraphValue) (c : Cut) (k : ℕ) (w : EventId) → IsGraph g → Extends (cut_down g c) x → k < c.reads → StandsAt g.rf k w → StandsAt x.rf k w
source_carried g x c k w graph e l s = elim (e.rf k w (stands_first c.reads g.rf k w l s)) [
  | inl t ↦ t
  | inr n ↦ absurd (n.0 (all_stands (IsNamed g.init g.runs) g.rf k w graph.rf s))
]

-- A reason that is known of an execution forbids what goes on from it.
carried : (items : List Clause) (r : Reason) (g x : GraphValue) (c : Cut) → IsGraph g → HasAt r g → IsKnown r c → IsFatal items (structure_of g) r → Extends (cut_down g c) x → HasWritesOf g x → ¬ Allowed items x
carried items (reasons.Pair p) g x c graph has known fatal e writes =
    let part = known g has in
    let same : structure_of x ≡ structure_of g = ap (λ i. structured i x.runs) e.init ∙ ap (λ r. structured g.init r) e.runs in
    fatal x same (part_of_one (cut_down g c).co x.co (p.first ∷ p.second ∷ []) e.co part.0 part.1 part.2 part.3)
carried items (reasons.Rivals r) g x c graph has known fatal e writes =
    let same : structure_of x ≡ structure_of g = ap (λ i. structured i x.runs) e.init ∙ ap (λ r. structured g.init r) e.runs in
    let o : HasOrder r g = has.2 in
    let p = writes r.first.location o.0 o.1 in
    fatal x same (
      source_carried g x c r.first.read r.source graph e known.0 has.0,
      source_carried g x c r.second.read r.source graph e known.1 has.1,
      (p.0, p.1, p.2 r.source o.2, p.2 r.first.write o.3, p.2 r.second.write o.4),
    )

pub block_forbidden : (items : List Clause) (w : Walking) (end : ℕ) (c : Cut) (r : Reason) → IsGraph w.shown → w.next ≤ end → AllExtend w.space (w.next - 1) end (cut_down w.shown c) → AllHaveWrites w.space (w.next - 1) end w.shown → HasAt r w.shown → IsKnown r c →
    IsFatal items (structure_of w.shown) r → IsForbidden items w end
block_forbidden items w end c r graph later extend writes has known fatal =
    (later, λ m l u x at. carried items r w.shown x c graph has known fatal (extend m l u x at) (writes m l u x at))

itself : (items : List Clause) (r : Reason) (x : GraphValue) → HasAt r x → IsFatal items (structure_of x) r → ¬ Allowed items x
itself items (reasons.Pair p) x has fatal = fatal x refl (p.location, has.0, has.1, has.2)
itself items (reasons.Rivals r) x has fatal = fatal x refl has

some_graph : (x y : GraphValue) → Some x ≡ Some y → x ≡ y
some_graph x y e = cc

-- the one execution that is shown
pub one_forbidden : (items : List Clause) (w : Walking) (n : ℕ) (r : Reason) → w.next ≡ n + 1 → graph_at w.space n ≡ Some w.shown → HasAt r w.shown → IsFatal items (structure_of w.shown) r → IsForbidden items w (n + 1)
one_forbidden items w n r next at has fatal = (
  omega (arith, next),
  λ m l u x is. (
      let e : m ≡ n = omega (arith, next, l, u) in
      let P : ℕ → Type 0 = λ i. graph_at w.space i ≡ Some x in
      let f : w.shown ≡ x = some_graph w.shown x (sym at ∙ subst P e is) in
      let Q : GraphValue → Type 0 = λ z. ¬ Allowed items z in
      subst Q f (itself items r w.shown has fatal)),
)
