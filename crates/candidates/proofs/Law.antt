-- Each execution of a test stands at exactly one number below its size.
use Rattle.std.proofs.Common.{◌≡◌, ℕ, ◌*◌, ◌<◌, List, [], ◌∷◌, length, map, arith, refl, sym, ◌∙◌, ap, subst, inl, inr, Bool, true, false, ◌==◌, ◌&&◌, Option, None, Some}
use Rattle.std.specs.Prelude.{IfSome}
use Rattle.std.proofs.Math.Nat.{mul_comm}
use Rattle.std.proofs.lemmas.List.{length-map}
use Rattle.std.proofs.lemmas.Bool.{and_parts, cases_Bool, eqb-true, eq-eqb}
use Rattle.events.specs.declared.event.Event.{Event}
use Rattle.events.specs.declared.event.EventId.{EventId}
use Rattle.events.specs.declared.event.EventId.TheVariants.{Initial}
use Rattle.events.specs.Executions.{ThreadRun, GraphValue}
use Rattle.listings.specs.Lists.{IsIn, NoRepeats, Lists, ForEach, product_by, sum_of}
use Rattle.listings.specs.Numbered.{IsNumbered}
use Rattle.listings.proofs.Numberings.{IsPairing, pairs, mapped, by_digits, cons_head, cons_tail}
use Rattle.listings.proofs.Listings.{by_list, in_map, map_in, once_map, in_flat_map, flat_map_in, once_flat_map}
use Rattle.listings.proofs.Arrangements.{IsArrangement, by_arrange}
use Rattle.listings.proofs.Walks.{OfSome, IsKeyed, by_walk}
use Rattle.listings.proofs.Sums.{same_sums}
use Rattle.litmus_tree.specs.Tree.{Litmus}
use Rattle.candidates.specs.Executions.{initial_values}
use Rattle.c11_threads.specs.Runs.{IsRun}
use Rattle.candidates.specs.Executions.{IsExecution, IsSize, IsChoice, IsCoherence, Writes, reads, later_writes, upto, block}
use Rattle.candidates.specs.Candidates.{Choices, choices_of, choices, sources, count_sources, source_at, count_orders, order_at, count_co, digits_down, candidate, no_execution, candidate_at, write_value, agree, is_consistent, graph_at, size_of, Numbering}
use Rattle.c11_threads.specs.Unrolled.{runs_of}
use Rattle.c11_threads.proofs.RunLists.{lists_runs_of}
use Rattle.candidates.proofs.Writing.{value_is, sources_in, in_sources, once_later, once_sources}

-- a list lists what is in it
itself : {X : Type 0} (xs : List X) → NoRepeats xs → Lists (λ x. IsIn x xs) xs
itself xs o = record { once = o; only = λ x h. h; all = λ x h. h }

abbrev pub IsFrom : List ThreadRun → ThreadRun → Type 0
IsFrom runs run = IsIn run runs

once_of : (t : Litmus) (threads : List ℕ) (runs : List ThreadRun) → IsIn runs (map (runs_of t) threads) → NoRepeats runs
once_of t [] runs h = absurd h
once_of t (k ∷ threads) runs h = elim h [
  | inl e ↦ (let P : List ThreadRun → Type 0 = NoRepeats in subst P (sym e) (lists_runs_of t k).once)
  | inr m ↦ once_of t threads runs m
]

-- The choices of a run of each thread.
pub only_choices : (threads : List (List ThreadRun)) (c : List ThreadRun) → IsIn c (choices threads) → ForEach IsFrom threads c
only_choices [] c h = elim h [ inl e ↦ (let P : List ThreadRun → Type 0 = ForEach IsFrom [] in subst P (sym e) tt) | inr n ↦ absurd n ]
only_choices (runs ∷ rest) c h =
    let f = in_flat_map (λ run. map (λ d. run ∷ d) (choices rest)) runs c h in
    let m = in_map (λ d. f.0 ∷ d) (choices rest) c f.2 in
    let P : List ThreadRun → Type 0 = ForEach IsFrom (runs ∷ rest) in
    subst P m.2 (f.1, only_choices rest m.0 m.1)

all_choices : (threads : List (List ThreadRun)) (c : List ThreadRun) → ForEach IsFrom threads c → IsIn c (choices threads)
all_choices [] [] h = inl refl
all_choices [] (run ∷ c) h = absurd h
all_choices (runs ∷ rest) [] h = absurd h
all_choices (runs ∷ rest) (run ∷ c) h =
    flat_map_in (λ run. map (λ d. run ∷ d) (choices rest)) runs run (run ∷ c) h.0 (map_in (λ d. run ∷ d) (choices rest) c (all_choices rest c h.1))

one_head : (rest : List (List ThreadRun)) (a b : ThreadRun) (c : List ThreadRun) → IsIn c (map (λ d. a ∷ d) (choices rest)) → IsIn c (map (λ d. b ∷ d) (choices rest)) → a ≡ b
one_head rest a b c h k =
    let m = in_map (λ d. a ∷ d) (choices rest) c h in
    let n = in_map (λ d. b ∷ d) (choices rest) c k in
    cons_head (m.2 ∙ sym n.2)

once_choices : (threads : List (List ThreadRun)) → ((runs : List ThreadRun) → IsIn runs threads → NoRepeats runs) → NoRepeats (choices threads)
once_choices [] each = (λ h. h, tt)
once_choices (runs ∷ rest) each =
    once_flat_map (λ run. map (λ d. run ∷ d) (choices rest)) runs
    (λ run h. once_map (λ d. run ∷ d) (choices rest) (λ a b e. cons_tail e) (once_choices rest (λ rs m. each rs (inr m))))
    (one_head rest) (each runs (inl refl))

to_choice : (t : Litmus) (threads : List ℕ) (runs : List ThreadRun) → ForEach IsFrom (map (runs_of t) threads) runs → ForEach (IsRun t) threads runs
to_choice t [] [] h = tt
to_choice t [] (run ∷ runs) h = h
to_choice t (k ∷ threads) [] h = h
to_choice t (k ∷ threads) (run ∷ runs) h = ((lists_runs_of t k).only run h.0, to_choice t threads runs h.1)

from_choice : (t : Litmus) (threads : List ℕ) (runs : List ThreadRun) → ForEach (IsRun t) threads runs → ForEach IsFrom (map (runs_of t) threads) runs
from_choice t [] [] h = tt
from_choice t [] (run ∷ runs) h = h
from_choice t (k ∷ threads) [] h = h
from_choice t (k ∷ threads) (run ∷ runs) h = ((lists_runs_of t k).all run h.0, from_choice t threads runs h.1)

pub lists_choices : (t : Litmus) → Lists (IsChoice t) (choices (choices_of t).threads)
lists_choices t = record {
  once = once_choices (choices_of t).threads (once_of t (upto (length t.threads)));
  only = λ c h. to_choice t (upto (length t.threads)) c (only_choices (choices_of t).threads c h);
  all = λ c h. all_choices (choices_of t).threads c (from_choice t (upto (length t.threads)) c h);
}

abbrev pub CanRead : List ThreadRun → Event → EventId → Type 0
CanRead runs r w = IsIn w (sources runs r.loc)

sources_numbered : (runs : List ThreadRun) (r : Event) → IsNumbered (CanRead runs r) (count_sources runs r) (source_at runs r)
sources_numbered runs r = by_list (sources runs r.loc) (Initial 0) (itself (sources runs r.loc) (once_sources runs r.loc))

ordered : (init : List ℕ) (runs : List ThreadRun) (x : ℕ) (ws : List EventId) → IsArrangement (later_writes runs x) ws → IsCoherence init runs x (Initial x ∷ ws)
ordered init runs x ws a = record {
  first = refl;
  writes = record {
    once = (λ h. (once_sources runs x).0 (a.only (Initial x) h), a.once);
    only = λ w h. (write_value init runs w, in_sources init runs w x (elim h [ inl e ↦ inl e | inr m ↦ inr (a.only w m) ]));
    all = λ w h. elim (sources_in init runs w x h.0 h.1) [ inl e ↦ inl e | inr m ↦ inr (a.all w m) ];
  };
}

later_ordered : (init : List ℕ) (runs : List ThreadRun) (x : ℕ) (ws : List EventId) → IsCoherence init runs x (Initial x ∷ ws) → IsArrangement (later_writes runs x) ws
later_ordered init runs x ws c = record {
  once = c.writes.once.1;
  only = λ w h. (let v = c.writes.only w (inr h) in
      elim (sources_in init runs w x v.0 v.1) [
        | inl e ↦ absurd (c.writes.once.0 (let P : EventId → Type 0 = λ u. IsIn u ws in subst P e h))
        | inr m ↦ m
      ]);
  all = λ w h. elim (c.writes.all w (write_value init runs w, in_sources init runs w x (inr h))) [
    | inl e ↦ absurd ((once_sources runs x).0 (let P : EventId → Type 0 = λ u. IsIn u (later_writes runs x) in subst P e h))
    | inr m ↦ m
  ];
}

taken_order : (init : List ℕ) (runs : List ThreadRun) (x : ℕ) (order : List EventId) → IsCoherence init runs x order → (ws : List EventId) × IsArrangement (later_writes runs x) ws × ((Initial x ∷ ws) ≡ order)
taken_order init runs x [] c = absurd c.first
taken_order init runs x (w ∷ ws) c =
    let P : EventId → Type 0 = λ u. IsCoherence init runs x (u ∷ ws) in
    (ws, later_ordered init runs x ws (subst P (sym c.first) c), ap (λ u. u ∷ ws) c.first)

orders_numbered : (init : List ℕ) (runs : List ThreadRun) (x : ℕ) → IsNumbered (IsCoherence init runs x) (count_orders runs x) (order_at runs x)
orders_numbered init runs x = mapped (λ ws. Initial x ∷ ws) (by_arrange (later_writes runs x) (once_later runs x)) (ordered init runs x) (taken_order init runs x) (λ a b p q e. cons_tail e)

taken_cells : {A X : Type 0} (R : A → X → Type 0) (a : A) (rest : List A) (xs : List X) → ForEach R (a ∷ rest) xs → (ys : List X) × (y : X) × ForEach R rest ys × R a y × ((y ∷ ys) ≡ xs)
taken_cells R a rest [] r = absurd r
taken_cells R a rest (x ∷ xs) r = (xs, x, r.1, r.0, refl)

-- The tails and the heads of the lists for a ∷ rest.
cells : {A X : Type 0} (R : A → X → Type 0) (a : A) (rest : List A) → IsPairing (ForEach R rest) (R a) (ForEach R (a ∷ rest)) (λ xs x. x ∷ xs)
cells R a rest = record {
  made = λ xs x rs r. (r, rs);
  taken = taken_cells R a rest;
  same = λ xs ys x y rxs rx rys ry e. (cons_tail e, cons_head e);
}

no_cells : {A X : Type 0} (R : A → X → Type 0) (xs : List X) → ForEach R [] xs → (i : ℕ) × (i < 1) × ([] ≡ xs)
no_cells R [] r = (0, omega arith, refl)
no_cells R (x ∷ xs) r = absurd r

pub by_digits_down : {A X : Type 0} {R : A → X → Type 0} {size : A → ℕ} {at : A → ℕ → X} (as' : List A) → ((a : A) → IsIn a as' → IsNumbered (R a) (size a) (at a)) → IsNumbered (ForEach R as') (product_by size as') (digits_down size at as')
by_digits_down {R = R} [] each = record {
  only = λ i l. tt;
  all = no_cells R;
  once = λ i j li lj e. omega arith;
}
by_digits_down {R = R} {size = size} {at = at} (a ∷ rest) each =
    let N : ℕ → Type 0 = λ m. IsNumbered (ForEach R (a ∷ rest)) m (digits_down size at (a ∷ rest)) in
    subst N (mul_comm (product_by size rest) (size a)) (pairs (by_digits_down rest (λ b h. each b (inr h))) (each a (inl refl)) (cells R a rest))

-- An execution but for the values of its reads.
pub record IsCandidate (init : List ℕ) (runs : List ThreadRun) (x : GraphValue) : Type 0 where
  pub init_is : x.init ≡ init
  pub runs_are : x.runs ≡ runs
  pub rf : ForEach (CanRead runs) (reads runs) x.rf
  pub co : ForEach (IsCoherence init runs) (upto (length init)) x.co

together : (init : List ℕ) (runs : List ThreadRun) → IsPairing (ForEach (IsCoherence init runs) (upto (length init))) (ForEach (CanRead runs) (reads runs)) (IsCandidate init runs) (λ co rf. let x : GraphValue = record { init = init; runs = runs; rf = rf; co = co } in x)
together init runs = record {
  made = λ co rf p q. record { init_is = refl; runs_are = refl; rf = q; co = p };
  taken = λ x c. (x.co, x.rf, c.co, c.rf, ap (λ (rs : List ThreadRun). let y : GraphValue = record { init = init; runs = rs; rf = x.rf; co = x.co } in y) (sym c.runs_are) ∙ ap (λ (i : List ℕ). let y : GraphValue = record { init = i; runs = x.runs; rf = x.rf; co = x.co } in y) (sym c.init_is));
  same = λ a c b d pa pb pc pd e. (ap (λ (x : GraphValue). x.co) e, ap (λ (x : GraphValue). x.rf) e);
}

pub block_numbered : (init : List ℕ) (runs : List ThreadRun) → IsNumbered (IsCandidate init runs) (block (length init) runs) (candidate init runs)
block_numbered init runs =
    let N : ℕ → Type 0 = λ m. IsNumbered (IsCandidate init runs) m (candidate init runs) in
    let e : count_co (length init) runs * product_by (count_sources runs) (reads runs) ≡ block (length init) runs = mul_comm (count_co (length init) runs) (product_by (count_sources runs) (reads runs)) in
    subst N e (pairs (by_digits (upto (length init)) (λ x h. orders_numbered init runs x)) (by_digits_down (reads runs) (λ r h. sources_numbered runs r)) (together init runs))

one_choice : (init : List ℕ) → IsKeyed (IsCandidate init)
one_choice init a b x p q = sym p.runs_are ∙ q.runs_are

candidates_numbered : (t : Litmus) → let s = choices_of t in IsNumbered (OfSome (IsCandidate s.init) (choices s.threads)) (sum_of (block (length s.init)) (choices s.threads)) (candidate_at s)
candidates_numbered t =
    let s = choices_of t in
    by_walk no_execution (choices s.threads) (one_choice s.init) (lists_choices t).once (λ runs h. block_numbered s.init runs)

-- Where the values agree, a candidate is an execution, and an execution is a candidate whose values agree.
true_and : (a b : Bool) → a ≡ true → b ≡ true → (a && b) ≡ true
true_and a b h k = rw (h, k) refl

pub agreeing : (init : List ℕ) (runs : List ThreadRun) (rs : List Event) (ws : List EventId) → ForEach (CanRead runs) rs ws → agree init runs rs ws ≡ true → ForEach (λ r w. Writes init runs w r.loc r.value) rs ws
agreeing init runs [] [] f h = tt
agreeing init runs [] (w ∷ ws) f h = f
agreeing init runs (r ∷ rs) [] f h = f
agreeing init runs (r ∷ rs) (w ∷ ws) f h =
    let a = and_parts (write_value init runs w == r.value) (agree init runs rs ws) h in
    let P : ℕ → Type 0 = λ v. Writes init runs w r.loc v in
    (subst P (eqb-true (write_value init runs w) r.value a.0) (in_sources init runs w r.loc f.0), agreeing init runs rs ws f.1 a.1)

readable : (init : List ℕ) (runs : List ThreadRun) (rs : List Event) (ws : List EventId) → ForEach (λ r w. Writes init runs w r.loc r.value) rs ws → ForEach (CanRead runs) rs ws × (agree init runs rs ws ≡ true)
readable init runs [] [] f = (tt, refl)
readable init runs [] (w ∷ ws) f = absurd f
readable init runs (r ∷ rs) [] f = absurd f
readable init runs (r ∷ rs) (w ∷ ws) f =
    let rest = readable init runs rs ws f.1 in
    ((sources_in init runs w r.loc r.value f.0, rest.0), true_and (write_value init runs w == r.value) (agree init runs rs ws) (eq-eqb (write_value init runs w) r.value (value_is init runs w r.loc r.value f.0)) rest.1)

abbrev pub OfTest : Litmus → GraphValue → Type 0
OfTest t x = OfSome (IsCandidate (initial_values t)) (choices (choices_of t).threads) x

pub as_many : (t : Litmus) → length (initial_values t) ≡ length t.locations
as_many t = simp length-map

to_execution : (t : Litmus) (x : GraphValue) → OfTest t x → is_consistent x ≡ true → IsExecution t x
to_execution t x s h =
    let C : List ThreadRun → Type 0 = IsChoice t in
    let R : List ThreadRun → Type 0 = λ runs. ForEach (CanRead runs) (reads runs) x.rf in
    let O : List ThreadRun → Type 0 = λ runs. ForEach (IsCoherence (initial_values t) runs) (upto (length t.locations)) x.co in
    let I : List ℕ → Type 0 = λ init. ForEach (IsCoherence init x.runs) (upto (length t.locations)) x.co in
    let N : ℕ → Type 0 = λ n. ForEach (IsCoherence (initial_values t) s.0) (upto n) x.co in
    let same = sym s.2.runs_are in
    record {
      init = s.2.init_is;
      runs = subst C same ((lists_choices t).only s.0 s.1);
      rf = agreeing x.init x.runs (reads x.runs) x.rf (subst R same s.2.rf) h;
      co = subst I (sym s.2.init_is) (subst O same (subst N (as_many t) s.2.co));
    }

from_execution : (t : Litmus) (x : GraphValue) → IsExecution t x → OfTest t x × (is_consistent x ≡ true)
from_execution t x e =
    let r = readable x.init x.runs (reads x.runs) x.rf e.rf in
    let I : List ℕ → Type 0 = λ init. ForEach (IsCoherence init x.runs) (upto (length t.locations)) x.co in
    let N : ℕ → Type 0 = λ n. ForEach (IsCoherence (initial_values t) x.runs) (upto n) x.co in
    ((x.runs, (lists_choices t).all x.runs e.runs, record { init_is = e.init; runs_are = refl; rf = r.0; co = subst N (sym (as_many t)) (subst I e.init e.co) }), r.1)

size_is : (t : Litmus) → size_of (choices_of t) ≡ sum_of (block (length t.locations)) (choices (choices_of t).threads)
size_is t = ap (λ n. sum_of (block n) (choices (choices_of t).threads)) (as_many t)

pub sized : (t : Litmus) → IsSize t (size_of (choices_of t))
sized t = (choices (choices_of t).threads, lists_choices t, size_is t)

pub shown : (s : Choices) (i : ℕ) → is_consistent (candidate_at s i) ≡ true → graph_at s i ≡ Some (candidate_at s i)
shown s i h = rw h refl

pub hidden : (s : Choices) (i : ℕ) → is_consistent (candidate_at s i) ≡ false → graph_at s i ≡ None
hidden s i h = rw h refl

some_same : {X : Type 0} (x y : X) → Some x ≡ Some y → x ≡ y
some_same x y e = cc

none_some : {X : Type 0} (x : X) → None ≡ Some x → ⊥
none_some x e = cc

stands : (s : Choices) (i : ℕ) (x : GraphValue) → graph_at s i ≡ Some x → candidate_at s i ≡ x
stands s i x h = elim (cases_Bool (is_consistent (candidate_at s i))) [
  | inl t ↦ some_same _ _ (sym (shown s i t) ∙ h)
  | inr f ↦ absurd (none_some x (sym (hidden s i f) ∙ h))
]

pub numbering : Numbering
numbering t n size =
    let s = choices_of t in
    let p = candidates_numbered t in
    let total : size_of s ≡ n = size_is t ∙ same_sums (block (length t.locations)) (choices s.threads) size.0 (lists_choices t) size.1 ∙ sym size.2 in
    let N : ℕ → Type 0 = λ m. IsNumbered (OfTest t) m (candidate_at s) in
    let q : IsNumbered (OfTest t) n (candidate_at s) = subst N total p in
    record {
      only = λ i l. (let G : Option GraphValue → Type 0 = λ g. IfSome g (IsExecution t) in
          elim (cases_Bool (is_consistent (candidate_at s i))) [
            | inl h ↦ subst G (sym (shown s i h)) (to_execution t (candidate_at s i) (q.only i l) h)
            | inr h ↦ subst G (sym (hidden s i h)) tt
          ]);
      all = λ x e. (let f = from_execution t x e in
          let u = q.all x f.0 in
          let h : is_consistent (candidate_at s u.0) ≡ true = ap is_consistent u.2 ∙ f.1 in
          (u.0, u.1, shown s u.0 h ∙ ap (λ (y : GraphValue). Some y) u.2));
      once = λ x i j li lj a b. q.once i j li lj (stands s i x a ∙ sym (stands s j x b));
    }
