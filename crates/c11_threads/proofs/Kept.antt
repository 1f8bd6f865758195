-- Every value of a run is a value of the test.
use Rattle.std.proofs.Common.{◌≡◌, ℕ, zero, suc, ◌<◌, List, [], ◌∷◌, ◌++◌, length, map, get_or, refl, sym, subst, inl, inr, Bool, true, false, Option, None, Some}
use Rattle.std.specs.Prelude.{if◌then◌else◌, not, ◌==◌, ◌&&◌, ◌||◌}
use Rattle.std.specs.List.{flat_map}
use Rattle.events.specs.declared.event.Access.TheVariants.{Read, Write, ExRead, ExWrite}
use Rattle.events.specs.declared.event.Event.{Event}
use Rattle.events.specs.declared.event.Order.TheVariants.{Na}
use Rattle.events.specs.Executions.{ThreadRun}
use Rattle.listings.specs.Lists.{IsIn}
use Rattle.listings.proofs.Listings.{in_left, in_right, map_in, flat_map_in, in_get_or}
use Rattle.conditions.specs.declared.place.Binding.{Binding}
use Rattle.conditions.specs.declared.place.Place.{Place}
use Rattle.conditions.specs.declared.place.Place.TheVariants.{Reg}
use Rattle.conditions.specs.States.{value_at}
use Rattle.litmus_tree.specs.Tree.{Word, Term, number, held, denied, equal, unequal, both, either, Action, load, store, exchange, modify, fence, Right, computed, plain_read, value_of, Declared, Step, empty, block, declare, assign, plain_write, perform, if_only, if_else, Steps, no_steps, in_turn, Litmus}
use Rattle.litmus_value.specs.Values.{Numeral, literal, term_numerals, action_numerals, right_numerals, optional_numerals, step_numerals, steps_numerals, program_numerals, numerals_among, constants_in, InDom}
use Rattle.litmus_value.proofs.Sums.{constant_is_value}
use Rattle.c11_threads.specs.declared.content.Content.{Content}
use Rattle.c11_threads.specs.Contents.{place_of, nothing, is_true, truth, value_in, modified}
use Rattle.c11_threads.specs.Runs.{Progress, after, next_read, Site, thread_of, no_program, holding, names, given_by, inside, reads_from, writes_into, fences, Calls, Gives, Assigns, Declares, DeclaresAll, Branches, Performs, PerformsAll, body, initial_content, start}
use Rattle.c11_threads.specs.Bounds.{AreValues, Keeping}
use Rattle.c11_threads.proofs.Numerals.{literal_in}
use Rattle.std.specs.List.{All}
use Rattle.std.proofs.lemmas.List.Elements.{All-nil, All-cons, All-head, All-tail, All-append, All-set, All-map}
use Rattle.conditions.specs.Equality.{same_place}

-- the constants among the numerals are values of the test
abbrev pub Known : Litmus → List Numeral → Type 0
Known t numerals = (n : ℕ) → IsIn (literal n) numerals → InDom t n

known_left : (t : Litmus) (xs ys : List Numeral) → Known t (xs ++ ys) → Known t xs
known_left t xs ys k n h = k n (in_left xs ys (literal n) h)

known_right : (t : Litmus) (xs ys : List Numeral) → Known t (xs ++ ys) → Known t ys
known_right t xs ys k n h = k n (in_right xs ys (literal n) h)

abbrev pub InContent : Litmus → Content → Type 0
InContent t w = InDom t w.value

abbrev pub InEvent : Litmus → Event → Type 0
InEvent t e = InDom t e.value

-- All values of a thread on its way are values of the test.
pub record Keeps (t : Litmus) (p : Progress) : Type 0 where
  pub events : All (InEvent t) p.events
  pub registers : All (InContent t) p.registers

zero_in : (t : Litmus) → InDom t 0
zero_in t = constant_is_value t.initial t.threads 0 (inl refl)

truth_in : (t : Litmus) (b : Bool) → InDom t (truth b)
truth_in t true = constant_is_value t.initial t.threads 1 (inr (inl refl))
truth_in t false = zero_in t

get_kept : (t : Litmus) (registers : List Content) (k : ℕ) → All (InContent t) registers → InContent t (get_or registers k nothing)
get_kept t [] k h = zero_in t
get_kept t (w ∷ registers) zero h = All-head (InContent t) w registers h
get_kept t (w ∷ registers) (suc k) h = get_kept t registers k (All-tail (InContent t) w registers h)

value_kept : (t : Litmus) (names : List Word) (registers : List Content) (e : Term) → Known t (term_numerals e) → All (InContent t) registers → InDom t (value_in names registers e)
value_kept t names registers (number n) k h = k n (inl refl)
value_kept t names registers (held r) k h = get_kept t registers (place_of r names) h
value_kept t names registers (denied a) k h = truth_in t (not (is_true (value_in names registers a)))
value_kept t names registers (equal a b) k h = truth_in t (value_in names registers a == value_in names registers b)
value_kept t names registers (unequal a b) k h = truth_in t (not (value_in names registers a == value_in names registers b))
value_kept t names registers (both a b) k h = truth_in t (is_true (value_in names registers a) && is_true (value_in names registers b))
value_kept t names registers (either a b) k h = truth_in t (is_true (value_in names registers a) || is_true (value_in names registers b))

given_kept : (s : Site) (p : Progress) (e : Term) → Known s.test (term_numerals e) → Keeps s.test p → InDom s.test (given_by s p e).value
given_kept s p e k h = value_kept s.test (names s) p.registers e k h.registers

one_kept : (t : Litmus) (p q : Progress) (e : Event) → InEvent t e → Keeps t p → q ≡ after p (e ∷ []) → Keeps t q
one_kept t p q e i h is =
    let P : Progress → Type 0 = Keeps t in
    subst P (sym is) (record { events = All-append (InEvent t) p.events (e ∷ []) h.events (All-cons (InEvent t) e [] i (All-nil (InEvent t))); registers = h.registers })

two_kept : (t : Litmus) (p q : Progress) (e f : Event) → InEvent t e → InEvent t f → Keeps t p → q ≡ after p (e ∷ f ∷ []) → Keeps t q
two_kept t p q e f i j h is =
    let P : Progress → Type 0 = Keeps t in
    subst P (sym is) (record {
      events = All-append (InEvent t) p.events (e ∷ f ∷ []) h.events (All-cons (InEvent t) e (f ∷ []) i (All-cons (InEvent t) f [] j (All-nil (InEvent t))));
      registers = h.registers;
    })

holding_kept : (t : Litmus) (p q : Progress) (r : ℕ) (w : Content) → InContent t w → Keeps t p → q ≡ holding r w p → Keeps t q
holding_kept t p q r w i h is =
    let P : Progress → Type 0 = Keeps t in
    subst P (sym is) (record { events = h.events; registers = All-set (InContent t) p.registers r w i h.registers })

same_kept : (t : Litmus) (p q : Progress) → Keeps t p → q ≡ p → Keeps t q
same_kept t p q h is = let P : Progress → Type 0 = Keeps t in subst P (sym is) h

value_of_read : (t : Litmus) (p : Progress) (v : ℕ) (w : Content) → InDom t v → w ≡ next_read p v → InContent t w
value_of_read t p v w i is = let P : Content → Type 0 = InContent t in subst P (sym is) i

no_value : (t : Litmus) (w : Content) → w ≡ nothing → InContent t w
no_value t w is = let P : Content → Type 0 = InContent t in subst P (sym is) (zero_in t)

calls_kept : (s : Site) (a : Action) (p : Progress) (w : Content) (q : Progress) → Known s.test (action_numerals a) → Keeps s.test p → Calls s a p w q → Keeps s.test q × InContent s.test w
calls_kept s (load x o) p w q k h c = (one_kept s.test p q (reads_from s Read x o c.0) c.1 h c.3, value_of_read s.test p c.0 w c.1 c.2)
calls_kept s (store x e o) p w q k h c = (one_kept s.test p q (writes_into s Write x o (given_by s p e)) (given_kept s p e k h) h c.1, no_value s.test w c.0)
calls_kept s (exchange x e o) p w q k h c = (
  two_kept s.test p q (reads_from s ExRead x o c.0) (writes_into s ExWrite x o (given_by s p e)) c.1 (given_kept s p e k h) h c.3,
  value_of_read s.test p c.0 w c.1 c.2,
)
calls_kept s (modify x f n o) p w q k h c = (
  two_kept s.test p q (reads_from s ExRead x o c.0) (writes_into s ExWrite x o (modified f n (next_read p c.0))) c.1.0 c.1.1 h c.3,
  value_of_read s.test p c.0 w c.1.0 c.2,
)
calls_kept s (fence o) p w q k h c = (one_kept s.test p q (fences s o) (zero_in s.test) h c.1, no_value s.test w c.0)

gives_kept : (s : Site) (r : Right) (p : Progress) (w : Content) (q : Progress) → Known s.test (right_numerals r) → Keeps s.test p → Gives s r p w q → Keeps s.test q × InContent s.test w
gives_kept s (computed e) p w q k h c =
    let P : Content → Type 0 = InContent s.test in
    (same_kept s.test p q h c.1, subst P (sym c.0) (given_kept s p e k h))
gives_kept s (plain_read x) p w q k h c = (one_kept s.test p q (reads_from s Read x Na c.0) c.1 h c.3, value_of_read s.test p c.0 w c.1 c.2)
gives_kept s (value_of a) p w q k h c = calls_kept s a p w q k h c

assigns_kept : (s : Site) (r : Word) (right : Right) (p q : Progress) → Known s.test (right_numerals right) → Keeps s.test p → Assigns s r right p q → Keeps s.test q
assigns_kept s r right p q k h c =
    let g = gives_kept s right p c.0 c.1 k h c.2 in
    holding_kept s.test c.1 q (place_of r (names s)) c.0 g.1 g.0 c.3

declares_kept : (s : Site) (r : Word) (right : Option Right) (p q : Progress) → Known s.test (optional_numerals right) → Keeps s.test p → Declares s r right p q → Keeps s.test q
declares_kept s r None p q k h c = holding_kept s.test p q (place_of r (names s)) nothing (zero_in s.test) h c
declares_kept s r (Some right) p q k h c = assigns_kept s r right p q k h c

declares_all_kept : (s : Site) (ds : List Declared) (p q : Progress) → Known s.test (flat_map (λ (d : Declared). optional_numerals d.value) ds) → Keeps s.test p → DeclaresAll s ds p q → Keeps s.test q
declares_all_kept s [] p q k h c = same_kept s.test p q h c
declares_all_kept s (d ∷ ds) p q k h c =
    let rest = flat_map (λ (e : Declared). optional_numerals e.value) ds in
    declares_all_kept s ds c.0 q (known_right s.test (optional_numerals d.value) rest k)
    (declares_kept s d.register d.value p c.0 (known_left s.test (optional_numerals d.value) rest k) h c.1) c.2

either_way : (b : Bool) (P Q R : Type 0) → (P → R) → (Q → R) → Branches b P Q → R
either_way true P Q R f g h = f h
either_way false P Q R f g h = g h

mutual
  step_kept : (a : Step) (s : Site) (p q : Progress) → Known s.test (step_numerals a) → Keeps s.test p → Performs a s p q → Keeps s.test q
  step_kept empty s p q k h c = same_kept s.test p q h c
  step_kept (block steps) s p q k h c = steps_kept steps s p q k h c
  step_kept (declare ds) s p q k h c = declares_all_kept s ds p q k h c
  step_kept (assign r right) s p q k h c = assigns_kept s r right p q k h c
  step_kept (plain_write x e) s p q k h c = one_kept s.test p q (writes_into s Write x Na (given_by s p e)) (given_kept s p e k h) h c
  step_kept (perform a) s p q k h c = (calls_kept s a p c.0 q k h c.1).0
  step_kept (if_only e a) s p q k h c =
      either_way (is_true (given_by s p e).value) (Performs a (inside s p e) p q) (q ≡ p) (Keeps s.test q)
      (λ g. step_kept a (inside s p e) p q (known_right s.test (term_numerals e) (step_numerals a) k) h g) (λ g. same_kept s.test p q h g) c
  step_kept (if_else e a b) s p q k h c =
      let first = known_left s.test (term_numerals e ++ step_numerals a) (step_numerals b) k in
      either_way (is_true (given_by s p e).value) (Performs a (inside s p e) p q) (Performs b (inside s p e) p q) (Keeps s.test q)
      (λ g. step_kept a (inside s p e) p q (known_right s.test (term_numerals e) (step_numerals a) first) h g)
      (λ g. step_kept b (inside s p e) p q (known_right s.test (term_numerals e ++ step_numerals a) (step_numerals b) k) h g) c

  steps_kept : (steps : Steps) (s : Site) (p q : Progress) → Known s.test (steps_numerals steps) → Keeps s.test p → PerformsAll steps s p q → Keeps s.test q
  steps_kept no_steps s p q k h c = same_kept s.test p q h c
  steps_kept (in_turn a rest) s p q k h c =
      steps_kept rest s c.0 q (known_right s.test (step_numerals a) (steps_numerals rest) k)
      (step_kept a s p c.0 (known_left s.test (step_numerals a) (steps_numerals rest) k) h c.1) c.2

either_value : (t : Litmus) (b : Bool) (m n : ℕ) → InDom t m → InDom t n → InDom t (if b then m else n)
either_value t true m n h k = h
either_value t false m n h k = k

initial_in : (t : Litmus) (state : List Binding) (place : Place) → ((b : Binding) → IsIn b state → InDom t b.value) → InDom t (value_at state place)
initial_in t [] place h = zero_in t
initial_in t (b ∷ state) place h =
    either_value t (same_place b.place place) b.value (value_at state place) (h b (inl refl)) (initial_in t state place (λ c i. h c (inr i)))

binding_in : (t : Litmus) (b : Binding) → IsIn b t.initial → InDom t b.value
binding_in t b h =
    constant_is_value t.initial t.threads b.value
    (inr (inr (in_left (map (λ (c : Binding). c.value) t.initial) (constants_in (numerals_among t.threads)) b.value (map_in (λ (c : Binding). c.value) t.initial b h))))

start_kept : (t : Litmus) (k : ℕ) → Keeps t (start t k)
start_kept t k = record {
  events = All-nil (InEvent t);
  registers = All-map (InContent t) (initial_content t k) (thread_of t k).registers
      (λ i d l. initial_in t t.initial (Reg k (get_or (thread_of t k).registers i d)) (binding_in t));
}

program_known : (t : Litmus) (k : ℕ) → k < length t.threads → Known t (program_numerals (thread_of t k))
program_known t k l n h =
    constant_is_value t.initial t.threads n
    (inr (inr (in_right (map (λ (b : Binding). b.value) t.initial) (constants_in (numerals_among t.threads)) n
    (literal_in (numerals_among t.threads) n (flat_map_in program_numerals t.threads (thread_of t k) (literal n) (in_get_or t.threads k no_program l) h)))))

pub keeping : Keeping
keeping t k run l h =
    let e = steps_kept (thread_of t k).steps (body t k) (start t k) h.0 (program_known t k l) (start_kept t k) h.1 in
    let P : ThreadRun → Type 0 = AreValues t in
    subst P (sym h.2) (record { events = e.events; registers = All-map (InDom t) (λ (w : Content). w.value) h.0.registers e.registers })
