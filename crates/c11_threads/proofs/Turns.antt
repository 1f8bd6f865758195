-- Ways that are taken part by part.
use Rattle.std.proofs.Common.{◌≡◌, ℕ, zero, suc, filter, subst, ◌+◌, ◌-◌, ◌≤◌, ◌<◌, List, [], ◌∷◌, ◌++◌, length, map, get_or, drop, drop-cons, add-one, refl, sym, ◌∙◌, ap, arith, append_assoc, append-nil, Option, None, Some, Bool, true, false, if◌then◌else◌, length-append, Box, Vec}
use Rattle.std.specs.Prelude.{◌&&◌}
use Rattle.std.proofs.lemmas.Bool.{false≢true}
use Rattle.std.proofs.lemmas.List.{drop_all, length-map}
use Rattle.std.proofs.lemmas.Grind.{flat_map-append}
use Rattle.std.specs.Global.{Global}
use Rattle.std.specs.List.{flat_map}
use Rattle.litmus_tree.specs.declared.tree.Declarator.{Declarator}
use Rattle.litmus_tree.specs.declared.expression.Expression.{Expression}
use Rattle.litmus_tree.specs.declared.tree.RightSide.TheVariants.{Value as Value'}
use Rattle.litmus_tree.specs.declared.tree.Statement.{Statement}
use Rattle.litmus_tree.specs.declared.tree.Call.{Call}
use Rattle.litmus_tree.specs.declared.tree.RightSide.{RightSide}
use Rattle.litmus_tree.specs.declared.tree.Statement.TheVariants.{Empty as Empty', Block as Block', Declare as Declare', Assign as Assign', Write as Write', Perform as Perform', If as If', rolls-Empty, rolls-Block, rolls-Declare, rolls-Assign, rolls-Write, rolls-Perform}
use Rattle.litmus_tree.specs.declared.tree.Statement.TheOpen.{Statement-F}
use Rattle.litmus_tree.specs.declared.tree.Statement.TheFolds.{fold-roll-Statement}
use Rattle.litmus_tree.specs.Tree.{Word, Action, load, store, exchange, modify, fence, computed_by, Right, computed, plain_read, value_of, Declared, Step, empty, block, declare, assign, plain_write, perform, if_only, if_else, Steps, no_steps, in_turn, layer, step_of, steps_of, term_of, action_of, right_of, declared_of}
use Rattle.litmus_tree.proofs.Steps.{only_if, if_and_else}
use Rattle.c11_threads.specs.declared.fault.RunFault.{RunFault}
use Rattle.c11_threads.specs.declared.fault.RunFault.TheVariants.{TooManyRuns, NoMemory}
use Rattle.c11_threads.specs.Ways.{Ways, extended, led, IsFaultAt}
use Rattle.c11_threads.specs.Contents.{place_of, nothing}
use Rattle.c11_threads.specs.Serving.{AreSmall, IsComputable, ServesRead, ServesCall, ServesRight, ServesOption, ServesAll, Serves, ServesSteps}
use Rattle.c11_threads.specs.declared.reading.Behind.{Behind}
use Rattle.c11_threads.specs.declared.reading.Reading.{Reading}
use Rattle.c11_threads.specs.declared.reading.Behind.TheVariants.{Nothing, Write as Writes, Modify}
use Rattle.c11_threads.specs.Idle.{is_idle, are_idle}
use Rattle.c11_threads.specs.Runs.{Progress}
use Rattle.c11_threads.specs.Unrolled.{Setting, giving, given_at, accesses, may_read, read_runs, loading, updating, call_runs, right_runs, optional_runs, declare_runs, declares_runs, under, holds, step_runs, steps_runs}
use Rattle.c11_threads.proofs.Filling.{joined_on, all_joined}
use Rattle.c11_threads.proofs.Filtered.{filter_in}
use Rattle.c11_threads.proofs.RunLists.{some_flat_map}
use Rattle.events.specs.declared.event.Access.TheVariants.{ExWrite}
use Rattle.events.specs.declared.event.Order.TheVariants.{Na}
use Rattle.listings.specs.Lists.{IsIn}
use Rattle.listings.proofs.Listings.{place_of as place_of_element}
use Rattle.litmus_tree.specs.declared.tree.Computation.{Computation}
use Rattle.litmus_tree.specs.declared.tree.Computation.TheVariants.{Addition}
use Rattle.litmus_value.proofs.Distinct.{in_any}
use Rattle.std.proofs.lemmas.List.Elements.{All-head, All-tail}

-- What a statement makes of a way.
abbrev pub Goes : Type 0
Goes = Progress → List Progress

flat_map_twice : (f g : Goes) (ps : List Progress) → flat_map g (flat_map f ps) ≡ flat_map (λ p. flat_map g (f p)) ps
flat_map_twice f g [] = refl
flat_map_twice f g (p ∷ ps) = flat_map-append g (f p) (flat_map f ps) ∙ ap (λ (qs : List Progress). flat_map g (f p) ++ qs) (flat_map_twice f g ps)

flat_map_one : (ps : List Progress) → flat_map (λ p. p ∷ []) ps ≡ ps
flat_map_one [] = refl
flat_map_one (p ∷ ps) = ap (λ (qs : List Progress). p ∷ qs) (flat_map_one ps)

-- w, where it ends so
abbrev pub ending : Ways → List Progress → Ways
ending w ends = record { ends = ends; waiting = w.waiting; thread = w.thread }

-- Statements that do nothing leave each way as it is, and a block takes the ways through its statements.

both_idle : (a b : Bool) → (a && b) ≡ true → (a ≡ true) × (b ≡ true)
both_idle true true h = (refl, refl)
both_idle true false h = absurd (false≢true h)
both_idle false b h = absurd (false≢true h)

same_way : (b : Bool) (xs ys zs : List Progress) → xs ≡ zs → ys ≡ zs → (if b then xs else ys) ≡ zs
same_way true xs ys zs h k = h
same_way false xs ys zs h k = k

mutual
  idle_step : (a : Step) (s : Setting) (p : Progress) → is_idle a ≡ true → step_runs a s p ≡ p ∷ []
  idle_step empty s p h = refl
  idle_step (block steps) s p h = idle_steps steps s p h
  idle_step (declare ds) s p h = absurd (false≢true h)
  idle_step (assign r right) s p h = absurd (false≢true h)
  idle_step (plain_write x e) s p h = absurd (false≢true h)
  idle_step (perform a) s p h = absurd (false≢true h)
  idle_step (if_only e a) s p h = same_way (holds s e p) _ _ (p ∷ []) (idle_step a (under s e p) p h) refl
  idle_step (if_else e a b) s p h =
      let both = both_idle (is_idle a) (is_idle b) h in
      same_way (holds s e p) _ _ (p ∷ []) (idle_step a (under s e p) p both.0) (idle_step b (under s e p) p both.1)

  idle_steps : (steps : Steps) (s : Setting) (p : Progress) → are_idle steps ≡ true → steps_runs steps s p ≡ p ∷ []
  idle_steps no_steps s p h = refl
  idle_steps (in_turn a rest) s p h =
      let both = both_idle (is_idle a) (are_idle rest) h in
      ap (flat_map (steps_runs rest s)) (idle_step a s p both.0) ∙ append-nil (steps_runs rest s p) ∙ idle_steps rest s p both.1

idle_all : (f : Goes) → ((p : Progress) → f p ≡ p ∷ []) → (ps : List Progress) → flat_map f ps ≡ ps
idle_all f h [] = refl
idle_all f h (p ∷ ps) = ap (λ (qs : List Progress). qs ++ flat_map f ps) (h p) ∙ ap (λ (qs : List Progress). p ∷ qs) (idle_all f h ps)

pub after_idle : (s : Setting) (a : Step) (w : Ways) → is_idle a ≡ true → w ≡ led (step_runs a s) w
after_idle s a w h = ap (ending w) (sym (idle_all (step_runs a s) (λ p. idle_step a s p h) w.ends))

-- Statements by their variants.

pub empty_step : (a : Statement) → a ≡ Empty' → step_of a ≡ empty
empty_step a is = ap step_of (is ∙ sym rolls-Empty) ∙ fold-roll-Statement Step layer Statement-F.Empty

pub block_step : (a : Statement) (all : Vec Statement Global) → a ≡ Block' all → step_of a ≡ block (steps_of all.items)
block_step a all is = ap step_of (is ∙ sym (rolls-Block all)) ∙ fold-roll-Statement Step layer (Statement-F.Block all)

pub declare_step : (a : Statement) (ds : Vec Declarator Global) → a ≡ Declare' ds → step_of a ≡ declare (map declared_of ds.items)
declare_step a ds is = ap step_of (is ∙ sym (rolls-Declare ds)) ∙ fold-roll-Statement Step layer (Statement-F.Declare ds)

pub assign_step : (a : Statement) (r : Word) (right : RightSide) → a ≡ Assign' r right → step_of a ≡ assign r (right_of right)
assign_step a r right is = ap step_of (is ∙ sym (rolls-Assign r right)) ∙ fold-roll-Statement Step layer (Statement-F.Assign r right)

pub write_step : (a : Statement) (x : Word) (e : Expression) → a ≡ Write' x e → step_of a ≡ plain_write x (term_of e)
write_step a x e is = ap step_of (is ∙ sym (rolls-Write x e)) ∙ fold-roll-Statement Step layer (Statement-F.Write x e)

pub perform_step : (a : Statement) (call : Call) → a ≡ Perform' call → step_of a ≡ perform (action_of call)
perform_step a call is = ap step_of (is ∙ sym (rolls-Perform call)) ∙ fold-roll-Statement Step layer (Statement-F.Perform call)

-- A computed value changes each way into one.
flat_map_each : (f : Progress → Progress) (ps : List Progress) → flat_map (λ p. f p ∷ []) ps ≡ map f ps
flat_map_each f [] = refl
flat_map_each f (p ∷ ps) = ap (λ (qs : List Progress). f p ∷ qs) (flat_map_each f ps)

pub in_each : (f : Progress → Progress) (w : Ways) (ends : List Progress) → ends ≡ map f w.ends → ending w ends ≡ led (λ p. f p ∷ []) w
in_each f w ends e = ap (ending w) (e ∙ sym (flat_map_each f w.ends))

pub in_value : (s : Setting) (a : Statement) (r : Word) (e : Expression) (n : ℕ) (w : Ways) → a ≡ Assign' r (Value' e) → n ≡ place_of r s.registers → led (λ p. giving (Some n) (given_at s p (term_of e)) p ∷ []) w ≡ led (step_runs (step_of a) s) w
in_value s a r e n w is at =
    let g : step_of a ≡ assign r (computed (term_of e)) = ap step_of (is ∙ sym (rolls-Assign r (Value' e))) ∙ fold-roll-Statement Step layer (Statement-F.Assign r (Value' e)) in
    ap (λ (m : ℕ). led (λ p. giving (Some m) (given_at s p (term_of e)) p ∷ []) w) at
    ∙ ap (λ (b : Step). led (step_runs b s) w) (sym g)

pub in_block : (s : Setting) (a : Statement) (inside : List Statement) (all : Vec Statement Global) → a ≡ Block' all → inside ≡ all.items → steps_runs (steps_of inside) s ≡ step_runs (step_of a) s
in_block s a inside all e f =
    ap (λ (as' : List Statement). steps_runs (steps_of as') s) f ∙ ap (λ (b : Step). step_runs b s) (sym (block_step a all e))

pub in_declare : (s : Setting) (a : Statement) (inside : List Declarator) (all : Vec Declarator Global) → a ≡ Declare' all → inside ≡ all.items → declares_runs s (map declared_of inside) ≡ step_runs (step_of a) s
in_declare s a inside all e f =
    ap (λ (ds : List Declarator). declares_runs s (map declared_of ds)) f ∙ ap (λ (b : Step). step_runs b s) (sym (declare_step a all e))

-- The arms of an if, by its test.

pub arm_taken : (s : Setting) (p : Progress) (a : Statement) (e : Expression) (first : Box Statement Global) (second : Option (Box Statement Global)) → a ≡ If' e first second → holds s (term_of e) p ≡ true →
    step_runs (step_of first.value) (under s (term_of e) p) p ≡ step_runs (step_of a) s p
arm_taken s p a e first None is h =
    let g : step_of a ≡ if_only (term_of e) (step_of first.value) = ap step_of is ∙ only_if e first in
    sym (ap (λ (b : Step). step_runs b s p) g ∙ ap (λ (t : Bool). if t then step_runs (step_of first.value) (under s (term_of e) p) p else p ∷ []) h)
arm_taken s p a e first (Some other) is h =
    let g : step_of a ≡ if_else (term_of e) (step_of first.value) (step_of other.value) = ap step_of is ∙ if_and_else e first other in
    sym (ap (λ (b : Step). step_runs b s p) g ∙ ap (λ (t : Bool). if t then step_runs (step_of first.value) (under s (term_of e) p) p else step_runs (step_of other.value) (under s (term_of e) p) p) h)

pub arm_untaken : (s : Setting) (p : Progress) (a : Statement) (e : Expression) (first : Box Statement Global) → a ≡ If' e first None → holds s (term_of e) p ≡ false → p ∷ [] ≡ step_runs (step_of a) s p
arm_untaken s p a e first is h =
    let g : step_of a ≡ if_only (term_of e) (step_of first.value) = ap step_of is ∙ only_if e first in
    sym (ap (λ (b : Step). step_runs b s p) g ∙ ap (λ (t : Bool). if t then step_runs (step_of first.value) (under s (term_of e) p) p else p ∷ []) h)

pub arm_behind_else : (s : Setting) (p : Progress) (a : Statement) (e : Expression) (first other : Box Statement Global) → a ≡ If' e first (Some other) → holds s (term_of e) p ≡ false →
    step_runs (step_of other.value) (under s (term_of e) p) p ≡ step_runs (step_of a) s p
arm_behind_else s p a e first other is h =
    let g : step_of a ≡ if_else (term_of e) (step_of first.value) (step_of other.value) = ap step_of is ∙ if_and_else e first other in
    sym (ap (λ (b : Step). step_runs b s p) g ∙ ap (λ (t : Bool). if t then step_runs (step_of first.value) (under s (term_of e) p) p else step_runs (step_of other.value) (under s (term_of e) p) p) h)

-- Where there is no room, one way more is too much.
pub full_fault : (w : Ways) (end : Progress) (e : RunFault) → (e ≡ TooManyRuns w.thread) × (4096 ≤ length w.ends + w.waiting) → IsFaultAt (extended (end ∷ []) w) e
full_fault w end e h =
    let P : RunFault → Type 0 = IsFaultAt (extended (end ∷ []) w) in
    let many : 4096 < length (w.ends ++ end ∷ []) + w.waiting = omega (arith, h.1, length-append w.ends (end ∷ [])) in
    subst P (sym h.0) (refl, many)

-- What is too much for some ways is too much for more.
pub still_fault : (v w : Ways) (e : RunFault) → v.thread ≡ w.thread → length v.ends + v.waiting ≤ length w.ends + w.waiting → IsFaultAt v e → IsFaultAt w e
still_fault v w (TooManyRuns j) t l h = (h.0 ∙ t, omega (arith, h.1, l))
still_fault v w NoMemory t l h = h

pub drop_first : {A : Type 0} (a : A) (xs : List A) (i : ℕ) → i < length xs → a ≡ get_or xs i a → drop i xs ≡ a ∷ drop (i + 1) xs
drop_first a xs i l e = rw add-one (drop-cons xs i a l ∙ ap (λ y. y ∷ drop (suc i) xs) (sym e))

-- Each way has an end: 0 can be read.

some_in : {X : Type 0} (xs : List X) (x : X) → IsIn x xs → 1 ≤ length xs
some_in [] x h = absurd h
some_in (y ∷ xs) x h = omega arith

-- what is computed of 0 and a constant is the constant
of_zero : (f : Computation) (k : ℕ) → computed_by f 0 k ≡ k
of_zero Addition k = omega arith

can_read : (values : List ℕ) (b : Behind) → ServesRead values b → IsIn 0 values × (may_read values b 0 ≡ true)
can_read values Nothing h = (h, refl)
can_read values (Writes e) h = (h, refl)
can_read values (Modify f k e) h =
    let P : ℕ → Type 0 = λ u. IsIn u values in
    (h.0, in_any values (computed_by f 0 k) (subst P (sym (of_zero f k)) h.1))

some_read : (s : Setting) (r : Reading) → ServesRead s.values r.behind → (p : Progress) → 1 ≤ length (read_runs s r p)
some_read s r h p =
    let zero = can_read s.values r.behind h in
    simp length-map (some_in (filter (may_read s.values r.behind) s.values) 0 (filter_in (may_read s.values r.behind) s.values 0 zero.0 zero.1))

some_call : (s : Setting) (a : Action) → ServesCall s.values a → (r : Option ℕ) (p : Progress) → 1 ≤ length (call_runs s a r p)
some_call s (load x o) h r p = some_read s (loading s x o r) h p
some_call s (store x e o) h r p = omega arith
some_call s (exchange x e o) h r p = some_read s (updating s x o (Writes (accesses s ExWrite x o (given_at s p e))) r) h p
some_call s (modify x f k o) h r p = some_read s (updating s x o (Modify f k (accesses s ExWrite x o nothing)) r) h p
some_call s (fence o) h r p = omega arith

some_right : (s : Setting) (a : Right) → ServesRight s.values a → (r : ℕ) (p : Progress) → 1 ≤ length (right_runs s a r p)
some_right s (computed e) h r p = omega arith
some_right s (plain_read x) h r p = some_read s (loading s x Na (Some r)) h p
some_right s (value_of a) h r p = some_call s a h (Some r) p

some_optional : (s : Setting) (a : Option Right) → ServesOption s.values a → (r : ℕ) (p : Progress) → 1 ≤ length (optional_runs s a r p)
some_optional s None h r p = omega arith
some_optional s (Some a) h r p = some_right s a h r p

pub some_declare : (s : Setting) (d : Declared) → ServesOption s.values d.value → (p : Progress) → 1 ≤ length (declare_runs s d p)
some_declare s d h p = some_optional s d.value h (place_of d.register s.registers) p

abbrev Serving : List ℕ → Declared → Type 0
Serving values d = ServesOption values d.value

pub some_declares : (s : Setting) (ds : List Declared) → ServesAll s.values ds → (p : Progress) → 1 ≤ length (declares_runs s ds p)
some_declares s [] h p = omega arith
some_declares s (d ∷ ds) h p =
    omega (
      arith,
      some_declare s d (All-head (Serving s.values) d ds h) p,
      some_flat_map (declares_runs s ds) (declare_runs s d p) (some_declares s ds (All-tail (Serving s.values) d ds h)),
    )

either_some : (b : Bool) (xs ys : List Progress) → 1 ≤ length xs → 1 ≤ length ys → 1 ≤ length (if b then xs else ys)
either_some true xs ys h k = h
either_some false xs ys h k = k

mutual
  pub some_step : (a : Step) (s : Setting) → Serves s.values a → (p : Progress) → 1 ≤ length (step_runs a s p)
  some_step empty s h p = omega arith
  some_step (block steps) s h p = some_steps steps s h p
  some_step (declare ds) s h p = some_declares s ds h p
  some_step (assign r right) s h p = some_right s right h _ p
  some_step (plain_write x e) s h p = omega arith
  some_step (perform a) s h p = some_call s a h None p
  some_step (if_only e a) s h p = either_some (holds s e p) _ _ (some_step a (under s e p) h p) (let g : 1 ≤ length (p ∷ []) = omega arith in g)
  some_step (if_else e a b) s h p = either_some (holds s e p) _ _ (some_step a (under s e p) h.0 p) (some_step b (under s e p) h.1 p)

  pub some_steps : (steps : Steps) (s : Setting) → ServesSteps s.values steps → (p : Progress) → 1 ≤ length (steps_runs steps s p)
  some_steps no_steps s h p = omega arith
  some_steps (in_turn a rest) s h p = omega (arith, some_step a s h.0 p, some_flat_map (steps_runs rest s) (step_runs a s p) (some_steps rest s h.1))

-- Ways that are led on one after another, where `done` are the ends so far, and `left` wait besides those that waited before.

pub record AreLed (f : Goes) (starts done : Ways) (left : List Progress) : Type 0 where
  pub is : done.ends ++ flat_map f left ≡ flat_map f starts.ends
  pub waiting : done.waiting ≡ length left + starts.waiting
  pub thread : done.thread ≡ starts.thread

-- one of those that wait is taken on
abbrev pub taken_on : Ways → Ways
taken_on w = record { ends = w.ends; waiting = w.waiting - 1; thread = w.thread }

pub some_wait : (f : Goes) (starts done : Ways) (left rest : List Progress) (from : Progress) → left ≡ from ∷ rest → AreLed f starts done left → 0 < done.waiting
some_wait f starts done left rest from l h = omega (arith, h.waiting, ap (λ (ps : List Progress). length ps) l)

pub led_on : (f : Goes) (starts done next : Ways) (left rest : List Progress) (from : Progress) → left ≡ from ∷ rest → next ≡ extended (f from) (taken_on done) → AreLed f starts done left → AreLed f starts next rest
led_on f starts done next left rest from l e h =
    let P : Ways → Type 0 = λ w. AreLed f starts w rest in
    subst P (sym e) (record {
      is = joined_on f left rest from done.ends (done.ends ++ f from) (flat_map f starts.ends) l refl h.is;
      waiting = omega (arith, h.waiting, ap (λ (ps : List Progress). length ps) l);
      thread = h.thread;
    })

abbrev pub counted : List Progress → ℕ → ℕ → Ways
counted ends k n = record { ends = ends; waiting = n; thread = k }

pub all_led : (f : Goes) (starts done : Ways) (left : List Progress) → length left ≡ 0 → AreLed f starts done left → done ≡ led f starts
all_led f starts done left none h =
    ap (ending done) (all_joined f left done.ends (flat_map f starts.ends) none h.is)
    ∙ ap (counted (flat_map f starts.ends) done.thread) (let same : done.waiting ≡ starts.waiting = omega (arith, h.waiting, none) in same)
    ∙ ap (λ (k : ℕ). counted (flat_map f starts.ends) k starts.waiting) h.thread

-- A fault on one way is a fault on all: each way that still waits has an end.
pub way_fault : (f : Goes) → ((p : Progress) → 1 ≤ length (f p)) → (starts done taken : Ways) (left rest : List Progress) (from : Progress) (e : RunFault) → left ≡ from ∷ rest → taken ≡ taken_on done → AreLed f starts done left → IsFaultAt (extended (f from) taken) e → IsFaultAt (led f starts) e
way_fault f some starts done taken left rest from e l t h g =
    let P : Ways → Type 0 = λ w. IsFaultAt (extended (f from) w) e in
    let x = joined_on f left rest from done.ends (done.ends ++ f from) (flat_map f starts.ends) l refl h.is in
    let few : length (done.ends ++ f from) + (done.waiting - 1) ≤ length (flat_map f starts.ends) + starts.waiting
    = omega (arith, ap (λ (ps : List Progress). length ps) x, length-append (done.ends ++ f from) (flat_map f rest), some_flat_map f rest some, h.waiting, ap (λ (ps : List Progress). length ps) l) in
    still_fault (extended (f from) (taken_on done)) (led f starts) e h.thread few (subst P t g)

-- A way by itself, which then joins the others.

-- w waits, while one way is led on from p
abbrev pub apart : Progress → Ways → Ways
apart p w = record { ends = p ∷ []; waiting = length w.ends + w.waiting; thread = w.thread }

pub apart_fault : (f : Goes) (p : Progress) → 1 ≤ length (f p) → (w : Ways) (e : RunFault) → IsFaultAt (extended (p ∷ []) w) e → IsFaultAt (extended (f p) w) e
apart_fault f p some w e h =
    let few : length (w.ends ++ p ∷ []) + w.waiting ≤ length (w.ends ++ f p) + w.waiting = omega (arith, length-append w.ends (p ∷ []), length-append w.ends (f p), some) in
    still_fault (extended (p ∷ []) w) (extended (f p) w) e refl few h

pub led_fault : (f : Goes) (p : Progress) (w start : Ways) (e : RunFault) → start ≡ apart p w → IsFaultAt (led f start) e → IsFaultAt (extended (f p) w) e
led_fault f p w start e is h =
    let P : Ways → Type 0 = λ v. IsFaultAt (led f v) e in
    let few : length (f p ++ []) + (length w.ends + w.waiting) ≤ length (w.ends ++ f p) + w.waiting = omega (arith, ap (λ (ps : List Progress). length ps) (append-nil (f p)), length-append w.ends (f p)) in
    still_fault (led f (apart p w)) (extended (f p) w) e refl few (subst P is h)

pub led_back : (f : Goes) (p : Progress) (w start more next : Ways) → start ≡ apart p w → more ≡ led f start → next ≡ extended more.ends w → next ≡ extended (f p) w
led_back f p w start more next is m e =
    let ends : more.ends ≡ f p = ap (λ (v : Ways). v.ends) m ∙ ap (λ (v : Ways). flat_map f v.ends) is ∙ append-nil (f p) in
    e ∙ ap (λ (ps : List Progress). extended ps w) ends

pub waits : (f : Goes) (p : Progress) (w start more : Ways) → start ≡ apart p w → more ≡ led f start → more.waiting ≡ length w.ends + w.waiting
waits f p w start more is m = ap (λ (v : Ways). v.waiting) m ∙ ap (λ (v : Ways). v.waiting) is

-- The ways that read each value, one after another.

-- one more, where what is left is known
pub read_on : (f : ℕ → Progress) (v : ℕ) (left rest : List ℕ) (old done next : Ways) (all : List Progress) (end : Progress) → left ≡ v ∷ rest → end ≡ f v → next ≡ extended (end ∷ []) done → extended (map f left) done ≡ extended all old → extended (map f rest) next ≡ extended all old
read_on f v left rest old done next all end l is e so_far =
    let made : next ≡ extended (f v ∷ []) done = e ∙ ap (λ (p : Progress). extended (p ∷ []) done) is in
    ap (extended (map f rest)) made
    ∙ ap (ending done) (append_assoc done.ends (f v ∷ []) (map f rest))
    ∙ ap (λ (vs : List ℕ). extended (map f vs) done) (sym l) ∙ so_far

pub all_read : (f : ℕ → Progress) (left : List ℕ) (old done : Ways) (all : List Progress) → left ≡ [] → extended (map f left) done ≡ extended all old → done ≡ extended all old
all_read f left old done all none so_far =
    ap (ending done) (sym (append-nil done.ends)) ∙ ap (λ (vs : List ℕ). extended (map f vs) done) (sym none) ∙ so_far

-- Where there is no room and a value is left, the ways on are too many.
pub read_fault : (f : ℕ → Progress) (v : ℕ) (left rest : List ℕ) (old done : Ways) (all : List Progress) (end : Progress) (e : RunFault) → left ≡ v ∷ rest → extended (map f left) done ≡ extended all old → IsFaultAt (extended (end ∷ []) done) e → IsFaultAt (extended all old) e
read_fault f v left rest old done all end e l so_far h =
    let P : Ways → Type 0 = λ w. IsFaultAt w e in
    let few : length (done.ends ++ end ∷ []) + done.waiting ≤ length (done.ends ++ map f left) + done.waiting
    = omega (arith, length-append done.ends (end ∷ []), length-append done.ends (map f left), length-map left f, ap (λ (vs : List ℕ). length vs) l) in
    subst P so_far (still_fault (extended (end ∷ []) done) (extended (map f left) done) e refl few h)

-- What serves statements serves those behind a place, and the one at a place.

pub serves_behind : (values : List ℕ) (i : ℕ) (statements : List Statement) → ServesSteps values (steps_of statements) → ServesSteps values (steps_of (drop i statements))
serves_behind values zero statements h = h
serves_behind values (suc i) [] h = tt
serves_behind values (suc i) (a ∷ statements) h = serves_behind values i statements h.1

pub serves_at : (values : List ℕ) (statements : List Statement) (i : ℕ) (a : Statement) → ServesSteps values (steps_of statements) → i < length statements → a ≡ get_or statements i a → Serves values (step_of a)
serves_at values statements i a h l is =
    let P : List Statement → Type 0 = λ as'. ServesSteps values (steps_of as') in
    (subst P (drop_first a statements i l is) (serves_behind values i statements h)).0

-- What serves a statement serves what stands in it.

pub declare_serves : (values : List ℕ) (a : Statement) (inside : List Declarator) (ds : Vec Declarator Global) → a ≡ Declare' ds → inside ≡ ds.items → Serves values (step_of a) → ServesAll values (map declared_of inside)
declare_serves values a inside ds is same h =
    let P : Step → Type 0 = Serves values in
    let Q : List Declarator → Type 0 = λ es. ServesAll values (map declared_of es) in
    subst Q (sym same) (subst P (declare_step a ds is) h)

served_behind : (values : List ℕ) (i : ℕ) (ds : List Declarator) → ServesAll values (map declared_of ds) → ServesAll values (map declared_of (drop i ds))
served_behind values zero ds h = h
served_behind values (suc i) [] h = h
served_behind values (suc i) (d ∷ ds) h = served_behind values i ds (All-tail (Serving values) (declared_of d) (map declared_of ds) h)

pub served_at : (values : List ℕ) (ds : List Declarator) (i : ℕ) (d : Declarator) → ServesAll values (map declared_of ds) → i < length ds → d ≡ get_or ds i d → ServesOption values (declared_of d).value
served_at values ds i d h l is =
    let P : List Declarator → Type 0 = λ es. ServesAll values (map declared_of es) in
    All-head (Serving values) (declared_of d) (map declared_of (drop (i + 1) ds)) (subst P (drop_first d ds i l is) (served_behind values i ds h))

-- One statement more.

-- two steps, one after the other
led_twice : (f g : Goes) (w : Ways) → led g (led f w) ≡ led (λ p. flat_map g (f p)) w
led_twice f g w = ap (ending w) (flat_map_twice f g w.ends)

pub turned : (s : Setting) (statements : List Statement) (i : ℕ) (ends all : Ways) → length statements ≤ i → led (steps_runs (steps_of (drop i statements)) s) ends ≡ all → ends ≡ all
turned s statements i ends all l whole =
    ap (ending ends) (sym (flat_map_one ends.ends))
    ∙ ap (λ (as' : List Statement). led (steps_runs (steps_of as') s) ends) (sym (drop_all i statements l)) ∙ whole

pub further : (s : Setting) (statements : List Statement) (i : ℕ) (a : Statement) (ends next all : Ways) → i < length statements → a ≡ get_or statements i a → next ≡ led (step_runs (step_of a) s) ends → led (steps_runs (steps_of (drop i statements)) s) ends ≡ all → led (steps_runs (steps_of (drop (i + 1) statements)) s) next ≡ all
further s statements i a ends next all l is done whole =
    let rest = steps_runs (steps_of (drop (i + 1) statements)) s in
    ap (led rest) done ∙ led_twice (step_runs (step_of a) s) rest ends
    ∙ ap (λ (as' : List Statement). led (steps_runs (steps_of as') s) ends) (sym (drop_first a statements i l is)) ∙ whole

-- A fault at one statement is a fault of all.
pub turn_fault : (s : Setting) (statements : List Statement) → ServesSteps s.values (steps_of statements) → (i : ℕ) (a : Statement) (ends all : Ways) (e : RunFault) → i < length statements → a ≡ get_or statements i a → led (steps_runs (steps_of (drop i statements)) s) ends ≡ all → IsFaultAt (led (step_runs (step_of a) s) ends) e → IsFaultAt all e
turn_fault s statements g i a ends all e l is whole h =
    let done = led (step_runs (step_of a) s) ends in
    let rest = steps_runs (steps_of (drop (i + 1) statements)) s in
    let P : Ways → Type 0 = λ w. IsFaultAt w e in
    let few : length done.ends + done.waiting ≤ length (flat_map rest done.ends) + done.waiting
    = omega (arith, some_flat_map rest done.ends (some_steps (steps_of (drop (i + 1) statements)) s (serves_behind s.values (i + 1) statements g))) in
    subst P (further s statements i a ends done all l is refl whole) (still_fault done (led rest done) e refl few h)

-- The same of declarations.

pub declares_turned : (s : Setting) (ds : List Declarator) (i : ℕ) (ends all : Ways) → length ds ≤ i → led (declares_runs s (map declared_of (drop i ds))) ends ≡ all → ends ≡ all
declares_turned s ds i ends all l whole =
    ap (ending ends) (sym (flat_map_one ends.ends))
    ∙ ap (λ (es : List Declarator). led (declares_runs s (map declared_of es)) ends) (sym (drop_all i ds l)) ∙ whole

pub declared_further : (s : Setting) (ds : List Declarator) (i : ℕ) (d : Declarator) (ends next all : Ways) → i < length ds → d ≡ get_or ds i d → next ≡ led (declare_runs s (declared_of d)) ends → led (declares_runs s (map declared_of (drop i ds))) ends ≡ all → led (declares_runs s (map declared_of (drop (i + 1) ds))) next ≡ all
declared_further s ds i d ends next all l is done whole =
    let rest = declares_runs s (map declared_of (drop (i + 1) ds)) in
    ap (led rest) done ∙ led_twice (declare_runs s (declared_of d)) rest ends
    ∙ ap (λ (es : List Declarator). led (declares_runs s (map declared_of es)) ends) (sym (drop_first d ds i l is)) ∙ whole

pub declare_fault : (s : Setting) (ds : List Declarator) → ServesAll s.values (map declared_of ds) → (i : ℕ) (d : Declarator) (ends all : Ways) (e : RunFault) → i < length ds → d ≡ get_or ds i d → led (declares_runs s (map declared_of (drop i ds))) ends ≡ all → IsFaultAt (led (declare_runs s (declared_of d)) ends) e → IsFaultAt all e
declare_fault s ds g i d ends all e l is whole h =
    let done = led (declare_runs s (declared_of d)) ends in
    let rest = declares_runs s (map declared_of (drop (i + 1) ds)) in
    let P : Ways → Type 0 = λ w. IsFaultAt w e in
    let few : length done.ends + done.waiting ≤ length (flat_map rest done.ends) + done.waiting
    = omega (arith, some_flat_map rest done.ends (some_declares s (map declared_of (drop (i + 1) ds)) (served_behind s.values (i + 1) ds g))) in
    subst P (declared_further s ds i d ends done all l is refl whole) (still_fault done (led rest done) e refl few h)

-- What is computed of two numbers of a text has 32 bits.
pub computable : (values : List ℕ) → AreSmall values → (b : Behind) → ServesRead values b → (v : ℕ) → v ≤ 2147483647 → IsComputable b v
computable values a Nothing h v l = tt
computable values a (Writes e) h v l = tt
computable values a (Modify Addition k e) h v l =
    let p = place_of_element values 0 k h.1 in
    let P : ℕ → Type 0 = λ u. u ≤ 2147483647 in
    let m : k ≤ 2147483647 = subst P p.2 (a p.0 0 p.1) in
    omega (arith, l, m)
