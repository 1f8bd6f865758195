-- Events of the first accesses, counted one part after another.
use Rattle.std.proofs.Common.{◌≡◌, ℕ, ◌+◌, ◌-◌, ◌≤◌, ◌<◌, List, [], ◌∷◌, length, take, drop, get_or, map, ap, sym, subst, refl, ◌∙◌, arith}
use Rattle.std.proofs.lemmas.List.{drop_more}
use Rattle.litmus_syntax.specs.declared.draft.Body.{Body}
use Rattle.litmus_syntax.specs.Drafts.{Listing, listing_of}
use Rattle.litmus_tree.specs.declared.tree.Declarator.{Declarator}
use Rattle.litmus_tree.specs.declared.tree.Statement.{Statement}
use Rattle.litmus_tree.specs.Tree.{Declared, Step, empty, block, declare, assign, plain_write, perform, if_only, if_else, Steps, no_steps, in_turn, declared_of, step_of, steps_of}
use Rattle.litmus_value.specs.Limits.{optional_events}
use Rattle.test_places.specs.declared.mark.Mark.{Mark}
use Rattle.test_places.specs.Accesses.{optional_accesses, declared_accesses, step_accesses, steps_accesses, among, declared_among, step_among, steps_among, threads_among, events_with}

-- One part, and then the rest: n accesses still count, with room for r events; and behind the part n' and r'.

first_declared : (d : Declared) (ds : List Declared) (n r n' r' : ℕ) → n' ≡ n - optional_accesses d.value → r' ≡ r - among n (optional_events d.value) →
    (n' - declared_accesses ds ≡ n - declared_accesses (d ∷ ds)) × (r' - declared_among n' ds ≡ r - declared_among n (d ∷ ds))
first_declared d ds n r n' r' e f = (omega (arith, e), omega (arith, f, ap (λ k. declared_among k ds) e))

first_step : (s : Step) (ss : Steps) (n r n' r' : ℕ) → n' ≡ n - step_accesses s → r' ≡ r - step_among n s →
    (n' - steps_accesses ss ≡ n - steps_accesses (in_turn s ss)) × (r' - steps_among n' ss ≡ r - steps_among n (in_turn s ss))
first_step s ss n r n' r' e f = (omega (arith, e), omega (arith, f, ap (λ k. steps_among k ss) e))

first_thread : (t : Listing) (ts : List Listing) (n r n' r' : ℕ) → n' ≡ n - steps_accesses t.steps → r' ≡ r - steps_among n t.steps →
    r' - threads_among n' ts ≡ r - threads_among n (t ∷ ts)
first_thread t ts n r n' r' e f = omega (arith, f, ap (λ k. threads_among k ts) e)

-- the same in lists, at a place

pub next_declared : (ds : List Declarator) (i : ℕ) (d : Declarator) (n r n' r' : ℕ) → i < length ds → d ≡ get_or ds i d → n' ≡ n - optional_accesses (declared_of d).value → r' ≡ r - among n (optional_events (declared_of d).value) →
    (n' - declared_accesses (map declared_of (drop (i + 1) ds)) ≡ n - declared_accesses (map declared_of (drop i ds))) × (r' - declared_among n' (map declared_of (drop (i + 1) ds)) ≡ r - declared_among n (map declared_of (drop i ds)))
next_declared ds i d n r n' r' l at e f =
    let P : List Declarator → Type 0 = λ es. (n' - declared_accesses (map declared_of (drop (i + 1) ds)) ≡ n - declared_accesses (map declared_of es)) × (r' - declared_among n' (map declared_of (drop (i + 1) ds)) ≡ r - declared_among n (map declared_of es)) in
    subst P (ap (λ x. x ∷ drop (i + 1) ds) at ∙ sym (drop_more ds i d l)) (first_declared (declared_of d) (map declared_of (drop (i + 1) ds)) n r n' r' e f)

pub next_step : (ss : List Statement) (i : ℕ) (s : Statement) (n r n' r' : ℕ) → i < length ss → s ≡ get_or ss i s → n' ≡ n - step_accesses (step_of s) → r' ≡ r - step_among n (step_of s) →
    (n' - steps_accesses (steps_of (drop (i + 1) ss)) ≡ n - steps_accesses (steps_of (drop i ss))) × (r' - steps_among n' (steps_of (drop (i + 1) ss)) ≡ r - steps_among n (steps_of (drop i ss)))
next_step ss i s n r n' r' l at e f =
    let P : List Statement → Type 0 = λ us. (n' - steps_accesses (steps_of (drop (i + 1) ss)) ≡ n - steps_accesses (steps_of us)) × (r' - steps_among n' (steps_of (drop (i + 1) ss)) ≡ r - steps_among n (steps_of us)) in
    subst P (ap (λ x. x ∷ drop (i + 1) ss) at ∙ sym (drop_more ss i s l)) (first_step (step_of s) (steps_of (drop (i + 1) ss)) n r n' r' e f)

pub next_thread : (bs : List Body) (i : ℕ) (b : Body) (n r n' r' : ℕ) → i < length bs → b ≡ get_or bs i b → n' ≡ n - steps_accesses (listing_of b).steps → r' ≡ r - steps_among n (listing_of b).steps →
    r' - threads_among n' (map listing_of (drop (i + 1) bs)) ≡ r - threads_among n (map listing_of (drop i bs))
next_thread bs i b n r n' r' l at e f =
    let P : List Body → Type 0 = λ us. r' - threads_among n' (map listing_of (drop (i + 1) bs)) ≡ r - threads_among n (map listing_of us) in
    subst P (ap (λ x. x ∷ drop (i + 1) bs) at ∙ sym (drop_more bs i b l)) (first_thread (listing_of b) (map listing_of (drop (i + 1) bs)) n r n' r' e f)

-- Where no access counts there are no events.

declared_none : (ds : List Declared) (n : ℕ) → n ≡ 0 → declared_among n ds ≡ 0
declared_none [] n e = refl
declared_none (d ∷ ds) n e = rw e (omega (arith, declared_none ds (0 - optional_accesses d.value) (omega arith)))

mutual
  step_none : (s : Step) (n : ℕ) → n ≡ 0 → step_among n s ≡ 0
  step_none empty n e = refl
  step_none (block ss) n e = steps_none ss n e
  step_none (declare ds) n e = declared_none ds n e
  step_none (assign r v) n e = rw e refl
  step_none (plain_write x v) n e = rw e refl
  step_none (perform a) n e = rw e refl
  step_none (if_only c a) n e = step_none a n e
  step_none (if_else c a b) n e = omega (arith, step_none a n e, step_none b (n - step_accesses a) (omega (arith, e)))

  pub steps_none : (ss : Steps) (n : ℕ) → n ≡ 0 → steps_among n ss ≡ 0
  steps_none no_steps n e = refl
  steps_none (in_turn s ss) n e = omega (arith, step_none s n e, steps_none ss (n - step_accesses s) (omega (arith, e)))

threads_none : (ts : List Listing) (n : ℕ) → n ≡ 0 → threads_among n ts ≡ 0
threads_none [] n e = refl
threads_none (t ∷ ts) n e = omega (arith, steps_none t.steps n e, threads_none ts (n - steps_accesses t.steps) (omega (arith, e)))

pub few_at_first : (writes : ℕ) (ts : List Listing) (ms : List Mark) → writes ≤ 64 → (j : ℕ) → j ≤ 0 → events_with writes ts (take j ms) ≤ 64
few_at_first writes ts ms l j low =
    let e : 0 ≡ j = omega (arith, low) in
    let P : ℕ → Type 0 = λ k. events_with writes ts (take k ms) ≤ 64 in
    subst P e (omega (arith, l, threads_none ts 0 refl))
