-- Events where more accesses count, and where all do.
use Rattle.std.proofs.Common.{◌≡◌, ℕ, ◌-◌, ◌≤◌, List, [], ◌∷◌, sym, subst, refl, arith, inl, inr, Bool, if◌then◌else◌, ◌==◌}
use Rattle.std.specs.Prelude.{Option, Some, None, sum_by}
use Rattle.std.proofs.lemmas.Bool.{cases_Bool, eqb-true}
use Rattle.std.proofs.lemmas.List.Sums.{sum_by-cons}
use Rattle.litmus_tree.specs.Tree.{Right, computed, plain_read, value_of, Declared, Step, empty, block, declare, assign, plain_write, perform, if_only, if_else, Steps, no_steps, in_turn}
use Rattle.litmus_value.specs.Limits.{action_events, right_events, optional_events, step_events, steps_events}
use Rattle.test_places.specs.Accesses.{right_accesses, optional_accesses, declared_accesses, step_accesses, steps_accesses, among, declared_among, step_among, steps_among}

-- further ones

among_more : (m n k : ℕ) → m ≤ n → among m k ≤ among n k
among_more m n k l =
    let P : Bool → Type 0 = λ b. among m k ≤ (if b then 0 else k) in
    let Q : Bool → Type 0 = λ b. (if b then 0 else k) ≤ k in
    let small : among m k ≤ k = elim (cases_Bool (m == 0)) [ inl t ↦ subst Q (sym t) (omega arith) | inr t ↦ subst Q (sym t) (omega arith) ] in
    elim (cases_Bool (n == 0)) [
      | inl t ↦ subst P (sym t) (let e : 0 ≡ m = omega (arith, l, eqb-true n 0 t) in let R : ℕ → Type 0 = λ i. among i k ≤ 0 in subst R e (omega arith))
      | inr t ↦ subst P (sym t) small
    ]

declared_more : (ds : List Declared) (m n : ℕ) → m ≤ n → declared_among m ds ≤ declared_among n ds
declared_more [] m n l = omega arith
declared_more (d ∷ ds) m n l = omega (arith, among_more m n (optional_events d.value) l, declared_more ds (m - optional_accesses d.value) (n - optional_accesses d.value) (omega (arith, l)))

mutual
  step_more : (s : Step) (m n : ℕ) → m ≤ n → step_among m s ≤ step_among n s
  step_more empty m n l = omega arith
  step_more (block ss) m n l = steps_more ss m n l
  step_more (declare ds) m n l = declared_more ds m n l
  step_more (assign r v) m n l = among_more m n (right_events v) l
  step_more (plain_write x e) m n l = among_more m n 1 l
  step_more (perform a) m n l = among_more m n (action_events a) l
  step_more (if_only c a) m n l = step_more a m n l
  step_more (if_else c a b) m n l = omega (arith, step_more a m n l, step_more b (m - step_accesses a) (n - step_accesses a) (omega (arith, l)))

  pub steps_more : (ss : Steps) (m n : ℕ) → m ≤ n → steps_among m ss ≤ steps_among n ss
  steps_more no_steps m n l = omega arith
  steps_more (in_turn s ss) m n l = omega (arith, step_more s m n l, steps_more ss (m - step_accesses s) (n - step_accesses s) (omega (arith, l)))

-- all of them

among_all : (n k : ℕ) → 1 ≤ n → among n k ≡ k
among_all n k l =
    let P : Bool → Type 0 = λ b. (if b then 0 else k) ≡ k in
    elim (cases_Bool (n == 0)) [ inl t ↦ absurd (omega (arith, l, eqb-true n 0 t)) | inr t ↦ subst P (sym t) refl ]

nothing_among : (n : ℕ) → among n 0 ≡ 0
nothing_among n =
    let P : Bool → Type 0 = λ b. ◌≡◌ {A = ℕ} (if b then 0 else 0) 0 in
    elim (cases_Bool (n == 0)) [ inl t ↦ subst P (sym t) refl | inr t ↦ subst P (sym t) refl ]

right_all : (v : Right) (n : ℕ) → right_accesses v ≤ n → among n (right_events v) ≡ right_events v
right_all (computed e) n l = nothing_among n
right_all (plain_read x) n l = among_all n 1 l
right_all (value_of a) n l = among_all n (action_events a) l

optional_all : (o : Option Right) (n : ℕ) → optional_accesses o ≤ n → among n (optional_events o) ≡ optional_events o
optional_all None n l = nothing_among n
optional_all (Some v) n l = right_all v n l

declared_all : (ds : List Declared) (n : ℕ) → declared_accesses ds ≤ n → declared_among n ds ≡ sum_by (λ d. optional_events d.value) ds
declared_all [] n l = refl
declared_all (d ∷ ds) n l =
    omega (arith, optional_all d.value n (omega (arith, l)), declared_all ds (n - optional_accesses d.value) (omega (arith, l)), sum_by-cons (λ (e : Declared). optional_events e.value) d ds)

mutual
  step_all : (s : Step) (n : ℕ) → step_accesses s ≤ n → step_among n s ≡ step_events s
  step_all empty n l = refl
  step_all (block ss) n l = steps_all ss n l
  step_all (declare ds) n l = declared_all ds n l
  step_all (assign r v) n l = right_all v n l
  step_all (plain_write x e) n l = among_all n 1 l
  step_all (perform a) n l = among_all n (action_events a) l
  step_all (if_only c a) n l = step_all a n l
  step_all (if_else c a b) n l = omega (arith, step_all a n (omega (arith, l)), step_all b (n - step_accesses a) (omega (arith, l)))

  pub steps_all : (ss : Steps) (n : ℕ) → steps_accesses ss ≤ n → steps_among n ss ≡ steps_events ss
  steps_all no_steps n l = refl
  steps_all (in_turn s ss) n l = omega (arith, step_all s n (omega (arith, l)), steps_all ss (n - step_accesses s) (omega (arith, l)))
