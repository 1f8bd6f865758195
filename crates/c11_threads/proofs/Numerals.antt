-- The numerals of programs: constants, and what calls add.
use Rattle.std.proofs.Common.{ℕ, ◌<◌, List, [], ◌∷◌, ◌++◌, length, inl, inr, refl, Option, None, Some}
use Rattle.std.specs.List.{flat_map}
use Rattle.std.proofs.lemmas.List.Elements.{All-nil, All-cons}
use Rattle.listings.specs.Lists.{IsIn}
use Rattle.listings.proofs.Listings.{in_left, in_right, flat_map_in, in_get_or}
use Rattle.litmus_tree.specs.declared.tree.Computation.TheVariants.{Addition}
use Rattle.litmus_tree.specs.Tree.{Action, load, store, exchange, modify, fence, Right, computed, plain_read, value_of, Declared, Step, empty, block, declare, assign, plain_write, perform, if_only, if_else, Steps, no_steps, in_turn, Litmus}
use Rattle.litmus_value.specs.Values.{Numeral, literal, addend, term_numerals, action_numerals, right_numerals, optional_numerals, step_numerals, steps_numerals, program_numerals, numerals_among, constants_in, adds_in, values_of}
use Rattle.litmus_value.proofs.Sums.{lists_values, add_is_value}
use Rattle.c11_threads.specs.Runs.{no_program, thread_of}
use Rattle.litmus_value.proofs.Sums.{constant_is_value}
use Rattle.c11_threads.specs.Serving.{ServesCall, ServesRight, ServesOption, ServesAll, Serves, ServesSteps}

pub literal_in : (ns : List Numeral) (n : ℕ) → IsIn (literal n) ns → IsIn n (constants_in ns)
literal_in [] n h = absurd h
literal_in (literal m ∷ ns) n h = elim h [ inl e ↦ inl (cc (e)) | inr r ↦ inr (literal_in ns n r) ]
literal_in (addend m ∷ ns) n h = elim h [ inl e ↦ absurd (cc (e)) | inr r ↦ literal_in ns n r ]

pub addend_in : (ns : List Numeral) (n : ℕ) → IsIn (addend n) ns → IsIn n (adds_in ns)
addend_in [] n h = absurd h
addend_in (literal m ∷ ns) n h = elim h [ inl e ↦ absurd (cc (e)) | inr r ↦ addend_in ns n r ]
addend_in (addend m ∷ ns) n h = elim h [ inl e ↦ inl (cc (e)) | inr r ↦ inr (addend_in ns n r) ]

-- 0 is one of the values, and each addend
abbrev pub AreServed : List ℕ → List Numeral → Type 0
AreServed values ns = IsIn 0 values × ((c : ℕ) → IsIn (addend c) ns → IsIn c values)

left_served : (values : List ℕ) (xs ys : List Numeral) → AreServed values (xs ++ ys) → AreServed values xs
left_served values xs ys h = (h.0, λ c m. h.1 c (in_left xs ys (addend c) m))

right_served : (values : List ℕ) (xs ys : List Numeral) → AreServed values (xs ++ ys) → AreServed values ys
right_served values xs ys h = (h.0, λ c m. h.1 c (in_right xs ys (addend c) m))

call_served : (values : List ℕ) (a : Action) → AreServed values (action_numerals a) → ServesCall values a
call_served values (load x o) h = h.0
call_served values (store x e o) h = tt
call_served values (exchange x e o) h = h.0
call_served values (modify x Addition c o) h = (h.0, h.1 c (inl refl))
call_served values (fence o) h = tt

right_is_served : (values : List ℕ) (r : Right) → AreServed values (right_numerals r) → ServesRight values r
right_is_served values (computed e) h = tt
right_is_served values (plain_read x) h = h.0
right_is_served values (value_of a) h = call_served values a h

option_served : (values : List ℕ) (r : Option Right) → AreServed values (optional_numerals r) → ServesOption values r
option_served values None h = tt
option_served values (Some r) h = right_is_served values r h

abbrev numerals_of : Declared → List Numeral
numerals_of d = optional_numerals d.value

all_served : (values : List ℕ) (ds : List Declared) → AreServed values (flat_map numerals_of ds) → ServesAll values ds
all_served values [] h = All-nil (λ d. ServesOption values d.value)
all_served values (d ∷ ds) h =
    let rest = flat_map numerals_of ds in
    All-cons (λ d. ServesOption values d.value) d ds (option_served values d.value (left_served values (optional_numerals d.value) rest h)) (all_served values ds (right_served values (optional_numerals d.value) rest h))

mutual
  step_served : (values : List ℕ) (a : Step) → AreServed values (step_numerals a) → Serves values a
  step_served values empty h = tt
  step_served values (block steps) h = steps_served values steps h
  step_served values (declare ds) h = all_served values ds h
  step_served values (assign r right) h = right_is_served values right h
  step_served values (plain_write x e) h = tt
  step_served values (perform a) h = call_served values a h
  step_served values (if_only e a) h = step_served values a (right_served values (term_numerals e) (step_numerals a) h)
  step_served values (if_else e a b) h =
      let first = left_served values (term_numerals e ++ step_numerals a) (step_numerals b) h in (
        step_served values a (right_served values (term_numerals e) (step_numerals a) first),
        step_served values b (right_served values (term_numerals e ++ step_numerals a) (step_numerals b) h),
      )

  steps_served : (values : List ℕ) (steps : Steps) → AreServed values (steps_numerals steps) → ServesSteps values steps
  steps_served values no_steps h = tt
  steps_served values (in_turn a rest) h = (
    step_served values a (left_served values (step_numerals a) (steps_numerals rest) h),
    steps_served values rest (right_served values (step_numerals a) (steps_numerals rest) h),
  )

-- The values of a test serve each of its threads.
pub serves_thread : (t : Litmus) (k : ℕ) → k < length t.threads → ServesSteps (values_of t) (thread_of t k).steps
serves_thread t k l =
    let lists = lists_values t.initial t.threads in
    steps_served (values_of t) (thread_of t k).steps (
      lists.all 0 (constant_is_value t.initial t.threads 0 (inl refl)),
      λ c h. lists.all c
          (add_is_value t.initial t.threads c (addend_in (numerals_among t.threads) c (flat_map_in program_numerals t.threads (thread_of t k) (addend c) (in_get_or t.threads k no_program l) h))),
    )
