-- Codes of the trees, by which the prover tells values of a modelled type apart. No contract rests on them.
use Rattle.std.specs.Prelude.{refl, ℕ, List, Option}
use Rattle.std.specs.Coded.{Coded, code_by, coded×, coded_list, coded_option, coded_ℕ}
use Rattle.std.proofs.Common.{ap, ◌≡◌}
use base.Stored.{Gv, gnil, gnum, gcons}
use Rattle.conditions.specs.Codes.{coded_condition}
use Rattle.conditions.specs.Conditions.{Condition}
use Rattle.conditions.specs.contracts.place.Binding.{the_row as binding_row}
use Rattle.conditions.specs.contracts.place.Place.{the_row as place_row}
use Rattle.conditions.specs.declared.place.Binding.{Binding}
use Rattle.conditions.specs.declared.place.Place.{Place}
use Rattle.events.specs.contracts.event.Order.{the_row as order_row}
use Rattle.litmus_tree.specs.contracts.tree.Computation.{the_row as computation_row}
use Rattle.litmus_tree.specs.contracts.tree.Parameter.{the_row as parameter_row}
use Rattle.litmus_tree.specs.declared.tree.Parameter.{Parameter}
use Rattle.litmus_tree.specs.Tree.{Word, Term, number, held, denied, equal, unequal, both, either, Action, load, store, exchange, modify, fence, Right, computed, plain_read, value_of, Declared, Step, empty, block, declare, assign, plain_write, perform, if_only, if_else, Steps, no_steps, in_turn, Program, Litmus}

-- An expression and a statement are coded by the number of their case, and the codes of its parts.

abbrev pub head : Gv → Gv
head gnil = gnil
head (gnum n) = gnil
head (gcons a b) = a

abbrev pub tail : Gv → Gv
tail gnil = gnil
tail (gnum n) = gnil
tail (gcons a b) = b

abbrev pub coded_word : Coded Word
coded_word = coded_list coded_ℕ

abbrev pub term_code : Term → Gv
term_code (number a0) = gcons (gnum 0) (coded_ℕ.code a0)
term_code (held a0) = gcons (gnum 1) (coded_word.code a0)
term_code (denied a0) = gcons (gnum 2) (term_code a0)
term_code (equal a0 a1) = gcons (gnum 3) (gcons (term_code a0) (term_code a1))
term_code (unequal a0 a1) = gcons (gnum 4) (gcons (term_code a0) (term_code a1))
term_code (both a0 a1) = gcons (gnum 5) (gcons (term_code a0) (term_code a1))
term_code (either a0 a1) = gcons (gnum 6) (gcons (term_code a0) (term_code a1))

pub term_inj : (x y : Term) → term_code x ≡ term_code y → x ≡ y
term_inj (number a0) (number b0) p = λ i. number (coded_ℕ.inj a0 b0 (ap (λ g. tail g) p) i)
term_inj (held a0) (held b0) p = λ i. held (coded_word.inj a0 b0 (ap (λ g. tail g) p) i)
term_inj (denied a0) (denied b0) p = λ i. denied (term_inj a0 b0 (ap (λ g. tail g) p) i)
term_inj (equal a0 a1) (equal b0 b1) p = λ i. equal (term_inj a0 b0 (ap (λ g. head (tail g)) p) i) (term_inj a1 b1 (ap (λ g. tail (tail g)) p) i)
term_inj (unequal a0 a1) (unequal b0 b1) p = λ i. unequal (term_inj a0 b0 (ap (λ g. head (tail g)) p) i) (term_inj a1 b1 (ap (λ g. tail (tail g)) p) i)
term_inj (both a0 a1) (both b0 b1) p = λ i. both (term_inj a0 b0 (ap (λ g. head (tail g)) p) i) (term_inj a1 b1 (ap (λ g. tail (tail g)) p) i)
term_inj (either a0 a1) (either b0 b1) p = λ i. either (term_inj a0 b0 (ap (λ g. head (tail g)) p) i) (term_inj a1 b1 (ap (λ g. tail (tail g)) p) i)
term_inj x y p = absurd (cc)

abbrev pub coded_term : Coded Term
coded_term = record { code = term_code; inj = term_inj }

abbrev pub action_code : Action → Gv
action_code (load a0 a1) = gcons (gnum 0) (gcons (coded_word.code a0) (order_row.coded.code a1))
action_code (store a0 a1 a2) = gcons (gnum 1) (gcons (coded_word.code a0) (gcons (coded_term.code a1) (order_row.coded.code a2)))
action_code (exchange a0 a1 a2) = gcons (gnum 2) (gcons (coded_word.code a0) (gcons (coded_term.code a1) (order_row.coded.code a2)))
action_code (fence a0) = gcons (gnum 3) (order_row.coded.code a0)
action_code (modify a0 a1 a2 a3) = gcons (gnum 4) (gcons (coded_word.code a0) (gcons (computation_row.coded.code a1) (gcons (coded_ℕ.code a2) (order_row.coded.code a3))))

pub action_inj : (x y : Action) → action_code x ≡ action_code y → x ≡ y
action_inj (load a0 a1) (load b0 b1) p = λ i. load (coded_word.inj a0 b0 (ap (λ g. head (tail g)) p) i) (order_row.coded.inj a1 b1 (ap (λ g. tail (tail g)) p) i)
action_inj (store a0 a1 a2) (store b0 b1 b2) p = λ i. store (coded_word.inj a0 b0 (ap (λ g. head (tail g)) p) i) (coded_term.inj a1 b1 (ap (λ g. head (tail (tail g))) p) i) (order_row.coded.inj a2 b2 (ap (λ g. tail (tail (tail g))) p) i)
action_inj (exchange a0 a1 a2) (exchange b0 b1 b2) p = λ i. exchange (coded_word.inj a0 b0 (ap (λ g. head (tail g)) p) i) (coded_term.inj a1 b1 (ap (λ g. head (tail (tail g))) p) i) (order_row.coded.inj a2 b2 (ap (λ g. tail (tail (tail g))) p) i)
action_inj (fence a0) (fence b0) p = λ i. fence (order_row.coded.inj a0 b0 (ap (λ g. tail g) p) i)
action_inj (modify a0 a1 a2 a3) (modify b0 b1 b2 b3) p = λ i. modify (coded_word.inj a0 b0 (ap (λ g. head (tail g)) p) i) (computation_row.coded.inj a1 b1 (ap (λ g. head (tail (tail g))) p) i) (coded_ℕ.inj a2 b2 (ap (λ g. head (tail (tail (tail g)))) p) i) (order_row.coded.inj a3 b3 (ap (λ g. tail (tail (tail (tail g)))) p) i)
action_inj x y p = absurd (cc)

abbrev pub coded_action : Coded Action
coded_action = record { code = action_code; inj = action_inj }

abbrev pub right_code : Right → Gv
right_code (computed a0) = gcons (gnum 0) (coded_term.code a0)
right_code (plain_read a0) = gcons (gnum 1) (coded_word.code a0)
right_code (value_of a0) = gcons (gnum 2) (coded_action.code a0)

pub right_inj : (x y : Right) → right_code x ≡ right_code y → x ≡ y
right_inj (computed a0) (computed b0) p = λ i. computed (coded_term.inj a0 b0 (ap (λ g. tail g) p) i)
right_inj (plain_read a0) (plain_read b0) p = λ i. plain_read (coded_word.inj a0 b0 (ap (λ g. tail g) p) i)
right_inj (value_of a0) (value_of b0) p = λ i. value_of (coded_action.inj a0 b0 (ap (λ g. tail g) p) i)
right_inj x y p = absurd (cc)

abbrev pub coded_right : Coded Right
coded_right = record { code = right_code; inj = right_inj }

abbrev pub coded_declarations : Coded (List Declared)
coded_declarations = coded_list (code_by (Word × Option Right) (coded× coded_word (coded_option coded_right)) (λ d. (d.register, d.value)) (λ p. record { register = p.0; value = p.1 }) (λ _. refl))

abbrev mutual
  pub step_code : Step → Gv
  step_code empty = gcons (gnum 0) gnil
  step_code (block a0) = gcons (gnum 1) (steps_code a0)
  step_code (declare a0) = gcons (gnum 2) (coded_declarations.code a0)
  step_code (assign a0 a1) = gcons (gnum 3) (gcons (coded_word.code a0) (coded_right.code a1))
  step_code (plain_write a0 a1) = gcons (gnum 4) (gcons (coded_word.code a0) (coded_term.code a1))
  step_code (perform a0) = gcons (gnum 5) (coded_action.code a0)
  step_code (if_only a0 a1) = gcons (gnum 6) (gcons (coded_term.code a0) (step_code a1))
  step_code (if_else a0 a1 a2) = gcons (gnum 7) (gcons (coded_term.code a0) (gcons (step_code a1) (step_code a2)))

  pub steps_code : Steps → Gv
  steps_code no_steps = gcons (gnum 0) gnil
  steps_code (in_turn a0 a1) = gcons (gnum 1) (gcons (step_code a0) (steps_code a1))

mutual
  pub step_inj : (x y : Step) → step_code x ≡ step_code y → x ≡ y
  step_inj empty empty p = refl
  step_inj (block a0) (block b0) p = λ i. block (steps_inj a0 b0 (ap (λ g. tail g) p) i)
  step_inj (declare a0) (declare b0) p = λ i. declare (coded_declarations.inj a0 b0 (ap (λ g. tail g) p) i)
  step_inj (assign a0 a1) (assign b0 b1) p = λ i. assign (coded_word.inj a0 b0 (ap (λ g. head (tail g)) p) i) (coded_right.inj a1 b1 (ap (λ g. tail (tail g)) p) i)
  step_inj (plain_write a0 a1) (plain_write b0 b1) p = λ i. plain_write (coded_word.inj a0 b0 (ap (λ g. head (tail g)) p) i) (coded_term.inj a1 b1 (ap (λ g. tail (tail g)) p) i)
  step_inj (perform a0) (perform b0) p = λ i. perform (coded_action.inj a0 b0 (ap (λ g. tail g) p) i)
  step_inj (if_only a0 a1) (if_only b0 b1) p = λ i. if_only (coded_term.inj a0 b0 (ap (λ g. head (tail g)) p) i) (step_inj a1 b1 (ap (λ g. tail (tail g)) p) i)
  step_inj (if_else a0 a1 a2) (if_else b0 b1 b2) p = λ i. if_else (coded_term.inj a0 b0 (ap (λ g. head (tail g)) p) i) (step_inj a1 b1 (ap (λ g. head (tail (tail g))) p) i) (step_inj a2 b2 (ap (λ g. tail (tail (tail g))) p) i)
  step_inj x y p = absurd (cc)

  pub steps_inj : (x y : Steps) → steps_code x ≡ steps_code y → x ≡ y
  steps_inj no_steps no_steps p = refl
  steps_inj (in_turn a0 a1) (in_turn b0 b1) p = λ i. in_turn (step_inj a0 b0 (ap (λ g. head (tail g)) p) i) (steps_inj a1 b1 (ap (λ g. tail (tail g)) p) i)
  steps_inj x y p = absurd (cc)

abbrev pub coded_steps : Coded Steps
coded_steps = record { code = steps_code; inj = steps_inj }

abbrev pub coded_program : Coded Program
coded_program =
    code_by (List Parameter × (Steps × List Word)) (coded× (coded_list parameter_row.coded) (coded× coded_steps (coded_list coded_word)))
    (λ p. (p.parameters, (p.steps, p.registers))) (λ q. record { parameters = q.0; steps = q.1.0; registers = q.1.1 }) (λ _. refl)

abbrev pub coded_litmus : Coded Litmus
coded_litmus =
    code_by (List ℕ × (List Binding × (List Program × (Condition × (List Place × List (List ℕ))))))
    (coded× (coded_list coded_ℕ) (coded× (coded_list binding_row.coded) (coded× (coded_list coded_program) (coded× coded_condition (coded× (coded_list place_row.coded) (coded_list (coded_list coded_ℕ)))))))
    (λ t. (t.name, (t.initial, (t.threads, (t.condition, (t.listed, t.locations))))))
    (λ p. record { name = p.0; initial = p.1.0; threads = p.1.1.0; condition = p.1.1.1.0; listed = p.1.1.1.1.0; locations = p.1.1.1.1.1 })
    (λ _. refl)
