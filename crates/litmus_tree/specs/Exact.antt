-- Each test of equality is true exactly of equal trees, and so is an equivalence.
use Rattle.std.specs.Prelude.{◌≡◌, List, Option, None, Some, refl}
use Rattle.std.proofs.Common.{◌∙◌, ap, rules}
use Rattle.std.specs.Bool.{Decides}
use Rattle.std.specs.Cmp.{IsEquivalence}
use Rattle.std.specs.Cmp.Lexicographic.{pointwise, pointwise_decides}
use Rattle.std.specs.Str.{bytes_eq}
use Rattle.std.proofs.lemmas.Bool.Decides.{Decides-eqb}
use Rattle.std.proofs.lemmas.Slice.Eq.{bytes_eq-Decides}
use Rattle.conditions.specs.Conditions.{Condition}
use Rattle.conditions.specs.Exact.{both, by_parts, equivalence, place_exact, binding_exact, condition_exact}
use Rattle.conditions.specs.declared.place.Binding.{Binding}
use Rattle.conditions.specs.declared.place.Place.{Place}
use Rattle.events.specs.contracts.event.OrderPartialEq.TheImpl.{ghosts as order_equality}
use Rattle.events.specs.declared.event.Order.{Order}
use Rattle.litmus_tree.specs.contracts.tree.ComputationPartialEq.TheImpl.{ghosts as computation_equality}
use Rattle.litmus_tree.specs.contracts.tree.LocationKindPartialEq.TheImpl.{ghosts as kind_equality}
use Rattle.litmus_tree.specs.declared.tree.Computation.{Computation}
use Rattle.litmus_tree.specs.declared.tree.LocationKind.{LocationKind}
use Rattle.litmus_tree.specs.declared.tree.Parameter.{Parameter}
use Rattle.litmus_tree.specs.Equality.{same_parameter, same_term, same_action, same_right, same_optional, same_declared, same_step, same_steps, same_program, same_litmus}
use Rattle.litmus_tree.specs.Tree as trees
use Rattle.litmus_tree.specs.Tree.{Word, Term, number, held, denied, equal, unequal, either, term_of, Action, load, store, exchange, modify, fence, action_of, Right, computed, plain_read, value_of, right_of, Declared, declared_of, Step, empty, block, declare, assign, plain_write, perform, if_only, if_else, step_of, Steps, no_steps, in_turn, Program, Litmus}

kind_exact : (a b : LocationKind) → Decides (kind_equality.eq a b) (a ≡ b)
kind_exact a b = search rules

computation_exact : (a b : Computation) → Decides (computation_equality.eq a b) (a ≡ b)
computation_exact a b = search rules

order_exact : (a b : Order) → Decides (order_equality.eq a b) (a ≡ b)
order_exact a b = search rules

words_exact : (xs ys : List Word) → Decides (pointwise bytes_eq xs ys) (xs ≡ ys)
words_exact = pointwise_decides bytes_eq-Decides

abbrev parameter : Word → LocationKind → Parameter
parameter x k = record { name = x; kind = k }

pub parameter_exact : (a b : Parameter) → Decides (same_parameter a b) (a ≡ b)
parameter_exact a b = by_parts _ (both _ _ (bytes_eq-Decides a.name b.name) (kind_exact a.kind b.kind)) (λ h. ap (λ x. parameter x a.kind) h.0 ∙ ap (parameter b.name) h.1) (λ e. (ap (λ c. c.name) e, ap (λ c. c.kind) e))

pub term_exact : (a b : Term) → Decides (same_term a b) (a ≡ b)
term_exact (number a) (number b) = by_parts _ (Decides-eqb a b) (λ h. ap number h) (λ e. cc)
term_exact (held r) (held s) = by_parts _ (bytes_eq-Decides r s) (λ h. ap held h) (λ e. cc)
term_exact (denied a) (denied b) = by_parts _ (term_exact a b) (λ h. ap denied h) (λ e. cc)
term_exact (equal a b) (equal c d) = by_parts _ (both _ _ (term_exact a c) (term_exact b d)) (λ h. let e = h.0 in let n = h.1 in cc) (λ e. ((let t : a ≡ c = cc in t), (let t : b ≡ d = cc in t)))
term_exact (unequal a b) (unequal c d) = by_parts _ (both _ _ (term_exact a c) (term_exact b d)) (λ h. let e = h.0 in let n = h.1 in cc) (λ e. ((let t : a ≡ c = cc in t), (let t : b ≡ d = cc in t)))
term_exact (trees.both a b) (trees.both c d) = by_parts _ (both _ _ (term_exact a c) (term_exact b d)) (λ h. let e = h.0 in let n = h.1 in cc) (λ e. ((let t : a ≡ c = cc in t), (let t : b ≡ d = cc in t)))
term_exact (either a b) (either c d) = by_parts _ (both _ _ (term_exact a c) (term_exact b d)) (λ h. let e = h.0 in let n = h.1 in cc) (λ e. ((let t : a ≡ c = cc in t), (let t : b ≡ d = cc in t)))
term_exact a b = (λ h. cc, λ e. cc)

pub action_exact : (a b : Action) → Decides (same_action a b) (a ≡ b)
action_exact (load x o) (load y p) = by_parts _ (both _ _ (bytes_eq-Decides x y) (order_exact o p)) (λ h. let e = h.0 in let n = h.1 in cc) (λ e. ((let t : x ≡ y = cc in t), (let t : o ≡ p = cc in t)))
action_exact (store x e o) (store y f p) =
    by_parts _ (both _ _ (both _ _ (bytes_eq-Decides x y) (term_exact e f)) (order_exact o p)) (λ h. let d = h.0.0 in let m = h.0.1 in let n = h.1 in cc)
    (λ h. (((let t : x ≡ y = cc in t), (let t : e ≡ f = cc in t)), (let t : o ≡ p = cc in t)))
action_exact (exchange x e o) (exchange y f p) =
    by_parts _ (both _ _ (both _ _ (bytes_eq-Decides x y) (term_exact e f)) (order_exact o p)) (λ h. let d = h.0.0 in let m = h.0.1 in let n = h.1 in cc)
    (λ h. (((let t : x ≡ y = cc in t), (let t : e ≡ f = cc in t)), (let t : o ≡ p = cc in t)))
action_exact (modify x f c o) (modify y g d p) =
    by_parts _ (both _ _ (both _ _ (both _ _ (bytes_eq-Decides x y) (computation_exact f g)) (Decides-eqb c d)) (order_exact o p)) (λ h. let i = h.0.0.0 in let j = h.0.0.1 in let m = h.0.1 in let n = h.1 in cc)
    (λ h. ((((let t : x ≡ y = cc in t), (let t : f ≡ g = cc in t)), (let t : c ≡ d = cc in t)), (let t : o ≡ p = cc in t)))
action_exact (fence o) (fence p) = by_parts _ (order_exact o p) (λ h. ap fence h) (λ e. cc)
action_exact a b = (λ h. cc, λ e. cc)

pub right_exact : (a b : Right) → Decides (same_right a b) (a ≡ b)
right_exact (computed a) (computed b) = by_parts _ (term_exact a b) (λ h. ap computed h) (λ e. cc)
right_exact (plain_read x) (plain_read y) = by_parts _ (bytes_eq-Decides x y) (λ h. ap plain_read h) (λ e. cc)
right_exact (value_of a) (value_of b) = by_parts _ (action_exact a b) (λ h. ap value_of h) (λ e. cc)
right_exact a b = (λ h. cc, λ e. cc)

optional_exact : (a b : Option Right) → Decides (same_optional a b) (a ≡ b)
optional_exact None None = (λ h. refl, λ e. refl)
optional_exact (Some a) (Some b) = by_parts _ (right_exact a b) (λ h. ap Some h) (λ e. cc)
optional_exact a b = (λ h. cc, λ e. cc)

abbrev declared : Word → Option Right → Declared
declared x v = record { register = x; value = v }

pub declared_exact : (a b : Declared) → Decides (same_declared a b) (a ≡ b)
declared_exact a b = by_parts _ (both _ _ (bytes_eq-Decides a.register b.register) (optional_exact a.value b.value)) (λ h. ap (λ x. declared x a.value) h.0 ∙ ap (declared b.register) h.1) (λ e. (ap (λ c. c.register) e, ap (λ c. c.value) e))

mutual
  pub step_exact : (a b : Step) → Decides (same_step a b) (a ≡ b)
  step_exact empty empty = (λ h. refl, λ e. refl)
  step_exact (block ss) (block ts) = by_parts _ (steps_exact ss ts) (λ h. ap block h) (λ e. cc)
  step_exact (declare ds) (declare es) = by_parts _ (pointwise_decides declared_exact ds es) (λ h. ap declare h) (λ e. cc)
  step_exact (assign r v) (assign s w) = by_parts _ (both _ _ (bytes_eq-Decides r s) (right_exact v w)) (λ h. let e = h.0 in let n = h.1 in cc) (λ e. ((let t : r ≡ s = cc in t), (let t : v ≡ w = cc in t)))
  step_exact (plain_write x e) (plain_write y f) = by_parts _ (both _ _ (bytes_eq-Decides x y) (term_exact e f)) (λ h. let d = h.0 in let n = h.1 in cc) (λ h. ((let t : x ≡ y = cc in t), (let t : e ≡ f = cc in t)))
  step_exact (perform a) (perform b) = by_parts _ (action_exact a b) (λ h. ap perform h) (λ e. cc)
  step_exact (if_only c a) (if_only d b) = by_parts _ (both _ _ (term_exact c d) (step_exact a b)) (λ h. let e = h.0 in let n = h.1 in cc) (λ e. ((let t : c ≡ d = cc in t), (let t : a ≡ b = cc in t)))
  step_exact (if_else c a e) (if_else d b f) =
      by_parts _ (both _ _ (both _ _ (term_exact c d) (step_exact a b)) (step_exact e f)) (λ h. let k = h.0.0 in let m = h.0.1 in let n = h.1 in cc)
      (λ h. (((let t : c ≡ d = cc in t), (let t : a ≡ b = cc in t)), (let t : e ≡ f = cc in t)))
  step_exact a b = (λ h. cc, λ e. cc)

  pub steps_exact : (a b : Steps) → Decides (same_steps a b) (a ≡ b)
  steps_exact no_steps no_steps = (λ h. refl, λ e. refl)
  steps_exact (in_turn s ss) (in_turn t ts) = by_parts _ (both _ _ (step_exact s t) (steps_exact ss ts)) (λ h. let e = h.0 in let n = h.1 in cc) (λ e. ((let u : s ≡ t = cc in u), (let u : ss ≡ ts = cc in u)))
  steps_exact a b = (λ h. cc, λ e. cc)

abbrev program : List Parameter → Steps → List Word → Program
program ps ss rs = record { parameters = ps; steps = ss; registers = rs }

pub program_exact : (a b : Program) → Decides (same_program a b) (a ≡ b)
program_exact a b =
    by_parts _ (both _ _ (both _ _ (pointwise_decides parameter_exact a.parameters b.parameters) (steps_exact a.steps b.steps)) (words_exact a.registers b.registers))
    (λ h. ap (λ ps. program ps a.steps a.registers) h.0.0 ∙ ap (λ ss. program b.parameters ss a.registers) h.0.1 ∙ ap (program b.parameters b.steps) h.1)
    (λ e. ((ap (λ c. c.parameters) e, ap (λ c. c.steps) e), ap (λ c. c.registers) e))

abbrev test : Word → List Binding → List Program → Condition → List Place → List Word → Litmus
test x bs ps c qs xs = record { name = x; initial = bs; threads = ps; condition = c; listed = qs; locations = xs }

pub litmus_exact : (a b : Litmus) → Decides (same_litmus a b) (a ≡ b)
litmus_exact a b =
    by_parts _
    (both _ _ (both _ _ (both _ _ (both _ _ (both _ _ (bytes_eq-Decides a.name b.name) (pointwise_decides binding_exact a.initial b.initial)) (pointwise_decides program_exact a.threads b.threads)) (condition_exact a.condition b.condition))
    (pointwise_decides place_exact a.listed b.listed)) (words_exact a.locations b.locations))
    (λ h.
    ap (λ x. test x a.initial a.threads a.condition a.listed a.locations) h.0.0.0.0.0 ∙
    ap (λ bs. test b.name bs a.threads a.condition a.listed a.locations) h.0.0.0.0.1 ∙
    ap (λ ps. test b.name b.initial ps a.condition a.listed a.locations) h.0.0.0.1 ∙
    ap (λ c. test b.name b.initial b.threads c a.listed a.locations) h.0.0.1 ∙
    ap (λ qs. test b.name b.initial b.threads b.condition qs a.locations) h.0.1 ∙
    ap (test b.name b.initial b.threads b.condition b.listed) h.1)
    (λ e. (((((ap (λ c. c.name) e, ap (λ c. c.initial) e), ap (λ c. c.threads) e), ap (λ c. c.condition) e), ap (λ c. c.listed) e), ap (λ c. c.locations) e))

pub litmus_equivalence : IsEquivalence same_litmus
litmus_equivalence = equivalence same_litmus litmus_exact
