-- What is said of executions: of one, and of those that are like it.
use Rattle.std.proofs.Common.{◌≡◌, ℕ, ◌+◌, ◌-◌, ◌*◌, ◌≤◌, List, true, Option, Some, refl, sym, ◌∙◌, ap, subst, arith}
use Rattle.std.specs.Prelude.{IfSome, MatchOption, None}
use Rattle.cat_eval.specs.Judging.{Allowed, JudgementValue, Raised}
use Rattle.cat_eval.specs.Orderless.{IsOrderless}
use Rattle.cat_tree.specs.Tree.{Clause}
use Rattle.candidates.specs.Alike.{AllWithin, AreAlike, with_orders}
use Rattle.candidates.specs.Candidates.{Choices, graph_at}
use Rattle.candidates.specs.Walks.{Walking}
use Rattle.candidates.specs.declared.open_orders.OpenOrders.{OpenOrders}
use Rattle.events.specs.Executions.{GraphValue}
use Rattle.events.specs.Opened.{IsWithin}
use Rattle.events.specs.Structures.{sourced_of}
use Rattle.listings.specs.Lists.{Lists}
use Rattle.slices.specs.Judgements.{AllJudged, AreJudged, IsJudged, IsSaid}
use Rattle.slices.specs.declared.judged.Judged.{Judged}

-- the flags are the names that an allowed execution raises
pub raised : (items : List Clause) (x : GraphValue) (j : JudgementValue) → IsJudged items j x → j.allowed ≡ true → Lists (Raised items x) j.flags
raised items x j h is = record { once = h.flags.once; only = λ name p. (h.flags.only name p).1; all = λ name r. h.flags.all name (h.allowed.0 is, r) }

-- of executions that differ in their orders alone the same is said by a model that doesn't look at these
judged_alike : (items : List Clause) (j : JudgementValue) (x y : GraphValue) → IsOrderless items → sourced_of x ≡ sourced_of y → IsJudged items j x → IsJudged items j y
judged_alike items j x y orderless same h =
    let to = orderless x y same in
    record {
      allowed = (λ is. to.0.0 (h.allowed.0 is), λ a. h.allowed.1 (to.0.1 a));
      flags = record {
        once = h.flags.once;
        only = λ name p. (let r = h.flags.only name p in (to.0.0 r.0, (to.1 name).0 r.1));
        all = λ name r. h.flags.all name (to.0.1 r.0, (to.1 name).1 r.1);
      };
    }

some_is : (x y : GraphValue) → ◌≡◌ {A = Option GraphValue} (Some x) (Some y) → x ≡ y
some_is x y e = cc

-- the first of them is the one that is shown
pub shown_is : (s : Choices) (a : ℕ) (o : OpenOrders) (x : GraphValue) → (h : AreAlike s a o) → graph_at s a ≡ Some x → x ≡ with_orders s.init h.runs h.rf (o.size * h.times + 0)
shown_is s a o x h at =
    let e : a + 0 ≡ a = omega arith in
    let y : GraphValue = with_orders s.init h.runs h.rf (o.size * h.times + 0) in
    let l = h.opens.some in
    some_is x y (sym at ∙ ap (graph_at s) (sym e) ∙ h.at 0 (omega (arith, l)))

pub orderless_judged : (items : List Clause) (s : Choices) (a : ℕ) (o : OpenOrders) (j : JudgementValue) (x : GraphValue) → IsOrderless items → AreAlike s a o → graph_at s a ≡ Some x → IsJudged items j x → AllJudged items s a (a + o.size) j
orderless_judged items s a o j x orderless h at judged m low up y there =
    let f : ℕ → GraphValue = λ i. with_orders s.init h.runs h.rf (o.size * h.times + i) in
    let i : ℕ = m - a in
    let first : x ≡ f 0 = shown_is s a o x h at in
    let here : y ≡ f i = some_is y (f i) (sym there ∙ ap (graph_at s) (let e : m ≡ a + i = omega (arith, low) in e) ∙ h.at i (omega (arith, low, up))) in
    let J : GraphValue → Type 0 = λ z. IsJudged items j z in
    subst J (sym here) (judged_alike items j (f 0) (f i) orderless refl (subst J first judged))

-- so is what is said of all executions within one, of those that are within it
pub opened_judged : (items : List Clause) (s : Choices) (a b : ℕ) (j : JudgementValue) (u : GraphValue) → AllWithin s a b u → (j.allowed ≡ true) × ((h : GraphValue) → IsWithin h u → Allowed items h) → ((h : GraphValue) → IsWithin h u → Lists (λ name. Allowed items h × Raised items h name) j.flags) → AllJudged items s a b j
opened_judged items s a b j u within allowed flags m low up y there =
    let inside = within m low up y there in
    record { allowed = (λ _. allowed.1 y inside, λ _. allowed.0); flags = flags y inside }

-- what is said of the execution that a walk shows, and with it of those whose orders are open
pub judged_behind : (items : List Clause) (w : Walking) (j : JudgementValue) (o : Option OpenOrders) (clauses : List Clause) → items ≡ clauses → graph_at w.space (w.next - 1) ≡ Some w.shown → IsJudged items j w.shown → IfSome o (λ _. IsOrderless clauses) →
    ((x : GraphValue) → graph_at w.space (w.next - 1) ≡ Some x → IfSome o (AreAlike w.space (w.next - 1))) → IfSome o (λ r. w.next - 1 + r.size ≤ w.to) → MatchOption o (IsJudged items j w.shown) (AreJudged items w j)
judged_behind items w j None clauses same at judged orderless alike within = judged
judged_behind items w j (Some r) clauses same at judged orderless alike within =
    let open_orders = alike w.shown at in
    let M : List Clause → Type 0 = IsOrderless in
    record {
      alike = open_orders;
      within = within;
      judged = orderless_judged items w.space (w.next - 1) r j w.shown (subst M (sym same) orderless) open_orders at judged;
    }

-- what was said, by the model's own items
pub said_behind : (told items : List Clause) (w : Walking) (r : Judged) (o : OpenOrders) → told ≡ items → r.open ≡ Some o → IsSaid told w r → AreJudged items w r.judgement o
said_behind told items w r o model is h =
    let M : List Clause → Type 0 = λ z. IsSaid z w r in
    let O : Option OpenOrders → Type 0 = λ z. MatchOption z (IsJudged items r.judgement w.shown) (AreJudged items w r.judgement) in
    subst O is (subst M model h)

of_none : (o : Option OpenOrders) (P : Type 0) (Q : OpenOrders → Type 0) → ((r : OpenOrders) → o ≡ Some r → ⊥) → MatchOption o P Q → P
of_none None P Q none h = h
of_none (Some r) P Q none h = absurd (none r refl)

pub said_alone : (told items : List Clause) (w : Walking) (r : Judged) → told ≡ items → ((o : OpenOrders) → r.open ≡ Some o → ⊥) → IsSaid told w r → IsJudged items r.judgement w.shown
said_alone told items w r model none h =
    let M : List Clause → Type 0 = λ z. IsSaid z w r in
    of_none r.open (IsJudged items r.judgement w.shown) (AreJudged items w r.judgement) none (subst M model h)
