-- What a walk finds is counted: one execution, or some that differ in their orders alone.
use Rattle.std.proofs.Common.{◌≡◌, ℕ, ◌+◌, ◌-◌, ◌<◌, ◌≤◌, ◌^◌, ◌⊎◌, List, [], ◌∷◌, ◌++◌, length, map, Bool, true, false, cond, not, count_by, refl, sym, ◌∙◌, ap, subst, inl, inr, arith}
use Rattle.std.specs.Prelude.{max, min, Some, MatchBool}
use Rattle.std.proofs.lemmas.List.{length-map}
use Rattle.cat_eval.specs.Judging.{Allowed, JudgementValue, Raised}
use Rattle.cat_tree.specs.Tree.{Clause}
use Rattle.conditions.specs.States.{bindings, holds_in}
use Rattle.conditions.specs.declared.place.Place.{Place}
use Rattle.events.specs.Executions.{GraphValue}
use Rattle.listings.specs.Lists.{Lists, product_by}
use Rattle.litmus_tree.specs.Tree.{Litmus, Word}
use Rattle.candidates.specs.declared.open_orders.OpenOrders.{OpenOrders}
use Rattle.candidates.specs.Alike.{AreAlike}
use Rattle.candidates.specs.Candidates.{Choices, graph_at}
use Rattle.candidates.specs.Walks.{IsHit, Walking}
use Rattle.candidates.proofs.Walked.{found_from, found_on}
use Rattle.slices.specs.declared.slot.Slot.{Slot}
use Rattle.slices.specs.Alike.{AreFew, of_ways, row_by}
use Rattle.slices.specs.Finals.{has, obs}
use Rattle.slices.specs.Findings.{FindingValue}
use Rattle.slices.specs.Judgements.{AllJudged, AreJudged, IsJudged}
use Rattle.slices.specs.Parts.{IsAdmitted, IsRange}
use Rattle.slices.specs.Slots.{slot_of, slot_value}
use Rattle.slices.specs.Sums.{IsSum, of_flags, of_state, state_has}
use Rattle.slices.specs.Ways.{WaysValue, size_of_ways, ways_shown}
use Rattle.slices.proofs.Adding.{states_all}
use Rattle.slices.proofs.Counted.{IsCountOf, IsUnderWay, row_is, those-pass, those-push, turned}
use Rattle.slices.proofs.Following.{GoesOn}
use Rattle.slices.proofs.Judging.{raised}
use Rattle.slices.proofs.Members.{count-cons}
use Rattle.slices.proofs.Orders.{are_few, block_counted, block_forbidden}
use Rattle.slices.proofs.PassedOver.{counts_pass, none_stands, not_allowed}
use Rattle.slices.proofs.Told.{Says, both_behind, sum_flags, sum_told}

-- what is found is changed if it is allowed, and the same if it isn't
choice : (P Q : Type 0) (b : Bool) → MatchBool b P Q → ((b ≡ true) × P) ⊎ ((b ≡ false) × Q)
choice P Q true m = inl (refl, m)
choice P Q false m = inr (refl, m)

pub if_yes : (b : Bool) (P Q : Type 0) → b ≡ true → P → MatchBool b P Q
if_yes true P Q e p = p
if_yes false P Q e p = absurd (let f : false ≡ true = e in cc)

pub same_places : (b : Bool) (v w new : FindingValue) → MatchBool b (IsSum v w new) (new ≡ v) → new.places ≡ v.places
same_places true v w new h = ap (λ (u : FindingValue). u.places) h.same
same_places false v w new h = ap (λ (u : FindingValue). u.places) h

pub as_long : (t : Litmus) (places : List Place) (slots : List Slot) → slots ≡ map (slot_of t) places → length places ≡ length slots
as_long t places slots e = sym (ap length e ∙ length-map places (slot_of t))

-- a final state, or those of some orders, and the names of flags behind them

pub state_weighed : (v old new : FindingValue) (row seen : List ℕ) (names flags : List Word) → row ≡ seen → names ≡ flags → IsSum v (of_state v row 1 []) old → IsSum old (of_flags old names) new → IsSum v (of_state v seen 1 flags) new
state_weighed v old new row seen names flags r f g is =
    let R : List ℕ → Type 0 = λ s. IsSum v (of_state v s 1 flags) new in
    let F : List Word → Type 0 = λ fs. IsSum v (of_state v row 1 fs) new in
    subst R r (subst F f (sum_flags v (of_state v row 1 []) old new names refl g is))

pub ways_weighed : (v old new : FindingValue) (x : GraphValue) (slots : List Slot) (ways seen : List WaysValue) (names flags : List Word) → ways ≡ seen → names ≡ flags → IsSum v (of_ways v x slots ways []) old → IsSum old (of_flags old names) new → IsSum v (of_ways v x slots seen flags) new
ways_weighed v old new x slots ways seen names flags w f g is =
    let W : List WaysValue → Type 0 = λ s. IsSum v (of_ways v x slots s flags) new in
    let F : List Word → Type 0 = λ fs. IsSum v (of_ways v x slots ways fs) new in
    subst W w (subst F f (sum_flags v (of_ways v x slots ways []) old new names refl g is))

-- one execution

once_counted : {X : Type 0} (p : X → Bool) (x : X) → cond (p x) 1 0 ≡ count_by p (x ∷ [])
once_counted p x = (let c : count_by p (x ∷ []) ≡ cond (p x) 1 0 + 0 = count-cons p x [] in omega (arith, c))

one_said : (t : Litmus) (items : List Clause) (x : GraphValue) (v : FindingValue) (row : List ℕ) (flags : List Word) → v.formula ≡ t.condition.formula → row ≡ obs t v.places x → Lists (Raised items x) flags → Says t items v.places (x ∷ []) (of_state v row 1 flags)
one_said t items x v row flags asked is shown =
    let C : Bool → ℕ = λ c. cond c 1 0 in
    let N : Bool → ℕ = λ c. cond c 0 1 in
    let b : Bool = has t v.places x in
    let same : state_has v row ≡ b = ap (state_has v) is ∙ ap (holds_in (bindings v.places (obs t v.places x))) asked in
    record {
      positive = ap C same ∙ once_counted (has t v.places) x;
      negative = ap N same ∙ sym (turned b 1 0) ∙ once_counted (λ y. not (has t v.places y)) x;
      states = λ s. (
        (λ p. elim p [ inl e ↦ (x, inl refl, e ∙ is) | inr n ↦ absurd n ]),
        (λ q. elim q.1 [ inl e ↦ inl (q.2 ∙ ap (obs t v.places) e ∙ sym is) | inr n ↦ absurd n ]),
      );
      flags = λ name. (
        (λ p. (x, inl refl, shown.only name p)),
        (λ q. elim q.1 [ inl e ↦ shown.all name (let P : GraphValue → Type 0 = λ y. Raised items y name in subst P e q.2) | inr n ↦ absurd n ]),
      );
    }

few_more : (b : Bool) (p n p' n' k : ℕ) → p + n ≤ k → p' ≡ p + cond b 1 0 → n' ≡ n + cond b 0 1 → p' + n' ≤ k + 1
few_more true p n p' n' k h e f = omega arith
few_more false p n p' n' k h e f = omega arith

pub walked_one : (t : Litmus) (items : List Clause) (from to n : ℕ) (u w : Walking) (x : GraphValue) (slots : List Slot) (j : JudgementValue) (old new : FindingValue) → IsUnderWay t items from to u old → IsHit u w n → x ≡ w.shown → slots ≡ map (slot_of t) old.places → IsJudged items j x
    → MatchBool j.allowed (IsSum old (of_state old (map (slot_value x) slots) 1 j.flags) new) (new ≡ old) → IsUnderWay t items from to w new
walked_one t items from to n u w x slots j old new h hit shown e judged m =
    let xs : List GraphValue = found_from u.space from u.next in
    let C : List GraphValue → Type 0 = λ all. IsCountOf t items all new in
    let X : GraphValue → Type 0 = λ y. IsCountOf t items (xs ++ y ∷ []) new in
    let row : List ℕ = map (slot_value x) slots in
    let is : row ≡ obs t old.places x = ap (map (slot_value x)) e ∙ row_is t x old.places in
    let N : FindingValue → Type 0 = λ v. IsCountOf t items (xs ++ x ∷ []) v in
    let F : FindingValue → Type 0 = λ v. v.positive + v.negative ≤ u.next + 1 in
    let c = h.counted in
    let both : IsCountOf t items (xs ++ x ∷ []) new × (new.positive + new.negative ≤ u.next + 1) = elim (choice (IsSum old (of_state old row 1 j.flags) new) (new ≡ old) j.allowed m) [
      | inl a ↦ (
        (c.0 ++ x ∷ [], those-push x (judged.allowed.0 a.0) c.1, sum_told t items c.0 (x ∷ []) (c.0 ++ x ∷ []) old (of_state old row 1 j.flags) new c.2 (one_said t items x old row j.flags c.2.formula is (raised items x j judged a.0)) a.1 (both_behind c.0 (x ∷ []))),
        few_more (state_has old row) old.positive old.negative new.positive new.negative u.next h.few a.1.positive a.1.negative,
      )
      | inr a ↦ (subst N (sym a.1) (c.0, those-pass x (not_allowed j.allowed (Allowed items x) a.0 judged.allowed) c.1, c.2), subst F (sym a.1) (let f = h.few in omega (arith, f)))
    ] in
    let few = both.1 in
    record {
      counted = subst C (sym (found_on from u w n h.order hit)) (subst X shown both.0);
      few = omega (arith, few, hit.later, hit.step.next);
      order = omega (arith, h.order, hit.later, hit.step.next);
      space = hit.step.space ∙ h.space;
      to_is = hit.step.to ∙ h.to_is;
    }

-- executions that differ in their orders alone

-- they are few
pub few_ways : (t : Litmus) (items : List Clause) (from to n : ℕ) (u v : Walking) (slots : List Slot) (o : OpenOrders) (x : GraphValue) (f : FindingValue) → IsUnderWay t items from to u f → IsHit u v n → AreAlike v.space n o → graph_at v.space n ≡ Some v.shown → x ≡ v.shown → (n + o.size ≤ v.to) × (v.to ≤ 2 ^ 32)
    → AreFew (ways_shown slots o x) × (f.positive + f.negative + product_by size_of_ways (ways_shown slots o x) < 2 ^ 64)
few_ways t items from to n u v slots o x f h hit alike at shown within =
    let end = within.0 in
    let least = within.1 in
    let few = are_few slots v.space n o x (ways_shown slots o x) alike (at ∙ ap (λ (y : GraphValue). Some y) (sym shown)) refl (omega (arith, end, least)) in
    let size = few.1 in
    let most = h.few in
    let later = hit.later in
    (few.0, omega (arith, size, most, later, end, least))

pub walked_alike : (t : Litmus) (items : List Clause) (from to n : ℕ) (u v w : Walking) (x : GraphValue) (slots : List Slot) (o : OpenOrders) (j : JudgementValue) (old new : FindingValue) → IsUnderWay t items from to u old → IsHit u v n → x ≡ v.shown → slots ≡ map (slot_of t) old.places → AreAlike v.space n o → graph_at v.space n ≡ Some v.shown
    → AllJudged items v.space n (n + o.size) j → (n + o.size ≤ v.to) × (v.to ≤ 2 ^ 32) → MatchBool j.allowed (IsSum old (of_ways old x slots (ways_shown slots o x) j.flags) new) (new ≡ old) → w.space ≡ v.space → w.to ≡ v.to → w.next ≡ max v.next (min (n + o.size) v.to) → IsUnderWay t items from to w new
walked_alike t items from to n u v w x slots o j old new h hit shown e alike here judged within m space ends next =
    let s : Choices = v.space in
    let at : graph_at s n ≡ Some x = here ∙ ap (λ (y : GraphValue). Some y) (sym shown) in
    let some = alike.opens.some in
    let end : n + o.size ≤ v.to = within.0 in
    let least : v.to ≤ 2 ^ 32 = within.1 in
    let step = hit.step.next in
    let is : w.next ≡ n + o.size = omega (arith, step, end, some, next) in
    let G : FindingValue → Type 0 = λ f. GoesOn t items s n (n + o.size) old f in
    let F : FindingValue → Type 0 = λ f. f.positive + f.negative ≤ old.positive + old.negative + o.size in
    let few = are_few slots s n o x (ways_shown slots o x) alike at refl (omega (arith, end, least)) in
    let both : GoesOn t items s n (n + o.size) old new × (new.positive + new.negative ≤ old.positive + old.negative + o.size) = elim (choice (IsSum old (of_ways old x slots (ways_shown slots o x) j.flags) new) (new ≡ old) j.allowed m) [
      | inl a ↦ (
        block_counted t items slots s n o x j old new judged a.0 e alike at a.1,
        (let all = states_all old new (row_by x slots (ways_shown slots o x)) (ways_shown slots o x) j.flags few.0 a.1 in let size = few.1 in omega (arith, all, size)),
      )
      | inr a ↦ (subst G (sym a.1) (block_forbidden t items s n (n + o.size) j old (omega arith) judged a.0), subst F (sym a.1) (omega arith))
    ] in
    let sum = both.1 in
    let order = h.order in
    let later = hit.later in
    let most = h.few in
    let C : Choices → Type 0 = λ z. IsCountOf t items (found_from z from w.next) new in
    let N : ℕ → Type 0 = λ k. IsCountOf t items (found_from s from k) new in
    let S : Choices → Type 0 = λ z. IsCountOf t items (found_from z from n) old in
    let so_far = counts_pass t items u.space old from u.next n order later (none_stands items u.space u.next n hit.none) h.counted in
    record {
      counted = subst C (sym space) (subst N (sym is) (both.0 from (omega (arith, order, later)) (subst S (sym hit.step.space) so_far)));
      few = omega (arith, is, sum, most, later);
      order = omega (arith, is, order, later);
      space = space ∙ hit.step.space ∙ h.space;
      to_is = ends ∙ hit.step.to ∙ h.to_is;
    }

-- what is said of the executions behind the one that a walk found last, by its number
pub record AreSaidAt (items : List Clause) (v : Walking) (n : ℕ) (j : JudgementValue) (o : OpenOrders) : Type 0 where
  pub alike : AreAlike v.space n o
  pub judged : AllJudged items v.space n (n + o.size) j
  pub at : graph_at v.space n ≡ Some v.shown
  pub within : (n + o.size ≤ v.to) × (v.to ≤ 2 ^ 32)

pub said_at : (t : Litmus) (items : List Clause) (from to n : ℕ) (u v : Walking) (j : JudgementValue) (o : OpenOrders) (f : FindingValue) → IsUnderWay t items from to u f → IsHit u v n → IsRange t from to → IsAdmitted t → AreJudged items v j o → AreSaidAt items v n j o
said_at t items from to n u v j o f h hit range admitted said =
    let next = hit.step.next in
    let here : v.next - 1 ≡ n = omega (arith, next) in
    let N : ℕ → Type 0 = λ m. AreAlike v.space m o in
    let J : ℕ → Type 0 = λ m. AllJudged items v.space m (m + o.size) j in
    let to_is = hit.step.to ∙ h.to_is in
    let most = range.within in
    let few = admitted.few in
    let l = said.within in
    record {
      alike = subst N here said.alike;
      judged = subst J here said.judged;
      at = ap (λ s. graph_at s n) hit.step.space ∙ hit.at;
      within = (omega (arith, l, next), omega (arith, to_is, most, few));
    }
