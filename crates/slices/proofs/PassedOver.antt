-- What is passed over adds nothing to a count.
use Rattle.std.proofs.Common.{◌≡◌, ℕ, zero, suc, ◌+◌, ◌-◌, ◌<◌, ◌≤◌, List, [], ◌++◌, Option, Some, None, refl, sym, ◌∙◌, ap, subst, append-nil, arith}
use Rattle.std.specs.Prelude.{max, min, Bool, true, false, IfSome, MatchBool, MatchOption, ◌↔◌}
use Rattle.events.specs.declared.cut.Cut.{Cut}
use Rattle.events.specs.Cuts.{cut_down}
use Rattle.events.specs.Executions.{GraphValue}
use Rattle.events.specs.Extends.{Extends}
use Rattle.litmus_tree.specs.Tree.{Litmus}
use Rattle.cat_tree.specs.Tree.{Clause}
use Rattle.cat_eval.specs.Judging.{Allowed}
use Rattle.candidates.specs.Blocks.{AllExtend}
use Rattle.candidates.specs.Candidates.{Choices, choices_of, found, graph_at, some_of}
use Rattle.candidates.specs.Walks.{IsHit, IsMiss, NoneFrom, Walking}
use Rattle.candidates.proofs.Walked.{found_from}
use Rattle.slices.specs.Findings.{FindingValue}
use Rattle.slices.specs.Parts.{AreThose, IsPart, at_end}
use Rattle.slices.specs.Passing.{ArePassed, HasGoneOver, IsForbidden, Knows, NoneAllowed}
use Rattle.slices.specs.Lessons.{AreLearned}
use Rattle.slices.specs.Verdicts.{Tells}
use Rattle.slices.specs.declared.pruning.Pruner.{Pruner}
use Rattle.slices.specs.declared.span.Span.{Span}
use Rattle.slices.proofs.Counted.{IsCountOf, IsUnderWay, those-pass}

pass_one : (P : GraphValue → Type 0) (xs ys : List GraphValue) (o : Option GraphValue) → ((x : GraphValue) → o ≡ Some x → ¬ P x) → AreThose P xs ys → AreThose P (xs ++ some_of o) ys
pass_one P xs ys None f h = let Q : List GraphValue → Type 0 = λ zs. AreThose P zs ys in subst Q (sym (append-nil xs)) h
pass_one P xs ys (Some x) f h = those-pass x (f x refl) h

pass_all : (P : GraphValue → Type 0) (at : ℕ → Option GraphValue) (ys : List GraphValue) (m k : ℕ) → ((i : ℕ) → m ≤ i → i < m + k → (x : GraphValue) → at i ≡ Some x → ¬ P x) → AreThose P (found at m) ys → AreThose P (found at (m + k)) ys
pass_all P at ys m zero f h = let Q : ℕ → Type 0 = λ n. AreThose P (found at n) ys in subst Q (let e : m ≡ m + 0 = omega arith in e) h
pass_all P at ys m (suc k) f h =
    let Q : ℕ → Type 0 = λ n. AreThose P (found at n) ys in
    subst Q (let e : suc (m + k) ≡ m + suc k = omega arith in e)
    (pass_one P (found at (m + k)) ys (at (m + k)) (λ x. f (m + k) (omega arith) (omega arith) x) (pass_all P at ys m k (λ i l u. f i l (omega (arith, u))) h))

-- a count up to a number is one up to a later one, where none from there on is allowed
pub counts_pass : (t : Litmus) (items : List Clause) (s : Choices) (v : FindingValue) (from a b : ℕ) → from ≤ a → a ≤ b → NoneAllowed items s a b → IsCountOf t items (found_from s from a) v → IsCountOf t items (found_from s from b) v
counts_pass t items s v from a b l o none h =
    let at : ℕ → Option GraphValue = λ i. graph_at s (from + i) in
    let e : (a - from) + (b - a) ≡ b - from = omega (arith, l, o) in
    let Q : ℕ → Type 0 = λ z. IsCountOf t items (found at z) v in
    subst Q e (h.0, pass_all (Allowed items) at h.0 (a - from) (b - a) (λ i low up x is. none (from + i) (omega (arith, l, low)) (omega (arith, l, o, up)) x is) h.1, h.2)

-- where nothing stands, nothing is allowed
pub none_stands : (items : List Clause) (s : Choices) (a b : ℕ) → NoneFrom s a b → NoneAllowed items s a b
none_stands items s a b none m l u x is = let e = none m l u in let f : None ≡ Some x = sym e ∙ is in cc

-- none that goes on from a graph is allowed, and these do
pub none_allowed : (items : List Clause) (w : Walking) (end : ℕ) (g : GraphValue) → w.next ≤ end → AllExtend w.space (w.next - 1) end g → ((h : GraphValue) → Extends g h → ¬ Allowed items h) → IsForbidden items w end
none_allowed items w end g later extend refuted = (later, λ m l u x is. refuted x (extend m l u x is))

some_is : (m n : ℕ) → Some m ≡ Some n → m ≡ n
some_is m n e = cc

-- Where none is allowed, what is found of no execution is right.
pub none_found : (t : Litmus) (items : List Clause) (from to : ℕ) (v : FindingValue) → NoneAllowed items (choices_of t) from to → Tells t items [] v → IsPart t items from to v
none_found t items from to v none told =
    let at : ℕ → Option GraphValue = λ i. graph_at (choices_of t) (from + i) in
    let e : 0 + (to - from) ≡ to - from = omega arith in
    let Q : ℕ → Type 0 = λ k. AreThose (Allowed items) (found at k) [] in
    ([], subst Q e (pass_all (Allowed items) at [] 0 (to - from) (λ i l u x is. none (from + i) (omega arith) (omega (arith, u)) x is) at_end), told)

-- the walk goes on behind what is forbidden
pub gone_on : (items : List Clause) (n end : ℕ) (v w : Walking) → v.next ≡ n + 1 → IsForbidden items v end → w.space ≡ v.space → w.to ≡ v.to → w.next ≡ max v.next (min end v.to) → ArePassed items n v w
gone_on items n end v w e h space to next = record {
  space = space;
  to = to;
  later = omega (arith, e, next);
  none = λ m l u x at. h.1 m (omega (arith, e, l)) (omega (arith, e, next, u, h.0)) x at;
}

-- the step of a walk that found something, and of one that did not
pub hit_number : (v w : Walking) (o : Option ℕ) (n : ℕ) → o ≡ Some n → MatchOption o (IsMiss v w) (IsHit v w) → IsHit v w n
hit_number v w (Some m) n e h = let P : ℕ → Type 0 = λ k. IsHit v w k in subst P (some_is m n e) h
hit_number v w None n e h = absurd (let f : None ≡ Some n = e in cc)

pub miss_number : (v w : Walking) (o : Option ℕ) → ((n : ℕ) → o ≡ Some n → ⊥) → MatchOption o (IsMiss v w) (IsHit v w) → IsMiss v w
miss_number v w None none h = h
miss_number v w (Some m) none h = absurd (none m refl)

-- what the walk shows stands at the number before the one where it goes on
pub shown_at : (u v : Walking) (n : ℕ) → IsHit u v n → graph_at v.space (v.next - 1) ≡ Some v.shown
shown_at u v n hit =
    let next = hit.step.next in
    let here : v.next - 1 ≡ n = omega (arith, next) in
    ap (graph_at v.space) here ∙ (ap (λ s. graph_at s n) hit.step.space ∙ hit.at)

-- a walk that goes on behind what it found has less before it
pub walk_nearer : (n : ℕ) (v w : Walking) → w.to ≡ v.to → n < w.next → v.next ≤ n → n < v.to → w.to - w.next < v.to - v.next
walk_nearer n v w to later old below = omega (arith, to, later, old, below)

-- what a pruner knows, by what it keeps
pub knows_alike : (s u : Choices) (items clauses : List Clause) (p q : Pruner) → s ≡ u → items ≡ clauses → q.refuted ≡ p.refuted → (AreLearned u clauses p.lessons → AreLearned u clauses q.lessons) → Knows s items p → Knows u clauses q
knows_alike s u items clauses p q space model same learned known =
    let P : Choices → Type 0 = λ z. Knows z items p in
    let Q : List Clause → Type 0 = λ z. Knows u z p in
    let R : Span → Type 0 = λ z. NoneAllowed clauses u z.from z.to in
    let k = subst Q model (subst P space known) in
    (subst R (sym same) k.0, learned k.1)

-- what was asked of a block, of the walk and the model as they were
pub block_known : (items told : List Clause) (v w : Walking) (o : Option ℕ) (end : ℕ) → told ≡ items → w ≡ v → o ≡ Some end → IfSome o (IsForbidden told w) → IsForbidden items v end
block_known items told v w o end model same is h =
    let P : Option ℕ → Type 0 = λ z. IfSome z (IsForbidden told w) in
    let Q : List Clause → Type 0 = λ z. IsForbidden z w end in
    let R : Walking → Type 0 = λ z. IsForbidden items z end in
    subst R same (subst Q model (subst P is h))

pub none_from : (items : List Clause) (w : Walking) (n end : ℕ) → w.next ≡ n + 1 → IsForbidden items w end → NoneAllowed items w.space n end
none_from items w n end e h m l u x at = h.1 m (omega (arith, e, l)) u x at

-- what is gone over isn't counted
pub walked_on : (t : Litmus) (items : List Clause) (from to : ℕ) (v w : Walking) (f : FindingValue) → IsUnderWay t items from to v f → HasGoneOver items v w → IsUnderWay t items from to w f
walked_on t items from to v w f h p =
    let Q : Choices → Type 0 = λ s. IsCountOf t items (found_from s from w.next) f in
    record {
      counted = subst Q (sym p.space) (counts_pass t items v.space f from v.next w.next h.order p.order p.none h.counted);
      few = omega (arith, h.few, p.order);
      order = omega (arith, h.order, p.order);
      space = p.space ∙ h.space;
      to_is = p.to ∙ h.to_is;
    }

-- what is found and passed over isn't counted
pub walked_over : (t : Litmus) (items : List Clause) (from to n : ℕ) (u v w : Walking) (f : FindingValue) → IsUnderWay t items from to u f → IsHit u v n → ArePassed items n v w → IsUnderWay t items from to w f
walked_over t items from to n u v w f h hit p =
    let space : w.space ≡ u.space = p.space ∙ hit.step.space in
    let P : Choices → Type 0 = λ s. NoneAllowed items s n w.next in
    let Q : Choices → Type 0 = λ s. IsCountOf t items (found_from s from w.next) f in
    let before = counts_pass t items u.space f from u.next n h.order hit.later (none_stands items u.space u.next n hit.none) h.counted in
    let behind = counts_pass t items u.space f from n w.next (omega (arith, h.order, hit.later)) (omega (arith, p.later)) (subst P hit.step.space p.none) before in
    record {
      counted = subst Q (sym space) behind;
      few = omega (arith, h.few, hit.later, p.later);
      order = omega (arith, h.order, hit.later, p.later);
      space = space ∙ h.space;
      to_is = p.to ∙ hit.step.to ∙ h.to_is;
    }

-- what is known of a block, where what its executions have in common is refuted
pub forbidden : (items : List Clause) (w : Walking) (end : ℕ) (x : GraphValue) (c : Cut) → x ≡ w.shown → w.next ≤ end → AllExtend w.space (w.next - 1) end (cut_down w.shown c) →
    ((h : GraphValue) → Extends (cut_down x c) h → ¬ Allowed items h) → IsForbidden items w end
forbidden items w end x c is later extend refuted =
    let P : GraphValue → Type 0 = λ g. (h : GraphValue) → Extends (cut_down g c) h → ¬ Allowed items h in
    none_allowed items w end (cut_down w.shown c) later extend (subst P is refuted)

pub is_passed : (b : Bool) (P Q : Type 0) → b ≡ true → MatchBool b P Q → P
is_passed true P Q e h = h
is_passed false P Q e h = absurd (let f : false ≡ true = e in cc)

pub not_passed : (b : Bool) (P Q : Type 0) → b ≡ false → MatchBool b P Q → Q
not_passed false P Q e h = h
not_passed true P Q e h = absurd (let f : true ≡ false = e in cc)

-- what a model is said not to allow, it doesn't
pub not_allowed : (b : Bool) (A : Type 0) → b ≡ false → (b ≡ true ↔ A) → ¬ A
not_allowed b A e h a = let f : false ≡ true = sym e ∙ h.1 a in cc
