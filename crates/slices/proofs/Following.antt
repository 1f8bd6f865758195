-- Executions that follow those that were found.
use Rattle.std.proofs.Common.{◌≡◌, ℕ, zero, suc, ◌+◌, ◌-◌, ◌<◌, ◌≤◌, ◌⊎◌, List, [], ◌∷◌, ◌++◌, Bool, cond, count_by, Option, Some, append-nil, refl, sym, ◌∙◌, ap, subst, inl, inr, arith}
use Rattle.std.proofs.lemmas.List.{append_assoc}
use Rattle.events.specs.Executions.{GraphValue}
use Rattle.cat_eval.specs.Judging.{Allowed, Raised}
use Rattle.cat_tree.specs.Tree.{Clause}
use Rattle.litmus_tree.specs.Tree.{Litmus, Word}
use Rattle.listings.specs.Lists.{IsIn}
use Rattle.candidates.specs.Candidates.{Choices, found, graph_at, some_of}
use Rattle.candidates.proofs.Walked.{found_from}
use Rattle.slices.specs.Alike.{followed}
use Rattle.slices.specs.Findings.{FindingValue}
use Rattle.slices.specs.Parts.{AreThose}
use Rattle.slices.specs.Sums.{IsSum}
use Rattle.slices.specs.Totals.{total}
use Rattle.slices.proofs.Counted.{IsCountOf, at_last, count_by-push, in_front, of_push, those-push}
use Rattle.slices.proofs.Told.{AreBoth, Says, both_behind, sum_told}

pub count_followed : {X : Type 0} (p : X → Bool) (xs : List X) (f : ℕ → X) (m : ℕ) → count_by p (followed xs f m) ≡ count_by p xs + total m (λ t. cond (p (f t)) 1 0)
count_followed p xs f zero = let e : count_by p xs ≡ count_by p xs + 0 = omega arith in e
count_followed p xs f (suc m) = omega (arith, count_by-push p (followed xs f m) (f m), count_followed p xs f m)

pub from_followed : {X : Type 0} (x : X) (f : ℕ → X) (m : ℕ) → IsIn x (followed [] f m) → (i : ℕ) × (i < m) × (x ≡ f i)
from_followed x f zero p = absurd p
from_followed x f (suc m) p = elim (of_push x (followed [] f m) (f m) p) [
  | inl q ↦ (let r = from_followed x f m q in (r.0, omega (arith, r.1), r.2))
  | inr e ↦ (m, omega arith, e)
]

last_or_before : (i m : ℕ) → i < suc m → (i < m) ⊎ (i ≡ m)
last_or_before zero zero l = inr refl
last_or_before (suc i) zero l = absurd (omega (arith, l))
last_or_before zero (suc m) l = inl (omega arith)
last_or_before (suc i) (suc m) l = elim (last_or_before i m (omega (arith, l))) [ inl u ↦ inl (omega (arith, u)) | inr e ↦ inr (ap suc e) ]

pub in_followed : {X : Type 0} (f : ℕ → X) (m i : ℕ) → i < m → IsIn (f i) (followed [] f m)
in_followed f zero i l = absurd (omega (arith, l))
in_followed {X} f (suc m) i l = elim (last_or_before i m l) [
  | inl u ↦ in_front (f i) (followed [] f m) (f m) (in_followed f m i u)
  | inr e ↦ (let P : ℕ → Type 0 = λ j. IsIn (f j) (followed [] f m ++ f m ∷ []) in subst P (sym e) (at_last (followed [] f m) (f m)))
]

both_followed : {X : Type 0} (xs : List X) (f : ℕ → X) (m : ℕ) → followed xs f m ≡ xs ++ followed [] f m
both_followed xs f zero = sym (append-nil xs)
both_followed xs f (suc m) = ap (λ ys. ys ++ f m ∷ []) (both_followed xs f m) ∙ append_assoc xs (followed [] f m) (f m ∷ [])

those_followed : {X : Type 0} {P : X → Type 0} {xs ys : List X} (f : ℕ → X) (m : ℕ) → ((i : ℕ) → i < m → P (f i)) → AreThose P xs ys → AreThose P (followed xs f m) (followed ys f m)
those_followed f zero p h = h
those_followed f (suc m) p h = those-push (f m) (p m (omega arith)) (those_followed f m (λ i l. p i (omega (arith, l))) h)

found_followed : (at : ℕ → Option GraphValue) (f : ℕ → GraphValue) (k m : ℕ) → ((t : ℕ) → t < m → at (k + t) ≡ Some (f t)) → found at (k + m) ≡ followed (found at k) f m
found_followed at f k zero h = ap (found at) (let e : k + 0 ≡ k = omega arith in e)
found_followed at f k (suc m) h =
    let e : k + suc m ≡ suc (k + m) = omega arith in
    ap (found at) e ∙ ap (λ o. found at (k + m) ++ some_of o) (h m (omega arith)) ∙ ap (λ xs. xs ++ f m ∷ []) (found_followed at f k m (λ t l. h t (omega (arith, l))))

-- Of the first m of the executions f a model of these items says the same: it allows each, and each raises what the first does.
abbrev pub AreJudgedAlike : List Clause → (ℕ → GraphValue) → ℕ → Type 0
AreJudgedAlike items f m = (i : ℕ) → i < m → Allowed items (f i) × ((name : Word) → Raised items (f i) name → Raised items (f 0) name)

-- A count up to the number a goes on to one up to b.
abbrev pub GoesOn : Litmus → List Clause → Choices → (a b : ℕ) → (before after : FindingValue) → Type 0
GoesOn t items s a b before after = (from : ℕ) → from ≤ a → IsCountOf t items (found_from s from a) before → IsCountOf t items (found_from s from b) after

-- what w says is right for the first m of the executions f, of a test that asks what v asks
abbrev pub AreSaid : Litmus → List Clause → (ℕ → GraphValue) → ℕ → FindingValue → FindingValue → Type 0
AreSaid t items f m v w = v.formula ≡ t.condition.formula → Says t items v.places (followed [] f m) w

counted : (t : Litmus) (items : List Clause) (all : List GraphValue) (f : ℕ → GraphValue) (m : ℕ) (before w after : FindingValue) → AreJudgedAlike items f m → AreSaid t items f m before w → IsSum before w after → IsCountOf t items all before → IsCountOf t items (followed all f m) after
counted t items all f m before w after alike said is c =
    let xs : List GraphValue = c.0 in
    let ys : List GraphValue = followed [] f m in
    let B : List GraphValue → Type 0 = λ zs. AreBoth xs ys zs in
    (followed xs f m, those_followed f m (λ i l. (alike i l).0) c.1, sum_told t items xs ys (followed xs f m) before w after c.2 (said c.2.formula) is (subst B (sym (both_followed xs f m)) (both_behind xs ys)))

-- where the executions at the numbers from a on are those of f, a count up to a goes on to one up to m numbers further
pub goes_on : (t : Litmus) (items : List Clause) (s : Choices) (a m : ℕ) (f : ℕ → GraphValue) (before w after : FindingValue) → AreJudgedAlike items f m → ((i : ℕ) → i < m → graph_at s (a + i) ≡ Some (f i)) → AreSaid t items f m before w → IsSum before w after → GoesOn t items s a (a + m) before after
goes_on t items s a m f before w after alike stand said is from l c =
    let at : ℕ → Option GraphValue = λ i. graph_at s (from + i) in
    let e : (a - from) + m ≡ a + m - from = omega (arith, l) in
    let there : found at ((a - from) + m) ≡ followed (found at (a - from)) f m =
    found_followed at f (a - from) m (λ i u. ap (graph_at s) (let d : from + ((a - from) + i) ≡ a + i = omega (arith, l) in d) ∙ stand i u) in
    let P : List GraphValue → Type 0 = λ xs. IsCountOf t items xs after in
    subst P (sym there ∙ ap (found at) e) (counted t items (found at (a - from)) f m before w after alike said is c)
