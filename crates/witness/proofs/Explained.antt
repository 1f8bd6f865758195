-- The first check that doesn't hold, from what the items come to.
use Rattle.std.proofs.Common.{◌≡◌, ℕ, zero, suc, ◌<◌, ◌≤◌, ◌+◌, ◌↔◌, List, [], ◌∷◌, Bool, true, false, IsTrue, Option, Some, None, length, map, take, get_or, refl, sym, ◌∙◌, ap, subst, arith}
use Rattle.std.specs.Prelude.{slice_get, option_map}
use Rattle.std.proofs.lemmas.Option.{slice_get-map, slice_get_read}
use Rattle.std.proofs.lemmas.Bool.{false≢true}
use Rattle.std.proofs.lemmas.List.{length-map}
use Rattle.cat_eval.specs.Judging.{Allowed, AllPermit, Behind, Binds, First, Passes, Unless}
use Rattle.cat_eval.specs.Meaning.{Environment, Means}
use Rattle.cat_eval.specs.Outcomes.{IsOutcome, IsChecked, AreOutcomes}
use Rattle.cat_eval.specs.Steps.{sort_of}
use Rattle.cat_eval.specs.declared.value.Entry.{Entry}
use Rattle.cat_eval.specs.declared.value.Value.{Value}
use Rattle.cat_eval.specs.declared.valuing.Outcome.{Outcome}
use Rattle.cat_model.specs.Scopes.{Takes}
use Rattle.cat_tree.specs.Tree.{Term, Clause, clause_of, bind, bind_recursively, check, include, show, unshow}
use Rattle.cat_tree.specs.declared.tree.CheckKind.{CheckKind}
use Rattle.cat_tree.specs.declared.tree.Item.{Item}
use Rattle.events.specs.Executions.{GraphValue}
use Rattle.events.specs.Named.{event_count}
use Rattle.witness.specs.Reasons.{Explains, FailsFirst, HasValue, IsEvidence, IsFailing, IsReason, MeansBehind, Permit}
use Rattle.witness.specs.declared.reasons.Reason.{Reason}

pub outcomes_long : (n : ℕ) (E : Environment) (items : List Clause) (os : List Outcome) → AreOutcomes n E items os → length os ≡ length items
outcomes_long n E [] [] h = refl
outcomes_long n E [] (o ∷ os) h = absurd h
outcomes_long n E (i ∷ is) [] h = absurd h
outcomes_long n E (i ∷ is) (o ∷ os) h = ap suc (outcomes_long n (Behind n E i o.bound.items) is os h.1)

-- where the first outcomes permit, the first items do
pub permit_first : (n : ℕ) (E : Environment) (items : List Clause) (os : List Outcome) (k : ℕ) → AreOutcomes n E items os → Permit (take k os) → AllPermit n E (take k items)
permit_first n E items os zero h p = tt
permit_first n E [] [] (suc k) h p = tt
permit_first n E [] (o ∷ os) (suc k) h p = absurd h
permit_first n E (i ∷ is) [] (suc k) h p = absurd h
permit_first n E (i ∷ is) (o ∷ os) (suc k) h p = (h.0.permits.0 p.0, (o.bound.items, h.0.binds, permit_first n (Behind n E i o.bound.items) is os k h.1 p.1))

pub permit_all : (n : ℕ) (E : Environment) (items : List Clause) (os : List Outcome) → AreOutcomes n E items os → Permit os → AllPermit n E items
permit_all n E [] os h p = tt
permit_all n E (i ∷ is) [] h p = absurd h
permit_all n E (i ∷ is) (o ∷ os) h p = (h.0.permits.0 p.0, (o.bound.items, h.0.binds, permit_all n (Behind n E i o.bound.items) is os h.1 p.1))

-- the first outcome that forbids something

pub permit_next : (os : List Outcome) (k : ℕ) (o : Outcome) → k < length os → o ≡ get_or os k o → Permit (take k os) → o.permits ≡ true → Permit (take (k + 1) os)
permit_next [] k o l e p q = absurd (omega (arith, l))
permit_next (u ∷ os) zero o l e p q = (let P : Outcome → Type 0 = λ x. IsTrue x.permits in subst P e q, tt)
permit_next (u ∷ os) (suc k) o l e p q =
    let f : suc k + 1 ≡ suc (k + 1) = omega arith in
    let T : ℕ → Type 0 = λ m. Permit (take m (u ∷ os)) in
    subst T (sym f) (p.0, permit_next os k o (omega (arith, l)) e p.1 q)

pub permit_end : (os : List Outcome) (k : ℕ) → length os ≤ k → Permit (take k os) → Permit os
permit_end [] k l p = tt
permit_end (o ∷ os) zero l p = absurd (omega (arith, l))
permit_end (o ∷ os) (suc k) l p = (p.0, permit_end os k (omega (arith, l)) p.1)

pub fails_first : (os : List Outcome) (k : ℕ) (o : Outcome) → k < length os → o ≡ get_or os k o → Permit (take k os) → o.permits ≡ false → FailsFirst k os
fails_first [] k o l e p q = absurd (omega (arith, l))
fails_first (u ∷ os) zero o l e p q = ap (λ x. x.permits) (sym e) ∙ q
fails_first (u ∷ os) (suc k) o l e p q = (p.0, fails_first os k o (omega (arith, l)) e p.1 q)

pub first_below : (k : ℕ) (os : List Outcome) → FailsFirst k os → k < length os
first_below zero [] f = absurd f
first_below (suc k) [] f = absurd f
first_below zero (o ∷ os) f = omega arith
first_below (suc k) (o ∷ os) f = (let l = first_below k os f.1 in omega (arith, l))

first_before : (k : ℕ) (os : List Outcome) → FailsFirst k os → Permit (take k os)
first_before zero os f = tt
first_before (suc k) [] f = absurd f
first_before (suc k) (o ∷ os) f = (f.0, first_before k os f.1)

first_fails : (k : ℕ) (os : List Outcome) (o : Outcome) → o ≡ get_or os k o → FailsFirst k os → o.permits ≡ false
first_fails zero [] o e f = absurd f
first_fails (suc k) [] o e f = absurd f
first_fails zero (u ∷ os) o e f = ap (λ x. x.permits) e ∙ f
first_fails (suc k) (u ∷ os) o e f = first_fails k os o e f.1

-- an item and its outcome, behind the items before it
abbrev pub IsAfter : ℕ → Environment → List Clause → Clause → Outcome → Type 0
IsAfter n E [] item o = IsOutcome n E item o
IsAfter n E (i ∷ is) item o = (es : List Entry) × Binds n E i es × IsAfter n (Behind n E i es) is item o

pub after_first : (n : ℕ) (E : Environment) (items : List Clause) (os : List Outcome) (k : ℕ) (item : Clause) (o : Outcome) → AreOutcomes n E items os → slice_get items k ≡ Some item → k < length os → o ≡ get_or os k o → IsAfter n E (take k items) item o
after_first n E [] os k item o h e l d = absurd (let f : None ≡ Some item = e in cc)
after_first n E (i ∷ is) [] k item o h e l d = absurd h
after_first n E (i ∷ is) (u ∷ os) zero item o h e l d =
    let same : i ≡ item = (let f : Some i ≡ Some item = e in cc) in
    let P : Clause → Type 0 = λ c. IsOutcome n E c o in
    let Q : Outcome → Type 0 = λ x. IsOutcome n E i x in
    subst P same (subst Q (sym d) h.0)
after_first n E (i ∷ is) (u ∷ os) (suc k) item o h e l d = (u.bound.items, h.0.binds, after_first n (Behind n E i u.bound.items) is os k item o h.1 e (omega (arith, l)) d)

-- the value of a check that forbids

some_value : (o : Option Value) (n : ℕ) (E : Environment) (flag negated : Bool) (kind : CheckKind) (a : Term) (alias : Option (List ℕ)) → IsChecked n E (check flag negated kind a alias) o → (v : Value) × (o ≡ Some v) × Means n E a v × Takes kind (sort_of v)
some_value None n E flag negated kind a alias h = absurd h
some_value (Some v) n E flag negated kind a alias h = (v, refl, h.0, h.1)

fails : (n : ℕ) (E : Environment) (item : Clause) (o : Outcome) → IsOutcome n E item o → o.permits ≡ false → IsFailing item o
fails n E (check true negated kind a alias) o h e = absurd (false≢true (sym e ∙ h.permits.1 (λ d. absurd (false≢true (sym d)))))
fails n E (check false negated kind a alias) o h e =
    let s = some_value o.checked n E false negated kind a alias h.checked in
    (refl, s.0, s.1, s.3, λ u. false≢true (sym e ∙ h.permits.1 (λ d. (s.0, s.2, u))))
fails n E (bind ds) o h e = absurd (false≢true (sym e ∙ h.permits.1 tt))
fails n E (bind_recursively bs) o h e = absurd (false≢true (sym e ∙ h.permits.1 tt))
fails n E (include x) o h e = absurd (false≢true (sym e ∙ h.permits.1 tt))
fails n E (show xs) o h e = absurd (false≢true (sym e ∙ h.permits.1 tt))
fails n E (unshow xs) o h e = absurd (false≢true (sym e ∙ h.permits.1 tt))

pub failing : (n : ℕ) (E : Environment) (before : List Clause) (item : Clause) (o : Outcome) → IsAfter n E before item o → o.permits ≡ false → IsFailing item o
failing n E [] item o h e = fails n E item o h e
failing n E (i ∷ is) item o h e = failing n (Behind n E i h.0) is item o h.2 e

means_after : (n : ℕ) (E : Environment) (before : List Clause) (flag negated : Bool) (kind : CheckKind) (a : Term) (alias : Option (List ℕ)) (o : Outcome) (v : Value) → IsAfter n E before (check flag negated kind a alias) o → o.checked ≡ Some v → MeansBehind n E before a v
means_after n E [] flag negated kind a alias o v h e =
    let s = some_value o.checked n E flag negated kind a alias h.checked in
    let same : s.0 ≡ v = (let f : Some s.0 ≡ Some v = sym s.1 ∙ e in cc) in
    let P : Value → Type 0 = λ x. Means n E a x in
    subst P same s.2
means_after n E (i ∷ is) flag negated kind a alias o v h e = (h.0, h.1, means_after n (Behind n E i h.0) is flag negated kind a alias o v h.2 e)

-- the reason
pub reason_of : (items : List Clause) (g : GraphValue) (k : ℕ) (item : Clause) (o : Outcome) (r : Reason) → slice_get items k ≡ Some item → AllPermit (event_count g) (First g) (take k items) → IsAfter (event_count g) (First g) (take k items) item o → IsFailing item o → Explains k item o r → IsReason items g r
reason_of items g k (check flag negated kind a alias) o r e before after f x =
    let K : ℕ → Type 0 = λ m. slice_get items m ≡ Some (check false r.negated r.kind a r.name) in
    let B : ℕ → Type 0 = λ m. Allowed (take m items) g in
    let H : ℕ → Type 0 = λ m. HasValue items m g a f.1 in
    let stands : Some (check flag negated kind a alias) ≡ Some (check false r.negated r.kind a r.name) =
    ap (λ b. Some (check b negated kind a alias)) f.0 ∙ ap (λ b. Some (check false b kind a alias)) (sym x.1) ∙ ap (λ w. Some (check false r.negated w a alias)) (sym x.2) ∙ ap (λ w. Some (check false r.negated r.kind a w)) (sym x.3) in
    let U : Bool → Type 0 = λ b. ¬ Unless b (Passes kind f.1) in
    let V : CheckKind → Type 0 = λ w. ¬ Unless r.negated (Passes w f.1) in
    let D : Bool → Type 0 = λ b. IsEvidence b kind f.1 r.evidence in
    let F : CheckKind → Type 0 = λ w. IsEvidence r.negated w f.1 r.evidence in
    record {
      expression = a;
      item = subst K (sym x.0) (e ∙ stands);
      before = subst B (sym x.0) before;
      value = f.1;
      has = subst H (sym x.0) (means_after (event_count g) (First g) (take k items) flag negated kind a alias o f.1 after f.2);
      fails = subst V (sym x.2) (subst U (sym x.1) f.4);
      evidence = subst F (sym x.2) (subst D (sym x.1) (x.4 f.1 f.2));
    }
reason_of items g k (bind ds) o r e before after f x = absurd f
reason_of items g k (bind_recursively bs) o r e before after f x = absurd f
reason_of items g k (include y) o r e before after f x = absurd f
reason_of items g k (show ys) o r e before after f x = absurd f
reason_of items g k (unshow ys) o r e before after f x = absurd f

-- the same of items in memory

pub item_at : (xs : List Item) (items : List Clause) (k : ℕ) (x : Item) → map clause_of xs ≡ items → k < length xs → x ≡ get_or xs k x → slice_get items k ≡ Some (clause_of x)
item_at xs items k x e l d =
    let P : List Clause → Type 0 = λ ys. slice_get ys k ≡ Some (clause_of x) in
    subst P e (slice_get-map clause_of xs k ∙ ap (option_map clause_of) (slice_get_read xs (length xs) k x refl l d))

pub item_below : (n : ℕ) (E : Environment) (xs : List Item) (items : List Clause) (os : List Outcome) (k : ℕ) → map clause_of xs ≡ items → AreOutcomes n E items os → FailsFirst k os → k < length xs
item_below n E xs items os k e h f =
    let l = first_below k os f in
    let a = outcomes_long n E items os h in
    let b = length-map xs clause_of in
    let c = ap length e in
    omega (arith, l, a, b, c)

pub forbids : (n : ℕ) (E : Environment) (xs : List Item) (items : List Clause) (os : List Outcome) (k : ℕ) (x : Item) (o : Outcome) → map clause_of xs ≡ items → AreOutcomes n E items os → FailsFirst k os → x ≡ get_or xs k x → o ≡ get_or os k o → IsFailing (clause_of x) o
forbids n E xs items os k x o e h f d b =
    let at = item_at xs items k x e (item_below n E xs items os k e h f) d in
    failing n E (take k items) (clause_of x) o (after_first n E items os k (clause_of x) o h at (first_below k os f) b) (first_fails k os o b f)

pub told : (g : GraphValue) (xs : List Item) (items : List Clause) (os : List Outcome) (k : ℕ) (x : Item) (o : Outcome) (r : Reason) → map clause_of xs ≡ items → AreOutcomes (event_count g) (First g) items os → FailsFirst k os → x ≡ get_or xs k x → o ≡ get_or os k o → Explains k (clause_of x) o r → IsReason items g r
told g xs items os k x o r e h f d b w =
    let n = event_count g in
    let at = item_at xs items k x e (item_below n (First g) xs items os k e h f) d in
    let after = after_first n (First g) items os k (clause_of x) o h at (first_below k os f) b in
    reason_of items g k (clause_of x) o r at (permit_first n (First g) items os k h (first_before k os f)) after (failing n (First g) (take k items) (clause_of x) o after (first_fails k os o b f)) w

pub forbidden : (g : GraphValue) (items : List Clause) (allowed : Bool) → IsTrue allowed ↔ Allowed items g → allowed ≡ false → ¬ Allowed items g
forbidden g items allowed w f a = false≢true (sym f ∙ w.1 a)

pub not_all : (g : GraphValue) (items : List Clause) (os : List Outcome) (allowed : Bool) → AreOutcomes (event_count g) (First g) items os → IsTrue allowed ↔ Allowed items g → allowed ≡ false → ¬ Permit os
not_all g items os allowed h w f p = forbidden g items allowed w f (permit_all (event_count g) (First g) items os h p)
