-- Conditions: what is read is in the grammar, and what is in the grammar is read.
use Rattle.std.proofs.Common.{◌≡◌, ℕ, zero, suc, ◌<◌, List, ◌∷◌, length, sym, subst, arith, inl, inr, refl, ap, ◌∙◌}
use Rattle.std.specs.Prelude.{Some, None, Ok}
use Rattle.descent.specs.Reading.{match_option, ◌>>=◌, repeated}
use Rattle.descent.proofs.Tools.{bind_ok, cases_of, moved, moved_look, Yields, Shows}
use Rattle.descent.proofs.Turns.{repeated-keeps, repeated-more, Arrives, last, next}
use Rattle.conditions.specs.declared.place.Place.{Place}
use Rattle.conditions.specs.declared.condition.Kind.{Kind}
use Rattle.conditions.specs.Conditions.{Formula, truth, falsehood, equals, negation, conjunction, disjunction, implication, Condition}
use Rattle.litmus_syntax.specs.declared.symbol.Symbol.{Symbol}
use Rattle.litmus_syntax.specs.declared.symbol.Symbol.TheVariants.{Fixed, Number}
use Rattle.litmus_syntax.specs.declared.symbol.Terminal.{Terminal}
use Rattle.litmus_syntax.specs.declared.symbol.Terminal.TheVariants.{True, False, Exists, Forall, Not, LeftParen, RightParen, Assign, Tilde, And, Or, Arrow}
use Rattle.litmus_syntax.specs.Grammar.{location_name, location_bracket, IsPlace, place_register, place_location, Denies, denies_tilde, denies_not, IsProposition, proposition_or, proposition_implies, IsOr, or_conjunction, or_or, IsConjunction, conjunction_atomic, conjunction_and, IsAtomic, atomic_denied, atomic_paren, atomic_true, atomic_false, atomic_equals, IsKind, kind_exists, kind_not_exists, kind_forall, IsCondition, condition_of}
use Rattle.litmus_syntax.specs.Reading.{syntax, after, expected, number_at, place_at, equation_at, Propositions, denial, plain_atomic_at, denied_with, enclosed_with, atomic_with, conjunction_more, conjunction_with, or_more, or_with, proposition_with, propositions_below, kind_of_at, condition_at}
use Rattle.litmus_syntax.proofs.Places.{place-sound, place-complete, place_shorter, number-first}
use Rattle.litmus_syntax.proofs.Sounds.{Sound, Deeper, deeper}
use Rattle.litmus_syntax.proofs.SingleSymbols.{after-some, after-first, after_takes, expected-ok, expected-first, number-ok}

-- each takes a symbol

mutual
  proposition_shorter : {n : ℕ} {ts rest : List Symbol} {a : Formula} → IsProposition n ts rest a → length rest < length ts
  proposition_shorter (proposition_or d) = or_shorter d
  proposition_shorter (proposition_implies d e) = omega (arith, or_shorter d, proposition_shorter e)

  or_shorter : {n : ℕ} {ts rest : List Symbol} {a : Formula} → IsOr n ts rest a → length rest < length ts
  or_shorter (or_conjunction d) = conjunction_shorter d
  or_shorter (or_or d e) = omega (arith, or_shorter d, conjunction_shorter e)

  conjunction_shorter : {n : ℕ} {ts rest : List Symbol} {a : Formula} → IsConjunction n ts rest a → length rest < length ts
  conjunction_shorter (conjunction_atomic d) = atomic_shorter d
  conjunction_shorter (conjunction_and d e) = omega (arith, conjunction_shorter d, atomic_shorter e)

  atomic_shorter : {n : ℕ} {ts rest : List Symbol} {a : Formula} → IsAtomic n ts rest a → length rest < length ts
  atomic_shorter (atomic_denied t d) = omega (arith, atomic_shorter d)
  atomic_shorter (atomic_paren d) = omega (arith, proposition_shorter d)
  atomic_shorter atomic_true = omega arith
  atomic_shorter atomic_false = omega arith
  atomic_shorter (atomic_equals d) = omega (arith, place_shorter d)

-- Soundness.

pub denial-some : (ts rest : List Symbol) (u : Unit {0}) → denial ts ≡ Some (u, rest) → (t : Terminal) × (ts ≡ Fixed t ∷ rest) × Denies t
unfolding denial
denial-some ts rest u e =
    elim (cases_of (after Tilde ts) _ _ _ e) [
      | inl g ↦ (Not, after-some Not ts rest u g.1, denies_not)
      | inr (y, was, g) ↦ moved_look (λ l v. (t : Terminal) × (ts ≡ Fixed t ∷ l) × Denies t) g (Tilde, after-some Tilde ts y.1 y.0 was, denies_tilde)
    ]

equation-sound : (n : ℕ) → Sound equation_at (IsAtomic n)
unfolding equation_at
equation-sound n ts rest a e =
    let p = bind_ok (place_at ts) _ _ e in
    let y = bind_ok (expected Assign p.0.1) _ _ p.2 in
    let v = bind_ok (number_at y.0.1) _ _ y.2 in
    let b : p.0.1 ≡ Fixed Assign ∷ y.0.1 = expected-ok Assign p.0.1 y.0.1 y.0.0 y.1 in
    let c : y.0.1 ≡ Number v.0.0 ∷ v.0.1 = number-ok y.0.1 v.0.1 v.0.0 v.1 in
    let same : p.0.1 ≡ Fixed Assign ∷ Number v.0.0 ∷ v.0.1 = cc in
    moved (λ l t. IsAtomic n ts l t) v.2 (atomic_equals (subst (λ l. IsPlace ts l p.0.0) same (place-sound ts p.0.1 p.0.0 p.1)))

plain_atomic-sound : (n : ℕ) → Sound plain_atomic_at (IsAtomic n)
unfolding plain_atomic_at
plain_atomic-sound n ts rest a e =
    elim (cases_of (after True ts) _ _ _ e) [
      | inl g ↦ elim (cases_of (after False ts) _ _ _ g.1) [
        | inl h ↦ equation-sound n ts rest a h.1
        | inr (y, was, h) ↦ moved (λ l t. IsAtomic n ts l t) h (subst (λ l. IsAtomic n l y.1 falsehood) (sym (after-some False ts y.1 y.0 was)) atomic_false)
      ]
      | inr (y, was, g) ↦ moved (λ l t. IsAtomic n ts l t) g (subst (λ l. IsAtomic n l y.1 truth) (sym (after-some True ts y.1 y.0 was)) atomic_true)
    ]

record SoundPropositions (n : ℕ) (r : Propositions) : Type 0 where
  proposition : Sound r.proposition (Deeper IsProposition n)
  atomic : Sound r.atomic (Deeper IsAtomic n)

deeper-denied : {n : ℕ} {t : Terminal} {ts rest : List Symbol} {a : Formula} → Denies t → Deeper IsAtomic n ts rest a → IsAtomic n (Fixed t ∷ ts) rest (negation a)
deeper-denied t (deeper d) = atomic_denied t d

deeper-paren : {n : ℕ} {ts rest : List Symbol} {a : Formula} → Deeper IsProposition n ts (Fixed RightParen ∷ rest) a → IsAtomic n (Fixed LeftParen ∷ ts) rest a
deeper-paren (deeper d) = atomic_paren d

deeper-implies : {n : ℕ} {ts mid rest : List Symbol} {a b : Formula} → IsOr n ts (Fixed Arrow ∷ mid) a → Deeper IsProposition n mid rest b → IsProposition n ts rest (implication a b)
deeper-implies d (deeper e) = proposition_implies d e

module _ (n : ℕ) (r : Propositions) (inner : SoundPropositions n r) where
  atomic-sound : Sound (atomic_with r) (IsAtomic n)
  unfolding atomic_with denied_with enclosed_with
  atomic-sound ts rest a e =
      elim (cases_of (denial ts) _ _ _ e) [
        | inl g ↦ elim (cases_of (after LeftParen ts) _ _ _ g.1) [
          | inl h ↦ plain_atomic-sound n ts rest a h.1
          | inr (y, was, h) ↦
              let x = bind_ok (r.proposition y.1) _ _ h in
              let z = bind_ok (expected RightParen x.0.1) _ _ x.2 in
              subst (λ l. IsAtomic n l rest a) (sym (after-some LeftParen ts y.1 y.0 was))
              (moved (λ l t. IsAtomic n (Fixed LeftParen ∷ y.1) l t) z.2 (deeper-paren
              (subst (λ l. Deeper IsProposition n y.1 l x.0.0) (expected-ok RightParen x.0.1 z.0.1 z.0.0 z.1) (inner.proposition y.1 x.0.1 x.0.0 x.1))))
        ]
        | inr (y, was, g) ↦
            let x = bind_ok (r.atomic y.1) _ _ g in
            let t = denial-some ts y.1 y.0 was in
            subst (λ l. IsAtomic n l rest a) (sym t.1) (moved (λ l b. IsAtomic n (Fixed t.0 ∷ y.1) l b) x.2 (deeper-denied t.2 (inner.atomic y.1 x.0.1 x.0.0 x.1)))
      ]

  conjunction-sound : Sound (conjunction_with r) (IsConjunction n)
  unfolding conjunction_with conjunction_more
  conjunction-sound ts rest a e =
      let x = bind_ok (atomic_with r ts) _ _ e in
      repeated-keeps (syntax 0) (after And) (conjunction_more r) (λ l t. IsConjunction n ts l t)
      (λ o us mid back b c d was f.
      let q = bind_ok (atomic_with r mid) _ _ f in
      moved (λ l t. IsConjunction n ts l t) q.2 (conjunction_and (subst (λ l. IsConjunction n ts l b) (after-some And us mid o was) d) (atomic-sound mid q.0.1 q.0.0 q.1)))
      x.0.0 x.0.1 a rest (conjunction_atomic (atomic-sound ts x.0.1 x.0.0 x.1)) x.2

  or-sound : Sound (or_with r) (IsOr n)
  unfolding or_with or_more
  or-sound ts rest a e =
      let x = bind_ok (conjunction_with r ts) _ _ e in
      repeated-keeps (syntax 0) (after Or) (or_more r) (λ l t. IsOr n ts l t)
      (λ o us mid back b c d was f.
      let q = bind_ok (conjunction_with r mid) _ _ f in
      moved (λ l t. IsOr n ts l t) q.2 (or_or (subst (λ l. IsOr n ts l b) (after-some Or us mid o was) d) (conjunction-sound mid q.0.1 q.0.0 q.1)))
      x.0.0 x.0.1 a rest (or_conjunction (conjunction-sound ts x.0.1 x.0.0 x.1)) x.2

  proposition-sound : Sound (proposition_with r) (IsProposition n)
  unfolding proposition_with
  proposition-sound ts rest a e =
      let x = bind_ok (or_with r ts) _ _ e in
      let d = or-sound ts x.0.1 x.0.0 x.1 in
      elim (cases_of (after Arrow x.0.1) _ _ _ x.2) [
        | inl g ↦ moved (λ l t. IsProposition n ts l t) g.1 (proposition_or d)
        | inr (y, was, g) ↦
            let b = bind_ok (r.proposition y.1) _ _ g in
            moved (λ l t. IsProposition n ts l t) b.2 (deeper-implies (subst (λ l. IsOr n ts l x.0.0) (after-some Arrow x.0.1 y.1 y.0 was) d) (inner.proposition y.1 b.0.1 b.0.0 b.1))
      ]

propositions-sound : (n : ℕ) → SoundPropositions n (propositions_below n)
unfolding propositions_below
propositions-sound zero = record { proposition = λ ts rest a e. absurd (cc); atomic = λ ts rest a e. absurd (cc) }
propositions-sound (suc n) = record {
  proposition = λ ts rest a e. deeper (proposition-sound n (propositions_below n) (propositions-sound n) ts rest a e);
  atomic = λ ts rest a e. deeper (atomic-sound n (propositions_below n) (propositions-sound n) ts rest a e);
}

pub atomic_is : (n : ℕ) → Sound (atomic_with (propositions_below n)) (IsAtomic n)
atomic_is n = atomic-sound n (propositions_below n) (propositions-sound n)

pub conjunction_is : (n : ℕ) → Sound (conjunction_with (propositions_below n)) (IsConjunction n)
conjunction_is n = conjunction-sound n (propositions_below n) (propositions-sound n)

pub or_is : (n : ℕ) → Sound (or_with (propositions_below n)) (IsOr n)
or_is n = or-sound n (propositions_below n) (propositions-sound n)

pub kind-sound : Sound kind_of_at IsKind
unfolding kind_of_at
kind-sound ts rest k e =
    elim (cases_of (after Forall ts) _ _ _ e) [
      | inl g ↦ elim (cases_of (denial ts) _ _ _ g.1) [
        | inl h ↦
            let y = bind_ok (expected Exists ts) _ _ h.1 in
            subst (λ l. IsKind l rest k) (sym (expected-ok Exists ts y.0.1 y.0.0 y.1)) (moved (λ l t. IsKind (Fixed Exists ∷ y.0.1) l t) y.2 kind_exists)
        | inr (x, was, h) ↦
            let y = bind_ok (expected Exists x.1) _ _ h in
            let t = denial-some ts x.1 x.0 was in
            let b : x.1 ≡ Fixed Exists ∷ y.0.1 = expected-ok Exists x.1 y.0.1 y.0.0 y.1 in
            let same : ts ≡ Fixed t.0 ∷ Fixed Exists ∷ y.0.1 = t.1 ∙ ap (λ l. Fixed t.0 ∷ l) b in
            subst (λ l. IsKind l rest k) (sym same) (moved (λ l t'. IsKind (Fixed t.0 ∷ Fixed Exists ∷ y.0.1) l t') y.2 (kind_not_exists t.2))
      ]
      | inr (y, was, g) ↦ subst (λ l. IsKind l rest k) (sym (after-some Forall ts y.1 y.0 was)) (moved (λ l t. IsKind (Fixed Forall ∷ y.1) l t) g kind_forall)
    ]

pub condition-sound : (n : ℕ) → Sound (condition_at n) (IsCondition n)
unfolding condition_at
condition-sound n ts rest c e =
    let k = bind_ok (kind_of_at ts) _ _ e in
    let a = bind_ok (proposition_with (propositions_below n) k.0.1) _ _ k.2 in
    moved (λ l t. IsCondition n ts l t) a.2 (condition_of (kind-sound ts k.0.1 k.0.0 k.1) (proposition-sound n (propositions_below n) (propositions-sound n) k.0.1 a.0.1 a.0.0 a.1))

-- Turns.

pub atomic_takes : (n : ℕ) (ts rest : List Symbol) (a : Formula) → atomic_with (propositions_below n) ts ≡ Ok (a, rest) → length rest < length ts
atomic_takes n ts rest a e = atomic_shorter (atomic_is n ts rest a e)

pub conjunction_takes : (n : ℕ) (ts rest : List Symbol) (a : Formula) → conjunction_with (propositions_below n) ts ≡ Ok (a, rest) → length rest < length ts
conjunction_takes n ts rest a e = conjunction_shorter (conjunction_is n ts rest a e)

pub conjunction_turn_takes : (n : ℕ) (ts mid rest : List Symbol) (o : Unit {0}) (a b : Formula) → after And ts ≡ Some (o, mid) → conjunction_more (propositions_below n) o a mid ≡ Ok (b, rest) → length rest < length ts
unfolding conjunction_more
conjunction_turn_takes n ts mid rest o a b e f =
    let x = bind_ok (atomic_with (propositions_below n) mid) _ _ f in
    moved (λ l t. length l < length ts) x.2 (omega (arith, after_takes And ts mid o e, atomic_takes n mid x.0.1 x.0.0 x.1))

pub or_turn_takes : (n : ℕ) (ts mid rest : List Symbol) (o : Unit {0}) (a b : Formula) → after Or ts ≡ Some (o, mid) → or_more (propositions_below n) o a mid ≡ Ok (b, rest) → length rest < length ts
unfolding or_more
or_turn_takes n ts mid rest o a b e f =
    let x = bind_ok (conjunction_with (propositions_below n) mid) _ _ f in
    moved (λ l t. length l < length ts) x.2 (omega (arith, after_takes Or ts mid o e, conjunction_takes n mid x.0.1 x.0.0 x.1))

pub conjunction_turn : (n : ℕ) (a : Formula) (ts : List Symbol) →
    repeated (syntax 0) (after And) (conjunction_more (propositions_below n)) a ts ≡
    match_option (after And ts) (Ok (a, ts)) (λ x. conjunction_more (propositions_below n) x.0 a x.1 >>= λ y. repeated (syntax 0) (after And) (conjunction_more (propositions_below n)) y.0 y.1)
conjunction_turn n = repeated-more (syntax 0) (after And) (conjunction_more (propositions_below n)) (conjunction_turn_takes n)

pub or_turn : (n : ℕ) (a : Formula) (ts : List Symbol) →
    repeated (syntax 0) (after Or) (or_more (propositions_below n)) a ts ≡
    match_option (after Or ts) (Ok (a, ts)) (λ x. or_more (propositions_below n) x.0 a x.1 >>= λ y. repeated (syntax 0) (after Or) (or_more (propositions_below n)) y.0 y.1)
or_turn n = repeated-more (syntax 0) (after Or) (or_more (propositions_below n)) (or_turn_takes n)

-- Completeness.

-- no connective stands next
pub record EndsFormula (rest : List Symbol) : Type 0 where
  pub no_and : after And rest ≡ None
  pub no_or : after Or rest ≡ None
  pub no_arrow : after Arrow rest ≡ None

paren-ends : (ts : List Symbol) → EndsFormula (Fixed RightParen ∷ ts)
unfolding after
paren-ends ts = record { no_and = refl; no_or = refl; no_arrow = refl }

arrow-no_and : (ts : List Symbol) → after And (Fixed Arrow ∷ ts) ≡ None
unfolding after
arrow-no_and ts = refl

arrow-no_or : (ts : List Symbol) → after Or (Fixed Arrow ∷ ts) ≡ None
unfolding after
arrow-no_or ts = refl

or-no_and : (ts : List Symbol) → after And (Fixed Or ∷ ts) ≡ None
unfolding after
or-no_and ts = refl

equation-complete : {ts rest : List Symbol} {p : Place} {v : ℕ} → IsPlace ts (Fixed Assign ∷ Number v ∷ rest) p → Yields equation_at ts rest (equals p v)
unfolding equation_at
equation-complete {rest = rest} {v = v} d = record { is = rw ((place-complete d).is, expected-first Assign (Number v ∷ rest), number-first v rest) }

-- a place begins with no word or sign of a condition
record IsPlaceFirst (ts : List Symbol) : Type 0 where
  no_denial : denial ts ≡ None
  no_paren : after LeftParen ts ≡ None
  no_true : after True ts ≡ None
  no_false : after False ts ≡ None

place-opens : {ts rest : List Symbol} {p : Place} → IsPlace ts rest p → IsPlaceFirst ts
unfolding after denial
place-opens place_register = record { no_denial = refl; no_paren = refl; no_true = refl; no_false = refl }
place-opens (place_location location_name) = record { no_denial = refl; no_paren = refl; no_true = refl; no_false = refl }
place-opens (place_location location_bracket) = record { no_denial = refl; no_paren = refl; no_true = refl; no_false = refl }

atomic-equals : (n : ℕ) {ts rest : List Symbol} {p : Place} {v : ℕ} → IsPlace ts (Fixed Assign ∷ Number v ∷ rest) p → Yields (atomic_with (propositions_below n)) ts rest (equals p v)
unfolding atomic_with plain_atomic_at
atomic-equals n d = let o = place-opens d in record { is = rw (o.no_denial, o.no_paren, o.no_true, o.no_false, (equation-complete d).is) }

true-not : (ts : List Symbol) → denial (Fixed True ∷ ts) ≡ None
unfolding denial after
true-not ts = refl

false-not : (ts : List Symbol) → denial (Fixed False ∷ ts) ≡ None
unfolding denial after
false-not ts = refl

paren-not : (ts : List Symbol) → denial (Fixed LeftParen ∷ ts) ≡ None
unfolding denial after
paren-not ts = refl

true-no_paren : (ts : List Symbol) → after LeftParen (Fixed True ∷ ts) ≡ None
unfolding after
true-no_paren ts = refl

false-no_paren : (ts : List Symbol) → after LeftParen (Fixed False ∷ ts) ≡ None
unfolding after
false-no_paren ts = refl

false-no_true : (ts : List Symbol) → after True (Fixed False ∷ ts) ≡ None
unfolding after
false-no_true ts = refl

atomic-true : (n : ℕ) (rest : List Symbol) → Yields (atomic_with (propositions_below n)) (Fixed True ∷ rest) rest truth
unfolding atomic_with plain_atomic_at
atomic-true n rest = record { is = rw (true-not rest, true-no_paren rest, after-first True rest) }

atomic-false : (n : ℕ) (rest : List Symbol) → Yields (atomic_with (propositions_below n)) (Fixed False ∷ rest) rest falsehood
unfolding atomic_with plain_atomic_at
atomic-false n rest = record { is = rw (false-not rest, false-no_paren rest, false-no_true rest, after-first False rest) }

denial-first : {t : Terminal} → Denies t → (ts : List Symbol) → denial (Fixed t ∷ ts) ≡ Some (tt, ts)
unfolding denial after
denial-first denies_tilde ts = refl
denial-first denies_not ts = refl

atomic-denied : (n : ℕ) {t : Terminal} {ts rest : List Symbol} {a : Formula} → Denies t → Yields (atomic_with (propositions_below n)) ts rest a → Yields (atomic_with (propositions_below (suc n))) (Fixed t ∷ ts) rest (negation a)
unfolding atomic_with denied_with propositions_below
atomic-denied n {ts = ts} t y = record { is = rw (denial-first t ts, y.is) }

atomic-paren : (n : ℕ) {ts rest : List Symbol} {a : Formula} → Yields (proposition_with (propositions_below n)) ts (Fixed RightParen ∷ rest) a → Yields (atomic_with (propositions_below (suc n))) (Fixed LeftParen ∷ ts) rest a
unfolding atomic_with enclosed_with propositions_below
atomic-paren n {ts} {rest} y = record { is = rw (paren-not ts, after-first LeftParen ts, y.is, expected-first RightParen rest) }

abbrev ConjunctionTo : ℕ → List Symbol → List Symbol → Formula → Type 0
ConjunctionTo n ts rest a = Arrives (syntax 0) (after And) (conjunction_more (propositions_below n)) (conjunction_with (propositions_below n)) ts rest a

abbrev OrTo : ℕ → List Symbol → List Symbol → Formula → Type 0
OrTo n ts rest a = Arrives (syntax 0) (after Or) (or_more (propositions_below n)) (or_with (propositions_below n)) ts rest a

conjunction-first : (n : ℕ) {ts rest : List Symbol} {a : Formula} → Yields (atomic_with (propositions_below n)) ts rest a → ConjunctionTo n ts rest a
unfolding conjunction_with
conjunction-first n y = record { is = rw y.is }

conjunction-step : (n : ℕ) (a : Formula) {ts rest : List Symbol} {b : Formula} → Yields (atomic_with (propositions_below n)) ts rest b → Yields (conjunction_more (propositions_below n) tt a) ts rest (conjunction a b)
unfolding conjunction_more
conjunction-step n a y = record { is = rw y.is }

and-first : (ts : List Symbol) → Shows (after And) (Fixed And ∷ ts) ts tt
and-first ts = record { is = after-first And ts }

conjunction-next : (n : ℕ) {ts mid rest : List Symbol} {a b : Formula} → ConjunctionTo n ts (Fixed And ∷ mid) a → Yields (conjunction_more (propositions_below n) tt a) mid rest b → ConjunctionTo n ts rest b
conjunction-next n {mid = mid} s y = next (syntax 0) (after And) (conjunction_more (propositions_below n)) (conjunction_turn_takes n) s (and-first mid) y

or-start : (n : ℕ) {ts rest : List Symbol} {a : Formula} → Yields (conjunction_with (propositions_below n)) ts rest a → OrTo n ts rest a
unfolding or_with
or-start n y = record { is = rw y.is }

or-step : (n : ℕ) (a : Formula) {ts rest : List Symbol} {b : Formula} → Yields (conjunction_with (propositions_below n)) ts rest b → Yields (or_more (propositions_below n) tt a) ts rest (disjunction a b)
unfolding or_more
or-step n a y = record { is = rw y.is }

or-first : (ts : List Symbol) → Shows (after Or) (Fixed Or ∷ ts) ts tt
or-first ts = record { is = after-first Or ts }

or-next : (n : ℕ) {ts mid rest : List Symbol} {a b : Formula} → OrTo n ts (Fixed Or ∷ mid) a → Yields (or_more (propositions_below n) tt a) mid rest b → OrTo n ts rest b
or-next n {mid = mid} s y = next (syntax 0) (after Or) (or_more (propositions_below n)) (or_turn_takes n) s (or-first mid) y

proposition-or : (n : ℕ) {ts rest : List Symbol} {a : Formula} → Yields (or_with (propositions_below n)) ts rest a → after Arrow rest ≡ None → Yields (proposition_with (propositions_below n)) ts rest a
unfolding proposition_with
proposition-or n y e = record { is = rw (y.is, e) }

proposition-implies : (n : ℕ) {ts mid rest : List Symbol} {a b : Formula} → Yields (or_with (propositions_below (suc n))) ts (Fixed Arrow ∷ mid) a → Yields (proposition_with (propositions_below n)) mid rest b →
    Yields (proposition_with (propositions_below (suc n))) ts rest (implication a b)
unfolding proposition_with propositions_below
proposition-implies n {mid = mid} y z = record { is = rw (y.is, after-first Arrow mid, z.is) }

conjunction-end : (n : ℕ) {ts rest : List Symbol} {a : Formula} → ConjunctionTo n ts rest a → after And rest ≡ None → Yields (conjunction_with (propositions_below n)) ts rest a
conjunction-end n s e = last s e

or-end : (n : ℕ) {ts rest : List Symbol} {a : Formula} → OrTo n ts rest a → after Or rest ≡ None → Yields (or_with (propositions_below n)) ts rest a
or-end n s e = last s e

mutual
  proposition-complete : {n : ℕ} {ts rest : List Symbol} {a : Formula} → IsProposition n ts rest a → EndsFormula rest → Yields (proposition_with (propositions_below n)) ts rest a
  proposition-complete (proposition_or {n} d) ends = proposition-or n (or-end n (or-arrives d ends.no_and) ends.no_or) ends.no_arrow
  proposition-complete (proposition_implies {n} {mid = mid} d e) ends = proposition-implies n (or-end (suc n) (or-arrives d (arrow-no_and mid)) (arrow-no_or mid)) (proposition-complete e ends)

  or-arrives : {n : ℕ} {ts rest : List Symbol} {a : Formula} → IsOr n ts rest a → after And rest ≡ None → OrTo n ts rest a
  or-arrives (or_conjunction {n} d) e = or-start n (conjunction-end n (conjunction-arrives d) e)
  or-arrives (or_or {n} {mid = mid} {a = a} d f) e = or-next n (or-arrives d (or-no_and mid)) (or-step n a (conjunction-end n (conjunction-arrives f) e))

  conjunction-arrives : {n : ℕ} {ts rest : List Symbol} {a : Formula} → IsConjunction n ts rest a → ConjunctionTo n ts rest a
  conjunction-arrives (conjunction_atomic {n} d) = conjunction-first n (atomic-complete d)
  conjunction-arrives (conjunction_and {n} {a = a} d e) = conjunction-next n (conjunction-arrives d) (conjunction-step n a (atomic-complete e))

  atomic-complete : {n : ℕ} {ts rest : List Symbol} {a : Formula} → IsAtomic n ts rest a → Yields (atomic_with (propositions_below n)) ts rest a
  atomic-complete (atomic_denied {n} t d) = atomic-denied n t (atomic-complete d)
  atomic-complete (atomic_paren {n} {rest = rest} d) = atomic-paren n (proposition-complete d (paren-ends rest))
  atomic-complete (atomic_true {n} {rest}) = atomic-true n rest
  atomic-complete (atomic_false {n} {rest}) = atomic-false n rest
  atomic-complete (atomic_equals {n} d) = atomic-equals n d

exists-no_forall : (ts : List Symbol) → after Forall (Fixed Exists ∷ ts) ≡ None
unfolding after
exists-no_forall ts = refl

exists-not : (ts : List Symbol) → denial (Fixed Exists ∷ ts) ≡ None
unfolding denial after
exists-not ts = refl

denies-no_forall : {t : Terminal} → Denies t → (ts : List Symbol) → after Forall (Fixed t ∷ ts) ≡ None
unfolding after
denies-no_forall denies_tilde ts = refl
denies-no_forall denies_not ts = refl

kind-complete : {ts rest : List Symbol} {k : Kind} → IsKind ts rest k → Yields kind_of_at ts rest k
unfolding kind_of_at
kind-complete (kind_exists {rest}) = record { is = rw (exists-no_forall rest, exists-not rest, expected-first Exists rest) }
kind-complete (kind_not_exists {rest = rest} t) = record { is = rw (denies-no_forall t (Fixed Exists ∷ rest), denial-first t (Fixed Exists ∷ rest), expected-first Exists rest) }
kind-complete (kind_forall {rest}) = record { is = rw (after-first Forall rest) }

pub condition-complete : {n : ℕ} {ts rest : List Symbol} {c : Condition} → IsCondition n ts rest c → EndsFormula rest → Yields (condition_at n) ts rest c
unfolding condition_at
condition-complete (condition_of k d) ends = record { is = rw ((kind-complete k).is, (proposition-complete d ends).is) }
