-- Conditions: where reading gives `deep`, something nests too deep.
use Rattle.std.proofs.Common.{◌≡◌, ℕ, zero, suc, List, ◌∷◌, sym, subst}
use Rattle.std.specs.Prelude.{Some, Err}
use Rattle.descent.proofs.Causes.{never_ok, never_made, either, later, first}
use Rattle.descent.proofs.Tools.{bind_ok, moved}
use Rattle.conditions.specs.declared.condition.Kind.{Kind}
use Rattle.litmus_syntax.specs.declared.symbol.Symbol.{Symbol}
use Rattle.litmus_syntax.specs.declared.symbol.Symbol.TheVariants.{Fixed}
use Rattle.litmus_syntax.specs.declared.symbol.Terminal.TheVariants.{LeftParen, RightParen, And, Or, Arrow}
use Rattle.litmus_syntax.specs.Depth.{DeepProposition, deep_or, deep_implied, DeepOr, deep_conjunction, deep_disjoined, DeepConjunction, deep_atomic, deep_conjoined, DeepAtomic, deep_formula, deep_denied, deep_enclosed}
use Rattle.litmus_syntax.specs.Grammar.{IsOr, or_conjunction, or_or, IsConjunction, conjunction_atomic, conjunction_and, IsAtomic, IsKind}
use Rattle.litmus_syntax.specs.Reading.{deep, after, Propositions, denial, denied_with, enclosed_with, atomic_with, conjunction_more, conjunction_with, or_more, or_with, proposition_with, propositions_below, condition_at}
use Rattle.litmus_syntax.proofs.AlikeParts.{both_kind_of, both_plain_atomic}
use Rattle.litmus_syntax.proofs.DeepTools.{fine, fine_expected, chosen_deep, repeated_deep}
use Rattle.litmus_syntax.proofs.Propositions.{denial-some, atomic_is, conjunction_is, or_is, kind-sound}
use Rattle.litmus_syntax.proofs.Sounds.{Sound}
use Rattle.litmus_syntax.proofs.SingleSymbols.{after-some}

-- Propositions.

record DeepPropositions (n : ℕ) (r : Propositions) : Type 0 where
  proposition : (ts : List Symbol) → r.proposition ts ≡ Err deep → DeepProposition n ts
  atomic : (ts : List Symbol) → r.atomic ts ≡ Err deep → DeepAtomic n ts

-- where nothing at all may nest
any_proposition : (ts : List Symbol) → DeepProposition zero ts
any_proposition ts = deep_or (deep_conjunction (deep_atomic deep_formula))

module _ (n : ℕ) (r : Propositions) (inner : DeepPropositions n r) where
  denied_deep : (ts us : List Symbol) (u : Unit {0}) → denial ts ≡ Some (u, us) → denied_with r us ≡ Err deep → DeepAtomic (suc n) ts
  unfolding denied_with
  denied_deep ts us u was e =
      let t = denial-some ts us u was in
      subst (λ l. DeepAtomic (suc n) l) (sym t.1) (deep_denied t.2 (first (r.atomic us) e (inner.atomic us) (λ a. never_ok)))

  enclosed_deep : (ts : List Symbol) → enclosed_with r ts ≡ Err deep → DeepAtomic (suc n) (Fixed LeftParen ∷ ts)
  unfolding enclosed_with
  enclosed_deep ts e = deep_enclosed (first (r.proposition ts) e (inner.proposition ts) (λ a. never_made _ (fine_expected RightParen a.1)))

  atomic_deep : (ts : List Symbol) → atomic_with r ts ≡ Err deep → DeepAtomic (suc n) ts
  unfolding atomic_with
  atomic_deep ts e =
      chosen_deep (denial ts) e
      (λ f. chosen_deep (after LeftParen ts) f (λ g. absurd ((fine (both_plain_atomic ts ts)).never g))
      (λ y was g. subst (λ l. DeepAtomic (suc n) l) (sym (after-some LeftParen ts y.1 y.0 was)) (enclosed_deep y.1 g)))
      (λ y was f. denied_deep ts y.1 y.0 was f)

  module _ (sound_atomic : Sound (atomic_with r) (IsAtomic n)) (sound_conjunction : Sound (conjunction_with r) (IsConjunction n)) (sound_or : Sound (or_with r) (IsOr n)) where
    conjunction_deep : (ts : List Symbol) → conjunction_with r ts ≡ Err deep → DeepConjunction (suc n) ts
    unfolding conjunction_with conjunction_more
    conjunction_deep ts e =
        either (atomic_with r ts) e (λ d. deep_atomic (atomic_deep ts d))
        (λ x is f. repeated_deep (after And) (conjunction_more r) (λ l t. IsConjunction n ts l t)
        (λ o us mid back b c d was g.
        let q = bind_ok (atomic_with r mid) _ _ g in
        moved (λ l t. IsConjunction n ts l t) q.2 (conjunction_and (subst (λ l. IsConjunction n ts l b) (after-some And us mid o was) d) (sound_atomic mid q.0.1 q.0.0 q.1)))
        (λ o us mid b d was g. deep_conjoined (subst (λ l. IsConjunction n ts l b) (after-some And us mid o was) d) (first (atomic_with r mid) g (atomic_deep mid) (λ y. never_ok)))
        x.0 x.1 (conjunction_atomic (sound_atomic ts x.1 x.0 is)) f)

    or_deep : (ts : List Symbol) → or_with r ts ≡ Err deep → DeepOr (suc n) ts
    unfolding or_with or_more
    or_deep ts e =
        either (conjunction_with r ts) e (λ d. deep_conjunction (conjunction_deep ts d))
        (λ x is f. repeated_deep (after Or) (or_more r) (λ l t. IsOr n ts l t)
        (λ o us mid back b c d was g.
        let q = bind_ok (conjunction_with r mid) _ _ g in
        moved (λ l t. IsOr n ts l t) q.2 (or_or (subst (λ l. IsOr n ts l b) (after-some Or us mid o was) d) (sound_conjunction mid q.0.1 q.0.0 q.1)))
        (λ o us mid b d was g. deep_disjoined (subst (λ l. IsOr n ts l b) (after-some Or us mid o was) d) (first (conjunction_with r mid) g (conjunction_deep mid) (λ y. never_ok)))
        x.0 x.1 (or_conjunction (sound_conjunction ts x.1 x.0 is)) f)

    proposition_deep : (ts : List Symbol) → proposition_with r ts ≡ Err deep → DeepProposition (suc n) ts
    unfolding proposition_with
    proposition_deep ts e =
        either (or_with r ts) e (λ d. deep_or (or_deep ts d))
        (λ x is f. chosen_deep (after Arrow x.1) f (λ g. absurd (cc))
        (λ y was g. deep_implied (subst (λ l. IsOr n ts l x.0) (after-some Arrow x.1 y.1 y.0 was) (sound_or ts x.1 x.0 is)) (first (r.proposition y.1) g (inner.proposition y.1) (λ b. never_ok))))

propositions_deep : (n : ℕ) → DeepPropositions n (propositions_below n)
unfolding propositions_below
propositions_deep zero = record { proposition = λ ts e. any_proposition ts; atomic = λ ts e. deep_formula }
propositions_deep (suc n) = record {
  proposition = λ ts e. proposition_deep n (propositions_below n) (propositions_deep n) (atomic_is n) (conjunction_is n) (or_is n) ts e;
  atomic = λ ts e. atomic_deep n (propositions_below n) (propositions_deep n) ts e;
}

-- Conditions.

pub condition_deep : (n : ℕ) (ts : List Symbol) → condition_at n ts ≡ Err deep → (us : List Symbol) × (k : Kind) × IsKind ts us k × DeepProposition (suc n) us
unfolding condition_at
condition_deep n ts e =
    later (fine (both_kind_of ts ts)) e (λ k is f. (
      k.1,
      k.0,
      kind-sound ts k.1 k.0 is,
      first (proposition_with (propositions_below n) k.1) f
          (proposition_deep n (propositions_below n) (propositions_deep n) (atomic_is n) (conjunction_is n) (or_is n) k.1)
          (λ a. never_ok),
    ))
