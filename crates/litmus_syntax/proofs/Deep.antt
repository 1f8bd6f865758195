-- Where reading a test gives `deep`, something nests too deep.
use Rattle.std.proofs.Common.{◌≡◌, ℕ, suc, List, ◌∷◌, refl, sym, subst, inl, inr}
use Rattle.std.specs.Prelude.{Ok, Err, codes}
use Rattle.std.specs.Str.{bytes_eq}
use Rattle.descent.proofs.Causes.{never_made, either, later, first}
use Rattle.descent.proofs.Tools.{bind_ok, moved, chosen}
use Rattle.conditions.specs.declared.place.Binding.{Binding}
use Rattle.conditions.specs.declared.place.Place.{Place}
use Rattle.litmus_syntax.specs.declared.symbol.Symbol.{Symbol}
use Rattle.litmus_syntax.specs.declared.symbol.Symbol.TheVariants.{Fixed, Word as head_word}
use Rattle.litmus_syntax.specs.declared.symbol.Terminal.TheVariants.{LeftBrace, RightBrace}
use Rattle.litmus_syntax.specs.Depth.{DeepTest, deep_threads, deep_condition}
use Rattle.litmus_syntax.specs.Drafts.{Listing}
use Rattle.litmus_syntax.specs.Grammar.{IsEntries}
use Rattle.litmus_syntax.specs.Reading.{deep, expected, entries_at, threads_at, listed_at, condition_at, word_at, language_at, initial_at, test_at}
use Rattle.litmus_tree.specs.Tree.{Word}
use Rattle.litmus_syntax.proofs.DeepPropositions.{condition_deep}
use Rattle.litmus_syntax.proofs.DeepStatements.{threads_deep}
use Rattle.litmus_syntax.proofs.AlikeParts.{both_end, both_initial, both_language, both_listed, both_word}
use Rattle.litmus_syntax.proofs.DeepTools.{fine}
use Rattle.litmus_syntax.proofs.Places.{listed-sound}
use Rattle.litmus_syntax.proofs.Sound.{entries-sound, threads-sound}
use Rattle.litmus_syntax.proofs.SingleSymbols.{bytes_eq-true, expected-ok, word-ok}

-- The initial state.

initial-ok : (ts rest : List Symbol) (bs : List Binding) → initial_at ts ≡ Ok (bs, rest) → (us : List Symbol) × (ts ≡ Fixed LeftBrace ∷ us) × IsEntries us (Fixed RightBrace ∷ rest) bs
unfolding initial_at
initial-ok ts rest bs e =
    let y = bind_ok (expected LeftBrace ts) _ _ e in
    let b = bind_ok (entries_at y.0.1) _ _ y.2 in
    let z = bind_ok (expected RightBrace b.0.1) _ _ b.2 in (
      y.0.1,
      expected-ok LeftBrace ts y.0.1 y.0.0 y.1,
      moved (λ l t. IsEntries y.0.1 (Fixed RightBrace ∷ l) t) z.2 (subst (λ l. IsEntries y.0.1 l b.0.0) (expected-ok RightBrace b.0.1 z.0.1 z.0.0 z.1) (entries-sound y.0.1 b.0.1 b.0.0 b.1)),
    )

-- Tests.

language-ok : (ts rest : List Symbol) (u : Unit {0}) → language_at ts ≡ Ok (u, rest) → ts ≡ head_word (codes "C") ∷ rest
unfolding language_at
language-ok ts rest u e =
    let c = bind_ok (word_at ts) _ _ e in
    elim (chosen (bytes_eq c.0.0 (codes "C")) _ _ _ c.2) [
      | inl g ↦
          let is : c.0.0 ≡ codes "C" = bytes_eq-true c.0.0 (codes "C") g.0 in
          let a1 : ts ≡ head_word c.0.0 ∷ c.0.1 = word-ok ts c.0.1 c.0.0 c.1 in
          let a2 : c.0.1 ≡ rest = moved (λ l t. c.0.1 ≡ l) g.1 refl in
          cc
      | inr g ↦ let h = g.1 in absurd (cc)
    ]

-- the head of a test and its initial state, and what is too deep behind them
record Begins (ts us : List Symbol) (bs : List Binding) : Type 0 where
  name : Word
  inner : List Symbol
  front : ts ≡ head_word (codes "C") ∷ head_word name ∷ Fixed LeftBrace ∷ inner
  entries : IsEntries inner (Fixed RightBrace ∷ us) bs

begins : (ts rest more us : List Symbol) (l : Unit {0}) (x : Word) (bs : List Binding) → language_at ts ≡ Ok (l, rest) → word_at rest ≡ Ok (x, more) → initial_at more ≡ Ok (bs, us) → Begins ts us bs
begins ts rest more us l x bs d e f =
    let i = initial-ok more us bs f in
    let a1 : ts ≡ head_word (codes "C") ∷ rest = language-ok ts rest l d in
    let a2 : rest ≡ head_word x ∷ more = word-ok rest more x e in
    let a3 : more ≡ Fixed LeftBrace ∷ i.0 = i.1 in
    record { name = x; inner = i.0; front = (cc); entries = i.2 }

in_threads : (n : ℕ) (ts us : List Symbol) (bs : List Binding) → Begins ts us bs → threads_at n us ≡ Err deep → DeepTest (suc n) ts
in_threads n ts us bs b e = subst (λ l. DeepTest (suc n) l) (sym b.front) (deep_threads b.entries (threads_deep n us e))

in_condition : (n : ℕ) (ts us vs ws : List Symbol) (bs : List Binding) (ls : List Listing) (ps : List Place) → Begins ts us bs → threads_at n us ≡ Ok (ls, vs) → listed_at vs ≡ Ok (ps, ws) →
    condition_at n ws ≡ Err deep → DeepTest (suc n) ts
in_condition n ts us vs ws bs ls ps b d f e =
    let k = condition_deep n ws e in
    subst (λ l. DeepTest (suc n) l) (sym b.front) (deep_condition b.entries (threads-sound n us vs ls d) (listed-sound vs ws ps f) k.2 k.3)

-- what can nest deeper than n at most nests n + 1 deep
pub test_deep : (n : ℕ) (ts : List Symbol) → test_at n ts ≡ Err deep → DeepTest (suc n) ts
unfolding test_at
test_deep n ts e =
    later (fine (both_language ts ts)) e (λ l was_l e1. later (fine (both_word l.1 l.1)) e1 (λ x was_x e2. later (fine (both_initial x.1 x.1)) e2 (λ bs was_bs e3.
    let b = begins ts l.1 x.1 bs.1 l.0 x.0 bs.0 was_l was_x was_bs in
    either (threads_at n bs.1) e3 (in_threads n ts bs.1 bs.0 b)
    (λ ls was_ls e4. later (fine (both_listed ls.1 ls.1)) e4 (λ ps was_ps e5.
    first (condition_at n ps.1) e5 (in_condition n ts bs.1 ls.1 ps.1 bs.0 ls.0 ps.0 b was_ls was_ps)
    (λ c. never_made _ (fine (both_end c.1 c.1))))))))
