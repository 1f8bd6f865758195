-- A text is refused for one reason.
use Rattle.std.proofs.Common.{◌≡◌, ℕ, List, length, refl, sym, ◌∙◌, ap, subst, ◌-◌}
use Rattle.std.specs.Prelude.{◌≢◌, Option, Some, None, Ok, Err}
use Rattle.wb_text.specs.Faults.{HasCause}
use Rattle.wb_text.specs.Tokens.{IsTokenList}
use Rattle.wb_text.specs.declared.fault.TextFault.{TextFault}
use Rattle.wb_text.specs.declared.fault.TextFault.TheVariants as text_faults
use Rattle.wb_text.specs.declared.token.Dialect.TheVariants as dialects
use Rattle.wb_text.specs.declared.token.Token.{Token}
use Rattle.litmus_c.specs.declared.fault.TestFault.{TestFault}
use Rattle.litmus_c.specs.declared.fault.TestFault.TheVariants.{Text, Syntax, BadOrder, UnknownName, PlainOnAtomic, AtomicOnPlain, Unsupported, TooDeep, TooManyThreads, TooManyLocations, TooManyEvents, TooManyValues, ValueTooBig, NoMemory}
use Rattle.litmus_c.specs.Reads.{left_out_at, offset_of, StopsAt, SpellNoTest, IsNoTest, BreaksRule, IsRefused}
use Rattle.litmus_syntax.specs.declared.symbol.Symbol.{Symbol}
use Rattle.litmus_syntax.specs.Drafts.{Written}
use Rattle.litmus_syntax.specs.Reading.{Reading, syntax, deep, misordered, test_at}
use Rattle.litmus_syntax.specs.Symbols.{symbols_of}
use Rattle.litmus_tree.specs.Tree.{Word}
use Rattle.litmus_c.proofs.FirstRefusal.{one_refusal as one_rule}

-- where reading stops, by what stands there
abbrev stopped : Option Word → ℕ → TestFault
stopped None n = Syntax n
stopped (Some w) n = Unsupported w

-- the refusal of what reading gives
abbrev refusal_of : List Symbol → List Token → (end : ℕ) → Reading Written → TestFault
refusal_of ts tokens end (Ok x) = NoMemory
refusal_of ts tokens end (Err deep) = TooDeep
refusal_of ts tokens end (Err misordered) = BadOrder
refusal_of ts tokens end (Err (syntax n)) = stopped (left_out_at ts (length ts - n)) (offset_of tokens end (length ts - n))

stopped_at : (ts : List Symbol) (tokens : List Token) (end k : ℕ) → (s : StopsAt ts k) → refusal_of ts tokens end (test_at 32 ts) ≡ stopped (left_out_at ts k) (offset_of tokens end k)
stopped_at ts tokens end k s = rw (s.unspelled.1.stops, s.place) refl

is_told : (ts : List Symbol) (tokens : List Token) (end : ℕ) (e : TestFault) → e ≢ NoMemory → SpellNoTest ts tokens end e → e ≡ refusal_of ts tokens end (test_at 32 ts)
is_told ts tokens end NoMemory some h = absurd (some refl)
is_told ts tokens end (Syntax n) some h = ap Syntax h.offset ∙ sym (stopped_at ts tokens end h.place h.stops ∙ ap (λ o. stopped o (offset_of tokens end h.place)) h.known)
is_told ts tokens end (Unsupported w) some h = sym (stopped_at ts tokens end h.place h.stops ∙ ap (λ o. stopped o (offset_of tokens end h.place)) h.word)
is_told ts tokens end BadOrder some h = rw h.2 refl
is_told ts tokens end TooDeep some h = rw h.2 refl
is_told ts tokens end (Text f) some h = absurd h
is_told ts tokens end UnknownName some h = absurd h
is_told ts tokens end PlainOnAtomic some h = absurd h
is_told ts tokens end AtomicOnPlain some h = absurd h
is_told ts tokens end TooManyThreads some h = absurd h
is_told ts tokens end TooManyLocations some h = absurd h
is_told ts tokens end TooManyEvents some h = absurd h
is_told ts tokens end TooManyValues some h = absurd h
is_told ts tokens end ValueTooBig some h = absurd h

-- the stage at which a text is refused
data Stage (text : List ℕ) : TestFault → Type 0 where
  of_text : {f : TextFault} → f ≢ text_faults.NoMemory → HasCause dialects.Litmus text f → Stage text (Text f)
  of_grammar : {e : TestFault} → IsNoTest text e → Stage text e
  of_rules : {e : TestFault} → BreaksRule text e → Stage text e

stage : (text : List ℕ) (e : TestFault) → e ≢ NoMemory → IsRefused text e → Stage text e
stage text NoMemory some h = absurd (some refl)
stage text (Text f) some h = of_text h.0 h.1
stage text (Syntax n) some h = of_grammar h
stage text BadOrder some h = of_grammar h
stage text (Unsupported w) some h = of_grammar h
stage text TooDeep some h = of_grammar h
stage text UnknownName some h = of_rules h
stage text PlainOnAtomic some h = of_rules h
stage text AtomicOnPlain some h = of_rules h
stage text TooManyThreads some h = of_rules h
stage text TooManyLocations some h = of_rules h
stage text TooManyEvents some h = of_rules h
stage text TooManyValues some h = of_rules h
stage text ValueTooBig some h = of_rules h

module _ (text : List ℕ) (unique : (ts us : List Token) → IsTokenList dialects.Litmus text ts → IsTokenList dialects.Litmus text us → ts ≡ us)
    (one : (f g : TextFault) → f ≢ text_faults.NoMemory → g ≢ text_faults.NoMemory → HasCause dialects.Litmus text f → HasCause dialects.Litmus text g → f ≡ g)
    (none : (f : TextFault) (ts : List Token) → f ≢ text_faults.NoMemory → HasCause dialects.Litmus text f → ¬ IsTokenList dialects.Litmus text ts) where
  grammar_alone : (e f : TestFault) → e ≢ NoMemory → f ≢ NoMemory → IsNoTest text e → IsNoTest text f → e ≡ f
  grammar_alone e f some other h g =
      let P : List Token → Type 0 = λ l. SpellNoTest (symbols_of text l) l (length text) e in
      let same : h.tokens ≡ g.tokens = unique h.tokens g.tokens h.is_list g.is_list in
      is_told (symbols_of text g.tokens) g.tokens (length text) e some (subst P same h.cause) ∙ sym (is_told (symbols_of text g.tokens) g.tokens (length text) f other g.cause)

  staged : {e f : TestFault} → e ≢ NoMemory → f ≢ NoMemory → Stage text e → Stage text f → e ≡ f
  staged some other (of_text {f} a h) (of_text {f = g} b i) = ap Text (one f g a b h i)
  staged some other (of_text {f} a h) (of_grammar i) = absurd (none f i.tokens a h i.is_list)
  staged some other (of_text {f} a h) (of_rules i) = absurd (none f i.1.tokens a h i.1.is_list)
  staged some other (of_grammar i) (of_text {f} a h) = absurd (none f i.tokens a h i.is_list)
  staged {e} {f} some other (of_grammar h) (of_grammar i) = grammar_alone e f some other h i
  staged some other (of_grammar h) (of_rules i) = absurd (h.none i.0 i.1)
  staged some other (of_rules i) (of_text {f} a h) = absurd (none f i.1.tokens a h i.1.is_list)
  staged some other (of_rules i) (of_grammar h) = absurd (h.none i.0 i.1)
  staged {e} {f} some other (of_rules h) (of_rules i) = one_rule text unique e f some other h i

  pub one_reason : (e f : TestFault) → e ≢ NoMemory → f ≢ NoMemory → IsRefused text e → IsRefused text f → e ≡ f
  one_reason e f some other h g = staged some other (stage text e some h) (stage text f other g)
