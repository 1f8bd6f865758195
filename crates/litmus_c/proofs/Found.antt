-- From the symbols of a text to the test that it spells.
use Rattle.std.proofs.Common.{◌≡◌, ℕ, List, length, sym, ◌∙◌, ap, subst, refl, arith}
use Rattle.std.specs.Prelude.{Result, Ok, Err, IfOk, OnOk, IfErr, MatchResult}
use Rattle.std.proofs.lemmas.Bool.{false≢true}
use Rattle.wb_text.specs.Faults.{HasCause}
use Rattle.wb_text.specs.Tokens.{IsTokenList}
use Rattle.wb_text.specs.declared.fault.TextFault.{TextFault}
use Rattle.wb_text.specs.declared.fault.TextFault.TheVariants as text_faults
use Rattle.wb_text.specs.declared.token.Dialect.TheVariants as dialects
use Rattle.wb_text.specs.declared.token.Token.{Token}
use Rattle.conditions.specs.declared.place.Binding.{Binding}
use Rattle.litmus_c.specs.declared.fault.TestFault.{TestFault}
use Rattle.litmus_c.specs.declared.fault.TestFault.TheVariants.{Text, Syntax, BadOrder, UnknownName, PlainOnAtomic, AtomicOnPlain, Unsupported, TooDeep, TooManyThreads, TooManyLocations, TooManyEvents, TooManyValues, ValueTooBig, NoMemory}
use Rattle.litmus_syntax.specs.declared.symbol.Symbol.{Symbol}
use Rattle.litmus_syntax.specs.Drafts.{Written}
use Rattle.litmus_syntax.specs.Grammar.{Spells}
use Rattle.litmus_syntax.specs.Unspelled.{SpellsNone}
use Rattle.litmus_c.specs.Reads.{IsWrittenIn, HasNoTest, IsNoTest, IsRefused, SpellNoTest, IsUnwritten, Reads, text_refusal}
use Rattle.litmus_c.specs.Rules.{litmus_of, KeepsRules, Explains}
use Rattle.litmus_syntax.specs.Symbols.{symbols_of}
use Rattle.litmus_tree.specs.Tree.{Litmus}
use Rattle.litmus_syntax.proofs.Complete.{one_reading}

-- what is spelled is written in the text
pub written_in : (text : List ℕ) (ts : List Token) (symbols : List Symbol) (w : Written) → IsTokenList dialects.Litmus text ts → symbols ≡ symbols_of text ts →
    Spells symbols w → IsWrittenIn text w
written_in text ts symbols w list is s = record {
  tokens = ts;
  is_list = list;
  spelled = (let P : List Symbol → Type 0 = λ l. Spells l w in subst P is s);
}

-- what is written in the text is spelled, where these are its tokens
pub spelled_of : (text : List ℕ) (ts : List Token) (symbols : List Symbol) (w : Written) → symbols ≡ symbols_of text ts → (d : IsWrittenIn text w) → ts ≡ d.tokens → Spells symbols w
spelled_of text ts symbols w is d e =
    let P : List Symbol → Type 0 = λ l. Spells l w in
    let f : List Token → List Symbol = λ l. symbols_of text l in
    subst P (sym (is ∙ ap f e)) d.spelled

-- a refusal of a test that keeps the rules is for want of memory
pub no_cause : (es : List Binding) (t : Litmus) (e : TestFault) → KeepsRules es t → Explains es t e → e ≡ NoMemory
no_cause es t NoMemory k h = refl
no_cause es t TooManyThreads k h = absurd (omega (arith, k.threads))
no_cause es t TooManyLocations k h = absurd (omega (arith, k.locations, h.1))
no_cause es t UnknownName k h = absurd (false≢true (sym h.1 ∙ k.names))
no_cause es t TooManyValues k h = absurd (omega (arith, k.values, h.1))
no_cause es t ValueTooBig k h = let b = h.2 in absurd (omega (arith, k.small b.0 b.1 b.2, b.3, b.4))
no_cause es t TooManyEvents k h = absurd (omega (arith, k.events, h.3))
no_cause es t (Text f) k h = absurd h
no_cause es t (Syntax n) k h = absurd h
no_cause es t BadOrder k h = absurd h
no_cause es t (Unsupported w) k h = absurd h
no_cause es t PlainOnAtomic k h = absurd (false≢true (sym h.2 ∙ k.plain))
no_cause es t AtomicOnPlain k h = absurd (false≢true (sym h.3 ∙ k.atomic))
no_cause es t TooDeep k h = absurd h

-- no text has two tests
pub one_of : (text : List ℕ) → ((ts us : List Token) → IsTokenList dialects.Litmus text ts → IsTokenList dialects.Litmus text us → ts ≡ us) →
    (s t : Litmus) → Reads text s → Reads text t → s ≡ t
one_of text unique s t d e =
    let f : List Token → List Symbol = λ l. symbols_of text l in
    let P : List Symbol → Type 0 = λ l. Spells l d.parts in
    let tokens : d.is_written.tokens ≡ e.is_written.tokens = unique d.is_written.tokens e.is_written.tokens d.is_written.is_list e.is_written.is_list in
    let parts : d.parts ≡ e.parts = one_reading (f e.is_written.tokens) d.parts e.parts (subst P (ap f tokens) d.is_written.spelled) e.is_written.spelled in
    d.made ∙ ap litmus_of parts ∙ sym e.made

-- the whole reader
pub test_found : (text : List ℕ) (w : Written) (r : Result Litmus TestFault) → IsWrittenIn text w → IfOk r (λ t. t ≡ litmus_of w) → OnOk r (KeepsRules w.entries (litmus_of w)) → IfOk r (λ t. Reads text t)
test_found text w (Ok t) d made kept = record { parts = w; is_written = d; rules = (let P : Litmus → Type 0 = λ u. KeepsRules w.entries u in subst P (sym made) kept); made = made }
test_found text w (Err e) d made kept = tt

pub test_only : (text : List ℕ) (w : Written) (r : Result Litmus TestFault) (t : Litmus) (d : Reads text t) → w ≡ d.parts →
    IfOk r (λ u. u ≡ litmus_of w) → IfErr r (λ e. Explains w.entries (litmus_of w) e) → MatchResult r (λ u. u ≡ t) (λ e. e ≡ NoMemory)
test_only text w (Ok u) t d same made cause = made ∙ ap litmus_of same ∙ sym d.made
test_only text w (Err e) t d same made cause =
    let P : Litmus → Type 0 = λ u. KeepsRules d.parts.entries u in
    let Q : Written → Type 0 = λ v. KeepsRules v.entries (litmus_of v) in
    no_cause w.entries (litmus_of w) e (subst Q (sym same) (subst P d.made d.rules)) cause

-- Causes.

pub text_cause : (text : List ℕ) (f : TextFault) → HasCause dialects.Litmus text f → IsUnwritten text (text_refusal f)
text_cause text text_faults.NoMemory h = tt
text_cause text text_faults.NotAscii h = (λ e. cc, h)
text_cause text text_faults.BadByte h = (λ e. cc, h)
text_cause text text_faults.OpenComment h = (λ e. cc, h)
text_cause text text_faults.OpenString h = (λ e. cc, h)
text_cause text text_faults.NumberTooBig h = (λ e. cc, h)
text_cause text text_faults.TooLong h = (λ e. cc, h)

module _ (text : List ℕ) (ts : List Token) (symbols : List Symbol) (list : IsTokenList dialects.Litmus text ts) (is : symbols ≡ symbols_of text ts)
    (unique : (us : List Token) → IsTokenList dialects.Litmus text us → ts ≡ us) where
  no_test : SpellsNone symbols → HasNoTest text
  no_test none w d = none w (spelled_of text ts symbols w is d (unique d.tokens d.is_list))

  not_written : (e : TestFault) → SpellsNone symbols → SpellNoTest symbols ts (length text) e → IsNoTest text e
  not_written e none g = record { none = no_test none; tokens = ts; is_list = list; cause = (let P : List Symbol → Type 0 = λ l. SpellNoTest l ts (length text) e in subst P is g) }

  pub draft_cause : (e : TestFault) → SpellNoTest symbols ts (length text) e → IsUnwritten text e
  draft_cause NoMemory g = tt
  draft_cause (Syntax n) g = not_written (Syntax n) g.stops.unspelled.0 g
  draft_cause BadOrder g = not_written BadOrder g.0 g
  draft_cause (Unsupported x) g = not_written (Unsupported x) g.stops.unspelled.0 g
  draft_cause TooDeep g = not_written TooDeep g.0 g
  draft_cause (Text f) g = absurd g
  draft_cause UnknownName g = absurd g
  draft_cause PlainOnAtomic g = absurd g
  draft_cause AtomicOnPlain g = absurd g
  draft_cause TooManyThreads g = absurd g
  draft_cause TooManyLocations g = absurd g
  draft_cause TooManyEvents g = absurd g
  draft_cause TooManyValues g = absurd g
  draft_cause ValueTooBig g = absurd g

pub unwritten_cause : (text : List ℕ) (e : TestFault) → IsUnwritten text e → IsRefused text e
unwritten_cause text NoMemory h = h
unwritten_cause text (Text f) h = h
unwritten_cause text (Syntax n) h = h
unwritten_cause text BadOrder h = h
unwritten_cause text (Unsupported x) h = h
unwritten_cause text PlainOnAtomic h = absurd h
unwritten_cause text AtomicOnPlain h = absurd h
unwritten_cause text TooDeep h = h
unwritten_cause text UnknownName h = absurd h
unwritten_cause text TooManyThreads h = absurd h
unwritten_cause text TooManyLocations h = absurd h
unwritten_cause text TooManyEvents h = absurd h
unwritten_cause text TooManyValues h = absurd h
unwritten_cause text ValueTooBig h = absurd h

rule_of : (text : List ℕ) (w : Written) (e : TestFault) → IsWrittenIn text w → Explains w.entries (litmus_of w) e → IsRefused text e
rule_of text w NoMemory d h = tt
rule_of text w (Text f) d h = absurd h
rule_of text w (Syntax n) d h = absurd h
rule_of text w BadOrder d h = absurd h
rule_of text w (Unsupported x) d h = absurd h
rule_of text w PlainOnAtomic d h = (w, d, h)
rule_of text w AtomicOnPlain d h = (w, d, h)
rule_of text w TooDeep d h = absurd h
rule_of text w UnknownName d h = (w, d, h)
rule_of text w TooManyThreads d h = (w, d, h)
rule_of text w TooManyLocations d h = (w, d, h)
rule_of text w TooManyEvents d h = (w, d, h)
rule_of text w TooManyValues d h = (w, d, h)
rule_of text w ValueTooBig d h = (w, d, h)

pub rule_cause : (text : List ℕ) (w : Written) (r : Result Litmus TestFault) → IsWrittenIn text w → IfErr r (λ e. Explains w.entries (litmus_of w) e) → IfErr r (λ e. IsRefused text e)
rule_cause text w (Ok t) d h = tt
rule_cause text w (Err e) d h = rule_of text w e d h
