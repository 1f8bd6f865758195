-- A fault that stands at a token.
use Rattle.std.proofs.Common.{◌≡◌, ◌≢◌, ℕ, ◌+◌, List, Result, Ok, Err, refl, sym, subst, arith}
use Rattle.std.specs.Prelude.{Option, Some, None, IfOk, MatchOption}
use Rattle.wb_text.specs.declared.fault.TextFault.{TextFault}
use Rattle.wb_text.specs.declared.token.Dialect.TheVariants.{Litmus}
use Rattle.wb_text.specs.declared.token.Token.{Token}
use Rattle.wb_text.specs.Tokens.{IsTokenList}
use Rattle.wb_text.proofs.Lists.{list_once}
use Rattle.litmus_syntax.specs.Symbols.{symbols_of}
use Rattle.litmus_syntax.specs.declared.symbol.Symbol.{Symbol}
use Rattle.test_places.specs.Limits.{AreFew, IsFirstOver}
use Rattle.litmus_c.specs.declared.fault.TestFault.{TestFault}
use Rattle.litmus_c.specs.declared.fault.TestFault.TheVariants.{Text, Syntax, BadOrder, UnknownName, PlainOnAtomic, AtomicOnPlain, Unsupported, TooDeep, TooManyThreads, TooManyLocations, TooManyEvents, TooManyValues, ValueTooBig, NoMemory}
use Rattle.test_places.specs.Places.{IsSymbol, HasNoSymbol, IsAtToken, IsAtNoToken, IsPlace, HasNoPlace}

at_token : (text : List ℕ) (f : TestFault) (o : ℕ) → IsAtToken text f o → IsPlace text f o
at_token text (Text f) o h = absurd h.is_symbol
at_token text (Syntax n) o h = absurd h.is_symbol
at_token text NoMemory o h = absurd h.is_symbol
at_token text BadOrder o h = h
at_token text UnknownName o h = h
at_token text PlainOnAtomic o h = h
at_token text AtomicOnPlain o h = h
at_token text (Unsupported w) o h = h
at_token text TooDeep o h = h
at_token text TooManyThreads o h = h
at_token text TooManyLocations o h = h
at_token text TooManyEvents o h = h
at_token text TooManyValues o h = h
at_token text ValueTooBig o h = h

no_token : (text : List ℕ) (f : TestFault) → ((g : TextFault) → f ≢ Text g) → ((n : ℕ) → f ≢ Syntax n) → IsAtNoToken text f → HasNoPlace text f
no_token text (Text g) a b h = absurd (a g refl)
no_token text (Syntax n) a b h = absurd (b n refl)
no_token text NoMemory a b h = λ o g. g
no_token text BadOrder a b h = h
no_token text UnknownName a b h = h
no_token text PlainOnAtomic a b h = h
no_token text AtomicOnPlain a b h = h
no_token text (Unsupported w) a b h = h
no_token text TooDeep a b h = h
no_token text TooManyThreads a b h = h
no_token text TooManyLocations a b h = h
no_token text TooManyEvents a b h = h
no_token text TooManyValues a b h = h
no_token text ValueTooBig a b h = h

pub told_at_token : {E : Type 0} (text : List ℕ) (f : TestFault) (r : Result (Option ℕ) E) → ((g : TextFault) → f ≢ Text g) → ((n : ℕ) → f ≢ Syntax n) →
    IfOk r (λ o. MatchOption o (IsAtNoToken text f) (IsAtToken text f)) → IfOk r (λ o. MatchOption o (HasNoPlace text f) (IsPlace text f))
told_at_token text f (Ok (Some o)) a b h = at_token text f o h
told_at_token text f (Ok None) a b h = no_token text f a b h
told_at_token text f (Err e) a b h = tt

-- of a text that has no tokens, or no such symbol

pub no_list : (text : List ℕ) (f : TestFault) → ((ts : List Token) → ¬ IsTokenList Litmus text ts) → IsAtNoToken text f
no_list text f none o h = none h.tokens h.is_list

pub no_symbol : (text : List ℕ) (ts : List Token) (ss : List Symbol) (f : TestFault) → IsTokenList Litmus text ts → ss ≡ symbols_of text ts → HasNoSymbol ss f → IsAtNoToken text f
no_symbol text ts ss f is e none o h =
    none h.symbol (subst (λ l. IsSymbol l f h.symbol) (sym e) (subst (λ us. IsSymbol (symbols_of text us) f h.symbol) (list_once is h.is_list) h.is_symbol))

-- a symbol that isn't there

pub none_over : {X : Type 0} (size : List X → ℕ) (most : ℕ) (xs : List X) (k : ℕ) → AreFew size most xs → ¬ IsFirstOver size most xs k
none_over size most xs k few h = omega (arith, h.many, few (k + 1) (omega (arith, h.within)))
