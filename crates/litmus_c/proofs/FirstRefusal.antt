-- A written test is refused for one reason.
use Rattle.std.proofs.Common.{◌≡◌, ◌≤◌, ◌<◌, ℕ, suc, List, length, refl, sym, ◌∙◌, ap, subst}
use Rattle.std.specs.Prelude.{◌≢◌, Bool, true, false, if◌then◌else◌, All, Any}
use Rattle.std.specs.List.{list_all, list_any}
use Rattle.std.proofs.lemmas.List.Folds.{list_any-from_Any, list_any_none}
use Rattle.std.proofs.Math.Dec.{leb}
use Rattle.std.proofs.lemmas.Bool.{le-ltb, le-leb}
use Rattle.wb_text.specs.Tokens.{IsTokenList}
use Rattle.wb_text.specs.declared.token.Dialect.TheVariants as dialects
use Rattle.wb_text.specs.declared.token.Token.{Token}
use Rattle.conditions.specs.declared.place.Binding.{Binding}
use Rattle.litmus_c.specs.declared.fault.TestFault.{TestFault}
use Rattle.litmus_c.specs.declared.fault.TestFault.TheVariants.{Text, Syntax, BadOrder, UnknownName, PlainOnAtomic, AtomicOnPlain, Unsupported, TooDeep, TooManyThreads, TooManyLocations, TooManyEvents, TooManyValues, ValueTooBig, NoMemory}
use Rattle.litmus_c.specs.declared.rules.Rule.TheVariants.{PlainAccess, AtomicAccess}
use Rattle.litmus_c.specs.Reads.{BreaksRule}
use Rattle.litmus_c.specs.Rules.{litmus_of, names_are_there, program_keeps, Explains}
use Rattle.litmus_syntax.specs.declared.symbol.Symbol.{Symbol}
use Rattle.litmus_syntax.specs.Drafts.{Written}
use Rattle.litmus_syntax.specs.Grammar.{Spells}
use Rattle.litmus_syntax.specs.Symbols.{symbols_of}
use Rattle.litmus_syntax.proofs.Complete.{one_reading}
use Rattle.litmus_value.specs.Values.{values_of}
use Rattle.litmus_tree.specs.Tree.{Litmus}

-- above 2,147,483,647
abbrev is_big : ℕ → Bool
is_big v = leb 2147483648 v

-- the first of them, as they are tried
abbrev first_of : List Binding → Litmus → TestFault
first_of es t =
    if leb 9 (length t.threads) then TooManyThreads else
    if leb 9 (length t.locations) then TooManyLocations else
    if names_are_there es t then
    (if list_all (program_keeps PlainAccess) t.threads then
    (if list_all (program_keeps AtomicAccess) t.threads then
    (if leb 17 (length (values_of t)) then TooManyValues else
    (if list_any is_big (values_of t) then ValueTooBig else TooManyEvents))
    else AtomicOnPlain)
    else PlainOnAtomic)
    else UnknownName

more : (k n : ℕ) → k < n → leb (suc k) n ≡ true
more k n h = le-leb (suc k) n h

no_more : (k n : ℕ) → n ≤ k → leb (suc k) n ≡ false
no_more k n h = le-ltb k n h

some_big : (vs : List ℕ) → Any (λ v. 2147483647 < v) vs → list_any is_big vs ≡ true
some_big vs h = list_any-from_Any is_big vs (h.0, h.1, h.2, h.3, more 2147483647 h.1 h.4)

none_big : (vs : List ℕ) → All (λ v. v ≤ 2147483647) vs → list_any is_big vs ≡ false
none_big vs h = list_any_none is_big vs (λ i d l. no_more 2147483647 _ (h i d l))

is_first : (es : List Binding) (t : Litmus) (e : TestFault) → e ≢ NoMemory → Explains es t e → e ≡ first_of es t
is_first es t NoMemory some h = absurd (some refl)
is_first es t TooManyThreads some h = rw (more 8 (length t.threads) h) refl
is_first es t TooManyLocations some h = rw (no_more 8 (length t.threads) h.0, more 8 (length t.locations) h.1) refl
is_first es t UnknownName some h = rw (no_more 8 (length t.threads) h.0.threads, no_more 8 (length t.locations) h.0.locations, h.1) refl
is_first es t PlainOnAtomic some h = rw (no_more 8 (length t.threads) h.0.threads, no_more 8 (length t.locations) h.0.locations, h.1, h.2) refl
is_first es t AtomicOnPlain some h = rw (no_more 8 (length t.threads) h.0.threads, no_more 8 (length t.locations) h.0.locations, h.1, h.2, h.3) refl
is_first es t TooManyValues some h =
    rw (no_more 8 (length t.threads) h.0.small.threads, no_more 8 (length t.locations) h.0.small.locations, h.0.names, h.0.plain, h.0.atomic, more 16 (length (values_of t)) h.1) refl
is_first es t ValueTooBig some h =
    rw (no_more 8 (length t.threads) h.0.small.threads, no_more 8 (length t.locations) h.0.small.locations, h.0.names, h.0.plain, h.0.atomic, no_more 16 (length (values_of t)) h.1, some_big (values_of t) h.2) refl
is_first es t TooManyEvents some h =
    rw (no_more 8 (length t.threads) h.0.small.threads, no_more 8 (length t.locations) h.0.small.locations, h.0.names, h.0.plain, h.0.atomic, no_more 16 (length (values_of t)) h.1, none_big (values_of t) h.2) refl
is_first es t (Text f) some h = absurd h
is_first es t (Syntax n) some h = absurd h
is_first es t BadOrder some h = absurd h
is_first es t (Unsupported w) some h = absurd h
is_first es t TooDeep some h = absurd h

-- no text has two tests, so no written test has two first refusals
pub one_refusal : (text : List ℕ) → ((ts us : List Token) → IsTokenList dialects.Litmus text ts → IsTokenList dialects.Litmus text us → ts ≡ us) →
    (e f : TestFault) → e ≢ NoMemory → f ≢ NoMemory → BreaksRule text e → BreaksRule text f → e ≡ f
one_refusal text unique e f some other h g =
    let d = h.1 in
    let symbols : List Token → List Symbol = λ l. symbols_of text l in
    let P : List Symbol → Type 0 = λ l. Spells l h.0 in
    let Q : Written → Type 0 = λ w. Explains w.entries (litmus_of w) e in
    let tokens : d.tokens ≡ g.1.tokens = unique d.tokens g.1.tokens d.is_list g.1.is_list in
    let parts : h.0 ≡ g.0 = one_reading (symbols g.1.tokens) h.0 g.0 (subst P (ap symbols tokens) d.spelled) g.1.spelled in
    is_first g.0.entries (litmus_of g.0) e some (subst Q parts h.2) ∙ sym (is_first g.0.entries (litmus_of g.0) f other g.2)
