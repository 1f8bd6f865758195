-- The place of a fault of a cat text.
use Rattle.std.proofs.Common.{◌≡◌, ◌≢◌, ℕ, ◌-◌, List, ap, sym, subst, ◌∙◌, arith, inl, inr}
use Rattle.std.specs.Prelude.{Option, Some, None, MatchOption, slice_get}
use Rattle.std.proofs.lemmas.Bool.{cases_lt}
use Rattle.wb_text.specs.declared.token.Token.{Token}
use Rattle.wb_text.specs.declared.token.Dialect.TheVariants.{Cat}
use Rattle.wb_text.specs.Tokens.{IsTokenList}
use Rattle.wb_text.proofs.Lists.{list_once}
use Rattle.cat_syntax.specs.declared.fault.CatFault.{CatFault}
use Rattle.places.specs.Spellings.{spelling}
use Rattle.cat_places.specs.Fronts.{NoneRefused, IsFirstRefused, NoneSpelled, IsToldAt, IsAtFront}

pub some_match : {A : Type 0} (o : Option A) (x : A) (P : Type 0) (Q : A → Type 0) → o ≡ Some x → MatchOption o P Q → Q x
some_match o x P Q e h = subst (λ y. MatchOption y P Q) e h

pub none_match : {A : Type 0} (o : Option A) (P : Type 0) (Q : A → Type 0) → o ≡ None → MatchOption o P Q → P
none_match o P Q e h = subst (λ y. MatchOption y P Q) e h

some_once : {A : Type 0} (x y : A) → Some x ≡ Some y → x ≡ y
some_once x y e = cc

-- one token less that is spelled so
pub none_less : (text : List ℕ) (tokens : List Token) (w : List ℕ) (end k : ℕ) (t : Token) → slice_get tokens (end - 1) ≡ Some t → spelling text t ≢ w → NoneSpelled text tokens w end k → NoneSpelled text tokens w (end - 1) k
none_less text tokens w end k t at differs none i u low high here = elim (cases_lt i end) [ inl h ↦ λ e. differs (ap (spelling text) (some_once t u (sym at ∙ ap (slice_get tokens) (omega (arith, low, h)) ∙ here)) ∙ e) | inr h ↦ none i u h high here ]

-- the first place up to which a text is refused is one
first_once : (text : List ℕ) (tokens : List Token) (f : CatFault) (k m : ℕ) → IsFirstRefused text tokens f k → IsFirstRefused text tokens f m → k ≡ m
first_once text tokens f k m h g = elim (cases_lt k m) [ inl low ↦ absurd (g.first k h.token low h.at h.refused) | inr le ↦ elim (cases_lt m k) [ inl low ↦ absurd (h.first m g.token low g.at g.refused) | inr ge ↦ omega (arith, le, ge) ] ]

pub no_front : (text : List ℕ) (tokens : List Token) (f : CatFault) → IsTokenList Cat text tokens → NoneRefused text tokens f → (offset : ℕ) → ¬ IsAtFront text f offset
no_front text tokens f is none offset h =
    let first = subst (λ (ts : List Token). IsFirstRefused text ts f h.place) (list_once is h.is_list) h.first in
    none h.place first.token first.at first.refused

pub no_told : (text : List ℕ) (tokens : List Token) (f : CatFault) (k : ℕ) → IsTokenList Cat text tokens → IsFirstRefused text tokens f k → ((n : ℕ) → ¬ IsToldAt text tokens f k n) → (offset : ℕ) → ¬ IsAtFront text f offset
no_told text tokens f k is first none offset h =
    let same = list_once is h.is_list in
    let place : h.place ≡ k = first_once text tokens f h.place k (subst (λ (ts : List Token). IsFirstRefused text ts f h.place) same h.first) first in
    none offset (subst (λ n. IsToldAt text tokens f n offset) place (subst (λ (ts : List Token). IsToldAt text ts f h.place offset) same h.told))

pub told_front : (text : List ℕ) (tokens us vs : List Token) (f : CatFault) (k : ℕ) (o : Option ℕ) → IsTokenList Cat text tokens → us ≡ tokens → vs ≡ tokens → IsFirstRefused text us f k →
    MatchOption o ((n : ℕ) → ¬ IsToldAt text vs f k n) (IsToldAt text vs f k) → MatchOption o ((n : ℕ) → ¬ IsAtFront text f n) (IsAtFront text f)
told_front text tokens us vs f k None is u v first none =
    no_told text tokens f k is (subst (λ (ts : List Token). IsFirstRefused text ts f k) u first) (λ n h. none n (subst (λ (ts : List Token). IsToldAt text ts f k n) (sym v) h))
told_front text tokens us vs f k (Some o) is u v first told =
    record { tokens = tokens; is_list = is; place = k; first = subst (λ (ts : List Token). IsFirstRefused text ts f k) u first; told = subst (λ (ts : List Token). IsToldAt text ts f k o) v told }

pub no_list : (text : List ℕ) (f : CatFault) → ((ts : List Token) → ¬ IsTokenList Cat text ts) → (offset : ℕ) → ¬ IsAtFront text f offset
no_list text f none offset h = none h.tokens h.is_list
