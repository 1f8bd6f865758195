-- What the tests on spellings mean.
use Rattle.std.proofs.Common.{◌≡◌, ℕ, ◌<◌, ◌≤◌, List, [], ◌∷◌, ◌++◌, ap, subst, length, inl, inr, refl, sym, ◌∙◌, arith, tests, rules}
use Rattle.std.specs.Prelude.{Bool, true, false, not, ◌&&◌, nat_lt, nat_le, All, Option, Some, None, SomeIff, MatchOption}
use Rattle.std.specs.Bool.{Decides}
use Rattle.std.specs.List.{list_all, list_any}
use Rattle.std.specs.Str.{bytes_eq}
use Rattle.std.proofs.lemmas.Cmp.{nat_list_eq_equiv}
use Rattle.std.proofs.lemmas.Bool.{and_parts, cases_Bool}
use Rattle.std.proofs.lemmas.Bool.Decides.{Decides-by_and}
use Rattle.wb_text.specs.Bytes.{is_digit}
use Rattle.wb_text.specs.Names.{IsName, IsPrintable}
use Rattle.wb_text.specs.Numbers.{IsDecimal, decimal_value}
use Rattle.wb_text.specs.Tokens.{IsWithin}
use Rattle.wb_text.specs.declared.token.Token.{Token}
use Rattle.std.proofs.lemmas.List.{append_assoc}
use Rattle.litmus_syntax.specs.declared.symbol.Symbol.{Symbol}
use Rattle.std.proofs.lemmas.List.Elements.{All-head, All-rest}
use Rattle.litmus_syntax.specs.Symbols.{is_name, has_leading_zero, is_number, symbol_by, spelling, is_opened, symbols_of}
use Rattle.litmus_tree.specs.Tree.{Word}

and_true : (a b : Bool) → a ≡ true → b ≡ true → (a && b) ≡ true
and_true a b e f = rw (e, f)

le_true : (a b : ℕ) → nat_le a b ≡ true → a ≤ b
le_true a b e = search (rules, tests)

true_le : (a b : ℕ) → a ≤ b → nat_le a b ≡ true
true_le a b h = search (rules, tests)

pub lt_true : (a b : ℕ) → nat_lt a b ≡ true → a < b
lt_true a b e = search (rules, tests)

true_lt : (a b : ℕ) → a < b → nat_lt a b ≡ true
true_lt a b h = search (rules, tests)

printable : (b : ℕ) → Decides (nat_le 33 b && nat_le b 126) (IsPrintable b)
printable b = (
  λ e. let p = and_parts (nat_le 33 b) (nat_le b 126) e in (le_true 33 b p.0, le_true b 126 p.1),
  λ h. and_true (nat_le 33 b) (nat_le b 126) (true_le 33 b h.0) (true_le b 126 h.1),
)

all_printable : (w : Word) → Decides (list_all (λ b. nat_le 33 b && nat_le b 126) w) (All IsPrintable w)
all_printable = Decides-by_and (λ b. nat_le 33 b && nat_le b 126) IsPrintable (list_all (λ b. nat_le 33 b && nat_le b 126)) printable refl (λ _ _. refl)

pub is_name_true : (w : Word) → IsName w → is_name w ≡ true
is_name_true w h = and_true (nat_lt 0 (length w) && nat_le (length w) 64) (list_all (λ b. nat_le 33 b && nat_le b 126) w)
    (and_true (nat_lt 0 (length w)) (nat_le (length w) 64) (true_lt 0 (length w) (omega (arith, h.nonempty))) (true_le (length w) 64 h.at_most))
    ((all_printable w).1 h.printable)

is_name_of : (w : Word) → is_name w ≡ true → IsName w
is_name_of w e =
    let p = and_parts (nat_lt 0 (length w) && nat_le (length w) 64) (list_all (λ b. nat_le 33 b && nat_le b 126) w) e in
    let q = and_parts (nat_lt 0 (length w)) (nat_le (length w) 64) p.0 in
    let h : 0 < length w = lt_true 0 (length w) q.0 in
    record { nonempty = omega arith; at_most = le_true (length w) 64 q.1; printable = (all_printable w).0 p.1 }

pub is_name_false : (w : Word) → ¬ IsName w → is_name w ≡ false
is_name_false w h = elim (cases_Bool (is_name w)) [ inl e ↦ absurd (h (is_name_of w e)) | inr e ↦ e ]

all_digits : (w : Word) → Decides (list_all is_digit w) (All (λ b. is_digit b ≡ true) w)
all_digits = Decides-by_and is_digit (λ b. is_digit b ≡ true) (list_all is_digit) (λ b. (λ e. e, λ e. e)) refl (λ _ _. refl)

-- what `decimal` answers, where no zero leads
pub number_of : (w : Word) (r : Option ℕ) → has_leading_zero w ≡ false → SomeIff r (IsDecimal w × (decimal_value w ≤ 2147483647)) (decimal_value w) →
    MatchOption r (is_number w ≡ false) (λ n. (is_number w ≡ true) × (n ≡ decimal_value w))
number_of w None z h =
    elim (cases_Bool (is_number w)) [
      | inl e ↦
          let p = and_parts (not (has_leading_zero w) && nat_lt 0 (length w) && list_all is_digit w) (nat_le (decimal_value w) 2147483647) e in
          let q = and_parts (not (has_leading_zero w) && nat_lt 0 (length w)) (list_all is_digit w) p.0 in
          let s = and_parts (not (has_leading_zero w)) (nat_lt 0 (length w)) q.0 in
          absurd (h ((lt_true 0 (length w) s.1, (all_digits w).0 q.1), le_true (decimal_value w) 2147483647 p.1))
      | inr e ↦ e
    ]
number_of w (Some n) z h =
    let c : not (has_leading_zero w) ≡ true = rw z refl in (
      and_true (not (has_leading_zero w) && nat_lt 0 (length w) && list_all is_digit w) (nat_le (decimal_value w) 2147483647)
          (and_true (not (has_leading_zero w) && nat_lt 0 (length w)) (list_all is_digit w)
          (and_true (not (has_leading_zero w)) (nat_lt 0 (length w)) c (true_lt 0 (length w) h.0.0.0))
          ((all_digits w).1 h.0.0.1))
          (true_le (decimal_value w) 2147483647 h.0.1),
      h.1,
    )

-- tokens within a text, one after another

pub first_within : (n : ℕ) (t : Token) (ts us : List Token) → us ≡ t ∷ ts → All (IsWithin n) us → IsWithin n t
first_within n t ts us e h = All-head (IsWithin n) t ts (subst (λ (l : List Token). All (IsWithin n) l) e h)

pub rest_within : (n : ℕ) (t : Token) (ts us : List Token) → us ≡ t ∷ ts → All (IsWithin n) us → All (IsWithin n) ts
rest_within n t ts us e h = All-rest (IsWithin n) t ts us e h

-- the symbol of one more token
pub symbols_step : (text : List ℕ) (xs : List Symbol) (s : Symbol) (t : Token) (ts us : List Token) (all : List Symbol) → us ≡ t ∷ ts → s ≡ symbol_by t.kind (is_opened text ts) (spelling text t) →
    xs ++ symbols_of text us ≡ all → (xs ++ s ∷ []) ++ symbols_of text ts ≡ all
symbols_step text xs s t ts us all split is so_far =
    append_assoc xs (s ∷ []) (symbols_of text ts) ∙ ap (λ u. xs ++ u ∷ symbols_of text ts) is ∙ ap (λ l. xs ++ symbols_of text l) (sym split) ∙ so_far

-- which of two words stands first makes no difference
pub any_same : (ws : List Word) (w : Word) → list_any (λ v. bytes_eq v w) ws ≡ list_any (bytes_eq w) ws
any_same [] w = refl
any_same (v ∷ ws) w = rw (nat_list_eq_equiv.symm v w, any_same ws w) refl
