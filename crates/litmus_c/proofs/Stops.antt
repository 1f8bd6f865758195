-- Where reading stops, told of the text.
use Rattle.std.proofs.Common.{◌≡◌, ℕ, zero, suc, ◌<◌, ◌≤◌, ◌-◌, List, [], ◌∷◌, length, arith, refl, sym, ◌∙◌, ap, get_or}
use Rattle.std.specs.Prelude.{Option, Some, None, Result, Ok, Err, IfOk}
use Rattle.wb_text.specs.declared.token.Token.{Token}
use Rattle.litmus_c.specs.Reads.{left_out, left_out_at, offset_of, StopsAtOffset, StopsAtWord}
use Rattle.litmus_syntax.specs.declared.symbol.Symbol.{Symbol}
use Rattle.litmus_syntax.specs.declared.syntax_fault.SyntaxFault.TheVariants.{Syntax}
use Rattle.litmus_syntax.specs.Unspelled.{IsUnspelled}
use Rattle.litmus_tree.specs.Tree.{Word}

-- The token at a place.

pub offset_inside : (ts : List Token) (k end : ℕ) (t : Token) → k < length ts → t ≡ get_or ts k t → t.from ≡ offset_of ts end k
offset_inside [] k end t h e = absurd (omega (arith, h))
offset_inside (u ∷ ts) zero end t h e = ap (λ (v : Token). v.from) e
offset_inside (u ∷ ts) (suc k) end t h e = offset_inside ts k end t (omega (arith, h)) e

pub offset_behind : (ts : List Token) (k end : ℕ) → length ts ≤ k → end ≡ offset_of ts end k
offset_behind [] k end h = refl
offset_behind (u ∷ ts) zero end h = absurd (omega (arith, h))
offset_behind (u ∷ ts) (suc k) end h = offset_behind ts k end (omega (arith, h))

-- The symbol at a place.

left_out_inside : (ts : List Symbol) (k : ℕ) (s : Symbol) → k < length ts → s ≡ get_or ts k s → left_out s ≡ left_out_at ts k
left_out_inside [] k s h e = absurd (omega (arith, h))
left_out_inside (u ∷ ts) zero s h e = ap left_out e
left_out_inside (u ∷ ts) (suc k) s h e = left_out_inside ts k s (omega (arith, h)) e

pub found_inside : {E : Type 0} (ts : List Symbol) (k : ℕ) (s : Symbol) (r : Result (Option Word) E) → k < length ts → s ≡ get_or ts k s → IfOk r (λ o. o ≡ left_out s) → IfOk r (λ o. o ≡ left_out_at ts k)
found_inside ts k s (Ok o) h e is = is ∙ left_out_inside ts k s h e
found_inside ts k s (Err e) h i is = tt

pub found_behind : (ts : List Symbol) (k : ℕ) → length ts ≤ k → None ≡ left_out_at ts k
found_behind [] k h = refl
found_behind (u ∷ ts) zero h = absurd (omega (arith, h))
found_behind (u ∷ ts) (suc k) h = found_behind ts k (omega (arith, h))

-- Where it stops.

pub stops_at_word : (ts : List Symbol) (left : ℕ) (w : Word) → IsUnspelled ts (Syntax left) → Some w ≡ left_out_at ts (length ts - left) → StopsAtWord ts w
stops_at_word ts left w h e = record { place = length ts - left; stops = record { left = left; unspelled = h; place = refl }; word = sym e }

pub stops_at_offset : (ts : List Symbol) (tokens : List Token) (end left n : ℕ) → IsUnspelled ts (Syntax left) → None ≡ left_out_at ts (length ts - left) → n ≡ offset_of tokens end (length ts - left) → StopsAtOffset ts tokens end n
stops_at_offset ts tokens end left n h e o = record { place = length ts - left; stops = record { left = left; unspelled = h; place = refl }; known = sym e; offset = o }
