-- Where reading stops, whatever stands behind.
use Rattle.std.proofs.Common.{◌≡◌, ℕ, zero, suc, ◌+◌, ◌<◌, ◌≤◌, List, [], ◌∷◌, length, take, drop, refl, ap, sym, ◌∙◌, subst, arith, ◌⊎◌, inl, inr}
use Rattle.std.specs.Prelude.{Err}
use Rattle.cat_syntax.specs.declared.syntax_fault.SyntaxFault.{SyntaxFault}
use Rattle.cat_syntax.specs.declared.symbol.Symbol.{Symbol}
use Rattle.cat_syntax.specs.Reading.{Stop, Reading, file_at}
use Rattle.cat_syntax.specs.Items.{IsFile}
use Rattle.cat_syntax.specs.Stops.{StopsAt}
use Rattle.cat_tree.specs.Tree.{File}
use Rattle.cat_syntax.proofs.Alike.{Same, same_end, same_more}
use Rattle.cat_syntax.proofs.AlikeReadings.{alike-file}
use Rattle.cat_syntax.proofs.ItemsComplete.{file-complete}

head-is : (t u : Symbol) (ts us : List Symbol) → t ∷ ts ≡ u ∷ us → (t ≡ u) × (ts ≡ us)
head-is t u ts us e = (cc, cc)

same-of : (m : ℕ) (ss us : List Symbol) → m ≤ length ss → take m us ≡ take m ss → Same (drop m ss) (drop m us) ss us
same-of zero ss us h e = same_end
same-of (suc m) [] us h e = absurd (omega (arith, h))
same-of (suc m) (s ∷ ss) [] h e = absurd (cc)
same-of (suc m) (s ∷ ss) (u ∷ us) h e =
    let k = head-is u s (take m us) (take m ss) e in
    subst (λ t. Same (drop m ss) (drop m us) (s ∷ ss) (t ∷ us)) (sym k.0) (same_more (same-of m ss us (omega (arith, h)) k.1))

same-length : (x y ts us : List Symbol) → Same x y ts us → length ts + length y ≡ length us + length x
same-length x y ts us same_end = omega arith
same-length x y ts us (same_more {ts = vs} {us = ws} s) = omega (arith, same-length x y vs ws s)

drop-length : (m : ℕ) (ss : List Symbol) → m ≤ length ss → length (drop m ss) + m ≡ length ss
drop-length zero ss h = omega arith
drop-length (suc m) [] h = absurd (omega (arith, h))
drop-length (suc m) (s ∷ ss) h = omega (arith, drop-length m ss (omega (arith, h)))

-- a list that is all of its first symbols
take-all : (m : ℕ) (ss us : List Symbol) → length ss < m → take m us ≡ take m ss → us ≡ ss
take-all zero ss us h e = absurd (omega (arith, h))
take-all (suc m) [] [] h e = refl
take-all (suc m) [] (u ∷ us) h e = absurd (cc)
take-all (suc m) (s ∷ ss) [] h e = absurd (cc)
take-all (suc m) (s ∷ ss) (u ∷ us) h e =
    let k = head-is u s (take m us) (take m ss) e in
    let f = k.0 in
    let g = take-all m ss us (omega (arith, h)) k.1 in
    cc

pub less-or : (m n : ℕ) → (m < n) ⊎ (n ≤ m)
less-or m zero = inr (omega arith)
less-or zero (suc n) = inl (omega arith)
less-or (suc m) (suc n) = elim (less-or m n) [ inl h ↦ inl (omega (arith, h)) | inr h ↦ inr (omega (arith, h)) ]

-- symbols of which a few are refused
pub stops-of : (ss rest : List Symbol) (c : SyntaxFault) (place : ℕ) → file_at ss ≡ Err (c, rest) → length ss ≡ place + length rest → StopsAt ss c place
stops-of ss rest c place e h us same = elim (less-or (length ss) (place + 3)) [
  | inl l ↦ let is = take-all (place + 3) ss us l same in (rest, rw is e, ap length is ∙ h)
  | inr l ↦
      let s = same-of (place + 3) ss us l same in
      let d = drop-length (place + 3) ss l in
      let k = ((alike-file ss (drop (place + 3) ss) (drop (place + 3) us) us s).err c rest e).1 (omega (arith, h, l, d)) in
      (k.0, k.1, omega (arith, h, same-length (drop (place + 3) ss) (drop (place + 3) us) ss us s, same-length (drop (place + 3) ss) (drop (place + 3) us) rest k.0 k.2))
]

pub take-take : (m n : ℕ) (ss : List Symbol) → m ≤ n → take m (take n ss) ≡ take m ss
take-take zero n ss h = refl
take-take (suc m) zero ss h = absurd (omega (arith, h))
take-take (suc m) (suc n) [] h = refl
take-take (suc m) (suc n) (s ∷ ss) h = ap (λ (l : List Symbol). s ∷ l) (take-take m n ss (omega (arith, h)))

pub take-length : (n : ℕ) (ss : List Symbol) → n ≤ length ss → length (take n ss) ≡ n
take-length zero ss h = refl
take-length (suc n) [] h = absurd (omega (arith, h))
take-length (suc n) (s ∷ ss) h = omega (arith, take-length n ss (omega (arith, h)))

pub take-whole : (n : ℕ) (ss : List Symbol) → length ss ≤ n → take n ss ≡ ss
take-whole zero [] h = refl
take-whole zero (s ∷ ss) h = absurd (omega (arith, h))
take-whole (suc n) [] h = refl
take-whole (suc n) (s ∷ ss) h = ap (λ (l : List Symbol). s ∷ l) (take-whole n ss (omega (arith, h)))

-- no model begins so
pub none_begins : (ss us : List Symbol) (c : SyntaxFault) (place : ℕ) (f : File) → StopsAt ss c place → take (place + 3) us ≡ take (place + 3) ss → IsFile us f → ⊥
none_begins ss us c place f stops same d =
    let k = stops us same in
    let g = file-complete us f d in
    let h = k.1 in
    cc

-- it stops at one place, for one cause
pub one_stop : (ss : List Symbol) (c d : SyntaxFault) (m n : ℕ) → StopsAt ss c m → StopsAt ss d n → (c ≡ d) × (m ≡ n)
one_stop ss c d m n f g =
    let k = f ss refl in
    let l = g ss refl in
    let same : ◌≡◌ {A = Reading File} (Err (c, k.0)) (Err (d, l.0)) = sym k.1 ∙ l.1 in
    let pair : ◌≡◌ {A = Stop} (c, k.0) (d, l.0) = cc in
    let cause : c ≡ d = ap (λ (q : Stop). q.0) pair in
    let rest : k.0 ≡ l.0 = ap (λ (q : Stop). q.1) pair in
    (cause, omega (arith, k.2, l.2, ap length rest))
