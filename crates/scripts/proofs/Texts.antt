-- The lines of a text, as they are gathered.
use Rattle.std.proofs.Common.{◌≡◌, ◌<◌, ◌+◌, ℕ, zero, suc, List, [], ◌∷◌, ◌++◌, ◌-◌, length, take, ap, sym, subst, refl, ◌∙◌, append_assoc, arith}
use Rattle.std.specs.Prelude.{◌≢◌, Option, codes}
use Rattle.scripts.specs.Lines.{AreLines, IsNextLine}
use Rattle.scripts.specs.Scripts.{AreSkipped, AreOfText, IsCutOff, IsBadLine, next_of_text, bad_text}
use Rattle.scripts.specs.Spelled.{Spells, IsSoundHead, HasText, OpensText}
use Rattle.scripts.specs.declared.instruction.Head.{Head}

-- the first line of a text, from its head
pub opened : (line : List ℕ) (seat : ℕ) (head other : Head) → Spells line seat head → seat < 8 → IsSoundHead head → head ≡ other → HasText other → OpensText line
opened line seat head other spells less sound same text = (seat, head, spells, less, sound, subst HasText (sym same) text)

-- the line where a text is cut off
pub cut_text : (a b c : Option (List ℕ)) (m k l n : ℕ) (line : List ℕ) → AreSkipped a b → AreLines a m b k → k < 1000000 → IsNextLine b c line → OpensText line → l ≡ k + 1 → IsCutOff c l n → IsBadLine a m n
cut_text a b c m k l n line skipped lines room next opens count cut = bad_text skipped lines room next opens (subst (λ j. IsCutOff c j n) count cut)

-- what came to a text so far
pub record Gathered (before now : Option (List ℕ)) (bytes : List ℕ) : Type 0 where
  pub whole : List ℕ
  pub lines : AreOfText before now whole
  pub kept : bytes ≡ take 65537 whole

-- the front of what came, and of what comes as far as there is room
take_on : (n : ℕ) (whole more : List ℕ) → take n whole ++ take (n - length (take n whole)) more ≡ take n (whole ++ more)
take_on zero whole more = refl
take_on (suc n) [] more =
    let room : suc n - 0 ≡ suc n = omega arith in
    ap (λ k. take k more) room
take_on (suc n) (x ∷ xs) more =
    let room : suc n - suc (length (take n xs)) ≡ n - length (take n xs) = omega arith in
    ap (λ k. x ∷ (take n xs ++ take k more)) room ∙ ap (λ l. x ∷ l) (take_on n xs more)

kept_on : (n : ℕ) (old new whole more : List ℕ) → old ≡ take n whole → new ≡ old ++ take (n - length old) more → new ≡ take n (whole ++ more)
kept_on n old new whole more kept grown = grown ∙ ap (λ l. l ++ take (n - length l) more) kept ∙ take_on n whole more

-- one line more
pub gathered : (a b c : Option (List ℕ)) (line old mid new : List ℕ) → Gathered a b old → IsNextLine b c line → line ≢ codes "."
    → mid ≡ old ++ take (65537 - length old) line → new ≡ mid ++ take (65537 - length mid) (codes "\n") → Gathered a c new
gathered a b c line old mid new h next other first second = record {
  whole = h.whole ++ (line ++ codes "\n");
  lines = next_of_text h.lines next other;
  kept = kept_on 65537 mid new (h.whole ++ line) (codes "\n") (kept_on 65537 old mid h.whole line h.kept first) second ∙ ap (take 65537) (append_assoc h.whole line (codes "\n"));
}
