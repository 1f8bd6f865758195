-- Bytes that were ahead come to a line.
use Rattle.std.proofs.Common.{◌≡◌, ◌<◌, ◌≤◌, ◌+◌, ℕ, List, [], ◌∷◌, ◌++◌, length, sym, ap, subst, ◌∙◌, inl, inr, append_assoc, append-nil, length-append, arith}
use Rattle.std.specs.Prelude.{◌≢◌, Option, None, Some, codes}
use Rattle.std.specs.Io.KnownBytes.{Consumes, Keeps, IsAtEnd}
use Rattle.std.proofs.KnownBytes.{Consumes-kept, Consumes-nil, Consumes-trans}
use Rattle.std.proofs.lemmas.List.Elements.{All-append, All-take}
use Rattle.std.proofs.Math.Seq.{take-append_seam}
use Rattle.scripts.specs.Lines.{ahead, IsUnbroken, IsTrimmed, Grows, HasMore, IsNextLine, IsLong, Loses, fed, returned, last}

-- a block loses its front
taken : (left : Option (List ℕ)) (before after bytes : List ℕ) → before ≡ bytes ++ after → Consumes (ahead before left) (ahead after left) bytes
taken None before after bytes split = tt
taken (Some xs) before after bytes split = ap (λ block. block ++ xs) split ∙ append_assoc bytes after xs

after_kept : (a b c : Option (List ℕ)) (bytes : List ℕ) → Keeps a b → Consumes b c bytes → Consumes a c bytes
after_kept None b c bytes h g = tt
after_kept (Some s) None c bytes h g = absurd h
after_kept (Some s) (Some t) None bytes h g = absurd g
after_kept (Some s) (Some t) (Some u) bytes h g = sym h ∙ g

-- a part comes after what came before, and then what ends it
pub on : (a b left : Option (List ℕ)) (old mid new before part after ending : List ℕ) → Grows a b old mid [] → Keeps b (ahead before left) → IsUnbroken part
    → new ≡ mid ++ part → before ≡ part ++ (ending ++ after) → Grows a (ahead after left) old new ending
on a b left old mid new before part after ending h kept clean grown split =
    let lists : (h.part ++ []) ++ (part ++ ending) ≡ (h.part ++ part) ++ ending = ap (λ l. l ++ (part ++ ending)) (append-nil h.part) ∙ sym (append_assoc h.part part ending) in
    let lost = taken left before after (part ++ ending) (split ∙ sym (append_assoc part ending after)) in
    record {
      part = h.part ++ part;
      unbroken = All-append (λ byte. byte ≢ 10) h.part part h.unbroken clean;
      grown = grown ∙ ap (λ l. l ++ part) h.grown ∙ append_assoc old h.part part;
      taken = subst (Consumes a (ahead after left)) lists (Consumes-trans a b (ahead after left) (h.part ++ []) (part ++ ending) h.taken (after_kept b (ahead before left) (ahead after left) (part ++ ending) kept lost));
    }

front_of : (xs ys : List ℕ) → IsUnbroken (xs ++ ys) → IsUnbroken xs
front_of xs ys h = subst IsUnbroken (take-append_seam xs ys) (All-take (λ byte. byte ≢ 10) (length xs) (xs ++ ys) h)

cut_short : (raw line : List ℕ) → raw ≡ line ++ codes "\r" → length raw ≤ 65536 → length line < 65536
cut_short raw line cut short =
    let lengths : length raw ≡ length line + 1 = ap length cut ∙ length-append line (codes "\r") in
    omega (arith, short, lengths)

-- the line, as it was gathered, with its line feed
pub fed_line : (a b c : Option (List ℕ)) (raw line : List ℕ) → Keeps a b → length raw ≤ 65536 → Grows b c [] raw (codes "\n") → IsTrimmed raw line → IsNextLine a c line
fed_line a b c raw line kept short h (inl same) = record {
  unbroken = subst IsUnbroken (sym (same.0 ∙ h.grown)) h.unbroken;
  given = fed (λ front e. same.1 front (sym same.0 ∙ e)) (subst (λ l. length l ≤ 65536) (sym same.0) short) (after_kept a b c (line ++ codes "\n") kept (subst (λ l. Consumes b c (l ++ codes "\n")) (sym (same.0 ∙ h.grown)) h.taken));
}
fed_line a b c raw line kept short h (inr cut) = record {
  unbroken = front_of line (codes "\r") (subst IsUnbroken (sym h.grown ∙ cut) h.unbroken);
  given = returned (cut_short raw line cut short) (after_kept a b c (line ++ codes "\r\n") kept (subst (Consumes b c) (ap (λ l. l ++ codes "\n") (sym h.grown ∙ cut) ∙ append_assoc line (codes "\r") (codes "\n")) h.taken));
}

-- the line with which the script ends
pub last_line : (a b c : Option (List ℕ)) (line : List ℕ) → HasMore a → Keeps a b → length line ≤ 65536 → Grows b c [] line [] → IsAtEnd c → IsNextLine a c line
last_line a b c line some kept short h at_end = record {
  unbroken = subst IsUnbroken (sym h.grown) h.unbroken;
  given = last some short (after_kept a b c line kept (subst (Consumes b c) (append-nil h.part ∙ sym h.grown) h.taken)) at_end;
}

-- a line that grew too long
pub too_long : (a b c : Option (List ℕ)) (line ending : List ℕ) → Keeps a b → Grows b c [] line ending → 65536 < length line → IsLong a
too_long a b c line ending kept h long = record {
  after = c;
  part = h.part;
  unbroken = h.unbroken;
  long = subst (λ l. 65536 < length l) h.grown long;
  taken = (ending, after_kept a b c (h.part ++ ending) kept h.taken);
}

-- nothing is ahead where nothing is behind what was kept
pub ended : (a : Option (List ℕ)) (block : List ℕ) (left : Option (List ℕ)) → Keeps a (ahead block left) → block ≡ [] → IsAtEnd left → IsAtEnd a
ended None block left kept none end = tt
ended (Some xs) block None kept none end = absurd kept
ended (Some xs) [] (Some ys) kept none end = sym kept ∙ end
ended (Some xs) (b ∷ bs) (Some ys) kept none end = cc

-- ---- that no bytes are gone but the first

pub lost_none : (a b : Option (List ℕ)) → Keeps a b → Loses a b
lost_none a b kept = ([], Consumes-kept a a b [] (Consumes-nil a) kept)

pub lost_both : (a b c : Option (List ℕ)) → Loses a b → Loses b c → Loses a c
lost_both a b c first second = (first.0 ++ second.0, Consumes-trans a b c first.0 second.0 first.1 second.1)

pub lost_part : (a b : Option (List ℕ)) (old new ending : List ℕ) → Grows a b old new ending → Loses a b
lost_part a b old new ending h = (h.part ++ ending, h.taken)

pub lost_front : (left : Option (List ℕ)) (before after bytes : List ℕ) → before ≡ bytes ++ after → Loses (ahead before left) (ahead after left)
lost_front left before after bytes split = (bytes, taken left before after bytes split)
