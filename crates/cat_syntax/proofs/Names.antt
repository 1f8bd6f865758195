-- The test of a name.
use Rattle.std.proofs.Common.{◌≡◌, ℕ, List, length, true, false, get_or}
use Rattle.std.proofs.lemmas.Bool.{and_parts, leb-true, le-leb}
use Rattle.std.proofs.lemmas.List.Sums.{AllPass-from_list_all, list_all-from_AllPass}
use Rattle.std.specs.Prelude.{nat_le, ◌&&◌, Bool}
use Rattle.std.specs.List.{list_all}
use Rattle.wb_text.specs.Names.{IsName, IsPrintable}
use Rattle.cat_syntax.specs.Symbols.{is_printable, is_name}

both-and : (a b : Bool) → a ≡ true → b ≡ true → (a && b) ≡ true
both-and true b e f = f
both-and false b e f = absurd (cc)

printable-is : (b : ℕ) → is_printable b ≡ true → IsPrintable b
printable-is b e = let h = and_parts (nat_le 33 b) (nat_le b 126) e in (leb-true 33 b h.0, leb-true b 126 h.1)

printable-of : (b : ℕ) → IsPrintable b → is_printable b ≡ true
printable-of b h = both-and (nat_le 33 b) (nat_le b 126) (le-leb 33 b h.0) (le-leb b 126 h.1)

pub name_is : (x : List ℕ) → is_name x ≡ true → IsName x
name_is x e =
    let h = and_parts (nat_le 1 (length x) && nat_le (length x) 64) (list_all is_printable x) e in
    let i = and_parts (nat_le 1 (length x)) (nat_le (length x) 64) h.0 in
    record {
      nonempty = leb-true 1 (length x) i.0;
      at_most = leb-true (length x) 64 i.1;
      printable = λ k d j. printable-is (get_or x k d) (AllPass-from_list_all is_printable x h.1 k d j);
    }

pub is_name-of : (x : List ℕ) → IsName x → is_name x ≡ true
is_name-of x n =
    both-and (nat_le 1 (length x) && nat_le (length x) 64) (list_all is_printable x)
    (both-and (nat_le 1 (length x)) (nat_le (length x) 64) (le-leb 1 (length x) n.nonempty) (le-leb (length x) 64 n.at_most))
    (list_all-from_AllPass is_printable x (λ k d j. printable-of (get_or x k d) (n.printable k d j)))
