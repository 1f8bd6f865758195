-- The longest sign of a table.
use Rattle.std.proofs.Common.{◌≡◌, ℕ, ◌+◌, ◌<◌, ◌≤◌, true, false, inl, inr, List, [], length, get_or, take, drop, map, max, sym, refl, ap, ◌∙◌, subst, arith, below_more, take-append-drop, length-take-le}
use Rattle.std.specs.List.{Contains}
use Rattle.std.specs.Borrow.{Bor}
use Rattle.std.proofs.lemmas.Bool.{cases_lt, false≢true}
use Rattle.std.proofs.lemmas.List.{take_at, get_or_default, get_or-map, length-map}
use Rattle.std.proofs.lemmas.List.Elements.{Contains-get_or}
use Rattle.wb_text.specs.Signs.{begins_with}
use Rattle.wb_text.proofs.Texts.{begins_true, begins_is, begins_length}

-- the longest sign of the first i of a table with which text begins has n bytes
pub record LongestOf (table : List (List ℕ)) (i : ℕ) (text : List ℕ) (n : ℕ) : Type 0 where
  pub within : n ≤ length text
  pub sign : 0 < n → Contains table (take n text)
  pub longest : (k : ℕ) → k < i → begins_with (get_or table k []) text ≡ true → length (get_or table k []) ≤ n

-- a sign with which the text does not begin
pub longest_skips : (table : List (List ℕ)) (i : ℕ) (text : List ℕ) (n : ℕ) → LongestOf table i text n → begins_with (get_or table i []) text ≡ false → LongestOf table (i + 1) text n
longest_skips table i text n h e = record {
  within = h.within;
  sign = h.sign;
  longest = below_more _ _ h.longest (λ begins. absurd (false≢true (sym e ∙ begins)));
}

front_is : (sign text : List ℕ) → begins_with sign text ≡ true → take (length sign) text ≡ sign
front_is sign text e = ap (take (length sign)) (begins_true sign text e) ∙ take_at sign (drop (length sign) text) (length sign) refl

-- a sign with which it begins
pub longest_takes : (table : List (List ℕ)) (i : ℕ) (text : List ℕ) (n : ℕ) → LongestOf table i text n → i < length table → begins_with (get_or table i []) text ≡ true → LongestOf table (i + 1) text (max n (length (get_or table i [])))
longest_takes table i text n h l e =
    let sign = get_or table i [] in
    let fits : length sign ≤ length text = begins_length sign text e in
    elim (cases_lt n (length sign)) [
      | inl longer ↦
          let is : max n (length sign) ≡ length sign = omega arith in
          rw is (record {
            within = fits;
            sign = λ _. rw (front_is sign text e) (Contains-get_or table i [] l);
            longest = below_more _ _ (λ k less begins. omega (arith, h.longest k less begins)) (λ _. omega arith);
          })
      | inr shorter ↦
          let is : max n (length sign) ≡ n = omega arith in
          rw is (record {
            within = h.within;
            sign = h.sign;
            longest = below_more _ _ h.longest (λ _. shorter);
          })
    ]

-- over the whole table
pub longest_all : (table : List (List ℕ)) (i : ℕ) (text : List ℕ) (n : ℕ) → LongestOf table i text n → length table ≤ i → (m : ℕ) → m ≤ length text → Contains table (take m text) → m ≤ n
longest_all table i text n h all m fits c =
    let is : get_or table c.0 [] ≡ take m text = get_or_default table c.0 [] (take m text) c.1 ∙ c.2 in
    let begins : begins_with (take m text) text ≡ true = subst (λ l. begins_with (take m text) l ≡ true) (take-append-drop m text) (begins_is (take m text) (drop m text)) in
    let less : length (get_or table c.0 []) ≤ n = h.longest c.0 (omega (arith, c.1)) (subst (λ l. begins_with l text ≡ true) (sym is) begins) in
    omega (arith, ap length is, length-take-le m text fits)

-- the same over a table of references, as the loop has it
module _ (signs : List (Bor (List ℕ))) (i : ℕ) (d : Bor (List ℕ)) (text : List ℕ) (n m : ℕ) (h : LongestOf (map (λ s. s.now) signs) i text n) (l : i < length signs) where
  sign_is : get_or (map (λ s. s.now) signs) i [] ≡ (get_or signs i d).now
  sign_is = get_or-map (λ (s : Bor (List ℕ)). s.now) signs i d [] l

  pub ref_skips : begins_with (get_or signs i d).now text ≡ false → m ≡ n → LongestOf (map (λ s. s.now) signs) (i + 1) text m
  ref_skips e same = rw same (longest_skips _ i text n h (rw sign_is e))

  pub ref_takes : begins_with (get_or signs i d).now text ≡ true → m ≡ max n (length (get_or signs i d).now) → LongestOf (map (λ s. s.now) signs) (i + 1) text m
  ref_takes e same =
      let whole : length (map (λ (s : Bor (List ℕ)). s.now) signs) ≡ length signs = length-map signs (λ s. s.now) in
      let taken = longest_takes _ i text n h (omega arith) (rw sign_is e) in
      rw (same, ← sign_is) taken
