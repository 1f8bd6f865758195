-- What each kind of token is made of, and how long the longest slice of it is.
use Rattle.std.proofs.Common.{◌≡◌, ℕ, zero, suc, ◌+◌, ◌<◌, ◌≤◌, Bool, true, false, inl, inr, List, [], ◌∷◌, ◌++◌, length, get_or, take, drop, not, sym, refl, ap, ◌∙◌, subst, arith, length-take-le, length-take, length-append, append_assoc, get_or-take}
use Rattle.std.specs.Prelude.{◌==◌, ◌&&◌, nat_lt, nat_le, nat_eq, All}
use Rattle.std.specs.List.{AllPass, Contains, list_all, prefix_len}
use Rattle.std.proofs.lemmas.Bool.{and_parts, false≢true, eq-eqb, leb-true, ltb-true, cases_lt}
use Rattle.std.proofs.lemmas.List.{get_or_at, take-take, take_at}
use Rattle.std.proofs.lemmas.List.Sums.{AllPass-from_list_all, prefix_len-le-length, prefix_len_passes, prefix_len_stops}
use Rattle.wb_text.specs.declared.token.Dialect.{Dialect}
use Rattle.wb_text.specs.declared.token.Dialect.TheVariants.{Litmus, Cat}
use Rattle.wb_text.specs.declared.token.TokenKind.{TokenKind}
use Rattle.wb_text.specs.declared.token.TokenKind.TheVariants.{Word, Name, Number, Quoted, Sign}
use Rattle.wb_text.specs.Bytes.{is_blank, is_digit, is_name_start, is_name_part}
use Rattle.wb_text.specs.Gaps.{IsQuoted}
use Rattle.wb_text.specs.Signs.{signs}
use Rattle.wb_text.specs.Tokens.{Spells, IsLongest}
use Rattle.wb_text.proofs.Runs.{prefix_len-pos, start_is_part}
use Rattle.wb_text.proofs.Quotes.{split_at, quote_length, quote_here}
use Rattle.wb_text.proofs.Texts.{first, not_false}

-- a sign is not empty, is ASCII, and begins as no other token does
sign_test : List ℕ → Bool
sign_test s = nat_lt 0 (length s) && (not (is_name_start (get_or s 0 0)) && (not (is_digit (get_or s 0 0)) && (not (get_or s 0 0 == 34) && (not (is_blank (get_or s 0 0)) && list_all (λ b. nat_le b 127) s))))

all_signs : (d : Dialect) → list_all sign_test (signs d) ≡ true
unfolding sign_test
all_signs Litmus = refl
all_signs Cat = refl

pub record IsSignLike (s : List ℕ) : Type 0 where
  pub nonempty : 0 < length s
  pub no_name : is_name_start (first s) ≡ false
  pub no_digit : is_digit (first s) ≡ false
  pub no_quote : first s ≡ 34 → ⊥
  pub no_blank : is_blank (first s) ≡ false
  pub ascii : All (λ b. b ≤ 127) s

tested : (s : List ℕ) → sign_test s ≡ true → IsSignLike s
unfolding sign_test
tested s e =
    let a = and_parts (nat_lt 0 (length s)) _ e in
    let b = and_parts (not (is_name_start (get_or s 0 0))) _ a.1 in
    let c = and_parts (not (is_digit (get_or s 0 0))) _ b.1 in
    let q = and_parts (not (get_or s 0 0 == 34)) _ c.1 in
    let r = and_parts (not (is_blank (get_or s 0 0))) _ q.1 in
    record {
      nonempty = ltb-true 0 (length s) a.0;
      no_name = not_false _ b.0;
      no_digit = not_false _ c.0;
      no_quote = λ same. false≢true (sym (not_false (get_or s 0 0 == 34) q.0) ∙ eq-eqb (get_or s 0 0) 34 same);
      no_blank = not_false _ r.0;
      ascii = λ k x l. leb-true _ 127 (AllPass-from_list_all (λ b. nat_le b 127) s r.1 k x l);
    }

pub sign_like : (d : Dialect) (s : List ℕ) → Contains (signs d) s → IsSignLike s
sign_like d s c = tested s (subst (λ t. sign_test t ≡ true) c.2 (AllPass-from_list_all sign_test (signs d) (all_signs d) c.0 s c.1))

-- the bytes with which a token of each kind begins
abbrev pub Starts : TokenKind → ℕ → Type 0
Starts Word b = is_blank b ≡ false
Starts Name b = is_name_start b ≡ true
Starts Number b = is_digit b ≡ true
Starts Quoted b = b ≡ 34
Starts Sign b = (is_name_start b ≡ false) × (is_digit b ≡ false) × (b ≡ 34 → ⊥) × (is_blank b ≡ false)

pub spells_nonempty : (d : Dialect) (kind : TokenKind) (bytes : List ℕ) → Spells d kind bytes → 0 < length bytes
spells_nonempty d Word bytes h = h.0
spells_nonempty d Name bytes h = h.0
spells_nonempty d Number bytes h = h.0
spells_nonempty d Quoted bytes h = omega (arith, ap length h.1)
spells_nonempty d Sign bytes h = (sign_like d bytes h).nonempty

pub spells_starts : (d : Dialect) (kind : TokenKind) (bytes : List ℕ) → Spells d kind bytes → Starts kind (first bytes)
spells_starts d Word bytes h = not_false _ (h.1 0 0 h.0)
spells_starts d Name bytes h = h.1
spells_starts d Number bytes h = h.1 0 0 h.0
spells_starts d Quoted bytes h = ap first h.1
spells_starts d Sign bytes h = let s = sign_like d bytes h in (s.no_name, s.no_digit, s.no_quote, s.no_blank)

pub longest_pos : {d : Dialect} {kind : TokenKind} {text : List ℕ} {n : ℕ} → IsLongest d kind text n → 0 < n
longest_pos {d} {kind} {text} {n} h = omega (arith, spells_nonempty d kind (take n text) h.spelled, length-take n text)

first_of_front : (n : ℕ) (text : List ℕ) → 0 < length (take n text) → first (take n text) ≡ first text
first_of_front n text h = get_or-take n text 0 0 (omega (arith, length-take n text))

pub starts_at : (d : Dialect) (kind : TokenKind) (text : List ℕ) (n : ℕ) → Spells d kind (take n text) → Starts kind (first text)
starts_at d kind text n h = subst (Starts kind) (first_of_front n text (spells_nonempty d kind (take n text) h)) (spells_starts d kind (take n text) h)

-- there is one longest slice of a kind
pub longest_once : {d : Dialect} {kind : TokenKind} {text : List ℕ} {n m : ℕ} → IsLongest d kind text n → IsLongest d kind text m → n ≡ m
longest_once {n = n} {m} h g =
    elim (cases_lt n m) [
      | inl less ↦ absurd (h.longest m less g.within g.spelled)
      | inr more ↦ elim (cases_lt m n) [
        | inl less ↦ absurd (g.longest n less h.within h.spelled)
        | inr same ↦ omega arith
      ]
    ]

-- runs
module _ (p : ℕ → Bool) (text : List ℕ) where
  pub run_all : AllPass p (take (prefix_len p text) text)
  run_all k x l =
      let n = prefix_len p text in
      let less : k < n = omega (arith, length-take n text) in
      subst (λ b. p b ≡ true) (sym (get_or-take n text k x less)) (prefix_len_passes p text k x less)

  pub run_stops : (m : ℕ) → prefix_len p text < m → m ≤ length text → AllPass p (take m text) → ⊥
  run_stops m more fits all =
      let n = prefix_len p text in
      let stops : p (get_or text n 0) ≡ false = prefix_len_stops p text 0 (omega arith) in
      let passes : p (get_or (take m text) n 0) ≡ true = all n 0 (omega (arith, length-take m text)) in
      false≢true (sym stops ∙ ap p (sym (get_or-take m text n 0 more)) ∙ passes)

  pub run_length : 0 < prefix_len p text → 0 < length (take (prefix_len p text) text)
  run_length h = omega (arith, length-take (prefix_len p text) text, prefix_len-le-length p text)

pub word_longest : (d : Dialect) (text : List ℕ) → 0 < length text → is_blank (first text) ≡ false → IsLongest d Word text (prefix_len (λ b. not (is_blank b)) text)
word_longest d text l e =
    let p = λ (b : ℕ). not (is_blank b) in
    record {
      within = prefix_len-le-length p text;
      spelled = (run_length p text (prefix_len-pos p text l (ap not e)), run_all p text);
      longest = λ m more fits h. run_stops p text m more fits h.1;
    }

pub name_longest : (d : Dialect) (text : List ℕ) → 0 < length text → is_name_start (first text) ≡ true → IsLongest d Name text (prefix_len (is_name_part d) text)
name_longest d text l e =
    let n = prefix_len (is_name_part d) text in
    let pos = run_length (is_name_part d) text (prefix_len-pos (is_name_part d) text l (start_is_part d _ e)) in
    record {
      within = prefix_len-le-length (is_name_part d) text;
      spelled = (pos, ap is_name_start (first_of_front n text pos) ∙ e, run_all (is_name_part d) text);
      longest = λ m more fits h. run_stops (is_name_part d) text m more fits h.2;
    }

pub number_longest : (d : Dialect) (text : List ℕ) → 0 < length text → is_digit (first text) ≡ true → IsLongest d Number text (prefix_len is_digit text)
number_longest d text l e = record {
  within = prefix_len-le-length is_digit text;
  spelled = (run_length is_digit text (prefix_len-pos is_digit text l e), run_all is_digit text);
  longest = λ m more fits h. run_stops is_digit text m more fits h.1;
}

pub sign_longest : (d : Dialect) (text : List ℕ) (n : ℕ) → n ≤ length text → Contains (signs d) (take n text) → ((m : ℕ) → m ≤ length text → Contains (signs d) (take m text) → m ≤ n) → IsLongest d Sign text n
sign_longest d text n fits c longest = record {
  within = fits;
  spelled = c;
  longest = λ m more fits_m h. omega (arith, longest m fits_m h);
}

-- a quoted text, behind its first quote
quoted_text : (t b : List ℕ) (m : ℕ) → take m (34 ∷ t) ≡ 34 ∷ (b ++ 34 ∷ []) → m ≤ suc (length t) → (length b + 2 ≡ m) × (take (length b) t ≡ b) × (get_or t (length b) 0 ≡ 34)
quoted_text t b zero e l = absurd (omega (arith, ap length e))
quoted_text t b (suc m) e l =
    let inner : take m t ≡ b ++ 34 ∷ [] = ap (drop 1) e in
    let size : length b + 1 ≡ m = omega (arith, ap length inner, length-take-le m t (omega arith), length-append b (34 ∷ [])) in
    let front : take (length b) t ≡ b = sym (take-take (length b) m t (omega arith)) ∙ ap (take (length b)) inner ∙ take_at b (34 ∷ []) (length b) refl in
    let quote : get_or t (length b) 0 ≡ 34 = sym (get_or-take m t (length b) 0 (omega arith)) ∙ ap (λ u. get_or u (length b) 0) inner ∙ get_or_at b 34 [] 0 (length b) refl in
    (omega arith, front, quote)

pub quoted_longest : (d : Dialect) (t rest : List ℕ) → (q : IsQuoted t rest) → IsLongest d Quoted (34 ∷ t) (length q.inside + 2)
quoted_longest d t rest q =
    let p = length q.inside in
    let two : p + 2 ≡ suc (p + 1) = omega arith in
    let size : length (q.inside ++ 34 ∷ []) ≡ p + 1 = omega (arith, length-append q.inside (34 ∷ [])) in
    let front : take (p + 1) t ≡ q.inside ++ 34 ∷ [] = ap (take (p + 1)) (q.closed ∙ sym (append_assoc q.inside (34 ∷ []) rest)) ∙ take_at (q.inside ++ 34 ∷ []) rest (p + 1) size in
    record {
      within = omega (arith, quote_length q);
      spelled = (q.inside, rw two (ap (λ u. 34 ∷ u) front), q.unbroken);
      longest = λ m more fits h.
          let s = quoted_text t h.0 m h.1 fits in
          let less : p < length h.0 = omega (arith, s.0) in
          let other : not (nat_eq (get_or h.0 p 0) 34) ≡ true = h.2 p 0 less in
          let same : get_or h.0 p 0 ≡ 34 = ap (λ u. get_or u p 0) (sym s.1) ∙ get_or-take (length h.0) t p 0 less ∙ quote_here q in
          false≢true (sym (not_false _ other) ∙ eq-eqb _ 34 same);
    }

-- a quoted text that is spelled is closed
pub quoted_closed : (t : List ℕ) (m : ℕ) (b : List ℕ) → m ≤ suc (length t) → take m (34 ∷ t) ≡ 34 ∷ (b ++ 34 ∷ []) → AllPass (λ x. not (nat_eq x 34)) b → IsQuoted t (drop (length b + 1) t)
quoted_closed t m b fits e all =
    let s = quoted_text t b m e fits in
    record {
      inside = b;
      closed = split_at t (length b) (omega (arith, s.0)) ∙ (λ i. s.1 i ++ s.2 i ∷ drop (length b + 1) t);
      unbroken = all;
    }

-- tokens are ASCII
pub digit_ascii : (b : ℕ) → is_digit b ≡ true → b ≤ 127
digit_ascii b e = grind arith

pub part_ascii : (d : Dialect) (b : ℕ) → is_name_part d b ≡ true → b ≤ 127
part_ascii Litmus b e = grind arith
part_ascii Cat b e = grind arith

-- no token begins with a blank
pub starts_no_blank : (kind : TokenKind) (b : ℕ) → Starts kind b → is_blank b ≡ false
starts_no_blank Word b s = s
starts_no_blank Name b s = grind arith
starts_no_blank Number b s = grind arith
starts_no_blank Quoted b s = ap is_blank s
starts_no_blank Sign b s = s.3
