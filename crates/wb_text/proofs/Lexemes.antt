-- Which token a text begins with.
use Rattle.std.proofs.Common.{◌≡◌, ◌≢◌, ℕ, suc, ◌+◌, ◌-◌, ◌<◌, ◌≤◌, Bool, true, false, List, [], ◌∷◌, ◌++◌, length, get_or, take, drop, sym, refl, ap, ◌∙◌, subst, arith, length-take, length-drop, get_or-take, inl, inr}
use Rattle.std.specs.Prelude.{All}
use Rattle.std.specs.List.{Contains, prefix_len}
use Rattle.std.proofs.lemmas.Bool.{false≢true, cases_lt}
use Rattle.std.proofs.lemmas.List.{get_or_past, get_or_default}
use Rattle.wb_text.specs.declared.fault.TextFault.{TextFault}
use Rattle.wb_text.specs.declared.fault.TextFault.TheVariants.{BadByte, NumberTooBig, TooLong}
use Rattle.wb_text.specs.declared.byte.Class.TheVariants as Class
use Rattle.wb_text.specs.declared.token.Dialect.{Dialect}
use Rattle.wb_text.specs.declared.token.Dialect.TheVariants.{Litmus}
use Rattle.wb_text.specs.declared.token.TokenKind.{TokenKind}
use Rattle.wb_text.specs.declared.token.TokenKind.TheVariants.{Word, Name, Number, Quoted, Sign}
use Rattle.wb_text.specs.Bytes.{begins_blank, is_of, is_digit, is_name_start, is_name_part}
use Rattle.wb_text.specs.Faults.{IsTokenFault, bad_text, bad_quotation, bad_byte, unclosed_quotation, big_number, IsOpenString, IsNotAscii, NoToken}
use Rattle.wb_text.specs.Gaps.{IsQuoted, opens_comment}
use Rattle.wb_text.specs.Numbers.{IsDecimal, decimal_value}
use Rattle.wb_text.specs.Signs.{signs}
use Rattle.wb_text.specs.Tokens.{Spells, IsLongest, BeginsToken}
use Rattle.wb_text.proofs.Quotes.{quote_length}
use Rattle.wb_text.proofs.Texts.{first, first_blank, range_is}
use Rattle.wb_text.proofs.Spelling.{Starts, starts_at, spells_nonempty, longest_once, number_longest, name_longest, word_longest, sign_longest, sign_like, quoted_longest, quoted_closed, digit_ascii, part_ascii, run_all, run_length}

digit_is_no_name : (b : ℕ) → is_digit b ≡ true → is_name_start b ≡ false
digit_is_no_name b e = grind arith

both : {b : Bool} → b ≡ true → b ≡ false → ⊥
both e f = false≢true (sym f ∙ e)

-- the first byte tells the kind
pub only_number : (kind : TokenKind) (b : ℕ) → kind ≢ Word → Starts kind b → is_digit b ≡ true → kind ≡ Number
only_number Word b w s e = absurd (w refl)
only_number Name b w s e = absurd (both s (digit_is_no_name b e))
only_number Number b w s e = refl
only_number Quoted b w s e = absurd (both e (ap is_digit s))
only_number Sign b w s e = absurd (both e s.1)

pub only_quoted : (kind : TokenKind) (b : ℕ) → kind ≢ Word → Starts kind b → b ≡ 34 → kind ≡ Quoted
only_quoted Word b w s e = absurd (w refl)
only_quoted Name b w s e = absurd (both s (ap is_name_start e))
only_quoted Number b w s e = absurd (both s (ap is_digit e))
only_quoted Quoted b w s e = refl
only_quoted Sign b w s e = absurd (s.2 e)

pub only_name : (kind : TokenKind) (b : ℕ) → kind ≢ Word → Starts kind b → is_name_start b ≡ true → kind ≡ Name
only_name Word b w s e = absurd (w refl)
only_name Name b w s e = refl
only_name Number b w s e = absurd (both e (digit_is_no_name b s))
only_name Quoted b w s e = absurd (both e (ap is_name_start s))
only_name Sign b w s e = absurd (both e s.0)

pub only_sign : (kind : TokenKind) (b : ℕ) → kind ≢ Word → Starts kind b → is_digit b ≡ false → is_name_start b ≡ false → (b ≡ 34 → ⊥) → kind ≡ Sign
only_sign Word b w s e f g = absurd (w refl)
only_sign Name b w s e f g = absurd (both s f)
only_sign Number b w s e f g = absurd (both s e)
only_sign Quoted b w s e f g = absurd (g s)
only_sign Sign b w s e f g = refl

pub begins_with_byte : (text : List ℕ) (b : ℕ) → 0 < length text → first text ≡ b → text ≡ b ∷ drop 1 text
begins_with_byte [] b l e = absurd (omega arith)
begins_with_byte (x ∷ text) b l e = ap (λ y. y ∷ text) e

module _ (d : Dialect) (text : List ℕ) (l : 0 < length text) where
  -- numbers
  pub number_token : (n : ℕ) → opens_comment d text ≡ false → is_digit (first text) ≡ true → n ≡ prefix_len is_digit text → decimal_value (take n text) ≤ 2147483647 → (Number ≢ Word) × BeginsToken d Number text n
  number_token n a e is small =
      let longest : IsLongest d Number text n = rw is (number_longest d text l e) in
      (λ s. cc, record { apart = a; slice = longest; ascii = λ k x h. digit_ascii _ (longest.spelled.1 k x h); small = λ _. small })

  pub number_none : is_digit (first text) ≡ true → 2147483647 < decimal_value (take (prefix_len is_digit text) text) → NoToken d text
  number_none e big kind n w b =
      let is : kind ≡ Number = only_number kind (first text) w (starts_at d kind text n b.slice.spelled) e in
      let slice : IsLongest d Number text n = subst (λ k. IsLongest d k text n) is b.slice in
      let same : n ≡ prefix_len is_digit text = longest_once slice (number_longest d text l e) in
      let small = b.small is in
      omega (arith, ap (λ m. decimal_value (take m text)) same)

  pub number_cause : is_digit (first text) ≡ true → 2147483647 < decimal_value (take (prefix_len is_digit text) text) → IsTokenFault d text NumberTooBig
  number_cause e big =
      let s = number_longest d text l e in
      big_number (record { len = prefix_len is_digit text; slice = s; big = big })

  -- names
  pub name_token : (n : ℕ) → opens_comment d text ≡ false → is_name_start (first text) ≡ true → n ≡ prefix_len (is_name_part d) text → (Name ≢ Word) × BeginsToken d Name text n
  name_token n a e is =
      let longest : IsLongest d Name text n = rw is (name_longest d text l e) in
      (λ s. cc, record { apart = a; slice = longest; ascii = λ k x h. part_ascii d _ (longest.spelled.2 k x h); small = λ s. absurd (cc) })

  -- quoted texts
  pub quoted_token : (n : ℕ) → opens_comment d text ≡ false → IsLongest d Quoted text n → All (λ b. b ≤ 127) (take n text) → (Quoted ≢ Word) × BeginsToken d Quoted text n
  quoted_token n a longest small = (λ s. cc, record { apart = a; slice = longest; ascii = small; small = λ s. absurd (cc) })

  -- signs
  pub sign_token : (n : ℕ) → opens_comment d text ≡ false → n ≤ length text → Contains (signs d) (take n text) → ((m : ℕ) → m ≤ length text → Contains (signs d) (take m text) → m ≤ n) → (Sign ≢ Word) × BeginsToken d Sign text n
  sign_token n a fits c longest =
      (λ s. cc, record { apart = a; slice = sign_longest d text n fits c longest; ascii = (sign_like d (take n text) c).ascii; small = λ s. absurd (cc) })

  pub sign_none : is_digit (first text) ≡ false → is_name_start (first text) ≡ false → (first text ≡ 34 → ⊥) → ((m : ℕ) → m ≤ length text → Contains (signs d) (take m text) → m ≤ 0) → (kind : TokenKind) (n : ℕ) → kind ≢ Word → n ≤ length text → Spells d kind (take n text) → ⊥
  sign_none e f g longest kind n w fits h =
      let is : kind ≡ Sign = only_sign kind (first text) w (starts_at d kind text n h) e f g in
      let c : Spells d Sign (take n text) = subst (λ k. Spells d k (take n text)) is h in
      omega (arith, longest n fits c, spells_nonempty d kind (take n text) h, length-take n text)

  pub sign_cause : is_digit (first text) ≡ false → is_name_start (first text) ≡ false → (first text ≡ 34 → ⊥) → ((m : ℕ) → m ≤ length text → Contains (signs d) (take m text) → m ≤ 0) → first text ≤ 127 → IsTokenFault d text BadByte
  sign_cause e f g longest small = bad_byte (record { nonempty = l; ascii = small; no_quote = g; none = sign_none e f g longest })

-- a longest slice that is not ASCII
pub not_ascii : {d : Dialect} {kind : TokenKind} {text : List ℕ} {n m : ℕ} → IsLongest d kind text n → (i : ℕ) → 128 ≤ get_or (take n text) i 0 → BeginsToken d kind text m → ⊥
not_ascii {text = text} {n} {m} longest i above b =
    let same : m ≡ n = longest_once b.slice longest in
    let big : 128 ≤ get_or (take m text) i 0 = subst (λ k. 128 ≤ get_or (take k text) i 0) (sym same) above in
    elim (cases_lt i (length (take m text))) [
      | inl inside ↦ omega (arith, b.ascii i 0 inside)
      | inr past ↦ omega (arith, get_or_past (take m text) i 0 past)
    ]

pub not_ascii_at : {d : Dialect} {kind : TokenKind} {text : List ℕ} {n : ℕ} → IsLongest d kind text n → (i : ℕ) → 128 ≤ get_or (take n text) i 0 → IsNotAscii d kind text
not_ascii_at {text = text} {n} longest i above =
    elim (cases_lt i (length (take n text))) [
      | inl inside ↦
          let less : i < n = omega (arith, length-take n text) in
          let front : get_or (take n text) i 0 ≡ get_or text i 0 = get_or-take n text i 0 less in
          record { len = n; slice = longest; place = i; inside = less; above = omega arith }
      | inr past ↦ absurd (omega (arith, get_or_past (take n text) i 0 past))
    ]

pub token_not_long : {d : Dialect} {text : List ℕ} {fault : TextFault} → IsTokenFault d text fault → fault ≡ TooLong → ⊥
token_not_long (bad_text h) e = cc
token_not_long (bad_quotation h) e = cc
token_not_long (bad_byte h) e = cc
token_not_long (unclosed_quotation h) e = cc
token_not_long (big_number h) e = cc

-- words, as the code has them
pub word_token : (text : List ℕ) (n : ℕ) → 0 < length text → begins_blank text ≡ false → opens_comment Litmus text ≡ false → n ≡ prefix_len (is_of Class.Word) text → ((i : ℕ) → get_or (take n text) i 0 < 128) → BeginsToken Litmus Word text n
word_token text n l b a is small = record {
  apart = a;
  slice = rw is (word_longest Litmus text l (sym (first_blank text l) ∙ b));
  ascii = λ k x h. rw (get_or_default (take n text) k x 0 h) (omega (arith, small k));
  small = λ s. absurd (cc);
}

pub word_slice : (text : List ℕ) (n : ℕ) → 0 < length text → begins_blank text ≡ false → n ≡ prefix_len (is_of Class.Word) text → IsLongest Litmus Word text n
word_slice text n l b is = rw is (word_longest Litmus text l (sym (first_blank text l) ∙ b))

-- quoted texts, as the code has them
module _ (text : List ℕ) (l : 0 < length text) (e : first text ≡ 34) where
  split : text ≡ 34 ∷ drop 1 text
  split = begins_with_byte text 34 l e

  pub quoted_spelled : (d : Dialect) (n : ℕ) → n ≤ length text → Spells d Quoted (take n text) → (rest : List ℕ) × IsQuoted (drop 1 text) rest
  quoted_spelled d n within h =
      let t = drop 1 text in
      let fits : n ≤ suc (length t) = omega (arith, ap length split) in
      let spelled : take n (34 ∷ t) ≡ 34 ∷ (h.0 ++ 34 ∷ []) = ap (take n) (sym split) ∙ h.1 in
      (drop (length h.0 + 1) t, quoted_closed t n h.0 fits spelled h.2)

  pub quoted_none : ((rest : List ℕ) → IsQuoted (take (length text - 1) (drop 1 text)) rest → ⊥) → (d : Dialect) → NoToken d text
  quoted_none never d kind n w b =
      let is : kind ≡ Quoted = only_quoted kind (first text) w (starts_at d kind text n b.slice.spelled) e in
      let q = quoted_spelled d n b.slice.within (subst (λ k. Spells d k (take n text)) is b.slice.spelled) in
      never q.0 (subst (λ u. IsQuoted u q.0) (sym (range_is 1 text)) q.1)

  pub quoted_open : ((rest : List ℕ) → IsQuoted (take (length text - 1) (drop 1 text)) rest → ⊥) → IsOpenString text
  quoted_open never = record { nonempty = l; quote = e; unclosed = λ rest q. never rest (subst (λ u. IsQuoted u rest) (sym (range_is 1 text)) q) }

  pub quoted_slice : (rest : List ℕ) → IsQuoted (take (length text - 1) (drop 1 text)) rest → (d : Dialect) → IsLongest d Quoted text (length text - length rest)
  quoted_slice rest q d =
      let p : IsQuoted (drop 1 text) rest = subst (λ u. IsQuoted u rest) (range_is 1 text) q in
      let n : length p.inside + 2 ≡ length text - length rest = omega (arith, quote_length p, length-drop 1 text) in
      subst (λ u. IsLongest d Quoted u (length text - length rest)) (sym split) (subst (λ m. IsLongest d Quoted (34 ∷ drop 1 text) m) n (quoted_longest d (drop 1 text) rest p))

  pub quoted_not_ascii : (n : ℕ) → ((d : Dialect) → IsLongest d Quoted text n) → (i : ℕ) → 128 ≤ get_or (take n text) i 0 → (d : Dialect) → NoToken d text
  quoted_not_ascii n longest i above d kind m w b =
      let is : kind ≡ Quoted = only_quoted kind (first text) w (starts_at d kind text m b.slice.spelled) e in
      not_ascii (longest d) i above (subst (λ k. BeginsToken d k text m) is b)

pub number_big : (text : List ℕ) (n : ℕ) → n ≡ prefix_len is_digit text → (IsDecimal (take n text) × (decimal_value (take n text) ≤ 2147483647) → ⊥) → 0 < prefix_len is_digit text → 2147483647 < decimal_value (take (prefix_len is_digit text) text)
number_big text n is never l =
    let m = prefix_len is_digit text in
    elim (cases_lt 2147483647 (decimal_value (take m text))) [
      | inl big ↦ big
      | inr small ↦ absurd (subst (λ k. IsDecimal (take k text) × (decimal_value (take k text) ≤ 2147483647) → ⊥) is never ((run_length is_digit text l, run_all is_digit text), small))
    ]
