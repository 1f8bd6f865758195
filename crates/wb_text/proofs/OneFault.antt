-- A text that is not too long meets one fault at most, and none if it has a token list.
use Rattle.std.proofs.Common.{◌≡◌, ◌≢◌, ℕ, ◌<◌, ◌≤◌, ◌-◌, Bool, true, false, List, length, get_or, take, drop, sym, refl, ap, ◌∙◌, subst, arith, inl, inr, length-take, get_or-take}
use Rattle.std.proofs.lemmas.Bool.{false≢true}
use Rattle.wb_text.specs.declared.fault.TextFault.{TextFault}
use Rattle.wb_text.specs.declared.fault.TextFault.TheVariants.{NoMemory}
use Rattle.wb_text.specs.declared.token.Dialect.{Dialect}
use Rattle.wb_text.specs.declared.token.Dialect.TheVariants.{Litmus}
use Rattle.wb_text.specs.declared.token.Token.{Token}
use Rattle.wb_text.specs.declared.token.TokenKind.{TokenKind}
use Rattle.wb_text.specs.declared.token.TokenKind.TheVariants.{Word, Number, Quoted}
use Rattle.wb_text.specs.Bytes.{is_digit}
use Rattle.wb_text.specs.Faults.{NoToken, IsNotAscii, IsOpenString, IsTokenFault, bad_text, bad_quotation, bad_byte, unclosed_quotation, big_number, IsInformationFault, unclosed_comment, unclosed_string, HasTitleFault, bad_name, behind_name, with_no_name, HasHeadFault, before_language, bad_language, behind_language, HasCause, out_of_memory, too_long, in_head, in_comment, at_token}
use Rattle.wb_text.specs.Gaps.{IsGap, IsOpenComment, IsQuoted, opens_comment}
use Rattle.wb_text.specs.Numbers.{decimal_value}
use Rattle.wb_text.specs.Tokens.{IsLongest, BeginsToken, HasTokens, BeginsRun, IsInformation, IsTitle, IsHead, IsTokenList}
use Rattle.wb_text.proofs.Texts.{first, range_is}
use Rattle.wb_text.proofs.Spelling.{starts_at, longest_pos, longest_once, digit_ascii}
use Rattle.wb_text.proofs.Lexemes.{only_number, only_quoted, quoted_spelled, quoted_none}
use Rattle.wb_text.proofs.Gaps.{IsStuck, stuck_at_end, stuck_at_open, gap_once, opens_first}
use Rattle.wb_text.proofs.Heads.{token_stuck, token_run, run_stuck, stops_at_fault, info_once, info_none_fault, title_none_word, title_none_information, title_none_nameless, head_none_open, head_none_word, head_none_title, head_once}
use Rattle.wb_text.proofs.Lists.{tokens_to_stuck, rest_is_last, scanned_of, scanned_none_open, scanned_none_here}

both : {b : Bool} → b ≡ true → b ≡ false → ⊥
both e f = false≢true (sym f ∙ e)

quote_no_digit : {b : ℕ} → b ≡ 34 → is_digit b ≡ true → ⊥
quote_no_digit e d = both d (ap is_digit e)

not_ascii_none : {d : Dialect} {kind : TokenKind} {text : List ℕ} {m : ℕ} → IsNotAscii d kind text → BeginsToken d kind text m → ⊥
not_ascii_none {text = text} {m} h b =
    let same : m ≡ h.len = longest_once b.slice h.slice in
    let less : h.place < m = omega (arith, h.inside) in
    let front : get_or (take m text) h.place 0 ≡ get_or text h.place 0 = get_or-take m text h.place 0 less in
    omega (arith, b.ascii h.place 0 (omega (arith, length-take m text, b.slice.within)), h.above)

quote_first : {d : Dialect} {text : List ℕ} → IsNotAscii d Quoted text → first text ≡ 34
quote_first {d} {text} h = starts_at d Quoted text h.len h.slice.spelled

-- Faults at a token.

never_closed : {text : List ℕ} → IsOpenString text → (rest : List ℕ) → IsQuoted (take (length text - 1) (drop 1 text)) rest → ⊥
never_closed {text} h rest q = h.unclosed rest (subst (λ u. IsQuoted u rest) (range_is 1 text) q)

module _ {d : Dialect} {text : List ℕ} where
  pub token_fault_none : {fault : TextFault} → IsTokenFault d text fault → NoToken d text
  token_fault_none (bad_text h) kind n w b =
      let l = longest_pos b.slice in
      let front : get_or (take n text) 0 0 ≡ get_or text 0 0 = get_or-take n text 0 0 l in
      omega (arith, b.ascii 0 0 (omega (arith, length-take n text, l, h.nonempty)), h.above)
  token_fault_none (bad_quotation h) kind n w b =
      let is : kind ≡ Quoted = only_quoted kind (first text) w (starts_at d kind text n b.slice.spelled) (quote_first h) in
      not_ascii_none h (subst (λ k. BeginsToken d k text n) is b)
  token_fault_none (bad_byte h) kind n w b = h.none kind n w b.slice.within b.slice.spelled
  token_fault_none (unclosed_quotation h) kind n w b = quoted_none text h.nonempty h.quote (never_closed h) d kind n w b
  token_fault_none (big_number h) kind n w b =
      let is : kind ≡ Number = only_number kind (first text) w (starts_at d kind text n b.slice.spelled) (starts_at d Number text h.len h.slice.spelled) in
      let same : n ≡ h.len = longest_once (subst (λ k. IsLongest d k text n) is b.slice) h.slice in
      let small = b.small is in
      omega (arith, ap (λ m. decimal_value (take m text)) same, h.big)

  token_fault_once : {f g : TextFault} → IsTokenFault d text f → IsTokenFault d text g → f ≡ g
  token_fault_once (bad_text h) (bad_text k) = refl
  token_fault_once (bad_text h) (bad_quotation k) = refl
  token_fault_once (bad_text h) (bad_byte k) = absurd (omega (arith, h.above, k.ascii))
  token_fault_once (bad_text h) (unclosed_quotation k) = absurd (omega (arith, h.above, k.quote))
  token_fault_once (bad_text h) (big_number k) = absurd (omega (arith, h.above, digit_ascii (first text) (starts_at d Number text k.len k.slice.spelled)))
  token_fault_once (bad_quotation h) (bad_text k) = refl
  token_fault_once (bad_quotation h) (bad_quotation k) = refl
  token_fault_once (bad_quotation h) (bad_byte k) = absurd (k.no_quote (quote_first h))
  token_fault_once (bad_quotation h) (unclosed_quotation k) =
      let q = quoted_spelled text k.nonempty k.quote d h.len h.slice.within h.slice.spelled in
      absurd (k.unclosed q.0 q.1)
  token_fault_once (bad_quotation h) (big_number k) = absurd (quote_no_digit (quote_first h) (starts_at d Number text k.len k.slice.spelled))
  token_fault_once (bad_byte h) (bad_text k) = absurd (omega (arith, k.above, h.ascii))
  token_fault_once (bad_byte h) (bad_quotation k) = absurd (h.no_quote (quote_first k))
  token_fault_once (bad_byte h) (bad_byte k) = refl
  token_fault_once (bad_byte h) (unclosed_quotation k) = absurd (h.no_quote k.quote)
  token_fault_once (bad_byte h) (big_number k) = absurd (h.none Number k.len (λ s. cc) k.slice.within k.slice.spelled)
  token_fault_once (unclosed_quotation h) (bad_text k) = absurd (omega (arith, k.above, h.quote))
  token_fault_once (unclosed_quotation h) (bad_quotation k) =
      let q = quoted_spelled text h.nonempty h.quote d k.len k.slice.within k.slice.spelled in
      absurd (h.unclosed q.0 q.1)
  token_fault_once (unclosed_quotation h) (bad_byte k) = absurd (k.no_quote h.quote)
  token_fault_once (unclosed_quotation h) (unclosed_quotation k) = refl
  token_fault_once (unclosed_quotation h) (big_number k) = absurd (quote_no_digit h.quote (starts_at d Number text k.len k.slice.spelled))
  token_fault_once (big_number h) (bad_text k) = absurd (omega (arith, k.above, digit_ascii (first text) (starts_at d Number text h.len h.slice.spelled)))
  token_fault_once (big_number h) (bad_quotation k) = absurd (quote_no_digit (quote_first k) (starts_at d Number text h.len h.slice.spelled))
  token_fault_once (big_number h) (bad_byte k) = absurd (k.none Number h.len (λ s. cc) h.slice.within h.slice.spelled)
  token_fault_once (big_number h) (unclosed_quotation k) = absurd (quote_no_digit k.quote (starts_at d Number text h.len h.slice.spelled))
  token_fault_once (big_number h) (big_number k) = refl

token_fault_length : {d : Dialect} {text : List ℕ} {fault : TextFault} → IsTokenFault d text fault → 0 < length text
token_fault_length (bad_text h) = h.nonempty
token_fault_length (bad_quotation h) = omega (arith, longest_pos h.slice, h.slice.within)
token_fault_length (bad_byte h) = h.nonempty
token_fault_length (unclosed_quotation h) = h.nonempty
token_fault_length (big_number h) = omega (arith, longest_pos h.slice, h.slice.within)

-- Faults in a head.

open_no_run : {text : List ℕ} → IsOpenComment Litmus text → BeginsRun text → ⊥
open_no_run o run = both o.opens run.no_comment

open_no_string : {text : List ℕ} → IsOpenComment Litmus text → IsOpenString text → ⊥
open_no_string {text} o h = elim (opens_first Litmus text o.opens) [ inl e ↦ omega (arith, h.quote) | inr e ↦ omega (arith, h.quote) ]

information_fault_same : {text : List ℕ} {f g : TextFault} → IsInformationFault text f → IsInformationFault text g → f ≡ g
information_fault_same (unclosed_comment h) (unclosed_comment k) = refl
information_fault_same (unclosed_comment h) (unclosed_string k) = absurd (open_no_string h k)
information_fault_same (unclosed_string h) (unclosed_comment k) = absurd (open_no_string k h)
information_fault_same (unclosed_string h) (unclosed_string k) = refl

information_fault_once : {text a b : List ℕ} {f g : TextFault} → IsInformation text a → IsInformationFault a f → IsInformation text b → IsInformationFault b g → f ≡ g
information_fault_once {a = a} {b} {f} i x j y =
    let same : a ≡ b = info_once i (stops_at_fault a x) j (stops_at_fault b y) in
    information_fault_same (subst (λ l. IsInformationFault l f) same x) y

title_fault_once : {text : List ℕ} {f g : TextFault} → HasTitleFault text f → HasTitleFault text g → f ≡ g
title_fault_once (bad_name s run x) (bad_name t walk y) = refl
title_fault_once (bad_name s run x) (behind_name t b i y) =
    absurd (not_ascii_none (subst (IsNotAscii Litmus Word) (gap_once s.gap (run_stuck run) t.gap (token_stuck b)) x) b)
title_fault_once (bad_name {name = a} s run x) (with_no_name f i y) = absurd (f a s run)
title_fault_once (behind_name s b i y) (bad_name t run x) =
    absurd (not_ascii_none (subst (IsNotAscii Litmus Word) (gap_once t.gap (run_stuck run) s.gap (token_stuck b)) x) b)
title_fault_once (behind_name {name = a} {rest = r} {n = n} s b i y) (behind_name {name = c} {n = m} t e j z) =
    let same : a ≡ c = gap_once s.gap (token_stuck b) t.gap (token_stuck e) in
    let size : n ≡ m = longest_once (subst (λ l. IsLongest Litmus Word l n) same b.slice) e.slice in
    information_fault_once (subst (λ l. IsInformation l r) (ap (drop n) same ∙ ap (λ k. drop k c) size) i) y j z
title_fault_once (behind_name {name = a} s b i y) (with_no_name f j z) = absurd (f a s (token_run b))
title_fault_once (with_no_name f i y) (bad_name {name = a} s run x) = absurd (f a s run)
title_fault_once (with_no_name f i y) (behind_name {name = a} s b j z) = absurd (f a s (token_run b))
title_fault_once (with_no_name f i y) (with_no_name g j z) = information_fault_once i y j z

head_fault_once : {text : List ℕ} {f g : TextFault} → HasHeadFault text f → HasHeadFault text g → f ≡ g
head_fault_once (before_language g o) (before_language h p) = refl
head_fault_once (before_language {rest = a} g o) (bad_language h run x) =
    absurd (open_no_run (subst (IsOpenComment Litmus) (gap_once g (stuck_at_open Litmus a o) h (run_stuck run)) o) run)
head_fault_once (before_language {rest = a} g o) (behind_language h b t) =
    absurd (open_no_run (subst (IsOpenComment Litmus) (gap_once g (stuck_at_open Litmus a o) h (token_stuck b)) o) (token_run b))
head_fault_once (bad_language h run x) (before_language {rest = a} g o) =
    absurd (open_no_run (subst (IsOpenComment Litmus) (gap_once g (stuck_at_open Litmus a o) h (run_stuck run)) o) run)
head_fault_once (bad_language g run x) (bad_language h walk y) = refl
head_fault_once (bad_language g run x) (behind_language h b t) =
    absurd (not_ascii_none (subst (IsNotAscii Litmus Word) (gap_once g (run_stuck run) h (token_stuck b)) x) b)
head_fault_once (behind_language h b t) (before_language {rest = a} g o) =
    absurd (open_no_run (subst (IsOpenComment Litmus) (gap_once g (stuck_at_open Litmus a o) h (token_stuck b)) o) (token_run b))
head_fault_once (behind_language h b t) (bad_language g run x) =
    absurd (not_ascii_none (subst (IsNotAscii Litmus Word) (gap_once g (run_stuck run) h (token_stuck b)) x) b)
head_fault_once {f = f} (behind_language {language = a} {n = n} g b t) (behind_language {language = c} {n = m} h e u) =
    let same : a ≡ c = gap_once g (token_stuck b) h (token_stuck e) in
    let size : n ≡ m = longest_once (subst (λ l. IsLongest Litmus Word l n) same b.slice) e.slice in
    title_fault_once (subst (λ l. HasTitleFault l f) (ap (drop n) same ∙ ap (λ k. drop k c) size) t) u

title_fault_none : {total : ℕ} {text rest : List ℕ} {fault : TextFault} {ts : List Token} → HasTitleFault text fault → IsTitle total text ts rest → ⊥
title_fault_none (bad_name s run x) t = title_none_word s run (λ n b. not_ascii_none x b) t
title_fault_none (behind_name s b i y) t = title_none_information s b (λ r j body. info_none_fault i y r j body) t
title_fault_none (with_no_name f i y) t = title_none_nameless f (λ r j body. info_none_fault i y r j body) t

head_fault_none : {total : ℕ} {text rest : List ℕ} {fault : TextFault} {ts : List Token} → HasHeadFault text fault → IsHead total Litmus text ts rest → ⊥
head_fault_none (before_language g o) h = head_none_open g o h
head_fault_none (bad_language g run x) h = head_none_word g run (λ n b. not_ascii_none x b) h
head_fault_none (behind_language g b t) h = head_none_title g b (λ ts rest i. title_fault_none t i) h

-- Faults behind a head.

open_none : {d : Dialect} {text : List ℕ} → IsOpenComment d text → NoToken d text
open_none o kind n w b = both o.opens b.apart

module _ {d : Dialect} {total : ℕ} where
  place_once : {text body last place start end stop : List ℕ} {us vs ws xs : List Token} →
      IsHead total d text us body → HasTokens d total body vs last → IsGap d last place → IsStuck d place → NoToken d place →
      IsHead total d text ws start → HasTokens d total start xs end → IsGap d end stop → IsStuck d stop → NoToken d stop → place ≡ stop
  place_once {last = l} {place = p} {start = b} {end = e} {vs = vs} h t g s never i u j z nowhere =
      let same = head_once h i in
      let moved : HasTokens d total b vs l = subst (λ x. HasTokens d total x vs l) same.1 t in
      let r = tokens_to_stuck moved u j z nowhere in
      let stop : l ≡ e = rest_is_last r.1 g s never in
      gap_once (subst (λ x. IsGap d x p) stop g) s j z

module _ {d : Dialect} {text : List ℕ} (short : length text ≤ 65536) where
  pub cause_once : {f g : TextFault} → f ≢ NoMemory → g ≢ NoMemory → HasCause d text f → HasCause d text g → f ≡ g
  cause_once m n out_of_memory y = absurd (m refl)
  cause_once m n (too_long l) y = absurd (omega (arith, l, short))
  cause_once m n (in_head e x) out_of_memory = absurd (n refl)
  cause_once m n (in_head e x) (too_long l) = absurd (omega (arith, l, short))
  cause_once m n (in_head e x) (in_head i y) = head_fault_once x y
  cause_once m n (in_head e x) (in_comment {body = b} {words = ws} h t g o) = absurd (head_fault_none x (subst (λ k. IsHead (length text) k text ws b) e h))
  cause_once m n (in_head e x) (at_token {body = b} {words = ws} h t g z y) = absurd (head_fault_none x (subst (λ k. IsHead (length text) k text ws b) e h))
  cause_once m n (in_comment h t g o) out_of_memory = absurd (n refl)
  cause_once m n (in_comment h t g o) (too_long l) = absurd (omega (arith, l, short))
  cause_once m n (in_comment {body = b} {words = ws} h t g o) (in_head e x) = absurd (head_fault_none x (subst (λ k. IsHead (length text) k text ws b) e h))
  cause_once m n (in_comment h t g o) (in_comment i u j p) = refl
  cause_once m n (in_comment {rest = r} h t g o) (at_token {rest = q} i u j z y) =
      let same : r ≡ q = place_once h t g (stuck_at_open d r o) (open_none o) i u j (stuck_at_end d q z) (token_fault_none y) in
      absurd (both (subst (λ l. opens_comment d l ≡ true) same o.opens) z.no_comment)
  cause_once m n (at_token h t g z y) out_of_memory = absurd (n refl)
  cause_once m n (at_token h t g z y) (too_long l) = absurd (omega (arith, l, short))
  cause_once m n (at_token {body = b} {words = ws} h t g z y) (in_head e x) = absurd (head_fault_none x (subst (λ k. IsHead (length text) k text ws b) e h))
  cause_once m n (at_token {rest = q} i u j z y) (in_comment {rest = r} h t g o) =
      let same : r ≡ q = place_once h t g (stuck_at_open d r o) (open_none o) i u j (stuck_at_end d q z) (token_fault_none y) in
      absurd (both (subst (λ l. opens_comment d l ≡ true) same o.opens) z.no_comment)
  cause_once {f} m n (at_token {rest = r} h t g z x) (at_token {rest = q} i u j w y) =
      let same : r ≡ q = place_once h t g (stuck_at_end d r z) (token_fault_none x) i u j (stuck_at_end d q w) (token_fault_none y) in
      token_fault_once (subst (λ l. IsTokenFault d l f) same x) y

  pub no_cause : {ts : List Token} {f : TextFault} → f ≢ NoMemory → HasCause d text f → IsTokenList d text ts → ⊥
  no_cause m out_of_memory l = m refl
  no_cause m (too_long s) l = omega (arith, s, short)
  no_cause m (in_head e x) l = head_fault_none x (subst (λ k. IsHead (length text) k text l.words l.body) e l.head)
  no_cause m (in_comment h t g o) l = scanned_none_open (scanned_of short h t) g o l
  no_cause m (at_token h t g z y) l = scanned_none_here (scanned_of short h t) g z (token_fault_length y) (token_fault_none y) l
