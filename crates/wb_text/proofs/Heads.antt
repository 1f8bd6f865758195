-- The head of a text.
use Rattle.std.proofs.Common.{◌≡◌, ◌≢◌, ℕ, ◌-◌, ◌<◌, Bool, true, false, ◌⊎◌, inl, inr, List, [], ◌∷◌, ◌++◌, length, get_or, take, drop, not, sym, refl, ap, ◌∙◌, subst, arith, length-append, append_assoc}
use Rattle.std.specs.Prelude.{codes, nat_eq, Some, None, Result, Ok, Err, IfOk, IfErr}
use Rattle.std.specs.Borrow.{Bor}
use Rattle.memchr.specs.Find.{IsFirstByte, is_byte}
use Rattle.std.proofs.lemmas.Bool.{false≢true}
use Rattle.wb_text.specs.declared.fault.TextFault.{TextFault}
use Rattle.wb_text.specs.declared.fault.TextFault.TheVariants.{OpenComment, TooLong, NoMemory}
use Rattle.wb_text.specs.declared.token.Dialect.{Dialect}
use Rattle.wb_text.specs.declared.token.Dialect.TheVariants.{Litmus, Cat}
use Rattle.wb_text.specs.declared.token.Token.{Token}
use Rattle.wb_text.specs.declared.token.TokenKind.{TokenKind}
use Rattle.wb_text.specs.declared.token.TokenKind.TheVariants.{Word}
use Rattle.wb_text.specs.Bytes.{is_blank}
use Rattle.wb_text.specs.Faults.{IsInformationFault, unclosed_comment, unclosed_string, HasTitleFault, behind_name, with_no_name, HasHeadFault, behind_language, HasCause, out_of_memory, in_head}
use Rattle.wb_text.specs.Gaps.{IsQuoted, IsComment, IsGap, none, blank, comment, opens_comment, IsOpenComment, IsGapEnd}
use Rattle.wb_text.specs.Tokens.{IsLongest, BeginsToken, BeginsRun, IsSameLine, IsInformation, nothing, commented, quoted, plain, IsBody, IsTitle, named, nameless, IsHead, cat, empty, words, token_at}
use Rattle.std.proofs.lemmas.List.{take_rest, take_at, get_or_default, append-nil}
use Rattle.wb_text.proofs.Texts.{first, first_blank, not_true, not_false, range_is}
use Rattle.wb_text.proofs.Lexemes.{begins_with_byte}
use Rattle.wb_text.proofs.Tails.{tail_split, gap_tail}
use Rattle.wb_text.proofs.Quotes.{quoted_once}
use Rattle.wb_text.proofs.Spelling.{starts_at, starts_no_blank, longest_pos, longest_once}
use Rattle.wb_text.proofs.Gaps.{IsStuck, stuck_at_end, stuck_at_open, gap_once, comment_once, comment_opens, comment_shorter, opens_no_blank, opens_nonempty, opens_first, blank_nonempty}

both : {b : Bool} → b ≡ true → b ≡ false → ⊥
both e f = false≢true (sym f ∙ e)

-- a token stands at a stuck place
pub token_stuck : {d : Dialect} {kind : TokenKind} {text : List ℕ} {n : ℕ} → BeginsToken d kind text n → IsStuck d text
token_stuck {d} {kind} {text} {n} b = record {
  no_blank = first_blank text (omega (arith, longest_pos b.slice, b.slice.within)) ∙ starts_no_blank kind (first text) (starts_at d kind text n b.slice.spelled);
  unclosed = λ rest c. both (comment_opens d c) b.apart;
}

pub token_run : {text : List ℕ} {n : ℕ} → BeginsToken Litmus Word text n → BeginsRun text
token_run {text} {n} b = record {
  byte = omega (arith, longest_pos b.slice, b.slice.within);
  no_blank = (token_stuck b).no_blank;
  no_comment = b.apart;
}

pub run_stuck : {text : List ℕ} → BeginsRun text → IsStuck Litmus text
run_stuck {text} b = stuck_at_end Litmus text (record { no_blank = b.no_blank; no_comment = b.no_comment })

-- Information ends at one place.

comment_first : {text rest : List ℕ} → IsComment Litmus text rest → (first text ≡ 40) ⊎ (first text ≡ 47)
comment_first {text} c = opens_first Litmus text (comment_opens Litmus c)

opens_no_body : (text : List ℕ) → opens_comment Litmus text ≡ true → IsBody text → ⊥
opens_no_body text o b =
    let at : first text ≡ 123 = b (opens_nonempty Litmus text o) in
    elim (opens_first Litmus text o) [ inl e ↦ omega arith | inr e ↦ omega arith ]

opens_no_quote : (text inside : List ℕ) → opens_comment Litmus text ≡ true → text ≡ codes "\"" ++ inside → ⊥
opens_no_quote text inside o e =
    let at : first text ≡ 34 = ap first e in
    elim (opens_first Litmus text o) [ inl f ↦ omega arith | inr f ↦ omega arith ]

quote_no_body : (text inside : List ℕ) → text ≡ codes "\"" ++ inside → IsBody text → ⊥
quote_no_body text inside e b =
    let at : first text ≡ 123 = b (omega (arith, ap length e)) in
    omega (arith, ap first e)

-- No information goes on here.
pub record Stops (text : List ℕ) : Type 0 where
  pub no_comment : (rest : List ℕ) → IsComment Litmus text rest → ⊥
  pub no_quotation : (inside rest : List ℕ) → text ≡ codes "\"" ++ inside → IsQuoted inside rest → ⊥
  pub no_plain : 0 < length text → first text ≢ 123 → first text ≢ 34 → opens_comment Litmus text ≡ false → ⊥

pub stops_at_body : (text : List ℕ) → IsBody text → Stops text
stops_at_body text b = record {
  no_comment = λ rest c. opens_no_body text (comment_opens Litmus c) b;
  no_quotation = λ inside rest e q. quote_no_body text inside e b;
  no_plain = λ l n m o. n (b l);
}

pub stops_at_fault : (text : List ℕ) {fault : TextFault} → IsInformationFault text fault → Stops text
stops_at_fault text (unclosed_comment h) = record {
  no_comment = h.unclosed;
  no_quotation = λ inside rest e q. opens_no_quote text inside h.opens e;
  no_plain = λ l n m o. both h.opens o;
}
stops_at_fault text (unclosed_string h) = record {
  no_comment = λ rest c. elim (comment_first c) [ inl g ↦ omega (arith, h.quote) | inr g ↦ omega (arith, h.quote) ];
  no_quotation = λ inside rest e q. h.unclosed rest (subst (λ l. IsQuoted l rest) (sym (ap (drop 1) e)) q);
  no_plain = λ l n m o. m h.quote;
}

info_behind_comment : {text behind end : List ℕ} → IsInformation text end → Stops end → IsComment Litmus text behind → IsInformation behind end
info_behind_comment {behind = w} nothing s c = absurd (s.no_comment w c)
info_behind_comment {end = z} (commented f g) s c = subst (λ l. IsInformation l z) (comment_once f c) g
info_behind_comment {text = t} (quoted {inside = i} e q g) s c = absurd (opens_no_quote t i (comment_opens Litmus c) e)
info_behind_comment (plain l n m o g) s c = absurd (both (comment_opens Litmus c) o)

info_behind_quoted : {text inside behind end : List ℕ} → IsInformation text end → Stops end → text ≡ codes "\"" ++ inside → IsQuoted inside behind → IsInformation behind end
info_behind_quoted {inside = i} {behind} nothing s e q = absurd (s.no_quotation i behind e q)
info_behind_quoted {text = t} {inside = i} (commented f g) s e q = absurd (opens_no_quote t i (comment_opens Litmus f) e)
info_behind_quoted {inside = i} {behind} {end} (quoted {behind = w} f p g) s e q =
    let same : IsQuoted i w = subst (λ l. IsQuoted l w) (ap (drop 1) (sym f ∙ e)) p in
    subst (λ l. IsInformation l end) (quoted_once same q) g
info_behind_quoted (plain l n m o g) s e q = absurd (m (ap first e))

info_behind_other : {text end : List ℕ} → IsInformation text end → Stops end → 0 < length text → first text ≢ 123 → first text ≢ 34 → opens_comment Litmus text ≡ false → IsInformation (drop 1 text) end
info_behind_other nothing s l n m o = absurd (s.no_plain l n m o)
info_behind_other (commented f g) s l n m o = absurd (both (comment_opens Litmus f) o)
info_behind_other (quoted f p g) s l n m o = absurd (m (ap first f))
info_behind_other (plain x y z w g) s l n m o = g

pub info_trans : {text mid rest : List ℕ} → IsInformation text mid → IsInformation mid rest → IsInformation text rest
info_trans nothing g = g
info_trans (commented c f) g = commented c (info_trans f g)
info_trans (quoted e q f) g = quoted e q (info_trans f g)
info_trans (plain l n m o f) g = plain l n m o (info_trans f g)

pub info_to_stop : {text mid end : List ℕ} → IsInformation text mid → IsInformation text end → Stops end → IsInformation mid end
info_to_stop nothing g s = g
info_to_stop (commented c f) g s = info_to_stop f (info_behind_comment g s c) s
info_to_stop (quoted e q f) g s = info_to_stop f (info_behind_quoted g s e q) s
info_to_stop (plain l n m o f) g s = info_to_stop f (info_behind_other g s l n m o) s

info_stays : {text end : List ℕ} → IsInformation text end → Stops text → text ≡ end
info_stays nothing s = refl
info_stays (commented {behind = w} c f) s = absurd (s.no_comment w c)
info_stays (quoted {inside = i} {behind = w} e q f) s = absurd (s.no_quotation i w e q)
info_stays (plain l n m o f) s = absurd (s.no_plain l n m o)

pub info_once : {text a b : List ℕ} → IsInformation text a → Stops a → IsInformation text b → Stops b → a ≡ b
info_once f x g y = info_stays (info_to_stop f g y) x

-- no body is reached past what is never closed
fault_no_body : {text : List ℕ} {fault : TextFault} → IsInformationFault text fault → IsBody text → ⊥
fault_no_body {text} (unclosed_comment h) b = opens_no_body text h.opens b
fault_no_body (unclosed_string h) b = omega (arith, b h.nonempty, h.quote)

pub info_none_fault : {text mid : List ℕ} {fault : TextFault} → IsInformation text mid → IsInformationFault mid fault → (rest : List ℕ) → IsInformation text rest → IsBody rest → ⊥
info_none_fault {mid = m} {fault} f h rest g b =
    let same : m ≡ rest = info_once f (stops_at_fault m h) g (stops_at_body rest b) in
    fault_no_body (subst (λ l. IsInformationFault l fault) same h) b

pub info_none_open : {text mid : List ℕ} → IsInformation text mid → IsOpenComment Litmus mid → (rest : List ℕ) → IsInformation text rest → IsBody rest → ⊥
info_none_open f o rest g b = info_none_fault f (unclosed_comment o) rest g b

-- a gap is information too
pub gap_information : {text rest : List ℕ} → IsGap Litmus text rest → IsInformation text rest
gap_information none = nothing
gap_information {text = t} (blank n g) =
    let l = blank_nonempty t n in
    let e : is_blank (first t) ≡ true = sym (first_blank t l) ∙ n in
    plain l
    (λ f. both e (ap is_blank f))
    (λ f. both e (ap is_blank f))
    (not_true (opens_comment Litmus t) (λ o. both n (opens_no_blank Litmus t o)))
    (gap_information g)
gap_information (comment c g) = commented c (gap_information g)

-- Titles.

module _ {total : ℕ} where
  pub title_none_open : {text mid rest : List ℕ} {ts : List Token} → IsGap Litmus text mid → IsOpenComment Litmus mid → IsTitle total text ts rest → ⊥
  title_none_open {mid = m} g o (named s b i y) =
      both (subst (λ l. opens_comment Litmus l ≡ true) (gap_once g (stuck_at_open Litmus m o) s.gap (token_stuck b)) o.opens) b.apart
  title_none_open {rest = r} g o (nameless f i y) = info_none_open (gap_information g) o r i y

  pub title_none_word : {text name rest : List ℕ} {ts : List Token} → IsSameLine text name → BeginsRun name → ((n : ℕ) → BeginsToken Litmus Word name n → ⊥) → IsTitle total text ts rest → ⊥
  title_none_word s run never (named {n = k} t b i y) =
      never k (subst (λ l. BeginsToken Litmus Word l k) (gap_once t.gap (token_stuck b) s.gap (run_stuck run)) b)
  title_none_word {name = a} s run never (nameless f i y) = f a s run

  pub title_none_information : {text name rest : List ℕ} {ts : List Token} {n : ℕ} → IsSameLine text name → BeginsToken Litmus Word name n → ((rest : List ℕ) → IsInformation (drop n name) rest → IsBody rest → ⊥) → IsTitle total text ts rest → ⊥
  title_none_information {name = a} {rest = r} {n = n} s b never (named {name = c} {n = k} t d i y) =
      let same : c ≡ a = gap_once t.gap (token_stuck d) s.gap (token_stuck b) in
      let size : k ≡ n = longest_once (subst (λ l. IsLongest Litmus Word l k) same d.slice) b.slice in
      never r (subst (λ l. IsInformation l r) (ap (drop k) same ∙ ap (λ m. drop m a) size) i) y
  title_none_information {name = a} s b never (nameless f i y) = f a s (token_run b)

  pub title_none_nameless : {text rest : List ℕ} {ts : List Token} → ((name : List ℕ) → IsSameLine text name → BeginsRun name → ⊥) → ((rest : List ℕ) → IsInformation text rest → IsBody rest → ⊥) → IsTitle total text ts rest → ⊥
  title_none_nameless f never (named {name = a} s b i y) = f a s (token_run b)
  title_none_nameless {rest = r} f never (nameless g i y) = never r i y

  pub title_once : {text a b : List ℕ} {ts us : List Token} → IsTitle total text ts a → IsTitle total text us b → (ts ≡ us) × (a ≡ b)
  title_once {a = x} {b = z} (named {name = c} {n = k} s b i y) (named {name = d} {n = m} t e j w) =
      let same : c ≡ d = gap_once s.gap (token_stuck b) t.gap (token_stuck e) in
      let size : k ≡ m = longest_once (subst (λ l. IsLongest Litmus Word l k) same b.slice) e.slice in (
        (λ q. token_at total Word (same q) (size q) ∷ []),
        info_once (subst (λ l. IsInformation l x) (ap (drop k) same ∙ ap (λ h. drop h d) size) i) (stops_at_body x y) j (stops_at_body z w),
      )
  title_once (named {name = c} s b i y) (nameless f j w) = absurd (f c s (token_run b))
  title_once (nameless f i y) (named {name = d} t e j w) = absurd (f d t (token_run e))
  title_once {a = x} {b = z} (nameless f i y) (nameless g j w) = (refl, info_once i (stops_at_body x y) j (stops_at_body z w))

  -- Heads.

  pub head_none_open : {text mid rest : List ℕ} {ts : List Token} → IsGap Litmus text mid → IsOpenComment Litmus mid → IsHead total Litmus text ts rest → ⊥
  head_none_open {mid = m} g o (empty h) =
      let same : m ≡ [] = gap_once g (stuck_at_open Litmus m o) h (record { no_blank = refl; unclosed = λ r c. omega (arith, comment_shorter c) }) in
      omega (arith, opens_nonempty Litmus m o.opens, ap length same)
  head_none_open {mid = m} g o (words h b t) =
      both (subst (λ l. opens_comment Litmus l ≡ true) (gap_once g (stuck_at_open Litmus m o) h (token_stuck b)) o.opens) b.apart

  pub head_none_word : {text language rest : List ℕ} {ts : List Token} → IsGap Litmus text language → BeginsRun language → ((n : ℕ) → BeginsToken Litmus Word language n → ⊥) → IsHead total Litmus text ts rest → ⊥
  head_none_word {language = a} g run never (empty h) =
      let same : a ≡ [] = gap_once g (run_stuck run) h (record { no_blank = refl; unclosed = λ r c. omega (arith, comment_shorter c) }) in
      omega (arith, run.byte, ap length same)
  head_none_word g run never (words {n = k} h b t) =
      never k (subst (λ l. BeginsToken Litmus Word l k) (gap_once h (token_stuck b) g (run_stuck run)) b)

  pub head_none_title : {text language rest : List ℕ} {ts : List Token} {n : ℕ} → IsGap Litmus text language → BeginsToken Litmus Word language n → ((ts : List Token) (rest : List ℕ) → IsTitle total (drop n language) ts rest → ⊥) → IsHead total Litmus text ts rest → ⊥
  head_none_title {language = a} g b never (empty h) =
      let same : a ≡ [] = gap_once g (token_stuck b) h (record { no_blank = refl; unclosed = λ r c. omega (arith, comment_shorter c) }) in
      omega (arith, (token_run b).byte, ap length same)
  head_none_title {language = a} {rest = r} {n = n} g b never (words {language = c} {n = k} {ts = us} h d t) =
      let same : c ≡ a = gap_once h (token_stuck d) g (token_stuck b) in
      let size : k ≡ n = longest_once (subst (λ l. IsLongest Litmus Word l k) same d.slice) b.slice in
      never us r (subst (λ l. IsTitle total l us r) (ap (drop k) same ∙ ap (λ m. drop m a) size) t)

  pub head_once : {d : Dialect} {text a b : List ℕ} {ts us : List Token} → IsHead total d text ts a → IsHead total d text us b → (ts ≡ us) × (a ≡ b)
  head_once cat cat = (refl, refl)
  head_once (empty g) (empty h) = (refl, refl)
  head_once (empty g) (words {language = c} h b t) =
      let same : [] ≡ c = gap_once g (record { no_blank = refl; unclosed = λ r c. omega (arith, comment_shorter c) }) h (token_stuck b) in
      absurd (omega (arith, (token_run b).byte, ap length same))
  head_once (words {language = c} h b t) (empty g) =
      let same : [] ≡ c = gap_once g (record { no_blank = refl; unclosed = λ r c. omega (arith, comment_shorter c) }) h (token_stuck b) in
      absurd (omega (arith, (token_run b).byte, ap length same))
  head_once {a = x} (words {language = c} {n = k} {ts = us} g b t) (words {language = e} {n = m} h d u) =
      let same : c ≡ e = gap_once g (token_stuck b) h (token_stuck d) in
      let size : k ≡ m = longest_once (subst (λ l. IsLongest Litmus Word l k) same b.slice) d.slice in
      let p = title_once (subst (λ l. IsTitle total l us x) (ap (drop k) same ∙ ap (λ i. drop i e) size) t) u in
      ((λ q. token_at total Word (same q) (size q) ∷ p.0 q), p.1)

-- Information as the code goes on with it.
module _ {text : List ℕ} (rest : List ℕ) (f : IsInformation text rest) where
  pub info_more_quoted : {after : List ℕ} → 0 < length rest → first rest ≡ 34 → IsQuoted (take (length rest - 1) (drop 1 rest)) after → IsInformation text after
  info_more_quoted {after} l e q =
      info_trans f (quoted (begins_with_byte rest 34 l e) (subst (λ u. IsQuoted u after) (range_is 1 rest) q) nothing)

  pub info_more_comment : {after : List ℕ} → IsComment Litmus rest after → IsInformation text after
  info_more_comment c = info_trans f (commented c nothing)

  pub info_more_plain : 0 < length rest → (first rest ≡ 123 → ⊥) → (first rest ≡ 34 → ⊥) → opens_comment Litmus rest ≡ false → IsInformation text (take (length rest - 1) (drop 1 rest))
  info_more_plain l n m o = rw take_rest (info_trans f (plain l n m o nothing))

-- The next run, as the code finds it.
module _ {text : List ℕ} (next : List ℕ) (g : IsGap Litmus text next) (z : IsGapEnd Litmus next) where
  pub line_ends : length next ≡ 0 → (x : List ℕ) → IsSameLine text x → BeginsRun x → ⊥
  line_ends void x s run = omega (arith, run.byte, ap length (gap_once g (stuck_at_end Litmus next z) s.gap (run_stuck run)))

  pub line_fed : (k : ℕ) → IsFirstByte (is_byte 10) (take (length text - length next) text) (Some k) → (x : List ℕ) → IsSameLine text x → BeginsRun x → ⊥
  line_fed k feed x s run =
      let same : next ≡ x = gap_once g (stuck_at_end Litmus next z) s.gap (run_stuck run) in
      let size : length s.passed ≡ length text - length next = omega (arith, ap length s.split, length-append s.passed x, ap length same) in
      let passed : take (length text - length next) text ≡ s.passed = ap (take (length text - length next)) s.split ∙ take_at s.passed x (length text - length next) size in
      let here : get_or (take (length text - length next) text) k 0 ≡ get_or s.passed k 0 = ap (λ l. get_or l k 0) passed in
      let inside : k < length s.passed = omega (arith, feed.0.high, ap length passed) in
      both (feed.1) (ap (λ b. nat_eq b 10) here ∙ not_false _ (s.no_feed k 0 inside))

  pub line_clear : IsFirstByte (is_byte 10) (take (length text - length next) text) None → IsSameLine text next
  line_clear clear = record {
    gap = g;
    passed = take (length text - length next) text;
    split = tail_split text next (gap_tail g);
    no_feed = λ k x l. ap not (not_true _ (λ e. clear k (omega arith) l (ap (λ b. nat_eq b 10) (get_or_default (take (length text - length next) text) k 0 x l) ∙ e)));
  }

  pub line_run : 0 < length next → BeginsRun next
  line_run l = record { byte = l; no_blank = z.no_blank; no_comment = z.no_comment }

-- What a head gives, as the code puts it together.

module _ (total : ℕ) (text : List ℕ) (old new : List Token) where
  pub title_nameless : (r : Result (Bor (List ℕ)) TextFault) → ((name : List ℕ) → IsSameLine text name → BeginsRun name → ⊥) → IfOk r (λ rest. IsInformation text rest.now × IsBody rest.now) → IfOk r (λ rest. (names : List Token) × IsTitle total text names rest.now × (old ≡ old ++ names))
  title_nameless (Ok rest) f h = ([], nameless f h.0 h.1, sym (append-nil old))
  title_nameless (Err e) f h = tt

  pub title_named : (r : Result (Bor (List ℕ)) TextFault) (name : List ℕ) (n : ℕ) → IsSameLine text name → BeginsToken Litmus Word name n → new ≡ old ++ token_at total Word name n ∷ [] → IfOk r (λ rest. IsInformation (take (length name - n) (drop n name)) rest.now × IsBody rest.now) → IfOk r (λ rest. (names : List Token) × IsTitle total text names rest.now × (new ≡ old ++ names))
  title_named (Ok rest) name n s b e h = (token_at total Word name n ∷ [], named s b (subst (λ l. IsInformation l rest.now) (range_is n name) h.0) h.1, e)
  title_named (Err d) name n s b e h = tt

  pub title_err_nameless : (r : Result (Bor (List ℕ)) TextFault) → ((name : List ℕ) → IsSameLine text name → BeginsRun name → ⊥) → IfErr r (λ e. (rest : List ℕ) → IsInformation text rest → IsBody rest → ⊥) → IfErr r (λ e. e ≢ NoMemory → (names : List Token) (rest : List ℕ) → IsTitle total text names rest → ⊥)
  title_err_nameless (Ok rest) f h = tt
  title_err_nameless (Err e) f h = λ m names rest t. title_none_nameless f h t

  pub title_err_named : (r : Result (Bor (List ℕ)) TextFault) (name : List ℕ) (n : ℕ) → IsSameLine text name → BeginsToken Litmus Word name n → IfErr r (λ e. (rest : List ℕ) → IsInformation (take (length name - n) (drop n name)) rest → IsBody rest → ⊥) → IfErr r (λ e. e ≢ NoMemory → (names : List Token) (rest : List ℕ) → IsTitle total text names rest → ⊥)
  title_err_named (Ok rest) name n s b h = tt
  title_err_named (Err e) name n s b h = λ m names rest t. title_none_information s b (λ z i y. h z (subst (λ l. IsInformation l z) (sym (range_is n name)) i) y) t

  pub head_words : (r : Result (Bor (List ℕ)) TextFault) (mid : List Token) (language : List ℕ) (n : ℕ) → IsGap Litmus text language → BeginsToken Litmus Word language n → mid ≡ old ++ token_at total Word language n ∷ [] → IfOk r (λ rest. (names : List Token) × IsTitle total (take (length language - n) (drop n language)) names rest.now × (new ≡ mid ++ names)) → IfOk r (λ rest. (words : List Token) × IsHead total Litmus text words rest.now × (new ≡ old ++ words))
  head_words (Ok rest) mid language n g b e h = (
    token_at total Word language n ∷ h.0,
    words g b (subst (λ l. IsTitle total l h.0 rest.now) (range_is n language) h.1),
    h.2 ∙ ap (λ l. l ++ h.0) e ∙ append_assoc old (token_at total Word language n ∷ []) h.0,
  )
  head_words (Err d) mid language n g b e h = tt

  pub head_err : (r : Result (Bor (List ℕ)) TextFault) (language : List ℕ) (n : ℕ) → IsGap Litmus text language → BeginsToken Litmus Word language n → IfErr r (λ e. e ≢ NoMemory → (names : List Token) (rest : List ℕ) → IsTitle total (take (length language - n) (drop n language)) names rest → ⊥) → IfErr r (λ e. e ≢ NoMemory → (words : List Token) (rest : List ℕ) → IsHead total Litmus text words rest → ⊥)
  head_err (Ok rest) language n g b h = tt
  head_err (Err e) language n g b h = λ m ts rest t. head_none_title g b (λ us z i. h m us z (subst (λ l. IsTitle total l us z) (sym (range_is n language)) i)) t

pub head_void : {total : ℕ} {text next : List ℕ} → IsGap Litmus text next → next ≡ [] → IsHead total Litmus text [] next
head_void {total} {text} {next} g e = subst (λ l. IsHead total Litmus text [] l) (sym e) (empty (subst (λ l. IsGap Litmus text l) e g))

pub head_cat : {total : ℕ} {d : Dialect} {text : List ℕ} → d ≡ Cat → IsHead total d text [] text
head_cat {total} {d} {text} e = subst (λ x. IsHead total x text [] text) (sym e) cat

-- Faults in a head, as the code meets them.

pub title_open : {text mid : List ℕ} → IsGap Litmus text mid → IsOpenComment Litmus mid → HasTitleFault text OpenComment
title_open {mid = m} g o =
    with_no_name
    (λ name s run. both (subst (λ l. opens_comment Litmus l ≡ true) (gap_once g (stuck_at_open Litmus m o) s.gap (run_stuck run)) o.opens) run.no_comment)
    (gap_information g)
    (unclosed_comment o)

-- a fault in the information that text goes on with
abbrev pub InformationFails : List ℕ → TextFault → Type 0
InformationFails text fault = (rest : List ℕ) × IsInformation text rest × IsInformationFault rest fault

module _ (text : List ℕ) where
  pub title_cause_nameless : (r : Result (Bor (List ℕ)) TextFault) → ((name : List ℕ) → IsSameLine text name → BeginsRun name → ⊥) → IfErr r (λ e. InformationFails text e) → IfErr r (λ e. e ≢ NoMemory → HasTitleFault text e)
  title_cause_nameless (Ok x) f h = tt
  title_cause_nameless (Err e) f h = λ m. with_no_name f h.1 h.2

  pub title_cause_named : (r : Result (Bor (List ℕ)) TextFault) (name : List ℕ) (n : ℕ) → IsSameLine text name → BeginsToken Litmus Word name n → IfErr r (λ e. InformationFails (take (length name - n) (drop n name)) e) → IfErr r (λ e. e ≢ NoMemory → HasTitleFault text e)
  title_cause_named (Ok x) name n s b h = tt
  title_cause_named (Err e) name n s b h = λ m. behind_name s b (subst (λ l. IsInformation l h.0) (range_is n name) h.1) h.2

  pub head_cause_title : (r : Result (Bor (List ℕ)) TextFault) (language : List ℕ) (n : ℕ) → IsGap Litmus text language → BeginsToken Litmus Word language n → IfErr r (λ e. e ≢ NoMemory → HasTitleFault (take (length language - n) (drop n language)) e) → IfErr r (λ e. e ≢ NoMemory → HasHeadFault text e)
  head_cause_title (Ok x) language n g b h = tt
  head_cause_title (Err e) language n g b h = λ m. behind_language g b (subst (λ l. HasTitleFault l e) (range_is n language) (h m))

  pub head_cause_litmus : (d : Dialect) (r : Result (Bor (List ℕ)) TextFault) → d ≡ Litmus → IfErr r (λ e. e ≢ NoMemory → HasHeadFault text e) → IfErr r (λ e. e ≢ NoMemory → (d ≡ Litmus) × HasHeadFault text e)
  head_cause_litmus d (Ok x) is h = tt
  head_cause_litmus d (Err e) is h = λ m. (is, h m)

info_not_long : {text : List ℕ} {fault : TextFault} → IsInformationFault text fault → fault ≡ TooLong → ⊥
info_not_long (unclosed_comment h) e = cc
info_not_long (unclosed_string h) e = cc

title_not_long : {text : List ℕ} → HasTitleFault text TooLong → ⊥
title_not_long (behind_name s b i f) = info_not_long f refl
title_not_long (with_no_name s i f) = info_not_long f refl

head_not_long : {text : List ℕ} → HasHeadFault text TooLong → ⊥
head_not_long (behind_language g b t) = title_not_long t

-- no head is too long
pub head_short : {d : Dialect} {text : List ℕ} (e : TextFault) → (e ≢ NoMemory → (d ≡ Litmus) × HasHeadFault text e) → e ≢ TooLong
head_short {text = text} e h long =
    let other : e ≢ NoMemory = λ m. cc in
    head_not_long (subst (HasHeadFault text) long (h other).1)

pub head_cause : {d : Dialect} {text : List ℕ} (e : TextFault) → (e ≢ NoMemory → (d ≡ Litmus) × HasHeadFault text e) → HasCause d text e
head_cause NoMemory h = out_of_memory
head_cause e h = let p = h (λ m. cc) in in_head p.0 p.1
