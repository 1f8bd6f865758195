-- Token lists.
use Rattle.std.proofs.Common.{◌≡◌, ◌≢◌, ℕ, zero, suc, ◌-◌, ◌<◌, ◌≤◌, Bool, true, false, List, [], ◌∷◌, ◌++◌, length, take, drop, sym, refl, ap, ◌∙◌, subst, arith, append_assoc, length-drop}
use Rattle.std.specs.Prelude.{All}
use Rattle.std.proofs.lemmas.Bool.{false≢true}
use Rattle.std.proofs.lemmas.List.{append-nil, take_rest}
use Rattle.wb_text.specs.declared.token.Dialect.{Dialect}
use Rattle.wb_text.specs.declared.token.Token.{Token}
use Rattle.wb_text.specs.declared.token.TokenKind.{TokenKind}
use Rattle.wb_text.specs.declared.token.TokenKind.TheVariants.{Word, Name, Number, Quoted, Sign}
use Rattle.wb_text.specs.Faults.{NoToken}
use Rattle.wb_text.specs.Gaps.{IsGap, opens_comment, IsOpenComment, IsGapEnd}
use Rattle.wb_text.specs.Tokens.{IsWithin, IsLongest, BeginsToken, HasTokens, no_token, token, IsTitle, named, nameless, IsHead, cat, empty, words, IsTokenList, token_at}
use Rattle.wb_text.proofs.Gaps.{IsStuck, stuck_at_end, stuck_at_open, gap_once, gap_length, comment_shorter, opens_nonempty}
use Rattle.wb_text.proofs.Spelling.{Starts, starts_at, longest_pos, longest_once}
use Rattle.wb_text.proofs.Lexemes.{only_number, only_quoted, only_name, only_sign}
use Rattle.wb_text.proofs.Texts.{first}
use Rattle.wb_text.proofs.Tails.{IsTail, tail_trans, gap_tail, info_tail}
use Rattle.wb_text.proofs.Heads.{token_stuck, head_once}

both : {b : Bool} → b ≡ true → b ≡ false → ⊥
both e f = false≢true (sym f ∙ e)

same_kind : (k m : TokenKind) (b : ℕ) → k ≢ Word → m ≢ Word → Starts k b → Starts m b → k ≡ m
same_kind Word m b v w s t = absurd (v refl)
same_kind Name m b v w s t = sym (only_name m b w t s)
same_kind Number m b v w s t = sym (only_number m b w t s)
same_kind Quoted m b v w s t = sym (only_quoted m b w t s)
same_kind Sign m b v w s t = sym (only_sign m b w t s.1 s.0 s.2)

nil_stuck : {d : Dialect} → IsStuck d []
nil_stuck {d} = record { no_blank = refl; unclosed = λ r c. omega (arith, comment_shorter c) }

token_same : (total : ℕ) {k l : TokenKind} {a b : List ℕ} {n m : ℕ} → k ≡ l → a ≡ b → n ≡ m → token_at total k a n ≡ token_at total l b m
token_same total e f g = λ i. token_at total (e i) (f i) (g i)

module _ {d : Dialect} {total : ℕ} where
  -- one more token
  pub tokens_push : {text rest start : List ℕ} {ts : List Token} {kind : TokenKind} {n : ℕ} →
      HasTokens d total text ts rest → IsGap d rest start → kind ≢ Word → BeginsToken d kind start n → HasTokens d total text (ts ++ token_at total kind start n ∷ []) (drop n start)
  tokens_push no_token g w b = token g w b no_token
  tokens_push (token h v c t) g w b = token h v c (tokens_push t g w b)

  -- what begins a token list is its front
  pub tokens_to_end : {text rest last : List ℕ} {ts us : List Token} → HasTokens d total text ts rest → HasTokens d total text us last → IsGap d last [] → (vs : List Token) × (us ≡ ts ++ vs) × HasTokens d total rest vs last
  tokens_to_end {us = us} no_token t e = (us, refl, t)
  tokens_to_end (token {start = a} h v c t) no_token e =
      let same : a ≡ [] = gap_once h (token_stuck c) e nil_stuck in
      absurd (omega (arith, longest_pos c.slice, c.slice.within, ap length same))
  tokens_to_end {last = z} (token {start = a} {n = n} {kind = k} {ts = ps} h v c t) (token {start = b} {n = m} {kind = l} {ts = qs} g w x y) e =
      let same : a ≡ b = gap_once h (token_stuck c) g (token_stuck x) in
      let moved : BeginsToken d k b n = subst (λ s. BeginsToken d k s n) same c in
      let kinds : k ≡ l = same_kind k l (first b) v w (starts_at d k b n moved.slice.spelled) (starts_at d l b m x.slice.spelled) in
      let size : n ≡ m = longest_once (subst (λ q. IsLongest d q b n) kinds moved.slice) x.slice in
      let behind : HasTokens d total (drop n a) qs z = subst (λ s. HasTokens d total s qs z) (ap (λ i. drop i b) (sym size) ∙ ap (drop n) (sym same)) y in
      let r = tokens_to_end t behind e in
      (r.0, ap (λ u. u ∷ qs) (sym (token_same total kinds same size)) ∙ ap (λ l. token_at total k a n ∷ l) r.1, r.2)

  -- no token list goes on past what is never closed, or past what begins no token
  tokens_none_open : {rest mid last : List ℕ} {vs : List Token} → IsGap d rest mid → IsOpenComment d mid → HasTokens d total rest vs last → IsGap d last [] → ⊥
  tokens_none_open {mid = m} g o no_token e = omega (arith, opens_nonempty d m o.opens, ap length (gap_once g (stuck_at_open d m o) e nil_stuck))
  tokens_none_open {mid = m} g o (token h v c t) e =
      both (subst (λ l. opens_comment d l ≡ true) (gap_once g (stuck_at_open d m o) h (token_stuck c)) o.opens) c.apart

  tokens_none_here : {rest mid last : List ℕ} {vs : List Token} → IsGap d rest mid → IsStuck d mid → 0 < length mid → NoToken d mid → HasTokens d total rest vs last → IsGap d last [] → ⊥
  tokens_none_here g s l never no_token e = omega (arith, ap length (gap_once g s e nil_stuck))
  tokens_none_here g s l never (token {n = n} {kind = k} h v c t) e =
      never k n v (subst (λ x. BeginsToken d k x n) (gap_once h (token_stuck c) g s) c)

  -- what is read up to a place where nothing goes on leads there
  pub tokens_to_stuck : {text rest last end : List ℕ} {ts us : List Token} → HasTokens d total text ts rest → HasTokens d total text us last → IsGap d last end → IsStuck d end → NoToken d end → (vs : List Token) × HasTokens d total rest vs last
  tokens_to_stuck {us = us} no_token t g s never = (us, t)
  tokens_to_stuck (token {start = a} {n = n} {kind = k} h v c t) no_token g s never =
      absurd (never k n v (subst (λ x. BeginsToken d k x n) (gap_once h (token_stuck c) g s) c))
  tokens_to_stuck {last = z} (token {start = a} {n = n} {kind = k} h v c t) (token {start = b} {n = m} {kind = l} {ts = qs} f w x y) g s never =
      let same : a ≡ b = gap_once h (token_stuck c) f (token_stuck x) in
      let moved : BeginsToken d k b n = subst (λ q. BeginsToken d k q n) same c in
      let kinds : k ≡ l = same_kind k l (first b) v w (starts_at d k b n moved.slice.spelled) (starts_at d l b m x.slice.spelled) in
      let size : n ≡ m = longest_once (subst (λ q. IsLongest d q b n) kinds moved.slice) x.slice in
      let behind : HasTokens d total (drop n a) qs z = subst (λ q. HasTokens d total q qs z) (ap (λ i. drop i b) (sym size) ∙ ap (drop n) (sym same)) y in
      tokens_to_stuck t behind g s never

  pub rest_is_last : {rest last place : List ℕ} {vs : List Token} → HasTokens d total rest vs last → IsGap d rest place → IsStuck d place → NoToken d place → rest ≡ last
  rest_is_last no_token g s never = refl
  rest_is_last (token {start = a} {n = n} {kind = k} h v c t) g s never =
      absurd (never k n v (subst (λ x. BeginsToken d k x n) (gap_once h (token_stuck c) g s) c))

  pub at_end : {rest last : List ℕ} {vs : List Token} → HasTokens d total rest vs last → IsGap d rest [] → IsGap d last [] → vs ≡ []
  at_end no_token g e = refl
  at_end (token {start = a} h v c t) g e =
      let same : a ≡ [] = gap_once h (token_stuck c) g nil_stuck in
      absurd (omega (arith, longest_pos c.slice, c.slice.within, ap length same))

-- The tokens of a text up to rest.
pub record Scanned (d : Dialect) (text : List ℕ) (ts : List Token) (rest : List ℕ) : Type 0 where
  pub short : length text ≤ 65536
  pub words : List Token
  pub others : List Token
  pub body : List ℕ
  pub parts : ts ≡ words ++ others
  pub head : IsHead (length text) d text words body
  pub tokens : HasTokens d (length text) body others rest

module _ {d : Dialect} {text : List ℕ} where
  pub scanned_first : {ts : List Token} {body : List ℕ} → length text ≤ 65536 → (words : List Token) → ts ≡ words → IsHead (length text) d text words body → Scanned d text ts body
  scanned_first {body = b} s ws e h = record { short = s; words = ws; others = []; body = b; parts = e ∙ sym (append-nil ws); head = h; tokens = no_token }

  pub scanned_of : {body last : List ℕ} {words others : List Token} → length text ≤ 65536 → IsHead (length text) d text words body → HasTokens d (length text) body others last → Scanned d text (words ++ others) last
  scanned_of {body = b} {words = ws} {others = os} s h t = record { short = s; words = ws; others = os; body = b; parts = refl; head = h; tokens = t }

  pub scanned_push : {ts us : List Token} {rest : List ℕ} (start : List ℕ) (kind : TokenKind) (n : ℕ) → Scanned d text ts rest → IsGap d rest start → kind ≢ Word → BeginsToken d kind start n → us ≡ ts ++ token_at (length text) kind start n ∷ [] → Scanned d text us (take (length start - n) (drop n start))
  scanned_push start kind n s g w b e = rw take_rest (record {
    short = s.short;
    words = s.words;
    others = s.others ++ token_at (length text) kind start n ∷ [];
    body = s.body;
    parts = e ∙ ap (λ l. l ++ token_at (length text) kind start n ∷ []) s.parts ∙ append_assoc s.words s.others (token_at (length text) kind start n ∷ []);
    head = s.head;
    tokens = tokens_push s.tokens g w b;
  })

  pub scanned_list : {ts : List Token} {rest next : List ℕ} → Scanned d text ts rest → IsGap d rest next → next ≡ [] → IsTokenList d text ts
  scanned_list {rest = r} s g e = record {
    short = s.short;
    words = s.words;
    others = s.others;
    body = s.body;
    last = r;
    parts = s.parts;
    head = s.head;
    tokens = s.tokens;
    end = subst (IsGap d r) e g;
  }

  -- what is left of a token list
  left : {ts us : List Token} {rest : List ℕ} → Scanned d text ts rest → (l : IsTokenList d text us) → (vs : List Token) × (us ≡ ts ++ vs) × HasTokens d (length text) rest vs l.last
  left {ts} {us} s l =
      let h = head_once s.head l.head in
      let t = tokens_to_end s.tokens (subst (λ b. HasTokens d (length text) b l.others l.last) (sym h.1) l.tokens) l.end in
      (t.0, l.parts ∙ (λ i. sym h.0 i ++ t.1 i) ∙ sym (append_assoc s.words s.others t.0) ∙ ap (λ x. x ++ t.0) (sym s.parts), t.2)

  pub scanned_none_open : {ts us : List Token} {rest mid : List ℕ} → Scanned d text ts rest → IsGap d rest mid → IsOpenComment d mid → IsTokenList d text us → ⊥
  scanned_none_open s g o l = tokens_none_open g o (left s l).2 l.end

  pub scanned_none_here : {ts us : List Token} {rest mid : List ℕ} → Scanned d text ts rest → IsGap d rest mid → IsGapEnd d mid → 0 < length mid → NoToken d mid → IsTokenList d text us → ⊥
  scanned_none_here {mid = m} s g z p never l = tokens_none_here g (stuck_at_end d m z) p never (left s l).2 l.end

  -- a text has at most one token list
  pub list_once : {ts us : List Token} → IsTokenList d text ts → IsTokenList d text us → us ≡ ts
  list_once {ts} {us} a b =
      let s : Scanned d text ts a.last = record { short = a.short; words = a.words; others = a.others; body = a.body; parts = a.parts; head = a.head; tokens = a.tokens } in
      let p = left s b in
      p.1 ∙ ap (λ l. ts ++ l) (at_end p.2 a.end b.end) ∙ append-nil ts

-- Tokens are slices of the text.

All-cons : {X : Type 0} (P : X → Type 0) (x : X) (xs : List X) → P x → All P xs → All P (x ∷ xs)
All-cons P x xs p h zero d l = p
All-cons P x xs p h (suc k) d l = h k d (omega arith)

All-append : {X : Type 0} (P : X → Type 0) (xs ys : List X) → All P xs → All P ys → All P (xs ++ ys)
All-append P [] ys h g = g
All-append P (x ∷ xs) ys h g = All-cons P x (xs ++ ys) (h 0 x (omega arith)) (All-append P xs ys (λ k d l. h (suc k) d (omega arith)) g)

within_at : {d : Dialect} {kind : TokenKind} (total : ℕ) (text : List ℕ) (n : ℕ) → length text ≤ total → BeginsToken d kind text n → IsWithin total (token_at total kind text n)
within_at total text n l b = record { nonempty = omega (arith, longest_pos b.slice); inside = omega (arith, b.slice.within) }

tokens_within : {d : Dialect} {total : ℕ} {text rest : List ℕ} {ts : List Token} → length text ≤ total → HasTokens d total text ts rest → All (IsWithin total) ts
tokens_within l no_token = λ k d h. absurd (omega arith)
tokens_within {total = z} l (token {start = a} {n = n} {kind = k} {ts = ts} g w b t) =
    All-cons (IsWithin z) (token_at z k a n) ts (within_at z a n (omega (arith, gap_length g)) b) (tokens_within (omega (arith, gap_length g, length-drop n a)) t)

title_within : {total : ℕ} {text rest : List ℕ} {ts : List Token} → length text ≤ total → IsTitle total text ts rest → All (IsWithin total) ts
title_within {total} l (named {name = a} {n = n} s b i y) =
    All-cons (IsWithin total) (token_at total Word a n) [] (within_at total a n (omega (arith, gap_length s.gap)) b) (λ k d h. absurd (omega arith))
title_within l (nameless f i y) = λ k d h. absurd (omega arith)

head_within : {d : Dialect} {total : ℕ} {text rest : List ℕ} {ts : List Token} → length text ≤ total → IsHead total d text ts rest → All (IsWithin total) ts
head_within l cat = λ k d h. absurd (omega arith)
head_within l (empty g) = λ k d h. absurd (omega arith)
head_within {total = z} l (words {language = a} {n = n} {ts = ts} g b t) =
    All-cons (IsWithin z) (token_at z Word a n) ts (within_at z a n (omega (arith, gap_length g)) b) (title_within (omega (arith, gap_length g, length-drop n a)) t)

title_tail : {total : ℕ} {text rest : List ℕ} {ts : List Token} → IsTitle total text ts rest → IsTail text rest
title_tail {text = t} {rest = r} (named {name = a} {n = n} s b i y) = tail_trans t a r (gap_tail s.gap) (tail_trans a (drop n a) r (n, refl) (info_tail i))
title_tail (nameless f i y) = info_tail i

pub head_tail : {d : Dialect} {total : ℕ} {text rest : List ℕ} {ts : List Token} → IsHead total d text ts rest → IsTail text rest
head_tail cat = (0, refl)
head_tail (empty g) = gap_tail g
head_tail {text = t} {rest = r} (words {language = a} {n = n} g b u) = tail_trans t a r (gap_tail g) (tail_trans a (drop n a) r (n, refl) (title_tail u))

pub tokens_tail : {d : Dialect} {total : ℕ} {text rest : List ℕ} {ts : List Token} → HasTokens d total text ts rest → IsTail text rest
tokens_tail no_token = (0, refl)
tokens_tail {text = t} {rest = r} (token {start = a} {n = n} g w b u) = tail_trans t a r (gap_tail g) (tail_trans a (drop n a) r (n, refl) (tokens_tail u))

pub tail_length : (text rest : List ℕ) → IsTail text rest → length rest ≤ length text
tail_length text rest p = omega (arith, ap length p.1, length-drop p.0 text)

module _ {d : Dialect} {text : List ℕ} {ts : List Token} {rest : List ℕ} (s : Scanned d text ts rest) where
  pub scanned_tail : IsTail text rest
  scanned_tail = tail_trans text s.body rest (head_tail s.head) (tokens_tail s.tokens)

  pub scanned_within : All (IsWithin (length text)) ts
  scanned_within =
      subst (All (IsWithin (length text))) (sym s.parts) (All-append (IsWithin (length text)) s.words s.others (head_within (omega arith) s.head) (tokens_within (tail_length text s.body (head_tail s.head)) s.tokens))

pub token_length : {d : Dialect} {kind : TokenKind} {text : List ℕ} {n : ℕ} → BeginsToken d kind text n → (0 < n) × (n ≤ length text)
token_length b = (longest_pos b.slice, b.slice.within)
