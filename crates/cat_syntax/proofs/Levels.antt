-- What the loops and the recursion of the levels use.
use Rattle.std.proofs.lemmas.List.{map-append}
use Rattle.std.proofs.lemmas.Bool.{cases_Bool}
use Rattle.std.proofs.Common.{◌≡◌, ◌∙◌, ℕ, zero, suc, ◌<◌, ◌≤◌, List, [], ◌∷◌, ◌++◌, map, length, arith, ap, sym, subst, refl, true, false, inl, inr}
use Rattle.std.specs.Prelude.{Some, Ok, Err, if◌then◌else◌}
use Rattle.cat_syntax.specs.declared.symbol.Terminal.{Terminal}
use Rattle.cat_syntax.specs.declared.symbol.Terminal.TheVariants.{Domain, Range, Underscore, Zero, LeftBrace, RightBrace, Tilde, LeftParen, RightParen, LeftBracket, Comma}
use Rattle.descent.specs.Reading.{Look, match_option, ◌>>=◌, repeated}
use Rattle.descent.proofs.Tools.{bind_ok, cases_of, moved, moved_look, none_or_some, ok_or_err}
use Rattle.descent.proofs.Turns.{repeated-more}
use Rattle.cat_tree.specs.declared.node.Infix.{Infix}
use Rattle.cat_syntax.specs.declared.operator.Enclosure.{Enclosure}
use Rattle.cat_syntax.specs.declared.operator.Postfix.{Postfix}
use Rattle.cat_syntax.specs.declared.syntax_fault.SyntaxFault.TheVariants.{Unexpected, TooDeep}
use Rattle.cat_syntax.specs.declared.symbol.Symbol.{Symbol}
use Rattle.cat_syntax.specs.declared.symbol.Symbol.TheVariants.{Fixed}
use Rattle.cat_tree.specs.declared.expression.Expression.{Expression}
use Rattle.cat_tree.specs.Terms.{nest}
use Rattle.cat_tree.specs.Tree.{Word, Term, term_of, pair_of, complement, name, universe, empty_relation, empty_set}
use Rattle.cat_syntax.specs.Grammar.{joined}
use Rattle.cat_syntax.specs.Reading.{Reading, after, expected, name_at, push_item, separated, begins_call, arguments_with, call_with, infix_at, associates_left, postfix_at, applied_at, next_operand, chain_right, left, right, signed, enclosure_at, opened, leaf_at, enclosed_with, primary_with, postfix_with, unary_with, level_with, below, cut}
use Rattle.cat_syntax.proofs.Separated.{turn_shorter, list-more, after_no_longer}
use Rattle.cat_syntax.proofs.Symbols as symbols
use Rattle.cat_syntax.proofs.Sound.{level-shorter, level_is}

pub infix_takes : (k : ℕ) (ts rest : List Symbol) (o : Infix) → infix_at k ts ≡ Some (o, rest) → length rest < length ts
infix_takes = symbols.infix_takes

pub postfix_takes : (ts rest : List Symbol) (o : Postfix) → postfix_at ts ≡ Some (o, rest) → length rest < length ts
postfix_takes = symbols.postfix_takes

pub level_takes : (n k : ℕ) (ts rest : List Symbol) (a : Term) → level_with (below n) k ts ≡ Ok (a, rest) → length rest < length ts
level_takes n k ts rest a e = level-shorter (level_is n k ts rest a e)

pub after_takes : (t : Terminal) (ts rest : List Symbol) (u : Unit {0}) → after t ts ≡ Some (u, rest) → length rest < length ts
after_takes = symbols.after_takes

pub name_takes : (ts rest : List Symbol) (x : Word) → name_at ts ≡ Ok (x, rest) → length rest < length ts
name_takes ts rest x e = omega (arith, ap length (symbols.name-ok ts rest x e))

pub leaf_parts : (ts : List Symbol) →
    leaf_at ts ≡ match_option (after Underscore ts)
    (match_option (after Zero ts)
    (match_option (after LeftBrace ts) (name_at ts >>= λ x. Ok (name x.0, x.1)) (λ y. expected RightBrace y.1 >>= λ z. Ok (empty_set, z.1)))
    (λ y. Ok (empty_relation, y.1)))
    (λ y. Ok (universe, y.1))
unfolding leaf_at after name_at expected
leaf_parts (Fixed Zero ∷ ts) = refl
leaf_parts [] = refl
leaf_parts (t ∷ ts) = refl

-- the ways into an operand

without-sign : (r : Reading Term) → r ≡ (r >>= λ x. Ok (x.0, x.1))
without-sign (Ok x) = refl
without-sign (Err d) = refl

primary_enclosed : (n : ℕ) (ts : List Symbol) →
    primary_with (below n) ts ≡ match_option (enclosure_at ts) (if begins_call ts then call_with (below n) ts else leaf_at ts) (λ y. enclosed_with (below n) y.0.opening y.0.closing y.1 >>= λ x. Ok (signed y.0.sign x.0, x.1))
unfolding primary_with enclosure_at leaf_at begins_call call_with name_at
primary_enclosed n (Fixed LeftParen ∷ ts) = without-sign (enclosed_with (below n) LeftParen RightParen (Fixed LeftParen ∷ ts))
primary_enclosed n [] = refl
primary_enclosed n (t ∷ ts) = refl

-- the closing sign, and what stands between the signs with what is before them
abbrev pub closed : Enclosure → Term × List Symbol → Reading Term
closed e a = expected e.closing a.1 >>= λ z. Ok (signed e.sign a.0, z.1)

enclosed_parts : (n : ℕ) (e : Enclosure) (ts : List Symbol) →
    (enclosed_with (below n) e.opening e.closing ts >>= λ x. Ok (signed e.sign x.0, x.1)) ≡ (opened n e.opening ts >>= λ m. level_with (below m.0) 5 m.1 >>= closed e)
unfolding enclosed_with expected below opened
enclosed_parts zero e ts =
    elim (none_or_some (after e.opening ts)) [
      | inl f ↦ rw f refl
      | inr (x, f) ↦ rw f refl
    ]
enclosed_parts (suc n) e ts =
    elim (none_or_some (after e.opening ts)) [
      | inl f ↦ rw f refl
      | inr (x, f) ↦ rw f (elim (ok_or_err (level_with (below n) 5 x.1)) [
        | inl (d, g) ↦ rw g refl
        | inr (a, g) ↦ rw g (elim (none_or_some (after e.closing a.1)) [
          | inl h ↦ rw h refl
          | inr (y, h) ↦ rw h refl
        ])
      ])
    ]

pub primary_parts : (n : ℕ) (ts : List Symbol) →
    primary_with (below n) ts ≡ match_option (enclosure_at ts) (if begins_call ts then call_with (below n) ts else leaf_at ts) (λ y. opened n y.0.opening y.1 >>= λ m. level_with (below m.0) 5 m.1 >>= closed y.0)
primary_parts n ts =
    primary_enclosed n ts ∙ elim (none_or_some (enclosure_at ts)) [
      | inl f ↦ rw f refl
      | inr (y, f) ↦ rw f (enclosed_parts n y.0 y.1)
    ]

pub unary_parts : (n : ℕ) (ts : List Symbol) →
    unary_with (below n) ts ≡ match_option (after Tilde ts) (postfix_with (below n) ts) (λ _. opened n Tilde ts >>= λ m. unary_with (below m.0) m.1 >>= λ x. Ok (complement x.0, x.1))
unfolding unary_with after opened below
unary_parts zero (Fixed Tilde ∷ ts) = refl
unary_parts (suc n) (Fixed Tilde ∷ ts) = refl
unary_parts n [] = refl
unary_parts n (t ∷ ts) = refl

pub opened_takes : (m : ℕ) (t : Terminal) (ts rest : List Symbol) (n : ℕ) → opened m t ts ≡ Ok (n, rest) → length rest < length ts
unfolding opened
opened_takes zero t ts rest n e =
    elim (cases_of (after t ts) (Err (Unexpected, ts)) (λ _. Err (TooDeep, ts)) (Ok (n, rest)) e) [
      | inl f ↦ let g = f.1 in absurd (cc)
      | inr f ↦ let g = f.2 in absurd (cc)
    ]
opened_takes (suc m) t ts rest n e =
    elim (cases_of (after t ts) (Err (Unexpected, ts)) (λ y. Ok (m, y.1)) (Ok (n, rest)) e) [
      | inl f ↦ let g = f.1 in absurd (cc)
      | inr f ↦ moved (λ l _. length l < length ts) f.2 (symbols.after_takes t ts f.0.1 f.0.0 f.1)
    ]

pub enclosure_takes : (ts rest : List Symbol) (o : Enclosure) → enclosure_at ts ≡ Some (o, rest) → length rest ≤ length ts
unfolding enclosure_at
enclosure_takes (Fixed LeftParen ∷ ts) rest o e = moved_look (λ l p. length l ≤ suc (length ts)) e (omega arith)
enclosure_takes (Fixed LeftBracket ∷ ts) rest o e = moved_look (λ l p. length l ≤ suc (length ts)) e (omega arith)
enclosure_takes (Fixed Domain ∷ ts) rest o e = moved_look (λ l p. length l ≤ suc (length ts)) e (omega arith)
enclosure_takes (Fixed Range ∷ ts) rest o e = moved_look (λ l p. length l ≤ suc (length ts)) e (omega arith)
enclosure_takes ts rest o e = absurd (cc)

-- a turn of each loop

pub left_shorter : (n k : ℕ) (ts mid rest : List Symbol) (o : Infix) (a b : Term) → infix_at k ts ≡ Some (o, mid) → next_operand (level_with (below n) k) o a mid ≡ Ok (b, rest) → length rest < length ts
left_shorter n k ts mid rest o a b e f =
    let g = bind_ok (level_with (below n) k mid) _ _ f in
    moved (λ l t. length l < length ts) g.2 (omega (arith, infix_takes k ts mid o e, level_takes n k mid g.0.1 g.0.0 g.1))

pub left_more : (n k : ℕ) (a : Term) (ts : List Symbol) →
    repeated cut (infix_at k) (next_operand (level_with (below n) k)) a ts ≡
    match_option (infix_at k ts) (Ok (a, ts)) (λ x. next_operand (level_with (below n) k) x.0 a x.1 >>= λ y. repeated cut (infix_at k) (next_operand (level_with (below n) k)) y.0 y.1)
left_more n k = repeated-more cut (infix_at k) (next_operand (level_with (below n) k)) (left_shorter n k)

pub postfix_shorter : (ts mid rest : List Symbol) (o : Postfix) (a b : Term) → postfix_at ts ≡ Some (o, mid) → applied_at o a mid ≡ Ok (b, rest) → length rest < length ts
postfix_shorter ts mid rest o a b e f = moved (λ l t. length l < length ts) f (postfix_takes ts mid o e)

pub postfix_more : (a : Term) (ts : List Symbol) →
    repeated cut postfix_at applied_at a ts ≡
    match_option (postfix_at ts) (Ok (a, ts)) (λ x. applied_at x.0 a x.1 >>= λ y. repeated cut postfix_at applied_at y.0 y.1)
postfix_more = repeated-more cut postfix_at applied_at postfix_shorter

-- arguments

pub arguments_more : (n : ℕ) (as' : List Term) (ts : List Symbol) →
    repeated cut (after Comma) (push_item (λ _. level_with (below n) 5)) as' ts ≡
    match_option (after Comma ts) (Ok (as', ts)) (λ x. push_item (λ _. level_with (below n) 5) x.0 as' x.1 >>= λ y. repeated cut (after Comma) (push_item (λ _. level_with (below n) 5)) y.0 y.1)
arguments_more n = list-more (after Comma) (λ _. level_with (below n) 5) (after_no_longer Comma) (λ _. level_takes n 5)

pub arguments_shorter : (n : ℕ) (ts mid rest : List Symbol) (o : Unit {0}) (as' bs : List Term) → after Comma ts ≡ Some (o, mid) → push_item (λ _. level_with (below n) 5) o as' mid ≡ Ok (bs, rest) → length rest < length ts
arguments_shorter n = turn_shorter (after Comma) (λ _. level_with (below n) 5) (after_no_longer Comma) (λ _. level_takes n 5)

-- what is read behind the arguments so far
unfoldable pub arguments_from : ℕ → List Term → List Symbol → Reading (List Term)
arguments_from n as' ts = push_item (λ _. level_with (below n) 5) tt as' ts >>= λ y. repeated cut (after Comma) (push_item (λ _. level_with (below n) 5)) y.0 y.1

pub arguments_turn : (n : ℕ) (as' : List Term) (ts : List Symbol) →
    arguments_from n as' ts ≡ (level_with (below n) 5 ts >>= λ x. match_option (after Comma x.1) (Ok (as' ++ x.0 ∷ [], x.1)) (λ y. arguments_from n (as' ++ x.0 ∷ []) y.1))
unfolding arguments_from
arguments_turn n as' ts =
    elim (ok_or_err (level_with (below n) 5 ts)) [
      | inl (d, f) ↦ rw f refl
      | inr (x, f) ↦ rw (f, arguments_more n (as' ++ x.0 ∷ []) x.1) refl
    ]

-- what is read behind the arguments so far, up to the parenthesis
unfoldable pub arguments_closed : ℕ → List Term → List Symbol → Reading (List Term)
arguments_closed n as' ts = arguments_from n as' ts >>= λ x. expected RightParen x.1 >>= λ z. Ok (x.0, z.1)

pub arguments_start : (n : ℕ) (ts : List Symbol) → arguments_with (below n) ts ≡ (opened n LeftParen ts >>= λ m. arguments_closed m.0 [] m.1)
unfolding arguments_with expected opened below arguments_closed arguments_from separated
arguments_start zero ts =
    elim (none_or_some (after LeftParen ts)) [
      | inl f ↦ rw f refl
      | inr (x, f) ↦ rw f refl
    ]
arguments_start (suc n) ts =
    elim (none_or_some (after LeftParen ts)) [
      | inl f ↦ rw f refl
      | inr (x, f) ↦ rw f refl
    ]

pub arguments_next : (n : ℕ) (as' : List Term) (ts : List Symbol) →
    arguments_closed n as' ts ≡ (level_with (below n) 5 ts >>= λ x. match_option (after Comma x.1) (expected RightParen x.1 >>= λ z. Ok (as' ++ x.0 ∷ [], z.1)) (λ y. arguments_closed n (as' ++ x.0 ∷ []) y.1))
unfolding arguments_closed
arguments_next n as' ts =
    rw (arguments_turn n as' ts) (elim (ok_or_err (level_with (below n) 5 ts)) [
      | inl (d, f) ↦ rw f refl
      | inr (x, f) ↦ rw f (elim (none_or_some (after Comma x.1)) [
        | inl g ↦ rw g refl
        | inr (y, g) ↦ rw g refl
      ])
    ])

pub arguments_turned : (n : ℕ) (es : List Expression) (e : Expression) (ts mid rest : List Symbol) (r : Reading (List Term)) →
    arguments_closed n (map term_of es) ts ≡ r → level_with (below n) 5 ts ≡ Ok (term_of e, mid) → after Comma mid ≡ Some (tt, rest) → arguments_closed n (map term_of (es ++ e ∷ [])) rest ≡ r
arguments_turned n es e ts mid rest r was f g =
    rw (map-append term_of es (e ∷ [])) (sym (arguments_next n (map term_of es) ts ∙ rw (f, g) refl) ∙ was)

pub terms_push : (es : List Expression) (e : Expression) → map term_of (es ++ e ∷ []) ≡ map term_of es ++ term_of e ∷ []
terms_push es e = map-append term_of es (e ∷ [])

-- operators to the right

module _ (op : List Symbol → Look Symbol Infix) (item : List Symbol → Reading Term)
    (op_shorter : (ts mid : List Symbol) (o : Infix) → op ts ≡ Some (o, mid) → length mid < length ts)
    (item_shorter : (ts rest : List Symbol) (a : Term) → item ts ≡ Ok (a, rest) → length rest < length ts) where
  chain-any : (k m : ℕ) (ts : List Symbol) → length ts < k → length ts < m → chain_right op item k ts ≡ chain_right op item m ts
  unfolding chain_right
  chain-any zero m ts h i = absurd (omega arith)
  chain-any (suc k) zero ts h i = absurd (omega arith)
  chain-any (suc k) (suc m) ts h i =
      elim (ok_or_err (item ts)) [
        | inl (d, f) ↦ rw f
        | inr (x, f) ↦ rw f (elim (none_or_some (op x.1)) [
          | inl e ↦ rw e
          | inr (o, e) ↦ rw e (rw (chain-any k m o.1
              (omega (arith, item_shorter ts x.1 x.0 f, op_shorter x.1 o.1 o.0 e))
              (omega (arith, item_shorter ts x.1 x.0 f, op_shorter x.1 o.1 o.0 e))))
        ])
      ]

  chain-more : (ts : List Symbol) → right op item ts ≡ (item ts >>= λ x. match_option (op x.1) (Ok (x.0, x.1)) (λ o. right op item o.1 >>= λ y. Ok (joined o.0 x.0 y.0, y.1)))
  unfolding right chain_right
  chain-more ts =
      elim (ok_or_err (item ts)) [
        | inl (d, f) ↦ rw f
        | inr (x, f) ↦ rw f (elim (none_or_some (op x.1)) [
          | inl e ↦ rw e
          | inr (o, e) ↦ rw e (rw (chain-any (length ts) (suc (length o.1)) o.1
              (omega (arith, item_shorter ts x.1 x.0 f, op_shorter x.1 o.1 o.0 e)) (omega arith)))
        ])
      ]

pub right_more : (n k : ℕ) (ts : List Symbol) →
    right (infix_at k) (level_with (below n) k) ts ≡
    (level_with (below n) k ts >>= λ x. match_option (infix_at k x.1) (Ok (x.0, x.1)) (λ o. right (infix_at k) (level_with (below n) k) o.1 >>= λ y. Ok (joined o.0 x.0 y.0, y.1)))
right_more n k = chain-more (infix_at k) (level_with (below n) k) (infix_takes k) (level_takes n k)

-- what is read behind the operand a
abbrev behind : ℕ → ℕ → Term → List Symbol → Reading Term
behind n k a ts = match_option (infix_at k ts) (Ok (a, ts)) (λ o. right (infix_at k) (level_with (below n) k) o.1 >>= λ y. Ok (joined o.0 a y.0, y.1))

-- the left operands xs before what is read
enclosing : List (Infix × Term) → Reading Term → Reading Term
enclosing xs (Err d) = Err d
enclosing xs (Ok y) = Ok (nest xs y.0, y.1)

enclosing_nothing : (r : Reading Term) → r ≡ enclosing [] r
unfolding enclosing
enclosing_nothing (Err d) = refl
enclosing_nothing (Ok y) = refl

nest_push : (xs : List (Infix × Term)) (x : Infix × Term) (b : Term) → nest (xs ++ x ∷ []) b ≡ nest xs (joined x.0 x.1 b)
nest_push [] x b = refl
nest_push (y ∷ xs) x b = ap (joined y.0 y.1) (nest_push xs x b)

enclosing_more : (xs : List (Infix × Term)) (o : Infix) (a : Term) (r : Reading Term) → enclosing xs (r >>= λ y. Ok (joined o a y.0, y.1)) ≡ enclosing (xs ++ (o, a) ∷ []) r
unfolding enclosing
enclosing_more xs o a (Err d) = refl
enclosing_more xs o a (Ok y) = ap (λ b. Ok (b, y.1)) (sym (nest_push xs (o, a) y.0))

-- What is read behind the last operand of a level, where others wait on its left.
unfoldable pub chained : ℕ → ℕ → List (Infix × Term) × Term → List Symbol → Reading Term
unfolding enclosing
chained n k p ts = enclosing p.0 (if associates_left k then repeated cut (infix_at k) (next_operand (level_with (below n) k)) p.1 ts else behind n k p.1 ts)

pub level_start : (n k : ℕ) (ts : List Symbol) → level_with (below n) (suc k) ts ≡ (level_with (below n) k ts >>= λ x. chained n k ([], x.0) x.1)
unfolding chained level_with left enclosing
level_start n k ts =
    elim (cases_Bool (associates_left k)) [
      | inl t ↦ rw t (elim (ok_or_err (level_with (below n) k ts)) [
        | inl (d, f) ↦ rw f refl
        | inr (x, f) ↦ rw f (enclosing_nothing (repeated cut (infix_at k) (next_operand (level_with (below n) k)) x.0 x.1))
      ])
      | inr t ↦ rw t (right_more n k ts ∙ elim (ok_or_err (level_with (below n) k ts)) [
        | inl (d, f) ↦ rw f refl
        | inr (x, f) ↦ rw f (enclosing_nothing (behind n k x.0 x.1))
      ])
    ]

-- one more operand b: what waits on the left of the last operand, and that operand
abbrev advanced : ℕ → List (Infix × Term) → Term → Infix → Term → List (Infix × Term) × Term
advanced k xs a o b = if associates_left k then (xs, joined o a b) else (xs ++ (o, a) ∷ [], b)

pub level_turn : (n k : ℕ) (xs : List (Infix × Term)) (a : Term) (ts : List Symbol) →
    chained n k (xs, a) ts ≡ match_option (infix_at k ts) (Ok (nest xs a, ts)) (λ o. level_with (below n) k o.1 >>= λ y. chained n k (advanced k xs a o.0 y.0) y.1)
unfolding chained enclosing
level_turn n k xs a ts =
    elim (cases_Bool (associates_left k)) [
      | inl t ↦ rw t (rw (left_more n k a ts) (elim (none_or_some (infix_at k ts)) [
        | inl e ↦ rw e refl
        | inr (o, e) ↦ rw e (elim (ok_or_err (level_with (below n) k o.1)) [
          | inl (d, f) ↦ rw f refl
          | inr (y, f) ↦ rw f refl
        ])
      ]))
      | inr t ↦ rw t (elim (none_or_some (infix_at k ts)) [
        | inl e ↦ rw e refl
        | inr (o, e) ↦ rw e (rw (right_more n k o.1) (elim (ok_or_err (level_with (below n) k o.1)) [
          | inl (d, f) ↦ rw f refl
          | inr (y, f) ↦ rw f (enclosing_more xs o.0 a (behind n k y.0 y.1))
        ]))
      ])
    ]

level_turned : (n k : ℕ) (xs : List (Infix × Term)) (a b : Term) (ts mid rest : List Symbol) (o : Infix) (r : Reading Term) →
    chained n k (xs, a) ts ≡ r → infix_at k ts ≡ Some (o, mid) → level_with (below n) k mid ≡ Ok (b, rest) → chained n k (advanced k xs a o b) rest ≡ r
level_turned n k xs a b ts mid rest o r was e f = sym (level_turn n k xs a ts ∙ rw (e, f) refl) ∙ was

pub left_turned : (n k : ℕ) (xs : List (Infix × Term)) (a b c : Term) (ts mid rest : List Symbol) (o : Infix) (r : Reading Term) →
    chained n k (xs, a) ts ≡ r → infix_at k ts ≡ Some (o, mid) → level_with (below n) k mid ≡ Ok (b, rest) → associates_left k ≡ true → c ≡ joined o a b → chained n k (xs, c) rest ≡ r
left_turned n k xs a b c ts mid rest o r was e f g h =
    rw h (subst (λ l. chained n k (if l then (xs, joined o a b) else (xs ++ (o, a) ∷ [], b)) rest ≡ r) g (level_turned n k xs a b ts mid rest o r was e f))

pub right_turned : (n k : ℕ) (xs : List (Infix × Expression)) (a : Expression) (b : Term) (ts mid rest : List Symbol) (o : Infix) (r : Reading Term) →
    chained n k (map pair_of xs, term_of a) ts ≡ r → infix_at k ts ≡ Some (o, mid) → level_with (below n) k mid ≡ Ok (b, rest) → associates_left k ≡ false → chained n k (map pair_of (xs ++ (o, a) ∷ []), b) rest ≡ r
right_turned n k xs a b ts mid rest o r was e f g =
    rw (map-append pair_of xs ((o, a) ∷ [])) (subst (λ l. chained n k (if l then (map pair_of xs, joined o (term_of a) b) else (map pair_of xs ++ (o, term_of a) ∷ [], b)) rest ≡ r) g (level_turned n k (map pair_of xs) (term_of a) b ts mid rest o r was e f))
