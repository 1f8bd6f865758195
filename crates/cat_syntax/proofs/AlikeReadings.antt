-- Each reading function rests on the symbols up to where it stops, and on the two behind.
use Rattle.std.proofs.Common.{◌≡◌, ℕ, zero, suc, ◌+◌, ◌<◌, ◌≤◌, List, [], ◌∷◌, length, true, false, refl, ap, sym, ◌∙◌, subst, arith, ◌⊎◌, inl, inr}
use Rattle.std.specs.Prelude.{Bool, Some, None, Ok, Err}
use Rattle.std.proofs.lemmas.Bool.{cases_Bool}
use Rattle.descent.specs.Reading.{Look, match_option, ◌>>=◌, repeated}
use Rattle.descent.proofs.Tools.{cases_of, moved_look, none_or_some}
use Rattle.cat_syntax.specs.declared.syntax_fault.SyntaxFault.TheVariants.{Unexpected, BoundTwice, RecursiveFunction, TooDeep}
use Rattle.cat_tree.specs.declared.node.Infix.{Infix}
use Rattle.cat_syntax.specs.declared.symbol.Symbol.{Symbol}
use Rattle.cat_syntax.specs.declared.symbol.Symbol.TheVariants.{Fixed, Name, Quoted}
use Rattle.cat_syntax.specs.declared.symbol.Terminal.{Terminal}
use Rattle.cat_syntax.specs.declared.symbol.Terminal.TheVariants.{Let, Rec, And, Acyclic, Irreflexive, Empty, As, Flag, Show, Unshow, Include, Comma, Equals, Domain, Range, Underscore, Zero, LeftParen, RightParen, LeftBracket, RightBracket, LeftBrace, RightBrace, Star, Tilde, Plus, Question, Inverse}
use Rattle.cat_tree.specs.Terms.{terms_of}
use Rattle.cat_syntax.specs.Items.{names_defined, names_bound}
use Rattle.cat_tree.specs.Tree.{Word, Defined, Bound, Clause, bind, bind_recursively, include, show, unshow, name, call, identity, domain, range, empty_set, complement}
use Rattle.cat_syntax.specs.Symbols.{is_name}
use Rattle.cat_syntax.specs.Grammar.{joined, begins_check, begins_operand}
use Rattle.cat_syntax.specs.Reading.{Reading, cut, terminal_eq, after, expected, name_at, sign, infix_at, associates_left, postfix_at, applied, applied_at, next_operand, right, left, enclosed_with, primary_with, postfix_with, unary_with, level_with, below, expression_at, push_item, separated, alias_at, next_name, repeats, opens_arguments, begins_call, arguments_with, name_unless, value_name_unless, new_name_at, parameters_at, definition_at, binding_at, group_at, element_at, optional_at, kind_at, check_with, check_at, quoted_at, item_at, unless_end, title_at, items_at, file_at}
use Rattle.cat_syntax.specs.declared.operator.Postfix.{Postfix}
use Rattle.cat_syntax.proofs.Symbols.{after_takes, if-none, postfix_takes}
use Rattle.cat_syntax.proofs.ItemsSound.{unless_end-same}
use Rattle.cat_syntax.proofs.Levels.{left_more, left_shorter, right_more, postfix_more, postfix_shorter, level_takes, infix_takes, arguments_more, arguments_shorter}
use Rattle.cat_syntax.proofs.Lists.{definitions_more, definitions_shorter, new_names_more, new_names_shorter, bindings_more, elements_more, names_more, items_more, bindings_shorter, elements_shorter, names_shorter, items_shorter}
use Rattle.cat_syntax.proofs.Alike.{Same, same_end, same_more, Far, Agree, AgreeLook, AlikeAt, Alike, AlikeLook, agree-weaken, agree-ok, agree-err, agree-bind, agree-look, agree-if, agree-required, alike-repeated, stopped}

-- the symbols ahead

-- the first symbol of both
record Heads (x y ts us : List Symbol) : Type 0 where
  first : Symbol
  ts_behind : List Symbol
  us_behind : List Symbol
  ts_is : ts ≡ first ∷ ts_behind
  us_is : us ≡ first ∷ us_behind
  behind : Same x y ts_behind us_behind

split : (x y ts us : List Symbol) → Same x y ts us → (ts ≡ x) ⊎ Heads x y ts us
split x y ts us same_end = inl refl
split x y ts us (same_more {t = t} {ts = vs} {us = ws} s) = inr (record { first = t; ts_behind = vs; us_behind = ws; ts_is = refl; us_is = refl; behind = s })

heads : (x y ts us : List Symbol) → Same x y ts us → length x < length ts → Heads x y ts us
heads x y ts us s h = elim (split x y ts us s) [ inl e ↦ absurd (omega (arith, h, ap length e)) | inr k ↦ k ]

-- what is taken by its first symbol alone
look-first : {A : Type 0} (l : List Symbol → Look Symbol A) → ((ts rest : List Symbol) (a : A) → l ts ≡ Some (a, rest) → length rest < length ts) →
    ((t : Symbol) (ts us : List Symbol) → l (t ∷ ts) ≡ None → l (t ∷ us) ≡ None) →
    ((t : Symbol) (ts us rest : List Symbol) (a : A) → l (t ∷ ts) ≡ Some (a, rest) → (rest ≡ ts) × (l (t ∷ us) ≡ Some (a, us))) → AlikeLook l
look-first l takes none some ts x y us s = record {
  none = λ e far.
      let h = heads x y ts us s (omega (arith, far)) in
      subst (λ v. l v ≡ None) (sym h.us_is) (none h.first h.ts_behind h.us_behind (subst (λ v. l v ≡ None) h.ts_is e));
  some = λ a rest e. (
    omega (arith, takes ts rest a e),
    λ far.
        let h = heads x y ts us s (omega (arith, far, takes ts rest a e)) in
        let k = some h.first h.ts_behind h.us_behind rest a (subst (λ v. l v ≡ Some (a, rest)) h.ts_is e) in
        (h.us_behind, subst (λ v. l v ≡ Some (a, h.us_behind)) (sym h.us_is) k.1, subst (λ r. Same x y r h.us_behind) (sym k.0) h.behind),
  );
}

after-none : (u : Terminal) (t : Symbol) (ts us : List Symbol) → after u (t ∷ ts) ≡ None → after u (t ∷ us) ≡ None
unfolding after
after-none u (Fixed v) ts us e = elim (cases_Bool (terminal_eq v u)) [ inl h ↦ absurd (let f = rw h at e in cc) | inr h ↦ rw h refl ]
after-none u t ts us e = refl

after-some : (u : Terminal) (t : Symbol) (ts us rest : List Symbol) (a : Unit {0}) → after u (t ∷ ts) ≡ Some (a, rest) → (rest ≡ ts) × (after u (t ∷ us) ≡ Some (a, us))
unfolding after
after-some u (Fixed v) ts us rest a e = elim (cases_Bool (terminal_eq v u)) [
  | inl h ↦ moved_look (λ l b. (l ≡ ts) × (after u (Fixed v ∷ us) ≡ Some (b, us))) (rw h at e) (refl, rw h refl)
  | inr h ↦ absurd (let f = rw h at e in cc)
]
after-some u t ts us rest a e = absurd (cc)

look-after : (u : Terminal) → AlikeLook (after u)
look-after u = look-first (after u) (λ ts rest a e. after_takes u ts rest a e) (after-none u) (after-some u)

-- what is made of it
look-made : {A B : Type 0} (f : A → B) {x y ts : List Symbol} {l m : Look Symbol A} → AgreeLook x y ts l m → AgreeLook x y ts (match_option {B = Look Symbol B} l None (λ w. Some (f w.0, w.1))) (match_option {B = Look Symbol B} m None (λ w. Some (f w.0, w.1)))
look-made {A} {B} f {x} {y} {ts} {l} {m} g = record { none = none_of; some = some_of }
  where
    none_of : match_option {B = Look Symbol B} l None (λ w. Some (f w.0, w.1)) ≡ None → Far x ts → match_option {B = Look Symbol B} m None (λ w. Some (f w.0, w.1)) ≡ None
    none_of e far = elim (cases_of l _ _ _ e) [ inl s ↦ rw (g.none s.0 far) refl | inr (w, is, k) ↦ absurd (cc) ]

    some_of : (b : B) (rest : List Symbol) → match_option {B = Look Symbol B} l None (λ w. Some (f w.0, w.1)) ≡ Some (b, rest) → (length rest ≤ length ts) × (Far x rest → (end : List Symbol) × (match_option {B = Look Symbol B} m None (λ w. Some (f w.0, w.1)) ≡ Some (b, end)) × Same x y rest end)
    some_of b rest e = elim (cases_of l _ _ _ e) [
      | inl s ↦ absurd (cc)
      | inr (w, is, k) ↦
          let q = g.some w.0 w.1 is in
          moved_look (λ r c. (length r ≤ length ts) × (Far x r → (end : List Symbol) × (match_option {B = Look Symbol B} m None (λ v. Some (f v.0, v.1)) ≡ Some (c, end)) × Same x y r end)) k
          (q.0, λ far. let v = q.1 far in (v.0, rw v.1 refl, v.2))
    ]

look-sign : (t : Terminal) (o : Infix) → AlikeLook (sign t o)
look-sign t o ts x y us s = look-made (λ _. o) (look-after t ts x y us s)

look-nothing : {A : Type 0} (x y ts : List Symbol) → AgreeLook {A = A} x y ts None None
look-nothing x y ts = record { none = λ e far. refl; some = λ a rest e. absurd (cc) }

look-infix : (k : ℕ) → AlikeLook (infix_at k)
unfolding infix_at
look-infix zero ts x y us s = look-sign _ _ ts x y us s
look-infix (suc zero) ts x y us s = look-sign _ _ ts x y us s
look-infix (suc (suc zero)) ts x y us s = look-sign _ _ ts x y us s
look-infix (suc (suc (suc zero))) ts x y us s = look-sign _ _ ts x y us s
look-infix (suc (suc (suc (suc zero)))) ts x y us s = look-sign _ _ ts x y us s
look-infix (suc (suc (suc (suc (suc k))))) ts x y us s = look-nothing x y ts

-- operators behind their operand: a * looks at the two symbols behind it

check-same : (t : Symbol) (ts us : List Symbol) → begins_check (t ∷ ts) ≡ begins_check (t ∷ us)
unfolding begins_check
check-same (Fixed Acyclic) ts us = refl
check-same (Fixed Irreflexive) ts us = refl
check-same (Fixed Empty) ts us = refl
check-same t ts us = refl

operand-same : (t u : Symbol) (ts us : List Symbol) → begins_operand (t ∷ u ∷ ts) ≡ begins_operand (t ∷ u ∷ us)
unfolding begins_operand
operand-same (Fixed Tilde) u ts us = rw (check-same u ts us) refl
operand-same t u ts us = refl

-- a test of the first two symbols
two-far : (f : List Symbol → Bool) → ((t u : Symbol) (ts us : List Symbol) → f (t ∷ u ∷ ts) ≡ f (t ∷ u ∷ us)) → (x y ts us : List Symbol) → Same x y ts us → length x + 2 ≤ length ts → f ts ≡ f us
two-far f same x y ts us s far =
    let h = heads x y ts us s (omega (arith, far)) in
    let l : length ts ≡ suc (length h.ts_behind) = ap length h.ts_is in
    let k = heads x y h.ts_behind h.us_behind h.behind (omega (arith, far, l)) in
    ap f h.ts_is ∙ (ap (λ v. f (h.first ∷ v)) k.ts_is ∙ (same h.first k.first k.ts_behind k.us_behind ∙
    (sym (ap (λ v. f (h.first ∷ v)) k.us_is) ∙ sym (ap f h.us_is))))

operand-far : (x y ts us : List Symbol) → Same x y ts us → length x + 2 ≤ length ts → begins_operand ts ≡ begins_operand us
operand-far = two-far begins_operand operand-same

postfix-none : (t : Symbol) (ts us : List Symbol) → begins_operand ts ≡ begins_operand us → postfix_at (t ∷ ts) ≡ None → postfix_at (t ∷ us) ≡ None
unfolding postfix_at
postfix-none (Fixed Star) ts us same e = elim (cases_Bool (begins_operand ts)) [
  | inl h ↦ let g : begins_operand us ≡ true = sym same ∙ h in rw g refl
  | inr h ↦ absurd (let f = rw h at e in cc)
]
postfix-none (Fixed Plus) ts us same e = absurd (cc)
postfix-none (Fixed Question) ts us same e = absurd (cc)
postfix-none (Fixed Inverse) ts us same e = absurd (cc)
postfix-none t ts us same e = refl

postfix-some : (t : Symbol) (ts us rest : List Symbol) (o : Postfix) → begins_operand ts ≡ begins_operand us → postfix_at (t ∷ ts) ≡ Some (o, rest) → (rest ≡ ts) × (postfix_at (t ∷ us) ≡ Some (o, us))
unfolding postfix_at
postfix-some (Fixed Star) ts us rest o same e =
    let f = if-none (begins_operand ts) _ _ e in
    let g : begins_operand us ≡ false = sym same ∙ f.0 in
    moved_look (λ l p. (l ≡ ts) × (postfix_at (Fixed Star ∷ us) ≡ Some (p, us))) f.1 (refl, rw g refl)
postfix-some (Fixed Plus) ts us rest o same e = moved_look (λ l p. (l ≡ ts) × (postfix_at (Fixed Plus ∷ us) ≡ Some (p, us))) e (refl, refl)
postfix-some (Fixed Question) ts us rest o same e = moved_look (λ l p. (l ≡ ts) × (postfix_at (Fixed Question ∷ us) ≡ Some (p, us))) e (refl, refl)
postfix-some (Fixed Inverse) ts us rest o same e = moved_look (λ l p. (l ≡ ts) × (postfix_at (Fixed Inverse ∷ us) ≡ Some (p, us))) e (refl, refl)
postfix-some t ts us rest o same e = absurd (cc)

look-postfix : AlikeLook postfix_at
look-postfix ts x y us s = record {
  none = λ e far.
      let h = heads x y ts us s (omega (arith, far)) in
      let l : length ts ≡ suc (length h.ts_behind) = ap length h.ts_is in
      subst (λ v. postfix_at v ≡ None) (sym h.us_is)
      (postfix-none h.first h.ts_behind h.us_behind (operand-far x y h.ts_behind h.us_behind h.behind (omega (arith, far, l))) (subst (λ v. postfix_at v ≡ None) h.ts_is e));
  some = λ a rest e. (
    omega (arith, postfix_takes ts rest a e),
    λ far.
        let h = heads x y ts us s (omega (arith, far, postfix_takes ts rest a e)) in
        let l : length ts ≡ suc (length h.ts_behind) = ap length h.ts_is in
        let k = postfix-some h.first h.ts_behind h.us_behind rest a (operand-far x y h.ts_behind h.us_behind h.behind (omega (arith, far, l, postfix_takes ts rest a e))) (subst (λ v. postfix_at v ≡ Some (a, rest)) h.ts_is e) in
        (h.us_behind, subst (λ v. postfix_at v ≡ Some (a, h.us_behind)) (sym h.us_is) k.1, subst (λ r. Same x y r h.us_behind) (sym k.0) h.behind),
  );
}

-- What is read by cases on the first symbol.

-- nothing is far before the end
agree-near : {A : Type 0} (x y v w : List Symbol) (n : ℕ) (o p q : Reading A) → Agree v w n o p → n ≤ length x → Agree x y n o q
agree-near x y v w n o p q g h = record {
  ok = λ a rest e. ((g.ok a rest e).0, λ far. absurd (omega (arith, h, far, (g.ok a rest e).0)));
  err = λ c rest e. ((g.err c rest e).0, λ far. absurd (omega (arith, h, far, (g.err c rest e).0)));
}

module _ {A : Type 0} (r : List Symbol → Reading A) (nil : Agree [] [] 0 (r []) (r []))
    (cons : (t : Symbol) (ts x y us : List Symbol) → Same x y ts us → Agree x y (suc (length ts)) (r (t ∷ ts)) (r (t ∷ us))) where
  near : (ts y us : List Symbol) → Agree ts y (length ts) (r ts) (r us)
  near [] y us = agree-near [] y [] [] 0 (r []) (r []) (r us) nil (omega arith)
  near (t ∷ ts) y us = agree-near (t ∷ ts) y ts ts (suc (length ts)) (r (t ∷ ts)) (r (t ∷ ts)) (r us) (cons t ts ts ts ts same_end) (omega arith)

  by-first : Alike r
  by-first ts x y us s = elim (split x y ts us s) [
    | inl e ↦ subst (λ l. Agree l y (length ts) (r ts) (r us)) e (near ts y us)
    | inr h ↦ rw (h.ts_is, h.us_is) (cons h.first h.ts_behind x y h.us_behind h.behind)
  ]

one-less : {A : Type 0} {x y : List Symbol} {n : ℕ} {o p : Reading A} → Agree x y n o p → Agree x y (suc n) o p
one-less g = agree-weaken g (omega arith)

alike-expected : (t : Terminal) → Alike (expected t)
unfolding expected
alike-expected t ts x y us s = agree-required Unexpected s (look-after t ts x y us s)

name-cons : (t : Symbol) (ts x y us : List Symbol) → Same x y ts us → Agree x y (suc (length ts)) (name_at (t ∷ ts)) (name_at (t ∷ us))
unfolding name_at
name-cons (Name w) ts x y us s = one-less (agree-ok w s)
name-cons t ts x y us s = agree-err Unexpected (same_more s)

alike-name : Alike name_at
unfolding name_at
alike-name = by-first name_at (agree-err Unexpected same_end) name-cons

-- expressions

-- where the lists begin with what opens, and nothing may nest
refusing : {A : Type 0} → Terminal → List Symbol → Reading A
refusing opening ts = expected opening ts >>= λ _. Err (TooDeep, ts)

closed-agree : {A : Type 0} (opening : Terminal) → Alike (refusing {A = A} opening)
unfolding refusing expected
closed-agree {A} opening ts x y us s = record {
  ok = λ a rest e. absurd (elim (none_or_some (after opening ts)) [ inl n ↦ let f = rw n at e in cc | inr (w, is) ↦ let f = rw is at e in cc ]);
  err = λ c rest e. elim (none_or_some (after opening ts)) [
    | inl n ↦ stopped {A = A} (λ l d. (length l ≤ length ts) × (Far x l → (end : List Symbol) × (refusing {A = A} opening us ≡ Err (d, end)) × Same x y l end)) (rw n at e)
        (omega arith, λ far. (us, rw ((look-after opening ts x y us s).none n far) refl, s))
    | inr (w, is) ↦ stopped {A = A} (λ l d. (length l ≤ length ts) × (Far x l → (end : List Symbol) × (refusing {A = A} opening us ≡ Err (d, end)) × Same x y l end)) (rw is at e) (
      omega arith,
      λ far.
          let h = heads x y ts us s (omega (arith, far)) in
          let k = after-some opening h.first h.ts_behind h.us_behind w.1 w.0 (subst (λ v. after opening v ≡ Some (w.0, w.1)) h.ts_is is) in
          let m : after opening us ≡ Some (w.0, h.us_behind) = subst (λ v. after opening v ≡ Some (w.0, h.us_behind)) (sym h.us_is) k.1 in
          (us, rw m refl, s),
    )
  ];
}

closed-enclosed : (opening closing : Terminal) → Alike (enclosed_with (below zero) opening closing)
unfolding enclosed_with below refusing
closed-enclosed opening closing = closed-agree opening

closed-arguments : Alike (arguments_with (below zero))
unfolding arguments_with separated below refusing
closed-arguments = closed-agree LeftParen

open-agree : (n : ℕ) → Alike (level_with (below n) 5) → (opening closing : Terminal) → Alike (enclosed_with (below (suc n)) opening closing)
unfolding enclosed_with below
open-agree n level opening closing ts x y us s =
    agree-bind _ (alike-expected opening ts x y us s) (λ u l e x y us s.
    agree-bind _ (level l x y us s) (λ a l e x y us s.
    agree-bind _ (alike-expected closing l x y us s) (λ v l e x y us s. agree-ok a s)))

-- lists

alike-push : {A : Type 0} (item : List A → List Symbol → Reading A) → ((xs : List A) → Alike (item xs)) → (o : Unit {0}) (xs : List A) → Alike (push_item item o xs)
alike-push item each o xs ts x y us s = agree-bind _ (each xs ts x y us s) (λ a l e x y us s. agree-ok _ s)

alike-separated : {A : Type 0} (t : Terminal) (item : List A → List Symbol → Reading A) → ((xs : List A) → Alike (item xs)) →
    ((xs : List A) (ts : List Symbol) → repeated cut (after t) (push_item item) xs ts ≡ match_option (after t ts) (Ok (xs, ts)) (λ x. push_item item x.0 xs x.1 >>= λ y. repeated cut (after t) (push_item item) y.0 y.1)) →
    ((ts mid rest : List Symbol) (o : Unit {0}) (xs ys : List A) → after t ts ≡ Some (o, mid) → push_item item o xs mid ≡ Ok (ys, rest) → length rest < length ts) → Alike (separated t item)
unfolding separated
alike-separated t item each turn shorter ts x y us s =
    agree-bind _ (alike-push item each tt [] ts x y us s) (λ xs l e.
    alike-repeated (after t) (push_item item) turn shorter (look-after t) (alike-push item each) xs l)

open-arguments : (n : ℕ) → Alike (level_with (below n) 5) → Alike (arguments_with (below (suc n)))
unfolding arguments_with below
open-arguments n level ts x y us s =
    agree-bind _ (alike-expected LeftParen ts x y us s) (λ u l e x y us s.
    agree-bind _ (alike-separated Comma (λ _. level_with (below n) 5) (λ _. level) (arguments_more n) (arguments_shorter n) l x y us s) (λ as' l e x y us s.
    agree-bind _ (alike-expected RightParen l x y us s) (λ v l e x y us s. agree-ok as' s)))

-- what opens is seen by its first symbol

opens-same : (t : Symbol) (ts us : List Symbol) → opens_arguments (t ∷ ts) ≡ opens_arguments (t ∷ us)
unfolding opens_arguments
opens-same (Fixed LeftParen) ts us = refl
opens-same t ts us = refl

opens-far : (x y ts us : List Symbol) → Same x y ts us → length x < length ts → opens_arguments ts ≡ opens_arguments us
opens-far x y ts us s far = let h = heads x y ts us s far in ap opens_arguments h.ts_is ∙ (opens-same h.first h.ts_behind h.us_behind ∙ sym (ap opens_arguments h.us_is))

calls-same : (t u : Symbol) (ts us : List Symbol) → begins_call (t ∷ u ∷ ts) ≡ begins_call (t ∷ u ∷ us)
unfolding begins_call
calls-same (Name w) u ts us = opens-same u ts us
calls-same t u ts us = refl

closed-complement : (ts x y us : List Symbol) → Same x y ts us → Agree x y (suc (length ts)) (unary_with (below zero) (Fixed Tilde ∷ ts)) (unary_with (below zero) (Fixed Tilde ∷ us))
unfolding unary_with below
closed-complement ts x y us s = agree-err TooDeep (same_more s)

open-complement : (n : ℕ) → Alike (unary_with (below n)) → (ts x y us : List Symbol) → Same x y ts us → Agree x y (suc (length ts)) (unary_with (below (suc n)) (Fixed Tilde ∷ ts)) (unary_with (below (suc n)) (Fixed Tilde ∷ us))
unfolding below unary_with
open-complement n unary ts x y us s = one-less (agree-bind (λ w. Ok (complement w.0, w.1)) (unary ts x y us s) (λ a l e x y us s. agree-ok (complement a) s))

-- what nests
pub record Nested (n : ℕ) : Type 0 where
  pub enclosed : (opening closing : Terminal) → Alike (enclosed_with (below n) opening closing)
  pub arguments : Alike (arguments_with (below n))
  pub complemented : (ts x y us : List Symbol) → Same x y ts us → Agree x y (suc (length ts)) (unary_with (below n) (Fixed Tilde ∷ ts)) (unary_with (below n) (Fixed Tilde ∷ us))

module _ (n : ℕ) (nested : Nested n) where
  primary-cons : (t : Symbol) (ts x y us : List Symbol) → Same x y ts us → Agree x y (suc (length ts)) (primary_with (below n) (t ∷ ts)) (primary_with (below n) (t ∷ us))
  unfolding primary_with
  primary-cons (Name w) ts x y us s =
      one-less (agree-if (opens_arguments ts) (opens_arguments us) (λ far. opens-far x y ts us s (omega (arith, far)))
      (agree-bind _ (nested.arguments ts x y us s) (λ as' l e x y us s. agree-ok (call w (terms_of as')) s)) (agree-ok (name w) s))
  primary-cons (Fixed Underscore) ts x y us s = one-less (agree-ok _ s)
  primary-cons (Fixed Zero) ts x y us s = one-less (agree-ok _ s)
  primary-cons (Fixed LeftBrace) ts x y us s = one-less (agree-bind _ (alike-expected RightBrace ts x y us s) (λ a l e x y us s. agree-ok empty_set s))
  primary-cons (Fixed LeftParen) ts x y us s = nested.enclosed LeftParen RightParen (Fixed LeftParen ∷ ts) x y (Fixed LeftParen ∷ us) (same_more s)
  primary-cons (Fixed LeftBracket) ts x y us s =
      agree-bind _ (nested.enclosed LeftBracket RightBracket (Fixed LeftBracket ∷ ts) x y (Fixed LeftBracket ∷ us) (same_more s)) (λ a l e x y us s. agree-ok (identity a) s)
  primary-cons (Fixed Domain) ts x y us s = one-less (agree-bind _ (nested.enclosed LeftParen RightParen ts x y us s) (λ a l e x y us s. agree-ok (domain a) s))
  primary-cons (Fixed Range) ts x y us s = one-less (agree-bind _ (nested.enclosed LeftParen RightParen ts x y us s) (λ a l e x y us s. agree-ok (range a) s))
  primary-cons t ts x y us s = agree-err Unexpected (same_more s)

  alike-primary : Alike (primary_with (below n))
  unfolding primary_with
  alike-primary = by-first (primary_with (below n)) (agree-err Unexpected same_end) primary-cons

  alike-postfix : Alike (postfix_with (below n))
  unfolding postfix_with
  alike-postfix ts x y us s =
      agree-bind _ (alike-primary ts x y us s) (λ a l e.
      alike-repeated postfix_at applied_at postfix_more postfix_shorter look-postfix (λ o b l x y us s. agree-ok (applied o b) s) a l)

  unary-cons : (t : Symbol) (ts x y us : List Symbol) → Same x y ts us → Agree x y (suc (length ts)) (unary_with (below n) (t ∷ ts)) (unary_with (below n) (t ∷ us))
  unfolding unary_with
  unary-cons (Fixed Tilde) ts x y us s = nested.complemented ts x y us s
  unary-cons t ts x y us s = alike-postfix (t ∷ ts) x y (t ∷ us) (same_more s)

  pub alike-unary : Alike (unary_with (below n))
  unfolding unary_with
  alike-unary = by-first (unary_with (below n)) (alike-postfix [] [] [] [] same_end) unary-cons

  alike-left : (k : ℕ) → Alike (level_with (below n) k) → Alike (left (infix_at k) (level_with (below n) k))
  unfolding left
  alike-left k level ts x y us s =
      agree-bind _ (level ts x y us s) (λ a l e.
      alike-repeated (infix_at k) (next_operand (level_with (below n) k)) (left_more n k) (left_shorter n k) (look-infix k)
      (λ o b l x y us s. agree-bind _ (level l x y us s) (λ c l e x y us s. agree-ok (joined o b c) s)) a l)

  right-up_to : (k : ℕ) → Alike (level_with (below n) k) → (m : ℕ) (ts : List Symbol) → length ts < m → AlikeAt (right (infix_at k) (level_with (below n) k)) ts
  right-up_to k level zero ts h x y us s = absurd (omega (arith, h))
  right-up_to k level (suc m) ts h x y us s =
      rw (right_more n k ts, right_more n k us)
      (agree-bind (λ v. match_option (infix_at k v.1) (Ok (v.0, v.1)) (λ o. right (infix_at k) (level_with (below n) k) o.1 >>= λ w. Ok (joined o.0 v.0 w.0, w.1))) (level ts x y us s)
      (λ a l e x y us s.
      agree-look (λ o. right (infix_at k) (level_with (below n) k) o.1 >>= λ w. Ok (joined o.0 a w.0, w.1)) (look-infix k l x y us s) (agree-ok a s)
      (λ o mid is x y us s.
      agree-bind (λ w. Ok (joined o a w.0, w.1)) (right-up_to k level m mid (omega (arith, h, level_takes n k ts l a e, infix_takes k l mid o is)) x y us s)
      (λ b l e x y us s. agree-ok (joined o a b) s))))

  alike-right : (k : ℕ) → Alike (level_with (below n) k) → Alike (right (infix_at k) (level_with (below n) k))
  alike-right k level ts = right-up_to k level (suc (length ts)) ts (omega arith)

  pub alike-level : (k : ℕ) → Alike (level_with (below n) k)
  unfolding level_with
  alike-level zero ts x y us s = alike-unary ts x y us s
  alike-level (suc k) ts x y us s = elim (cases_Bool (associates_left k)) [
    | inl h ↦ rw h (alike-left k (alike-level k) ts x y us s)
    | inr h ↦ rw h (alike-right k (alike-level k) ts x y us s)
  ]

nested-at : (n : ℕ) → Nested n
nested-at zero = record { enclosed = closed-enclosed; arguments = closed-arguments; complemented = closed-complement }
nested-at (suc n) = record { enclosed = open-agree n (alike-level n (nested-at n) 5); arguments = open-arguments n (alike-level n (nested-at n) 5); complemented = open-complement n (alike-unary n (nested-at n)) }

alike-expression : Alike expression_at
unfolding expression_at
alike-expression ts x y us s = alike-level 64 (nested-at 64) 5 ts x y us s

-- items

alike-alias : Alike alias_at
unfolding alias_at
alike-alias ts x y us s =
    agree-look _ (look-after As ts x y us s) (agree-ok None s) (λ u l e x y us s.
    agree-bind _ (alike-name l x y us s) (λ w l e x y us s. agree-ok (Some w) s))

repeats-same : (xs : List Word) (t : Symbol) (ts us : List Symbol) → repeats xs (t ∷ ts) ≡ repeats xs (t ∷ us)
unfolding next_name
repeats-same xs (Name w) ts us = refl
repeats-same xs t ts us = refl

repeats-far : (xs : List Word) (x y ts us : List Symbol) → Same x y ts us → length x < length ts → repeats xs ts ≡ repeats xs us
repeats-far xs x y ts us s far = let h = heads x y ts us s far in ap (repeats xs) h.ts_is ∙ (repeats-same xs h.first h.ts_behind h.us_behind ∙ sym (ap (repeats xs) h.us_is))

alike-new_name : (xs : List Word) → Alike (new_name_at xs)
unfolding name_unless
alike-new_name xs ts x y us s =
    agree-if (repeats xs ts) (repeats xs us) (λ far. repeats-far xs x y ts us s (omega (arith, far)))
    (agree-err BoundTwice s) (alike-name ts x y us s)

alike-value_name : (xs : List Word) → Alike (λ ts. value_name_unless (repeats xs ts) ts)
unfolding value_name_unless
alike-value_name xs ts x y us s =
    agree-if (repeats xs ts) (repeats xs us) (λ far. repeats-far xs x y ts us s (omega (arith, far)))
    (agree-err BoundTwice s)
    (agree-if (begins_call ts) (begins_call us) (λ far. two-far begins_call calls-same x y ts us s (omega (arith, far))) (agree-err RecursiveFunction s) (alike-name ts x y us s))

alike-new_names : Alike (separated Comma new_name_at)
alike-new_names = alike-separated Comma new_name_at alike-new_name new_names_more new_names_shorter

alike-parameters : Alike parameters_at
unfolding parameters_at
alike-parameters ts x y us s =
    agree-look _ (look-after LeftParen ts x y us s) (agree-ok [] s) (λ u l e x y us s.
    agree-bind _ (alike-new_names l x y us s) (λ xs l e x y us s.
    agree-bind _ (alike-expected RightParen l x y us s) (λ v l e x y us s. agree-ok xs s)))

alike-definition : (ds : List Defined) → Alike (definition_at ds)
unfolding definition_at
alike-definition ds ts x y us s =
    agree-bind _ (alike-new_name (names_defined ds) ts x y us s) (λ w l e x y us s.
    agree-bind _ (alike-parameters l x y us s) (λ ps l e x y us s.
    agree-bind _ (alike-expected Equals l x y us s) (λ v l e x y us s.
    agree-bind _ (alike-expression l x y us s) (λ a l e x y us s. agree-ok _ s))))

alike-binding : (bs : List Bound) → Alike (binding_at bs)
unfolding binding_at
alike-binding bs ts x y us s =
    agree-bind _ (alike-value_name (names_bound bs) ts x y us s) (λ w l e x y us s.
    agree-bind _ (alike-expected Equals l x y us s) (λ v l e x y us s.
    agree-bind _ (alike-expression l x y us s) (λ a l e x y us s. agree-ok _ s)))

alike-definitions : Alike (separated And definition_at)
alike-definitions = alike-separated And definition_at alike-definition definitions_more definitions_shorter

alike-bindings : Alike (separated And binding_at)
alike-bindings = alike-separated And binding_at alike-binding bindings_more bindings_shorter

alike-group : Alike group_at
unfolding group_at
alike-group ts x y us s =
    agree-look _ (look-after Rec ts x y us s) (agree-bind _ (alike-definitions ts x y us s) (λ ds l e x y us s. agree-ok (bind ds) s)) (λ u l e x y us s.
    agree-bind _ (alike-bindings l x y us s) (λ bs l e x y us s. agree-ok (bind_recursively bs) s))

alike-element : Alike element_at
unfolding element_at
alike-element ts x y us s =
    agree-bind _ (alike-expression ts x y us s) (λ a l e x y us s.
    agree-bind _ (alike-alias l x y us s) (λ w l e x y us s. agree-ok _ s))

kind-cons : (t : Symbol) (ts x y us : List Symbol) → Same x y ts us → Agree x y (suc (length ts)) (kind_at (t ∷ ts)) (kind_at (t ∷ us))
unfolding kind_at
kind-cons (Fixed Acyclic) ts x y us s = one-less (agree-ok _ s)
kind-cons (Fixed Irreflexive) ts x y us s = one-less (agree-ok _ s)
kind-cons (Fixed Empty) ts x y us s = one-less (agree-ok _ s)
kind-cons t ts x y us s = agree-err Unexpected (same_more s)

alike-kind : Alike kind_at
unfolding kind_at
alike-kind = by-first kind_at (agree-err Unexpected same_end) kind-cons

alike-check_with : (flag negated : Bool) → Alike (check_with flag negated)
unfolding check_with
alike-check_with flag negated ts x y us s =
    agree-bind _ (alike-kind ts x y us s) (λ k l e x y us s.
    agree-bind _ (alike-expression l x y us s) (λ a l e x y us s.
    agree-bind _ (alike-alias l x y us s) (λ w l e x y us s. agree-ok _ s)))

-- a check behind its `flag`
behind_flag : Bool → List Symbol → Reading Clause
behind_flag flag ts = match_option (after Tilde ts) (check_with flag false ts) (λ w. check_with flag true w.1)

alike-behind_flag : (flag : Bool) → Alike (behind_flag flag)
unfolding behind_flag
alike-behind_flag flag ts x y us s =
    agree-look _ (look-after Tilde ts x y us s) (alike-check_with flag false ts x y us s) (λ u l e. alike-check_with flag true l)

check-is : (ts : List Symbol) → check_at ts ≡ match_option (after Flag ts) (behind_flag false ts) (λ w. behind_flag true w.1)
unfolding check_at optional_at behind_flag
check-is ts = elim (none_or_some (after Flag ts)) [
  | inl e ↦ rw e (negation false ts)
  | inr (w, e) ↦ rw e (negation true w.1)
]
  where
    negation : (flag : Bool) (ts : List Symbol) → check_with flag (optional_at Tilde ts).0 (optional_at Tilde ts).1 ≡ behind_flag flag ts
    negation flag ts = elim (none_or_some (after Tilde ts)) [ inl e ↦ rw e refl | inr (w, e) ↦ rw e refl ]

alike-check : Alike check_at
alike-check ts x y us s =
    rw (check-is ts, check-is us) (agree-look (λ w. behind_flag true w.1) (look-after Flag ts x y us s) (alike-behind_flag false ts x y us s) (λ u l e. alike-behind_flag true l))

quoted-cons : (t : Symbol) (ts x y us : List Symbol) → Same x y ts us → Agree x y (suc (length ts)) (quoted_at (t ∷ ts)) (quoted_at (t ∷ us))
unfolding quoted_at
quoted-cons (Quoted w) ts x y us s = agree-if (is_name w) (is_name w) (λ _. refl) (one-less (agree-ok w s)) (agree-err Unexpected (same_more s))
quoted-cons t ts x y us s = agree-err Unexpected (same_more s)

alike-quoted : Alike quoted_at
unfolding quoted_at
alike-quoted = by-first quoted_at (agree-err Unexpected same_end) quoted-cons

alike-elements : Alike (separated Comma (λ _. element_at))
alike-elements = alike-separated Comma (λ _. element_at) (λ _. alike-element) elements_more elements_shorter

alike-names : Alike (separated Comma (λ _. name_at))
alike-names = alike-separated Comma (λ _. name_at) (λ _. alike-name) names_more names_shorter

alike-item : Alike item_at
unfolding item_at
alike-item ts x y us s =
    agree-look _ (look-after Let ts x y us s)
    (agree-look _ (look-after Include ts x y us s)
    (agree-look _ (look-after Show ts x y us s)
    (agree-look _ (look-after Unshow ts x y us s) (alike-check ts x y us s)
    (λ u l e x y us s. agree-bind _ (alike-names l x y us s) (λ w l e x y us s. agree-ok (unshow w) s)))
    (λ u l e x y us s. agree-bind _ (alike-elements l x y us s) (λ w l e x y us s. agree-ok (show w) s)))
    (λ u l e x y us s. agree-bind _ (alike-quoted l x y us s) (λ w l e x y us s. agree-ok (include w) s)))
    (λ u l e. alike-group l)

title-cons : (t : Symbol) (ts x y us : List Symbol) → Same x y ts us → Agree x y (suc (length ts)) (title_at (t ∷ ts)) (title_at (t ∷ us))
unfolding title_at
title-cons (Name w) ts x y us s = one-less (agree-ok (Some w) s)
title-cons (Quoted w) ts x y us s = one-less (agree-ok (Some w) s)
title-cons t ts x y us s = agree-ok None (same_more s)

alike-title : Alike title_at
unfolding title_at
alike-title = by-first title_at (agree-ok None same_end) title-cons

not_end : (t : Symbol) (ts : List Symbol) → unless_end (t ∷ ts) ≡ None → ⊥
unfolding unless_end
not_end t ts e = cc

some_end : (t : Symbol) (ts : List Symbol) (u : Unit {0}) → unless_end (t ∷ ts) ≡ Some (u, t ∷ ts)
unfolding unless_end
some_end t ts u = refl

look-end : AlikeLook unless_end
look-end ts x y us s = record {
  none = λ e far. let h = heads x y ts us s (omega (arith, far)) in absurd (not_end h.first h.ts_behind (subst (λ v. unless_end v ≡ None) h.ts_is e));
  some = λ a rest e. let k = unless_end-same ts rest a e in (
    omega (arith, ap length k),
    λ far.
        let h = heads x y ts us s (omega (arith, far, ap length k)) in
        (us, subst (λ v. unless_end v ≡ Some (a, v)) (sym h.us_is) (some_end h.first h.us_behind a), subst (λ r. Same x y r us) (sym k) s),
  );
}

alike-items : Alike items_at
unfolding items_at
alike-items = alike-repeated unless_end (push_item (λ _. item_at)) items_more items_shorter look-end (alike-push (λ _. item_at) (λ _. alike-item)) []

pub alike-file : Alike file_at
unfolding file_at
alike-file ts x y us s =
    agree-bind _ (alike-title ts x y us s) (λ t l e x y us s.
    agree-bind _ (alike-items l x y us s) (λ is l e x y us s. agree-ok _ s))
