-- Items that are read are in the grammar.
use Rattle.std.proofs.Common.{◌≡◌, ◌<◌, ◌≤◌, List, [], ◌∷◌, ◌++◌, length, true, false, refl, ap, sym, subst, arith, inl, inr, append_assoc}
use Rattle.std.proofs.lemmas.List.{append-nil}
use Rattle.std.specs.Prelude.{Bool, Option, Some, None, Ok}
use Rattle.descent.proofs.Tools.{bind_ok, cases_of, chosen, moved, moved_look}
use Rattle.descent.proofs.Turns.{repeated-keeps, repeated-stops}
use Rattle.cat_syntax.specs.declared.symbol.Symbol.{Symbol}
use Rattle.cat_syntax.specs.declared.symbol.Symbol.TheVariants.{Fixed, Name, Quoted}
use Rattle.cat_syntax.specs.declared.symbol.Terminal.{Terminal}
use Rattle.cat_syntax.specs.declared.symbol.Terminal.TheVariants.{Let, Rec, And, Acyclic, Irreflexive, Empty, As, Flag, Show, Unshow, Include, LeftParen, RightParen, Comma, Equals, Tilde}
use Rattle.cat_tree.specs.declared.tree.CheckKind.{CheckKind}
use Rattle.cat_tree.specs.Tree.{Word, Defined, Bound, Shown, Clause, include, File}
use Rattle.cat_syntax.specs.Symbols.{is_name}
use Rattle.cat_syntax.specs.Items.{IsExpression, AreSeparated, IsOptional, absent, present, IsNamed, named, IsAlias, no_alias, alias, is_among, AreOnce, AreParameters, no_parameters, with_parameters, IsDefinition, definition, names_defined, names_bound, IsBinding, binding, IsElement, element, Checks, checks_acyclic, checks_irreflexive, checks_empty, IsItem, item_let, item_rec, item_check, item_include, item_show, item_unshow, AreItems, no_items, more_items, IsFile, untitled, title_name, title_quoted}
use Rattle.cat_syntax.specs.Reading.{after, expected, name_at, expression_at, push_item, separated, alias_at, next_name, repeats, begins_call, name_unless, value_name_unless, new_name_at, parameters_at, definition_at, binding_at, group_at, element_at, optional_at, kind_at, check_with, check_at, quoted_at, item_at, unless_end, title_at, items_at, file_at, cut}
use Rattle.cat_syntax.proofs.Symbols.{after-some, expected-ok, name-ok}
use Rattle.cat_syntax.proofs.Names.{name_is}
use Rattle.cat_syntax.proofs.Once.{once-push, named-push}
use Rattle.cat_syntax.proofs.Separated.{separated-shorter, separated-sound}
use Rattle.cat_syntax.proofs.Sound.{Sound, level-shorter, level_is}

pub expression-sound : Sound expression_at IsExpression
unfolding expression_at
expression-sound ts rest a e = level_is 64 5 ts rest a e

-- parts of items

pub named-sound : Sound name_at IsNamed
named-sound ts rest x e = subst (λ l. IsNamed l rest x) (sym (name-ok ts rest x e)) named

pub alias-sound : Sound alias_at IsAlias
unfolding alias_at
alias-sound ts rest x e =
    elim (cases_of (after As ts) _ _ _ e) [
      | inl s ↦ moved (λ l t. IsAlias ts l t) s.1 no_alias
      | inr (y, was, f) ↦
          let z = bind_ok (name_at y.1) _ _ f in
          subst (λ l. IsAlias l rest x) (sym (after-some As ts y.1 y.0 was))
          (subst (λ l. IsAlias (Fixed As ∷ l) rest x) (sym (name-ok y.1 z.0.1 z.0.0 z.1))
          (moved (λ l t. IsAlias (Fixed As ∷ Name z.0.0 ∷ z.0.1) l t) z.2 alias))
    ]

pub new_name-sound : (xs : List Word) (ts rest : List Symbol) (x : Word) → new_name_at xs ts ≡ Ok (x, rest) → (ts ≡ Name x ∷ rest) × (is_among xs x ≡ false)
unfolding name_unless next_name
new_name-sound xs ts rest x e =
    elim (chosen (repeats xs ts) _ _ _ e) [
      | inl h ↦ absurd (cc)
      | inr h ↦
          let same : ts ≡ Name x ∷ rest = name-ok ts rest x h.1 in
          (same, subst (λ l. repeats xs l ≡ false) same h.0)
    ]

pub value_name-sound : (xs : List Word) (ts rest : List Symbol) (x : Word) → value_name_unless (repeats xs ts) ts ≡ Ok (x, rest) → (ts ≡ Name x ∷ rest) × (is_among xs x ≡ false)
unfolding value_name_unless next_name
value_name-sound xs ts rest x e =
    elim (chosen (repeats xs ts) _ _ _ e) [
      | inl h ↦ absurd (cc)
      | inr h ↦ elim (chosen (begins_call ts) _ _ _ h.1) [
        | inl k ↦ absurd (cc)
        | inr k ↦
            let same : ts ≡ Name x ∷ rest = name-ok ts rest x k.1 in
            (same, subst (λ l. repeats xs l ≡ false) same h.0)
      ]
    ]

-- one more name, where it doesn't stand already
new_name-named : (xs : List Word) (ts rest : List Symbol) (x : Word) → AreOnce xs → new_name_at xs ts ≡ Ok (x, rest) → IsNamed ts rest x × AreOnce (xs ++ x ∷ [])
new_name-named xs ts rest x k e =
    let n = new_name-sound xs ts rest x e in
    (subst (λ l. IsNamed l rest x) (sym n.0) named, once-push xs x k n.1)

pub parameters-sound : Sound parameters_at AreParameters
unfolding parameters_at
parameters-sound ts rest xs e =
    elim (cases_of (after LeftParen ts) _ _ _ e) [
      | inl s ↦ moved (λ l t. AreParameters ts l t) s.1 no_parameters
      | inr (y, was, f) ↦
          let x = bind_ok (separated Comma new_name_at y.1) _ _ f in
          let z = bind_ok (expected RightParen x.0.1) _ _ x.2 in
          let d = separated-sound Comma IsNamed new_name_at AreOnce tt new_name-named y.1 x.0.1 x.0.0 x.1 in
          subst (λ l. AreParameters l rest xs) (sym (after-some LeftParen ts y.1 y.0 was))
          (moved (λ l t. AreParameters (Fixed LeftParen ∷ y.1) l t) z.2
          (with_parameters (subst (λ l. AreSeparated Comma IsNamed y.1 l x.0.0) (expected-ok RightParen x.0.1 z.0.1 z.0.0 z.1) d.0) d.1))
    ]

definition-sound : (ds : List Defined) (ts rest : List Symbol) (d : Defined) → AreOnce (names_defined ds) → definition_at ds ts ≡ Ok (d, rest) → IsDefinition ts rest d × AreOnce (names_defined (ds ++ d ∷ []))
unfolding definition_at
definition-sound ds ts rest d k e =
    let x = bind_ok (new_name_at (names_defined ds) ts) _ _ e in
    let ps = bind_ok (parameters_at x.0.1) _ _ x.2 in
    let y = bind_ok (expected Equals ps.0.1) _ _ ps.2 in
    let a = bind_ok (expression_at y.0.1) _ _ y.2 in
    let n = new_name-sound (names_defined ds) ts x.0.1 x.0.0 x.1 in
    let is : Defined = record { name = x.0.0; parameters = ps.0.0; value = a.0.0 } in
    moved (λ l c. IsDefinition ts l c × AreOnce (names_defined (ds ++ c ∷ []))) a.2 (
      subst (λ l. IsDefinition l a.0.1 is) (sym n.0)
          (definition (subst (λ l. AreParameters x.0.1 l ps.0.0) (expected-ok Equals ps.0.1 y.0.1 y.0.0 y.1) (parameters-sound x.0.1 ps.0.1 ps.0.0 ps.1)) (expression-sound y.0.1 a.0.1 a.0.0 a.1)),
      named-push (λ c. c.name) ds is k n.1,
    )

binding-sound : (bs : List Bound) (ts rest : List Symbol) (b : Bound) → AreOnce (names_bound bs) → binding_at bs ts ≡ Ok (b, rest) → IsBinding ts rest b × AreOnce (names_bound (bs ++ b ∷ []))
unfolding binding_at
binding-sound bs ts rest b k e =
    let x = bind_ok (value_name_unless (repeats (names_bound bs) ts) ts) _ _ e in
    let y = bind_ok (expected Equals x.0.1) _ _ x.2 in
    let a = bind_ok (expression_at y.0.1) _ _ y.2 in
    let n = value_name-sound (names_bound bs) ts x.0.1 x.0.0 x.1 in
    let is : Bound = record { name = x.0.0; value = a.0.0 } in
    moved (λ l c. IsBinding ts l c × AreOnce (names_bound (bs ++ c ∷ []))) a.2 (
      subst (λ l. IsBinding l a.0.1 is) (sym n.0)
          (subst (λ l. IsBinding (Name x.0.0 ∷ l) a.0.1 is) (sym (expected-ok Equals x.0.1 y.0.1 y.0.0 y.1))
          (binding (expression-sound y.0.1 a.0.1 a.0.0 a.1))),
      named-push (λ c. c.name) bs is k n.1,
    )

pub element-sound : Sound element_at IsElement
unfolding element_at
element-sound ts rest b e =
    let a = bind_ok (expression_at ts) _ _ e in
    let x = bind_ok (alias_at a.0.1) _ _ a.2 in
    moved (λ l c. IsElement ts l c) x.2 (element (expression-sound ts a.0.1 a.0.0 a.1) (alias-sound a.0.1 x.0.1 x.0.0 x.1))

definitions-sound : (ts rest : List Symbol) (ds : List Defined) → separated And definition_at ts ≡ Ok (ds, rest) → AreSeparated And IsDefinition ts rest ds × AreOnce (names_defined ds)
definitions-sound = separated-sound And IsDefinition definition_at (λ ds. AreOnce (names_defined ds)) tt definition-sound

bindings-sound : (ts rest : List Symbol) (bs : List Bound) → separated And binding_at ts ≡ Ok (bs, rest) → AreSeparated And IsBinding ts rest bs × AreOnce (names_bound bs)
bindings-sound = separated-sound And IsBinding binding_at (λ bs. AreOnce (names_bound bs)) tt binding-sound

elements-sound : (ts rest : List Symbol) (es : List Shown) → separated Comma (λ _. element_at) ts ≡ Ok (es, rest) → AreSeparated Comma IsElement ts rest es
elements-sound ts rest es e = (separated-sound Comma IsElement (λ _. element_at) (λ _. Unit {0}) tt (λ xs us back x k f. (element-sound us back x f, tt)) ts rest es e).0

names-sound : (ts rest : List Symbol) (xs : List Word) → separated Comma (λ _. name_at) ts ≡ Ok (xs, rest) → AreSeparated Comma IsNamed ts rest xs
names-sound ts rest xs e = (separated-sound Comma IsNamed (λ _. name_at) (λ _. Unit {0}) tt (λ ys us back x k f. (named-sound us back x f, tt)) ts rest xs e).0

-- items

group-sound : Sound group_at (λ ts rest c. IsItem (Fixed Let ∷ ts) rest c)
unfolding group_at
group-sound ts rest c e =
    elim (cases_of (after Rec ts) _ _ _ e) [
      | inl s ↦
          let x = bind_ok (separated And definition_at ts) _ _ s.1 in
          let d = definitions-sound ts x.0.1 x.0.0 x.1 in
          moved (λ l t. IsItem (Fixed Let ∷ ts) l t) x.2 (item_let d.0 d.1)
      | inr (y, was, f) ↦
          let x = bind_ok (separated And binding_at y.1) _ _ f in
          let d = bindings-sound y.1 x.0.1 x.0.0 x.1 in
          subst (λ l. IsItem (Fixed Let ∷ l) rest c) (sym (after-some Rec ts y.1 y.0 was))
          (moved (λ l t. IsItem (Fixed Let ∷ Fixed Rec ∷ y.1) l t) x.2 (item_rec d.0 d.1))
    ]

kind-sound : (ts rest : List Symbol) (k : CheckKind) → kind_at ts ≡ Ok (k, rest) → (t : Terminal) × (ts ≡ Fixed t ∷ rest) × Checks t k
unfolding kind_at
kind-sound (Fixed Acyclic ∷ ts) rest k e = moved (λ l p. (t : Terminal) × (Fixed Acyclic ∷ ts ≡ Fixed t ∷ l) × Checks t p) e (Acyclic, refl, checks_acyclic)
kind-sound (Fixed Irreflexive ∷ ts) rest k e = moved (λ l p. (t : Terminal) × (Fixed Irreflexive ∷ ts ≡ Fixed t ∷ l) × Checks t p) e (Irreflexive, refl, checks_irreflexive)
kind-sound (Fixed Empty ∷ ts) rest k e = moved (λ l p. (t : Terminal) × (Fixed Empty ∷ ts ≡ Fixed t ∷ l) × Checks t p) e (Empty, refl, checks_empty)
kind-sound ts rest k e = absurd (cc)

optional-sound : (t : Terminal) (ts : List Symbol) → IsOptional t ts (optional_at t ts).1 (optional_at t ts).0
unfolding optional_at
optional-sound t ts =
    elim (cases_of (after t ts) _ _ (optional_at t ts) refl) [
      | inl s ↦ subst (λ (p : Bool × List Symbol). IsOptional t ts p.1 p.0) s.1 absent
      | inr (y, was, f) ↦ subst (λ (p : Bool × List Symbol). IsOptional t ts p.1 p.0) f (subst (λ l. IsOptional t l y.1 true) (sym (after-some t ts y.1 y.0 was)) present)
    ]

check-sound : Sound check_at IsItem
unfolding check_at check_with
check-sound ts rest c e =
    let flag = optional_at Flag ts in
    let negated = optional_at Tilde flag.1 in
    let k = bind_ok (kind_at negated.1) _ _ e in
    let a = bind_ok (expression_at k.0.1) _ _ k.2 in
    let x = bind_ok (alias_at a.0.1) _ _ a.2 in
    let t = kind-sound negated.1 k.0.1 k.0.0 k.1 in
    moved (λ l p. IsItem ts l p) x.2
    (item_check (optional-sound Flag ts) (subst (λ l. IsOptional Tilde flag.1 l negated.0) t.1 (optional-sound Tilde flag.1)) t.2
    (expression-sound k.0.1 a.0.1 a.0.0 a.1) (alias-sound a.0.1 x.0.1 x.0.0 x.1))

quoted-sound : Sound quoted_at (λ ts rest x. IsItem (Fixed Include ∷ ts) rest (include x))
unfolding quoted_at
quoted-sound (Quoted x ∷ ts) rest y e =
    elim (chosen (is_name x) _ _ _ e) [
      | inl h ↦ moved (λ l z. IsItem (Fixed Include ∷ Quoted x ∷ ts) l (include z)) h.1 (item_include (name_is x h.0))
      | inr h ↦ absurd (cc)
    ]
quoted-sound ts rest y e = absurd (cc)

pub item-sound : Sound item_at IsItem
unfolding item_at
item-sound ts rest c e =
    elim (cases_of (after Let ts) _ _ _ e) [
      | inr (y, was, f) ↦ subst (λ l. IsItem l rest c) (sym (after-some Let ts y.1 y.0 was)) (group-sound y.1 rest c f)
      | inl s ↦ elim (cases_of (after Include ts) _ _ _ s.1) [
        | inr (y, was, f) ↦
            let x = bind_ok (quoted_at y.1) _ _ f in
            subst (λ l. IsItem l rest c) (sym (after-some Include ts y.1 y.0 was))
            (moved (λ l t. IsItem (Fixed Include ∷ y.1) l t) x.2 (quoted-sound y.1 x.0.1 x.0.0 x.1))
        | inl s ↦ elim (cases_of (after Show ts) _ _ _ s.1) [
          | inr (y, was, f) ↦
              let x = bind_ok (separated Comma (λ _. element_at) y.1) _ _ f in
              subst (λ l. IsItem l rest c) (sym (after-some Show ts y.1 y.0 was))
              (moved (λ l t. IsItem (Fixed Show ∷ y.1) l t) x.2 (item_show (elements-sound y.1 x.0.1 x.0.0 x.1)))
          | inl s ↦ elim (cases_of (after Unshow ts) _ _ _ s.1) [
            | inr (y, was, f) ↦
                let x = bind_ok (separated Comma (λ _. name_at) y.1) _ _ f in
                subst (λ l. IsItem l rest c) (sym (after-some Unshow ts y.1 y.0 was))
                (moved (λ l t. IsItem (Fixed Unshow ∷ y.1) l t) x.2 (item_unshow (names-sound y.1 x.0.1 x.0.0 x.1)))
            | inl s ↦ check-sound ts rest c s.1
          ]
        ]
      ]
    ]

-- each takes a symbol

alias-shorter : (ts rest : List Symbol) (x : Option Word) → IsAlias ts rest x → length rest ≤ length ts
alias-shorter ts rest x no_alias = omega arith
alias-shorter ts rest x alias = omega arith

optional-shorter : (t : Terminal) (ts rest : List Symbol) (b : Bool) → IsOptional t ts rest b → length rest ≤ length ts
optional-shorter t ts rest b absent = omega arith
optional-shorter t ts rest b present = omega arith

pub named-shorter : (ts rest : List Symbol) (x : Word) → IsNamed ts rest x → length rest < length ts
named-shorter ts rest x named = omega arith

pub parameters-shorter : (ts rest : List Symbol) (xs : List Word) → AreParameters ts rest xs → length rest ≤ length ts
parameters-shorter ts rest xs no_parameters = omega arith
parameters-shorter ts rest xs (with_parameters {ts = us} d o) = omega (arith, separated-shorter Comma IsNamed named-shorter us (Fixed RightParen ∷ rest) xs d)

pub definition-shorter : (ts rest : List Symbol) (d : Defined) → IsDefinition ts rest d → length rest < length ts
definition-shorter ts rest d (definition {ts = us} {us = vs} {ps = ps} h k) = omega (arith, parameters-shorter us (Fixed Equals ∷ vs) ps h, level-shorter k)

pub binding-shorter : (ts rest : List Symbol) (b : Bound) → IsBinding ts rest b → length rest < length ts
binding-shorter ts rest b (binding d) = omega (arith, level-shorter d)

pub element-shorter : (ts rest : List Symbol) (b : Shown) → IsElement ts rest b → length rest < length ts
element-shorter ts rest b (element {mid = mid} {x = x} d e) = omega (arith, level-shorter d, alias-shorter mid rest x e)

pub item-shorter : (ts rest : List Symbol) (c : Clause) → IsItem ts rest c → length rest < length ts
item-shorter ts rest c (item_let {ts = us} {ds = ds} d o) = omega (arith, separated-shorter And IsDefinition definition-shorter us rest ds d)
item-shorter ts rest c (item_rec {ts = us} {bs = bs} d o) = omega (arith, separated-shorter And IsBinding binding-shorter us rest bs d)
item-shorter ts rest c (item_check {us = us} {vs = vs} {ws = ws} {flag = flag} {negated = negated} {t = t} {x = x} f n k d e) =
    omega (arith, optional-shorter Flag ts us flag f, optional-shorter Tilde us (Fixed t ∷ vs) negated n, level-shorter d, alias-shorter ws rest x e)
item-shorter ts rest c (item_include n) = omega arith
item-shorter ts rest c (item_show {ts = us} {es = es} d) = omega (arith, separated-shorter Comma IsElement element-shorter us rest es d)
item-shorter ts rest c (item_unshow {ts = us} {xs = xs} d) = omega (arith, separated-shorter Comma IsNamed named-shorter us rest xs d)

-- the whole of the symbols

items-join : (ts rest : List Symbol) (c : Clause) → IsItem ts rest c → (cs : List Clause) → AreItems rest cs → AreItems ts (c ∷ cs)
items-join ts rest c d cs e = more_items d e

pub unless_end-same : (ts rest : List Symbol) (u : Unit {0}) → unless_end ts ≡ Some (u, rest) → rest ≡ ts
unfolding unless_end
unless_end-same [] rest u e = absurd (cc)
unless_end-same (t ∷ ts) rest u e = sym (moved_look (λ l v. t ∷ ts ≡ l) e refl)

pub unless_end_takes : (ts rest : List Symbol) (u : Unit {0}) → unless_end ts ≡ Some (u, rest) → length rest ≤ length ts
unless_end_takes ts rest u e = omega (arith, ap length (unless_end-same ts rest u e))

end-none : (ts : List Symbol) → unless_end ts ≡ None → ts ≡ []
unfolding unless_end
end-none [] e = refl
end-none (t ∷ ts) e = absurd (cc)

items-sound : (ts rest : List Symbol) (cs : List Clause) → items_at ts ≡ Ok (cs, rest) → AreItems ts cs × (rest ≡ [])
unfolding items_at
items-sound ts rest cs e =
    let end : rest ≡ [] = end-none rest (repeated-stops cut unless_end (push_item (λ _. item_at)) [] ts cs rest e) in
    let so_far : (ds : List Clause) → AreItems rest ds → AreItems ts (cs ++ ds) =
    repeated-keeps cut unless_end (push_item (λ _. item_at)) (λ l bs. (ds : List Clause) → AreItems l ds → AreItems ts (bs ++ ds))
    (λ o us mid back bs cs d was f.
    let y = bind_ok (item_at mid) _ _ f in
    moved (λ l es. (ds : List Clause) → AreItems l ds → AreItems ts (es ++ ds)) y.2
    (λ ds g. rw append_assoc (d (y.0.0 ∷ ds) (subst (λ l. AreItems l (y.0.0 ∷ ds)) (unless_end-same us mid o was) (items-join mid y.0.1 y.0.0 (item-sound mid y.0.1 y.0.0 y.1) ds g)))))
    [] ts cs rest (λ ds g. g) e in
    (rw append-nil at (so_far [] (subst (λ l. AreItems l []) (sym end) no_items)), end)

pub file-sound : (ts rest : List Symbol) (f : File) → file_at ts ≡ Ok (f, rest) → IsFile ts f
unfolding file_at title_at
file-sound (Name x ∷ ts) rest f e =
    let y = bind_ok (items_at ts) _ _ e in
    moved (λ l g. IsFile (Name x ∷ ts) g) y.2 (title_name (items-sound ts y.0.1 y.0.0 y.1).0)
file-sound (Quoted x ∷ ts) rest f e =
    let y = bind_ok (items_at ts) _ _ e in
    moved (λ l g. IsFile (Quoted x ∷ ts) g) y.2 (title_quoted (items-sound ts y.0.1 y.0.0 y.1).0)
file-sound ts rest f e =
    let y = bind_ok (items_at ts) _ _ e in
    moved (λ l g. IsFile ts g) y.2 (untitled (items-sound ts y.0.1 y.0.0 y.1).0)
