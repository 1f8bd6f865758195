-- What the loops over lists use.
use Rattle.std.proofs.Common.{◌≡◌, ◌<◌, List, [], ◌∷◌, ◌++◌, length, map, arith, ap, refl, inl, inr}
use Rattle.std.proofs.lemmas.List.{map-append}
use Rattle.std.specs.Prelude.{Bool, Some, Ok}
use Rattle.descent.specs.Reading.{match_option, ◌>>=◌, repeated}
use Rattle.descent.proofs.Tools.{bind_ok, moved, ok_or_err}
use Rattle.cat_syntax.specs.declared.symbol.Symbol.{Symbol}
use Rattle.cat_syntax.specs.declared.symbol.Terminal.{Terminal}
use Rattle.cat_syntax.specs.declared.symbol.Terminal.TheVariants.{And, Comma, Equals}
use Rattle.cat_tree.specs.declared.tree.Binding.{Binding}
use Rattle.cat_tree.specs.declared.tree.Definition.{Definition}
use Rattle.cat_tree.specs.declared.tree.Element.{Element}
use Rattle.cat_tree.specs.declared.tree.Item.{Item}
use Rattle.cat_tree.specs.Tree.{Word, Term, Defined, Bound, Shown, Clause, defined_of, bound_of, shown_of, clause_of, check}
use Rattle.cat_syntax.specs.Reading.{after, expected, name_at, new_name_at, value_name_unless, repeats, parameters_at, definition_at, binding_at, alias_at, kind_at, check_with, element_at, item_at, push_item, unless_end, expression_at, cut}
use Rattle.cat_syntax.specs.Items.{names_defined, names_bound}
use Rattle.cat_syntax.proofs.Separated.{turn_shorter, list-more, after_no_longer}
use Rattle.cat_syntax.proofs.Symbols as symbols
use Rattle.cat_syntax.proofs.ItemsSound as sound
use Rattle.cat_syntax.proofs.Sound.{level-shorter}

pub after_takes : (t : Terminal) (ts rest : List Symbol) (u : Unit {0}) → after t ts ≡ Some (u, rest) → length rest < length ts
after_takes = symbols.after_takes

expression_takes : (ts rest : List Symbol) (a : Term) → expression_at ts ≡ Ok (a, rest) → length rest < length ts
expression_takes ts rest a e = level-shorter (sound.expression-sound ts rest a e)

pub name_takes : (ts rest : List Symbol) (x : Word) → name_at ts ≡ Ok (x, rest) → length rest < length ts
name_takes ts rest x e = omega (arith, ap length (symbols.name-ok ts rest x e))

pub element_takes : (ts rest : List Symbol) (x : Shown) → element_at ts ≡ Ok (x, rest) → length rest < length ts
element_takes ts rest x e = sound.element-shorter ts rest x (sound.element-sound ts rest x e)

pub new_name_takes : (xs : List Word) (ts rest : List Symbol) (x : Word) → new_name_at xs ts ≡ Ok (x, rest) → length rest < length ts
new_name_takes xs ts rest x e = omega (arith, ap length (sound.new_name-sound xs ts rest x e).0)

pub definition_takes : (ds : List Defined) (ts rest : List Symbol) (d : Defined) → definition_at ds ts ≡ Ok (d, rest) → length rest < length ts
unfolding definition_at
definition_takes ds ts rest d e =
    let x = bind_ok (new_name_at (names_defined ds) ts) _ _ e in
    let ps = bind_ok (parameters_at x.0.1) _ _ x.2 in
    let y = bind_ok (expected Equals ps.0.1) _ _ ps.2 in
    let a = bind_ok (expression_at y.0.1) _ _ y.2 in
    moved (λ l c. length l < length ts) a.2
    (omega (
      arith,
      new_name_takes (names_defined ds) ts x.0.1 x.0.0 x.1,
      sound.parameters-shorter x.0.1 ps.0.1 ps.0.0 (sound.parameters-sound x.0.1 ps.0.1 ps.0.0 ps.1),
      ap length (symbols.expected-ok Equals ps.0.1 y.0.1 y.0.0 y.1),
      expression_takes y.0.1 a.0.1 a.0.0 a.1,
    ))

pub binding_takes : (bs : List Bound) (ts rest : List Symbol) (b : Bound) → binding_at bs ts ≡ Ok (b, rest) → length rest < length ts
unfolding binding_at
binding_takes bs ts rest b e =
    let x = bind_ok (value_name_unless (repeats (names_bound bs) ts) ts) _ _ e in
    let y = bind_ok (expected Equals x.0.1) _ _ x.2 in
    let a = bind_ok (expression_at y.0.1) _ _ y.2 in
    moved (λ l c. length l < length ts) a.2
    (omega (arith, ap length (sound.value_name-sound (names_bound bs) ts x.0.1 x.0.0 x.1).0, ap length (symbols.expected-ok Equals x.0.1 y.0.1 y.0.0 y.1), expression_takes y.0.1 a.0.1 a.0.0 a.1))

pub item_takes : (ts rest : List Symbol) (c : Clause) → item_at ts ≡ Ok (c, rest) → length rest < length ts
item_takes ts rest c e = sound.item-shorter ts rest c (sound.item-sound ts rest c e)

-- a turn of a loop over a list

pub definitions_more : (ds : List Defined) (ts : List Symbol) →
    repeated cut (after And) (push_item definition_at) ds ts ≡
    match_option (after And ts) (Ok (ds, ts)) (λ x. push_item definition_at x.0 ds x.1 >>= λ y. repeated cut (after And) (push_item definition_at) y.0 y.1)
definitions_more = list-more (after And) definition_at (after_no_longer And) definition_takes

pub new_names_more : (xs : List Word) (ts : List Symbol) →
    repeated cut (after Comma) (push_item new_name_at) xs ts ≡
    match_option (after Comma ts) (Ok (xs, ts)) (λ x. push_item new_name_at x.0 xs x.1 >>= λ y. repeated cut (after Comma) (push_item new_name_at) y.0 y.1)
new_names_more = list-more (after Comma) new_name_at (after_no_longer Comma) new_name_takes

pub bindings_more : (bs : List Bound) (ts : List Symbol) →
    repeated cut (after And) (push_item binding_at) bs ts ≡
    match_option (after And ts) (Ok (bs, ts)) (λ x. push_item binding_at x.0 bs x.1 >>= λ y. repeated cut (after And) (push_item binding_at) y.0 y.1)
bindings_more = list-more (after And) binding_at (after_no_longer And) binding_takes

pub elements_more : (es : List Shown) (ts : List Symbol) →
    repeated cut (after Comma) (push_item (λ _. element_at)) es ts ≡
    match_option (after Comma ts) (Ok (es, ts)) (λ x. push_item (λ _. element_at) x.0 es x.1 >>= λ y. repeated cut (after Comma) (push_item (λ _. element_at)) y.0 y.1)
elements_more = list-more (after Comma) (λ _. element_at) (after_no_longer Comma) (λ _. element_takes)

pub names_more : (xs : List Word) (ts : List Symbol) →
    repeated cut (after Comma) (push_item (λ _. name_at)) xs ts ≡
    match_option (after Comma ts) (Ok (xs, ts)) (λ x. push_item (λ _. name_at) x.0 xs x.1 >>= λ y. repeated cut (after Comma) (push_item (λ _. name_at)) y.0 y.1)
names_more = list-more (after Comma) (λ _. name_at) (after_no_longer Comma) (λ _. name_takes)

pub items_more : (cs : List Clause) (ts : List Symbol) →
    repeated cut unless_end (push_item (λ _. item_at)) cs ts ≡
    match_option (unless_end ts) (Ok (cs, ts)) (λ x. push_item (λ _. item_at) x.0 cs x.1 >>= λ y. repeated cut unless_end (push_item (λ _. item_at)) y.0 y.1)
items_more = list-more unless_end (λ _. item_at) sound.unless_end_takes (λ _. item_takes)

-- such a turn takes a symbol

pub definitions_shorter : (ts mid rest : List Symbol) (o : Unit {0}) (bs cs : List Defined) → after And ts ≡ Some (o, mid) → push_item definition_at o bs mid ≡ Ok (cs, rest) → length rest < length ts
definitions_shorter = turn_shorter (after And) definition_at (after_no_longer And) definition_takes

pub new_names_shorter : (ts mid rest : List Symbol) (o : Unit {0}) (xs ys : List Word) → after Comma ts ≡ Some (o, mid) → push_item new_name_at o xs mid ≡ Ok (ys, rest) → length rest < length ts
new_names_shorter = turn_shorter (after Comma) new_name_at (after_no_longer Comma) new_name_takes

pub bindings_shorter : (ts mid rest : List Symbol) (o : Unit {0}) (bs cs : List Bound) → after And ts ≡ Some (o, mid) → push_item binding_at o bs mid ≡ Ok (cs, rest) → length rest < length ts
bindings_shorter = turn_shorter (after And) binding_at (after_no_longer And) binding_takes

pub elements_shorter : (ts mid rest : List Symbol) (o : Unit {0}) (es fs : List Shown) → after Comma ts ≡ Some (o, mid) → push_item (λ _. element_at) o es mid ≡ Ok (fs, rest) → length rest < length ts
elements_shorter = turn_shorter (after Comma) (λ _. element_at) (after_no_longer Comma) (λ _. element_takes)

pub names_shorter : (ts mid rest : List Symbol) (o : Unit {0}) (xs ys : List Word) → after Comma ts ≡ Some (o, mid) → push_item (λ _. name_at) o xs mid ≡ Ok (ys, rest) → length rest < length ts
names_shorter = turn_shorter (after Comma) (λ _. name_at) (after_no_longer Comma) (λ _. name_takes)

pub items_shorter : (ts mid rest : List Symbol) (o : Unit {0}) (cs ds : List Clause) → unless_end ts ≡ Some (o, mid) → push_item (λ _. item_at) o cs mid ≡ Ok (ds, rest) → length rest < length ts
items_shorter = turn_shorter unless_end (λ _. item_at) sound.unless_end_takes (λ _. item_takes)

-- a check is one element, behind the word that says what is checked
pub check_parts : (flag negated : Bool) (ts : List Symbol) →
    check_with flag negated ts ≡ (kind_at ts >>= λ k. element_at k.1 >>= λ e. Ok (check flag negated k.0 e.0.value e.0.alias, e.1))
unfolding check_with element_at
check_parts flag negated ts =
    elim (ok_or_err (kind_at ts)) [
      | inl (d, f) ↦ rw f refl
      | inr (k, f) ↦ rw f (elim (ok_or_err (expression_at k.1)) [
        | inl (d, g) ↦ rw g refl
        | inr (a, g) ↦ rw g (elim (ok_or_err (alias_at a.1)) [
          | inl (d, h) ↦ rw h refl
          | inr (x, h) ↦ rw h refl
        ])
      ])
    ]

-- one more in memory

pub defined_push : (ds : List Definition) (d : Definition) → map defined_of (ds ++ d ∷ []) ≡ map defined_of ds ++ defined_of d ∷ []
defined_push ds d = map-append defined_of ds (d ∷ [])

pub bounds_push : (bs : List Binding) (b : Binding) → map bound_of (bs ++ b ∷ []) ≡ map bound_of bs ++ bound_of b ∷ []
bounds_push bs b = map-append bound_of bs (b ∷ [])

pub shown_push : (es : List Element) (e : Element) → map shown_of (es ++ e ∷ []) ≡ map shown_of es ++ shown_of e ∷ []
shown_push es e = map-append shown_of es (e ∷ [])

pub clauses_push : (is : List Item) (i : Item) → map clause_of (is ++ i ∷ []) ≡ map clause_of is ++ clause_of i ∷ []
clauses_push is i = map-append clause_of is (i ∷ [])
