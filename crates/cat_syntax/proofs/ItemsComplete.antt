-- Items that are in the grammar are read.
use Rattle.std.proofs.Common.{◌≡◌, ◌<◌, List, [], ◌∷◌, ◌++◌, map, length, true, false, refl, ap, sym, ◌∙◌, subst, arith, append_assoc}
use Rattle.std.proofs.lemmas.List.{append-nil}
use Rattle.std.specs.Prelude.{Bool, Option, Some, None, Ok}
use Rattle.descent.specs.Reading.{repeated}
use Rattle.cat_syntax.specs.declared.symbol.Symbol.{Symbol}
use Rattle.cat_syntax.specs.declared.symbol.Symbol.TheVariants.{Fixed, Name, Quoted}
use Rattle.cat_syntax.specs.declared.symbol.Terminal.{Terminal}
use Rattle.cat_syntax.specs.declared.symbol.Terminal.TheVariants.{Let, Rec, And, Acyclic, Irreflexive, Empty, As, Flag, Show, Unshow, Include, RightParen, Comma, Equals, Tilde}
use Rattle.cat_tree.specs.declared.tree.CheckKind.{CheckKind}
use Rattle.cat_tree.specs.Tree.{Word, Term, Defined, Bound, Shown, Clause, bind, bind_recursively, check, include, show, unshow, File}
use Rattle.cat_syntax.specs.Symbols.{is_name}
use Rattle.cat_syntax.specs.Items.{IsExpression, AreSeparated, one, more, IsOptional, absent, present, IsNamed, named, IsAlias, no_alias, alias, is_among, AreOnce, AreParameters, no_parameters, with_parameters, IsDefinition, definition, names_defined, names_bound, IsBinding, binding, IsElement, element, Checks, checks_acyclic, checks_irreflexive, checks_empty, IsItem, item_let, item_rec, item_check, item_include, item_show, item_unshow, AreItems, no_items, more_items, IsFile, untitled, title_name, title_quoted}
use Rattle.cat_syntax.specs.Reading.{Reading, terminal_eq, after, name_at, expression_at, push_item, separated, alias_at, next_name, repeats, begins_call, opens_arguments, name_unless, value_name_unless, new_name_at, parameters_at, definition_at, binding_at, group_at, element_at, optional_at, kind_at, check_with, check_at, quoted_at, item_at, unless_end, title_at, items_at, file_at, cut}
use Rattle.cat_syntax.proofs.Symbols.{after-first, expected-first}
use Rattle.cat_syntax.proofs.Names.{is_name-of}
use Rattle.cat_syntax.proofs.Once.{once-fresh, named-fresh}
use Rattle.cat_syntax.proofs.Separated.{EachFits, separated-complete, each-any}
use Rattle.cat_syntax.proofs.Complete.{Ends, Stops, stops_and, stops_as, stops_comma, stops_let, stops_flag, stops_tilde, stops_acyclic, stops_irreflexive, stops_empty, stops_include, stops_show, stops_unshow, stops-ends, nothing-ends, level-complete}
use Rattle.cat_syntax.proofs.ItemsSound.{item-shorter}
use Rattle.cat_syntax.proofs.Lists.{definitions_more, new_names_more, bindings_more, elements_more, names_more, items_more}

-- what begins an item

pub data StartsItem : Terminal → Type 0 where
  starts_let : StartsItem Let
  starts_flag : StartsItem Flag
  starts_tilde : StartsItem Tilde
  starts_acyclic : StartsItem Acyclic
  starts_irreflexive : StartsItem Irreflexive
  starts_empty : StartsItem Empty
  starts_include : StartsItem Include
  starts_show : StartsItem Show
  starts_unshow : StartsItem Unshow

starts-stops : {t : Terminal} → StartsItem t → Stops t
starts-stops starts_let = stops_let
starts-stops starts_flag = stops_flag
starts-stops starts_tilde = stops_tilde
starts-stops starts_acyclic = stops_acyclic
starts-stops starts_irreflexive = stops_irreflexive
starts-stops starts_empty = stops_empty
starts-stops starts_include = stops_include
starts-stops starts_show = stops_show
starts-stops starts_unshow = stops_unshow

-- what goes on with an item
data GoesOn : Terminal → Type 0 where
  goes_and : GoesOn And
  goes_as : GoesOn As
  goes_comma : GoesOn Comma

starts-other : {t u : Terminal} → StartsItem t → GoesOn u → terminal_eq t u ≡ false
starts-other starts_let goes_and = refl
starts-other starts_let goes_as = refl
starts-other starts_let goes_comma = refl
starts-other starts_flag goes_and = refl
starts-other starts_flag goes_as = refl
starts-other starts_flag goes_comma = refl
starts-other starts_tilde goes_and = refl
starts-other starts_tilde goes_as = refl
starts-other starts_tilde goes_comma = refl
starts-other starts_acyclic goes_and = refl
starts-other starts_acyclic goes_as = refl
starts-other starts_acyclic goes_comma = refl
starts-other starts_irreflexive goes_and = refl
starts-other starts_irreflexive goes_as = refl
starts-other starts_irreflexive goes_comma = refl
starts-other starts_empty goes_and = refl
starts-other starts_empty goes_as = refl
starts-other starts_empty goes_comma = refl
starts-other starts_include goes_and = refl
starts-other starts_include goes_as = refl
starts-other starts_include goes_comma = refl
starts-other starts_show goes_and = refl
starts-other starts_show goes_as = refl
starts-other starts_show goes_comma = refl
starts-other starts_unshow goes_and = refl
starts-other starts_unshow goes_as = refl
starts-other starts_unshow goes_comma = refl

-- an item, or nothing
pub data Follows : List Symbol → Type 0 where
  at_end : Follows []
  at_item : {t : Terminal} {ts : List Symbol} → StartsItem t → Follows (Fixed t ∷ ts)

follows-ends : {ts : List Symbol} → Follows ts → Ends 5 ts
follows-ends at_end = nothing-ends 5
follows-ends (at_item {ts = ts} s) = stops-ends (starts-stops s) ts

follows-no : {u : Terminal} {ts : List Symbol} → Follows ts → GoesOn u → after u ts ≡ None
unfolding after
follows-no at_end g = refl
follows-no (at_item s) g = rw (starts-other s g)

-- what begins a check
data StartsCheck : Terminal → Type 0 where
  check_flag : StartsCheck Flag
  check_tilde : StartsCheck Tilde
  check_acyclic : StartsCheck Acyclic
  check_irreflexive : StartsCheck Irreflexive
  check_empty : StartsCheck Empty

check-item : {t : Terminal} → StartsCheck t → StartsItem t
check-item check_flag = starts_flag
check-item check_tilde = starts_tilde
check-item check_acyclic = starts_acyclic
check-item check_irreflexive = starts_irreflexive
check-item check_empty = starts_empty

kind-starts : {t : Terminal} {k : CheckKind} → Checks t k → StartsCheck t
kind-starts checks_acyclic = check_acyclic
kind-starts checks_irreflexive = check_irreflexive
kind-starts checks_empty = check_empty

data OpensCheck : List Symbol → Type 0 where
  opens_check : {t : Terminal} {ts : List Symbol} → StartsCheck t → OpensCheck (Fixed t ∷ ts)

optional-opens : (u : Terminal) → StartsCheck u → (ts rest : List Symbol) (b : Bool) → IsOptional u ts rest b → OpensCheck rest → OpensCheck ts
optional-opens u s ts rest b absent o = o
optional-opens u s ts rest b present o = opens_check s

opens-follows : {ts : List Symbol} → OpensCheck ts → Follows ts
opens-follows (opens_check s) = at_item (check-item s)

item-follows : {ts rest : List Symbol} {c : Clause} → IsItem ts rest c → Follows ts
item-follows (item_let d o) = at_item starts_let
item-follows (item_rec d o) = at_item starts_let
item-follows (item_check {ts = ts} {us = us} {vs = vs} {flag = flag} {negated = negated} {t = t} f n k d e) =
    opens-follows (optional-opens Flag check_flag ts us flag f (optional-opens Tilde check_tilde us (Fixed t ∷ vs) negated n (opens_check (kind-starts k))))
item-follows (item_include n) = at_item starts_include
item-follows (item_show d) = at_item starts_show
item-follows (item_unshow d) = at_item starts_unshow

pub items-follow : {ts : List Symbol} {cs : List Clause} → AreItems ts cs → Follows ts
items-follow no_items = at_end
items-follow (more_items d e) = item-follows d

-- parts of items

named-complete : (ts rest : List Symbol) (x : Word) → IsNamed ts rest x → name_at ts ≡ Ok (x, rest)
unfolding name_at
named-complete ts rest x named = refl

alias-complete : (ts rest : List Symbol) (x : Option Word) → IsAlias ts rest x → after As rest ≡ None → alias_at ts ≡ Ok (x, rest)
unfolding alias_at name_at
alias-complete ts rest x no_alias h = rw h
alias-complete ts rest x (alias {x = y}) h = rw (after-first As (Name y ∷ rest))

alias-ends : (ts rest : List Symbol) (x : Option Word) → IsAlias ts rest x → Ends 5 rest → Ends 5 ts
alias-ends ts rest x no_alias h = h
alias-ends ts rest x (alias {x = y}) h = stops-ends stops_as (Name y ∷ rest)

expression-complete : (ts rest : List Symbol) (a : Term) → IsExpression ts rest a → Ends 5 rest → expression_at ts ≡ Ok (a, rest)
unfolding expression_at
expression-complete ts rest a d h = (level-complete d h).is

new_name-first : (xs : List Word) (x : Word) (ts : List Symbol) → is_among xs x ≡ false → new_name_at xs (Name x ∷ ts) ≡ Ok (x, ts)
unfolding name_unless next_name name_at
new_name-first xs x ts h = rw h

value_name-first : (xs : List Word) (x : Word) (ts : List Symbol) → is_among xs x ≡ false → value_name_unless (repeats xs (Name x ∷ Fixed Equals ∷ ts)) (Name x ∷ Fixed Equals ∷ ts) ≡ Ok (x, Fixed Equals ∷ ts)
unfolding value_name_unless next_name begins_call opens_arguments name_at
value_name-first xs x ts h = rw h

new_name-complete : (xs : List Word) (ts rest : List Symbol) (x : Word) → IsNamed ts rest x → is_among xs x ≡ false → new_name_at xs ts ≡ Ok (x, rest)
new_name-complete xs ts rest x named h = new_name-first xs x rest h

binding-complete : (bs : List Bound) (ts rest : List Symbol) (b : Bound) → IsBinding ts rest b → is_among (names_bound bs) b.name ≡ false → Ends 5 rest → binding_at bs ts ≡ Ok (b, rest)
unfolding binding_at
binding-complete bs ts rest b (binding {x = x} {ts = us} {a = a} d) h ends =
    rw (value_name-first (names_bound bs) x us h, expected-first Equals us, expression-complete us rest a d ends)

-- what may follow an element of a show
record EndsElement (rest : List Symbol) : Type 0 where
  expression : Ends 5 rest
  no_alias : after As rest ≡ None

element-complete : (ts rest : List Symbol) (b : Shown) → IsElement ts rest b → EndsElement rest → element_at ts ≡ Ok (b, rest)
unfolding element_at
element-complete ts rest b (element {mid = mid} {a = a} {x = x} d e) h =
    rw (expression-complete ts mid a d (alias-ends mid rest x e h.expression), alias-complete mid rest x e h.no_alias)

-- lists

module _ {A : Type 0} (name : A → Word) where
  once-each : (bs cs : List A) → AreOnce (map name (bs ++ cs)) → EachFits (λ ds b. is_among (map name ds) (name b) ≡ false) bs cs
  once-each bs [] k = tt
  once-each bs (c ∷ cs) k = (named-fresh name bs c cs k, once-each (bs ++ c ∷ []) cs (subst (λ l. AreOnce (map name l)) (sym (append_assoc bs (c ∷ []) cs)) k))

each-fresh : (xs ys : List Word) → AreOnce (xs ++ ys) → EachFits (λ zs y. is_among zs y ≡ false) xs ys
each-fresh xs [] k = tt
each-fresh xs (y ∷ ys) k = (once-fresh xs y ys k, each-fresh (xs ++ y ∷ []) ys (subst AreOnce (sym (append_assoc xs (y ∷ []) ys)) k))

no-comma : (rest : List Symbol) → after Comma (Fixed RightParen ∷ rest) ≡ None
unfolding after
no-comma rest = refl

new_names-complete : (ts rest : List Symbol) (xs : List Word) → AreSeparated Comma IsNamed ts (Fixed RightParen ∷ rest) xs → AreOnce xs → separated Comma new_name_at ts ≡ Ok (xs, Fixed RightParen ∷ rest)
new_names-complete ts rest xs d k =
    separated-complete Comma IsNamed new_name_at (λ ys x. is_among ys x ≡ false) (λ _. Unit {0}) (λ _. tt) (λ ys us back x i h _. new_name-complete ys us back x i h) new_names_more
    ts (Fixed RightParen ∷ rest) xs d (each-fresh [] xs k) tt (no-comma rest)

parameters-complete : (ts us : List Symbol) (xs : List Word) → AreParameters ts (Fixed Equals ∷ us) xs → parameters_at ts ≡ Ok (xs, Fixed Equals ∷ us)
unfolding parameters_at after
parameters-complete ts us xs no_parameters = refl
parameters-complete ts us xs (with_parameters {ts = vs} d k) = rw (new_names-complete vs (Fixed Equals ∷ us) xs d k, expected-first RightParen (Fixed Equals ∷ us))

definition-complete : (ds : List Defined) (ts rest : List Symbol) (d : Defined) → IsDefinition ts rest d → is_among (names_defined ds) d.name ≡ false → Ends 5 rest → definition_at ds ts ≡ Ok (d, rest)
unfolding definition_at
definition-complete ds ts rest d (definition {x = x} {ts = vs} {us = us} {ps = ps} {a = a} k e) h ends =
    rw (new_name-first (names_defined ds) x vs h, parameters-complete vs us ps k, expected-first Equals us, expression-complete us rest a e ends)

definitions-complete : (ts rest : List Symbol) (ds : List Defined) → AreSeparated And IsDefinition ts rest ds → AreOnce (names_defined ds) → Follows rest → separated And definition_at ts ≡ Ok (ds, rest)
definitions-complete ts rest ds d k f =
    separated-complete And IsDefinition definition_at (λ cs c. is_among (names_defined cs) c.name ≡ false) (λ l. Ends 5 l) (stops-ends stops_and) definition-complete definitions_more
    ts rest ds d (once-each (λ c. c.name) [] ds k) (follows-ends f) (follows-no f goes_and)

bindings-complete : (ts rest : List Symbol) (bs : List Bound) → AreSeparated And IsBinding ts rest bs → AreOnce (names_bound bs) → Follows rest → separated And binding_at ts ≡ Ok (bs, rest)
bindings-complete ts rest bs d k f =
    separated-complete And IsBinding binding_at (λ ds b. is_among (names_bound ds) b.name ≡ false) (λ l. Ends 5 l) (stops-ends stops_and) binding-complete bindings_more
    ts rest bs d (once-each (λ b. b.name) [] bs k) (follows-ends f) (follows-no f goes_and)

comma-ends : (mid : List Symbol) → EndsElement (Fixed Comma ∷ mid)
unfolding after
comma-ends mid = record { expression = stops-ends stops_comma mid; no_alias = refl }

elements-complete : (ts rest : List Symbol) (es : List Shown) → AreSeparated Comma IsElement ts rest es → Follows rest → separated Comma (λ _. element_at) ts ≡ Ok (es, rest)
elements-complete ts rest es d f =
    separated-complete Comma IsElement (λ _. element_at) (λ _ _. Unit {0}) EndsElement comma-ends (λ _ us back b i _ h. element-complete us back b i h) elements_more
    ts rest es d (each-any [] es) (record { expression = follows-ends f; no_alias = follows-no f goes_as }) (follows-no f goes_comma)

names-complete : (ts rest : List Symbol) (xs : List Word) → AreSeparated Comma IsNamed ts rest xs → Follows rest → separated Comma (λ _. name_at) ts ≡ Ok (xs, rest)
names-complete ts rest xs d f =
    separated-complete Comma IsNamed (λ _. name_at) (λ _ _. Unit {0}) (λ _. Unit {0}) (λ _. tt) (λ _ us back x i _ _. named-complete us back x i) names_more
    ts rest xs d (each-any [] xs) tt (follows-no f goes_comma)

-- items

definition-no_rec : (ts rest : List Symbol) (d : Defined) → IsDefinition ts rest d → after Rec ts ≡ None
unfolding after
definition-no_rec ts rest d (definition k e) = refl

definitions-no_rec : (ts rest : List Symbol) (ds : List Defined) → AreSeparated And IsDefinition ts rest ds → after Rec ts ≡ None
definitions-no_rec ts rest ds (one {x = d} e) = definition-no_rec ts rest d e
definitions-no_rec ts rest ds (more {mid = mid} {x = d} e es) = definition-no_rec ts (Fixed And ∷ mid) d e

optional-complete : (t : Terminal) (ts rest : List Symbol) (b : Bool) → IsOptional t ts rest b → after t rest ≡ None → ◌≡◌ {A = Bool × List Symbol} (optional_at t ts) (b, rest)
unfolding optional_at
optional-complete t ts rest b absent h = rw h
optional-complete t ts rest b present h = rw (after-first t rest)

kind-first : {t : Terminal} {k : CheckKind} → Checks t k → (ts : List Symbol) → kind_at (Fixed t ∷ ts) ≡ Ok (k, ts)
unfolding kind_at
kind-first checks_acyclic ts = refl
kind-first checks_irreflexive ts = refl
kind-first checks_empty ts = refl

kind-no_tilde : {t : Terminal} {k : CheckKind} → Checks t k → (ts : List Symbol) → after Tilde (Fixed t ∷ ts) ≡ None
unfolding after
kind-no_tilde checks_acyclic ts = refl
kind-no_tilde checks_irreflexive ts = refl
kind-no_tilde checks_empty ts = refl

kind-no_flag : {t : Terminal} {k : CheckKind} → Checks t k → (ts : List Symbol) → after Flag (Fixed t ∷ ts) ≡ None
unfolding after
kind-no_flag checks_acyclic ts = refl
kind-no_flag checks_irreflexive ts = refl
kind-no_flag checks_empty ts = refl

tilde-no_flag : (ts rest : List Symbol) (b : Bool) → IsOptional Tilde ts rest b → after Flag rest ≡ None → after Flag ts ≡ None
unfolding after
tilde-no_flag ts rest b absent h = h
tilde-no_flag ts rest b present h = refl

check_with-complete : (flag negated : Bool) (t : Terminal) (kind : CheckKind) (vs ws rest : List Symbol) (a : Term) (x : Option Word) →
    Checks t kind → IsExpression vs ws a → IsAlias ws rest x → Follows rest → check_with flag negated (Fixed t ∷ vs) ≡ Ok (check flag negated kind a x, rest)
unfolding check_with
check_with-complete flag negated t kind vs ws rest a x k d e f =
    rw (kind-first k vs, expression-complete vs ws a d (alias-ends ws rest x e (follows-ends f)), alias-complete ws rest x e (follows-no f goes_as))

opened-check : {ts : List Symbol} → OpensCheck ts → item_at ts ≡ check_at ts
unfolding item_at after
opened-check (opens_check check_flag) = refl
opened-check (opens_check check_tilde) = refl
opened-check (opens_check check_acyclic) = refl
opened-check (opens_check check_irreflexive) = refl
opened-check (opens_check check_empty) = refl

check-complete : (ts us vs rest : List Symbol) (flag negated : Bool) (t : Terminal) (c : Clause) →
    ◌≡◌ {A = Bool × List Symbol} (optional_at Flag ts) (flag, us) → ◌≡◌ {A = Bool × List Symbol} (optional_at Tilde us) (negated, Fixed t ∷ vs) →
    check_with flag negated (Fixed t ∷ vs) ≡ Ok (c, rest) → check_at ts ≡ Ok (c, rest)
unfolding check_at
check-complete ts us vs rest flag negated t c p q r = rw (p, q) r

let-first : (ts rest : List Symbol) (c : Clause) → group_at ts ≡ Ok (c, rest) → item_at (Fixed Let ∷ ts) ≡ Ok (c, rest)
unfolding item_at
let-first ts rest c e = rw (after-first Let ts) e

include-first : (x : Word) (rest : List Symbol) → quoted_at (Quoted x ∷ rest) ≡ Ok (x, rest) → item_at (Fixed Include ∷ Quoted x ∷ rest) ≡ Ok (include x, rest)
unfolding item_at after
include-first x rest e = rw e

show-first : (ts rest : List Symbol) (es : List Shown) → separated Comma (λ _. element_at) ts ≡ Ok (es, rest) → item_at (Fixed Show ∷ ts) ≡ Ok (show es, rest)
unfolding item_at after
show-first ts rest es e = rw e

unshow-first : (ts rest : List Symbol) (xs : List Word) → separated Comma (λ _. name_at) ts ≡ Ok (xs, rest) → item_at (Fixed Unshow ∷ ts) ≡ Ok (unshow xs, rest)
unfolding item_at after
unshow-first ts rest xs e = rw e

quoted-first : (x : Word) (rest : List Symbol) → is_name x ≡ true → quoted_at (Quoted x ∷ rest) ≡ Ok (x, rest)
unfolding quoted_at
quoted-first x rest h = rw h

group-plain : (ts rest : List Symbol) (ds : List Defined) → after Rec ts ≡ None → separated And definition_at ts ≡ Ok (ds, rest) → group_at ts ≡ Ok (bind ds, rest)
unfolding group_at
group-plain ts rest ds h e = rw (h, e)

group-rec : (ts rest : List Symbol) (bs : List Bound) → separated And binding_at ts ≡ Ok (bs, rest) → group_at (Fixed Rec ∷ ts) ≡ Ok (bind_recursively bs, rest)
unfolding group_at
group-rec ts rest bs e = rw (after-first Rec ts, e)

item-complete : (ts rest : List Symbol) (c : Clause) → IsItem ts rest c → Follows rest → item_at ts ≡ Ok (c, rest)
item-complete ts rest c (item_let {ts = us} {ds = ds} d k) f = let-first us rest c (group-plain us rest ds (definitions-no_rec us rest ds d) (definitions-complete us rest ds d k f))
item-complete ts rest c (item_rec {ts = us} {bs = bs} d k) f = let-first (Fixed Rec ∷ us) rest c (group-rec us rest bs (bindings-complete us rest bs d k f))
item-complete ts rest c (item_check {us = us} {vs = vs} {ws = ws} {flag = flag} {negated = negated} {t = t} {kind = kind} {a = a} {x = x} o n k d e) f =
    opened-check (optional-opens Flag check_flag ts us flag o (optional-opens Tilde check_tilde us (Fixed t ∷ vs) negated n (opens_check (kind-starts k)))) ∙
    check-complete ts us vs rest flag negated t c
    (optional-complete Flag ts us flag o (tilde-no_flag us (Fixed t ∷ vs) negated n (kind-no_flag k vs)))
    (optional-complete Tilde us (Fixed t ∷ vs) negated n (kind-no_tilde k vs))
    (check_with-complete flag negated t kind vs ws rest a x k d e f)
item-complete ts rest c (item_include {x = x} n) f = include-first x rest (quoted-first x rest (is_name-of x n))
item-complete ts rest c (item_show {ts = us} {es = es} d) f = show-first us rest es (elements-complete us rest es d f)
item-complete ts rest c (item_unshow {ts = us} {xs = xs} d) f = unshow-first us rest xs (names-complete us rest xs d f)

-- the whole of the symbols

nonempty-begins : (ts rest : List Symbol) → length rest < length ts → unless_end ts ≡ Some (tt, ts)
unfolding unless_end
nonempty-begins [] rest h = absurd (omega arith)
nonempty-begins (t ∷ ts) rest h = refl

nothing-left : unless_end [] ≡ None
unfolding unless_end
nothing-left = refl

items-arrive : (bs : List Clause) (ts : List Symbol) (cs : List Clause) → AreItems ts cs → repeated cut unless_end (push_item (λ _. item_at)) bs ts ≡ Ok (bs ++ cs, [])
items-arrive bs ts cs no_items = rw (items_more bs [], nothing-left) (ap (λ (l : List Clause). Ok (l, [])) (sym (append-nil bs)))
items-arrive bs ts cs (more_items {rest = rest} {i = c} {is = ds} d e) =
    rw (items_more bs ts, nonempty-begins ts rest (item-shorter ts rest c d), item-complete ts rest c d (items-follow e))
    (items-arrive (bs ++ c ∷ []) rest ds e ∙ ap (λ (l : List Clause). Ok (l, [])) (append_assoc bs (c ∷ []) ds))

items-complete : (ts : List Symbol) (cs : List Clause) → AreItems ts cs → items_at ts ≡ Ok (cs, [])
unfolding items_at
items-complete ts cs d = items-arrive [] ts cs d

follows-untitled : {ts : List Symbol} → Follows ts → title_at ts ≡ Ok (None, ts)
unfolding title_at
follows-untitled at_end = refl
follows-untitled (at_item s) = refl

name-titled : (x : Word) (ts : List Symbol) → title_at (Name x ∷ ts) ≡ Ok (Some x, ts)
unfolding title_at
name-titled x ts = refl

quoted-titled : (x : Word) (ts : List Symbol) → title_at (Quoted x ∷ ts) ≡ Ok (Some x, ts)
unfolding title_at
quoted-titled x ts = refl

pub file-complete : (ts : List Symbol) (f : File) → IsFile ts f → file_at ts ≡ Ok (f, [])
unfolding file_at
file-complete ts f (untitled {is = cs} d) = rw (follows-untitled (items-follow d), items-complete ts cs d)
file-complete ts f (title_name {x = x} {ts = us} {is = cs} d) = rw (name-titled x us, items-complete us cs d)
file-complete ts f (title_quoted {x = x} {ts = us} {is = cs} d) = rw (quoted-titled x us, items-complete us cs d)

pub one_reading : (ts : List Symbol) (f g : File) → IsFile ts f → IsFile ts g → f ≡ g
one_reading ts f g d e =
    let same : ◌≡◌ {A = Reading File} (Ok (f, [])) (Ok (g, [])) = sym (file-complete ts f d) ∙ file-complete ts g e in
    let pair : ◌≡◌ {A = File × List Symbol} (f, []) (g, []) = cc in
    ap (λ (q : File × List Symbol). q.0) pair
