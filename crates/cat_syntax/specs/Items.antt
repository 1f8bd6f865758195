-- The grammar of models. (herd7 manual, the cat language: instructions.)
-- Each family says that the symbols ts begin with a part of a model, and that rest follows it.
use Rattle.std.specs.Prelude.{◌≡◌, List, [], ◌∷◌, map, Bool, true, false, Option, Some, None}
use Rattle.std.specs.List.{list_any}
use Rattle.std.specs.Str.{bytes_eq}
use Rattle.wb_text.specs.Names.{IsName}
use Rattle.cat_syntax.specs.declared.symbol.Symbol.{Symbol}
use Rattle.cat_syntax.specs.declared.symbol.Symbol.TheVariants.{Fixed, Name, Quoted}
use Rattle.cat_syntax.specs.declared.symbol.Terminal.{Terminal}
use Rattle.cat_syntax.specs.declared.symbol.Terminal.TheVariants.{Let, Rec, And, Acyclic, Irreflexive, Empty, As, Flag, Show, Unshow, Include, LeftParen, RightParen, Comma, Equals, Tilde}
use Rattle.cat_tree.specs.declared.tree.CheckKind.{CheckKind}
use Rattle.cat_tree.specs.declared.tree.CheckKind.TheVariants as kinds
use Rattle.cat_tree.specs.Tree.{Word, Term, Defined, Bound, Shown, Clause, bind, bind_recursively, check, include, show, unshow, File}
use Rattle.cat_syntax.specs.Grammar.{IsLevel}

-- an expression, which nests at most 64 deep
abbrev pub IsExpression : List Symbol → List Symbol → Term → Type 0
IsExpression ts rest a = IsLevel 5 64 ts rest a

-- x {separator x}
pub data AreSeparated {A : Type 0} (separator : Terminal) (Is : List Symbol → List Symbol → A → Type 0) : List Symbol → List Symbol → List A → Type 0 where
  one : {ts rest : List Symbol} {x : A} → Is ts rest x → AreSeparated separator Is ts rest (x ∷ [])
  more : {ts mid rest : List Symbol} {x : A} {xs : List A} → Is ts (Fixed separator ∷ mid) x → AreSeparated separator Is mid rest xs → AreSeparated separator Is ts rest (x ∷ xs)

-- [terminal]
pub data IsOptional (terminal : Terminal) : List Symbol → List Symbol → Bool → Type 0 where
  absent : {rest : List Symbol} → IsOptional terminal rest rest false
  present : {rest : List Symbol} → IsOptional terminal (Fixed terminal ∷ rest) rest true

-- name
pub data IsNamed : List Symbol → List Symbol → Word → Type 0 where
  named : {x : Word} {rest : List Symbol} → IsNamed (Name x ∷ rest) rest x

-- ["as" name]
pub data IsAlias : List Symbol → List Symbol → Option Word → Type 0 where
  no_alias : {rest : List Symbol} → IsAlias rest rest None
  alias : {x : Word} {rest : List Symbol} → IsAlias (Fixed As ∷ Name x ∷ rest) rest (Some x)

-- whether x is among these names
abbrev pub is_among : List Word → Word → Bool
is_among ys x = list_any (λ y. bytes_eq y x) ys

-- no name stands twice
abbrev pub AreOnce : List Word → Type 0
AreOnce [] = Unit {0}
AreOnce (x ∷ xs) = (is_among xs x ≡ false) × AreOnce xs

-- ["(" name {"," name} ")"], no name twice
pub data AreParameters : List Symbol → List Symbol → List Word → Type 0 where
  no_parameters : {rest : List Symbol} → AreParameters rest rest []
  with_parameters : {ts rest : List Symbol} {xs : List Word} → AreSeparated Comma IsNamed ts (Fixed RightParen ∷ rest) xs → AreOnce xs → AreParameters (Fixed LeftParen ∷ ts) rest xs

-- name parameters "=" expression
pub data IsDefinition : List Symbol → List Symbol → Defined → Type 0 where
  definition : {x : Word} {ts us rest : List Symbol} {ps : List Word} {a : Term} → AreParameters ts (Fixed Equals ∷ us) ps → IsExpression us rest a → IsDefinition (Name x ∷ ts) rest (record { name = x; parameters = ps; value = a })

-- name "=" expression
pub data IsBinding : List Symbol → List Symbol → Bound → Type 0 where
  binding : {x : Word} {ts rest : List Symbol} {a : Term} → IsExpression ts rest a → IsBinding (Name x ∷ Fixed Equals ∷ ts) rest (record { name = x; value = a })

-- expression ["as" name]
pub data IsElement : List Symbol → List Symbol → Shown → Type 0 where
  element : {ts mid rest : List Symbol} {a : Term} {x : Option Word} → IsExpression ts mid a → IsAlias mid rest x → IsElement ts rest (record { value = a; alias = x })

-- "acyclic" | "irreflexive" | "empty"
pub data Checks : Terminal → CheckKind → Type 0 where
  checks_acyclic : Checks Acyclic kinds.Acyclic
  checks_irreflexive : Checks Irreflexive kinds.Irreflexive
  checks_empty : Checks Empty kinds.Empty

-- the names that a group binds

abbrev pub names_defined : List Defined → List Word
names_defined = map (λ d. d.name)

abbrev pub names_bound : List Bound → List Word
names_bound = map (λ b. b.name)

pub data IsItem : List Symbol → List Symbol → Clause → Type 0 where
  item_let : {ts rest : List Symbol} {ds : List Defined} → AreSeparated And IsDefinition ts rest ds → AreOnce (names_defined ds) → IsItem (Fixed Let ∷ ts) rest (bind ds)
  item_rec : {ts rest : List Symbol} {bs : List Bound} → AreSeparated And IsBinding ts rest bs → AreOnce (names_bound bs) → IsItem (Fixed Let ∷ Fixed Rec ∷ ts) rest (bind_recursively bs)
  item_check : {ts us vs ws rest : List Symbol} {flag negated : Bool} {t : Terminal} {kind : CheckKind} {a : Term} {x : Option Word} →
      IsOptional Flag ts us flag → IsOptional Tilde us (Fixed t ∷ vs) negated → Checks t kind → IsExpression vs ws a → IsAlias ws rest x →
      IsItem ts rest (check flag negated kind a x)
  item_include : {x : Word} {rest : List Symbol} → IsName x → IsItem (Fixed Include ∷ Quoted x ∷ rest) rest (include x)
  item_show : {ts rest : List Symbol} {es : List Shown} → AreSeparated Comma IsElement ts rest es → IsItem (Fixed Show ∷ ts) rest (show es)
  item_unshow : {ts rest : List Symbol} {xs : List Word} → AreSeparated Comma IsNamed ts rest xs → IsItem (Fixed Unshow ∷ ts) rest (unshow xs)

-- the symbols are these items
pub data AreItems : List Symbol → List Clause → Type 0 where
  no_items : AreItems [] []
  more_items : {ts rest : List Symbol} {i : Clause} {is : List Clause} → IsItem ts rest i → AreItems rest is → AreItems ts (i ∷ is)

-- file := [name | quoted] {item}
pub data IsFile : List Symbol → File → Type 0 where
  untitled : {ts : List Symbol} {is : List Clause} → AreItems ts is → IsFile ts (record { title = None; items = is })
  title_name : {x : Word} {ts : List Symbol} {is : List Clause} → AreItems ts is → IsFile (Name x ∷ ts) (record { title = Some x; items = is })
  title_quoted : {x : Word} {ts : List Symbol} {is : List Clause} → AreItems ts is → IsFile (Quoted x ∷ ts) (record { title = Some x; items = is })
