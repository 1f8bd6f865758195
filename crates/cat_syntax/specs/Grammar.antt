-- The grammar of expressions. (herd7 manual, the cat language: expressions.)
-- IsLevel k n ts rest a: the symbols ts begin with the expression a, whose operators outside of parentheses
-- stand below level k, and which nests at most n deep, and rest follows it.
use Rattle.std.specs.Prelude.{◌≡◌, ℕ, List, ◌∷◌, Bool, true, false, not}
use Rattle.std.proofs.Common.{zero, suc}
use Rattle.cat_tree.specs.declared.node.Infix.{Infix}
use Rattle.cat_tree.specs.declared.node.Infix.TheVariants.{Union, Sequence, Difference, Intersection, Product}
use Rattle.cat_syntax.specs.declared.symbol.Symbol.{Symbol}
use Rattle.cat_syntax.specs.declared.symbol.Symbol.TheVariants.{Fixed, Name, Unsupported}
use Rattle.cat_syntax.specs.declared.symbol.Terminal.{Terminal}
use Rattle.cat_syntax.specs.declared.symbol.Terminal.TheVariants.{Acyclic, Irreflexive, Empty, Domain, Range, Underscore, Zero, LeftParen, RightParen, LeftBracket, RightBracket, LeftBrace, RightBrace, Comma, Bar, Semicolon, Backslash, Ampersand, Star, Tilde, Plus, Question, Inverse}
pub use Rattle.cat_tree.specs.Terms.{joined}
use Rattle.cat_tree.specs.Tree.{Term, Terms, complement, plus, star, optional, inverse, domain, range, identity, name, empty_relation, empty_set, universe, call, no_terms, term}

-- the operators that associate to the left, and those to the right, with their levels: the tightest first
pub data JoinsLeft : ℕ → Terminal → Infix → Type 0 where
  joins_product : JoinsLeft 0 Star Product
  joins_difference : JoinsLeft 2 Backslash Difference

pub data JoinsRight : ℕ → Terminal → Infix → Type 0 where
  joins_intersection : JoinsRight 1 Ampersand Intersection
  joins_sequence : JoinsRight 3 Semicolon Sequence
  joins_union : JoinsRight 4 Bar Union

-- a check's word comes next
unfoldable pub begins_check : List Symbol → Bool
begins_check (Fixed Acyclic ∷ ts) = true
begins_check (Fixed Irreflexive ∷ ts) = true
begins_check (Fixed Empty ∷ ts) = true
begins_check ts = false

-- An operand comes next: a name, a constant, or what opens an operand; a ~ before a check's word doesn't.
unfoldable pub begins_operand : List Symbol → Bool
begins_operand (Name x ∷ ts) = true
begins_operand (Unsupported x ∷ ts) = true
begins_operand (Fixed Domain ∷ ts) = true
begins_operand (Fixed Range ∷ ts) = true
begins_operand (Fixed Underscore ∷ ts) = true
begins_operand (Fixed Zero ∷ ts) = true
begins_operand (Fixed LeftParen ∷ ts) = true
begins_operand (Fixed LeftBracket ∷ ts) = true
begins_operand (Fixed LeftBrace ∷ ts) = true
begins_operand (Fixed Tilde ∷ ts) = not (begins_check ts)
begins_operand ts = false

mutual
  -- level 0 := unary; level k + 1 := level k | level (k + 1) sign level k, to the left | level k sign level (k + 1), to the right
  pub data IsLevel : ℕ → ℕ → List Symbol → List Symbol → Term → Type 0 where
    level_unary : {n : ℕ} {ts rest : List Symbol} {a : Term} → IsUnary n ts rest a → IsLevel zero n ts rest a
    level_tighter : {k n : ℕ} {ts rest : List Symbol} {a : Term} → IsLevel k n ts rest a → IsLevel (suc k) n ts rest a
    level_left : {k n : ℕ} {ts mid rest : List Symbol} {t : Terminal} {o : Infix} {a b : Term} → IsLevel (suc k) n ts (Fixed t ∷ mid) a → JoinsLeft k t o → IsLevel k n mid rest b → IsLevel (suc k) n ts rest (joined o a b)
    level_right : {k n : ℕ} {ts mid rest : List Symbol} {t : Terminal} {o : Infix} {a b : Term} → IsLevel k n ts (Fixed t ∷ mid) a → JoinsRight k t o → IsLevel (suc k) n mid rest b → IsLevel (suc k) n ts rest (joined o a b)

  -- unary := "~" unary | postfix
  pub data IsUnary : ℕ → List Symbol → List Symbol → Term → Type 0 where
    unary_complement : {n : ℕ} {ts rest : List Symbol} {a : Term} → IsUnary n ts rest a → IsUnary (suc n) (Fixed Tilde ∷ ts) rest (complement a)
    unary_postfix : {n : ℕ} {ts rest : List Symbol} {a : Term} → IsPostfix n ts rest a → IsUnary n ts rest a

  -- postfix := primary | postfix ("+" | "*" | "?" | "^-1"), where no operand follows the "*"
  pub data IsPostfix : ℕ → List Symbol → List Symbol → Term → Type 0 where
    postfix_primary : {n : ℕ} {ts rest : List Symbol} {a : Term} → IsPrimary n ts rest a → IsPostfix n ts rest a
    postfix_plus : {n : ℕ} {ts rest : List Symbol} {a : Term} → IsPostfix n ts (Fixed Plus ∷ rest) a → IsPostfix n ts rest (plus a)
    postfix_star : {n : ℕ} {ts rest : List Symbol} {a : Term} → IsPostfix n ts (Fixed Star ∷ rest) a → begins_operand rest ≡ false → IsPostfix n ts rest (star a)
    postfix_optional : {n : ℕ} {ts rest : List Symbol} {a : Term} → IsPostfix n ts (Fixed Question ∷ rest) a → IsPostfix n ts rest (optional a)
    postfix_inverse : {n : ℕ} {ts rest : List Symbol} {a : Term} → IsPostfix n ts (Fixed Inverse ∷ rest) a → IsPostfix n ts rest (inverse a)

  -- primary := name | "_" | "0" | "{" "}" | "(" level 5 ")" | "[" level 5 "]" | ("domain" | "range") "(" level 5 ")" | name "(" arguments ")"
  pub data IsPrimary : ℕ → List Symbol → List Symbol → Term → Type 0 where
    primary_name : {n : ℕ} {x : List ℕ} {rest : List Symbol} → IsPrimary n (Name x ∷ rest) rest (name x)
    primary_universe : {n : ℕ} {rest : List Symbol} → IsPrimary n (Fixed Underscore ∷ rest) rest universe
    primary_empty_relation : {n : ℕ} {rest : List Symbol} → IsPrimary n (Fixed Zero ∷ rest) rest empty_relation
    primary_empty_set : {n : ℕ} {rest : List Symbol} → IsPrimary n (Fixed LeftBrace ∷ Fixed RightBrace ∷ rest) rest empty_set
    primary_paren : {n : ℕ} {ts rest : List Symbol} {a : Term} → IsLevel 5 n ts (Fixed RightParen ∷ rest) a → IsPrimary (suc n) (Fixed LeftParen ∷ ts) rest a
    primary_identity : {n : ℕ} {ts rest : List Symbol} {a : Term} → IsLevel 5 n ts (Fixed RightBracket ∷ rest) a → IsPrimary (suc n) (Fixed LeftBracket ∷ ts) rest (identity a)
    primary_domain : {n : ℕ} {ts rest : List Symbol} {a : Term} → IsLevel 5 n ts (Fixed RightParen ∷ rest) a → IsPrimary (suc n) (Fixed Domain ∷ Fixed LeftParen ∷ ts) rest (domain a)
    primary_range : {n : ℕ} {ts rest : List Symbol} {a : Term} → IsLevel 5 n ts (Fixed RightParen ∷ rest) a → IsPrimary (suc n) (Fixed Range ∷ Fixed LeftParen ∷ ts) rest (range a)
    primary_call : {n : ℕ} {f : List ℕ} {ts rest : List Symbol} {bs : Terms} → AreArguments n ts (Fixed RightParen ∷ rest) bs → IsPrimary (suc n) (Name f ∷ Fixed LeftParen ∷ ts) rest (call f bs)

  -- arguments := level 5 {"," level 5}
  pub data AreArguments : ℕ → List Symbol → List Symbol → Terms → Type 0 where
    last_argument : {n : ℕ} {ts rest : List Symbol} {a : Term} → IsLevel 5 n ts rest a → AreArguments n ts rest (term a no_terms)
    more_arguments : {n : ℕ} {ts mid rest : List Symbol} {a : Term} {bs : Terms} → IsLevel 5 n ts (Fixed Comma ∷ mid) a → AreArguments n mid rest bs → AreArguments n ts rest (term a bs)
