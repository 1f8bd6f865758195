-- The tokens of an item of a cat text, and what its names do there.
use Rattle.std.specs.Prelude.{◌≡◌, ℕ, ◌+◌, ◌≤◌, min, List, [], ◌∷◌, Bool, false, not, ◌&&◌, ◌||◌, Option, Some, None, length, take, slice_get, slice_range, codes, if◌then◌else◌}
use Rattle.std.specs.Str.{bytes_eq}
use Rattle.wb_text.specs.declared.token.Token.{Token}
use Rattle.cat_syntax.specs.Reads.{Reads}
use Rattle.cat_tree.specs.Tree.{Word, File}
use Rattle.places.specs.Spellings.{spelling}
use Rattle.cat_places.specs.contracts.item.StagePartialEq.TheImpl.{ghosts as stage_equality}
use Rattle.cat_places.specs.declared.item.At.{At}
use Rattle.cat_places.specs.declared.item.Stage.{Stage}
use Rattle.cat_places.specs.declared.item.Stage.TheVariants.{Binder, Parameters, Expression, Label}

-- what a text reads as, if it is a cat file
abbrev pub IsFileOf : List ℕ → Option File → Type 0
IsFileOf text None = (f : File) → ¬ Reads text f
IsFileOf text (Some g) = Reads text g × ((f : File) → Reads text f → f ≡ g)

-- the text is a cat file of n items
abbrev pub HasItems : List ℕ → (n : ℕ) → Type 0
HasItems text n = (f : File) × Reads text f × (length f.items ≡ n)

-- The first m tokens are the longest front of a text that is a cat file of n items, or none where no front is.
pub record AreFirst (text : List ℕ) (tokens : List Token) (n m : ℕ) : Type 0 where
  pub within : m ≤ length tokens
  pub has : (k : ℕ) → m ≡ k + 1 → (t : Token) × (slice_get tokens k ≡ Some t) × HasItems (take t.to text) n
  pub longest : (k : ℕ) (t : Token) → m ≤ k → slice_get tokens k ≡ Some t → ¬ HasItems (take t.to text) n

-- These are the tokens of the item of number n: those of n + 1 items but those of the first n.
pub record AreOwn (text : List ℕ) (tokens : List Token) (n : ℕ) (own : List Token) : Type 0 where
  pub from : ℕ
  pub to : ℕ
  pub before : AreFirst text tokens n from
  pub with_it : AreFirst text tokens (n + 1) to
  pub are : own ≡ slice_range tokens (min from to) to

-- behind one of these words a name is bound
abbrev pub begins_binder : Word → Bool
begins_binder w = bytes_eq w (codes "let") || bytes_eq w (codes "and") || bytes_eq w (codes "rec")

abbrev pub begins_check : Word → Bool
begins_check w = bytes_eq w (codes "acyclic") || bytes_eq w (codes "irreflexive") || bytes_eq w (codes "empty")

-- what follows what is no such word: parameters follow a bound name, and `=` ends them; an expression may go on behind its name
abbrev pub settled : Stage → Stage
settled Binder = Parameters
settled Parameters = Parameters
settled Expression = Expression
settled Label = Expression

abbrev pub stage_behind : Stage → Word → Stage
stage_behind s w = if begins_binder w then Binder else if bytes_eq w (codes "as") then Label else if bytes_eq w (codes "=") then Expression else settled s

-- whether the name x is a parameter's behind the word w
abbrev pub is_hidden_behind : Bool → Stage → Bool → Bool
is_hidden_behind hidden Binder same = false
is_hidden_behind hidden Parameters same = hidden || same
is_hidden_behind hidden Expression same = hidden
is_hidden_behind hidden Label same = hidden

abbrev pub behind : Word → At → Word → At
behind x a w = record { stage = stage_behind a.stage w; hidden = is_hidden_behind a.hidden a.stage (bytes_eq w x) }

abbrev pub start : At
start = record { stage = Expression; hidden = false }

-- the name x is used here: in an expression of which it is no parameter
abbrev pub is_used : Word → At → Word → Bool
is_used x a w = stage_equality.eq a.stage Expression && (not a.hidden && bytes_eq w x)

-- the name x is bound here, or is the word of the check
abbrev pub is_bound : Word → At → Word → Bool
is_bound x a w = (stage_equality.eq a.stage Binder || begins_check w) && bytes_eq w x

-- the tokens at which the name x is used, and the first at which it is bound

abbrev pub uses_from : List ℕ → Word → At → List Token → List Token
uses_from text x a [] = []
uses_from text x a (t ∷ ts) = if is_used x a (spelling text t) then t ∷ uses_from text x (behind x a (spelling text t)) ts else uses_from text x (behind x a (spelling text t)) ts

abbrev pub bound_from : List ℕ → Word → At → List Token → Option Token
bound_from text x a [] = None
bound_from text x a (t ∷ ts) = if is_bound x a (spelling text t) then Some t else bound_from text x (behind x a (spelling text t)) ts

abbrev pub uses : List ℕ → Word → List Token → List Token
uses text x ts = uses_from text x start ts

abbrev pub bound_at : List ℕ → Word → List Token → Option Token
bound_at text x ts = bound_from text x start ts
