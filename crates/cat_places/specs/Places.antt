-- The place of a fault of a model: a token of the item that is to blame, in its file (docs/COMMAND.md, "What is refused").
use Rattle.std.specs.Prelude.{◌≡◌, ℕ, List, Option, Some, None, length, take, option_map, slice_get}
use Rattle.wb_text.specs.Tokens.{IsTokenList}
use Rattle.wb_text.specs.declared.token.Dialect.TheVariants.{Cat}
use Rattle.wb_text.specs.declared.token.Token.{Token}
use Rattle.cat_syntax.specs.Reads.{Reads}
use Rattle.cat_tree.specs.Tree.{File, Word}
use Rattle.cat_model.specs.declared.fault.ModelFault.{ModelFault}
use Rattle.cat_model.specs.declared.fault.ModelFault.TheVariants.{NoCat, NoInclude, IncludeCycle, Unbound, WrongSort, NotMonotone, FlagWithoutName, ModelTooLarge, CallsTooLarge, NoMemory}
use Rattle.cat_places.specs.Blame.{IsBlamed, item_of}
use Rattle.cat_places.specs.Denied.{IsToldUse, uses_of_group}
use Rattle.cat_places.specs.Own.{AreOwn, uses, bound_at}
use Rattle.cat_places.specs.Walks.{visits}
use Rattle.cat_places.specs.declared.source.Source.{Source}
use Rattle.cat_places.specs.declared.walk.Visit.{Visit}

-- each source reads as the file of its number
pub record AreRead (ss : List Source) (fs : List File) : Type 0 where
  pub count : length fs ≡ length ss
  pub each : (k : ℕ) (s : Source) (f : File) → slice_get ss k ≡ Some s → slice_get fs k ≡ Some f → Reads s.text.items f

-- Of the uses of the name x in the item of a visit v, which these visits are before: the first that stands where it may not be.
abbrev pub IsToldName : List File → (before : List Visit) → Visit → List ℕ → List Token → (x : Word) → Option Token → Type 0
IsToldName fs before v text own x o = IsToldUse fs before v.item text (uses_of_group text own (item_of fs v)) (uses text x own) o

-- The token at which a fault stands, of those of the item that is to blame. 62 and 63: the quoted name; 67 and 68: the first; 65 and 69: the name that is
-- bound, or the check's word; 64: the first use of the name; 66: the first that stands under a complement or to the right of a difference.
abbrev pub IsTold : List File → (before : List Visit) → Visit → List ℕ → List Token → ModelFault → Option Token → Type 0
IsTold fs before v text own (NoInclude x) o = o ≡ slice_get own 1
IsTold fs before v text own (IncludeCycle x) o = o ≡ slice_get own 1
IsTold fs before v text own FlagWithoutName o = o ≡ slice_get own 0
IsTold fs before v text own ModelTooLarge o = o ≡ slice_get own 0
IsTold fs before v text own (WrongSort w) o = o ≡ bound_at text w own
IsTold fs before v text own (CallsTooLarge w) o = o ≡ bound_at text w own
IsTold fs before v text own (Unbound x) o = o ≡ slice_get (uses text x own) 0
IsTold fs before v text own (NotMonotone x) o = IsToldName fs before v text own x o
IsTold fs before v text own (NoCat x) o = o ≡ None
IsTold fs before v text own NoMemory o = o ≡ None

-- A fault stands at this token of the item of a visit, in a text, or the item has none for it.
pub record IsToldAt (fs : List File) (before : List Visit) (v : Visit) (text : List ℕ) (e : ModelFault) (o : Option Token) : Type 0 where
  pub tokens : List Token
  pub is_list : IsTokenList Cat text tokens
  pub own : List Token
  pub are_own : AreOwn text tokens v.item own
  pub is_told : IsTold fs before v text own e o

-- A fault stands in the source of a visit, at a token of its item.
pub record IsToldIn (ss : List Source) (fs : List File) (before : List Visit) (e : ModelFault) (v : Visit) (o : Option (ℕ × ℕ)) : Type 0 where
  pub source : Source
  pub at : slice_get ss v.source ≡ Some source
  pub token : Option Token
  pub told : IsToldAt fs before v source.text.items e token
  pub is : o ≡ option_map (λ t. (v.source, t.from)) token

-- Where the sources read as files, and an item of them is to blame for the fault, it stands at a token of that item.
abbrev pub IsModelPlace : List Source → ModelFault → Option (ℕ × ℕ) → Type 0
IsModelPlace ss e o = (fs : List File) (k : ℕ) (v : Visit) → AreRead ss fs → IsBlamed fs e (visits ss fs) k → slice_get (visits ss fs) k ≡ Some v → IsToldIn ss fs (take k (visits ss fs)) e v o
