-- What is told of a fault: a message at its place, under its number and name. (docs/COMMAND.md, "What is refused".)
use Rattle.std.specs.Prelude.{◌≡◌, ◌⊎◌, ℕ, List, Option, Some, None, slice_get}
use Rattle.std.specs.String.{string_bytes}
use Rattle.cat_model.specs.Labels.{model_label}
use Rattle.cat_model.specs.declared.fault.ModelFault.{ModelFault}
use Rattle.cat_places.specs.Fronts.{IsTextPlace}
use Rattle.cat_places.specs.Places.{IsModelPlace}
use Rattle.cat_places.specs.declared.source.Source.{Source}
use Rattle.cat_syntax.specs.Labels.{cat_label}
use Rattle.cat_syntax.specs.declared.fault.CatFault.{CatFault}
use Rattle.litmus_c.specs.Labels.{test_label}
use Rattle.litmus_c.specs.declared.fault.TestFault.{TestFault}
use Rattle.places.specs.Fronts.{IsFaultAt}
use Rattle.places.specs.Lines.{IsPlaceOf}
use Rattle.places.specs.Messages.{message, message_without_place}
use Rattle.places.specs.declared.place.Place.{Place}
use Rattle.test_places.specs.Places.{IsPlace, HasNoPlace}
use Rattle.wb_text.specs.declared.fault.TextFault.{TextFault}
use Rattle.wb_text.specs.declared.token.Dialect.{Dialect}

-- a message at an offset of a text, with some sentence
pub record IsMessage (path text label : List ℕ) (offset : ℕ) (bytes : List ℕ) : Type 0 where
  pub sentence : List ℕ
  pub place : Place
  pub is_place : IsPlaceOf text offset place
  pub written : bytes ≡ message path label sentence place

-- a message with no place
pub record IsMessageAlone (path label bytes : List ℕ) : Type 0 where
  pub sentence : List ℕ
  pub written : bytes ≡ message_without_place path label sentence

-- A text without tokens is told where its fault stands.
pub record TellsText (path text label : List ℕ) (d : Dialect) (fault : TextFault) (bytes : List ℕ) : Type 0 where
  pub offset : ℕ
  pub place : IsFaultAt d text fault offset
  pub is_message : IsMessage path text label offset bytes

-- A test is told at the first place at which it breaks the rule.
pub record TellsPlace (path text : List ℕ) (fault : TestFault) (bytes : List ℕ) : Type 0 where
  pub offset : ℕ
  pub place : IsPlace text fault offset
  pub is_message : IsMessage path text (test_label fault) offset bytes

-- and without a place only where there is none
abbrev pub TellsTest : (path text : List ℕ) → TestFault → (bytes : List ℕ) → Type 0
TellsTest path text fault bytes = TellsPlace path text fault bytes ⊎ (HasNoPlace text fault × IsMessageAlone path (test_label fault) bytes)

-- A cat text is told at the first place at which it breaks the rule.
pub record TellsCatPlace (path text : List ℕ) (fault : CatFault) (bytes : List ℕ) : Type 0 where
  pub offset : ℕ
  pub place : IsTextPlace text fault offset
  pub is_message : IsMessage path text (cat_label fault) offset bytes

abbrev pub TellsCat : (path text : List ℕ) → CatFault → (bytes : List ℕ) → Type 0
TellsCat path text fault bytes = TellsCatPlace path text fault bytes ⊎ (((offset : ℕ) → ¬ IsTextPlace text fault offset) × IsMessageAlone path (cat_label fault) bytes)

-- A model is told at a place of one of its files, with that file's path and line, and else under the word that named it.
pub record TellsFile (sources : List Source) (fault : ModelFault) (number offset : ℕ) (bytes : List ℕ) : Type 0 where
  pub source : Source
  pub at : slice_get sources number ≡ Some source
  pub is_message : IsMessage (string_bytes source.path) source.text.items (model_label fault) offset bytes

abbrev pub TellsAt : (word : List ℕ) → List Source → ModelFault → Option (ℕ × ℕ) → (bytes : List ℕ) → Type 0
TellsAt word sources fault (Some p) bytes = TellsFile sources fault p.0 p.1 bytes
TellsAt word sources fault None bytes = IsMessageAlone word (model_label fault) bytes

-- A model is told at the place of its fault.
pub record TellsModel (word : List ℕ) (sources : List Source) (fault : ModelFault) (bytes : List ℕ) : Type 0 where
  pub place : Option (ℕ × ℕ)
  pub is_place : IsModelPlace sources fault place
  pub told : TellsAt word sources fault place bytes
