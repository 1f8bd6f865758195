-- Tests as they are written, apart from where they lie in memory.
use Rattle.std.specs.Prelude.{List, map, Bool}
use Rattle.std.specs.List.{list_any}
use Rattle.std.specs.Str.{bytes_eq}
use Rattle.conditions.specs.declared.place.Binding.{Binding}
use Rattle.conditions.specs.declared.place.Place.{Place}
use Rattle.litmus_tree.specs.declared.tree.Parameter.{Parameter}
use Rattle.litmus_syntax.specs.declared.draft.Body as bodies
use Rattle.litmus_syntax.specs.declared.draft.Draft as drafts
use Rattle.conditions.specs.Conditions.{Condition}
use Rattle.litmus_tree.specs.Tree.{Word, Steps, steps_of}

-- a thread
pub record Listing : Type 0 where
  pub parameters : List Parameter
  pub steps : Steps

-- a test, with the entries of its initial state in order
pub record Written : Type 0 where
  pub name : Word
  pub entries : List Binding
  pub threads : List Listing
  pub listed : List Place
  pub condition : Condition

abbrev pub listing_of : bodies.Body → Listing
listing_of b = record { parameters = b.parameters.items; steps = steps_of b.statements.items }

abbrev pub written_of : drafts.Draft → Written
written_of d = record { name = d.name; entries = d.entries.items; threads = map listing_of d.bodies.items; listed = d.listed.items; condition = d.condition }

-- a parameter has this name
abbrev pub is_parameter : List Parameter → Word → Bool
is_parameter ps x = list_any (λ p. bytes_eq p.name x) ps
