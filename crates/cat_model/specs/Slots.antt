-- The entries that slots by name stand for.
use Rattle.std.specs.Prelude.{List, map}
use Rattle.cat_tree.specs.Tree.{Word}
use Rattle.cat_model.specs.declared.files.Entry.{Entry}
use Rattle.cat_model.specs.declared.files.Slot.{Slot}

abbrev pub entry : Word × Slot → Entry
entry p = record { name = p.0; version = p.1.version; file = p.1.file }

abbrev pub entries : List (Word × Slot) → List Entry
entries ss = map entry ss
