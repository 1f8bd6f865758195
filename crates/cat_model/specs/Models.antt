-- Models: items with the files that they come from.
use Rattle.std.specs.Prelude.{List, refl}
use Rattle.std.specs.Coded.{Coded, code_by, coded×, coded_list}
use Rattle.cat_tree.specs.Codes.{coded_clause}
use Rattle.cat_tree.specs.Tree.{Clause}
use Rattle.cat_model.specs.contracts.model.FileVersion.{the_row as file_row}
use Rattle.cat_model.specs.declared.model.FileVersion.{FileVersion}

-- the items with each include replaced by the items of its file, and the files in order of first reading
pub record Assembly : Type 0 where
  pub items : List Clause
  pub files : List FileVersion

abbrev pub coded_assembly : Coded Assembly
coded_assembly =
    code_by (List Clause × List FileVersion) (coded× (coded_list coded_clause) (coded_list file_row.coded))
    (λ a. (a.items, a.files)) (λ p. record { items = p.0; files = p.1 }) (λ _. refl)
