-- How a model is written in a key: its items, and the files on top.
use Rattle.std.specs.Prelude.{ℕ, List, [], refl}
use Rattle.keys.specs.Spelling.{Spelling, spelled_bytes, spelled_number, spelled_list, spelled_pair, spell_by}
use Rattle.cat_tree.specs.Spellings.{spelled_clause}
use Rattle.cat_tree.specs.Tree.{Word, Clause}
use Rattle.cat_model.specs.Models.{Assembly}
use Rattle.cat_model.specs.declared.model.FileVersion.{FileVersion}

abbrev pub spelled_version : Spelling FileVersion
spelled_version = spell_by (Word × ℕ) (spelled_pair spelled_bytes spelled_number) (λ v. (v.name, v.version)) (λ p. record { name = p.0; version = p.1 }) (λ _. refl)

abbrev pub spelled_assembly : Spelling Assembly
spelled_assembly =
    spell_by (List Clause × List FileVersion) (spelled_pair (spelled_list spelled_clause) (spelled_list spelled_version))
    (λ a. (a.items, a.files)) (λ p. record { items = p.0; files = p.1 }) (λ _. refl)

-- what a model is written as
unfoldable pub key_bytes : Assembly → List ℕ
key_bytes m = spelled_assembly.over m []
