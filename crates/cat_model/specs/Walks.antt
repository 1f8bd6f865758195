-- How the code puts items in place, on a path whose last file stands first.
use Rattle.std.specs.Prelude.{◌≡◌, ℕ, ◌+◌, ◌-◌, ◌<◌, ◌≤◌, ◌⊎◌, List, [], ◌∷◌, ◌++◌, Some, false, length, map, if◌then◌else◌, IsSome}
use Rattle.std.specs.List.{list_any, sum_by}
use Rattle.std.specs.Str.{bytes_eq}
use Rattle.cat_tree.specs.Tree.{Word, Clause, include, File, clause_of}
use Rattle.cat_model.specs.Closure.{IsPath, IsOwn, is_on, versioned, count}
use Rattle.cat_model.specs.Faults.{IsAstray}
use Rattle.cat_model.specs.Files.{file_of}
use Rattle.cat_model.specs.declared.draft.Draft.{Draft}
use Rattle.cat_model.specs.declared.fault.ModelFault.{ModelFault}
use Rattle.cat_model.specs.declared.fault.ModelFault.TheVariants.{NoCat, NoInclude, IncludeCycle, Unbound, WrongSort, NotMonotone, FlagWithoutName, ModelTooLarge, CallsTooLarge, NoMemory}
use Rattle.cat_model.specs.declared.files.Entry.{Entry}
use Rattle.cat_model.specs.declared.model.FileVersion.{FileVersion}

-- on this path the items is give the items js and read the files xs, and no file is missing, on its path already or too deep
pub data Walks (es : List Entry) : (path : List Word) → (is js : List Clause) → (xs : List Word) → Type 0 where
  walk_end : {path : List Word} → Walks es path [] [] []
  walk_own : {path : List Word} {i : Clause} {is js : List Clause} {xs : List Word} → IsOwn i → Walks es path is js xs → Walks es path (i ∷ is) (i ∷ js) xs
  walk_into : {path : List Word} {x : Word} {f : File} {is js ks : List Clause} {xs ys : List Word} →
      file_of x es ≡ Some f → is_on path x ≡ false → length path < 16 → Walks es (x ∷ path) f.items ks ys → Walks es path is js xs →
      Walks es path (include x ∷ is) (ks ++ js) (x ∷ (ys ++ xs))

-- the files read so far, and then x
abbrev pub note : List Entry → List FileVersion → Word → List FileVersion
note es files x = if list_any (λ f. bytes_eq f.name x) files then files else files ++ versioned es x ∷ []

abbrev pub note_all : List Entry → List FileVersion → List Word → List FileVersion
note_all es files [] = files
note_all es files (x ∷ xs) = note_all es (note es files x) xs

-- the draft with the items js and the files xs more, which count for n items
pub record Grows (es : List Entry) (old new : Draft) (js : List Clause) (xs : List Word) (n : ℕ) : Type 0 where
  pub items : map clause_of new.items.items ≡ map clause_of old.items.items ++ js
  pub files : new.files.items ≡ note_all es old.files.items xs
  pub counts : new.count ≡ old.count + n

-- how many items these count for on a path
abbrev pub counts_for : List Entry → List Word → List Clause → ℕ
counts_for es path is = sum_by (count es (16 - length path) path) is

-- the items are put in place behind those of the old draft
pub record Places (es : List Entry) (path : List Word) (is : List Clause) (old new : Draft) : Type 0 where
  pub added : List Clause
  pub read : List Word
  pub walks : Walks es path is added read
  pub grows : Grows es old new added read (counts_for es path is)

-- the fault of a walk from the root whose items count for n so far
abbrev pub IsWalkFault : ModelFault → List Entry → Word → ℕ → Type 0
IsWalkFault (NoInclude x) es root n = IsAstray (NoInclude x) es root
IsWalkFault (IncludeCycle x) es root n = IsAstray (IncludeCycle x) es root
IsWalkFault ModelTooLarge es root n =
    ((x : Word) × (path : List Word) × IsPath es root (x ∷ path) × (16 < length (x ∷ path)) × IsSome (file_of x es)) ⊎ (4096 < n)
IsWalkFault NoMemory es root n = Unit {0}
IsWalkFault (NoCat x) es root n = ⊥
IsWalkFault (Unbound x) es root n = ⊥
IsWalkFault (WrongSort w) es root n = ⊥
IsWalkFault (NotMonotone x) es root n = ⊥
IsWalkFault (CallsTooLarge w) es root n = ⊥
IsWalkFault FlagWithoutName es root n = ⊥

-- the items are those of the last file of a path from the root
pub record IsHere (es : List Entry) (root : Word) (path : List Word) (is : List Clause) : Type 0 where
  pub last : Word
  pub before : List Word
  pub path_is : path ≡ last ∷ before
  pub from : IsPath es root path
  pub file : File
  pub there : file_of last es ≡ Some file
  pub items_are : file.items ≡ is
  pub short : length path ≤ 16
