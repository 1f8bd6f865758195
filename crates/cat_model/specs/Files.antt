-- The files that models are put together from: names in order of first put, each with its version and its file, or none where the
-- file was removed; beside them the built-in files.
use Rattle.std.specs.Prelude.{ℕ, List, [], ◌∷◌, ◌++◌, Option, Some, None, codes, if◌then◌else◌, find, position, slice_set}
use Rattle.std.specs.Str.{bytes_eq}
use Rattle.cat_tree.specs.Tree.{Word, File}
use Rattle.cat_model.specs.Rc11.{rc11}
use Rattle.cat_model.specs.declared.files.Entry.{Entry}

-- a file without items
abbrev pub nothing : File
nothing = record { title = None; items = [] }

-- the files that are there beforehand
unfoldable pub built_in : Word → Option File
built_in x =
    if bytes_eq x (codes "rc11.cat") then Some rc11
    else if bytes_eq x (codes "stdlib.cat") then Some nothing
    else if bytes_eq x (codes "cos.cat") then Some nothing
    else if bytes_eq x (codes "c11_cos.cat") then Some nothing
    else None

-- the place of a name
unfoldable pub place_of : Word → List Entry → Option ℕ
place_of x es = position (λ e. bytes_eq e.name x) es

-- its entry
unfoldable pub entry_of : Word → List Entry → Option Entry
entry_of x es = find (λ e. bytes_eq e.name x) es

-- its version: 0 for a name that was never put
abbrev pub version_in : Option Entry → ℕ
version_in None = 0
version_in (Some e) = e.version

abbrev pub version_of : Word → List Entry → ℕ
version_of x es = version_in (entry_of x es)

-- its loaded file, if there is one
abbrev pub loaded_in : Option Entry → Option File
loaded_in None = None
loaded_in (Some e) = e.file

abbrev pub loaded : Word → List Entry → Option File
loaded x es = loaded_in (entry_of x es)

-- its file: a loaded file hides a built-in one
abbrev pub or_built_in : Word → Option File → Option File
or_built_in x (Some f) = Some f
or_built_in x None = built_in x

abbrev pub file_of : Word → List Entry → Option File
file_of x es = or_built_in x (loaded x es)

-- the entries with this one in the place of its name, or last where the name is new
abbrev pub store_at : Option ℕ → Entry → List Entry → List Entry
store_at (Some i) e es = slice_set es i e
store_at None e es = es ++ e ∷ []

abbrev pub store : Entry → List Entry → List Entry
store e es = store_at (place_of e.name es) e es
