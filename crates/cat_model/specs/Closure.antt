-- What a root file and the files that it includes give. (herd7 manual, the cat language: include.)
use Rattle.std.specs.Prelude.{◌≡◌, ℕ, zero, suc, ◌+◌, List, [], ◌∷◌, ◌++◌, Bool, Option, Some, None, map, filter, not, if◌then◌else◌}
use Rattle.std.specs.List.{Contains, list_any, sum_by}
use Rattle.std.specs.Str.{bytes_eq}
use Rattle.cat_tree.specs.Tree.{Word, Clause, bind, bind_recursively, check, include, show, unshow, File}
use Rattle.cat_model.specs.Files.{file_of, version_of}
use Rattle.cat_model.specs.declared.files.Entry.{Entry}
use Rattle.cat_model.specs.declared.model.FileVersion.{FileVersion}

-- file x includes y
pub record Includes (es : List Entry) (x y : Word) : Type 0 where
  pub file : File
  pub is : file_of x es ≡ Some file
  pub includes : Contains file.items (include y)

-- a path from the root, each file including the next; the last one stands first
abbrev pub IsPath : List Entry → Word → List Word → Type 0
IsPath es root [] = ⊥
IsPath es root (x ∷ []) = x ≡ root
IsPath es root (y ∷ x ∷ path) = Includes es x y × IsPath es root (x ∷ path)

-- an item that is no include
abbrev pub IsOwn : Clause → Type 0
IsOwn (include x) = ⊥
IsOwn (bind bs) = Unit {0}
IsOwn (bind_recursively bs) = Unit {0}
IsOwn (check flag negated kind a x) = Unit {0}
IsOwn (show ss) = Unit {0}
IsOwn (unshow xs) = Unit {0}

-- the items is with each include replaced by the items of its file are js; this reads the files xs, in this order
pub data Expands (es : List Entry) : (is js : List Clause) → (xs : List Word) → Type 0 where
  done : Expands es [] [] []
  own : {i : Clause} {is js : List Clause} {xs : List Word} → IsOwn i → Expands es is js xs → Expands es (i ∷ is) (i ∷ js) xs
  included : {x : Word} {f : File} {is js ks : List Clause} {xs ys : List Word} →
      file_of x es ≡ Some f → Expands es f.items ks ys → Expands es is js xs → Expands es (include x ∷ is) (ks ++ js) (x ∷ (ys ++ xs))

-- each name once, where it first stands
abbrev pub once : List Word → List Word
once [] = []
once (x ∷ xs) = x ∷ filter (λ y. not (bytes_eq x y)) (once xs)

-- a file with the version that it has
abbrev pub versioned : List Entry → Word → FileVersion
versioned es x = record { name = x; version = version_of x es }

-- the items of the root with each include replaced by the items of its file, and the files in order of first reading
pub record IsClosure (es : List Entry) (root : Word) (items : List Clause) (files : List FileVersion) : Type 0 where
  pub file : File
  pub is : file_of root es ≡ Some file
  pub read : List Word
  pub expands : Expands es file.items items read
  pub files_are : files ≡ map (versioned es) (once (root ∷ read))

-- whether x is on the path
abbrev pub is_on : List Word → Word → Bool
is_on path x = list_any (bytes_eq x) path

abbrev pub sum_in : (Clause → ℕ) → Option File → ℕ
sum_in f None = 0
sum_in f (Some file) = sum_by f file.items

-- how many items an item on this path counts for: an include is one more than the items that it brings. An include of a name that isn't
-- there, or that is on the path, brings none, nor does one beyond the depth: a file so deep is refused by itself
unfoldable pub count : List Entry → (depth : ℕ) → (path : List Word) → Clause → ℕ
count es zero path i = 1
count es (suc depth) path (include x) = 1 + (if is_on path x then 0 else sum_in (count es depth (x ∷ path)) (file_of x es))
count es (suc depth) path (bind bs) = 1
count es (suc depth) path (bind_recursively bs) = 1
count es (suc depth) path (check flag negated kind a x) = 1
count es (suc depth) path (show ss) = 1
count es (suc depth) path (unshow xs) = 1

-- how many items the root counts for
abbrev pub root_count : List Entry → Word → ℕ
root_count es root = sum_in (count es 15 (root ∷ [])) (file_of root es)
