-- The paths of tests. (That a line tells a test by its path, between tabs, is this project's: the forms of output.)
use Rattle.std.specs.Prelude.{ℕ, ◌≡◌, ◌==◌, List, length, max, min, fold, false}
use Rattle.std.specs.List.{list_any}

-- a path without a tab and without a line feed
abbrev pub IsPlain : List ℕ → Type 0
IsPlain path = (list_any (λ byte. byte == 9) path ≡ false) × (list_any (λ byte. byte == 10) path ≡ false)

-- how wide a column of these paths is: as the longest, and at most 60
abbrev pub width_of : List (List ℕ) → ℕ
width_of paths = fold (λ width path. min (max width (length path)) 60) 0 paths
