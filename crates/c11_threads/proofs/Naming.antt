-- The first place of a name, from one place on.
use Rattle.std.proofs.Common.{◌≡◌, ℕ, suc, ◌+◌, ◌<◌, List, length, get_or, drop, Bool, true, false, sym, ◌∙◌, ap, if◌then◌else◌}
use Rattle.std.specs.Str.{bytes_eq}
use Rattle.std.proofs.lemmas.List.{drop_more}
use Rattle.litmus_tree.specs.Tree.{Word}
use Rattle.c11_threads.specs.Contents.{place_of}

first_or : (w : Word) (names : List Word) (i : ℕ) (d : Word) (b : Bool) → i < length names → b ≡ bytes_eq (get_or names i d) w → place_of w (drop i names) ≡ (if b then 0 else suc (place_of w (drop (i + 1) names)))
first_or w names i d b l e = ap (place_of w) (drop_more names i d l) ∙ ap (λ (a : Bool). if a then 0 else suc (place_of w (drop (i + 1) names))) (sym e)

pub found : (w : Word) (names : List Word) (i : ℕ) (d : Word) → i < length names → true ≡ bytes_eq (get_or names i d) w → place_of w (drop i names) ≡ 0
found w names i d l e = first_or w names i d true l e

pub passed : (w : Word) (names : List Word) (i : ℕ) (d : Word) → i < length names → false ≡ bytes_eq (get_or names i d) w → place_of w (drop i names) ≡ suc (place_of w (drop (i + 1) names))
passed w names i d l e = first_or w names i d false l e
