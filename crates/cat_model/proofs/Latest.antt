-- The latest of a name.
use Rattle.std.proofs.Common.{◌≡◌, List, [], ◌∷◌, ◌++◌, Option, Some, None, Bool, cond, option_map, true, false, refl, sym, ◌∙◌, ap, Bor, ◌||◌}
use Rattle.std.specs.Prelude.{reverse}
use Rattle.std.specs.List.{find}
use Rattle.std.specs.Option.{option_or, is_some}
use Rattle.std.specs.Str.{bytes_eq}
use Rattle.std.proofs.lemmas.List.{reverse-append}
use Rattle.std.proofs.lemmas.List.Folds.{find-append}
use Rattle.cat_tree.specs.Tree.{Word}
use Rattle.cat_model.specs.Lookups.{latest_in, held_in, is_known}
use Rattle.cat_model.specs.Named.{named_of}
use Rattle.cat_model.specs.declared.scope.Held.{Held}
use Rattle.cat_model.specs.declared.scope.BoundName.{BoundName}

map_or : {Y Z : Type 0} (f : Y → Z) (o p : Option Y) → option_map f (option_or o p) ≡ option_or (option_map f o) (option_map f p)
map_or f None p = refl
map_or f (Some y) p = refl

map_cond : {Y Z : Type 0} (f : Y → Z) (b : Bool) (y : Y) → option_map f (cond b (Some y) None) ≡ cond b (Some (f y)) None
map_cond f true y = refl
map_cond f false y = refl

-- it is the first from the end
pub latest_is : {Y Z : Type 0} (label : Y → Word) (what : Y → Z) (ys : List Y) (x : Word) → latest_in label what ys x ≡ option_map what (find (λ y. bytes_eq (label y) x) (reverse ys))
latest_is label what [] x = refl
latest_is label what (y ∷ ys) x =
    ap (λ o. option_or o (cond (bytes_eq (label y) x) (Some (what y)) None)) (latest_is label what ys x)
    ∙ ap (λ o. option_or (option_map what (find (λ z. bytes_eq (label z) x) (reverse ys))) o) (sym (map_cond what (bytes_eq (label y) x) y))
    ∙ sym (map_or what (find (λ z. bytes_eq (label z) x) (reverse ys)) (cond (bytes_eq (label y) x) (Some y) None))
    ∙ ap (option_map what) (sym (find-append (λ z. bytes_eq (label z) x) (reverse ys) (y ∷ [])))
    ∙ ap (λ l. option_map what (find (λ z. bytes_eq (label z) x) l)) (sym (reverse-append (y ∷ []) ys))

pub held_latest : (ns ms : List BoundName) (x : Word) (o : Option (Bor BoundName)) → ms ≡ ns → option_map (λ b. b.now) o ≡ find (λ b. bytes_eq b.name.now x) (reverse ms) → option_map (λ b. b.now.held) o ≡ held_in ns x
held_latest ns ms x o e h = two o ∙ ap (option_map (λ b. b.held)) h ∙ ap (λ l. option_map (λ b. b.held) (find (λ b. bytes_eq b.name.now x) (reverse l))) e ∙ sym (latest_is (λ b. b.name.now) (λ b. b.held) ns x)
  where
    two : (p : Option (Bor BoundName)) → option_map (λ b. b.now.held) p ≡ option_map (λ b. b.held) (option_map (λ b. b.now) p)
    two None = refl
    two (Some b) = refl

or_cond : {Z : Type 0} (b : Bool) (k : Z) (o c : Option Z) → option_or (cond b (Some k) o) c ≡ cond b (Some k) (option_or o c)
or_cond true k o c = refl
or_cond false k o c = refl

pub latest_push : {Y Z : Type 0} (label : Y → Word) (what : Y → Z) (ys : List Y) (y : Y) (x : Word) → latest_in label what (ys ++ y ∷ []) x ≡ cond (bytes_eq (label y) x) (Some (what y)) (latest_in label what ys x)
latest_push label what [] y x = refl
latest_push {Y} {Z} label what (c ∷ ys) y x =
    let d : Option Z = cond (bytes_eq (label c) x) (Some (what c)) None in
    ap (λ o. option_or o d) (latest_push label what ys y x) ∙ or_cond (bytes_eq (label y) x) (what y) (latest_in label what ys x) d

known_cond : (b : Bool) (h : Held) (o : Option Held) (n : Bool) → (is_some (cond b (Some h) o) || n) ≡ (b || (is_some o || n))
known_cond true h o n = refl
known_cond false h o n = refl

-- one more name is known
pub known_push : (ns : List BoundName) (y : BoundName) (x : Word) → is_known (ns ++ y ∷ []) x ≡ (bytes_eq y.name.now x || is_known ns x)
known_push ns y x =
    ap (λ o. is_some o || is_some (named_of x)) (latest_push (λ n. n.name.now) (λ n. n.held) ns y x) ∙ known_cond (bytes_eq y.name.now x) y.held (held_in ns x) (is_some (named_of x))
