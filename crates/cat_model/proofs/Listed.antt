-- Tests of mapped lists, what is in them, and loops over them.
use Rattle.std.proofs.Common.{◌≡◌, ℕ, ◌+◌, ◌<◌, ◌≤◌, List, [], ◌∷◌, ◌++◌, Bool, true, false, ◌||◌, map, refl, sym, ◌∙◌, ap, subst, take, length, get_or, Bor, arith}
use Rattle.std.specs.List.{list_any, All}
use Rattle.std.specs.Str.{bytes_eq}
use Rattle.std.proofs.lemmas.List.{take_all, take_more, get_or-map, length-map, map-append}
use Rattle.std.proofs.lemmas.List.Elements.{All-more}
use Rattle.cat_tree.specs.Tree.{Word}
use Rattle.cat_model.specs.Closure.{is_on}

pub any_map : {X Y : Type 0} (f : X → Y) (p : Y → Bool) (xs : List X) → list_any p (map f xs) ≡ list_any (λ x. p (f x)) xs
any_map f p [] = refl
any_map f p (x ∷ xs) = ap (λ b. p (f x) || b) (any_map f p xs)

pub all_more : {X : Type 0} (P : X → Type 0) (xs : List X) (k : ℕ) (x : X) → k < length xs → x ≡ get_or xs k x → All P (take k xs) → P x → All P (take (k + 1) xs)
all_more P xs k x l at h p = All-more P xs k x l h (subst P at p)

pub all_more_map : {X Y : Type 0} (f : X → Y) (P : Y → Type 0) (xs : List X) (k : ℕ) (x : X) → k < length xs → x ≡ get_or xs k x → All P (take k (map f xs)) → P (f x) → All P (take (k + 1) (map f xs))
all_more_map f P xs k x l at h p =
    let long : k < length (map f xs) = omega (arith, length-map xs f) in
    All-more P (map f xs) k (f x) long h (subst P (ap f at ∙ sym (get_or-map f xs k x (f x) l)) p)

pub all_end_map : {X Y : Type 0} (f : X → Y) (P : Y → Type 0) (xs : List X) (k : ℕ) → length xs ≤ k → All P (take k (map f xs)) → All P (map f xs)
all_end_map f P xs k l h = let long : length (map f xs) ≤ k = omega (arith, length-map xs f) in subst (All P) (take_all k (map f xs) long) h

-- the names that were gathered
abbrev pub told : List (Bor Word) → List Word
told xs = map (λ x. x.now) xs

-- one name more
pub told_more : (old new : List (Bor Word)) (x : Bor Word) (before after : List Word) → new ≡ old ++ x ∷ [] → after ≡ before ++ x.now ∷ [] → told old ≡ before → told new ≡ after
told_more old new x before after n a h = ap told n ∙ map-append (λ (y : Bor Word). y.now) old (x ∷ []) ∙ ap (λ l. l ++ x.now ∷ []) h ∙ sym a

pub front_more : {X : Type 0} (xs : List X) (i : ℕ) (x : X) → i < length xs → x ≡ get_or xs i x → take (i + 1) xs ≡ take i xs ++ x ∷ []
front_more xs i x h at = take_more xs i x h ∙ ap (λ y. take i xs ++ y ∷ []) (sym at)

pub clash : (b : Bool) → b ≡ false → b ≡ true → ⊥
clash b f t = let wrong : false ≡ true = sym f ∙ t in cc

pub at_map : {X Y : Type 0} (f : X → Y) (xs : List X) (k : ℕ) (x : X) → k < length xs → x ≡ get_or xs k x → f x ≡ get_or (map f xs) k (f x)
at_map f xs k x l at = ap f at ∙ sym (get_or-map f xs k x (f x) l)

pub long_map : {X Y : Type 0} (f : X → Y) (xs : List X) (k : ℕ) → k < length xs → k < length (map f xs)
long_map f xs k l = omega (arith, length-map xs f)

pub on_path : (path : List (Bor Word)) (x : Word) → is_on (told path) x ≡ list_any (λ y. bytes_eq x y.now) path
on_path path x = any_map (λ y. y.now) (bytes_eq x) path
