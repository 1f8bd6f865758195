-- Places of names.
use Rattle.std.proofs.Common.{◌≡◌, ◌<◌, ◌∙◌, arith, ℕ, suc, ◌+◌, length, get_or, take, List, [], ◌∷◌, ◌++◌, map, Bool, true, false, cond, Option, None, Some, ap, sym, refl}
use Rattle.std.specs.Prelude.{option_map}
use Rattle.std.specs.Option.{option_or}
use Rattle.std.specs.Str.{bytes_eq}
use Rattle.std.proofs.lemmas.List.{take_more, map-append, length-map, length-take-le}
use Rattle.cat_tree.specs.Tree.{Word}
use Rattle.cat_model.specs.Classing.{place_in}

pushed : (ys : List Word) (y x : Word) → place_in (ys ++ y ∷ []) x ≡ cond (bytes_eq y x) (Some (length ys)) (place_in ys x)
pushed [] y x = refl
pushed (z ∷ ys) y x = ap (λ o. option_or (option_map suc o) (cond (bytes_eq z x) (Some 0) None)) (pushed ys y x) ∙ by (bytes_eq y x)
  where
    by : (b : Bool) → option_or (option_map suc (cond b (Some (length ys)) (place_in ys x))) (cond (bytes_eq z x) (Some 0) None) ≡ cond b (Some (suc (length ys))) (option_or (option_map suc (place_in ys x)) (cond (bytes_eq z x) (Some 0) None))
    by true = refl
    by false = refl

taken : {Y : Type 0} (f : Y → Word) (ys : List Y) (i : ℕ) (y : Y) (x : Word) → i < length ys → y ≡ get_or ys i y → place_in (map f (take (i + 1) ys)) x ≡ cond (bytes_eq (f y) x) (Some i) (place_in (map f (take i ys)) x)
taken f ys i y x l e =
    ap (λ zs. place_in (map f zs) x) (take_more ys i y l ∙ ap (λ z. take i ys ++ z ∷ []) (sym e)) ∙ ap (λ zs. place_in zs x) (map-append f (take i ys) (y ∷ [])) ∙ pushed (map f (take i ys)) (f y) x ∙
    ap (λ n. cond (bytes_eq (f y) x) (Some n) (place_in (map f (take i ys)) x)) (length-map (take i ys) f ∙ length-take-le i ys (omega (arith, l)))

pub place_is : {Y : Type 0} (f : Y → Word) (ys : List Y) (i j : ℕ) (y : Y) (x : Word) (o : Option ℕ) → j ≡ i + 1 → i < length ys → y ≡ get_or ys i y → bytes_eq (f y) x ≡ true → place_in (map f (take j ys)) x ≡ o → Some i ≡ o
place_is f ys i j y x o s l e t h = sym (ap (λ b. cond b (Some i) (place_in (map f (take i ys)) x)) t) ∙ sym (taken f ys i y x l e) ∙ ap (λ n. place_in (map f (take n ys)) x) (sym s) ∙ h

pub place_stays : {Y : Type 0} (f : Y → Word) (ys : List Y) (i j : ℕ) (y : Y) (x : Word) (o : Option ℕ) → j ≡ i + 1 → i < length ys → y ≡ get_or ys i y → bytes_eq (f y) x ≡ false → place_in (map f (take j ys)) x ≡ o → place_in (map f (take i ys)) x ≡ o
place_stays f ys i j y x o s l e t h = sym (ap (λ b. cond b (Some i) (place_in (map f (take i ys)) x)) t) ∙ sym (taken f ys i y x l e) ∙ ap (λ n. place_in (map f (take n ys)) x) (sym s) ∙ h
