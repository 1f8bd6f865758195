-- What is found in a list is in it, and has what was looked for.
use Rattle.std.proofs.Common.{◌≡◌, List, [], ◌∷◌, Bool, true, false, cond, Option, None, Some, refl, sym, inl, inr, subst}
use Rattle.std.specs.List.{find}
use Rattle.listings.specs.Lists.{IsIn}

found_first : {X : Type 0} (p : X → Bool) (y : X) (ys : List X) (x : X) (b : Bool) → p y ≡ b → (find p ys ≡ Some x → IsIn x ys × (p x ≡ true)) → cond b (Some y) (find p ys) ≡ Some x → IsIn x (y ∷ ys) × (p x ≡ true)
found_first {X} p y ys x true is rest e =
    let same : y ≡ x = cc in
    (inl (sym same), let P : X → Type 0 = λ z. p z ≡ true in subst P same is)
found_first p y ys x false is rest e = let found = rest e in (inr found.0, found.1)

pub find_is : {X : Type 0} (p : X → Bool) (xs : List X) (x : X) → find p xs ≡ Some x → IsIn x xs × (p x ≡ true)
find_is p [] x e = cc
find_is p (y ∷ ys) x e = found_first p y ys x (p y) refl (find_is p ys x) e
