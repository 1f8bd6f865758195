-- Names that stand once.
use Rattle.std.proofs.Common.{◌≡◌, List, [], ◌∷◌, ◌++◌, true, false, refl, sym, subst, inl, inr, map}
use Rattle.std.proofs.lemmas.Slice.Eq.{bytes_eq-Decides}
use Rattle.std.proofs.lemmas.List.{map-append}
use Rattle.std.specs.List.{list_any}
use Rattle.cat_tree.specs.declared.tree.Binding.{Binding}
use Rattle.cat_tree.specs.declared.tree.Definition.{Definition}
use Rattle.std.specs.Prelude.{Bool, Option, Some, ◌||◌}
use Rattle.descent.specs.Reading.{match_option}
use Rattle.std.specs.Str.{bytes_eq}
use Rattle.std.proofs.lemmas.Bool.{or_parts, cases_Bool}
use Rattle.cat_tree.specs.Tree.{Word, bound_of, defined_of}
use Rattle.cat_syntax.specs.Items.{is_among, AreOnce, names_bound, names_defined}

neither-or : (a b : Bool) → a ≡ false → b ≡ false → (a || b) ≡ false
neither-or true b e f = absurd (cc)
neither-or false b e f = f

among-push : (ys : List Word) (y x : Word) → is_among ys x ≡ false → bytes_eq y x ≡ false → is_among (ys ++ y ∷ []) x ≡ false
among-push [] y x e f = neither-or (bytes_eq y x) false f refl
among-push (z ∷ ys) y x e f =
    let h = or_parts (bytes_eq z x) (is_among ys x) e in
    neither-or (bytes_eq z x) (is_among (ys ++ y ∷ []) x) h.0 (among-push ys y x h.1 f)

eq-swap : (a b : Word) → bytes_eq a b ≡ false → bytes_eq b a ≡ false
eq-swap a b e =
    elim (cases_Bool (bytes_eq b a)) [
      | inl h ↦
          let same : b ≡ a = (bytes_eq-Decides b a).0 h in
          let back : bytes_eq a b ≡ true = (bytes_eq-Decides a b).1 (sym same) in
          absurd (cc)
      | inr h ↦ h
    ]

pub once-push : (xs : List Word) (x : Word) → AreOnce xs → is_among xs x ≡ false → AreOnce (xs ++ x ∷ [])
once-push [] x k e = (refl, tt)
once-push (y ∷ xs) x k e =
    let h = or_parts (bytes_eq y x) (is_among xs x) e in
    (among-push xs x y k.0 (eq-swap y x h.0), once-push xs x k.1 h.1)

later-free : (ys : List Word) (y : Word) (xs : List Word) (x : Word) → is_among (ys ++ y ∷ xs) x ≡ false → bytes_eq y x ≡ false
later-free [] y xs x e = (or_parts (bytes_eq y x) (is_among xs x) e).0
later-free (z ∷ ys) y xs x e = later-free ys y xs x (or_parts (bytes_eq z x) (is_among (ys ++ y ∷ xs) x) e).1

-- what stands behind a list is not in it
pub once-fresh : (ys : List Word) (y : Word) (xs : List Word) → AreOnce (ys ++ y ∷ xs) → is_among ys y ≡ false
once-fresh [] y xs k = refl
once-fresh (z ∷ ys) y xs k =
    neither-or (bytes_eq z y) (is_among ys y) (eq-swap y z (later-free ys y xs z k.0)) (once-fresh ys y xs k.1)

-- names of what is bound

module _ {A : Type 0} (name : A → Word) where
  pub named-push : (as' : List A) (a : A) → AreOnce (map name as') → is_among (map name as') (name a) ≡ false → AreOnce (map name (as' ++ a ∷ []))
  named-push as' a k e = subst AreOnce (sym (map-append name as' (a ∷ []))) (once-push (map name as') (name a) k e)

  pub named-fresh : (as' : List A) (a : A) (bs : List A) → AreOnce (map name (as' ++ a ∷ bs)) → is_among (map name as') (name a) ≡ false
  named-fresh as' a bs k = once-fresh (map name as') (name a) (map name bs) (subst AreOnce (map-append name as' (a ∷ bs)) k)

pub bound_view : (bs : List Binding) (x : Word) → list_any (λ b. bytes_eq b.name x) bs ≡ is_among (names_bound (map bound_of bs)) x
bound_view [] x = refl
bound_view (b ∷ bs) x = rw (bound_view bs x)

pub defined_view : (ds : List Definition) (x : Word) → list_any (λ d. bytes_eq d.name x) ds ≡ is_among (names_defined (map defined_of ds)) x
defined_view [] x = refl
defined_view (d ∷ ds) x = rw (defined_view ds x)

-- the name that comes next is the one that is looked for
pub repeated_name : (xs : List Word) (next : Option Word) (x : Word) (r : Bool) → next ≡ Some x → r ≡ is_among xs x → r ≡ match_option next false (is_among xs)
repeated_name xs next x r e f = rw e f
