-- Lists with a separator, whatever their parts are.
use Rattle.std.proofs.Common.{◌≡◌, ◌∙◌, ◌<◌, ◌≤◌, List, [], ◌∷◌, ◌++◌, length, refl, ap, sym, subst, arith, append_assoc}
use Rattle.std.specs.Prelude.{Some, None, Ok}
use Rattle.descent.specs.Reading.{Look, match_option, ◌>>=◌, repeated}
use Rattle.descent.proofs.Tools.{bind_ok, moved}
use Rattle.descent.proofs.Turns.{repeated-keeps, repeated-more}
use Rattle.cat_syntax.specs.declared.symbol.Symbol.{Symbol}
use Rattle.cat_syntax.specs.declared.symbol.Symbol.TheVariants.{Fixed}
use Rattle.cat_syntax.specs.declared.symbol.Terminal.{Terminal}
use Rattle.cat_syntax.specs.Items.{AreSeparated, one, more}
use Rattle.cat_syntax.specs.Reading.{Reading, after, push_item, separated, cut}
use Rattle.cat_syntax.proofs.Symbols.{after-some, after-first, after_takes}

-- what is read is in the grammar

pub separated-shorter : {A : Type 0} (separator : Terminal) (Is : List Symbol → List Symbol → A → Type 0) →
    ((ts rest : List Symbol) (x : A) → Is ts rest x → length rest < length ts) →
    (ts rest : List Symbol) (xs : List A) → AreSeparated separator Is ts rest xs → length rest < length ts
separated-shorter separator Is shorter ts rest xs (one {x = x} d) = shorter ts rest x d
separated-shorter separator Is shorter ts rest xs (more {mid = mid} {x = x} {xs = ys} d ds) =
    omega (arith, shorter ts (Fixed separator ∷ mid) x d, separated-shorter separator Is shorter mid rest ys ds)

separated-join : {A : Type 0} (separator : Terminal) (Is : List Symbol → List Symbol → A → Type 0) (ts end mid rest : List Symbol) (xs ys : List A) →
    AreSeparated separator Is ts end xs → end ≡ Fixed separator ∷ mid → AreSeparated separator Is mid rest ys → AreSeparated separator Is ts rest (xs ++ ys)
separated-join separator Is ts end mid rest xs ys (one {x = x} d) e es = more (subst (λ l. Is ts l x) e d) es
separated-join separator Is ts end mid rest xs ys (more {mid = us} {xs = zs} d ds) e es = more d (separated-join separator Is us end mid rest zs ys ds e es)

-- Kept: what holds of the list so far
module _ {A : Type 0} (separator : Terminal) (Is : List Symbol → List Symbol → A → Type 0) (item : List A → List Symbol → Reading A) (Kept : List A → Type 0) (kept : Kept [])
    (sound : (xs : List A) (ts rest : List Symbol) (x : A) → Kept xs → item xs ts ≡ Ok (x, rest) → Is ts rest x × Kept (xs ++ x ∷ [])) where
  push-sound : (xs : List A) (ts rest : List Symbol) (ys : List A) → Kept xs → push_item item tt xs ts ≡ Ok (ys, rest) → (x : A) × (ys ≡ xs ++ x ∷ []) × Is ts rest x × Kept ys
  push-sound xs ts rest ys k e =
      let y = bind_ok (item xs ts) _ _ e in
      let s = sound xs ts y.0.1 y.0.0 k y.1 in
      moved (λ l zs. (x : A) × (zs ≡ xs ++ x ∷ []) × Is ts l x × Kept zs) y.2 (y.0.0, refl, s.0, s.1)

  pub separated-sound : (ts rest : List Symbol) (xs : List A) → separated separator item ts ≡ Ok (xs, rest) → AreSeparated separator Is ts rest xs × Kept xs
  unfolding separated
  separated-sound ts rest xs e =
      let x = bind_ok (push_item item tt [] ts) _ _ e in
      let p = push-sound [] ts x.0.1 x.0.0 kept x.1 in
      repeated-keeps cut (after separator) (push_item item) (λ l ys. AreSeparated separator Is ts l ys × Kept ys)
      (λ o us mid back ys zs d was f.
      let q = push-sound ys mid back zs d.1 f in
      (subst (λ (l : List A). AreSeparated separator Is ts back l) (sym q.1) (separated-join separator Is ts us mid back ys (q.0 ∷ []) d.0 (after-some separator us mid o was) (one q.2)), q.3))
      x.0.0 x.0.1 xs rest (subst (λ (l : List A). AreSeparated separator Is ts x.0.1 l) (sym p.1) (one p.2), p.3) x.2

-- a turn of a loop over a list

module _ {A : Type 0} (op : List Symbol → Look Symbol (Unit {0})) (item : List A → List Symbol → Reading A)
    (op_shorter : (ts rest : List Symbol) (u : Unit {0}) → op ts ≡ Some (u, rest) → length rest ≤ length ts)
    (item_shorter : (xs : List A) (ts rest : List Symbol) (x : A) → item xs ts ≡ Ok (x, rest) → length rest < length ts) where
  pub turn_shorter : (ts mid rest : List Symbol) (o : Unit {0}) (xs ys : List A) → op ts ≡ Some (o, mid) → push_item item o xs mid ≡ Ok (ys, rest) → length rest < length ts
  turn_shorter ts mid rest o xs ys e f =
      let y = bind_ok (item xs mid) _ _ f in
      moved (λ l t. length l < length ts) y.2 (omega (arith, op_shorter ts mid o e, item_shorter xs mid y.0.1 y.0.0 y.1))

  pub list-more : (xs : List A) (ts : List Symbol) →
      repeated cut op (push_item item) xs ts ≡ match_option (op ts) (Ok (xs, ts)) (λ x. push_item item x.0 xs x.1 >>= λ y. repeated cut op (push_item item) y.0 y.1)
  list-more = repeated-more cut op (push_item item) turn_shorter

pub after_no_longer : (t : Terminal) (ts rest : List Symbol) (u : Unit {0}) → after t ts ≡ Some (u, rest) → length rest ≤ length ts
after_no_longer t ts rest u e = omega (arith, after_takes t ts rest u e)

-- what is in the grammar is read

abbrev pub EachFits : {A : Type 0} → (List A → A → Type 0) → List A → List A → Type 0
EachFits Fits xs [] = Unit {0}
EachFits Fits xs (y ∷ ys) = Fits xs y × EachFits Fits (xs ++ y ∷ []) ys

module _ {A : Type 0} (separator : Terminal) (Is : List Symbol → List Symbol → A → Type 0) (item : List A → List Symbol → Reading A) (Fits : List A → A → Type 0) (Good : List Symbol → Type 0)
    (good : (mid : List Symbol) → Good (Fixed separator ∷ mid))
    (complete : (xs : List A) (ts rest : List Symbol) (x : A) → Is ts rest x → Fits xs x → Good rest → item xs ts ≡ Ok (x, rest))
    (turn : (xs : List A) (ts : List Symbol) → repeated cut (after separator) (push_item item) xs ts ≡ match_option (after separator ts) (Ok (xs, ts)) (λ x. push_item item x.0 xs x.1 >>= λ y. repeated cut (after separator) (push_item item) y.0 y.1)) where
  arrives : (xs : List A) (ts rest : List Symbol) (ys : List A) → AreSeparated separator Is ts rest ys → EachFits Fits xs ys → Good rest → after separator rest ≡ None →
      (push_item item tt xs ts >>= λ y. repeated cut (after separator) (push_item item) y.0 y.1) ≡ Ok (xs ++ ys, rest)
  arrives xs ts rest ys (one {x = x} d) f g none = rw (complete xs ts rest x d f.0 g, turn (xs ++ x ∷ []) rest, none)
  arrives xs ts rest ys (more {mid = mid} {x = x} {xs = zs} d ds) f g none =
      rw (complete xs ts (Fixed separator ∷ mid) x d f.0 (good mid), turn (xs ++ x ∷ []) (Fixed separator ∷ mid), after-first separator mid)
      (arrives (xs ++ x ∷ []) mid rest zs ds f.1 g none ∙ ap (λ (l : List A). Ok (l, rest)) (append_assoc xs (x ∷ []) zs))

  pub separated-complete : (ts rest : List Symbol) (ys : List A) → AreSeparated separator Is ts rest ys → EachFits Fits [] ys → Good rest → after separator rest ≡ None → separated separator item ts ≡ Ok (ys, rest)
  unfolding separated
  separated-complete ts rest ys d f g none = arrives [] ts rest ys d f g none

pub each-any : {A : Type 0} (xs ys : List A) → EachFits (λ _ _. Unit {0}) xs ys
each-any xs [] = tt
each-any xs (y ∷ ys) = (tt, each-any (xs ++ y ∷ []) ys)
