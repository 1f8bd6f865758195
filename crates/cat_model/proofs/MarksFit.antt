-- Names stand for what they are bound to: marks.
use Rattle.std.proofs.Common.{◌≡◌, List, [], ◌∷◌, ◌++◌, Bool, true, false, cond, Option, Some, sym, subst, refl}
use Rattle.std.specs.Str.{bytes_eq}
use Rattle.cat_model.specs.Denials.{Mark, Marking, with_mark}
use Rattle.cat_model.specs.Lookups.{held_in}
use Rattle.cat_model.specs.Marked.{IsMarked, IsMarkedBy, FitMarks}
use Rattle.cat_model.specs.declared.scope.BoundName.{BoundName}
use Rattle.cat_model.specs.declared.scope.Held.{Held}
use Rattle.cat_model.specs.declared.scope.Held.TheVariants.{Value, Function}
use Rattle.cat_model.specs.declared.scope.Summary.{Summary}
use Rattle.cat_model.specs.declared.sort.Sort.{Sort}
use Rattle.cat_model.proofs.Fitting.{latest_push}

-- nothing is bound
pub fit_marks_none : FitMarks [] (λ x ms. [])
fit_marks_none x ms = refl

more : (ns : List BoundName) (y : BoundName) (M : Marking) (F : List (List Mark) → List Mark) → FitMarks ns M → IsMarkedBy (Some y.held) F → FitMarks (ns ++ y ∷ []) (with_mark M y.name.now F)
more ns y M F f g x = (let P : Option Held → Type 0 = λ o. IsMarkedBy o (λ ms. cond (bytes_eq y.name.now x) (F ms) (M x ms)) in subst P (sym (latest_push (λ n. n.name.now) (λ n. n.held) ns y x)) (by (bytes_eq y.name.now x)))
  where
    by : (b : Bool) → IsMarkedBy (cond b (Some y.held) (held_in ns x)) (λ ms. cond b (F ms) (M x ms))
    by true = g
    by false = f x

pub fit_marks_value : (ns : List BoundName) (y : BoundName) (k : Sort) (M : Marking) → y.held ≡ Value k → FitMarks ns M → FitMarks (ns ++ y ∷ []) (with_mark M y.name.now (λ _. []))
fit_marks_value ns y k M e f = more ns y M (λ _. []) f (let P : Held → Type 0 = λ h. IsMarkedBy (Some h) (λ _. []) in subst P (sym e) (λ ms. refl))

pub fit_marks_function : (ns : List BoundName) (y : BoundName) (s : Summary) (M : Marking) (F : List (List Mark) → List Mark) → y.held ≡ Function s → FitMarks ns M → IsMarked s.marked F → FitMarks (ns ++ y ∷ []) (with_mark M y.name.now F)
fit_marks_function ns y s M F e f g = more ns y M F f (let P : Held → Type 0 = λ h. IsMarkedBy (Some h) F in subst P (sym e) g)
