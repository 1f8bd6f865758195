-- Names stand for what they are bound to: sorts.
use Rattle.std.proofs.Common.{◌≡◌, ◌∙◌, List, [], ◌∷◌, ◌++◌, Bool, true, false, cond, Option, Some, ap, sym, refl}
use Rattle.std.specs.Str.{bytes_eq}
use Rattle.cat_tree.specs.Tree.{Word}
use Rattle.cat_model.specs.Lookups.{held_in}
use Rattle.cat_model.specs.Schemes.{by_scheme, sort_by, FitSorts}
use Rattle.cat_model.specs.Sorts.{Sorting, just_sort, with_sort, named_sorts}
use Rattle.cat_model.specs.declared.scope.BoundName.{BoundName}
use Rattle.cat_model.specs.declared.scope.Held.TheVariants.{Value, Function}
use Rattle.cat_model.specs.declared.scope.Summary.{Summary}
use Rattle.cat_model.specs.declared.sort.Sort.{Sort}
use Rattle.cat_model.proofs.Fitting.{latest_push}

-- nothing is bound
pub fit_sorts_none : FitSorts [] named_sorts
fit_sorts_none x ks = refl

more : (ns : List BoundName) (y : BoundName) (S : Sorting) (F : List (Option Sort) → Option Sort) → FitSorts ns S → ((x : Word) (ks : List (Option Sort)) → F ks ≡ sort_by (Some y.held) x ks) → FitSorts (ns ++ y ∷ []) (with_sort S y.name.now F)
more ns y S F f g x ks = by (bytes_eq y.name.now x) ∙ sym (ap (λ o. sort_by o x ks) (latest_push (λ n. n.name.now) (λ n. n.held) ns y x))
  where
    by : (b : Bool) → cond b (F ks) (S x ks) ≡ sort_by (cond b (Some y.held) (held_in ns x)) x ks
    by true = g x ks
    by false = f x ks

pub fit_sorts_value : (ns : List BoundName) (y : BoundName) (k : Sort) (S : Sorting) → y.held ≡ Value k → FitSorts ns S → FitSorts (ns ++ y ∷ []) (with_sort S y.name.now (just_sort (Some k)))
fit_sorts_value ns y k S e f = more ns y S (just_sort (Some k)) f (λ x ks. sym (ap (λ h. sort_by (Some h) x ks) e))

pub fit_sorts_function : (ns : List BoundName) (y : BoundName) (s : Summary) (S : Sorting) (F : List (Option Sort) → Option Sort) → y.held ≡ Function s → FitSorts ns S → ((ks : List (Option Sort)) → by_scheme s.scheme ks ≡ F ks) →
    FitSorts (ns ++ y ∷ []) (with_sort S y.name.now F)
fit_sorts_function ns y s S F e f g = more ns y S F f (λ x ks. sym (ap (λ h. sort_by (Some h) x ks) e ∙ g ks))
