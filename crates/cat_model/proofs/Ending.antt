-- A scheme without arguments.
use Rattle.std.proofs.Common.{◌≡◌, ◌∙◌, length, List, [], ◌∷◌, Bool, true, false, ◌&&◌, cond, Option, None, Some, ap, sym, refl}
use Rattle.cat_model.specs.Schemes.{by_scheme, agree, sort_of_class}
use Rattle.cat_model.specs.declared.schemes.Class.{Class}
use Rattle.cat_model.specs.declared.schemes.Scheme.{Scheme}
use Rattle.cat_model.specs.declared.sort.Sort.{Sort}

none : (p : Bool) (k : Option Sort) → cond (p && false) k None ≡ None
none true k = refl
none false k = refl

apart : (cs : List Class) → (length cs ≡ 0 → ⊥) → agree [] cs [] ≡ false
apart [] h = absurd (h refl)
apart (c ∷ cs) h = refl

pub alone_not : (s : Scheme) → (length s.classes.items.items ≡ 0 → ⊥) → None ≡ by_scheme s []
alone_not s h = sym (ap (λ b. cond (s.classes.possible && b) (Some (sort_of_class [] s.result)) None) (apart s.classes.items.items h) ∙ none s.classes.possible (Some (sort_of_class [] s.result)))
