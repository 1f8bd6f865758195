-- A verdict as an object of JSON.
use Rattle.std.proofs.Common.{◌≡◌, ◌<◌, ℕ, List, [], ◌∷◌, false, ◌||◌, map, refl, ap, ◌∙◌, Bool, arith, rules}
use Rattle.std.proofs.lemmas.List.Elements.{All-weaker}
use Rattle.std.proofs.lemmas.Str.Ascii.{IsAscii-from_all}
use Rattle.std.specs.Prelude.{IsAscii}
use Rattle.serde_json.specs.Data.{Data, Members, boolean, put, string}
use Rattle.serde_json.specs.View.{items_of, view}
use Rattle.serde_json.specs.Written.{items_have_float}
use Rattle.serde_json.specs.declared.value.Value as values
use Rattle.serde_json.specs.declared.value.Value.{the_lemmas}
use Rattle.wb_text.specs.Names.{IsName, IsPrintable}

pub IsAscii-name : (bs : List ℕ) → IsName bs → IsAscii bs
IsAscii-name bs h = IsAscii-from_all bs (All-weaker IsPrintable (λ b. b < 128) (λ b p. omega (p.1, arith)) bs h.printable)

no_float : (xs : List (List ℕ)) → items_have_float (items_of (map string xs)) ≡ false
no_float [] = refl
no_float (x ∷ xs) = no_float xs

-- as the first of several members
pub no_float_first : (xs : List (List ℕ)) → (items_have_float (items_of (map string xs)) || false) ≡ false
no_float_first xs = ap (λ b. b || false) (no_float xs)

-- one more member, which is this
pub put_on : (k : List ℕ) (d e : Data) (so_far old new : Members) → old ≡ so_far → new ≡ put k d old → d ≡ e → new ≡ put k e so_far
put_on k d e so_far old new before more same = more ∙ ap (put k d) before ∙ ap (λ x. put k x so_far) same

pub view-Bool : (b : Bool) → view (values.Bool b) ≡ boolean b
view-Bool b = search (rules, the_lemmas)
