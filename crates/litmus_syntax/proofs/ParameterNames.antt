-- The names of parameters.
use Rattle.std.proofs.Common.{◌≡◌, ◌∙◌, Bool, true, false, List, [], ◌∷◌, ◌++◌, map, refl, sym, ap}
use Rattle.std.specs.Prelude.{if◌then◌else◌, not}
use Rattle.std.specs.List.{list_any}
use Rattle.std.specs.Str.{bytes_eq}
use Rattle.std.proofs.lemmas.Bool.{false≢true}
use Rattle.std.proofs.lemmas.Cmp.{nat_list_eq_equiv}
use Rattle.litmus_tree.specs.declared.tree.Parameter.{Parameter}
use Rattle.litmus_syntax.specs.Drafts.{is_parameter}
use Rattle.litmus_tree.specs.Tree.{Word}

-- a parameter of a name, among their names
pub is_named : (ps : List Parameter) (x : Word) → is_parameter ps x ≡ list_any (bytes_eq x) (map (λ p. p.name) ps)
is_named [] x = refl
is_named (p ∷ ps) x = rw (nat_list_eq_equiv.symm p.name x, is_named ps x) refl

pub names_push : (ps : List Parameter) (p : Parameter) → map (λ q. q.name) (ps ++ p ∷ []) ≡ map (λ q. q.name) ps ++ p.name ∷ []
names_push [] p = refl
names_push (q ∷ ps) p = ap (λ l. q.name ∷ l) (names_push ps p)

bool_flip : (b : Bool) → not b ≡ true → b ≡ false
bool_flip true e = absurd (false≢true e)
bool_flip false e = refl

-- a name that was added to the names is none of the earlier ones

new_among : (keys : List Word) (y : Word) (added : Bool) → added ≡ not (list_any (bytes_eq y) keys) → added ≡ true → list_any (bytes_eq y) keys ≡ false
new_among keys y added told is_added = bool_flip (list_any (bytes_eq y) keys) (sym told ∙ is_added)

pub is_new : (ps : List Parameter) (keys : List Word) (x y : Word) (added : Bool) → map (λ p. p.name) ps ≡ keys → y ≡ x → added ≡ not (list_any (bytes_eq y) keys) → added ≡ true → is_parameter ps x ≡ false
is_new ps keys x y added named copied told is_added = is_named ps x ∙ rw (named, ← copied) (new_among keys y added told is_added)

pub added_last : (keys after : List Word) (x y z : Word) (added : Bool) → y ≡ x → z ≡ x → added ≡ not (list_any (bytes_eq y) keys) → after ≡ (if list_any (bytes_eq y) keys then keys else keys ++ y ∷ []) → added ≡ true → after ≡ keys ++ z ∷ []
added_last keys after x y z added copied again told kept is_added = kept ∙ rw (new_among keys y added told is_added, copied, again) refl
