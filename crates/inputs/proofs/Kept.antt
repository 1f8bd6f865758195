-- Models that are kept.
use Rattle.std.proofs.Common.{◌≡◌, ◌∙◌, ℕ, List, [], ◌∷◌, ◌++◌, map, ap}
use Rattle.std.proofs.lemmas.List.{map_push}
use Rattle.cat_model.specs.Models.{Assembly}
use Rattle.inputs.specs.Loaded.{AreLoaded, nothing, behind, IsLoaded}

-- a value behind a list, for which room was made first
pub behind_room : {X : Type 0} (xs with_room new : List X) (x : X) → with_room ≡ xs → new ≡ with_room ++ x ∷ [] → new ≡ xs ++ x ∷ []
behind_room xs with_room new x same put = put ∙ ap (λ ys. ys ++ x ∷ []) same

pub one_more_loaded : {X Y : Type 0} (f : X → List ℕ) (g : Y → List ℕ) (models new_models : List Assembly) (names new_names : List X) (digests new_digests : List Y)
    (model : Assembly) (name : X) (told : Y)
    → AreLoaded models (map f names) (map g digests) → IsLoaded model (g told)
    → new_models ≡ models ++ model ∷ [] → new_names ≡ names ++ name ∷ [] → new_digests ≡ digests ++ told ∷ []
    → AreLoaded new_models (map f new_names) (map g new_digests)
one_more_loaded f g models new_models names new_names digests new_digests model name told before loaded models_are names_are digests_are =
    rw (models_are, names_are, digests_are, map_push f names name, map_push g digests told) (behind model (f name) (g told) before loaded)

pub none_loaded : {X Y : Type 0} (f : X → List ℕ) (g : Y → List ℕ) (models : List Assembly) (names : List X) (digests : List Y)
    → models ≡ [] → names ≡ [] → digests ≡ [] → AreLoaded models (map f names) (map g digests)
none_loaded f g models names digests no_models no_names no_digests = rw (no_models, no_names, no_digests) nothing
