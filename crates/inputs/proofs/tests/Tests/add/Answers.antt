use Rattle.std.proofs.Common.{◌≡◌, ap, subst, ◌∙◌, ◌++◌, ◌∷◌, [], List, ℕ, map}
use Rattle.std.specs.Prelude.{string_bytes}
use Rattle.std.proofs.lemmas.List.{map_push}
use Rattle.inputs.specs.Paths.{IsPlain}
use Rattle.inputs.proofs.tests.Tests.add.Goals as goal

pub returns-clause-added : goal.returns-clause-added
returns-clause-added c =
    let old = c.self.inside.paths.items in
    let P : List (List ℕ) → Type 0 = λ paths. map string_bytes c.push.new.self.items ≡ paths ++ c.args.path.now ∷ [] in
    let added = ap (map string_bytes) c.in_ok-push.ensures.items ∙ map_push string_bytes old c.in_ok-path.path ∙ ap (λ p. map string_bytes old ++ p ∷ []) c.in_ok-path.ensures.ok in
    (subst IsPlain c.as_bytes.ensures.value c.if-not-is_plain.ensures, subst P c.self.view_is added)
