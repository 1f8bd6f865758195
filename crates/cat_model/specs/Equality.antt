-- The test that `==` makes of models; it is true exactly of equal models.
use Rattle.std.specs.Prelude.{◌≡◌, ◌&&◌, Bool, ◌==◌, List, ℕ}
use Rattle.std.proofs.Common.{◌∙◌, ap}
use Rattle.std.specs.Bool.{Decides}
use Rattle.std.specs.Cmp.{IsEquivalence}
use Rattle.std.specs.Cmp.Lexicographic.{pointwise, pointwise_decides}
use Rattle.std.specs.Str.{bytes_eq}
use Rattle.std.proofs.lemmas.Bool.Decides.{Decides-eqb}
use Rattle.std.proofs.lemmas.Slice.Eq.{bytes_eq-Decides}
use Rattle.cat_tree.specs.Equality.{same_clause}
use Rattle.cat_tree.specs.Exact.{both, by_parts, equivalence, clause_exact}
use Rattle.cat_tree.specs.Tree.{Word, Clause}
use Rattle.cat_model.specs.Models.{Assembly}
use Rattle.cat_model.specs.declared.model.FileVersion.{FileVersion}

abbrev pub same_version : FileVersion → FileVersion → Bool
same_version a b = bytes_eq a.name b.name && (a.version == b.version)

abbrev pub same_assembly : Assembly → Assembly → Bool
same_assembly a b = pointwise same_clause a.items b.items && pointwise same_version a.files b.files

abbrev at_version : Word → ℕ → FileVersion
at_version x v = record { name = x; version = v }

version_exact : (a b : FileVersion) → Decides (same_version a b) (a ≡ b)
version_exact a b =
    by_parts _ (both _ _ (bytes_eq-Decides a.name b.name) (Decides-eqb a.version b.version))
    (λ h. ap (λ x. at_version x a.version) h.0 ∙ ap (at_version b.name) h.1) (λ e. (ap (λ c. c.name) e, ap (λ c. c.version) e))

abbrev assembly : List Clause → List FileVersion → Assembly
assembly is fs = record { items = is; files = fs }

pub assembly_exact : (a b : Assembly) → Decides (same_assembly a b) (a ≡ b)
assembly_exact a b =
    by_parts _ (both _ _ (pointwise_decides clause_exact a.items b.items) (pointwise_decides version_exact a.files b.files))
    (λ h. ap (λ is. assembly is a.files) h.0 ∙ ap (assembly b.items) h.1) (λ e. (ap (λ c. c.items) e, ap (λ c. c.files) e))

pub assembly_equivalence : IsEquivalence same_assembly
assembly_equivalence = equivalence (λ a. a) same_assembly assembly_exact
