-- Models are equal where their keys are.
use Rattle.std.proofs.Common.{◌≡◌, ◌∙◌, ℕ, List, Bool, IsTrue, ◌↔◌, ap, sym}
use Rattle.std.specs.Bool.{one_answer}
use Rattle.cat_tree.specs.Exact.{by_parts}
use Rattle.cat_model.specs.Equality.{same_assembly, assembly_exact}
use Rattle.cat_model.specs.Models.{Assembly}
use Rattle.cat_model.specs.Spellings.{spelled_assembly, key_bytes}

-- whether two keys are equal decides whether the models are
pub one_model : (a b : Assembly) (s t : List ℕ) (r : Bool) → s ≡ key_bytes a → t ≡ key_bytes b → IsTrue r ↔ (s ≡ t) → IsTrue r ↔ (a ≡ b)
unfolding key_bytes
one_model a b s t r e f d = by_parts r d (λ h. (spelled_assembly.exact a b _ _ (sym e ∙ h ∙ f)).0) (λ h. e ∙ ap key_bytes h ∙ sym f)

pub same_keys : (a b : Assembly) (s t : List ℕ) (r : Bool) → s ≡ key_bytes a → t ≡ key_bytes b → IsTrue r ↔ (s ≡ t) → r ≡ same_assembly a b
same_keys a b s t r e f d = one_answer _ _ (one_model a b s t r e f d) (assembly_exact a b)
