-- Formulas that are written link by link.
use Rattle.std.proofs.Common.{◌≡◌, ℕ, List, refl}
use Rattle.conditions.specs.Chains.{run, along_is}
use Rattle.conditions.specs.Conditions.{Formula, grown, along, Growth, denies, joins}
use Rattle.conditions.specs.Spellings.{formula_over, growth_over}
use Rattle.conditions.specs.declared.prop.Connective.TheVariants.{And, Or, Implies}

grown_over : (s : List ℕ) (a : Formula) (g : Growth) → formula_over (grown a g) s ≡ growth_over (formula_over a s) g
grown_over s a denies = refl
grown_over s a (joins And b) = refl
grown_over s a (joins Or b) = refl
grown_over s a (joins Implies b) = refl

pub formula_along : (s : List ℕ) (a : Formula) (gs : List Growth) → formula_over (along a gs) s ≡ run growth_over (formula_over a s) gs
formula_along s = along_is (λ a. formula_over a s) growth_over (grown_over s)
