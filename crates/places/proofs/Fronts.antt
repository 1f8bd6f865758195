-- The longest front of a text that has tokens.
use Rattle.std.proofs.Common.{ℕ, ◌-◌, ◌<◌, ◌≤◌, inl, inr, List, [], length, refl, subst, arith}
use Rattle.std.proofs.lemmas.Bool.{cases_lt}
use Rattle.wb_text.specs.declared.token.Dialect.{Dialect}
use Rattle.wb_text.specs.declared.token.Dialect.TheVariants.{Litmus, Cat}
use Rattle.wb_text.specs.Gaps as gaps
use Rattle.wb_text.specs.Tokens as texts
use Rattle.wb_text.specs.Tokens.{IsHead, IsTokenList}
use Rattle.places.specs.Fronts.{FrontHasTokens, IsLongestFront}

-- the head of nothing
no_head : (d : Dialect) → IsHead 0 d [] [] []
no_head Litmus = texts.empty gaps.none
no_head Cat = texts.cat

-- nothing has the tokens that are none
pub nothing_has : (d : Dialect) (text : List ℕ) → FrontHasTokens d text 0
nothing_has d text = ([], record { short = omega arith; words = []; others = []; body = []; last = []; parts = refl; head = no_head d; tokens = texts.no_token; end = gaps.none })

pub empty_front : (d : Dialect) (text : List ℕ) (end : ℕ) → end ≤ 0 → ((m : ℕ) → end < m → m ≤ length text → ¬ FrontHasTokens d text m) → IsLongestFront d text 0
empty_front d text end low none = record { within = omega arith; has = nothing_has d text; longest = λ m h. none m (omega (arith, h, low)) }

-- one front less that has none
pub one_less : (d : Dialect) (text : List ℕ) (end : ℕ) → ((m : ℕ) → end < m → m ≤ length text → ¬ FrontHasTokens d text m) → ¬ FrontHasTokens d text end →
    (m : ℕ) → end - 1 < m → m ≤ length text → ¬ FrontHasTokens d text m
one_less d text end more here m low within has =
    elim (cases_lt end m) [ inl h ↦ more m h within has | inr h ↦ here (subst (FrontHasTokens d text) (omega (arith, low, h)) has) ]
