-- Reading comes to one fault.
use Rattle.std.proofs.Common.{◌≡◌, ◌≢◌, ℕ, ◌+◌, ◌≤◌, inl, inr, List, length, take, sym, subst, refl, ◌∙◌}
use Rattle.std.specs.Prelude.{Err, Option, Some, None, MatchOption}
use Rattle.litmus_syntax.specs.declared.symbol.Symbol.{Symbol}
use Rattle.litmus_syntax.specs.declared.syntax_fault.SyntaxFault.{SyntaxFault}
use Rattle.litmus_syntax.specs.declared.syntax_fault.SyntaxFault.TheVariants.{Syntax, BadOrder, TooDeep, NoMemory}
use Rattle.litmus_syntax.specs.Reading.{syntax, deep, misordered, test_at}
use Rattle.litmus_syntax.specs.Unspelled.{IsUnspelled}
use Rattle.test_places.specs.Fronts.{IsStop, IsFirstFront}

first_misordered : (ss : List Symbol) (f : SyntaxFault) → f ≢ NoMemory → IsUnspelled ss f → test_at 32 ss ≡ Err misordered → f ≡ BadOrder
first_misordered ss (Syntax n) m h e = let stops : test_at 32 ss ≡ Err (syntax n) = h.1.stops in cc
first_misordered ss BadOrder m h e = refl
first_misordered ss TooDeep m h e = let stops : test_at 32 ss ≡ Err deep = h.2 in cc
first_misordered ss NoMemory m h e = absurd (m refl)

first_deep : (ss : List Symbol) (f : SyntaxFault) → f ≢ NoMemory → IsUnspelled ss f → test_at 32 ss ≡ Err deep → f ≡ TooDeep
first_deep ss (Syntax n) m h e = let stops : test_at 32 ss ≡ Err (syntax n) = h.1.stops in cc
first_deep ss BadOrder m h e = let stops : test_at 32 ss ≡ Err misordered = h.2 in cc
first_deep ss TooDeep m h e = refl
first_deep ss NoMemory m h e = absurd (m refl)

-- of two faults that reading comes to, the second is the first
pub one_stop : (ss : List Symbol) (f g : SyntaxFault) → IsStop g → f ≢ NoMemory → IsUnspelled ss f → IsUnspelled ss g → f ≡ g
one_stop ss f g (inl e) m h k = first_misordered ss f m h (subst (IsUnspelled ss) e k).2 ∙ sym e
one_stop ss f g (inr e) m h k = first_deep ss f m h (subst (IsUnspelled ss) e k).2 ∙ sym e

-- the shortest front with a fault has a last symbol
pub no_front : (ss : List Symbol) (f : SyntaxFault) (k : ℕ) → ((n : ℕ) → n ≤ length ss → ¬ IsUnspelled (take n ss) f) → ¬ IsFirstFront ss f (k + 1)
no_front ss f k none h = none (k + 1) h.within h.has

pub some_match : {A : Type 0} (o : Option A) (x : A) (P : Type 0) (Q : A → Type 0) → o ≡ Some x → MatchOption o P Q → Q x
some_match o x P Q e h = subst (λ y. MatchOption y P Q) e h

pub none_match : {A : Type 0} (o : Option A) (P : Type 0) (Q : A → Type 0) → o ≡ None → MatchOption o P Q → P
none_match o P Q e h = subst (λ y. MatchOption y P Q) e h
