use Rattle.std.proofs.Common.{◌≡◌, ◌<◌, ◌+◌, ◌∙◌, ℕ, List, length, take, get_or, ap, sym, subst, refl, arith}
use Rattle.listings.specs.Lists.{sum_of}
use Rattle.candidates.proofs.choosing.part_at.Goals as goal

pub part_from-requires-clause-before : goal.part_from-requires-clause-before
part_from-requires-clause-before c = refl

pub part_from-requires-clause-order : goal.part_from-requires-clause-order
part_from-requires-clause-order c = omega arith

pub part_from-requires-clause-number : goal.part_from-requires-clause-number
part_from-requires-clause-number c = (let P : List ℕ → Type 0 = λ ss. c.args.number < sum_of (λ n. n) ss in subst P (sym c.deref.ensures.value) c.requires.number)

pub part_from-requires-2-clause-before : goal.part_from-requires-2-clause-before
part_from-requires-2-clause-before c = c.requires.stands.1 ∙ ap (λ (ss : List ℕ). sum_of (λ n. n) (take c.args.level.now.place ss)) (sym c.deref-2.ensures.value)

pub part_from-requires-2-clause-order : goal.part_from-requires-2-clause-order
part_from-requires-2-clause-order c = c.if-number-level.false

pub part_from-requires-2-clause-number : goal.part_from-requires-2-clause-number
part_from-requires-2-clause-number c = (let P : List ℕ → Type 0 = λ ss. c.args.number < sum_of (λ n. n) ss in subst P (sym c.deref-2.ensures.value) c.requires.number)

pub returns-then-number-level-clause-place : goal.returns-then-number-level-clause-place
returns-then-number-level-clause-place c = (let P : List ℕ → Type 0 = λ ss. c.part_from.result.place < length ss in subst P c.deref.ensures.value c.part_from.ensures.place)

pub returns-then-number-level-clause-rest : goal.returns-then-number-level-clause-rest
returns-then-number-level-clause-rest c = (let P : List ℕ → Type 0 = λ ss. c.part_from.result.rest < get_or ss c.part_from.result.place 0 in subst P c.deref.ensures.value c.part_from.ensures.rest)

pub returns-then-number-level-clause-sum : goal.returns-then-number-level-clause-sum
returns-then-number-level-clause-sum c = (let P : List ℕ → Type 0 = λ ss. c.args.number ≡ sum_of (λ n. n) (take c.part_from.result.place ss) + c.part_from.result.rest in subst P c.deref.ensures.value c.part_from.ensures.sum)

pub returns-clause-place : goal.returns-clause-place
returns-clause-place c = (let P : List ℕ → Type 0 = λ ss. c.part_from-2.result.place < length ss in subst P c.deref-2.ensures.value c.part_from-2.ensures.place)

pub returns-clause-rest : goal.returns-clause-rest
returns-clause-rest c = (let P : List ℕ → Type 0 = λ ss. c.part_from-2.result.rest < get_or ss c.part_from-2.result.place 0 in subst P c.deref-2.ensures.value c.part_from-2.ensures.rest)

pub returns-clause-sum : goal.returns-clause-sum
returns-clause-sum c = (let P : List ℕ → Type 0 = λ ss. c.args.number ≡ sum_of (λ n. n) (take c.part_from-2.result.place ss) + c.part_from-2.result.rest in subst P c.deref-2.ensures.value c.part_from-2.ensures.sum)
