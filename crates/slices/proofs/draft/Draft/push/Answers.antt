use Rattle.std.proofs.Common.{◌+◌, ◌∷◌, ◌++◌, [], sym, ap, ◌∙◌, subst, arith}
use Rattle.slices.specs.Numbers.{HasNumber}
use Rattle.slices.proofs.Numbered.{number_more, room_for}
use Rattle.slices.proofs.draft.Draft.push.Goals as goal

pub overflow_mul-result : goal.overflow_mul-result
overflow_mul-result c =
    let d = c.args.self.now in
    let has = subst (λ o. HasNumber d.base d.values.items o) c.in-Some.is c.requires.number in
    let l = room_for d.base c.in-Some.number c.from-digit.result d.values.items has c.if-digit-self.true c.requires.room in
    omega (arith, l)

pub overflow_add-result : goal.overflow_add-result
overflow_add-result c =
    let d = c.args.self.now in
    let has = subst (λ o. HasNumber d.base d.values.items o) c.in-Some.is c.requires.number in
    let l = room_for d.base c.in-Some.number c.from-digit.result d.values.items has c.if-digit-self.true c.requires.room in
    omega (arith, l)

pub returns-in-Some-clause-number : goal.returns-in-Some-clause-number
returns-in-Some-clause-number c =
    let d = c.args.self.now in
    let has = subst (λ o. HasNumber d.base d.values.items o) c.in-Some.is c.requires.number in
    number_more d.base c.in-Some.number c.from-digit.result d.values.items c.push.new.self.items has c.if-digit-self.true (c.in_ok-push.ensures.items ∙ ap (λ x. d.values.items ++ x ∷ []) (sym c.from-digit.ensures))
