use Rattle.std.proofs.Common.{inl, inr, refl, arith, ◌*◌, ◌/◌, ◌≤◌, sym, length}
use Rattle.candidates.proofs.Passing.{first_of, until_of}
use Rattle.candidates.proofs.Pages.{reading_within, start_within}
use Rattle.candidates.proofs.reading.look_anew.Goals as goal

pub returns-in-Until : goal.returns-in-Until
returns-in-Until c =
    let init = c.args.init.now in
    let page = c.args.page.now in
    let runs = page.runs.items in
    let i = c.args.number / page.orders in
    let read = rw c.in-Until.is at c.compare_from.ensures in
    until_of init runs page.orders c.args.number c.in-Until.next c.requires.page.orders read

pub returns-then-start-number : goal.returns-then-start-number
returns-then-start-number c =
    let init = c.args.init.now in
    let page = c.args.page.now in
    let runs = page.runs.items in
    let i = c.args.number / page.orders in
    let read = rw c.in-Whole.is at c.compare_from.ensures in
    first_of init runs page.orders c.args.number c.args.number c.in-Whole.hit c.requires.page.orders read (omega arith) (omega (arith, c.if-start-number.true)) (inl refl)

pub returns-else-start-number : goal.returns-else-start-number
returns-else-start-number c =
    let init = c.args.init.now in
    let page = c.args.page.now in
    let runs = page.runs.items in
    let i = c.args.number / page.orders in
    let read = rw c.in-Whole.is at c.compare_from.ensures in
    first_of init runs page.orders c.args.number (c.in-Whole.hit.at * page.orders) c.in-Whole.hit c.requires.page.orders read (omega (arith, c.if-start-number.false)) (omega arith) (inr refl)

pub compare_from-requires-clause-number : goal.compare_from-requires-clause-number
compare_from-requires-clause-number c = reading_within (length c.args.init.now) c.args.page.now c.args.number c.requires.page c.requires.number

pub overflow_mul-until : goal.overflow_mul-until
overflow_mul-until c =
    let ways = sym c.requires.page.ways in
    let within : c.in-Whole.hit.until ≤ c.args.page.now.ways = omega (arith, c.in-Whole.ensures.most, ways) in
    omega (arith, start_within (length c.args.init.now) c.args.page.now c.in-Whole.hit.until c.requires.page within)

pub overflow_mul-start : goal.overflow_mul-start
overflow_mul-start c =
    let ways = sym c.requires.page.ways in
    let within : c.in-Whole.hit.at ≤ c.args.page.now.ways = omega (arith, c.in-Whole.ensures.within, ways) in
    omega (arith, start_within (length c.args.init.now) c.args.page.now c.in-Whole.hit.at c.requires.page within)

pub overflow_mul-result : goal.overflow_mul-result
overflow_mul-result c =
    let ways = sym c.requires.page.ways in
    let within : c.in-Until.next ≤ c.args.page.now.ways = omega (arith, c.in-Until.ensures.1, ways) in
    omega (arith, start_within (length c.args.init.now) c.args.page.now c.in-Until.next c.requires.page within)
