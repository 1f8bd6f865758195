use Rattle.std.proofs.Common.{◌≡◌, ◌+◌, ◌-◌, subst, arith}
use Rattle.test_places.specs.Fronts.{IsFirstFront}
use Rattle.test_places.proofs.Stops.{some_match, none_match, no_front}
use Rattle.test_places.proofs.place.last_of_front.Goals as goal

pub returns-else-end-eq0 : goal.returns-else-end-eq0
returns-else-end-eq0 c =
    let same : c.in-Some.end ≡ c.in-Some.end - 1 + 1 = omega (arith, c.if-end-eq0.false) in
    subst (IsFirstFront c.args.symbols.now c.args.fault) same (some_match c.in_ok-end.field-0 c.in-Some.end _ _ c.in-Some.is c.in_ok-end.ensures)

pub returns-in-None : goal.returns-in-None
returns-in-None c = λ k. no_front c.args.symbols.now c.args.fault k (none_match c.in_ok-end.field-0 _ _ c.in-None.is c.in_ok-end.ensures)
