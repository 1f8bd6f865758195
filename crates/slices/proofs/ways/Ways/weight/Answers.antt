use Rattle.std.proofs.Common.{◌≡◌, ◌≤◌, subst, arith}
use Rattle.slices.specs.Ways.{WaysValue, size_of_ways, weight_of_way}
use Rattle.slices.proofs.Chosen.{weight_most, weight_told}
use Rattle.slices.proofs.Picked.{weight_some}
use Rattle.slices.proofs.ways.Ways.weight.Goals as goal

pub returns-then-place-self : goal.returns-then-place-self
returns-then-place-self c =
    let w : WaysValue = record { initial = c.self.inside.initial; writes = c.self.inside.writes.now; opened = c.self.inside.opened; seen = c.self.inside.seen } in
    let k = c.self.inside.shares.opened in
    let is : k ≡ weight_of_way w c.args.place = (weight_told w c.args.place c.self.inside.shares c.self.invariant.1).0 c.if-place-self.true in
    let A : WaysValue → Type 0 = λ v. k ≡ weight_of_way v c.args.place in
    let B : WaysValue → Type 0 = λ v. k ≤ size_of_ways v in
    let most = weight_most w c.args.place c.self.invariant.0 in
    let some = weight_some w c.args.place c.self.invariant.0 in
    record { weight = subst A c.self.view_is is; most = subst B c.self.view_is (omega (arith, is, most)); some = omega (arith, is, some) }

pub returns-else-place-self : goal.returns-else-place-self
returns-else-place-self c =
    let w : WaysValue = record { initial = c.self.inside.initial; writes = c.self.inside.writes.now; opened = c.self.inside.opened; seen = c.self.inside.seen } in
    let k = c.self.inside.shares.other in
    let is : k ≡ weight_of_way w c.args.place = (weight_told w c.args.place c.self.inside.shares c.self.invariant.1).1 c.if-place-self.false in
    let A : WaysValue → Type 0 = λ v. k ≡ weight_of_way v c.args.place in
    let B : WaysValue → Type 0 = λ v. k ≤ size_of_ways v in
    let most = weight_most w c.args.place c.self.invariant.0 in
    let some = weight_some w c.args.place c.self.invariant.0 in
    record { weight = subst A c.self.view_is is; most = subst B c.self.view_is (omega (arith, is, most)); some = omega (arith, is, some) }
