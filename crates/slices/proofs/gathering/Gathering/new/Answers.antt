use Rattle.std.proofs.Common.{◌^◌, ◌≤◌, length, sym, subst}
use Rattle.slices.proofs.gathering.Gathering.new.Goals as goal

pub returns-clause-kept : goal.returns-clause-kept
returns-clause-kept c =
    let base = c.new-2.result.base in
    let room : base ^ length c.args.finding.places ≤ 2 ^ 63 = subst (λ n. base ^ n ≤ 2 ^ 63) (sym c.requires) c.new-2.ensures.room in
    record { known = c.new.ensures c.args.finding base room; room = room }
