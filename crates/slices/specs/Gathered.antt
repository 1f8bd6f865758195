-- What is found while executions are counted. No statement on what is found rests on this.
use Rattle.std.specs.Prelude.{◌^◌, ◌≤◌, length}
use Rattle.slices.specs.declared.gathering.Gathering.{Gathering}
use Rattle.slices.specs.Recents.{AreKnown}

-- The states that were found last are known, and there is room for the number of each.
pub record IsKept (g : Gathering) : Type 0 where
  pub known : AreKnown g.finding g.state.base g.recent
  pub room : g.state.base ^ length g.finding.places ≤ 2 ^ 63
