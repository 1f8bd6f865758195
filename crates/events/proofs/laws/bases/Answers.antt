use Rattle.events.proofs.Bases.{same_sets, same_on_runs, same_on_sources}
use Rattle.events.proofs.Shapes.{count_same}
use Rattle.events.proofs.Structures.{again_sourced}
use Rattle.events.proofs.laws.bases.Goals as goal

pub returns-clause-sets : goal.returns-clause-sets
returns-clause-sets c = same_sets

pub returns-clause-runs : goal.returns-clause-runs
returns-clause-runs c = same_on_runs

pub returns-clause-sources : goal.returns-clause-sources
returns-clause-sources c = same_on_sources

pub returns-clause-counts : goal.returns-clause-counts
returns-clause-counts c = count_same

pub returns-clause-plain : goal.returns-clause-plain
returns-clause-plain c = again_sourced
