use Rattle.std.proofs.Common.{◌≡◌, drop, map}
use Rattle.conditions.specs.Chains.{passed, run}
use Rattle.conditions.specs.Conditions.{growth_of, formula_of}
use Rattle.conditions.specs.States.{holds_in}
use Rattle.conditions.proofs.+holding.Given as goal

-- the links that are left decide of all
abbrev pub invariant-state::holds-loop-link : goal.invariant-state::holds-loop-link
invariant-state::holds-loop-link l = run (passed l.state) l.so_far (map growth_of (drop l.link-index l.prop.rest.items)) ≡ holds_in l.state (formula_of l.prop)
