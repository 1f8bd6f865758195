use Rattle.std.proofs.Common.{◌≡◌, length, drop}
use Rattle.cat_places.specs.Denied.{with_only}
use Rattle.cat_places.proofs.denied.with_only.Given as goal

abbrev pub invariant-loop-token : goal.invariant-loop-token
invariant-loop-token l = record {
  whole : with_only l.changed.items (drop l.token-index l.uses) l.kept ≡ with_only l.text l.uses l.kept;
  same : length l.changed.items ≡ length l.text;
}
