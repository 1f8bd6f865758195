use Rattle.std.proofs.Common.{◌≡◌, ℕ, List, ◌++◌, codes, decimal, append_assoc, append-nil}
use Rattle.report.proofs.Written.{same}
use Rattle.report.specs.Refusals.{kind_text}
use Rattle.report.proofs.refusal.write_replacement.Goals as goal

regroup : (k n v : List ℕ) → codes "79 Replaced " ++ (k ++ (codes " " ++ (n ++ (codes " " ++ (v ++ codes ""))))) ≡ codes "79 Replaced " ++ k ++ codes " " ++ n ++ codes " " ++ v
regroup k n v = simp (append_assoc, append-nil)

pub returns : goal.returns
returns g c =
    let kind : c.kind_text-kind.result.now ≡ kind_text c.args.replacement.now.kind = cc in
    let name : c.bytes-name.result.now ≡ c.args.replacement.now.name = cc in
    let version : c.as_bytes-version.result.now ≡ decimal c.args.replacement.now.version = cc in
    same _ _ _ _ _ _ (rw (kind, name, version) (regroup (kind_text c.args.replacement.now.kind) c.args.replacement.now.name (decimal c.args.replacement.now.version))) c.write_parts.ensures
