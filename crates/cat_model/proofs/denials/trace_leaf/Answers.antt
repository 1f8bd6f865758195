use Rattle.std.proofs.Common.{map}
use Rattle.cat_model.proofs.Members.{ok_if}
use Rattle.cat_model.proofs.Tracing.{traced_name, leaf_by}
use Rattle.cat_model.proofs.denials.trace_leaf.Goals as goal

pub returns-in-Name : goal.returns-in-Name
returns-in-Name c =
    ok_if c.trace_name.result _ _
    (λ v h. leaf_by c.args.scope.now.names.items (map (λ x. x.now) c.args.tracked.now) c.args.leaf.now c.in-Name.name v.items c.in-Name.is (traced_name c.args.scope.now.names.items (map (λ x. x.now) c.args.tracked.now) c.in-Name.name v.items h))
    c.trace_name.ensures
