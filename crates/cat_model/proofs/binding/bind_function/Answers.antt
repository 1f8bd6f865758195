use Rattle.std.proofs.Common.{refl}
use Rattle.cat_tree.specs.Tree.{defined_of}
use Rattle.cat_model.proofs.Pushed.{function_pushed}
use Rattle.cat_model.proofs.binding.bind_function.Goals as goal

pub returns : goal.returns
returns c = λ B W f g.
    function_pushed c.args.scope.now.names.items c.args.above.now.items c.push.new.self.items _ c.in_ok-summary.summary B W (defined_of c.args.function.now) c.in_ok-push.ensures.items refl refl (c.in_ok-summary.ensures B f) g
