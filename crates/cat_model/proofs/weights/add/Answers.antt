use Rattle.std.proofs.Common.{ℕ, subst}
use Rattle.cat_model.specs.Weights.{Alike, beside}
use Rattle.cat_model.proofs.Counting.{placed_set}
use Rattle.cat_model.proofs.weights.add.Goals as goal

pub returns-clause-added : goal.returns-clause-added
returns-clause-added c = λ ns e.
    (let P : ℕ → Type 0 = λ z. Alike c.args.measure c.beside.result (beside c.args.measure z c.args.weight) in
    placed_set c.args.measure c.args.weights.now.items ns c.args.place c.beside.result c.args.weight c.index.result.now e c.requires (subst P c.index.ensures c.beside.ensures))
