-- What is evaluated: a test under a model.
use Rattle.std.specs.Prelude.{List}
use Rattle.cat_model.specs.Closure.{IsClosure}
use Rattle.cat_model.specs.Faults.{IsCause}
use Rattle.cat_model.specs.Models.{Assembly}
use Rattle.cat_model.specs.Scopes.{IsModel}
use Rattle.cat_model.specs.declared.fault.ModelFault.{ModelFault}
use Rattle.cat_model.specs.declared.files.Entry.{Entry}
use Rattle.litmus_tree.specs.Tree.{Word, Litmus}

-- The test, and the items of the model with the files that they come from, the root first.
pub record WorkValue : Type 0 where
  pub test : Litmus
  pub model : Assembly

-- The files give this model at the root: its items with every include in place and the files that were read, and no cause
-- to refuse it holds.
pub record IsModelOf (cats : List Entry) (root : Word) (m : Assembly) : Type 0 where
  pub closure : IsClosure cats root m.items m.files
  pub model : IsModel m.items
  pub sound : (fault : ModelFault) → ¬ IsCause fault cats root
