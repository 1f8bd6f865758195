use Rattle.std.proofs.Common.{List, Result, Ok, Err}
use Rattle.std.specs.Prelude.{IfOk, OnOk}
use Rattle.cat_model.specs.Closure.{IsClosure}
use Rattle.cat_model.specs.Faults.{IsCause}
use Rattle.cat_model.specs.Models.{Assembly}
use Rattle.cat_model.specs.Scopes.{IsModel}
use Rattle.cat_model.specs.declared.fault.ModelFault.{ModelFault}
use Rattle.cat_model.specs.declared.files.Entry.{Entry}
use Rattle.cat_tree.specs.Tree.{Word}
use Rattle.slices.specs.Works.{IsModelOf}
use Rattle.program.proofs.main_file.model_of.Goals as goal

resolved : (es : List Entry) (root : Word) (r : Result Assembly ModelFault) → IfOk r (λ m. IsClosure es root m.items m.files × IsModel m.items) → OnOk r ((e : ModelFault) → ¬ IsCause e es root) → IfOk r (IsModelOf es root)
resolved es root (Ok m) found only = record { closure = found.0; model = found.1; sound = only }
resolved es root (Err e) found only = tt

pub returns-clause-model : goal.returns-clause-model
returns-clause-model c =
    let resolve = c.resolve.ensures in
    let is = resolved _ _ _ resolve.found resolve.only in
    rw (c.in_ok-files.ensures, c.in_ok-root.ensures) at is
