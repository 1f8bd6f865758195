use Rattle.std.proofs.Common.{subst, sym}
use Rattle.std.specs.Prelude.{IfOk}
use Rattle.cat_places.specs.Places.{IsTold, IsToldName}
use Rattle.cat_places.proofs.model.Blame.token_of.Goals as goal

pub returns-in-NotMonotone : goal.returns-in-NotMonotone
returns-in-NotMonotone c =
    let self = c.args.self.now in
    subst (λ e. IfOk c.denied.result (IsTold self.files.now self.before.now self.visit self.text.now c.args.own.now e)) (sym c.in-NotMonotone.is)
    (subst (λ x. IfOk c.denied.result (IsToldName self.files.now self.before.now self.visit self.text.now c.args.own.now x)) c.bytes-in-NotMonotone.ensures.value c.denied.ensures)
