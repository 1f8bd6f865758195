use Rattle.std.proofs.Common.{◌↔◌, IsTrue, subst}
use Rattle.events.specs.Executions.{GraphValue}
use Rattle.events.specs.Rows.{IsAccessOf}
use Rattle.events.proofs.Standing.{tested_at}
use Rattle.events.proofs.view.numbered.Numbered.is_access.Goals as goal

pub returns : goal.returns
returns c =
    let P : GraphValue → Type 0 = λ g. IsTrue c.is_access_of.result ↔ IsAccessOf g c.args.location c.event.result in
    tested_at c.args.self.now (IsAccessOf c.args.self.now c.args.location) c.args.number c.event.result c.is_access_of.result c.event.ensures (subst P c.self.view_is c.is_access_of.ensures)
