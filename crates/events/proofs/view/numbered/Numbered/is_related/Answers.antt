use Rattle.events.proofs.view.numbered.Numbered.is_related.Goals as goal

pub returns-in-Data : goal.returns-in-Data
returns-in-Data c = rw (← c.self.view_is, c.in-Data.is) c.is_data_dependency.ensures

pub returns-in-Rmw : goal.returns-in-Rmw
returns-in-Rmw c = rw (← c.self.view_is, c.in-Rmw.is) c.is_exchange.ensures
