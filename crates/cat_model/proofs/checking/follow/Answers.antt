use Rattle.cat_model.proofs.Driven.{shown_idle, unshown_idle}
use Rattle.cat_model.proofs.checking.follow.Goals as goal

pub returns-in-Show-clause-ok : goal.returns-in-Show-clause-ok
returns-in-Show-clause-ok c = λ front s. shown_idle c.args.scope.now.names.items c.args.total front c.args.item.now c.in-Show.field-0 c.in-Show.is s

pub returns-in-Unshow-clause-ok : goal.returns-in-Unshow-clause-ok
returns-in-Unshow-clause-ok c = λ front s. unshown_idle c.args.scope.now.names.items c.args.total front c.args.item.now c.in-Unshow.field-0 c.in-Unshow.is s
