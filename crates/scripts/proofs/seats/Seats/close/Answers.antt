use Rattle.scripts.proofs.Seated.{shares}
use Rattle.scripts.proofs.seats.Seats.close.Goals as goal

pub finish-requires : goal.finish-requires
finish-requires g c = shares c.args.self.desk c.args.self.passes.items c.requires
