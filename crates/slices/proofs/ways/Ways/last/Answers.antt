use Rattle.std.proofs.Common.{◌≡◌, ◌∙◌, sym, subst}
use Rattle.slices.specs.Finals.{last_or}
use Rattle.slices.specs.Ways.{WaysValue, way}
use Rattle.slices.proofs.Chosen.{last_of, way_behind}
use Rattle.slices.proofs.ways.Ways.last.Goals as goal

pub returns : goal.returns
returns c =
    let w : WaysValue = record { initial = c.self.inside.initial; writes = c.self.inside.writes.now; opened = c.self.inside.opened; seen = c.self.inside.seen } in
    let last = last_of c.self.inside.initial c.self.inside.writes.now in
    let found : c.unwrap_or.result ≡ last_or c.self.inside.initial c.self.inside.writes.now = cc in
    let P : WaysValue → Type 0 = λ v. c.unwrap_or.result ≡ way v c.args.place in
    subst P c.self.view_is (found ∙ sym (way_behind w c.args.place c.if-not-self.false c.if-place-self.false))
