use Rattle.std.proofs.Common.{◌∙◌, ◌∷◌, ◌-◌, length, take, drop, ap, sym}
use Rattle.std.specs.Prelude.{Bool, Some, None, if◌then◌else◌}
use Rattle.cat_syntax.specs.declared.symbol.Symbol.{Symbol}
use Rattle.cat_syntax.specs.Reading.{after}
use Rattle.cat_syntax.proofs.Exits.{front_of}
use Rattle.cat_syntax.proofs.reading.Reader.take.Goals as goal

pub returns-in-Fixed : goal.returns-in-Fixed
unfolding after
returns-in-Fixed c =
    let ts = c.args.self.now.rest.now in
    let rest = take (length ts - 1) (drop 1 ts) in
    ap (after c.args.terminal) (front_of ts c.first-item.result c.in-len1-up.len_at_least c.first-item.is) ∙ ap (λ (s : Symbol). after c.args.terminal (s ∷ rest)) c.in-Fixed.is
    ∙ ap (λ (b : Bool). if b then Some (tt, rest) else None) (sym c.eq.ensures ∙ c.if-eq.true)
