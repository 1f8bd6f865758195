use Rattle.std.proofs.Common.{◌∙◌, ◌∷◌, ◌-◌, length, take, drop, ap, sym}
use Rattle.std.specs.Prelude.{Ok}
use Rattle.cat_syntax.specs.declared.symbol.Symbol.{Symbol}
use Rattle.cat_tree.specs.Tree.{Word}
use Rattle.cat_syntax.specs.Reading.{name_at}
use Rattle.cat_syntax.proofs.Exits.{front_of}
use Rattle.cat_syntax.proofs.reading.Reader.name.Goals as goal

pub returns-in_ok-name-in-Name : goal.returns-in_ok-name-in-Name
unfolding name_at
returns-in_ok-name-in-Name c =
    let ts = c.args.self.now.rest.now in
    let rest = take (length ts - 1) (drop 1 ts) in
    ap name_at (front_of ts c.first-item.result c.in-len1-up.len_at_least c.first-item.is) ∙ ap (λ (s : Symbol). name_at (s ∷ rest)) c.in-Name.is ∙ ap (λ (x : Word). Ok (x, rest)) (sym c.in_ok-name-in-Name.ensures)
