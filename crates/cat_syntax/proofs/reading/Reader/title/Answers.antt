use Rattle.std.proofs.Common.{◌∙◌, ◌∷◌, ◌-◌, length, take, drop, ap, sym}
use Rattle.std.specs.Prelude.{Some, Ok}
use Rattle.cat_syntax.specs.declared.symbol.Symbol.{Symbol}
use Rattle.cat_tree.specs.Tree.{Word}
use Rattle.cat_syntax.specs.Reading.{title_at}
use Rattle.cat_syntax.proofs.Exits.{front_of}
use Rattle.cat_syntax.proofs.reading.Reader.title.Goals as goal

pub returns-in_ok-title-in-Quoted : goal.returns-in_ok-title-in-Quoted
unfolding title_at
returns-in_ok-title-in-Quoted c =
    let ts = c.args.self.now.rest.now in
    let rest = take (length ts - 1) (drop 1 ts) in
    ap title_at (front_of ts c.first-item.result c.in-len1-up.len_at_least c.first-item.is) ∙ ap (λ (s : Symbol). title_at (s ∷ rest)) c.in-Quoted.is ∙ ap (λ (x : Word). Ok (Some x, rest)) (sym (c.in_ok-title-in-Quoted.ensures ∙ c.bytes-in-Quoted.ensures))

pub returns-in_ok-title-in-Name : goal.returns-in_ok-title-in-Name
unfolding title_at
returns-in_ok-title-in-Name c =
    let ts = c.args.self.now.rest.now in
    let rest = take (length ts - 1) (drop 1 ts) in
    ap title_at (front_of ts c.first-item.result c.in-len1-up.len_at_least c.first-item.is) ∙ ap (λ (s : Symbol). title_at (s ∷ rest)) c.in-Name.is ∙ ap (λ (x : Word). Ok (Some x, rest)) (sym (c.in_ok-title-in-Name.ensures ∙ c.bytes.ensures))
