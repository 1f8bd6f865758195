use Rattle.std.proofs.Common.{◌≡◌, ◌∙◌, ap, take, drop, arith, rules}
use Rattle.places.proofs.Places.{take_min}
use Rattle.places.proofs.message.window.Goals as goal

pub returns : goal.returns
returns c =
    let behind : c.split_at.result.1.now ≡ drop c.args.from c.args.source.now = search rules in
    take_min 120 c.min-end.result c.split_at.result.1.now (omega (arith, c.min-end.ensures)) (omega (arith, c.min-end.ensures)) (λ h. omega (arith, h, c.min-end.ensures)) ∙ ap (take 120) behind
