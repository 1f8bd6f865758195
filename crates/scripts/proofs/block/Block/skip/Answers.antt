use Rattle.std.proofs.Common.{◌≡◌, ℕ, ◌+◌, ◌-◌, ◌≤◌, ◌∙◌, List, length, take, drop, sym, ap, arith}
use Rattle.std.proofs.lemmas.Grind.{common_steps}
use Rattle.std.proofs.lemmas.List.{drop-take, drop-drop, length-take}
use Rattle.scripts.proofs.block.Block.skip.Goals as goal

take_short : (k : ℕ) (xs : List ℕ) → length (take k xs) ≤ k
take_short k xs = grind (arith, common_steps, length-take)

skipped : (xs rest : List ℕ) (from to n : ℕ) → take (to - from) (drop from xs) ≡ rest → n ≤ to - from → take (to - (from + n)) (drop (from + n) xs) ≡ drop n rest
skipped xs rest from to n is within =
    let left : ℕ = to - (from + n) in
    let split : to - from ≡ n + (to - (from + n)) = omega arith in
    sym (ap (drop n) (sym is) ∙ ap (λ k. drop n (take k (drop from xs))) split ∙ drop-take n (to - (from + n)) (drop from xs) ∙ ap (take (to - (from + n))) (drop-drop n from xs))

within : (xs rest : List ℕ) (k n : ℕ) → take k xs ≡ rest → n ≤ length rest → n ≤ k
within xs rest k n is fits =
    let short = take_short k xs in
    let same : length (take k xs) ≡ length rest = ap length is in
    omega (arith, short, same, fits)

pub returns : goal.returns
returns c =
    let inside = c.self.inside in
    skipped inside.bytes.items c.args.self.now inside.from inside.to c.args.count c.self.view_is
    (within (drop inside.from inside.bytes.items) c.args.self.now (inside.to - inside.from) c.args.count c.self.view_is c.requires)
