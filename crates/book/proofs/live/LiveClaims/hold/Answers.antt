use Rattle.std.proofs.Common.{◌≡◌, ◌<◌, ◌∙◌, ◌++◌, ◌∷◌, [], map, false, ap, arith, ℕ, List}
use Rattle.book.specs.Held.{live_of}
use Rattle.book.specs.Workbench.{is_claimed}
use Rattle.book.specs.declared.live.Held.{Held}
use Rattle.book.specs.declared.live.Live.{Live}
use Rattle.book.proofs.Held.{held_more, held_undone, more_seen}
use Rattle.book.proofs.live.LiveClaims.hold.Goals as goal

pub invariant_of-self-in-Ok : goal.invariant_of-self-in-Ok
invariant_of-self-in-Ok c =
    let claim = c.args.claim in
    let held : Held = record { seat = claim.seat; job = claim.job; slice = claim.slice } in
    let es = c.self.inside.claims.entries in
    let last : c.self.inside.last ≡ c.args.self.now.1 = ap (λ (v : List Live × ℕ). v.1) c.self.view_is in
    let new : c.self.inside.last < claim.number = omega (arith, last, c.requires.new) in
    let free : is_claimed (map live_of es) claim.job claim.slice ≡ false = ap (λ (v : List Live × ℕ). is_claimed v.0 claim.job claim.slice) c.self.view_is ∙ c.requires.unclaimed in
    held_more es _ _ _ c.self.inside.last claim.number held c.self.invariant new free c.in-Ok.ensures.entries (λ job slice. c.in_ok-insert.ensures.updates.0 (record { job = job; slice = slice }))

pub invariant_of-self-in-Err : goal.invariant_of-self-in-Err
invariant_of-self-in-Err c =
    let claim = c.args.claim in
    let held : Held = record { seat = claim.seat; job = claim.job; slice = claim.slice } in
    let es = c.self.inside.claims.entries in
    let free : is_claimed (map live_of es) claim.job claim.slice ≡ false = ap (λ (v : List Live × ℕ). is_claimed v.0 claim.job claim.slice) c.self.view_is ∙ c.requires.unclaimed in
    held_undone es _ _ _ _ c.self.inside.last claim.number held c.self.invariant free c.in-Err.ensures.err
    (λ job slice. c.in_ok-insert.ensures.updates.0 (record { job = job; slice = slice })) (λ job slice. c.remove.ensures.updates.0 (record { job = job; slice = slice }))

pub returns-in-Ok-clause-ok : goal.returns-in-Ok-clause-ok
returns-in-Ok-clause-ok c =
    let claim = c.args.claim in
    let held : Held = record { seat = claim.seat; job = claim.job; slice = claim.slice } in
    let es = c.self.inside.claims.entries in
    let last : c.self.inside.last ≡ c.args.self.now.1 = ap (λ (v : List Live × ℕ). v.1) c.self.view_is in
    let new : c.self.inside.last < claim.number = omega (arith, last, c.requires.new) in
    ap (λ live. (live, claim.number))
    (more_seen es _ _ c.self.inside.last claim.number held c.self.invariant new c.in-Ok.ensures.entries ∙ ap (λ (v : List Live × ℕ). v.0 ++ claim ∷ []) c.self.view_is)
