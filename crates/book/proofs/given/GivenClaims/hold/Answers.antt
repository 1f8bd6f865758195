use Rattle.std.proofs.Common.{◌≡◌, ◌<◌, ◌∙◌, ◌++◌, ◌∷◌, [], false, arith, ap, ℕ, List}
use Rattle.book.specs.Newest.{with_newest}
use Rattle.book.specs.Workbench.{is_claimed}
use Rattle.book.specs.declared.live.Live.{Live}
use Rattle.book.proofs.Newest.{given_more}
use Rattle.book.proofs.given.GivenClaims.hold.Goals as goal

pub add-requires : goal.add-requires
add-requires c = (c.self.inside.last, c.self.invariant.newest)

pub invariant_of-self-2 : goal.invariant_of-self-2
invariant_of-self-2 c =
    let claim = c.args.claim in
    let older = c.self.inside.older in
    let newest = c.self.inside.newest in
    let last : c.self.inside.last ≡ c.args.self.now.1 = ap (λ (v : List Live × ℕ). v.1) c.self.view_is in
    let new : c.self.inside.last < claim.number = omega (arith, last, c.requires.new) in
    let free : is_claimed (with_newest older.0 newest) claim.job claim.slice ≡ false = ap (λ (v : List Live × ℕ). is_claimed v.0 claim.job claim.slice) c.self.view_is ∙ c.requires.unclaimed in
    given_more older _ newest claim c.self.inside.last c.self.invariant c.in_ok-add.ensures.ok new free

pub returns-clause-ok : goal.returns-clause-ok
returns-clause-ok c =
    let claim = c.args.claim in
    ap (λ (v : List Live × ℕ). (v.0 ++ claim ∷ [], claim.number)) c.in_ok-add.ensures.ok
    ∙ ap (λ (v : List Live × ℕ). (v.0 ++ claim ∷ [], claim.number)) c.self.view_is
