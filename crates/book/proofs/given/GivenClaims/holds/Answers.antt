use Rattle.std.proofs.Common.{◌||◌, ◌∙◌, ap, sym, ℕ, List}
use Rattle.book.specs.Newest.{with_newest}
use Rattle.book.specs.Workbench.{is_claimed}
use Rattle.book.specs.declared.live.Live.{Live}
use Rattle.book.proofs.Newest.{claimed_with}
use Rattle.book.proofs.given.GivenClaims.holds.Goals as goal

pub returns-then-is_at : goal.returns-then-is_at
returns-then-is_at c =
    let older = c.self.inside.older.0 in
    let job = c.args.job in
    let slice = c.args.slice in
    sym (
    sym (ap (λ (v : List Live × ℕ). is_claimed v.0 job slice) c.self.view_is) ∙ ap (λ o. is_claimed (with_newest older o) job slice) c.in-Some.is
    ∙ claimed_with older c.in-Some.claim job slice ∙ ap (λ b. b || is_claimed older job slice) (sym c.is_at.ensures ∙ c.if-is_at.true)
    )

pub returns-else-is_at : goal.returns-else-is_at
returns-else-is_at c =
    let older = c.self.inside.older.0 in
    let job = c.args.job in
    let slice = c.args.slice in
    c.holds.ensures
    ∙ sym (
    sym (ap (λ (v : List Live × ℕ). is_claimed v.0 job slice) c.self.view_is) ∙ ap (λ o. is_claimed (with_newest older o) job slice) c.in-Some.is
    ∙ claimed_with older c.in-Some.claim job slice ∙ ap (λ b. b || is_claimed older job slice) (sym c.is_at.ensures ∙ c.if-is_at.false)
    )

pub returns-in-None : goal.returns-in-None
returns-in-None c =
    let older = c.self.inside.older.0 in
    let job = c.args.job in
    let slice = c.args.slice in
    c.holds-in-None.ensures ∙ sym (ap (λ o. is_claimed (with_newest older o) job slice) c.in-None.is) ∙ ap (λ (v : List Live × ℕ). is_claimed v.0 job slice) c.self.view_is
