use Rattle.std.proofs.Common.{◌≡◌, ◌∙◌, true, false, ap, sym, subst, Option, ℕ, List}
use Rattle.book.specs.Newest.{with_newest, AreGiven}
use Rattle.book.specs.Workbench.{is_claim, claim_of}
use Rattle.book.specs.declared.live.Live.{Live}
use Rattle.book.proofs.Newest.{found_newest, found_older}
use Rattle.book.proofs.given.GivenClaims.find.Goals as goal

pub returns-then-is_claim : goal.returns-then-is_claim
returns-then-is_claim c =
    let older = c.self.inside.older in
    let n = c.args.number in
    let s = c.args.seat in
    let A : Option Live → Type 0 = λ o. AreGiven older o c.self.inside.last in
    let given = subst A c.in-Some.is c.self.invariant in
    let own : is_claim n s c.in-Some.claim ≡ true = sym c.is_claim.ensures ∙ c.if-is_claim.true in
    sym (found_newest older.0 c.in-Some.claim older.1 n s given.upto given.newest.0 own)
    ∙ sym (ap (λ o. claim_of (with_newest older.0 o) n s) c.in-Some.is) ∙ ap (λ (v : List Live × ℕ). claim_of v.0 n s) c.self.view_is

pub returns-else-is_claim : goal.returns-else-is_claim
returns-else-is_claim c =
    let older = c.self.inside.older in
    let n = c.args.number in
    let s = c.args.seat in
    let other : is_claim n s c.in-Some.claim ≡ false = sym c.is_claim.ensures ∙ c.if-is_claim.false in
    c.find.ensures ∙ sym (found_older older.0 c.in-Some.claim n s other)
    ∙ sym (ap (λ o. claim_of (with_newest older.0 o) n s) c.in-Some.is) ∙ ap (λ (v : List Live × ℕ). claim_of v.0 n s) c.self.view_is

pub returns-in-None : goal.returns-in-None
returns-in-None c =
    let older = c.self.inside.older in
    let n = c.args.number in
    let s = c.args.seat in
    c.find-in-None.ensures ∙ sym (ap (λ o. claim_of (with_newest older.0 o) n s) c.in-None.is) ∙ ap (λ (v : List Live × ℕ). claim_of v.0 n s) c.self.view_is
