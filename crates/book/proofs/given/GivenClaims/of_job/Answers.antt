use Rattle.std.proofs.Common.{◌≡◌, ◌+◌, ◌∙◌, arith, cond, count_by, ap, sym, ℕ, List}
use Rattle.std.proofs.lemmas.Bool.{eq-eqb, ne_eqb}
use Rattle.book.specs.Newest.{with_newest}
use Rattle.book.specs.Step.{is_of}
use Rattle.book.specs.declared.live.Live.{Live}
use Rattle.book.proofs.Newest.{count_with}
use Rattle.book.proofs.given.GivenClaims.of_job.Goals as goal

pub returns-then-claim-number : goal.returns-then-claim-number
returns-then-claim-number c =
    let older = c.self.inside.older.0 in
    let n = c.args.number in
    let own = eq-eqb _ _ c.if-claim-number.true in
    ap (λ k. k + 1) c.of_job-older.ensures
    ∙ sym (count_with older c.in-Some.claim n ∙ ap (λ b. count_by (is_of n) older + cond b 1 0) own)
    ∙ sym (ap (λ o. count_by (is_of n) (with_newest older o)) c.in-Some.is) ∙ ap (λ (v : List Live × ℕ). count_by (is_of n) v.0) c.self.view_is

pub returns-else-claim-number : goal.returns-else-claim-number
returns-else-claim-number c =
    let older = c.self.inside.older.0 in
    let n = c.args.number in
    let other = ne_eqb _ _ c.if-claim-number.false in
    let none : count_by (is_of n) older + 0 ≡ count_by (is_of n) older = omega arith in
    c.of_job-older.ensures
    ∙ sym (count_with older c.in-Some.claim n ∙ ap (λ b. count_by (is_of n) older + cond b 1 0) other ∙ none)
    ∙ sym (ap (λ o. count_by (is_of n) (with_newest older o)) c.in-Some.is) ∙ ap (λ (v : List Live × ℕ). count_by (is_of n) v.0) c.self.view_is

pub returns-in-None : goal.returns-in-None
returns-in-None c =
    let older = c.self.inside.older.0 in
    let n = c.args.number in
    c.of_job-older.ensures ∙ sym (ap (λ o. count_by (is_of n) (with_newest older o)) c.in-None.is) ∙ ap (λ (v : List Live × ℕ). count_by (is_of n) v.0) c.self.view_is
