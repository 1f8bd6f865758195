use Rattle.std.proofs.Common.{◌≡◌, ◌∙◌, map, Option, Some, ap, sym, subst, ℕ, List}
use Rattle.std.specs.Prelude.{IfSome}
use Rattle.book.specs.Held.{live_of, AreClaimedBut}
use Rattle.book.specs.Step.{others}
use Rattle.book.specs.Workbench.{claim_of}
use Rattle.book.specs.declared.live.Live.{Live}
use Rattle.book.proofs.Held.{held_less, less_seen, no_less, stay_but}
use Rattle.book.proofs.live.LiveClaims.end.Goals as goal

pub invariant_of-self : goal.invariant_of-self
invariant_of-self c =
    let n = c.args.number in
    let s = c.args.seat in
    let es = c.self.inside.claims.entries in
    let found : claim_of (map live_of es) n s ≡ Some c.in-Some.claim = ap (λ (v : List Live × ℕ). claim_of v.0 n s) c.self.view_is ∙ sym c.in-Some.ensures in
    held_less es _ _ _ _ n s c.in-Some.claim c.self.invariant found c.remove.ensures.entries (λ job slice. c.remove-in-Some.ensures.updates.0 (record { job = job; slice = slice }))

pub returns-in-Some-clause-ended : goal.returns-in-Some-clause-ended
returns-in-Some-clause-ended c =
    let n = c.args.number in
    let s = c.args.seat in
    let es = c.self.inside.claims.entries in
    let found : claim_of (map live_of es) n s ≡ Some c.in-Some.claim = ap (λ (v : List Live × ℕ). claim_of v.0 n s) c.self.view_is ∙ sym c.in-Some.ensures in
    ap (λ live. (live, c.self.inside.last)) (less_seen es _ _ _ n s c.in-Some.claim c.self.invariant found c.remove.ensures.entries)
    ∙ ap (λ (v : List Live × ℕ). (others n s v.0, v.1)) c.self.view_is

pub returns-in_default-clause-ended : goal.returns-in_default-clause-ended
returns-in_default-clause-ended c = ap (λ live. (live, c.args.self.now.1)) (no_less c.args.self.now.0 c.args.number c.args.seat (sym c.in_default.ensures))

pub returns-in-Some-clause-stay : goal.returns-in-Some-clause-stay
returns-in-Some-clause-stay c =
    let n = c.args.number in
    let s = c.args.seat in
    let es = c.self.inside.claims.entries in
    let found : claim_of (map live_of es) n s ≡ Some c.in-Some.claim = ap (λ (v : List Live × ℕ). claim_of v.0 n s) c.self.view_is ∙ sym c.in-Some.ensures in
    stay_but es c.remove.new.self.entries _ _ n s c.in-Some.claim c.args.self.now.0 c.self.invariant found c.remove.ensures.entries (ap (λ (v : List Live × ℕ). v.0) c.self.view_is)

pub returns-in_default-clause-stay : goal.returns-in_default-clause-stay
returns-in_default-clause-stay c =
    let P : Option Live → Type 0 = λ o. IfSome o (λ k. AreClaimedBut k c.args.self.now.0 c.args.self.now.0) in
    subst P c.in_default.ensures tt
