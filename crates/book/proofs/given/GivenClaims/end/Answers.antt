use Rattle.std.proofs.Common.{◌≡◌, ◌++◌, ◌∷◌, [], ◌∙◌, true, false, ap, sym, subst, Option, ℕ, List}
use Rattle.std.specs.Prelude.{IfSome}
use Rattle.book.specs.Newest.{with_newest, AreGiven}
use Rattle.book.specs.Held.{AreClaimedBut}
use Rattle.book.specs.Step.{others}
use Rattle.book.specs.Workbench.{is_claim, claim_of}
use Rattle.book.specs.declared.live.Live.{Live}
use Rattle.book.proofs.Newest.{given_without, given_others, others_newest, others_older, stay_newest, stay_older}
use Rattle.book.proofs.given.GivenClaims.end.Goals as goal

pub invariant_of-self : goal.invariant_of-self
invariant_of-self c =
    let A : Option Live → Type 0 = λ o. AreGiven c.self.inside.older o c.self.inside.last in
    given_without _ _ _ (subst A c.in-Some.is c.self.invariant)

pub invariant_of-self-else-is_claim : goal.invariant_of-self-else-is_claim
invariant_of-self-else-is_claim c = given_others c.self.inside.older _ _ _ c.args.number c.args.seat c.self.invariant c.end.ensures.ended

pub invariant_of-self-in-None : goal.invariant_of-self-in-None
invariant_of-self-in-None c = given_others c.self.inside.older _ _ _ c.args.number c.args.seat c.self.invariant c.end-in-None.ensures.ended

pub returns-then-is_claim-clause-ended : goal.returns-then-is_claim-clause-ended
returns-then-is_claim-clause-ended c =
    let older = c.self.inside.older in
    let n = c.args.number in
    let s = c.args.seat in
    let A : Option Live → Type 0 = λ o. AreGiven older o c.self.inside.last in
    let given = subst A c.in-Some.is c.self.invariant in
    let own : is_claim n s c.in-Some.claim ≡ true = sym c.is_claim.ensures ∙ c.if-is_claim.true in
    ap (λ live. (live, c.self.inside.last)) (others_newest older.0 c.in-Some.claim older.1 n s given.upto given.newest.0 own ∙ sym (ap (λ o. others n s (with_newest older.0 o)) c.in-Some.is))
    ∙ ap (λ (v : List Live × ℕ). (others n s v.0, v.1)) c.self.view_is

pub returns-then-is_claim-clause-stay : goal.returns-then-is_claim-clause-stay
returns-then-is_claim-clause-stay c =
    let older = c.self.inside.older in
    let n = c.args.number in
    let s = c.args.seat in
    let A : Option Live → Type 0 = λ o. AreGiven older o c.self.inside.last in
    let given = subst A c.in-Some.is c.self.invariant in
    let own : is_claim n s c.in-Some.claim ≡ true = sym c.is_claim.ensures ∙ c.if-is_claim.true in
    let P : List Live → Type 0 = λ l. IfSome (claim_of l n s) (λ k. AreClaimedBut k l older.0) in
    let was = sym (ap (with_newest older.0) c.in-Some.is) ∙ ap (λ (v : List Live × ℕ). v.0) c.self.view_is in
    subst P was (stay_newest older.0 c.in-Some.claim older.1 n s given.upto given.newest.0 own)

pub returns-else-is_claim-clause-ended : goal.returns-else-is_claim-clause-ended
returns-else-is_claim-clause-ended c =
    let older = c.self.inside.older in
    let n = c.args.number in
    let s = c.args.seat in
    let other : is_claim n s c.in-Some.claim ≡ false = sym c.is_claim.ensures ∙ c.if-is_claim.false in
    ap (λ (v : List Live × ℕ). (with_newest v.0 c.self.inside.newest, c.self.inside.last)) c.end.ensures.ended
    ∙ ap (λ o. (with_newest (others n s older.0) o, c.self.inside.last)) c.in-Some.is
    ∙ ap (λ live. (live, c.self.inside.last)) (others_older older.0 c.in-Some.claim n s other ∙ sym (ap (λ o. others n s (with_newest older.0 o)) c.in-Some.is))
    ∙ ap (λ (v : List Live × ℕ). (others n s v.0, v.1)) c.self.view_is

pub returns-else-is_claim-clause-stay : goal.returns-else-is_claim-clause-stay
returns-else-is_claim-clause-stay c =
    let older = c.self.inside.older in
    let n = c.args.number in
    let s = c.args.seat in
    let claim = c.in-Some.claim in
    let after = c.end.new.self.0 in
    let other : is_claim n s claim ≡ false = sym c.is_claim.ensures ∙ c.if-is_claim.false in
    let P : List Live → Type 0 = λ l. IfSome (claim_of l n s) (λ k. AreClaimedBut k l (after ++ claim ∷ [])) in
    let was = sym (ap (with_newest older.0) c.in-Some.is) ∙ ap (λ (v : List Live × ℕ). v.0) c.self.view_is in
    let Q : Option Live → Type 0 = λ o. IfSome (claim_of c.args.self.now.0 n s) (λ k. AreClaimedBut k c.args.self.now.0 (with_newest after o)) in
    subst Q (sym c.in-Some.is) (subst P was (stay_older older.0 after claim n s other c.end.ensures.stay))

pub returns-in-None-clause-ended : goal.returns-in-None-clause-ended
returns-in-None-clause-ended c =
    let older = c.self.inside.older in
    let n = c.args.number in
    let s = c.args.seat in
    ap (λ (v : List Live × ℕ). (with_newest v.0 c.self.inside.newest, c.self.inside.last)) c.end-in-None.ensures.ended
    ∙ ap (λ o. (with_newest (others n s older.0) o, c.self.inside.last)) c.in-None.is
    ∙ sym (ap (λ o. (others n s (with_newest older.0 o), c.self.inside.last)) c.in-None.is)
    ∙ ap (λ (v : List Live × ℕ). (others n s v.0, v.1)) c.self.view_is

pub returns-in-None-clause-stay : goal.returns-in-None-clause-stay
returns-in-None-clause-stay c =
    let older = c.self.inside.older in
    let n = c.args.number in
    let s = c.args.seat in
    let after = c.end-in-None.new.self.0 in
    let P : List Live → Type 0 = λ l. IfSome (claim_of l n s) (λ k. AreClaimedBut k l after) in
    let was = sym (ap (with_newest older.0) c.in-None.is) ∙ ap (λ (v : List Live × ℕ). v.0) c.self.view_is in
    let Q : Option Live → Type 0 = λ o. IfSome (claim_of c.args.self.now.0 n s) (λ k. AreClaimedBut k c.args.self.now.0 (with_newest after o)) in
    subst Q (sym c.in-None.is) (subst P was c.end-in-None.ensures.stay)
