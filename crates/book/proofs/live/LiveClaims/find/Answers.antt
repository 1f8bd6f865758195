use Rattle.std.proofs.Common.{◌∙◌, ap, sym, ℕ, List}
use Rattle.std.proofs.lemmas.Bool.{eq-eqb, ne_eqb}
use Rattle.book.specs.Workbench.{claim_of}
use Rattle.book.specs.declared.live.Live.{Live}
use Rattle.book.proofs.Held.{found_none, found_own, found_other}
use Rattle.book.proofs.live.LiveClaims.find.Goals as goal

pub returns-then-held-seat : goal.returns-then-held-seat
returns-then-held-seat c =
    let n = c.args.number in
    let s = c.args.seat in
    sym (found_own c.self.inside.claims.entries n s c.in-Some.held.now (sym c.in-Some.ensures.value) (eq-eqb _ _ c.if-held-seat.true)) ∙ ap (λ (v : List Live × ℕ). claim_of v.0 n s) c.self.view_is

pub returns-else-held-seat : goal.returns-else-held-seat
returns-else-held-seat c =
    let n = c.args.number in
    let s = c.args.seat in
    sym (found_other c.self.inside.claims.entries n s c.in-Some.held.now c.self.invariant.apart (sym c.in-Some.ensures.value) (ne_eqb _ _ c.if-held-seat.false))
    ∙ ap (λ (v : List Live × ℕ). claim_of v.0 n s) c.self.view_is

pub returns-in-None : goal.returns-in-None
returns-in-None c =
    let n = c.args.number in
    let s = c.args.seat in
    sym (found_none c.self.inside.claims.entries n s (sym c.in-None.ensures.value)) ∙ ap (λ (v : List Live × ℕ). claim_of v.0 n s) c.self.view_is
