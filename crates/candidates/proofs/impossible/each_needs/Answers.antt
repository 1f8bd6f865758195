use Rattle.std.proofs.Common.{ℕ, List, ap, arith, length, subst, sym}
use Rattle.std.proofs.lemmas.Result.{IfOk-from_err}
use Rattle.candidates.specs.declared.impossible.ThreadNeeds.{ThreadNeeds}
use Rattle.candidates.specs.Impossible.{HasNeeds}
use Rattle.candidates.proofs.Needed.{many_next, places_next}
use Rattle.candidates.proofs.impossible.each_needs.Goals as goal

pub loop-thread-init : goal.loop-thread-init
loop-thread-init c =
    let none = ap (λ (ts : List ThreadNeeds). length ts) c.in_ok-all.ensures.items in
    record { many = none; within = omega arith; are = λ k t l e. absurd (omega (arith, l, none)) }

pub loop-thread-preserved : goal.loop-thread-preserved
loop-thread-preserved c =
    let at = c.loop-thread in
    let one = c.in_ok-needs.needs in
    let H : ℕ → ThreadNeeds → Type 0 = HasNeeds c.args.init.now c.args.stores.now c.args.threads.now in
    let P : ℕ → Type 0 = λ k. H k one in
    record {
      many = omega (arith, many_next at.all.items c.push.new.self.items one c.in_ok-push.ensures.items, at.invariant.many);
      within = omega (arith, c.loop-thread-test.true);
      are = places_next H at.all.items c.push.new.self.items one c.in_ok-push.ensures.items (subst P (sym at.invariant.many) c.in_ok-needs.ensures) at.invariant.are;
    }

pub returns-in_err-all : goal.returns-in_err-all
returns-in_err-all c = IfOk-from_err c.from_residual.result _ c.from_residual.ensures.0

pub returns : goal.returns
returns c = record {
  stores = c.args.stores.now;
  few = omega (arith, c.loop-thread.invariant.many, c.loop-thread.invariant.within);
  are = c.loop-thread.invariant.are;
}
