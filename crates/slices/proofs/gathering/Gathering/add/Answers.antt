use Rattle.std.proofs.Common.{List, ℕ, [], Bool, Option, refl, sym, ap, ◌∙◌, subst}
use Rattle.std.specs.Prelude.{IfSome}
use Rattle.slices.specs.Numbers.{HasNumber}
use Rattle.slices.specs.Recents.{IsKnown}
use Rattle.slices.specs.Sums.{IsSum, of_state, state_has}
use Rattle.slices.proofs.Again.{found_again, kept_as, kept_on, known_now, known_still, room_still}
use Rattle.slices.proofs.gathering.Gathering.add.Goals as goal

pub returns-in_default-clause-kept : goal.returns-in_default-clause-kept
returns-in_default-clause-kept c = kept_on c.args.self.now _ _ c.requires.kept c.in_ok-add.ensures.sum refl c.take_row.ensures.base

pub returns-in-Some-find-clause-sum : goal.returns-in-Some-find-clause-sum
returns-in-Some-find-clause-sum c =
    let g = c.args.self.now in
    let K : Option Bool → Type 0 = λ o. IfSome o (λ has. IsKnown g.finding g.state.base (record { number = c.in-Some.number; has = has })) in
    let number = subst (λ o. HasNumber g.state.base g.state.values.items o) c.in-Some.is c.requires.number in
    let known = subst K c.in-Some-find.is (c.find.ensures g.finding g.state.base c.requires.kept.known) in
    let is = known g.state.values.items (sym c.requires.whole) number.0 (sym number.1) in
    found_again g.finding c.count.new.self g.state.values.items c.in-Some-find.has c.args.times is.0 is.1 c.count.ensures

pub returns-in-Some-find-clause-kept : goal.returns-in-Some-find-clause-kept
returns-in-Some-find-clause-kept c =
    let g = c.args.self.now in
    let K : Option Bool → Type 0 = λ o. IfSome o (λ has. IsKnown g.finding g.state.base (record { number = c.in-Some.number; has = has })) in
    let number = subst (λ o. HasNumber g.state.base g.state.values.items o) c.in-Some.is c.requires.number in
    let known = subst K c.in-Some-find.is (c.find.ensures g.finding g.state.base c.requires.kept.known) in
    let is = known g.state.values.items (sym c.requires.whole) number.0 (sym number.1) in
    kept_on g _ _ c.requires.kept (found_again g.finding c.count.new.self g.state.values.items c.in-Some-find.has c.args.times is.0 is.1 c.count.ensures) refl refl

pub returns-in_ok-has-in-None-clause-kept : goal.returns-in_ok-has-in-None-clause-kept
returns-in_ok-has-in-None-clause-kept c =
    let g = c.args.self.now in
    let row = g.state.values.items in
    let new = c.add-in-None.new.self in
    let same = c.take_row-in-None.ensures.row in
    let S : List ℕ → Type 0 = λ r. IsSum g.finding (of_state g.finding r c.args.times []) new in
    let sum = subst S same c.in_ok-has-in-None.ensures.sum in
    let number = subst (λ o. HasNumber g.state.base row o) c.in-Some.is c.requires.number in
    let has = c.in_ok-has-in-None.ensures.has ∙ ap (state_has g.finding) same in
    kept_as (record g { finding = new; recent = c.note.new.self }) _ (record {
      known = c.note.ensures new g.state.base (known_still g.finding _ new g.state.base g.recent sum c.requires.kept.known) (known_now g.finding new g.state.base c.in-Some.number c.args.times row c.in_ok-has-in-None.has sum c.requires.whole number has);
      room = room_still g.finding _ new g.state.base sum c.requires.kept.room;
    }) refl refl c.take_row-in-None.ensures.base
