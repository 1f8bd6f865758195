use Rattle.std.proofs.Common.{◌≡◌, Option, Some, refl, sym, ap, subst, inr, IsSome}
use Rattle.cat_tree.specs.Tree.{Bound, term_of}
use Rattle.cat_model.specs.Sorts.{sort}
use Rattle.cat_model.specs.declared.fault.ModelFault.TheVariants.{WrongSort}
use Rattle.cat_model.specs.declared.sort.Sort.{Sort}
use Rattle.cat_model.proofs.Pushed.{value_pushed}
use Rattle.cat_model.proofs.binding.bind_value.Goals as goal

pub returns-in_ok-push-in-Some-clause-ok : goal.returns-in_ok-push-in-Some-clause-ok
returns-in_ok-push-in-Some-clause-ok c = λ B W f g.
    (let b : Bound = record { name = c.args.name.now; value = term_of c.args.value.now } in
    let P : Option Sort → Type 0 = λ o. o ≡ sort B.sorts b.value in
    value_pushed c.args.scope.now.names.items c.args.above.now.items c.push.new.self.items _ c.in-Some.sort B W b c.in_ok-push-in-Some.ensures.items refl refl (subst P c.in-Some.is (c.in_ok-sort.ensures B.sorts f.sorts)) g)

pub returns-in_ok-push-in-Some-clause-sorted : goal.returns-in_ok-push-in-Some-clause-sorted
returns-in_ok-push-in-Some-clause-sorted c = λ B f.
    (let P : Option Sort → Type 0 = λ o. o ≡ sort B.sorts (term_of c.args.value.now) in
    let e : Some c.in-Some.sort ≡ sort B.sorts (term_of c.args.value.now) = subst P c.in-Some.is (c.in_ok-sort.ensures B.sorts f.sorts) in
    subst IsSome e refl)

pub returns-in_ok-copy-in-None-clause-err : goal.returns-in_ok-copy-in-None-clause-err
returns-in_ok-copy-in-None-clause-err c = inr (
  ap WrongSort c.in_ok-copy-in-None.ensures,
  λ B f.
      (let P : Option Sort → Type 0 = λ o. o ≡ sort B.sorts (term_of c.args.value.now) in
      sym (subst P c.in-None.is (c.in_ok-sort.ensures B.sorts f.sorts))),
)
