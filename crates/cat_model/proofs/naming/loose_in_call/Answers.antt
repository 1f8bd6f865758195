use Rattle.std.proofs.Common.{◌≡◌, ◌-◌, List, Option, Bor, drop, length, subst, sym, ap, ◌∙◌, arith}
use Rattle.std.specs.Prelude.{reverse, take}
use Rattle.cat_tree.specs.Tree.{Word}
use Rattle.cat_model.specs.Along.{ForEach, IsFirstLoose, first_some}
use Rattle.cat_model.proofs.Loose.{loose_call}
use Rattle.cat_model.proofs.Paired.{for_call}
use Rattle.cat_model.proofs.Waiting.{paired_along, all_behind}
use Rattle.cat_model.proofs.naming.loose_in_call.Goals as goal

pub returns : goal.returns
returns c = λ us h.
    (let R = IsFirstLoose c.args.scope.now.names.items c.args.parameters.now in
    let m = c.saturating_sub-first.result in
    let e : m ≡ length c.args.waiting.now.items - c.args.count = omega (arith, c.saturating_sub-first.ensures, c.len.ensures) in
    let p = for_call (paired_along R) c.args.waiting.now.items m c.args.count us e h in
    let P : List (Option (Bor Word)) → Type 0 = λ l. c.first_of-arguments.result ≡ first_some (take (length l - m) (drop m l)) in
    let Q : List (Option (Bor Word)) → Type 0 = λ l. ForEach R (reverse l) (drop c.args.count us) in (
      loose_call c.args.scope.now.names.items c.args.parameters.now c.loose.result c.first_of-arguments.result c.or.result c.args.name.now (drop m c.args.waiting.now.items) (reverse (take c.args.count us)) c.or.ensures c.loose.ensures
          (subst P c.deref.ensures.value c.first_of-arguments.ensures ∙ ap (λ l. first_some l) (all_behind c.args.waiting.now.items m)) p.0,
      subst Q (sym c.truncate.ensures.items) p.1,
    ))
