use Rattle.std.proofs.Common.{◌≡◌, Option, Some, option_map, ap, refl}
use Rattle.cat_tree.specs.Tree.{Word}
use Rattle.cat_eval.proofs.Lawful.{flag_more, no_flag}
use Rattle.cat_eval.proofs.Below.{ok_on}
use Rattle.cat_eval.proofs.flags.add_raised.Goals as goal

pub returns-in-Some-clause-added : goal.returns-in-Some-clause-added
returns-in-Some-clause-added c =
    let o : Option Word = option_map (λ f. f.now) c.args.raised in
    ok_on c.add.result _ _ (λ e. flag_more c.args.names.now.items c.add.new.names.items c.in-Some.name.now o (λ y. o ≡ Some y) (ap (option_map (λ f. f.now)) c.in-Some.is) e (λ y. (λ k. k, λ k. k))) c.add.ensures.added

pub returns-in-None-clause-added : goal.returns-in-None-clause-added
returns-in-None-clause-added c =
    let o : Option Word = option_map (λ f. f.now) c.args.raised in
    no_flag c.args.names.now.items c.args.names.now.items o (λ y. o ≡ Some y) (ap (option_map (λ f. f.now)) c.in-None.is) refl (λ y. (λ k. k, λ k. k))
