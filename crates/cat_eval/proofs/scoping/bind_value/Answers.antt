use Rattle.std.proofs.Common.{◌≡◌, length, ap, refl, arith}
use Rattle.cat_eval.specs.declared.naming.Held.TheVariants as held
use Rattle.cat_eval.proofs.Scoped.{replace_value, bound_value, kept_push}
use Rattle.cat_eval.proofs.scoping.bind_value.Goals as goal

pub returns-clause-replace : goal.returns-clause-replace
returns-clause-replace c =
    let n : c.len-number.result ≡ length c.args.values.now.items = omega (arith, c.len-number.ensures) in
    λ fs R h. replace_value fs c.args.names.now.items c.push-2.new.self.items _ R (length c.args.values.now.items) c.args.name.now c.in_ok-push-2.ensures.items (ap held.Value n) refl h

pub returns-clause-bound : goal.returns-clause-bound
returns-clause-bound c = λ n h. bound_value n c.args.names.now.items c.push-2.new.self.items _ c.len-number.result c.in_ok-push-2.ensures.items refl h

pub returns-clause-kept : goal.returns-clause-kept
returns-clause-kept c = λ n l. kept_push c.args.names.now.items c.push-2.new.self.items _ n c.in_ok-push-2.ensures.items l
