use Rattle.std.proofs.Common.{◌≡◌, List, [], length, take, ap, refl, arith, sym, ◌∙◌, subst}
use Rattle.cat_tree.specs.Tree.{Word, Defined, defined_of, function_if}
use Rattle.cat_eval.specs.Lowered.{AreBelow, Replace}
use Rattle.cat_eval.specs.declared.instruction.Function.{Function}
use Rattle.cat_eval.specs.Replacing.{with_function_texts}
use Rattle.cat_eval.specs.declared.naming.Held.TheVariants as held
use Rattle.cat_eval.proofs.Scoped.{replace_function, bound_function, function_one, no_names, is_zero, not_zero, code_as, more_one, kept_push}
use Rattle.cat_eval.proofs.scoping.bind_if_function.Goals as goal

pub returns-clause-bound : goal.returns-clause-bound
returns-clause-bound c =
    let n : c.len-number.result ≡ length c.args.functions.now.items = omega (arith, c.len-number.ensures) in
    bound_function c.args.functions.now.items c.push.new.self.items c.in_ok-function.function c.args.names.now.items c.push-2.new.self.items _ c.in_ok-push.ensures.items c.in_ok-push-2.ensures.items (ap held.Function n) c.requires.bound

pub returns-clause-replace : goal.returns-clause-replace
returns-clause-replace c = λ B R q r.
    (let n : c.len-number.result ≡ length c.args.functions.now.items = omega (arith, c.len-number.ensures) in
    let d : Defined = defined_of c.args.definition.now in
    let P : List Defined → Type 0 = λ ds. Replace c.push.new.self.items c.push-2.new.self.items (with_function_texts B ds R) in
    subst P (sym (function_one d (λ e. not_zero _ (sym c.is_empty.ensures ∙ c.if-is_empty.false) (let z = ap length e in omega (arith, z)))))
    (replace_function c.args.functions.now.items c.push.new.self.items c.in_ok-function.function c.args.names.now.items c.push-2.new.self.items (take c.args.before c.args.names.now.items) _ d B R c.in_ok-push.ensures.items c.in_ok-push-2.ensures.items
    (ap held.Function n) refl
    (code_as c.deref-2.result.now c.args.functions.now.items (take c.args.before c.deref.result.now) (take c.args.before c.args.names.now.items) c.deref-3.result.now d.parameters d.value c.in_ok-function.function.code.items c.deref-2.ensures.value
    (ap (take c.args.before) c.deref.ensures.value) c.deref-3.ensures.value c.in_ok-function.ensures.text)
    (c.in_ok-function.ensures.long ∙ ap length c.deref-3.ensures.value) c.requires.bound q r))

pub returns-then-is_empty-clause-bound : goal.returns-then-is_empty-clause-bound
returns-then-is_empty-clause-bound c = c.requires.bound

pub returns-then-is_empty-clause-more : goal.returns-then-is_empty-clause-more
returns-then-is_empty-clause-more c = record { functions = c.requires.functions; more = omega arith; stays = λ ns R b r. r }

pub returns-then-is_empty-clause-replace : goal.returns-then-is_empty-clause-replace
returns-then-is_empty-clause-replace c = λ B R q r.
    (let d : Defined = defined_of c.args.definition.now in
    let P : List Word → Type 0 = λ ps. Replace c.args.functions.now.items c.args.names.now.items (with_function_texts B (function_if ps d []) R) in
    subst P (sym (no_names d.parameters (let v = is_zero _ (sym c.is_empty.ensures ∙ c.if-is_empty.true) in omega (arith, v)))) r)

pub returns-clause-more : goal.returns-clause-more
returns-clause-more c =
    let P : List Function → Type 0 = λ fs. AreBelow (length fs) c.in_ok-function.function.code.items in
    more_one c.args.functions.now.items c.push.new.self.items c.in_ok-function.function c.in_ok-push.ensures.items c.requires.functions (subst P c.deref-2.ensures.value c.in_ok-function.ensures.below) c.in_ok-function.ensures.used

pub returns-clause-seen : goal.returns-clause-seen
returns-clause-seen c = (kept_push c.args.names.now.items c.push-2.new.self.items _ c.args.before c.in_ok-push-2.ensures.items c.requires.before).1

pub returns-clause-before : goal.returns-clause-before
returns-clause-before c = omega (arith, c.requires.before, c.in_ok-push-2.ensures.len)
