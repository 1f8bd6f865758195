use Rattle.std.specs.Global.{Global}
use Rattle.cat_tree.specs.declared.expression.Expression.{Expression}
use Rattle.cat_syntax.specs.Reading.{expected, opened, arguments_with, call_with, primary_with, postfix_with, unary_with, level_with, below}
use Rattle.cat_syntax.proofs.Exits.{stopped}
use Rattle.std.proofs.Common.{Vec, ◌∙◌, sym, refl, arith, map}
use Rattle.cat_tree.specs.Tree.{term_of, pair_of}
use Rattle.cat_syntax.proofs.Levels.{arguments_turned, after_takes, level_takes, level_turn, left_turned, right_turned, infix_takes, enclosure_takes, opened_takes, primary_parts, unary_parts, arguments_next, arguments_start, name_takes}
use Rattle.cat_syntax.specs.declared.symbol.Terminal.TheVariants.{Comma, Tilde, LeftParen}
use Rattle.cat_syntax.proofs.reading.Reader.+expressions.Goals as goal

pub arguments-loop-arguments-preserved : goal.arguments-loop-arguments-preserved
arguments-loop-arguments-preserved t c = (
  rw c.in_ok-push.ensures.items (arguments_turned c.in_ok-inner.inner c.loop-arguments.arguments.items c.in_ok-next.next c.loop-arguments.self.rest.now c.level.new.self.rest.now c.take.new.self.rest.now _ c.loop-arguments.invariant.0 c.in_ok-next.ensures c.if-not-take.ensures),
  omega (arith, c.loop-arguments.invariant.1, after_takes Comma c.level.new.self.rest.now c.take.new.self.rest.now tt c.if-not-take.ensures, level_takes c.in_ok-inner.inner 5 c.loop-arguments.self.rest.now c.level.new.self.rest.now (term_of c.in_ok-next.next) c.in_ok-next.ensures),
)

pub level-loop-operator-preserved : goal.level-loop-operator-preserved
level-loop-operator-preserved t c = (
  rw c.in_ok-push.ensures.items (right_turned c.args.nesting c.in-Some.tighter c.loop-operator.lefts.items c.loop-operator.last (term_of c.in_ok-next.next)
      c.loop-operator.self.rest.now c.infix.new.self.rest.now c.level-in-Some-infix.new.self.rest.now c.in-Some-infix.operator _
      c.loop-operator.invariant.0 c.in-Some-infix.ensures c.in_ok-next.ensures (sym c.associates_left.ensures ∙ c.if-associates_left.false)),
  omega (
    arith,
    c.loop-operator.invariant.1,
    infix_takes c.in-Some.tighter c.loop-operator.self.rest.now c.infix.new.self.rest.now c.in-Some-infix.operator c.in-Some-infix.ensures,
    level_takes c.args.nesting c.in-Some.tighter c.infix.new.self.rest.now c.level-in-Some-infix.new.self.rest.now (term_of c.in_ok-next.next) c.in_ok-next.ensures,
  ),
)

pub level-loop-operator-preserved-then-associates_left : goal.level-loop-operator-preserved-then-associates_left
level-loop-operator-preserved-then-associates_left t c = (
  left_turned c.args.nesting c.in-Some.tighter (map pair_of c.loop-operator.lefts.items) (term_of c.loop-operator.last) (term_of c.in_ok-next.next) (term_of c.in_ok-last-2.last)
      c.loop-operator.self.rest.now c.infix.new.self.rest.now c.level-in-Some-infix.new.self.rest.now c.in-Some-infix.operator _
      c.loop-operator.invariant.0 c.in-Some-infix.ensures c.in_ok-next.ensures (sym c.associates_left.ensures ∙ c.if-associates_left.true) c.in_ok-last-2.ensures,
  omega (
    arith,
    c.loop-operator.invariant.1,
    infix_takes c.in-Some.tighter c.loop-operator.self.rest.now c.infix.new.self.rest.now c.in-Some-infix.operator c.in-Some-infix.ensures,
    level_takes c.args.nesting c.in-Some.tighter c.infix.new.self.rest.now c.level-in-Some-infix.new.self.rest.now (term_of c.in_ok-next.next) c.in_ok-next.ensures,
  ),
)

pub level-loop-operator-smaller : goal.level-loop-operator-smaller
level-loop-operator-smaller t c = omega (
  arith,
  infix_takes c.in-Some.tighter c.loop-operator.self.rest.now c.infix.new.self.rest.now c.in-Some-infix.operator c.in-Some-infix.ensures,
  level_takes c.args.nesting c.in-Some.tighter c.infix.new.self.rest.now c.level-in-Some-infix.new.self.rest.now (term_of c.in_ok-next.next) c.in_ok-next.ensures,
)

pub level-loop-operator-smaller-then-associates_left : goal.level-loop-operator-smaller-then-associates_left
level-loop-operator-smaller-then-associates_left t c = omega (
  arith,
  infix_takes c.in-Some.tighter c.loop-operator.self.rest.now c.infix.new.self.rest.now c.in-Some-infix.operator c.in-Some-infix.ensures,
  level_takes c.args.nesting c.in-Some.tighter c.infix.new.self.rest.now c.level-in-Some-infix.new.self.rest.now (term_of c.in_ok-next.next) c.in_ok-next.ensures,
)

pub arguments-loop-arguments-smaller : goal.arguments-loop-arguments-smaller
arguments-loop-arguments-smaller t c = omega (
  arith,
  after_takes Comma c.level.new.self.rest.now c.take.new.self.rest.now tt c.if-not-take.ensures,
  level_takes c.in_ok-inner.inner 5 c.loop-arguments.self.rest.now c.level.new.self.rest.now (term_of c.in_ok-next.next) c.in_ok-next.ensures,
)

pub unary-unary-requires : goal.unary-unary-requires
unary-unary-requires t c = (omega (arith, c.decreases, opened_takes c.args.nesting Tilde c.args.self.now.rest.now c.open.new.self.rest.now c.in_ok-inner.inner c.in_ok-inner.ensures), tt)

pub level-level-requires-in-Some-infix : goal.level-level-requires-in-Some-infix
level-level-requires-in-Some-infix t c =
    (omega (arith, c.decreases, c.loop-operator.invariant.1, infix_takes c.in-Some.tighter c.loop-operator.self.rest.now c.infix.new.self.rest.now c.in-Some-infix.operator c.in-Some-infix.ensures), tt)

pub level-returns : goal.level-returns
level-returns t c =
    sym c.loop-operator.invariant.0 ∙
    rw (
      level_turn c.args.nesting c.in-Some.tighter (map pair_of c.loop-operator.lefts.items) (term_of c.loop-operator.last) c.loop-operator.self.rest.now,
      c.in_default-infix.ensures.0,
      c.in_ok-nested.ensures,
      c.in_default-infix.ensures.1,
    ) refl

pub primary-level-requires : goal.primary-level-requires
primary-level-requires t c = (
  omega (
    arith,
    c.decreases,
    enclosure_takes c.args.self.now.rest.now c.enclosure.new.self.rest.now c.in-Some.enclosure c.in-Some.ensures,
    opened_takes c.args.nesting c.in-Some.enclosure.opening c.enclosure.new.self.rest.now c.open.new.self.rest.now c.in_ok-inner.inner c.in_ok-inner.ensures,
  ),
  tt,
)

pub level-returns-in_err-next : goal.level-returns-in_err-next
level-returns-in_err-next t c =
    let ts = c.args.self.now.rest.now in
    let n = c.args.nesting in
    stopped term_of c.from_residual-in_err-next.result c.in_err-next.field-0.0 c.level-in-Some-infix.new.self.rest.now (level_with (below n) c.in-Some.tighter c.infix.new.self.rest.now) (level_with (below n) c.args.level ts) c.from_residual-in_err-next.ensures.1 (λ f. sym c.loop-operator.invariant.0 ∙ level_turn n c.in-Some.tighter (map pair_of c.loop-operator.lefts.items) (term_of c.loop-operator.last) c.loop-operator.self.rest.now ∙ rw (c.in-Some-infix.ensures, f) refl) c.in_err-next.ensures

pub primary-returns-in_err-inner : goal.primary-returns-in_err-inner
primary-returns-in_err-inner t c =
    let ts = c.args.self.now.rest.now in
    let n = c.args.nesting in
    stopped term_of c.from_residual.result c.in_err-inner.field-0.0 c.open.new.self.rest.now (opened n c.in-Some.enclosure.opening c.enclosure.new.self.rest.now) (primary_with (below n) ts) c.from_residual.ensures.1 (λ f. primary_parts n ts ∙ rw (c.in-Some.ensures, f) refl) c.in_err-inner.ensures

pub primary-returns-in_err-expression : goal.primary-returns-in_err-expression
primary-returns-in_err-expression t c =
    let ts = c.args.self.now.rest.now in
    let n = c.args.nesting in
    stopped term_of c.from_residual-in_err-expression.result c.in_err-expression.field-0.0 c.level.new.self.rest.now (level_with (below c.in_ok-inner.inner) 5 c.open.new.self.rest.now) (primary_with (below n) ts) c.from_residual-in_err-expression.ensures.1 (λ f. primary_parts n ts ∙ rw (c.in-Some.ensures, c.in_ok-inner.ensures, f) refl) c.in_err-expression.ensures

pub primary-returns-in_err-expect : goal.primary-returns-in_err-expect
primary-returns-in_err-expect t c =
    let ts = c.args.self.now.rest.now in
    let n = c.args.nesting in
    stopped term_of c.from_residual-in_err-expect.result c.in_err-expect.field-0.0 c.expect.new.self.rest.now (expected c.in-Some.enclosure.closing c.level.new.self.rest.now) (primary_with (below n) ts) c.from_residual-in_err-expect.ensures.1 (λ f. primary_parts n ts ∙ rw (c.in-Some.ensures, c.in_ok-inner.ensures, c.in_ok-expression.ensures, f) refl) c.in_err-expect.ensures

pub unary-returns-in_err-inner : goal.unary-returns-in_err-inner
unary-returns-in_err-inner t c =
    let ts = c.args.self.now.rest.now in
    let n = c.args.nesting in
    stopped term_of c.from_residual.result c.in_err-inner.field-0.0 c.open.new.self.rest.now (opened n Tilde ts) (unary_with (below n) ts) c.from_residual.ensures.1 (λ f. unary_parts n ts ∙ rw (c.if-sees.ensures, f) refl) c.in_err-inner.ensures

pub unary-returns-in_err-operand : goal.unary-returns-in_err-operand
unary-returns-in_err-operand t c =
    let ts = c.args.self.now.rest.now in
    let n = c.args.nesting in
    stopped term_of c.from_residual-in_err-operand.result c.in_err-operand.field-0.0 c.unary.new.self.rest.now (unary_with (below c.in_ok-inner.inner) c.open.new.self.rest.now) (unary_with (below n) ts) c.from_residual-in_err-operand.ensures.1 (λ f. unary_parts n ts ∙ rw (c.if-sees.ensures, c.in_ok-inner.ensures, f) refl) c.in_err-operand.ensures

pub unary-returns-in_err-operand-2 : goal.unary-returns-in_err-operand-2
unfolding postfix_with
unary-returns-in_err-operand-2 t c =
    let ts = c.args.self.now.rest.now in
    let n = c.args.nesting in
    stopped term_of c.from_residual-in_err-operand-2.result c.in_err-operand-2.field-0.0 c.primary.new.self.rest.now (primary_with (below n) ts) (unary_with (below n) ts) c.from_residual-in_err-operand-2.ensures.1 (λ f. unary_parts n ts ∙ rw (c.if-sees.ensures, f) refl) c.in_err-operand-2.ensures

pub arguments-returns-in_err-next : goal.arguments-returns-in_err-next
arguments-returns-in_err-next t c =
    let ts = c.args.self.now.rest.now in
    let n = c.args.nesting in
    stopped (λ (v : Vec Expression Global). map term_of v.items) c.from_residual-in_err-next.result c.in_err-next.field-0.0 c.level.new.self.rest.now (level_with (below c.in_ok-inner.inner) 5 c.loop-arguments.self.rest.now) (arguments_with (below n) ts) c.from_residual-in_err-next.ensures.1 (λ f. sym c.loop-arguments.invariant.0 ∙ arguments_next c.in_ok-inner.inner (map term_of c.loop-arguments.arguments.items) c.loop-arguments.self.rest.now ∙ rw f refl) c.in_err-next.ensures

pub call-returns : goal.call-returns
unfolding call_with
call-returns t c = rw (c.in_ok-call.ensures, c.in_ok-name.ensures, c.in_ok-arguments.ensures) refl

pub arguments-loop-arguments-init : goal.arguments-loop-arguments-init
arguments-loop-arguments-init t c = (
  rw (c.new-arguments.ensures.items, arguments_start c.args.nesting c.args.self.now.rest.now, c.in_ok-inner.ensures) refl,
  opened_takes c.args.nesting LeftParen c.args.self.now.rest.now c.open.new.self.rest.now c.in_ok-inner.inner c.in_ok-inner.ensures,
)

pub call-arguments-requires : goal.call-arguments-requires
call-arguments-requires t c = (omega (arith, c.decreases, name_takes c.args.self.now.rest.now c.name.new.self.rest.now c.in_ok-name.name c.in_ok-name.ensures), tt)
