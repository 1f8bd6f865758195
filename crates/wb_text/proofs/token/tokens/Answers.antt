use Rattle.std.proofs.Common.{◌≡◌, ◌++◌, sym, ap, ◌∙◌, arith}
use Rattle.std.proofs.lemmas.Bool.{eqb-true}
use Rattle.std.proofs.lemmas.List.{nil_from_length}
use Rattle.std.proofs.lemmas.Result.{err_from_is_err_and}
use Rattle.wb_text.specs.declared.fault.TextFault.TheVariants.{TooLong}
use Rattle.wb_text.specs.Faults.{out_of_memory, too_long, in_comment, at_token}
use Rattle.wb_text.proofs.Gaps.{gap_length}
use Rattle.wb_text.proofs.Heads.{head_cause, head_short}
use Rattle.wb_text.proofs.Lexemes.{token_not_long}
use Rattle.wb_text.proofs.Texts.{nonempty, range_length}
use Rattle.wb_text.proofs.Lists.{scanned_first, scanned_push, scanned_list, scanned_none_open, scanned_none_here, scanned_tail, scanned_within, list_once, tail_length, token_length}
use Rattle.wb_text.proofs.token.tokens.Goals as goal

pub returns-then-text-gt-MOST_BYTES-clause-cause : goal.returns-then-text-gt-MOST_BYTES-clause-cause
returns-then-text-gt-MOST_BYTES-clause-cause c = too_long c.if-text-gt-MOST_BYTES.true

pub returns-in_err-rest-clause-too_long : goal.returns-in_err-rest-clause-too_long
returns-in_err-rest-clause-too_long c =
    let p = err_from_is_err_and c.from_residual.result c.from_residual.ensures.1 in (
      λ e.
          let was = p.1 in
          let is = p.2 in
          let same : c.in_err-rest.field-0.0 ≡ TooLong = cc in
          absurd (head_short c.in_err-rest.field-0.0 c.in_err-rest.ensures.cause same),
      λ long. absurd (omega arith),
    )

pub returns-in_err-rest-clause-cause : goal.returns-in_err-rest-clause-cause
returns-in_err-rest-clause-cause c =
    let p = err_from_is_err_and c.from_residual.result c.from_residual.ensures.1 in
    rw (p.1, p.2) (head_cause c.in_err-rest.field-0.0 c.in_err-rest.ensures.cause)

pub loop-tokens-init : goal.loop-tokens-init
loop-tokens-init c =
    let h = c.in_ok-rest.ensures.head in
    scanned_first c.if-text-gt-MOST_BYTES.false h.0 (h.2 ∙ ap (λ l. l ++ h.0) c.new-tokens.ensures.items) h.1

pub returns-in_err-next-clause-only : goal.returns-in_err-next-clause-only
returns-in_err-next-clause-only c =
    let found = c.in_err-next.ensures.open.1 in
    λ ts l. absurd (scanned_none_open c.loop-tokens.invariant found.1 found.2 l)

pub returns-in_err-next-clause-cause : goal.returns-in_err-next-clause-cause
returns-in_err-next-clause-cause c =
    let p = err_from_is_err_and c.from_residual-in_err-next.result c.from_residual-in_err-next.ensures.1 in
    let found = c.in_err-next.ensures.open.1 in
    rw (p.1, p.2, c.in_err-next.ensures.open.0) (in_comment c.loop-tokens.invariant.head c.loop-tokens.invariant.tokens found.1 found.2)

pub returns-then-is_empty-clause-within : goal.returns-then-is_empty-clause-within
returns-then-is_empty-clause-within c = scanned_within c.loop-tokens.invariant

pub returns-then-is_empty-clause-only : goal.returns-then-is_empty-clause-only
returns-then-is_empty-clause-only c =
    let void = nil_from_length c.in_ok-next.next.now (eqb-true _ 0 (sym c.is_empty.ensures ∙ c.if-is_empty.true)) in
    λ ts l. list_once l (scanned_list c.loop-tokens.invariant c.in_ok-next.ensures.gap void)

pub returns-in_err-kind-clause-only : goal.returns-in_err-kind-clause-only
returns-in_err-kind-clause-only c =
    λ ts l. absurd (scanned_none_here c.loop-tokens.invariant c.in_ok-next.ensures.gap c.in_ok-next.ensures.all (nonempty _ (sym c.is_empty.ensures ∙ c.if-is_empty.false)) c.in_err-kind.ensures.none l)

pub returns-in_err-kind-clause-too_long : goal.returns-in_err-kind-clause-too_long
returns-in_err-kind-clause-too_long c =
    let p = err_from_is_err_and c.from_residual-in_err-kind.result c.from_residual-in_err-kind.ensures.1 in (
      λ e.
          let was = p.1 in
          let is = p.2 in
          let same : c.in_err-kind.field-0.0 ≡ TooLong = cc in
          absurd (token_not_long c.in_err-kind.ensures.cause same),
      λ long. absurd (omega arith),
    )

pub returns-in_err-kind-clause-cause : goal.returns-in_err-kind-clause-cause
returns-in_err-kind-clause-cause c =
    let p = err_from_is_err_and c.from_residual-in_err-kind.result c.from_residual-in_err-kind.ensures.1 in
    rw (p.1, p.2) (at_token c.loop-tokens.invariant.head c.loop-tokens.invariant.tokens c.in_ok-next.ensures.gap c.in_ok-next.ensures.all c.in_err-kind.ensures.cause)

pub overflow_sub-from : goal.overflow_sub-from
overflow_sub-from c =
    let text = c.args.text.now in
    let rest = c.loop-tokens.rest.now in
    omega (arith, tail_length text rest (scanned_tail c.loop-tokens.invariant), gap_length c.in_ok-next.ensures.gap)

pub loop-tokens-smaller : goal.loop-tokens-smaller
loop-tokens-smaller c =
    omega (arith, range_length c.in_ok-kind.len c.in_ok-next.next.now, gap_length c.in_ok-next.ensures.gap, token_length c.in_ok-kind.ensures.token.1)

pub loop-tokens-preserved : goal.loop-tokens-preserved
loop-tokens-preserved c =
    scanned_push c.in_ok-next.next.now c.in_ok-kind.kind c.in_ok-kind.len c.loop-tokens.invariant c.in_ok-next.ensures.gap c.in_ok-kind.ensures.token.0 c.in_ok-kind.ensures.token.1 c.in_ok-push.ensures.items

pub returns-in_err-push-clause-cause : goal.returns-in_err-push-clause-cause
returns-in_err-push-clause-cause c =
    let p = err_from_is_err_and c.from_residual-in_err-push.result c.from_residual-in_err-push.ensures.1 in
    rw (p.1, p.2) out_of_memory
