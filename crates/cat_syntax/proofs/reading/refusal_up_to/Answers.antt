use Rattle.std.proofs.Common.{◌<◌, ◌≤◌, ◌-◌, length, arith, rules}
use Rattle.cat_syntax.proofs.Refusals.{among, within_of, large_behind, large_read, shown_of}
use Rattle.cat_syntax.proofs.reading.refusal_up_to.Goals as goal

pub refusal-requires-clause-first : goal.refusal-requires-clause-first
refusal-requires-clause-first c = within_of c.args.symbols.now c.args.place c.saturating_sub-stopped.result c.requires.excess (omega (arith, c.if-stopped-place.false))

pub returns-then-stopped-place : goal.returns-then-stopped-place
returns-then-stopped-place c =
    let later : c.args.place < c.min-shown.result - length c.file.new.self.rest.now = omega (arith, c.if-stopped-place.true, c.saturating_sub-stopped.ensures) in (
      c.requires.many,
      large_behind c.args.symbols.now c.file.new.self.rest.now c.min-shown.result c.args.place c.in-Err.fault (omega (arith, c.min-shown.ensures))
          (shown_of c.args.symbols.now c.min-shown.result c.args.place c.min-shown.ensures) c.requires.excess (search rules) c.in-Err.ensures later,
    )

pub returns-in-Ok : goal.returns-in-Ok
returns-in-Ok c = (
  c.requires.many,
  large_read c.args.symbols.now c.file.new.self.rest.now c.min-shown.result c.args.place c.in-Ok.field-0
      (shown_of c.args.symbols.now c.min-shown.result c.args.place c.min-shown.ensures) c.requires.excess c.in-Ok.ensures,
)

pub refusal-requires-clause-stops : goal.refusal-requires-clause-stops
refusal-requires-clause-stops c =
    let before : c.saturating_sub-stopped.result ≤ c.args.place = omega arith in
    among c.args.symbols.now c.file.new.self.rest.now c.min-shown.result c.args.place c.saturating_sub-stopped.result c.in-Err.fault (omega (arith, c.min-shown.ensures))
    (shown_of c.args.symbols.now c.min-shown.result c.args.place c.min-shown.ensures) c.saturating_sub-stopped.ensures before c.in-Err.ensures
