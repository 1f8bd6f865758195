use Rattle.std.proofs.Common.{◌≡◌, ◌≤◌, ◌<◌, ◌+◌, [], length, sym, ap, subst, inr, arith, ◌∙◌, Ok, Err, codes}
use Rattle.std.specs.Prelude.{OnOk}
use Rattle.scripts.specs.Lines.{ahead, Grows, IsNextLine}
use Rattle.scripts.specs.declared.reading_fault.ScriptFault.TheVariants as faults
use Rattle.scripts.proofs.Counted.{more_ahead, told_on}
use Rattle.scripts.proofs.Taken.{fed_line, last_line, too_long}
use Rattle.scripts.proofs.lines.Lines.next.Goals as goal

pub returns-then-self-ge-MOST_LINES-clause-read : goal.returns-then-self-ge-MOST_LINES-clause-read
returns-then-self-ge-MOST_LINES-clause-read g c _ =
    let full : 1000000 ≤ c.args.self.now.count = omega (arith, c.if-self-ge-MOST_LINES.true, c.is_at_end.ensures.count) in
    let some = c.is_at_end.ensures.more (c.in_ok-is_at_end.was ∙ ap Ok c.if-branch.false) in
    inr (full, more_ahead c.args.self.now.block c.is_at_end.new.self.block (g.R.Source.left c.args.reader.now) (g.R.Source.left c.is_at_end.new.reader) some c.is_at_end.ensures.kept)

pub returns-in_err-read_line-clause-line : goal.returns-in_err-read_line-clause-line
returns-in_err-read_line-clause-line g c n e =
    let before = ahead c.args.self.now.block (g.R.Source.left c.args.reader.now) in
    let filled = ahead c.is_at_end.new.self.block (g.R.Source.left c.is_at_end.new.reader) in
    let raw = c.read_line.new.self.line.items in
    let is = c.in_err-read_line.was ∙ ap Err (told_on c.from_residual-in_err-read_line.result c.in_err-read_line.field-0.0 (faults.BadLine n) c.from_residual-in_err-read_line.ensures.1 e) in
    let long = c.read_line.ensures.long n is in
    let room : c.args.self.now.count < 1000000 = omega (arith, c.if-self-ge-MOST_LINES.false, c.is_at_end.ensures.count) in
    let number : n ≡ c.args.self.now.count + 1 = omega (arith, c.read_line.ensures.line n is, c.is_at_end.ensures.count) in
    (number, room, too_long before filled long.0 raw long.1 c.is_at_end.ensures.kept (subst (λ old. Grows filled long.0 old raw long.1) c.clear.ensures.items long.2) long.3)

pub returns-then-branch-2-clause-next : goal.returns-then-branch-2-clause-next
returns-then-branch-2-clause-next g c _ =
    let before = ahead c.args.self.now.block (g.R.Source.left c.args.reader.now) in
    let filled = ahead c.is_at_end.new.self.block (g.R.Source.left c.is_at_end.new.reader) in
    let left = g.R.Source.left c.read_line.new.reader in
    let raw = c.read_line.new.self.line.items in
    let line = c.trim.new.self.line.items in
    let gathered = subst (λ old. Grows filled (ahead c.read_line.new.self.block left) old raw (codes "\n")) c.clear.ensures.items (c.read_line.ensures.fed (c.in_ok-read_line.was ∙ ap Ok c.if-branch-2.true)) in
    let none : length c.clear.new.self.items ≤ 65536 = omega (arith, ap length c.clear.ensures.items) in
    let short : length raw ≤ 65536 = subst (λ r. OnOk r (length c.clear.new.self.items ≤ 65536 → length raw ≤ 65536)) c.in_ok-read_line.was c.read_line.ensures.short none in
    let next = fed_line before filled (ahead c.read_line.new.self.block left) raw line c.is_at_end.ensures.kept short gathered c.trim.ensures.trimmed in
    subst (λ block. IsNextLine before (ahead block left) line) (sym c.trim.ensures.block) next

pub returns-else-branch-2-clause-next : goal.returns-else-branch-2-clause-next
returns-else-branch-2-clause-next g c _ =
    let before = ahead c.args.self.now.block (g.R.Source.left c.args.reader.now) in
    let filled = ahead c.is_at_end.new.self.block (g.R.Source.left c.is_at_end.new.reader) in
    let after = ahead c.read_line.new.self.block (g.R.Source.left c.read_line.new.reader) in
    let raw = c.read_line.new.self.line.items in
    let some = c.is_at_end.ensures.more (c.in_ok-is_at_end.was ∙ ap Ok c.if-branch.false) in
    let more = more_ahead c.args.self.now.block c.is_at_end.new.self.block (g.R.Source.left c.args.reader.now) (g.R.Source.left c.is_at_end.new.reader) some c.is_at_end.ensures.kept in
    let none : length c.clear.new.self.items ≤ 65536 = omega (arith, ap length c.clear.ensures.items) in
    let short : length raw ≤ 65536 = subst (λ r. OnOk r (length c.clear.new.self.items ≤ 65536 → length raw ≤ 65536)) c.in_ok-read_line.was c.read_line.ensures.short none in
    let ended = c.read_line.ensures.last (c.in_ok-read_line.was ∙ ap Ok c.if-branch-2.false) in
    last_line before filled after raw more c.is_at_end.ensures.kept short (subst (λ old. Grows filled after old raw []) c.clear.ensures.items ended.0) ended.1
