use Rattle.std.proofs.Common.{◌≡◌, ◌∙◌, ap, codes}
use Rattle.clap.specs.Simple.{app_of_fields}
use Rattle.clap.specs.Words.{app_of, new_app, with_rule}
use Rattle.program.specs.Words.{alone, journal, workers}
use Rattle.program.proofs.Arguments.{added, added_last}
use Rattle.program.proofs.command_line.command.Goals as goal

pub returns : goal.returns
returns c =
    let named : app_of c.about.result ≡ new_app (codes "bench") = ap app_of_fields c.about.ensures ∙ c.new.ensures.app in
    let one = with_rule (new_app (codes "bench")) journal in
    let first : app_of c.in_ok-arg.field-0 ≡ one = added (new_app (codes "bench")) journal c.about.result c.journal.result c.in_ok-arg.field-0 named c.journal.ensures.rule c.journal.ensures.local c.in_ok-arg.ensures in
    let two = with_rule one workers in
    let second : app_of c.in_ok-arg-2.field-0 ≡ two = added one workers c.in_ok-arg.field-0 c.workers.result c.in_ok-arg-2.field-0 first c.workers.ensures.rule c.workers.ensures.local c.in_ok-arg-2.ensures in
    added_last two alone c.in_ok-arg-2.field-0 c.alone.result c.arg-3.result second c.alone.ensures.rule c.alone.ensures.local c.arg-3.ensures
